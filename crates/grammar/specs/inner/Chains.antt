-- Chains of rule numbers in a table: an entry is 0 at a chain's end, and else one more than the number that comes next.
use Rattle.std.specs.Prelude.{ℕ, suc, ◌≤◌, ◌≡◌, List, get_or}

-- number q is on the chain from an entry on; `before` has the entry after each number
pub data OnChain (before : List ℕ) : ℕ → ℕ → Type 0 where
  next : {q : ℕ} → OnChain before (suc q) q
  later : {p q : ℕ} → OnChain before (get_or before p 0) q → OnChain before (suc p) q

-- a number on the chain from an entry on has this word
abbrev pub WordOnChain : List ℕ → List ℕ → ℕ → ℕ → Type 0
WordOnChain words before entry word = (q : ℕ) × OnChain before entry q × (get_or words q 0 ≡ word)

-- each chain falls
abbrev pub Falling : List ℕ → Type 0
Falling before = (q : ℕ) → get_or before q 0 ≤ q
