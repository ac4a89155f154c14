-- One round over the rules: which of them are run, and what the rows of `next` gain.
use Rattle.std.specs.Prelude.{ℕ, suc, ◌+◌, ◌*◌, ◌≤◌, ◌<◌, ◌≡◌, ◌↔◌, ◌⊎◌, List, length, get_or}
use Rattle.std.specs.Int.Bits.{bit_and}
use Rattle.positions.specs.Member.{Member}
use Rattle.derivation.specs.Grammar.{Grammar, IsRule}
use Rattle.derivation.specs.inner.Within.{Within, ChildrenWithin}
use Rattle.filling.specs.inner.Places.{Places}
use Rattle.filling.specs.inner.Holds.{HoldsAfter}

-- a rule with this mask is run: the mask and what has changed share something
abbrev pub Run : ℕ → ℕ → Type 0
Run mask changed = bit_and mask changed ≡ 0 → ⊥

-- a rule of A that is run derives i..j within height h + 1
pub record ByRule (G : Grammar) (line : List ℕ) (h : ℕ) (masks : List ℕ) (changed A i j : ℕ) : Type 0 where
  pub p : ℕ
  pub symbols : List ℕ
  pub is_rule : IsRule G p A symbols
  pub run : Run (get_or masks p 0) changed
  pub derives : ChildrenWithin G line h symbols i j

-- each row gains what the rules that are run derive over any chart that these words are
pub record RulesApplied (G : Grammar) (masks : List ℕ) (changed : ℕ) (words places : List ℕ) (width : ℕ) (old new : List ℕ) : Type 0 where
  pub long : length new ≡ length old
  pub gains :
      (line : List ℕ) (h : ℕ) → width ≡ length line + 1 → Places line places → HoldsAfter G line h words →
      (A i : ℕ) → A < length G.categories → i ≤ length line → (j : ℕ) →
      Member (get_or new (A * width + i) 0) j ↔ (Member (get_or old (A * width + i) 0) j ⊎ ByRule G line h masks changed A i j)

-- category A has a fact of depth h + 1
abbrev pub Gain : Grammar → List ℕ → ℕ → ℕ → Type 0
Gain G line h A = (i : ℕ) × (j : ℕ) × Within G line (suc h) A i j × (Within G line h A i j → ⊥)

-- what has changed after h rounds: at the start 32 alone, which the masks of rules without categories have;
-- after a round the categories that have a fact of its depth
pub data Changed (G : Grammar) (line : List ℕ) : ℕ → ℕ → Type 0 where
  start : {changed : ℕ} → ((A : ℕ) → Member changed A ↔ (A ≡ 32)) → Changed G line 0 changed
  after : {h changed : ℕ} → ((A : ℕ) → Member changed A ↔ ((A < length G.categories) × Gain G line h A)) → Changed G line (suc h) changed
