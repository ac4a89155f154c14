-- Derivation trees of a line w, and their heights. A value of these families is finite.
use Rattle.std.specs.Prelude.{ℕ, suc, ◌-◌, ◌≤◌, ◌<◌, max, ◌≡◌, List, [], ◌∷◌, length, get_or}
use Rattle.derivation.specs.Grammar.{Grammar, IsRule}

mutual
  -- a category A derives i..j: some rule of A has symbols that derive it
  pub data Tree (g : Grammar) (w : List ℕ) : ℕ → ℕ → ℕ → Type 0 where
    node : {A i j : ℕ} {s : List ℕ} (p : ℕ) → IsRule g p A s → Children g w s i j → Tree g w A i j

  -- one symbol derives i..j: a class that token i has derives i..i+1, and a category what it derives
  pub data Child (g : Grammar) (w : List ℕ) : ℕ → ℕ → ℕ → Type 0 where
    token : {c i : ℕ} → c < 128 → i < length w → get_or w i 0 ≡ c → Child g w c i (suc i)
    category : {c i j : ℕ} → 128 ≤ c → Tree g w (c - 128) i j → Child g w c i j

  -- symbols derive consecutive stretches, the first starting at i, the last ending at j;
  -- no symbols derive i..i, for every i from 0 to n
  pub data Children (g : Grammar) (w : List ℕ) : List ℕ → ℕ → ℕ → Type 0 where
    stop : {i : ℕ} → i ≤ length w → Children g w [] i i
    then : {c i m j : ℕ} {s : List ℕ} → Child g w c i m → Children g w s m j → Children g w (c ∷ s) i j

-- the largest number of categories on a path from root to leaf; tokens count 0
unfoldable mutual
  pub height : {g : Grammar} {w : List ℕ} {A i j : ℕ} → Tree g w A i j → ℕ
  height (node p r cs) = suc (children_height cs)

  pub child_height : {g : Grammar} {w : List ℕ} {c i j : ℕ} → Child g w c i j → ℕ
  child_height (token k h e) = 0
  child_height (category k t) = height t

  pub children_height : {g : Grammar} {w : List ℕ} {s : List ℕ} {i j : ℕ} → Children g w s i j → ℕ
  children_height (stop h) = 0
  children_height (then c cs) = max (child_height c) (children_height cs)
