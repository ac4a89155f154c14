-- Secret tokens of a line w.
use Rattle.std.specs.Prelude.{ℕ, ◌≤◌, ◌<◌, ◌≡◌, List, length, get_or}
use Rattle.derivation.specs.Grammar.{Grammar}
use Rattle.derivation.specs.Fact.{Fact}

-- token t of the line is secret: its class flag is 1, or a secret category has a fact (A, i, j) with i ≤ t < j
pub data Secret (g : Grammar) (w : List ℕ) (t : ℕ) : Type 0 where
  by_class : t < length w → get_or g.classes (get_or w t 0) 0 ≡ 1 → Secret g w t
  by_fact : {A i j : ℕ} → get_or g.categories A 0 ≡ 1 → Fact g w A i j → i ≤ t → t < j → Secret g w t
