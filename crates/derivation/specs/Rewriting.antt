-- Derivation in the textbook sense: a category is replaced by the right side of one of its rules, again and again.
use Rattle.std.specs.Prelude.{ℕ, ◌+◌, ◌<◌, ◌≡◌, List, ◌∷◌, ◌++◌, length, get_or}
use Rattle.std.proofs.Math.Seq.{slice}
use Rattle.derivation.specs.Grammar.{Grammar, IsRule}

-- symbols v are u with one category A replaced by the right side of rule p, a rule of A
pub record Step (g : Grammar) (u v : List ℕ) : Type 0 where
  pub before : List ℕ
  pub after : List ℕ
  pub right : List ℕ
  pub p : ℕ
  pub A : ℕ
  pub rule : IsRule g p A right
  pub from : u ≡ before ++ ((128 + A) ∷ after)
  pub to : v ≡ before ++ (right ++ after)

-- symbols u become symbols x in finitely many steps
pub data Rewrites (g : Grammar) : List ℕ → List ℕ → Type 0 where
  done : {u : List ℕ} → Rewrites g u u
  step : {u v x : List ℕ} → Step g u v → Rewrites g v x → Rewrites g u x

-- the tokens of i..j
abbrev pub stretch : List ℕ → ℕ → ℕ → List ℕ
stretch w i j = slice i j w

-- every token of the line is a class
pub record Tokens (w : List ℕ) : Type 0 where
  pub below : (t : ℕ) → t < length w → get_or w t 0 < 128
