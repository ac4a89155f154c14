-- What is found, in the textbook's words: a category rewrites to the tokens of a stretch.
use Rattle.std.specs.Prelude.{ℕ, ◌+◌, ◌≤◌, ◌<◌, ◌≡◌, ◌↔◌, length, get_or}
use mathlib.Core.List.{List, [], ◌∷◌, Memᴰ}
use Rattle.derivation.specs.Grammar.{Grammar}
use Rattle.derivation.specs.Rewriting.{Rewrites, stretch}
use Rattle.derivation.specs.Ascending.{Ascending}
use Rattle.derivation.specs.FactList.{Span, span_numbers}

-- the category A rewrites to the tokens of i..j
abbrev pub Derives : Grammar → List ℕ → (A i j : ℕ) → Type 0
Derives G line A i j = (i ≤ j) × (j ≤ length line) × Rewrites G ((128 + A) ∷ []) (stretch line i j)

-- l lists all (A, i, j) such that A rewrites to the tokens of i..j, ascending, each once
pub record DerivedAre (G : Grammar) (line : List ℕ) (l : List Span) : Type 0 where
  pub each : (s : Span) → Memᴰ s l ↔ Derives G line s.category s.start s.end
  pub ascending : Ascending span_numbers l

-- the class of token t is flagged, or a secret category rewrites to a stretch that covers it
pub data IsSecret (G : Grammar) (line : List ℕ) (t : ℕ) : Type 0 where
  flagged : get_or G.classes (get_or line t 0) 0 ≡ 1 → IsSecret G line t
  covered : (A i j : ℕ) → get_or G.categories A 0 ≡ 1 → Derives G line A i j → i ≤ t → t < j → IsSecret G line t

-- a mark of token t is 1 where it is secret, and 0 where it is not
pub record MarksToken (G : Grammar) (line : List ℕ) (t mark : ℕ) : Type 0 where
  pub one : (mark ≡ 1) ↔ IsSecret G line t
  pub zero : (mark ≡ 0) ↔ ¬ IsSecret G line t
