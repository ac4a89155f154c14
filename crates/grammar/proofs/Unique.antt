-- Where a contract of this crate is a relation, two outcomes that it allows are equal.
use Prim.Native.Nat.{ℕ, ◌≤◌}
use mathlib.Core.Path.{◌≡◌, sym, ◌∙◌}
use mathlib.Core.List.{List}
use native.Mathlib.Nat.{lt_of_not-le}
use native.Mathlib.Decide.{dec_le}
use lib.ListN.{get_or}
use lib.Seq.{ext_get_or}
use Rattle.grammar.specs.declared.reading.Sections.{Sections}
use Rattle.grammar.specs.inner.Starts.{Starts}

-- there is one table of where the rules stand
pub starts_unique : (g : List ℕ) (s : Sections) (a b : List ℕ) → Starts g s a → Starts g s b → a ≡ b
starts_unique g s a b x y = ext_get_or 0 a b (x.long ∙ sym y.long) (λ p h. same p (dec_le s.rules p))
  where
    same : (p : ℕ) → Dec (s.rules ≤ p) → get_or a p 0 ≡ get_or b p 0
    same p (yes h) = x.rest p h ∙ sym (y.rest p h)
    same p (no h) = let l = lt_of_not-le h in (x.found p l).place ∙ sym (y.found p l).place
