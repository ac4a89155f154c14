-- The check of a question's numbers: the category, the start and the end. The lowest place is reported.
use Rattle.std.specs.Prelude.{ℕ, Bool, cond, leb, ltb, Err}
use Rattle.refusals.specs.declared.Refusal.{Refusal}
use Rattle.refusals.specs.declared.Refusal.TheVariants.{CategoryOutside, StartOutside, EndOutside}
use Rattle.refusals.specs.Check.{Check, nothing_wrong}
use Rattle.refusals.specs.Order.{and_then}
use Rattle.checks.specs.declared.Asked.{Asked}
use Rattle.checks.specs.declared.Asked.TheVariants.{Nothing, Start, Span}

-- a refusal where the fault is there
abbrev pub refuse_if : Bool → Refusal → Check
refuse_if fault refusal = cond fault (Err refusal) nothing_wrong

-- category A of `categories`, and a start on a line of n tokens
unfoldable pub start_check : ℕ → ℕ → ℕ → ℕ → Check
start_check categories n A i = and_then (refuse_if (leb categories A) CategoryOutside) (refuse_if (ltb n i) StartOutside)

-- and an end on the line, not before the start
unfoldable pub span_check : ℕ → ℕ → ℕ → ℕ → ℕ → Check
span_check categories n A i j =
    and_then (start_check categories n A i)
    (and_then (refuse_if (ltb n j) EndOutside) (refuse_if (ltb j i) EndOutside))

-- the numbers that a question asks with, if any
abbrev pub asked_check : ℕ → ℕ → Asked → Check
asked_check categories n Nothing = nothing_wrong
asked_check categories n (Start A i) = start_check categories n A i
asked_check categories n (Span A i j) = span_check categories n A i j
