-- The outcomes of Marks, from what the checks, the filling and the marking gave.
use Rattle.std.proofs.Common.{Err, Ok}
use Rattle.refusals.specs.Check.{nothing_wrong}
use Prim.Native.Nat.{ℕ, ◌≤◌, ◌<◌}
use mathlib.Core.Path.{◌≡◌, refl}
use mathlib.Core.List.{List}
use lib.ListN.{length}
use borrow.Author.Tests.{lt-ltb, le-ltb}
use Rattle.refusals.specs.declared.Refusal.{Refusal}
use Rattle.refusals.specs.declared.Refusal.TheVariants.{MarksTooSmall}
use Rattle.refusals.specs.Order.{early}
use Rattle.checks.specs.declared.Asked.TheVariants.{Nothing}
use Rattle.grammar.specs.declared.reading.Sections.{Sections}
use Rattle.grammar.specs.Value.{grammar_of}
use Rattle.filling.specs.Filled.{WorkFilled}
use Rattle.chart.proofs.CheckLaws.{Passes, grammar_is, early_passed}
use Rattle.marks.specs.Marks.{MarksAre}
use Rattle.marks.specs.Outcome.{marks_room, marks_checks, MarksOutcome, turned_down, no_room, answered}

module _ (g line words depths marks : List ℕ) where
  pub marks_turned : (refusal : Refusal) → early (marks_checks g line words depths marks) ≡ Err refusal → MarksOutcome g line words depths marks (Err refusal) words depths marks
  marks_turned refusal e = turned_down {refusal = refusal} e refl refl refl refl

  module _ (s : Sections) (passes : Passes g line Nothing (length words) (length depths) s) where
    passed : early (marks_checks g line words depths marks) ≡ nothing_wrong
    passed = early_passed words depths nothing_wrong (marks_room line marks) passes

    pub marks_no_room : (words' depths' : List ℕ) → length marks < length line → WorkFilled (grammar_of g s) line words depths words' depths' →
        MarksOutcome g line words depths marks (Err (MarksTooSmall (length line))) words' depths' marks
    marks_no_room words' depths' l filled =
        no_room {refusal = MarksTooSmall (length line)} passed (rw (lt-ltb (length marks) (length line) l)) refl (rw (grammar_is passes) filled) refl

    pub marks_answered : (secret : ℕ) (words' depths' marks' : List ℕ) → length line ≤ length marks → WorkFilled (grammar_of g s) line words depths words' depths' →
        MarksAre (grammar_of g s) line marks marks' secret → MarksOutcome g line words depths marks (Ok secret) words' depths' marks'
    marks_answered secret words' depths' marks' l filled written =
        let same = grammar_is passes in
        answered {secret = secret} (rw (passed, le-ltb (length marks) (length line) l)) refl (rw same filled) (rw same written)
