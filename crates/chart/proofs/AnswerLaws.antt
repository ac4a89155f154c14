-- What Chart and Ends answer where no check refuses: the computed rounds, facts, rows and depths.
use Rattle.std.proofs.Common.{Ok, Result}
use Rattle.refusals.specs.Check.{nothing_wrong}
use Rattle.refusals.specs.declared.Refusal.{Refusal}
use Prim.Native.Nat.{ℕ, suc, ◌^◌, ◌<◌}
use mathlib.Core.Path.{◌≡◌, sym, ap, ◌∙◌}
use mathlib.Core.Logic.{◌↔◌}
use mathlib.Core.Bool.{cond}
use mathlib.Core.List.{List}
use native.Mathlib.Decide.{dec_lt}
use native.Mathlib.Omega.{arith}
use lib.ListN.{length, get_or}
use Rattle.refusals.specs.Order.{reported}
use Rattle.positions.specs.Member.{digit, Member}
use Rattle.positions.specs.Count.{count_below}
use Rattle.positions.specs.BothEnds.{BothEnds}
use Rattle.positions.proofs.Digits.{digit_above}
use Rattle.positions.proofs.Members.{same_members}
use Rattle.derivation.specs.Grammar.{Grammar, Proper}
use Rattle.derivation.specs.Fact.{Fact}
use Rattle.derivation.specs.computed.Listing.{listed}
use Rattle.derivation.specs.computed.Facts.{facts}
use Rattle.derivation.specs.computed.FactCount.{fact_count}
use Rattle.derivation.specs.computed.RoundsOf.{rounds_of}
use Rattle.derivation.proofs.Table.{at_listed}
use Rattle.derivation.proofs.Facts.{fact_count_lem}
use Rattle.derivation.proofs.RoundsOf.{rounds_are}
use Rattle.checks.specs.declared.Asked.TheVariants.{Nothing, Start}
use Rattle.checks.proofs.Laws.{not_both}
use Rattle.grammar.specs.declared.reading.Sections.{Sections}
use Rattle.grammar.specs.Value.{grammar_of}
use Rattle.grammar.proofs.Encoded.{sections_proper}
use Rattle.filling.specs.Filled.{WorkFilled}
use Rattle.chart.specs.declared.ChartAnswer.{ChartAnswer}
use Rattle.chart.specs.declared.EndsAnswer.{EndsAnswer}
use Rattle.chart.specs.Checks.{chart_checks, ends_checks}
use Rattle.chart.specs.ChartOutcome.{ChartOutcome, turned_down, filled}
use Rattle.chart.specs.EndsOutcome.{EndsOutcome, found}
use Rattle.chart.specs.EndsOutcome as ends_outcome
use Rattle.chart.proofs.CheckLaws.{Passes, sections, grammar_is, early_passed}
use Rattle.chart.proofs.CountLaws.{digit_is, digit_past}
use Rattle.chart.proofs.Unique.{chart_told_lem, ends_told_lem}

-- a row that shows the ends of (A, i) is the number whose digits are the computed facts
pub row_is :
    (G : Grammar) (line : List ℕ) → Proper G → (A i row : ℕ) → ((j : ℕ) → Member row j ↔ Fact G line A i j) → (x : ℕ) → x < 2 ^ suc (length line) →
    listed (λ j. cond (facts G line A i j) 1 0) 0 (suc (length line)) ≡ listed (digit x) 0 (suc (length line)) → row ≡ x
row_is G line proper A i row shows x small same = same_members row x (λ j. let e = equal j (dec_lt j (suc (length line))) in (λ m. sym e ∙ m, λ m. e ∙ m))
  where
    equal : (j : ℕ) → Dec (j < suc (length line)) → digit row j ≡ digit x j
    equal j (yes l) =
        digit_is G line proper A i row shows j
        ∙ sym (at_listed (λ j. cond (facts G line A i j) 1 0) 0 (suc (length line)) j l)
        ∙ ap (λ (digits : List ℕ). get_or digits j 0) same
        ∙ at_listed (digit x) 0 (suc (length line)) j l
    equal j (no n) = digit_past G line proper A i row shows j (omega arith) ∙ sym (digit_above x (suc (length line)) j small (omega arith))

module _ (g line words depths : List ℕ) (s : Sections) where
  pub chart_answered : Passes g line Nothing (length words) (length depths) s → {answer : Result ChartAnswer Refusal} {words' depths' : List ℕ} → ChartOutcome g line words depths answer words' depths' →
      (answer ≡ Ok (record { rounds = rounds_of (grammar_of g s) line; facts = fact_count (grammar_of g s) line })) × WorkFilled (grammar_of g s) line words depths words' depths'
  chart_answered passes (turned_down p a w d) = absurd (not_both p passed)
    where
      passed : reported (chart_checks g line words depths) ≡ nothing_wrong
      passed = rw (early_passed words depths nothing_wrong nothing_wrong passes)
  chart_answered passes {answer} (filled p t r f y) =
      let same = grammar_is passes in
      let rounds = rounds_are (grammar_of g s) line (sections_proper g s (sections passes)) (rw same at r) in
      let facts = fact_count_lem (sections_proper g s (sections passes)) (rw same at f) in
      (chart_told_lem answer t ∙ rw (rounds, facts), rw same at y)

  pub ends_answered : (A i : ℕ) → Passes g line (Start A i) (length words) (length depths) s →
      {answer : Result EndsAnswer Refusal} {words' depths' : List ℕ} → EndsOutcome g line A i words depths answer words' depths' →
      (row : ℕ) × (smallest : ℕ) × (largest : ℕ) × (answer ≡ Ok (record { row = row; ends = count_below 64 row; smallest = smallest; largest = largest }))
      × ((j : ℕ) → Member row j ↔ Fact (grammar_of g s) line A i j) × BothEnds row smallest largest
  ends_answered A i passes (ends_outcome.turned_down p a w d) = absurd (not_both p passed)
    where
      passed : reported (ends_checks g line A i words depths) ≡ nothing_wrong
      passed = rw (early_passed words depths nothing_wrong nothing_wrong passes)
  ends_answered A i passes {answer} (found {row = row} {smallest = smallest} {largest = largest} p t m c b y) =
      (row, smallest, largest, ends_told_lem answer t ∙ rw c, rw (grammar_is passes) at m, b)
