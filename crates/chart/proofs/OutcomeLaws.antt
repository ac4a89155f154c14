-- The outcomes of Chart and Ends, from what the checks and the filling gave.
use Rattle.std.proofs.Common.{Err, Ok}
use Rattle.refusals.specs.Check.{nothing_wrong}
use Prim.Native.Nat.{ℕ, ◌+◌, ◌*◌, ◌≤◌, ◌<◌}
use mathlib.Core.Path.{◌≡◌, refl, sym, ap, ◌∙◌}
use mathlib.Core.List.{List, [], ◌∷◌}
use lib.ListN.{length, get_or}
use Rattle.refusals.specs.declared.Refusal.{Refusal}
use Rattle.refusals.specs.Order.{early}
use Rattle.refusals.specs.Told as told
use Rattle.positions.specs.Count.{count_below}
use Rattle.positions.specs.BothEnds.{BothEnds}
use Rattle.derivation.specs.computed.FactCount.{total}
use Rattle.derivation.specs.computed.Facts.{fact_list}
use Rattle.derivation.proofs.Facts.{length_fact_list, fact_list_is}
use Rattle.checks.specs.declared.Asked.TheVariants.{Nothing, Start}
use Rattle.checks.specs.Memory.{chart_size}
use Rattle.grammar.specs.declared.reading.Sections.{Sections}
use Rattle.grammar.specs.Value.{grammar_of}
use Rattle.grammar.proofs.Encoded.{category_count_lem, sections_proper}
use Rattle.filling.specs.Filled.{WorkFilled, Filled}
use Rattle.chart.specs.Checks.{chart_checks, ends_checks}
use Rattle.chart.specs.ChartOutcome.{ChartOutcome}
use Rattle.chart.specs.ChartOutcome as chart-outcome
use Rattle.chart.specs.EndsOutcome.{EndsOutcome}
use Rattle.chart.specs.EndsOutcome as ends_outcome
use Rattle.chart.proofs.CountLaws.{facts_counted}
use Rattle.chart.proofs.CheckLaws.{Passes, sections, line_is, grammar_is, early_passed}

module _ (g line words depths : List ℕ) where
  pub chart_turned : (refusal : Refusal) → early (chart_checks g line words depths) ≡ Err refusal → ChartOutcome g line words depths (Err refusal) words depths
  chart_turned refusal e = chart-outcome.turned_down {refusal = refusal} (rw e) refl refl refl

  pub ends_turned : (A i : ℕ) (refusal : Refusal) → early (ends_checks g line A i words depths) ≡ Err refusal → EndsOutcome g line A i words depths (Err refusal) words depths
  ends_turned A i refusal e = ends_outcome.turned_down {refusal = refusal} (rw e) refl refl refl

  pub ends_found :
      (s : Sections) (A i smallest largest : ℕ) (words' depths' : List ℕ) → Passes g line (Start A i) (length words) (length depths) s → A < s.categories → i ≤ length line →
      WorkFilled (grammar_of g s) line words depths words' depths' → BothEnds (get_or words' (A * (length line + 1) + i) 0) smallest largest →
      let row = get_or words' (A * (length line + 1) + i) 0 in
      EndsOutcome g line A i words depths (Ok (record { row = row; ends = count_below 64 row; smallest = smallest; largest = largest })) words' depths'
  ends_found s A i smallest largest words' depths' passes a l filled both =
      let row = get_or words' (A * (length line + 1) + i) 0 in
      let same = grammar_is passes in
      ends_outcome.found {row = row} {count = count_below 64 row} {smallest = smallest} {largest = largest}
      (rw (early_passed words depths nothing_wrong nothing_wrong passes))
      refl
      (rw same (filled.word A i (rw (category_count_lem g s (sections passes)) a) l))
      refl
      both
      (rw same filled)

  pub chart_filled :
      (s : Sections) (rounds facts : ℕ) (words' depths' : List ℕ) → Passes g line Nothing (length words) (length depths) s → Filled (grammar_of g s) line words depths words' depths' rounds →
      facts ≡ total (λ q. count_below 64 (get_or words' q 0)) (chart_size s.categories (length line)) →
      ChartOutcome g line words depths (Ok (record { rounds = rounds; facts = facts })) words' depths'
  chart_filled s rounds facts words' depths' passes filled counted =
      let read = sections passes in
      let same = grammar_is passes in
      let count = facts_counted (grammar_of g s) line words depths words' depths' (sections_proper g s read) (line_is passes).short filled.work in
      let number : facts ≡ length (fact_list (grammar_of g s) line) = counted ∙ (rw (category_count_lem g s read) at count) ∙ sym (length_fact_list (grammar_of g s) line) in
      chart-outcome.filled {rounds = rounds} {facts = fact_list (grammar_of g s) line}
      (rw (early_passed words depths nothing_wrong nothing_wrong passes))
      (ap (λ (n : ℕ). told.answered (rounds ∷ n ∷ [])) number)
      (rw same filled.most)
      (rw same (fact_list_is (grammar_of g s) line (sections_proper g s read)))
      (rw same filled.work)
