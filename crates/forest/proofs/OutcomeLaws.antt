-- The outcome of the question, from what the checks, the filling, the counting and the writing gave.
use Rattle.std.proofs.Common.{map, ◌≡◌, ℕ, ◌<◌, ◌≤◌, List, [], ◌∷◌, ◌++◌, length, drop, Ok, Err, refl, ap, ◌∙◌, arith}
use Rattle.std.proofs.lemmas.List.{length-map}
use Rattle.refusals.specs.declared.Refusal.{Refusal}
use Rattle.refusals.specs.declared.Refusal.TheVariants.{ForestTooSmall}
use Rattle.refusals.specs.Check.{nothing_wrong}
use Rattle.refusals.specs.Order.{early}
use Rattle.refusals.specs.Told as told
use Rattle.derivation.specs.Branch.{ForestIs}
use Rattle.derivation.specs.computed.Forest.{forest}
use Rattle.derivation.proofs.Forest.{forest_is}
use Rattle.checks.specs.declared.Asked.TheVariants.{Nothing}
use Rattle.grammar.specs.declared.reading.Sections.{Sections}
use Rattle.grammar.specs.Value.{grammar_of}
use Rattle.grammar.specs.Given.{grammar_given}
use Rattle.grammar.specs.declared.view.Checked.{Checked}
use Rattle.grammar.specs.Checked.{grammar_in}
use Rattle.filling.specs.Filled.{WorkFilled}
use Rattle.chart.specs.Checks.{chart_checks}
use Rattle.chart.proofs.CheckLaws.{Passes, line_is, grammar_is, memory_is, early_passed, early_proper}
use Rattle.forest.specs.declared.Branch.{Branch}
use Rattle.forest.specs.Record.{record_of}
use Rattle.forest.specs.Outcome.{ForestOutcome, turned_down, no_room, answered}
use Rattle.forest.specs.inner.Charted.{Charted}
use Rattle.forest.specs.inner.Writing.{Front}

pub forest_turned : (g line words depths : List ℕ) (rows : List Branch) {refusal : Refusal} → early (chart_checks g line words depths) ≡ Err refusal → ForestOutcome g line words depths rows (Err refusal) words depths rows
forest_turned g line words depths rows {refusal} e = turned_down {refusal = refusal} e refl refl refl refl

-- filled memory is a chart
pub charted : {g line words depths : List ℕ} {c : Checked} → Passes g line Nothing (length words) (length depths) c.view.sections →
    {words' depths' : List ℕ} → WorkFilled (grammar_in c) line words depths words' depths' → Charted c line words'
charted passes filled = record { is_line = line_is passes; room = omega (arith, (memory_is passes).0, filled.words_long); word = filled.word }

-- the checks have passed, and the memory is filled
module _ {g line words depths : List ℕ} {s : Sections} (passes : Passes g line Nothing (length words) (length depths) s) {words' depths' : List ℕ} (filled : WorkFilled (grammar_of g s) line words depths words' depths') where
  work : WorkFilled (grammar_given g) line words depths words' depths'
  work = rw (grammar_is passes) filled

  passed : early (chart_checks g line words depths) ≡ nothing_wrong
  passed = early_passed words depths nothing_wrong nothing_wrong passes

  records_are : ForestIs (grammar_given g) line (forest (grammar_given g) line)
  records_are = forest_is (early_proper g line Nothing words depths nothing_wrong nothing_wrong passed)

  module _ (rows : List Branch) where
    pub forest_crowded : {count : ℕ} → count ≡ length (forest (grammar_of g s) line) → length rows < count → ForestOutcome g line words depths rows (Err (ForestTooSmall count)) words' depths' rows
    forest_crowded {count} h l =
        let e : count ≡ length (forest (grammar_given g) line) = rw (grammar_is passes) h in
        no_room passed records_are (rw (← e) l) (ap (λ (n : ℕ). Err (ForestTooSmall n)) e) work refl

    pub forest_written : {count written : ℕ} {rows' : List Branch} → count ≡ length (forest (grammar_of g s) line) → count ≤ length rows → Front (map record_of (forest (grammar_of g s) line)) rows rows' written →
        ForestOutcome g line words depths rows (Ok written) words' depths' rows'
    forest_written {count} {written} {rows'} h l laid =
        let e : count ≡ length (forest (grammar_given g) line) = rw (grammar_is passes) h in
        let front : Front (map record_of (forest (grammar_given g) line)) rows rows' written = rw (grammar_is passes) laid in
        let long = length-map (forest (grammar_given g) line) record_of in
        answered passed records_are (rw (← e) l) (ap (λ (n : ℕ). told.answered (n ∷ [])) (front.count ∙ long)) work
        (front.laid ∙ ap (λ (n : ℕ). map record_of (forest (grammar_given g) line) ++ drop n rows) long)
