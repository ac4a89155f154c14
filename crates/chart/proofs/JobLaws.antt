-- What Chart and Ends lead to on the document's job and on another line of its length, with work memory of any old contents.
use Rattle.std.proofs.Common.{Ok, Result}
use Rattle.refusals.specs.declared.Refusal.{Refusal}
use Prim.Native.Nat.{ℕ, ◌+◌, ◌*◌}
use mathlib.Core.Path.{◌≡◌, refl, ◌∙◌}
use mathlib.Core.Bool.{cond}
use mathlib.Core.List.{List}
use native.Mathlib.Omega.{arith}
use lib.ListN.{length, get_or}
use lib.Count.{count_trailing_zeros, count_leading_zeros}
use borrow.Author.Tests.{le-ltb}
use Rattle.positions.specs.Member.{digit}
use Rattle.positions.specs.Count.{count_below}
use Rattle.positions.specs.BothEnds.{BothEnds}
use Rattle.positions.proofs.Extremes.{smallest_of, largest_of, both_computed}
use Rattle.positions.proofs.Unique.{both_ends_unique}
use Rattle.derivation.specs.Grammar.{Proper}
use Rattle.derivation.specs.Depth.{Depth, deep}
use Rattle.derivation.specs.computed.Search.{some}
use Rattle.derivation.specs.computed.Listing.{listed}
use Rattle.derivation.specs.computed.Round.{token_is, child, children, round}
use Rattle.derivation.specs.computed.Table.{table, is_found, grade, depths, depth_of}
use Rattle.derivation.specs.computed.RoundsOf.{greatest, rounds_of}
use Rattle.derivation.specs.computed.Facts.{facts}
use Rattle.derivation.specs.computed.FactCount.{total, fact_count}
use Rattle.derivation.proofs.Table.{depth_of_is, depth_is_unique, depth_is_depth}
use Rattle.checks.specs.declared.Asked.TheVariants.{Nothing, Start}
use Rattle.checks.specs.Line.{tokens_from, line_check}
use Rattle.checks.specs.Question.{start_check}
use Rattle.grammar.specs.declared.reading.Sections.{Sections}
use Rattle.grammar.specs.Repeats.{same_symbols, same_rule, is_repeated}
use Rattle.grammar.specs.Reading.{each_from, rule_from, rules_from, flags_section, rules_section, sections_of, read_of}
use Rattle.grammar.specs.Value.{standing, rules_at, grammar_of}
use Rattle.grammar.proofs.Encoded.{accepted_proper}
use Rattle.filling.specs.Filled.{WorkFilled}
use Rattle.chart.specs.declared.ChartAnswer.{ChartAnswer}
use Rattle.chart.specs.declared.EndsAnswer.{EndsAnswer}
use Rattle.chart.specs.ChartOutcome.{ChartOutcome}
use Rattle.chart.specs.EndsOutcome.{EndsOutcome}
use Rattle.chart.specs.inner.Job.{job_bytes, job_grammar, job_line, other_line, JobMemory}
use Rattle.chart.proofs.CheckLaws.{Passes}
use Rattle.chart.proofs.AnswerLaws.{row_is, chart_answered, ends_answered}

-- the counts and offsets of the job's bytes
abbrev job_sections : Sections
job_sections = record { classes = 3; categories = 1; rules = 2; flags = 5; first = 7; end = 15 }

job_read : read_of job_bytes ≡ Ok job_sections
unfolding job_bytes read_of sections_of flags_section rules_section rules_from rule_from each_from standing is_repeated same_rule same_symbols some
job_read = refl

job_grammar_lem : grammar_of job_bytes job_sections ≡ job_grammar
unfolding job_bytes job_grammar grammar_of rules_at standing
job_grammar_lem = refl

job_proper : Proper job_grammar
job_proper = rw job_grammar_lem at (accepted_proper job_bytes job_sections job_read)

-- computed: rounds, facts, the depth of (0, 1, 6), the ends from 1
job_rounds : rounds_of job_grammar job_line ≡ 3
unfolding job_grammar job_line rounds_of greatest depths table listed is_found grade round children child token_is some
job_rounds = refl

job_facts_lem : fact_count job_grammar job_line ≡ 6
unfolding job_grammar job_line fact_count total facts depths table listed is_found grade round children child token_is some
job_facts_lem = refl

job_depth : depth_of job_grammar job_line 0 1 6 ≡ 3
unfolding job_grammar job_line depth_of depths table listed is_found grade round children child token_is some
job_depth = refl

pub job_deep : Depth job_grammar job_line 0 1 6 3
job_deep = depth_is_depth (rw job_depth at (depth_of_is job_grammar job_line job_proper 0 1 6))

job_row : listed (λ j. cond (facts job_grammar job_line 0 1 j) 1 0) 0 7 ≡ listed (digit 84) 0 7
unfolding job_grammar job_line facts depths table listed is_found grade round children child token_is some digit
job_row = refl

other_rounds : rounds_of job_grammar other_line ≡ 0
unfolding job_grammar other_line rounds_of greatest depths table listed is_found grade round children child token_is some
other_rounds = refl

other_facts : fact_count job_grammar other_line ≡ 0
unfolding job_grammar other_line fact_count total facts depths table listed is_found grade round children child token_is some
other_facts = refl

other_row : listed (λ j. cond (facts job_grammar other_line 0 1 j) 1 0) 0 7 ≡ listed (digit 0) 0 7
unfolding job_grammar other_line facts depths table listed is_found grade round children child token_is some digit
other_row = refl

job_both : BothEnds 84 2 6
unfolding smallest_of largest_of count_trailing_zeros count_leading_zeros
job_both = both_computed 84 (omega arith)

job_count : count_below 64 84 ≡ 3
unfolding count_below digit
job_count = refl

module _ {words depths : List ℕ} (memory : JobMemory words depths) where
  job_passes : Passes job_bytes job_line Nothing (length words) (length depths) job_sections
  unfolding job_line line_check tokens_from
  job_passes = record { read = job_read; rest = rw (le-ltb (length words) 7 memory.words_long, le-ltb (length depths) 49 memory.depths_long) }

  start_passes : Passes job_bytes job_line (Start 0 1) (length words) (length depths) job_sections
  unfolding job_line line_check tokens_from start_check
  start_passes = record { read = job_read; rest = rw (le-ltb (length words) 7 memory.words_long, le-ltb (length depths) 49 memory.depths_long) }

  other_passes : Passes job_bytes other_line Nothing (length words) (length depths) job_sections
  unfolding other_line line_check tokens_from
  other_passes = record { read = job_read; rest = rw (le-ltb (length words) 7 memory.words_long, le-ltb (length depths) 49 memory.depths_long) }

  -- the work memory holds the chart and the depths of the job's line
  pub job_filled : {answer : Result ChartAnswer Refusal} {words' depths' : List ℕ} → ChartOutcome job_bytes job_line words depths answer words' depths' → WorkFilled job_grammar job_line words depths words' depths'
  job_filled o = rw job_grammar_lem at (chart_answered job_bytes job_line words depths job_sections job_passes o).1

  -- rounds 3 facts 6; the row of (0, 1) is 84, and the depth of (0, 1, 6) is 3
  pub job_outcome : {answer : Result ChartAnswer Refusal} {words' depths' : List ℕ} → ChartOutcome job_bytes job_line words depths answer words' depths' →
      (answer ≡ Ok (record { rounds = 3; facts = 6 })) × (get_or words' 1 0 ≡ 84) × (get_or depths' (1 * 7 + 6) 0 ≡ 3)
  unfolding job_grammar job_line
  job_outcome o =
      let filled = job_filled o in (
        (chart_answered job_bytes job_line words depths job_sections job_passes o).0 ∙ rw (job_grammar_lem, job_rounds, job_facts_lem),
        row_is job_grammar job_line job_proper 0 1 _ (filled.word 0 1 (omega arith) (omega arith)) 84 (omega arith) job_row,
        depth_is_unique (filled.depth 0 1 6 (omega arith) (omega arith) (omega arith)) (deep job_deep),
      )

  -- on the other line: no fact, rounds 0, and the row of (0, 1) is empty
  pub other_outcome : {answer : Result ChartAnswer Refusal} {words' depths' : List ℕ} → ChartOutcome job_bytes other_line words depths answer words' depths' →
      (answer ≡ Ok (record { rounds = 0; facts = 0 })) × (get_or words' 1 0 ≡ 0)
  unfolding job_grammar other_line
  other_outcome o =
      let e = chart_answered job_bytes other_line words depths job_sections other_passes o in
      let filled : WorkFilled job_grammar other_line words depths _ _ = rw job_grammar_lem at e.1 in
      (e.0 ∙ rw (job_grammar_lem, other_rounds, other_facts), row_is job_grammar other_line job_proper 0 1 _ (filled.word 0 1 (omega arith) (omega arith)) 0 (omega arith) other_row)

  -- the row of (0, 1) is 84: three ends, the smallest 2 and the largest 6
  pub job_ends : {answer : Result EndsAnswer Refusal} {words' depths' : List ℕ} → EndsOutcome job_bytes job_line 0 1 words depths answer words' depths' → answer ≡ Ok (record { row = 84; ends = 3; smallest = 2; largest = 6 })
  unfolding job_line
  job_ends o =
      let e = ends_answered job_bytes job_line words depths job_sections 0 1 start_passes o in
      let row = row_is job_grammar job_line job_proper 0 1 e.0 (rw job_grammar_lem at e.4) 84 (omega arith) job_row in
      let both = both_ends_unique (rw row at e.5) job_both in
      e.3 ∙ rw (row, both.0, both.1, job_count)
