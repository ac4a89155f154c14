-- What the program prints of a job that was read is what the questions report.
use Rattle.std.proofs.Common.{Err, Ok}
use Prim.Native.Nat.{ℕ}
use mathlib.Core.Path.{◌≡◌, refl, sym, ap, ◌∙◌}
use mathlib.Core.Bool.{cond}
use mathlib.Core.List.{List, [], ◌∷◌, ◌++◌, map, flatten, append-nil}
use lib.ListN.{length}
use Rattle.refusals.specs.declared.Row.{Row}
use Rattle.refusals.specs.Row.{row_of}
use Rattle.refusals.specs.Told.{refused}
use Rattle.derivation.specs.Grammar.{Grammar, Proper}
use Rattle.derivation.specs.FactList.{Span, span_numbers}
use Rattle.derivation.specs.computed.Table.{depth_of}
use Rattle.derivation.specs.computed.RoundsOf.{rounds_of}
use Rattle.derivation.specs.computed.Facts.{fact_list}
use Rattle.derivation.specs.computed.Marks as computed
use Rattle.derivation.proofs.Decide.{depth_exists}
use Rattle.derivation.proofs.Table.{at_listed, depth_of_depth}
use Rattle.derivation.proofs.RoundsOf.{rounds_of_is}
use Rattle.derivation.proofs.Facts.{length_fact_list, fact_list_is}
use Rattle.derivation.proofs.Choice.{chosen_height}
use Rattle.derivation.proofs.Shown.{chosen_shown}
use Rattle.grammar.specs.Given.{grammar_given}
use Rattle.chart.specs.Told.{chart_told}
use Rattle.chart.specs.ChartOutcome as chart-outcome
use Rattle.marks.proofs.Unique.{length_listed, mark_computed}
use Rattle.lines.specs.Lines.{numbered}
use Rattle.report.specs.declared.job.Job.{Job}
use Rattle.report.specs.Job.{job_of, questions_part}
use Rattle.report.specs.Printed.{lent_tree, refused_line, rounds_line, fact_line, fact_lines, marks_line, tree_lines, answer_pieces, chart_pieces, pieces, printed}
use Rattle.report.proofs.AnswerLaws as laws
use Rattle.demands.specs.Question.{Input, Query, chart, tree, Result, Allowed}
use Rattle.demands.specs.TurnedDown.{AllRight, TurnedDown}
use Rattle.demands.specs.Demands.{answers, Reports}
use Rattle.demands.specs.Prints.{job_input, PrintsFacts, PrintsMarks, PrintsTree, refused_tree, shown_tree, PrintsTrees, no_tree, then_tree, PrintsAnswers}
use Rattle.demands.proofs.AllRight.{given_is}
use Rattle.demands.proofs.Refusals.{right_passed}
use Rattle.demands.proofs.Ending.{ending}
use Rattle.demands.proofs.Exists.{result_exists}
use Rattle.demands.proofs.Outcomes.{not_refused, told_listed, listed_told, right_fills}
use Rattle.demands.proofs.Reported.{facts_derived, marks_token}
use Rattle.demands.proofs.Least.{encoded_proper, tree_shown}

-- a question's only result, where all is right
module _ {G : Grammar} {x : Input} (q : Query) (right : AllRight G x q) where
  abbrev pub result : Result q
  result = (result_exists x q).0

  pub reports : Reports G x q result
  reports = record {
    grammar = right.grammar;
    allowed = (result_exists x q).1;
    fills = right_fills x q result (right_passed x q right) (ending x q result (result_exists x q).1);
  }

-- the texts of the answers to a chart question where all is right
module _ {G : Grammar} {x : Input} (right : AllRight G x chart) where
  abbrev same : grammar_given x.grammar ≡ G
  same = given_is right.grammar

  abbrev proper : Proper G
  proper = encoded_proper right.grammar

  facts_printed : PrintsFacts G x.line (rounds_line G x.line ++ fact_lines G x.line)
  unfolding rounds_line fact_lines fact_line
  facts_printed = record {
    rounds = rounds_of G x.line;
    facts = fact_list G x.line;
    depth = λ s. depth_of G x.line s.category s.start s.end;
    greatest = rounds_of_is G x.line proper;
    derived = facts_derived (reports chart right) (fact_list G x.line) (fact_list_is G x.line proper);
    least = λ s m.
        let d = depth_exists G x.line (((fact_list_is G x.line proper).each s).0 m) in
        rw (depth_of_depth G x.line proper d.1) d.1;
    printed = rw (length_fact_list G x.line);
  }

  marks_printed : PrintsMarks G x.line (marks_line G x.line)
  unfolding marks_line computed.marks
  marks_printed =
      let mark : ℕ → ℕ = λ t. cond (computed.secret G x.line t) 1 0 in
      record {
        marks = computed.marks G x.line;
        long = length_listed mark 0 (length x.line);
        each = λ t l. rw (at_listed mark 0 (length x.line) t l) (marks_token (reports chart right) t _ l (mark_computed G x.line t proper));
        printed = refl;
      }

module _ {G : Grammar} (input : List ℕ) (job : Job) (right : AllRight G (job_input input job) chart) where
  abbrev asked : Input
  asked = job_input input job

  tree_printed : (s : Span) → PrintsTree G asked s (tree_lines asked.grammar asked.line s)
  unfolding tree_lines flatten
  tree_printed s = go (result_exists asked query).1
    where
      query : Query
      query = tree s.category s.start s.end lent_tree

      go : Allowed asked query (result_exists asked query).0 → PrintsTree G asked s (tree_lines asked.grammar asked.line s)
      go (Err refusal, tells, o) =
          let verdict = laws.tree_refused _ _ _ _ _ _ _ _ o in
          refused_tree (row_of refusal) (told_listed asked query _ (ending asked query _ (result_exists asked query).1) (row_of refusal) (sym tells)) (rw verdict (ap (λ (l : List ℕ). numbered "tree" (span_numbers s) ++ l) (append-nil (refused_line (row_of refusal)))))
      go (Ok count, tells, o) =
          let report : Reports G asked query (result_exists asked query).0 = record { grammar = right.grammar; allowed = (result_exists asked query).1; fills = rw (← tells) answers } in
          let shows = (tree_shown report (count ∷ []) (sym tells)).2 in
          let t = shows.tree in
          let depth = (depth_exists G asked.line t).1 in
          let nodes = chosen_shown G asked.line (encoded_proper right.grammar) t shows.chosen in
          shown_tree t shows.chosen (rw (chosen_height t shows.chosen depth) depth) (rw ((laws.tree_shown _ _ _ _ _ _ _ _ o).passed, given_is right.grammar, nodes))

  trees_printed : (questions : List Span) → PrintsTrees G asked questions (map (tree_lines asked.grammar asked.line) questions)
  trees_printed [] = no_tree
  trees_printed (s ∷ rest) = then_tree (tree_printed s) (trees_printed rest)

-- a refusal is the only line
pub refusal_printed : (input : List ℕ) (job : Job) → job_of input ≡ Ok job → (row : Row) → TurnedDown (job_input input job) chart row → printed input ≡ refused_line row
unfolding printed pieces chart_pieces flatten
refusal_printed input job read row down = go (result_exists x chart).1
  where
    x : Input
    x = job_input input job

    go : Allowed x chart (result_exists x chart).0 → printed input ≡ refused_line row
    go (answer, tells, chart-outcome.filled e t m f y) = absurd (not_refused (sym tells ∙ t) (listed_told x _ (result_exists x chart).1 down))
    go (answer, tells, chart-outcome.turned_down {refusal = refusal} e a w d) =
        let told : refused (row_of refusal) ≡ refused row = sym (sym tells ∙ ap chart_told a) ∙ listed_told x _ (result_exists x chart).1 down in
        let same : row_of refusal ≡ row = cc in
        rw (read, e, same) (append-nil _)

-- what is printed is the facts, the marks and the trees
pub answers_printed : (input : List ℕ) (job : Job) → job_of input ≡ Ok job → {G : Grammar} → AllRight G (job_input input job) chart → PrintsAnswers G (job_input input job) (questions_part input job) (printed input)
unfolding printed pieces chart_pieces answer_pieces flatten
answers_printed input job read {G} right =
    let x = job_input input job in
    record {
      facts = rounds_line G x.line ++ fact_lines G x.line;
      marks = marks_line G x.line;
      trees = map (tree_lines x.grammar x.line) (questions_part input job);
      facts_text = facts_printed right;
      marks_text = marks_printed right;
      trees_text = trees_printed input job right (questions_part input job);
      whole = rw (read, right_passed x chart right, given_is right.grammar);
    }
