-- The three demands hold.
use Rattle.grammar.specs.Given.{grammar_given}
use Rattle.demands.specs.Demands.{Demand1, Demand2, Demand3}
use Rattle.demands.proofs.Refusals.{right_passed}
use Rattle.demands.proofs.Ending.{all_right_lem, ending}
use Rattle.demands.proofs.Exists.{result_exists}
use Rattle.demands.proofs.Outcomes.{result_unique, told_listed, listed_told, row_unchanged, work_unchanged, fills_passed, right_fills, work_for}
use Rattle.demands.proofs.Reported.{words_derive, facts_counted, ends_shown, marks_right}
use Rattle.demands.proofs.Least.{depths_least, tree_shown, rounds_told, forest_listed}
use Rattle.demands.proofs.Printed.{refusal_printed, answers_printed}

pub demand_1 : Demand1
demand_1 = record {
  one = λ x q. let e = result_exists x q in (e.0, e.1, λ s a. result_unique x q s e.0 a e.1);
  refusals = λ x q r a row. (told_listed x q r (ending x q r a) row, listed_told x r a);
  row = λ x q r a. row_unchanged x q r (ending x q r a);
  work = λ x q r a. work_unchanged x q r (ending x q r a);
  fills = λ x q r a. (λ f. (grammar_given x.grammar, all_right_lem x q (fills_passed x q r (ending x q r a) f)), λ right. right_fills x q r (right_passed x q right.1) (ending x q r a));
  past = λ x q r a G right.
      let w = work_for x q r right a in
      (record { long = w.words_long; past = w.words_past }, record { long = w.depths_long; past = w.depths_past });
  output = refusal_printed;
}

pub demand_2 : Demand2
demand_2 = record { words = words_derive; facts = facts_counted; ends = ends_shown; marks = marks_right; output = answers_printed }

pub demand_3 : Demand3
demand_3 = record { depths = depths_least; tree = tree_shown; rounds = rounds_told; forest = forest_listed }
