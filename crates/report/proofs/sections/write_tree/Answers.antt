-- `report::sections::write_tree`: the question's line, and then its nodes or the refusal.
use Rattle.std.proofs.Common.{arith, rules, ◌∷◌, [], ℕ, sym, append-nil, length-take}
use mathlib.Core.List.{flatten}
use Rattle.lines.specs.Lines.{text, line_of, numbered}
use Rattle.lines.proofs.WriteLaws.{printed_then, printed_stored}
use Rattle.lines.proofs.LineLaws.{line_few}
use Rattle.report.specs.Printed.{lent_words, lent_depths, lent_tree, tree_lines}
use Rattle.report.proofs.NodeLaws.{nodes_printed}
use Rattle.report.proofs.AnswerLaws.{tree_refused, tree_shown}
use Rattle.report.proofs.sections.write_tree.Goals as goal
use Rattle.report.proofs.sections.write_tree.Goals.{in-Err, in-Ok}

pub line-requires : goal.line-requires
line-requires c = omega (arith, line_few 2 (c.args.category ∷ c.args.start ∷ c.args.end ∷ []) (omega arith, (omega arith, (omega arith, tt))))

pub refused_line-requires : goal.refused_line-requires
refused_line-requires c = omega (arith, line_few 2 (c.args.category ∷ c.args.start ∷ c.args.end ∷ []) (omega arith, (omega arith, (omega arith, tt))))

pub overflow_mul-nodes : goal.overflow_mul-nodes
overflow_mul-nodes c = omega (arith, (tree_shown _ _ _ _ _ _ _ _ (rw c.in-Ok.is at c.tree.ensures)).room)

pub slice_bounds-nodes-end : goal.slice_bounds-nodes-end
slice_bounds-nodes-end c = let shows = tree_shown _ _ _ _ _ _ _ _ (rw c.in-Ok.is at c.tree.ensures) in omega (arith, shows.room, shows.long)

pub slice_bounds-nodes-end-in-Ok : goal.slice_bounds-nodes-end-in-Ok
slice_bounds-nodes-end-in-Ok c = let shows = tree_shown _ _ _ _ _ _ _ _ (rw c.in-Ok.is at c.tree.ensures) in omega (arith, shows.room, shows.long, length-take {A = ℕ})

pub nodes-requires : goal.nodes-requires
nodes-requires c =
    let few = line_few 2 (c.args.category ∷ c.args.start ∷ c.args.end ∷ []) (omega arith, (omega arith, (omega arith, tt))) in
    omega (arith, few, (tree_shown _ _ _ _ _ _ _ _ (rw c.in-Ok.is at c.tree.ensures)).room, length-take {A = ℕ})

pub returns : goal.returns
unfolding tree_lines flatten lent_words lent_depths lent_tree numbered line_of text
returns c =
    elim c.match-tree.branch [
      | in-Err w ↦
          let refused = tree_refused _ _ _ _ _ _ _ _ (rw w.in-Err.is at c.tree.ensures) in
          let all = printed_then c.line.ensures w.refused_line.ensures.printed in
          rw (refused, append-nil) (printed_stored (rw (sym w.page-is) at all) (search rules))
      | in-Ok w ↦
          let shows = tree_shown _ _ _ _ _ _ _ _ (rw w.in-Ok.is at c.tree.ensures) in
          let all = printed_then c.line.ensures w.nodes.ensures.printed in
          rw (shows.passed, sym (nodes_printed _ _ shows.nodes shows.begins)) (printed_stored (rw (sym w.page-is) at all) (search rules))
    ]
