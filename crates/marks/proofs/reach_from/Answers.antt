-- A turn sees one category more, and the last turn has seen them all.
use Rattle.std.proofs.Common.{rules, arith, ◌≡◌, sym, ◌∙◌, length}
use Rattle.grammar.specs.Checked.{grammar_in}
use Rattle.grammar.proofs.Encoded.{category_count_lem}
use Rattle.marks.proofs.ReachLaws.{reach_plain, reach_secret}
use Rattle.marks.proofs.reach_from.Goals as goal
use Rattle.marks.proofs.reach_from.Goals.{then-category_flag-eq1, else-category_flag-eq1}

pub loop-a-preserved : goal.loop-a-preserved
loop-a-preserved c =
    let a = c.args in
    let G = grammar_in a.grammar in
    let l = c.loop-a in
    let flag = c.category_flag.ensures.0 in
    elim c.if-category_flag-eq1.branch [
      | then-category_flag-eq1 w ↦ rw w.reach-is (reach_secret G a.words.now a.width a.start a.far l.a l.reach l.invariant _ (sym flag ∙ w.if-category_flag-eq1.true) (search rules))
      | else-category_flag-eq1 w ↦ rw w.reach-is (reach_plain G a.words.now a.width a.start a.far l.a l.reach l.invariant (λ q. w.if-category_flag-eq1.false (flag ∙ q)))
    ]

pub returns : goal.returns
returns c =
    let full : c.loop-a.a ≡ length (grammar_in c.args.grammar).categories = omega (arith, category_count_lem _ _ c.args.grammar.sectioned) in
    rw full at c.loop-a.invariant
