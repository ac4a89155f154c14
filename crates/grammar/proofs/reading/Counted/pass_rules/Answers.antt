-- What the next rule gave says how the reading goes on.
use Rattle.std.proofs.Common.{sym, arith}
use Rattle.std.proofs.lemmas.Result.{err_from_is_err_and}
use Rattle.grammar.proofs.Passing.{all_passed, next_stops, next_passed, next_repeats}
use Rattle.grammar.proofs.reading.Counted.pass_rules.Goals as goal

pub returns-in_err-passed : goal.returns-in_err-passed
returns-in_err-passed c =
    let p = err_from_is_err_and c.from_residual.result c.from_residual.ensures.1 in
    rw (p.1, p.2) (next_stops _ _ _ _ _ _ _ _ _ _ c.loop.invariant.so_far c.loop-test.true _ (sym c.in_err-passed.ensures))

pub bounds-self-here : goal.bounds-self-here
bounds-self-here c =
    omega (arith, (next_passed _ _ _ _ _ _ _ _ _ _ c.loop.invariant.so_far c.loop-test.true c.args.self.limits.0 c.args.self.limits.1 _ (sym c.in_ok-passed.ensures)).stands.inside)

pub insert-requires : goal.insert-requires
insert-requires c =
    let left = (next_passed _ _ _ _ _ _ _ _ _ _ c.loop.invariant.so_far c.loop-test.true c.args.self.limits.0 c.args.self.limits.1 _ (sym c.in_ok-passed.ensures)).left in
    (omega (arith, left), omega (arith, c.loop.invariant.count, c.loop-test.true, c.requires))

pub returns-then-not-insert : goal.returns-then-not-insert
returns-then-not-insert c =
    next_repeats _ _ _ _ _ _ _ _ _ _ c.loop.invariant.so_far c.loop-test.true c.args.self.limits.0 c.args.self.limits.1 _ (sym c.in_ok-passed.ensures) (c.insert.ensures.known.0 c.if-not-insert.true)

pub returns : goal.returns
returns c = all_passed _ _ _ _ _ _ _ _ _ _ c.loop.invariant.so_far c.loop-test.false
