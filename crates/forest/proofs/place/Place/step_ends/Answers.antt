-- Each turn gathers the ends from the member that it takes.
use Rattle.std.proofs.Common.{arith}
use Rattle.positions.proofs.Members.{none_member}
use Rattle.positions.proofs.Unions.{gathered_none, gathered_turn, gathered_all}
use Rattle.positions.proofs.Listed.{begun, turn, none_left}
use Rattle.forest.proofs.place.Place.step_ends.Goals as goal

pub loop-m-init : goal.loop-m-init
loop-m-init c =
    let e = begun c.into_iter-m-iterator.ensures.into_iter_gives c.members_of-m-items.ensures in
    rw e (record { fits = omega arith; part = λ m h. h; led = gathered_none _ _ _ (λ m j h l. h) (λ m h. h) })

pub symbol_ends-all-requires : goal.symbol_ends-all-requires
symbol_ends-all-requires c =
    let t = turn _ _ _ c.loop-m.invariant.fits c.in-Some.ensures.steps in
    c.requires _ (c.loop-m.invariant.part _ t.taken.here)

pub loop-m-preserved : goal.loop-m-preserved
loop-m-preserved c =
    let l = c.loop-m.invariant in
    let t = turn _ _ _ l.fits c.in-Some.ensures.steps in
    record {
      fits = omega (arith, l.fits, t.less);
      part = λ m z. l.part m ((t.rest m).0 z).0;
      led = gathered_turn _ _ _ _ _ _ _ t l.led c.symbol_ends-all.ensures;
    }

pub returns : goal.returns
returns c =
    let none = none_left _ c.in-None.ensures.steps.0 in
    gathered_all _ _ _ _ c.loop-m.invariant.led (λ m h. none_member m (rw none at h))
