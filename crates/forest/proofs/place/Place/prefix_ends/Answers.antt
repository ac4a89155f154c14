-- Each turn steps over one more symbol; from no end no more symbols lead on.
use Rattle.std.proofs.Common.{◌≡◌, ℕ, ◌+◌, ◌-◌, subst, arith}
use Rattle.forest.specs.inner.Ends.{PrefixEnds}
use Rattle.forest.proofs.EndsLaws.{prefix_none, prefix_more, prefix_inside, prefix_empty}
use Rattle.forest.proofs.place.Place.prefix_ends.Goals as goal

pub loop-d-init : goal.loop-d-init
loop-d-init c = prefix_none c.args.self.now.chart.now c.args.self.now.at _ c.insert-ends.result c.requires c.insert-ends.ensures

pub returns-then-ends-eq0 : goal.returns-then-ends-eq0
returns-then-ends-eq0 c =
    let place = c.args.self.now in
    let more = place.d - c.loop-d.d in
    let all : c.loop-d.d + more ≡ place.d = omega arith in
    subst (λ (k : ℕ). PrefixEnds place.chart.now place.at k c.args.start 0) all
    (prefix_empty place.chart.now place.at c.args.start c.loop-d.d more (omega (arith, all, place.inside)) (rw c.if-ends-eq0.true at c.loop-d.invariant))

pub step_ends-ends-requires : goal.step_ends-ends-requires
step_ends-ends-requires c = prefix_inside c.args.self.now.chart.now c.args.self.now.at _ c.loop-d.d _ c.loop-d.invariant

pub loop-d-preserved : goal.loop-d-preserved
loop-d-preserved c = prefix_more c.args.self.now.chart.now _ _ c.loop-d.d _ _ (omega (arith, c.args.self.now.inside)) c.loop-d.invariant c.step_ends-ends.ensures
