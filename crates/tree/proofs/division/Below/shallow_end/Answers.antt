-- `shallow_end` meets its contract: a turn takes the first end that has left.
use Rattle.std.proofs.Common.{◌≡◌, ◌<◌, length, arith}
use mathlib.Core.Logic.{⊎_elim}
use native.Mathlib.Nat.{lt_irrefl, lt_of_le_of_lt}
use Rattle.positions.proofs.Listed.{Turn, turn, none_left}
use Rattle.positions.proofs.Members.{member?, none_member}
use Rattle.tree.proofs.division.Below.shallow_end.Goals as goal
use Rattle.tree.proofs.division.Below.shallow_end.Goals.{In-Some}

-- the end that a turn takes
now : (c : In-Some) → Turn c.loop-e.e-iterator.left c.in-Some.e c.next.new.self.left
now c = turn _ _ _ (omega (arith, c.loop-e.invariant.0)) c.in-Some.ensures.steps

place : (c : In-Some) → c.in-Some.e < length c.args.depths.now
place c = c.requires _ (c.loop-e.invariant.1 _ (now c).taken.here)

pub offset_bounds-depths-e : goal.offset_bounds-depths-e
offset_bounds-depths-e c = omega (arith, place (goal.at.offset_bounds-depths-e c).In-Some)

pub bounds-depths-e : goal.bounds-depths-e
bounds-depths-e c = place (goal.at.bounds-depths-e c).In-Some

pub returns-then-depths-e : goal.returns-then-depths-e
returns-then-depths-e c =
    let t = now (goal.at.returns-then-depths-e c).In-Some in
    let v = c.loop-e.invariant in (
      λ e k p. ⊎_elim (λ m. t.first.none_below e k m) (λ n. v.2 e p.0 n p.1) (member? c.loop-e.e-iterator.left e),
      (v.1 _ t.taken.here, c.if-depths-e.true),
    )

pub loop-e-preserved : goal.loop-e-preserved
loop-e-preserved c =
    let t = now (goal.at.loop-e-preserved c).In-Some in
    let v = c.loop-e.invariant in
    rw t.after (
      omega (arith, v.0, t.taken.less),
      λ e m. v.1 e ((t.taken.rest e).0 m).0,
      λ e m n p. ⊎_elim
          (λ k. n ((t.taken.rest e).1 (k, λ (q : e ≡ c.in-Some.e). lt_irrefl _ (lt_of_le_of_lt (rw q at p) c.if-depths-e.false))))
          (λ k. v.2 e m k p)
          (member? c.loop-e.e-iterator.left e),
    )

pub returns : goal.returns
returns c = let z = none_left _ c.in-None.ensures.steps.0 in λ e p. c.loop-e.invariant.2 e p.0 (λ m. none_member e (rw z at m)) p.1
