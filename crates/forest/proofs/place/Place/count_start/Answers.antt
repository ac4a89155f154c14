-- Each turn counts the records of the middle that it takes.
use Rattle.std.proofs.Common.{◌≡◌, ℕ, suc, ◌+◌, ◌-◌, ◌≤◌, length, bit_and, arith}
use Rattle.positions.proofs.Counts.{count_le}
use Rattle.positions.proofs.Listed.{begun, turn, none_left}
use Rattle.positions.proofs.Taking.{Taken}
use Rattle.derivation.specs.computed.FactCount.{total}
use Rattle.derivation.proofs.Within.{children_inside}
use Rattle.grammar.specs.Value.{standing}
use Rattle.grammar.specs.Checked.{grammar_in}
use Rattle.forest.specs.declared.place.Place.{Place}
use Rattle.forest.specs.inner.Count.{middle_count}
use Rattle.forest.specs.inner.Ends.{Reached, PrefixEnds}
use Rattle.forest.proofs.RuleLaws.{proper}
use Rattle.forest.proofs.EndsLaws.{chart_of}
use Rattle.forest.proofs.CountLaws.{start_le, middle_none, middle_some, chosen, chosen_whole, chosen_less, chosen_none}
use Rattle.forest.proofs.place.Place.count_start.Goals as goal

module _ (place : Place) (start : ℕ) where
  abbrev n : ℕ
  n = suc (length place.chart.now.line.now)

  -- the records of a middle
  abbrev counts : ℕ → ℕ
  counts = middle_count (grammar_in place.chart.now.grammar) place.chart.now.line.now (standing place.chart.now.grammar.view.bytes.now place.at).right place.d start

  all_counted : (middles : ℕ) → PrefixEnds place.chart.now place.at place.d start middles → total (chosen middles counts) n ≡ total counts n
  all_counted middles ends = chosen_whole counts middles n
      (λ m none. middle_none _ _ (chart_of place).is_line.short _ place.d (proper place.chart.now.grammar) start m (λ h. none ((ends m).1 h)))

  few : total counts n ≤ 4096
  few = start_le _ _ (chart_of place).is_line.short _ place.d start n (omega arith)

  -- the records of the middle that a turn takes, and what it leaves
  module _ (left m : ℕ) (taken : Taken left m) (reached : Reached place.chart.now place.at place.d start m) where
    inside : m ≤ length place.chart.now.line.now
    inside = (children_inside reached).ends

    less : total (chosen left counts) n ≡ counts m + total (chosen (bit_and left (left - 1)) counts) n
    less = chosen_less counts left m n taken (omega (arith, inside))

pub loop-m-init : goal.loop-m-init
loop-m-init c =
    let place = c.args.self.now in
    let e = begun c.into_iter-m-iterator.ensures.into_iter_gives c.members_of-m-items.ensures in
    rw e (record {
      fits = omega (arith, c.prefix_ends.type_inv);
      part = λ m h. (c.prefix_ends.ensures m).0 h;
      records = omega (arith, all_counted place c.args.start _ c.prefix_ends.ensures);
    })

pub symbol_ends-requires : goal.symbol_ends-requires
symbol_ends-requires c =
    let t = turn _ _ _ c.loop-m.invariant.fits c.in-Some.ensures.steps in
    (children_inside (c.loop-m.invariant.part _ t.taken.here)).ends

pub overflow_add-records : goal.overflow_add-records
overflow_add-records c = omega (arith, c.loop-m.invariant.records, few c.args.self.now c.args.start, count_le 64 c.symbol_ends.result, c.count.ensures)

pub loop-m-preserved : goal.loop-m-preserved
loop-m-preserved c =
    let place = c.args.self.now in
    let l = c.loop-m.invariant in
    let t = turn _ _ _ l.fits c.in-Some.ensures.steps in
    let reached = l.part _ t.taken.here in
    let some = middle_some _ _ (chart_of place).is_line.short _ place.d (proper place.chart.now.grammar) c.args.start c.in-Some.m c.symbol_ends.result reached c.symbol_ends.ensures in
    rw t.after (record {
      fits = omega (arith, l.fits, t.taken.less);
      part = λ m z. l.part m ((t.taken.rest m).0 z).0;
      records = omega (arith, l.records, less place c.args.start _ _ t.taken reached, some, c.count.ensures);
    })

pub returns : goal.returns
returns c =
    let none = none_left _ c.in-None.ensures.steps.0 in
    omega (arith, rw none at c.loop-m.invariant.records, chosen_none (counts c.args.self.now c.args.start) (suc (length c.args.self.now.chart.now.line.now)))
