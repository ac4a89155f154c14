-- `records`, with the total of what is left of the middles, is the whole.
use Rattle.std.proofs.Common.{◌≡◌, ℕ, suc, ◌+◌, ◌^◌, ◌<◌, length}
use Rattle.positions.specs.Member.{Member}
use Rattle.derivation.specs.computed.FactCount.{total}
use Rattle.grammar.specs.Value.{standing}
use Rattle.grammar.specs.Checked.{grammar_in}
use Rattle.forest.specs.inner.Count.{middle_count, start_count}
use Rattle.forest.specs.inner.Ends.{Reached}
use Rattle.forest.proofs.CountLaws.{chosen}
use Rattle.forest.proofs.place.Place.count_start.Given as goal

abbrev pub invariant-loop-m : goal.invariant-loop-m
invariant-loop-m l =
    let G = grammar_in l.self.chart.now.grammar in
    let line = l.self.chart.now.line.now in
    let symbols = (standing l.self.chart.now.grammar.view.bytes.now l.self.at).right in
    record {
      fits : l.m-iterator.left < 2 ^ 64;
      part : (m : ℕ) → Member l.m-iterator.left m → Reached l.self.chart.now l.self.at l.self.d l.start m;
      records : l.records + total (chosen l.m-iterator.left (middle_count G line symbols l.self.d l.start)) (suc (length line)) ≡ start_count G line symbols l.self.d l.start;
    }
