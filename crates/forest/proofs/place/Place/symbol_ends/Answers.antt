-- A category's ends are a word of the chart, and a class has one end where the token has it.
use Rattle.std.proofs.Common.{ℕ, ◌+◌, ◌-◌, ◌*◌, ◌≤◌, ◌<◌, ◌≡◌, List, length, get_or, arith, sym, ap, ◌∙◌}
use Rattle.grammar.specs.Value.{standing}
use Rattle.forest.specs.declared.place.Place.{Place}
use Rattle.forest.proofs.EndsLaws.{chart_of, rule_of, in_words, in_few, ends_category, ends_past, ends_other, ends_class}
use Rattle.forest.proofs.place.Place.symbol_ends.Goals as goal

-- the symbol that is read, and the word that it names
module _ (place : Place) (symbols : List ℕ) (e : symbols ≡ (standing place.chart.now.grammar.view.bytes.now place.at).right) where
  read : get_or symbols place.d 0 ≡ get_or (standing place.chart.now.grammar.view.bytes.now place.at).right place.d 0
  read = ap (λ (l : List ℕ). get_or l place.d 0) e

  few : (m : ℕ) → m ≤ length place.chart.now.line.now → 128 ≤ get_or symbols place.d 0 → (get_or symbols place.d 0 - 128) * (length place.chart.now.line.now + 1) + m < 2048
  few m inside big = rw read (in_few place m inside (omega (arith, read)))

pub invariant_of-here : goal.invariant_of-here
invariant_of-here c = record { stands = (rule_of c.args.self.now).found.stands }

pub overflow_mul-result : goal.overflow_mul-result
overflow_mul-result c = omega (arith, few c.args.self.now _ c.symbols-symbols.ensures c.args.m c.requires c.if-symbol-ge128.true)

pub overflow_add-result-then-symbol-ge128 : goal.overflow_add-result-then-symbol-ge128
overflow_add-result-then-symbol-ge128 c = omega (arith, few c.args.self.now _ c.symbols-symbols.ensures c.args.m c.requires c.if-symbol-ge128.true)

pub offset_bounds-chart-symbol : goal.offset_bounds-chart-symbol
offset_bounds-chart-symbol c = omega (arith, few c.args.self.now _ c.symbols-symbols.ensures c.args.m c.requires c.if-symbol-ge128.true)

pub bounds-chart-symbol : goal.bounds-chart-symbol
bounds-chart-symbol c =
    let same = read c.args.self.now _ c.symbols-symbols.ensures in
    rw same (in_words c.args.self.now c.args.m c.requires (omega (arith, same, c.if-symbol-ge128.true)))

pub returns-then-symbol-ge128 : goal.returns-then-symbol-ge128
returns-then-symbol-ge128 c =
    let same = read c.args.self.now _ c.symbols-symbols.ensures in
    rw same (ends_category c.args.self.now c.args.m c.requires (omega (arith, same, c.if-symbol-ge128.true)))

pub returns-then-n-m : goal.returns-then-n-m
returns-then-n-m c =
    let same = read c.args.self.now _ c.symbols-symbols.ensures in
    ends_past c.args.self.now c.args.m c.requires (omega (arith, same, c.if-symbol-ge128.false)) c.if-n-m.true

pub returns-then-chart-m : goal.returns-then-chart-m
returns-then-chart-m c =
    let same = read c.args.self.now _ c.symbols-symbols.ensures in
    ends_other c.args.self.now c.args.m c.requires (omega (arith, same, c.if-symbol-ge128.false)) (λ q. c.if-chart-m.true (q ∙ sym same))

pub insert-requires : goal.insert-requires
insert-requires c = omega (arith, c.if-n-m.false, (chart_of c.args.self.now).is_line.short)

pub returns : goal.returns
returns c =
    let same = read c.args.self.now _ c.symbols-symbols.ensures in
    ends_class c.args.self.now c.args.m c.requires (omega (arith, same, c.if-symbol-ge128.false)) c.if-n-m.false (c.if-chart-m.false ∙ same) _ c.insert.ensures
