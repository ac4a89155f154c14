-- What stands here is a rule of the grammar, whose symbols are classes and categories; past it stands the next one.
use Rattle.std.proofs.Common.{◌≡◌, ◌<◌, ap, sym, ◌∙◌, arith}
use Rattle.std.proofs.Math.ListN.{replicate, length-set}
use Rattle.std.proofs.lemmas.List.{length-take-le}
use Rattle.grammar.specs.Value.{after}
use Rattle.grammar.proofs.Accepted.{whole, found, start_more, start_none}
use Rattle.filling.proofs.TableLaws.{no_rule, rules_before_none, rules_before_more, rules_start, rules_masked, symbol_below}
use Rattle.filling.proofs.tables.Rules.new.Goals as goal

pub slice_bounds-table-end : goal.slice_bounds-table-end
slice_bounds-table-end c = (whole _ _ c.args.grammar.sectioned).rules_high

pub slice_bounds-entry-items-end : goal.slice_bounds-entry-items-end
slice_bounds-entry-items-end c = sym (length-take-le _ (replicate 128 no_rule) (whole _ _ c.args.grammar.sectioned).rules_high)

pub loop-entry-init : goal.loop-entry-init
loop-entry-init c =
    let all = length-take-le c.args.grammar.view.sections.rules (replicate 128 no_rule) (whole _ _ c.args.grammar.sectioned).rules_high in
    record { many = all; long = all; here = sym (start_none _ _); before = rules_before_none _ _ _ }

pub invariant_of-rule : goal.invariant_of-rule
invariant_of-rule c =
    let l = c.loop-entry in
    record { stands = rw l.invariant.here (found _ _ c.args.grammar.sectioned l.entry-index (omega (arith, c.loop-entry-test.true, l.invariant.many))).stands }

pub mask_of-mask-requires : goal.mask_of-mask-requires
mask_of-mask-requires c =
    let l = c.loop-entry in
    let p : l.entry-index < c.args.grammar.view.sections.rules = omega (arith, c.loop-entry-test.true, l.invariant.many) in
    rw (c.symbols.ensures, l.invariant.here, (found _ _ c.args.grammar.sectioned l.entry-index p).is) (symbol_below _ _ c.args.grammar.sectioned l.entry-index p)

pub loop-entry-preserved : goal.loop-entry-preserved
loop-entry-preserved c =
    let l = c.loop-entry in
    record {
      many = l.invariant.many;
      long = length-set l.entry-items l.entry-index (record { at = l.at; mask = c.mask_of-mask.result }) ∙ l.invariant.long;
      here = c.after-at.ensures ∙ ap (after c.args.grammar.view.bytes.now) l.invariant.here ∙ sym (start_more _ l.entry-index _);
      before =
          rules_before_more _ _ l.entry-index l.at c.mask_of-mask.result l.entry-items (omega (arith, l.invariant.long, c.loop-entry-test.true, l.invariant.many)) l.invariant.here
          (rw c.symbols.ensures at c.mask_of-mask.ensures) l.invariant.before;
    }

pub invariant_of-result : goal.invariant_of-result
invariant_of-result c =
    let l = c.loop-entry in
    let all : l.entry-index ≡ c.args.grammar.view.sections.rules = omega (arith, c.loop-entry-test.false, l.invariant.many) in
    record { placed = rules_start _ _ c.args.grammar.sectioned l.entry-items l.invariant.long (rw all at l.invariant.before) }

pub returns-clause-masks : goal.returns-clause-masks
returns-clause-masks c =
    let l = c.loop-entry in
    let all : l.entry-index ≡ c.args.grammar.view.sections.rules = omega (arith, c.loop-entry-test.false, l.invariant.many) in
    rules_masked _ _ c.args.grammar.sectioned l.entry-items l.invariant.long (rw all at l.invariant.before)
