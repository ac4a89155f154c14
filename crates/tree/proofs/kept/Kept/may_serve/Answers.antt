-- `may_serve` meets its contract, by the rule's category and the kind of its first symbol.
use Rattle.std.proofs.Common.{◌≡◌, ℕ, ◌<◌, List, sym, ◌∙◌, ap, length, get_or}
use Rattle.grammar.specs.Value.{standing}
use Rattle.tree.proofs.DivisionLaws.{serve_row}
use Rattle.tree.proofs.kept.Kept.may_serve.Goals as goal
use Rattle.tree.proofs.kept.Kept.may_serve.Goals.{In-Some}

-- the rule's first symbol
first : (c : In-Some) → let s = (standing c.args.rule.bytes.now c.args.rule.at).right in (0 < length s) × (c.in-Some.field-0.now ≡ get_or s 0 0)
first c =
    let q = c.symbols.ensures in
    let i = c.in-Some.ensures.item.3 in
    (rw q at i.0, i.1 0 ∙ ap (λ (s : List ℕ). get_or s 0 0) q)

pub returns-in-Some-2 : goal.returns-in-Some-2
returns-in-Some-2 c =
    let f = first (goal.at.returns-in-Some-2 c).In-Some in
    rw f.1 (serve_row _ _ _ (sym c.left.ensures ∙ c.if-left-span.false) f.0 (rw f.1 at c.if-class-lt128.false) c.requires.start)
