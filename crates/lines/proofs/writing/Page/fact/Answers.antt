-- `lines::writing::Page::fact`: a fact of depth 0 has no line; another has its line of four numbers.
use Rattle.std.proofs.Common.{arith, ◌∷◌, []}
use Rattle.lines.specs.Lines.{text}
use Rattle.lines.proofs.WriteLaws.{printed_none}
use Rattle.lines.proofs.LineLaws.{line_few, depth_line_lem}
use Rattle.lines.proofs.writing.Page.fact.Goals as goal

pub returns-then-depth-eq0 : goal.returns-then-depth-eq0
returns-then-depth-eq0 c = rw c.if-depth-eq0.true (printed_none _ (omega arith))

pub line-requires : goal.line-requires
line-requires c = let p = c.requires.small in omega (arith, line_few 4 (c.args.category ∷ c.args.start ∷ c.args.end ∷ c.args.depth ∷ []) (p.0, (p.1, (p.2, (p.3, tt)))))

pub returns : goal.returns
unfolding text
returns c = rw (depth_line_lem c.args.category c.args.start c.args.end c.args.depth (omega arith)) c.line.ensures
