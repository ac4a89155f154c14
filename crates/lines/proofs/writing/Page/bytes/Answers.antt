-- `lines::writing::Page::bytes`: the part of the row is as the bytes that were copied there.
use Rattle.std.proofs.Common.{arith, refl, ap, length, ◌∙◌, ◌+◌, ◌-◌}
use Rattle.tree.proofs.ByteLaws.{length_wrote}
use Rattle.lines.proofs.WriteLaws.{wrote_part}
use Rattle.lines.proofs.writing.Page.bytes.Goals as goal

pub returns : goal.returns
returns c =
    let at = c.args.self.now.at in
    let bytes = c.args.bytes.now in
    let part = wrote_part c.args.self.now.row.now at (at + length bytes - at) bytes c.copy_from_slice.ensures.after (omega arith) in
    let long = ap length part ∙ length_wrote c.args.self.now.row.now at bytes c.requires in
    record { holds = part; after = refl; fits = omega (arith, long); long = long; same_row = refl }
