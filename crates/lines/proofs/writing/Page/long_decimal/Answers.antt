-- `lines::writing::Page::long_decimal`: three bytes are the number's digits, and so is the library's text of a longer one.
use Rattle.std.proofs.Common.{arith, ◌≡◌, ◌∙◌}
use Rattle.lines.specs.Decimal.{decimal}
use Rattle.lines.proofs.DecimalLaws.{decimal_three, decimal_same}
use Rattle.lines.proofs.writing.Page.long_decimal.Goals as goal

pub bytes-requires : goal.bytes-requires
bytes-requires c = rw (decimal_three c.args.n (omega arith) (omega arith)) at c.requires.room

pub returns-then-n-lt1000 : goal.returns-then-n-lt1000
returns-then-n-lt1000 c = rw (decimal_three c.args.n (omega arith) (omega arith)) c.bytes.ensures

pub bytes-requires-else-n-lt1000 : goal.bytes-requires-else-n-lt1000
bytes-requires-else-n-lt1000 c =
    let e : c.as_bytes.result.now ≡ decimal c.args.n = c.as_bytes.ensures.value ∙ c.format.ensures.text ∙ decimal_same c.args.n c.ranges.n.fits in
    rw e c.requires.room

pub returns-else-n-lt1000 : goal.returns-else-n-lt1000
returns-else-n-lt1000 c =
    let e : c.as_bytes.result.now ≡ decimal c.args.n = c.as_bytes.ensures.value ∙ c.format.ensures.text ∙ decimal_same c.args.n c.ranges.n.fits in
    rw e at c.bytes-else-n-lt1000.ensures
