-- `lines::writing::Page::decimal`: the bytes are the number's digits.
use Rattle.std.proofs.Common.{arith}
use Rattle.lines.proofs.DecimalLaws.{decimal_small, decimal_two}
use Rattle.lines.proofs.writing.Page.decimal.Goals as goal

pub bytes-requires : goal.bytes-requires
bytes-requires c = rw (decimal_small c.args.n (omega arith)) at c.requires

pub returns-then-n-lt10 : goal.returns-then-n-lt10
returns-then-n-lt10 c = rw (decimal_small c.args.n (omega arith)) c.bytes.ensures

pub bytes-requires-then-n-lt100 : goal.bytes-requires-then-n-lt100
bytes-requires-then-n-lt100 c = rw (decimal_two c.args.n (omega arith) (omega arith)) at c.requires

pub returns-then-n-lt100 : goal.returns-then-n-lt100
returns-then-n-lt100 c = rw (decimal_two c.args.n (omega arith) (omega arith)) c.bytes-then-n-lt100.ensures
