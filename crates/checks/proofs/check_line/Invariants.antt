use Rattle.std.proofs.Common.{◌≡◌, ◌-◌, length}
use Rattle.checks.specs.Line.{tokens_from, line_check}
use Rattle.checks.proofs.check_line.Given as goal

-- the tokens from here on give what all of them give
abbrev pub invariant-loop-token : goal.invariant-loop-token
invariant-loop-token l = tokens_from l.classes l.line (length l.line - l.token) l.token ≡ line_check l.classes l.line
