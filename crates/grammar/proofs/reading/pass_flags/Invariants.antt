-- The flags that are left, from here, give what all give from the start.
use Rattle.std.proofs.Common.{◌≡◌, ◌+◌, ◌-◌, ◌^◌, ◌<◌}
use Rattle.grammar.specs.Reading.{flags_from}
use Rattle.grammar.proofs.reading.pass_flags.Given as goal

abbrev pub invariant-loop-k : goal.invariant-loop-k
invariant-loop-k l = record {
  fits : l.at + l.k < 2 ^ 64;
  same : flags_from l.g (l.count - l.k) (l.at + l.k) ≡ flags_from l.g l.count l.at;
}
