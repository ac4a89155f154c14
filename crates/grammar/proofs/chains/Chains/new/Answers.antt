-- Each chain is empty.
use Rattle.std.proofs.Common.{arith}
use Rattle.grammar.proofs.Parts.{zeros}
use Rattle.grammar.proofs.chains.Chains.new.Goals as goal

pub invariant_of-result : goal.invariant_of-result
invariant_of-result c = record {
  few = omega arith;
  falls = λ q. omega (arith, zeros 128 q);
  entries = λ chain. omega (arith, zeros 1184 chain);
}
