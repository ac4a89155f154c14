-- Of the numbers on the chain, those with this word are on what is left of it.
use Rattle.std.proofs.Common.{◌≡◌, ℕ, ◌≤◌, get_or}
use Rattle.grammar.specs.inner.Chains.{OnChain}
use Rattle.grammar.proofs.chains.Chains.holds.Given as goal

abbrev pub invariant-loop-entry : goal.invariant-loop-entry
invariant-loop-entry l = record {
  low : l.entry ≤ 128;
  on : (q : ℕ) → OnChain l.self.before l.entry q → OnChain l.self.before l.initial.entry q;
  left : (q : ℕ) → OnChain l.self.before l.initial.entry q → get_or l.self.words q 0 ≡ l.word → OnChain l.self.before l.entry q;
}

abbrev pub decreases-loop-entry : goal.decreases-loop-entry
decreases-loop-entry l = l.entry
