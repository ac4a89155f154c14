-- A chain is its first number and the chain after that, which falls.
use Rattle.std.proofs.Common.{◌-◌, refl, arith}
use mathlib.Core.Logic.{⊎_elim}
use Rattle.grammar.proofs.ChainLaws.{chain_next, chain_later, chain_cases}
use Rattle.grammar.proofs.chains.Chains.holds.Goals as goal

pub returns-then-self-entry : goal.returns-then-self-entry
returns-then-self-entry c =
    let l = c.loop-entry in
    (λ t. (l.entry - 1, l.invariant.on _ (chain_next _ l.entry c.loop-entry-test.true), c.if-self-entry.true), λ x. refl)

pub loop-entry-preserved : goal.loop-entry-preserved
loop-entry-preserved c =
    let l = c.loop-entry in
    let more = c.loop-entry-test.true in
    record {
      low = omega (arith, c.args.self.now.falls (l.entry - 1), l.invariant.low);
      on = λ q h. l.invariant.on q (chain_later _ l.entry more h);
      left = λ q h e. ⊎_elim (λ z. absurd (c.if-self-entry.false (rw z at e))) (λ rest. rest) (chain_cases _ l.entry more (l.invariant.left q h e));
    }
