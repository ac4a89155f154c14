-- The set has the starts below m.
use Rattle.tree.proofs.SetLaws.{BeforeBelow}
use Rattle.tree.proofs.division.Below.starts_before.Given as goal

abbrev pub invariant-loop-m : goal.invariant-loop-m
invariant-loop-m l = BeforeBelow l.self l.symbol l.set l.start l.end l.m l.starts
