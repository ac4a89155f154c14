-- The class flags stand from 1 on.
use Rattle.std.proofs.Common.{arith}
use Rattle.grammar.proofs.Accepted.{whole, class_flag_is}
use Rattle.grammar.proofs.view.Checked.class_flag.Goals as goal

pub bounds-self-class : goal.bounds-self-class
bounds-self-class c = omega (arith, whole _ _ c.args.self.sectioned)

pub returns : goal.returns
returns c = let h = c.args.self.sectioned in (class_flag_is _ _ h _ c.requires, (whole _ _ h).class_flags _ c.requires)
