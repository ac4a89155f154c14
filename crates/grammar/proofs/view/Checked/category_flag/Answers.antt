-- The category flags stand from `flags` on.
use Rattle.std.proofs.Common.{arith}
use Rattle.grammar.proofs.Accepted.{whole, category_flag_is}
use Rattle.grammar.proofs.view.Checked.category_flag.Goals as goal

pub overflow_add-result : goal.overflow_add-result
overflow_add-result c = omega (arith, whole _ _ c.args.self.sectioned)

pub bounds-self-self : goal.bounds-self-self
bounds-self-self c = omega (arith, whole _ _ c.args.self.sectioned)

pub returns : goal.returns
returns c = let h = c.args.self.sectioned in (category_flag_is _ _ h _ c.requires, (whole _ _ h).category_flags _ c.requires)
