-- Of the ends, none that was tried has a depth of at most h.
use Rattle.std.proofs.Common.{ℕ, ◌≤◌, get_or}
use Rattle.positions.specs.Member.{Member}
use Rattle.tree.proofs.division.Below.shallow_end.Given as goal

abbrev pub invariant-loop-e : goal.invariant-loop-e
invariant-loop-e l =
    let left = l.e-iterator.left in
    (left ≤ l.ends)
    × ((e : ℕ) → Member left e → Member l.ends e)
    × ((e : ℕ) → Member l.ends e → (Member left e → ⊥) → get_or l.depths e 0 ≤ l.self.h → ⊥)
