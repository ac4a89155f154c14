-- The entries of the members left, over those written, make those of the set.
use Rattle.std.proofs.Common.{ℕ, List, ◌≤◌, ◌<◌, length}
use Rattle.positions.specs.Member.{Member}
use Rattle.filling.specs.inner.Commit.{Deepened}
use Rattle.filling.proofs.commit.write_depths.Given as goal

abbrev pub invariant-loop-j : goal.invariant-loop-j
invariant-loop-j l = record {
  inside : l.j-iterator.left ≤ l.fn.set;
  room : (j : ℕ) → Member l.j-iterator.left j → j < length l.initial.depths;
  rest : (final : List ℕ) → Deepened l.j-iterator.left l.depth l.depths final → Deepened l.fn.set l.depth l.initial.depths final;
}
