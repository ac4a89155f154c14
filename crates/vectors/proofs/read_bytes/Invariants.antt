-- `vectors::read_bytes`. The loop's invariant: the bytes so far have room.
use Rattle.std.proofs.Common.{◌≤◌, length}
use Rattle.vectors.proofs.read_bytes.Given as goal

abbrev pub invariant-loop-k : goal.invariant-loop-k
invariant-loop-k l = l.count ≤ length l.room
