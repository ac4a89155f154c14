-- How many positions a set has.
use Rattle.std.specs.Prelude.{ℕ, zero, suc, ◌+◌}
use Rattle.positions.specs.Member.{digit}

-- how many of the positions below k are in the set
unfoldable pub count_below : ℕ → ℕ → ℕ
count_below zero set = zero
count_below (suc k) set = count_below k set + digit set k
