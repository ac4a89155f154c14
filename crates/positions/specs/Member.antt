-- A word as a set of positions: position j is in the set x exactly where the binary digit j of x is 1.
use Rattle.std.specs.Prelude.{◌≡◌, ℕ, ◌/◌, ◌%◌, ◌^◌}

unfoldable pub digit : ℕ → ℕ → ℕ
digit x j = x / 2 ^ j % 2

abbrev pub Member : ℕ → ℕ → Type 0
Member x j = digit x j ≡ 1
