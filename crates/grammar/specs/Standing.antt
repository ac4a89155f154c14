-- What stands at a position of grammar bytes: a byte, a rule, and past it the next rule. A position is an offset in the whole list.
use Rattle.std.specs.Prelude.{ℕ, ◌+◌, List, get_or, take, drop}
use Rattle.derivation.specs.Grammar.{Rule, rule}

-- the byte at a position
abbrev pub byte : List ℕ → ℕ → ℕ
byte g at = get_or g at 0

-- the rule whose left category stands at a position
unfoldable pub standing : List ℕ → ℕ → Rule
standing g at = rule (byte g at) (take (byte g (at + 1)) (drop (at + 2) g))

-- the position past that rule
abbrev pub after : List ℕ → ℕ → ℕ
after g at = at + 2 + byte g (at + 1)
