-- The members of a set in order, and those that the iterator over them has still to give.
use Rattle.std.specs.Prelude.{ℕ, List, eqb, filter}
use Rattle.std.specs.List.{range_with_len}
use Rattle.positions.specs.Member.{digit}
use Rattle.positions.specs.declared.Ascending.{Ascending}

-- the positions that are in the set, ascending; each of them is below the word, read as a number
unfoldable pub member_list : ℕ → List ℕ
member_list set = filter (λ j. eqb (digit set j) 1) (range_with_len 0 set)

-- the members of what is left of the set
abbrev pub members_left : Ascending → List ℕ
members_left s = member_list s.left
