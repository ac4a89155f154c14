-- The order in which a question's checks are reported.
use Rattle.std.specs.Prelude.{Err, Ok}
use Rattle.refusals.specs.Check.{Check}

-- what one check finds, and where it finds nothing, what the next one does
abbrev pub and_then : Check → Check → Check
and_then (Ok u) next = next
and_then (Err refusal) next = Err refusal

-- what each check of a question finds by itself; a question without that check has `nothing_wrong` there
pub record Checks : Type 0 where
  -- 1 to 4 and 14 in reading order, then 5
  pub grammar : Check
  -- 6, then 7
  pub line : Check
  -- 8, the lowest place
  pub question : Check
  -- 9, the lowest place
  pub memory : Check
  -- 10
  pub fact : Check
  -- 11
  pub room : Check

-- the refusals that change no lent memory: 1 to 9 and 14
abbrev pub early : Checks → Check
early c = and_then c.grammar (and_then c.line (and_then c.question c.memory))

-- the refusals after the filling: 10, then 11
abbrev pub late : Checks → Check
late c = and_then c.fact c.room

-- what is reported: the first refusal in this order
abbrev pub reported : Checks → Check
reported c = and_then (early c) (late c)
