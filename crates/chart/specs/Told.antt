-- What the answers of Chart and Ends, and the first checks of every question, tell: the document's values, or the number and place of the refusal.
use Rattle.refusals.specs.Check.{nothing_wrong}
use Rattle.refusals.specs.declared.Refusal.{Refusal}
use Rattle.std.specs.Prelude.{ℕ, List, [], ◌∷◌, Err, Ok, Result}
use Rattle.refusals.specs.Row.{row_of}
use Rattle.refusals.specs.Order.{early}
use Rattle.refusals.specs.Told.{Told, answered, refused, check_told, told_first}
use Rattle.checks.specs.declared.Asked.{Asked}
use Rattle.grammar.specs.Reading.{read_of}
use Rattle.grammar.specs.Told.{reading_told}
use Rattle.chart.specs.Checks.{checks_of}
use Rattle.chart.specs.declared.ChartAnswer.{ChartAnswer}
use Rattle.chart.specs.declared.EndsAnswer.{EndsAnswer}

-- rounds, facts
abbrev pub chart_told : Result ChartAnswer Refusal → Told
chart_told (Ok a) = answered (a.rounds ∷ a.facts ∷ [])
chart_told (Err refusal) = refused (row_of refusal)

-- the row, how many ends it shows, the smallest, the largest
abbrev pub ends_told : Result EndsAnswer Refusal → Told
ends_told (Ok a) = answered (a.row ∷ a.ends ∷ a.smallest ∷ a.largest ∷ [])
ends_told (Err refusal) = refused (row_of refusal)

-- the first refusal of those that change no memory, or else T, N and P
abbrev pub first_told : (g line : List ℕ) → Asked → (words depths : List ℕ) → Told
first_told g line asked words depths = told_first (check_told (early (checks_of g line asked words depths nothing_wrong nothing_wrong))) (reading_told (read_of g))
