-- What an exported function returns and writes: an answer, told in numbers.
use Rattle.std.specs.Prelude.{ℕ, ◌≡◌, List}
use Rattle.refusals.specs.Told.{Told, answered, refused}

-- the number returned, the values lent for the answer, and the place lent for a refusal
pub record Numbers : Type 0 where
  pub number : ℕ
  pub values : List ℕ
  pub place : ℕ

abbrev pub numbers : ℕ → List ℕ → ℕ → Numbers
numbers number values place = record { number = number; values = values; place = place }

-- an answer is 0 and its values, and the place is as before; a refusal is its number and its place, and the values are as before
abbrev pub handed : Told → List ℕ → ℕ → Numbers
handed (answered told) values place = numbers 0 told place
handed (refused row) values place = numbers row.number values row.place

-- some answer that the question's outcome allows is handed over
pub record Exported {Answer : Type 0} (Outcome : Answer → Type 0) (told : Answer → Told) (values : List ℕ) (place : ℕ) (after : Numbers) : Type 0 where
  pub answer : Answer
  pub outcome : Outcome answer
  pub hands : handed (told answer) values place ≡ after
