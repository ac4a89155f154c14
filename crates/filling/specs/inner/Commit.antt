-- The end of a round: what is new in `next` gets its depth, and the words become `next`.
use Rattle.std.specs.Prelude.{ℕ, ◌+◌, ◌*◌, ◌≤◌, ◌<◌, ◌≡◌, ◌⊎◌, List, length, get_or}
use Rattle.positions.specs.Member.{Member}

-- j is new in row q: `next` has it and the words do not
pub record New (words next : List ℕ) (q j : ℕ) : Type 0 where
  pub found : Member (get_or next q 0) j
  pub fresh : Member (get_or words q 0) j → ⊥

-- the entries of the set's members are `depth`, and the others as they were
pub record Deepened (set depth : ℕ) (old new : List ℕ) : Type 0 where
  pub long : length new ≡ length old
  pub hit : (j : ℕ) → Member set j → get_or new j 0 ≡ depth
  pub miss : (q : ℕ) → (Member set q → ⊥) → get_or new q 0 ≡ get_or old q 0

-- of the rows from `from` up to `to`: their words are those of `next`, what is new has the depth, and all else is as it was
pub record Committed (from to width depth : ℕ) (words next depths words' depths' : List ℕ) : Type 0 where
  pub words_long : length words' ≡ length words
  pub word : (q : ℕ) → from ≤ q → q < to → get_or words' q 0 ≡ get_or next q 0
  pub word_else : (q : ℕ) → (q < from) ⊎ (to ≤ q) → get_or words' q 0 ≡ get_or words q 0
  pub depths_long : length depths' ≡ length depths
  pub deep : (q j : ℕ) → from ≤ q → q < to → New words next q j → get_or depths' (q * width + j) 0 ≡ depth
  pub deep_else : (e : ℕ) → ((q j : ℕ) → from ≤ q → q < to → New words next q j → e ≡ q * width + j → ⊥) → get_or depths' e 0 ≡ get_or depths e 0

-- some row from `from` up to `to` has something new
abbrev pub SomeNew : ℕ → ℕ → List ℕ → List ℕ → Type 0
SomeNew from to words next = (q : ℕ) × (from ≤ q) × (q < to) × (j : ℕ) × New words next q j

-- what a commit needs: room for the rows, no end past the width, and nothing of the words missing in `next`
pub record Ready (to width : ℕ) (words next depths : List ℕ) : Type 0 where
  pub words_room : to ≤ length words
  pub next_room : to ≤ length next
  pub depths_room : to * width ≤ length depths
  pub narrow : (q j : ℕ) → q < to → Member (get_or next q 0) j → j < width
  pub grows : (q j : ℕ) → q < to → Member (get_or words q 0) j → Member (get_or next q 0) j
