-- What the end of a round answers: whether some row, and which categories, have something new.
use Rattle.std.specs.Prelude.{ℕ, ◌+◌, ◌*◌, ◌<◌, ◌≡◌, ◌↔◌, Bool, true, List}
use Rattle.positions.specs.Member.{Member}
use Rattle.filling.specs.inner.Commit.{Committed, SomeNew}

pub record RowsCommitted (from to width depth : ℕ) (words next depths words' depths' : List ℕ) (gained : Bool) : Type 0 where
  pub committed : Committed from to width depth words next depths words' depths'
  pub gains : (gained ≡ true) ↔ SomeNew from to words next

-- all rows of the categories; `changed` is the set of those that have something new
pub record AllCommitted (categories width depth : ℕ) (words next depths words' depths' : List ℕ) (changed : ℕ) : Type 0 where
  pub committed : Committed 0 (categories * width) width depth words next depths words' depths'
  pub gains : (A : ℕ) → Member changed A ↔ ((A < categories) × SomeNew (A * width) (A * width + width) words next)
