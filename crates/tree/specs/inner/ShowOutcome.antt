-- What the showing of a fact's tree gives: no fact, no room, or the nodes.
use Rattle.refusals.specs.declared.Refusal.{Refusal}
use Rattle.std.specs.Prelude.{ℕ, ◌≤◌, ◌<◌, ◌≡◌, List, length, Err, Ok, Result}
use Rattle.refusals.specs.declared.Refusal.TheVariants.{TreeOfNoFact, TreeTooSmall}
use Rattle.derivation.specs.Grammar.{Grammar}
use Rattle.derivation.specs.Fact.{Fact}
use Rattle.derivation.specs.computed.Shown.{shown}
use Rattle.tree.specs.Bytes.{bytes, wrote}

pub data ShowOutcome (G : Grammar) (line : List ℕ) (A i j : ℕ) (out : List ℕ) (answer : Result ℕ Refusal) (out' : List ℕ) : Type 0 where
  no_fact : (Fact G line A i j → ⊥) → answer ≡ Err TreeOfNoFact → out' ≡ out → ShowOutcome G line A i j out answer out'
  no_room : Fact G line A i j → length out < length (bytes (shown G line A i j)) → answer ≡ Err TreeTooSmall → out' ≡ out → ShowOutcome G line A i j out answer out'
  -- the nodes are counted and written
  shows : Fact G line A i j → length (bytes (shown G line A i j)) ≤ length out → answer ≡ Ok (length (shown G line A i j)) → out' ≡ wrote out 0 (bytes (shown G line A i j)) → ShowOutcome G line A i j out answer out'
