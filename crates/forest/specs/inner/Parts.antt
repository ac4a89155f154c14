-- The parts of the forest, each in its order: the records of a rule p, of its place d, of a start i and of a middle m.
use Rattle.std.specs.Prelude.{ℕ, suc, List, length}
use Rattle.derivation.specs.Grammar.{Grammar, rule_at}
use Rattle.derivation.specs.computed.Listing.{gathered, kept}
use Rattle.derivation.specs.computed.Facts.{facts}
use Rattle.derivation.specs.Branch.{BranchValue}
use Rattle.derivation.specs.computed.Forest.{is_branch}

abbrev pub branch_at : ℕ → ℕ → ℕ → ℕ → ℕ → BranchValue
branch_at p d i m j = record { rule = p; place = d; start = i; middle = m; end = j }

module _ (G : Grammar) (line : List ℕ) where
  abbrev pub middle_part : ℕ → ℕ → ℕ → ℕ → List BranchValue
  middle_part p d i m = gathered (suc (length line)) (λ j. kept (is_branch G line (facts G line)) (branch_at p d i m j))

  abbrev pub start_part : ℕ → ℕ → ℕ → List BranchValue
  start_part p d i = gathered (suc (length line)) (λ m. middle_part p d i m)

  abbrev pub place_part : ℕ → ℕ → List BranchValue
  place_part p d = gathered (suc (length line)) (λ i. start_part p d i)

  abbrev pub rule_part : ℕ → List BranchValue
  rule_part p = gathered (suc (length (rule_at G p).right)) (λ d. place_part p d)
