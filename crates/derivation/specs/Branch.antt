-- The forest's records: what each one says, and the order in which they stand.
use Rattle.std.specs.Prelude.{ℕ, ◌-◌, ◌≤◌, ◌<◌, ◌↔◌, length, get_or, take}
use mathlib.Core.List.{List, [], ◌∷◌, Memᴰ}
use Rattle.derivation.specs.Grammar.{Grammar, rule_at}
use Rattle.derivation.specs.Tree.{Child, Children}
use Rattle.derivation.specs.Ascending.{Ascending}

-- the document's (p, d, i, m, j)
pub record BranchValue : Type 0 where
  pub rule : ℕ
  pub place : ℕ
  pub start : ℕ
  pub middle : ℕ
  pub end : ℕ

-- b is a record: d is from 1 to rule p's length, the first d - 1 symbols derive i..m and symbol d derives m..j
pub record IsBranch (g : Grammar) (w : List ℕ) (b : BranchValue) : Type 0 where
  pub below : b.rule < length g.rules
  pub first : 1 ≤ b.place
  pub last : b.place ≤ length (rule_at g b.rule).right
  pub before : Children g w (take (b.place - 1) (rule_at g b.rule).right) b.start b.middle
  pub symbol : Child g w (get_or (rule_at g b.rule).right (b.place - 1) 0) b.middle b.end

-- p, d, i, m, j
abbrev pub branch_numbers : BranchValue → List ℕ
branch_numbers b = b.rule ∷ b.place ∷ b.start ∷ b.middle ∷ b.end ∷ []

-- l is the forest of the line w: its members are exactly the records, ascending by p, d, i, m, j
pub record ForestIs (g : Grammar) (w : List ℕ) (l : List BranchValue) : Type 0 where
  pub each : (b : BranchValue) → Memᴰ b l ↔ IsBranch g w b
  pub ascending : Ascending branch_numbers l
