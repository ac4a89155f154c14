-- An example: what is given, and the whole outcome.
use Rattle.std.specs.Prelude.{ℕ, List}
use Prim.Native.String.{String}
use Rattle.refusals.specs.Told.{Told, refused}
use Rattle.derivation.specs.Node.{NodeValue}
use Rattle.derivation.specs.Branch.{BranchValue}

-- a fact with its depth: A, i, j, depth
pub record Graded : Type 0 where
  pub category : ℕ
  pub start : ℕ
  pub end : ℕ
  pub depth : ℕ

-- a question, and what it writes into the row that is lent for its marks, nodes or records
pub data Question : Type 0 where
  chart : Question
  -- of (A, i)
  ends : ℕ → ℕ → Question
  marks : List ℕ → Question
  -- of (A, i, j)
  tree : ℕ → ℕ → ℕ → List NodeValue → Question
  forest : List BranchValue → Question

-- what the work memory holds afterwards
pub data Work : Type 0 where
  -- what it held on entry
  as_before : Work
  -- the chart and the depths of these facts
  holding : List Graded → Work

pub data Entry : Type 0 where
  -- grammar bytes, line and question; the values answered, or the number and place of the refusal; and the work memory afterwards
  outcome : List ℕ → List ℕ → Question → Told → Work → Entry
  -- grammar bytes that are accepted and have no fact on any line
  no_facts : List ℕ → Entry
  -- grammar bytes, line, and a fact with its depth, which meets the bound N×(j-i+1)
  meets_bound : List ℕ → List ℕ → Graded → Entry
  -- the program's input, and the lines that it prints, each ended by byte 10
  prints : List ℕ → List String → Entry

-- as they are printed: fact A i j depth, node kind number start end, and the record p d i m j
abbrev pub fact : ℕ → ℕ → ℕ → ℕ → Graded
fact A i j depth = record { category = A; start = i; end = j; depth = depth }

abbrev pub node : ℕ → ℕ → ℕ → ℕ → NodeValue
node kind number i j = record { kind = kind; number = number; start = i; end = j }

abbrev pub branch : ℕ → ℕ → ℕ → ℕ → ℕ → BranchValue
branch p d i m j = record { rule = p; place = d; start = i; middle = m; end = j }

-- the refusal of this number at this place
abbrev pub refused_by : ℕ → ℕ → Told
refused_by number place = refused (record { number = number; place = place })
