-- The chart and the depths as they are kept in memory, on a line of n tokens.
use Rattle.std.specs.Prelude.{ℕ, suc, ◌+◌, ◌-◌, ◌*◌, ◌≤◌, ◌<◌, ◌↔◌, List, length, get_or}
use Rattle.positions.specs.Member.{Member}
use Rattle.derivation.specs.Grammar.{Grammar}
use Rattle.derivation.specs.Fact.{Fact}
use Rattle.derivation.specs.Depth.{DepthIs}
use Rattle.checks.specs.Memory.{chart_size, depths_size}
use Rattle.tree.specs.declared.kept.Kept.{Kept}
use Rattle.tree.specs.declared.kept.Span.{Span}

-- what stands at A×(n+1)+i, and at (A×(n+1)+i)×(n+1)+j
abbrev pub row_at : List ℕ → ℕ → ℕ → ℕ → ℕ
row_at words n A i = get_or words (A * (n + 1) + i) 0

abbrev pub depth_at : List ℕ → ℕ → ℕ → ℕ → ℕ → ℕ
depth_at depths n A i j = get_or depths ((A * (n + 1) + i) * (n + 1) + j) 0

-- the same of what is kept
abbrev pub row_kept : Kept → ℕ → ℕ → ℕ
row_kept k A i = row_at k.words.now (length k.line.now) A i

abbrev pub depth_kept : Kept → Span → ℕ
depth_kept k span = depth_at k.depths.now (length k.line.now) span.category span.start span.end

-- a symbol that is a category has its rows in the words, and its depths in the numbers
abbrev pub RowsFit : Kept → ℕ → Type 0
RowsFit k symbol = 128 ≤ symbol → chart_size (suc (symbol - 128)) (length k.line.now) ≤ length k.words.now

abbrev pub Fits : Kept → ℕ → Type 0
Fits k symbol =
    128 ≤ symbol → (chart_size (suc (symbol - 128)) (length k.line.now) ≤ length k.words.now) × (depths_size (suc (symbol - 128)) (length k.line.now) ≤ length k.depths.now)

-- the memory keeps the depths of the grammar's facts on the line
abbrev pub DepthsKept : Grammar → List ℕ → List ℕ → Type 0
DepthsKept G line depths =
    (A i j : ℕ) → A < length G.categories → i ≤ length line → j ≤ length line → DepthIs G line A i j (depth_at depths (length line) A i j)

-- and their ends, a row for each category and start
abbrev pub RowsKept : Grammar → List ℕ → List ℕ → Type 0
RowsKept G line words =
    (A i : ℕ) → A < length G.categories → i ≤ length line → (j : ℕ) → Member (row_at words (length line) A i) j ↔ Fact G line A i j
