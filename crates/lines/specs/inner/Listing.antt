-- The lines of facts and nodes, read off the memory that holds their depths and bytes.
use Rattle.std.specs.Prelude.{ℕ, zero, suc, ◌+◌, ◌*◌, ◌/◌, ◌%◌, List, [], ◌∷◌, get_or}
use Rattle.lines.specs.Lines.{numbered}

-- no line where there is no fact
abbrev pub depth_line : (A i j depth : ℕ) → List ℕ
depth_line A i j zero = []
depth_line A i j (suc d) = numbered "fact" (A ∷ i ∷ j ∷ suc d ∷ [])

-- what is printed of the number at q, in rows of a width: q is (A×width + i)×width + j
abbrev pub fact_line_at : List ℕ → ℕ → ℕ → List ℕ
fact_line_at depths width q = depth_line (q / width / width) (q / width % width) (q % width) (get_or depths q 0)

-- what is printed of the four bytes of node k
abbrev pub node_line_at : List ℕ → ℕ → List ℕ
node_line_at nodes k = numbered "node" (get_or nodes (4 * k) 0 ∷ get_or nodes (4 * k + 1) 0 ∷ get_or nodes (4 * k + 2) 0 ∷ get_or nodes (4 * k + 3) 0 ∷ [])
