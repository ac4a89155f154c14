-- The lines of nodes, read off their bytes, are those of the nodes.
use Prim.Native.Nat.{ℕ, suc, ◌*◌, ◌/◌}
use mathlib.Core.Path.{◌≡◌, ◌∙◌, ap}
use mathlib.Core.List.{List, [], ◌∷◌, ◌++◌, append-nil, map, flatten}
use native.Mathlib.Nat.{suc-add}
use native.Mathlib.Omega.{arith}
use lib.ListN.{length, take}
use lib.Seq.{take_at}
use Rattle.derivation.specs.computed.Listing.{gathered}
use Rattle.derivation.specs.Node.{NodeValue}
use Rattle.tree.specs.Bytes.{bytes}
use Rattle.tree.proofs.ByteLaws.{bytes_four}
use Rattle.lines.specs.inner.Listing.{node_line_at}
use Rattle.report.specs.Printed.{node_line}
use Rattle.report.proofs.GatherLaws.{gathered_same, gathered_first}
use Rattle.lines.proofs.WriteLaws.{gathered_none}

-- a node's bytes pushed in front move the others by four
node_next : (a b c d : ℕ) (rest : List ℕ) (k : ℕ) → node_line_at (a ∷ b ∷ c ∷ d ∷ rest) (suc k) ≡ node_line_at rest k
node_next a b c d rest k =
    let e : 4 * suc k ≡ suc (suc (suc (suc (4 * k)))) = omega arith in
    rw e (simp suc-add)

nodes_listed : (nodes : List NodeValue) (rest : List ℕ) → gathered (length nodes) (node_line_at (bytes nodes ++ rest)) ≡ flatten (map node_line nodes)
unfolding flatten bytes node_line
nodes_listed [] rest = gathered_none (node_line_at rest)
nodes_listed (x ∷ nodes) rest =
    gathered_first (node_line_at (bytes (x ∷ nodes) ++ rest)) (length nodes)
    ∙ ap (λ (l : List ℕ). node_line x ++ l)
    (gathered_same (λ k. node_line_at (bytes (x ∷ nodes) ++ rest) (suc k)) (node_line_at (bytes nodes ++ rest)) (length nodes) (λ k l. node_next x.kind x.number x.start x.end (bytes nodes ++ rest) k)
    ∙ nodes_listed nodes rest)

-- the lines read off the first bytes of a row that begins with the bytes of nodes
pub nodes_printed : (nodes : List NodeValue) (rest : List ℕ) {count : ℕ} {row : List ℕ} → count ≡ length nodes → row ≡ bytes nodes ++ rest →
    gathered (length (take (4 * count) row) / 4) (node_line_at (take (4 * count) row)) ≡ flatten (map node_line nodes)
nodes_printed nodes rest {count} {row} e h =
    let four = bytes_four nodes in
    let front : take (4 * count) row ≡ bytes nodes = rw h (take_at (bytes nodes) rest (4 * count) (omega arith)) in
    let many : length (bytes nodes) / 4 ≡ length nodes = omega arith in
    rw (front, many) (rw append-nil at (nodes_listed nodes []))
