-- Bytes written into a row: none, one after the other, and the four of a node.
use Prim.Native.Nat.{ℕ, ◌+◌, ◌-◌, ◌*◌, ◌≤◌}
use mathlib.Core.Path.{◌≡◌, refl, sym, ◌∙◌, ap}
use mathlib.Core.List.{List, [], ◌∷◌, ◌++◌, append_assoc, append-nil}
use native.Mathlib.Nat.{add_assoc, add-zero, zero-add}
use native.Mathlib.Omega.{arith}
use borrow.Rule.Slice.PartMut.{put_mid, mid_of}
use lib.ListN.{length, take, drop, length-append, length-take, length-drop, take-append-drop, drop_of_length-le}
use lib.Seq.{drop-drop, drop_at, take_at, length-take-le}
use Rattle.std.proofs.lemmas.List.{take_rest}
use Rattle.derivation.specs.Node as derivation
use Rattle.tree.specs.declared.node.Kind.{Kind}
use Rattle.tree.specs.declared.node.Kind.TheVariants.{Token, Rule}
use Rattle.tree.specs.declared.node.Node.{Node}
use Rattle.tree.specs.Bytes.{kind_bytes, bytes_of, node_bytes, bytes, wrote}

-- a node has four bytes
kind_long : (k : Kind) (i j : ℕ) → length (kind_bytes k i j) ≡ 4
kind_long (Token c) i j = refl
kind_long (Rule p) i j = refl

pub length_wrote : (row : List ℕ) (at : ℕ) (written : List ℕ) → at + length written ≤ length row → length (wrote row at written) ≡ length row
unfolding wrote
length_wrote row at written h = simp (length-append, length-take, length-drop) (omega arith)

pub wrote_none : (row : List ℕ) (at : ℕ) → wrote row at [] ≡ row
unfolding wrote
wrote_none row at = rw add-zero (take-append-drop at row)

-- a node's bytes, and the row after its first four, are those of the row with the node at its front
pub wrote_node : (row : List ℕ) (node : Node) → bytes_of node ++ drop 4 row ≡ wrote row 0 (bytes_of node)
unfolding wrote
wrote_node row node = rw (kind_long node.kind node.start node.end) refl

-- what is left of a row from a place on has room for bytes, and they are written at its front
pub left_room : (row : List ℕ) (at : ℕ) (written : List ℕ) → at + length written ≤ length row → length written ≤ length (mid_of at (length row - at) row)
left_room row at written h = rw (take_rest row at, length-drop) (omega arith)

pub wrote_left : (row : List ℕ) (at : ℕ) (written : List ℕ) → at + length written ≤ length row → put_mid at (length row - at) row (wrote (mid_of at (length row - at) row) 0 written) ≡ wrote row at written
unfolding wrote
wrote_left row at written h =
    let none : drop (length row - at) (drop at row) ≡ [] = drop_of_length-le (drop at row) (omega (arith, length-drop at row)) in
    rw (take_rest row at, none, append-nil, zero-add, drop-drop) refl

-- what is written right after
pub wrote_more : (row : List ℕ) (at : ℕ) (xs ys : List ℕ) → at + (length xs + length ys) ≤ length row → wrote (wrote row at xs) (at + length xs) ys ≡ wrote row at (xs ++ ys)
unfolding wrote
wrote_more row at xs ys h =
    let rest = drop (at + length xs) row in
    let la : length (take at row) ≡ at = length-take-le at row (omega arith) in
    let lax : length (take at row ++ xs) ≡ at + length xs = length-append (take at row) xs ∙ ap (λ (n : ℕ). n + length xs) la in
    let e₀ : take at row ++ (xs ++ rest) ≡ (take at row ++ xs) ++ rest = sym (append_assoc (take at row) xs rest) in
    let e₁ : take (at + length xs) (take at row ++ (xs ++ rest)) ≡ take at row ++ xs = ap (take (at + length xs)) e₀ ∙ take_at (take at row ++ xs) rest (at + length xs) lax in
    let e₂ : drop (at + length xs) (take at row ++ (xs ++ rest)) ≡ rest = ap (drop (at + length xs)) e₀ ∙ drop_at (take at row ++ xs) rest (at + length xs) lax in
    let e₃ : drop (at + length xs + length ys) (take at row ++ (xs ++ rest)) ≡ drop (at + length xs + length ys) row =
    sym (drop-drop (length ys) (at + length xs) (take at row ++ (xs ++ rest))) ∙ ap (drop (length ys)) e₂ ∙ drop-drop (length ys) (at + length xs) row in
    rw (e₁, e₃, append_assoc, append_assoc, length-append, add_assoc)

-- the bytes of nodes are four for each, and those of two lists stand one after the other
pub bytes_four : (nodes : List derivation.NodeValue) → length (bytes nodes) ≡ length nodes * 4
unfolding bytes
bytes_four [] = refl
bytes_four (x ∷ nodes) = let e = bytes_four nodes in omega arith

pub bytes_append : (xs ys : List derivation.NodeValue) → bytes (xs ++ ys) ≡ bytes xs ++ bytes ys
unfolding bytes
bytes_append [] ys = refl
bytes_append (x ∷ xs) ys = ap (λ (l : List ℕ). node_bytes x ++ l) (bytes_append xs ys)
