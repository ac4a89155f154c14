-- Writing a node and its children, one after the other, at the front of a row.
use Prim.Native.Nat.{ℕ, suc, ◌+◌, ◌-◌, ◌≤◌, ◌<◌}
use mathlib.Core.Path.{◌≡◌, sym, ◌∙◌, ap}
use mathlib.Core.List.{List, [], ◌∷◌, ◌++◌, append_assoc, append-nil}
use native.Mathlib.Nat.{zero-add}
use native.Mathlib.Numerals.{add-one}
use native.Mathlib.Omega.{arith}
use lib.ListN.{length, get_or, drop, length-append, drop_of_length-le}
use borrow.Author.Tests.{lt-ltb, le-ltb}
use borrow.Rule.Slice.PartMut.{put_mid, mid_of}
use Rattle.derivation.specs.Grammar.{Grammar}
use Rattle.derivation.specs.Node.{NodeValue, token_node}
use Rattle.derivation.specs.computed.Table.{depth_of}
use Rattle.derivation.specs.computed.Shown.{chosen_row, shown}
use Rattle.tree.specs.Bytes.{node_bytes, bytes, wrote}
use Rattle.tree.proofs.ByteLaws.{length_wrote, wrote_more, left_room, wrote_left, bytes_append}
use Rattle.tree.proofs.TurnLaws.{NextChild}

-- the nodes of the symbols from d on
abbrev pub row_from : Grammar → List ℕ → ℕ → List ℕ → ℕ → ℕ → ℕ → List NodeValue
row_from G line h symbols end d m = chosen_row G line (depth_of G line) (shown G line) h (drop d symbols) m end

-- of nodes that a row has room for, the first and those of its first d children are written at the row's front
pub record WriteTurn (G : Grammar) (line : List ℕ) (h : ℕ) (symbols : List ℕ) (end : ℕ) (row : List ℕ) (nodes : List NodeValue) (d m written : ℕ) (out : List ℕ) : Type 0 where
  pub fits : length (bytes nodes) ≤ length row
  pub done : List ℕ
  pub whole : done ++ bytes (row_from G line h symbols end d m) ≡ bytes nodes
  pub count : written ≡ length done
  pub laid : out ≡ wrote row 0 done

-- the nodes of a child: one for a token, those shown for a category
module _ {G : Grammar} {line : List ℕ} {h : ℕ} {symbols : List ℕ} {end d m x : ℕ} (n : NextChild G line h symbols end d m x) where
  token_row : get_or symbols d 0 < 128 → row_from G line h symbols end d m ≡ (token_node (get_or symbols d 0) m x ∷ []) ++ row_from G line h symbols end (suc d) x
  token_row k = n.row (shown G line) ∙ rw (lt-ltb (get_or symbols d 0) 128 k)

  category_row : 128 ≤ get_or symbols d 0 → row_from G line h symbols end d m ≡ shown G line (get_or symbols d 0 - 128) m x ++ row_from G line h symbols end (suc d) x
  category_row k = n.row (shown G line) ∙ rw (le-ltb (get_or symbols d 0) 128 k)

-- there is room for the first of some nodes
pub root_room : {root : NodeValue} {rest nodes : List NodeValue} {n : ℕ} → nodes ≡ root ∷ rest → length (bytes nodes) ≤ n → 4 ≤ n
unfolding bytes
root_room e fits = omega (arith, ap (λ (l : List NodeValue). length (bytes l)) e, fits)

module _ {G : Grammar} {line : List ℕ} {h : ℕ} {symbols : List ℕ} {end : ℕ} {row : List ℕ} {nodes : List NodeValue} where
  module _ {root : NodeValue} {i : ℕ} (e : nodes ≡ root ∷ row_from G line h symbols end 0 i) (fits : length (bytes nodes) ≤ length row) where
    pub turn_begin : {written : ℕ} {out : List ℕ} → written ≡ 4 → out ≡ wrote row 0 (node_bytes root) → WriteTurn G line h symbols end row nodes 0 i written out
    unfolding bytes
    turn_begin q o = record { fits = fits; done = node_bytes root; whole = ap bytes (sym e); count = q; laid = o }

  -- what is written leaves the row its length
  module _ {d m written : ℕ} {out : List ℕ} (turn : WriteTurn G line h symbols end row nodes d m written out) where
    parts_long : length turn.done + length (bytes (row_from G line h symbols end d m)) ≡ length (bytes nodes)
    parts_long = sym (length-append turn.done (bytes (row_from G line h symbols end d m))) ∙ ap length turn.whole

    turn_long : length out ≡ length row
    turn_long = ap length turn.laid ∙ length_wrote row 0 turn.done (omega (arith, parts_long, turn.fits))

    pub turn_low : written ≤ length out
    turn_low = omega (arith, turn.count, parts_long, turn_long, turn.fits)

    -- all are written
    pub turn_end : length symbols ≤ d → (written ≡ length (bytes nodes)) × (out ≡ wrote row 0 (bytes nodes))
    unfolding chosen_row bytes
    turn_end l =
        let e : turn.done ≡ bytes nodes = sym (append-nil turn.done) ∙ (rw (drop_of_length-le symbols l) at turn.whole) in
        (rw e at turn.count, rw e at turn.laid)

    module _ (x : ℕ) (child : List NodeValue) (next : row_from G line h symbols end d m ≡ child ++ row_from G line h symbols end (suc d) x) where
      child_parts : bytes (row_from G line h symbols end d m) ≡ bytes child ++ bytes (row_from G line h symbols end (suc d) x)
      child_parts = ap bytes next ∙ bytes_append child (row_from G line h symbols end (suc d) x)

      child_fits : length turn.done + length (bytes child) ≤ length row
      child_fits = omega (arith, parts_long, ap length child_parts, length-append (bytes child) (bytes (row_from G line h symbols end (suc d) x)), turn.fits)

      -- a child has room in what is left of the row
      child_room : length (bytes child) ≤ length (mid_of written (length out - written) out)
      child_room = left_room out written (bytes child) (omega (arith, turn.count, turn_long, child_fits))

      -- and is written there
      child_written : {part : List ℕ} {more : ℕ} → more ≡ length (bytes child) → part ≡ wrote (mid_of written (length out - written) out) 0 (bytes child) →
          WriteTurn G line h symbols end row nodes (d + 1) x (written + more) (put_mid written (length out - written) out part)
      child_written q o = rw add-one (record {
        fits = turn.fits;
        done = turn.done ++ bytes child;
        whole = append_assoc turn.done (bytes child) (bytes (row_from G line h symbols end (suc d) x)) ∙ ap (λ (b : List ℕ). turn.done ++ b) (sym child_parts) ∙ turn.whole;
        count = omega (arith, q, turn.count, length-append turn.done (bytes child));
        laid =
            ap (put_mid written (length out - written) out) o
            ∙ wrote_left out written (bytes child) (omega (arith, turn.count, turn_long, child_fits))
            ∙ rw (turn.laid, turn.count) (rw zero-add at (wrote_more row 0 turn.done (bytes child) (omega (arith, child_fits))));
      })

    module _ {x : ℕ} (n : NextChild G line h symbols end d m x) where
      pub token_room : get_or symbols d 0 < 128 → 4 ≤ length (mid_of written (length out - written) out)
      unfolding bytes
      token_room k = child_room x (token_node (get_or symbols d 0) m x ∷ []) (token_row n k)

      pub token_written : get_or symbols d 0 < 128 → {part : List ℕ} {more : ℕ} → more ≡ 4 → part ≡ wrote (mid_of written (length out - written) out) 0 (node_bytes (token_node (get_or symbols d 0) m x)) →
          WriteTurn G line h symbols end row nodes (d + 1) x (written + more) (put_mid written (length out - written) out part)
      unfolding bytes
      token_written k q o = child_written x (token_node (get_or symbols d 0) m x ∷ []) (token_row n k) q o

      pub category_room : 128 ≤ get_or symbols d 0 → length (bytes (shown G line (get_or symbols d 0 - 128) m x)) ≤ length (mid_of written (length out - written) out)
      category_room k = child_room x (shown G line (get_or symbols d 0 - 128) m x) (category_row n k)

      pub category_written : 128 ≤ get_or symbols d 0 → {part : List ℕ} {more : ℕ} → more ≡ length (bytes (shown G line (get_or symbols d 0 - 128) m x)) →
          part ≡ wrote (mid_of written (length out - written) out) 0 (bytes (shown G line (get_or symbols d 0 - 128) m x)) →
          WriteTurn G line h symbols end row nodes (d + 1) x (written + more) (put_mid written (length out - written) out part)
      category_written k q o = child_written x (shown G line (get_or symbols d 0 - 128) m x) (category_row n k) q o
