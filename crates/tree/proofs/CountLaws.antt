-- Counting a node's children, up to a limit.
use Prim.Native.Nat.{ℕ, suc, ◌+◌, ◌-◌, ◌≤◌, ◌<◌}
use mathlib.Core.Path.{◌≡◌, ◌∙◌, ap}
use mathlib.Core.List.{List, ◌∷◌}
use native.Mathlib.Numerals.{add-one}
use native.Mathlib.Omega.{arith}
use lib.ListN.{length, get_or, drop, length-append, drop_of_length-le}
use borrow.Author.Tests.{lt-ltb, le-ltb}
use Rattle.derivation.specs.Grammar.{Grammar}
use Rattle.derivation.specs.Node.{rule_node}
use Rattle.derivation.specs.computed.Table.{depth_of}
use Rattle.derivation.specs.computed.Shown.{chosen_row, shown}
use Rattle.tree.specs.inner.Counted.{Counting, Counted}
use Rattle.tree.proofs.TurnLaws.{NextChild}

counting_start : (limit rest total : ℕ) → total ≡ suc rest → Counting limit 1 rest total
counting_start limit rest total e = record { most = omega arith; exact = λ l. omega arith; over = λ l. omega arith }

counting_more : (limit count size rest total r : ℕ) → count ≤ limit → Counting limit count (size + rest) total → Counted size (limit - count) r → Counting limit (count + r) rest total
counting_more limit count size rest total r low x y =
    let e : count + (size + rest) ≡ total = x.exact low in
    record {
      most = omega (arith, y.most);
      exact = λ l. omega (arith, y.exact (omega arith));
      over = λ l. omega (arith, y.over (omega arith));
    }

one_counted : (limit : ℕ) → Counted 1 limit 1
one_counted limit = record { most = omega arith; exact = λ l. omega arith; over = λ l. l }

-- the first d children are counted
pub record CountTurn (G : Grammar) (line : List ℕ) (h : ℕ) (symbols : List ℕ) (end limit total d m count : ℕ) : Type 0 where
  pub low : d ≤ length symbols
  pub counting : Counting limit count (length (chosen_row G line (depth_of G line) (shown G line) h (drop d symbols) m end)) total

module _ (G : Grammar) (line : List ℕ) (h : ℕ) (symbols : List ℕ) (end limit total : ℕ) where
  pub count_begin : (p i m : ℕ) → total ≡ length (rule_node p i end ∷ chosen_row G line (depth_of G line) (shown G line) h symbols m end) → CountTurn G line h symbols end limit total 0 m 1
  count_begin p i m e = record { low = omega arith; counting = counting_start limit _ total e }

  module _ (d m x count : ℕ) (l : d < length symbols) (c : count ≤ limit) (n : NextChild G line h symbols end d m x) (turn : CountTurn G line h symbols end limit total d m count) where
    row_left : ℕ
    row_left = length (chosen_row G line (depth_of G line) (shown G line) h (drop (suc d) symbols) x end)

    -- a child whose size is counted
    child_counted : (size r : ℕ) → length (chosen_row G line (depth_of G line) (shown G line) h (drop d symbols) m end) ≡ size + row_left → Counted size (limit - count) r →
        CountTurn G line h symbols end limit total (d + 1) x (count + r)
    unfolding row_left
    child_counted size r e y = rw add-one (record {
      low = l;
      counting = counting_more limit count size _ total r c (rw e at turn.counting) y;
    })

    pub count_token : get_or symbols d 0 < 128 → CountTurn G line h symbols end limit total (d + 1) x (count + 1)
    unfolding row_left
    count_token k =
        child_counted 1 1 (ap length (n.row (shown G line)) ∙ rw (lt-ltb (get_or symbols d 0) 128 k) (omega arith)) (one_counted (limit - count))

    pub count_category : 128 ≤ get_or symbols d 0 → (r : ℕ) → Counted (length (shown G line (get_or symbols d 0 - 128) m x)) (limit - count) r → CountTurn G line h symbols end limit total (d + 1) x (count + r)
    unfolding row_left
    count_category k r y =
        child_counted _ r (ap length (n.row (shown G line)) ∙ rw (le-ltb (get_or symbols d 0) 128 k, length-append)) y

  -- all are
  pub count_end : (d m count : ℕ) → length symbols ≤ d → CountTurn G line h symbols end limit total d m count → Counted total limit count
  unfolding chosen_row
  count_end d m count l turn = rw (drop_of_length-le symbols l) at turn.counting
