-- The computed table holds the depths: after h rounds the depths up to h, and after N × (n + 1) rounds all.
use Prim.Native.Nat.{ℕ, zero, suc, ◌+◌, ◌≤◌, ◌<◌, zero-le, suc-le-suc}
use mathlib.Core.Path.{◌≡◌, refl, sym, ◌∙◌, ap, fun_ext}
use mathlib.Core.Bool.{Bool, true, false, true≢false}
use mathlib.Core.List.{List, []}
use native.Mathlib.Nat.{le_refl, le_step, le_of_suc-le-suc, not-suc-le-zero, add-zero, add-suc, suc-add, zero-add, lt_of_not-le}
use native.Mathlib.Decide.{dec_le, dec_lt}
use native.Mathlib.Omega.{arith}
use lib.ListN.{length, get_or}
use lib.Dec.{leb}
use borrow.Author.Tests.{le-leb, lt-leb}
use Rattle.derivation.specs.Bound.{rounds_bound}
use Rattle.derivation.specs.Grammar.{Grammar, Proper}
use Rattle.derivation.specs.Tree.{Tree, node, height}
use Rattle.derivation.specs.Fact.{Fact}
use Rattle.derivation.specs.Depth.{Depth, DepthIs, no_fact, deep}
use Rattle.derivation.specs.computed.Listing.{listed}
use Rattle.derivation.specs.computed.Round.{Known, round, within}
use Rattle.derivation.specs.computed.Table.{DepthAfter, not_yet, found, Table, entry, table, is_found, seen, grade, depths, depth_of}
use Rattle.derivation.proofs.Within.{tree_inside, within_complete}
use Rattle.derivation.proofs.Depth.{depth_unique}
use Rattle.derivation.proofs.Bound.{tree_category}
use Rattle.derivation.proofs.Decide.{within_not, not_within, depth_of_round, depth_exists, rounds_bound_lem}

module _ {X : Type 0} (f : ℕ → X) (d : X) where
  get_d_listed : (i n k : ℕ) → k < n → get_or (listed f i n) k d ≡ f (i + k)
  unfolding listed
  get_d_listed i zero k h = absurd (not-suc-le-zero h)
  get_d_listed i (suc n) zero h = rw add-zero
  get_d_listed i (suc n) (suc k) h = get_d_listed (suc i) n k (le_of_suc-le-suc h) ∙ ap f (suc-add i k ∙ sym (add-suc i k))

  get_d_unlisted : (i n k : ℕ) → n ≤ k → get_or (listed f i n) k d ≡ d
  unfolding listed
  get_d_unlisted i zero k h = refl
  get_d_unlisted i (suc n) zero h = absurd (not-suc-le-zero h)
  get_d_unlisted i (suc n) (suc k) h = get_d_unlisted (suc i) n k (le_of_suc-le-suc h)

  pub at_listed : (n k : ℕ) → k < n → get_or (listed f 0 n) k d ≡ f k
  at_listed n k h = get_d_listed 0 n k h ∙ ap f (zero-add k)

module _ (g : Grammar) (w : List ℕ) where
  -- a number kept after h rounds is found exactly where within is true
  pub after_found : {h A i j d : ℕ} → DepthAfter g w h A i j d → is_found d ≡ within g w h A i j
  unfolding is_found
  after_found {h} {A} {i} {j} (not_yet n) = sym (within_not g w h A i j n)
  after_found {h} (found l p) = sym (within_complete g w p.tree h (omega (arith, p.high)))

  -- one more round
  pub after_next : {h A i j d : ℕ} → DepthAfter g w h A i j d → (x : Bool) → within g w (suc h) A i j ≡ x → DepthAfter g w (suc h) A i j (grade d x (suc h))
  unfolding grade
  after_next (found l p) x q = found (le_step l) p
  after_next {h} {A} {i} {j} (not_yet n) true q = found (le_refl (suc h)) (depth_of_round g w A i j h q n)
  after_next {h} {A} {i} {j} (not_yet n) false q = not_yet (not_within g w (suc h) A i j q)

  -- a depth is at most h exactly where within h is true
  depth_seen : (h : ℕ) {A i j d : ℕ} → Depth g w A i j (suc d) → leb (suc d) h ≡ within g w h A i j
  depth_seen h {A} {i} {j} {d} p = go (dec_le (suc d) h)
    where
      go : Dec (suc d ≤ h) → leb (suc d) h ≡ within g w h A i j
      go (yes b) = le-leb (suc d) h b ∙ sym (within_complete g w p.tree h (omega (arith, p.high)))
      go (no b) = lt-leb (suc d) h (lt_of_not-le b) ∙ sym (within_not g w h A i j (λ t. omega (arith, p.least t)))

  -- numbers kept since are not seen: a round may write in place
  pub seen_after : (h : ℕ) {k A i j d : ℕ} → h ≤ k → DepthAfter g w k A i j d → seen h d ≡ within g w h A i j
  unfolding seen
  seen_after h {A = A} {i = i} {j = j} l (not_yet n) = sym (within_not g w h A i j (λ t. omega (arith, n t)))
  seen_after h l (found m p) = depth_seen h p

  pub seen_depth : (h : ℕ) {A i j d : ℕ} → DepthIs g w A i j d → seen h d ≡ within g w h A i j
  unfolding seen
  seen_depth h {A} {i} {j} (no_fact n) = sym (within_not g w h A i j (λ t. absurd (n t)))
  seen_depth h (deep p) = depth_seen h p

  -- where h rounds reach every fact, what is kept is the depth
  pub after_all : {h A i j d : ℕ} → (Tree g w A i j → within g w h A i j ≡ true) → DepthAfter g w h A i j d → DepthIs g w A i j d
  after_all {h} {A} {i} {j} all (not_yet n) = no_fact (λ t. true≢false (sym (all t) ∙ within_not g w h A i j n))
  after_all all (found l p) = deep p

module _ (g : Grammar) (w : List ℕ) (proper : Proper g) where
  -- (A, i, j) lies in the table
  abbrev InTable : ℕ → ℕ → ℕ → Type 0
  InTable A i j = (A < length g.categories) × (i < suc (length w)) × (j < suc (length w))

  -- a function that is 0 outside the table is read back from it
  entry_table : (f : ℕ → ℕ → ℕ → ℕ) (A i j : ℕ) → ((InTable A i j → ⊥) → f A i j ≡ 0) → entry (table g w f) A i j ≡ f A i j
  unfolding table
  entry_table f A i j outside = go (dec_lt A (length g.categories)) (dec_lt i (suc (length w))) (dec_lt j (suc (length w)))
    where
      rows : ℕ → List (List ℕ)
      rows A = listed (λ i. listed (λ j. f A i j) 0 (suc (length w))) 0 (suc (length w))

      row : ℕ → ℕ → List ℕ
      row A i = listed (λ j. f A i j) 0 (suc (length w))

      go : Dec (A < length g.categories) → Dec (i < suc (length w)) → Dec (j < suc (length w)) → entry (table g w f) A i j ≡ f A i j
      go (no a) b c = rw (get_d_unlisted rows [] 0 (length g.categories) A (omega arith), outside (λ r. a r.0))
      go (yes a) (no b) c =
          rw (at_listed rows [] (length g.categories) A a, get_d_unlisted (row A) [] 0 (suc (length w)) i (omega arith), outside (λ r. b r.1))
      go (yes a) (yes b) (no c) =
          rw (
            at_listed rows [] (length g.categories) A a,
            at_listed (row A) [] (suc (length w)) i b,
            get_d_unlisted (f A i) 0 0 (suc (length w)) j (omega arith),
            outside (λ r. c r.2),
          )
      go (yes a) (yes b) (yes c) = rw (at_listed rows [] (length g.categories) A a, at_listed (row A) [] (suc (length w)) i b, at_listed (f A i) 0 (suc (length w)) j c)

  in_table : {A i j : ℕ} → Tree g w A i j → InTable A i j
  in_table t = let r = tree_inside t in (tree_category proper t, omega arith, omega arith)

  after_out : {h A i j d : ℕ} → DepthAfter g w h A i j d → (InTable A i j → ⊥) → d ≡ 0
  after_out (not_yet n) o = refl
  after_out (found l p) o = absurd (o (in_table p.tree))

  module _ (h : ℕ) (old : Table) (right : (A i j : ℕ) → DepthAfter g w h A i j (entry old A i j)) where
    known : Known
    known A i j = is_found (entry old A i j)

    known_within : within g w h ≡ known
    unfolding known
    known_within = fun_ext λ A. fun_ext λ i. fun_ext λ j. sym (after_found g w (right A i j))

    next : ℕ → ℕ → ℕ → ℕ
    next A i j = grade (entry old A i j) (round g w known A i j) (suc h)

    next_right : (A i j : ℕ) → DepthAfter g w (suc h) A i j (next A i j)
    unfolding within next
    next_right A i j = after_next g w (right A i j) (round g w known A i j) (ap (λ (k : Known). round g w k A i j) known_within)

    table_right : (A i j : ℕ) → DepthAfter g w (suc h) A i j (entry (table g w next) A i j)
    table_right A i j = rw (entry_table next A i j (after_out (next_right A i j))) (next_right A i j)

  pub depths_after_lem : (h A i j : ℕ) → DepthAfter g w h A i j (entry (depths g w h) A i j)
  unfolding depths within known next
  depths_after_lem zero A i j = not_yet (not_within g w zero A i j refl)
  depths_after_lem (suc h) A i j = table_right h (depths g w h) (depths_after_lem h) A i j

  pub depth_of_is : (A i j : ℕ) → DepthIs g w A i j (depth_of g w A i j)
  unfolding depth_of
  depth_of_is A i j = after_all g w reached (depths_after_lem (rounds_bound g w) A i j)
    where
      reached : Tree g w A i j → within g w (rounds_bound g w) A i j ≡ true
      reached t =
          let p = (depth_exists g w t).1 in
          within_complete g w p.tree (rounds_bound g w) (rw p.high (rounds_bound_lem g w proper p))

-- the number kept for (A, i, j) is one
pub depth_is_unique : {g : Grammar} {w : List ℕ} {A i j d e : ℕ} → DepthIs g w A i j d → DepthIs g w A i j e → d ≡ e
depth_is_unique (no_fact n) (no_fact m) = refl
depth_is_unique (no_fact n) (deep q) = absurd (n q.tree)
depth_is_unique (deep p) (no_fact m) = absurd (m p.tree)
depth_is_unique (deep p) (deep q) = depth_unique p q

pub depth_is_depth : {g : Grammar} {w : List ℕ} {A i j d : ℕ} → DepthIs g w A i j (suc d) → Depth g w A i j (suc d)
depth_is_depth (deep p) = p

pub depth_is_none : {g : Grammar} {w : List ℕ} {A i j : ℕ} → DepthIs g w A i j 0 → Fact g w A i j → ⊥
depth_is_none (no_fact n) = n

pub height_pos : {g : Grammar} {w : List ℕ} {A i j : ℕ} (t : Tree g w A i j) → 0 < height t
unfolding height
height_pos (node p r bs) = suc-le-suc zero-le

pub depth_kept_lem : {g : Grammar} {w : List ℕ} {A i j d : ℕ} → Depth g w A i j d → DepthIs g w A i j d
depth_kept_lem {d = zero} p = absurd (omega (arith, height_pos p.tree, p.high))
depth_kept_lem {d = suc d} p = deep p

pub depth_of_depth : (g : Grammar) (w : List ℕ) → Proper g → {A i j d : ℕ} → Depth g w A i j d → depth_of g w A i j ≡ d
depth_of_depth g w proper {A} {i} {j} p = depth_is_unique (depth_of_is g w proper A i j) (depth_kept_lem p)
