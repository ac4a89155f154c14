-- The ends of a rule's symbols from one start, made one symbol at a time, and the rows that gain them, one start at a time.
use Prim.Native.Nat.{ℕ, ◌+◌, ◌-◌, ◌*◌, ◌≤◌, ◌<◌}
use mathlib.Core.Path.{◌≡◌, refl, ◌∙◌}
use mathlib.Core.Logic.{◌↔◌, ◌⊎◌, inl, inr, ⊎_elim}
use mathlib.Core.List.{List, []}
use native.Mathlib.Nat.{eq-or-lt_of_le, mul-le-mul, suc-mul}
use native.Mathlib.Numerals.{add-one}
use native.Mathlib.Omega.{arith}
use lib.Bits.{bit_or}
use lib.ListN.{length, get_or, set, take, length-set, take-append-drop}
use lib.Seq.{take_all, get_or-set_same, get_or-set_other}
use Rattle.positions.specs.Member.{Member}
use Rattle.positions.specs.With.{With}
use Rattle.positions.specs.Union.{Union}
use Rattle.positions.specs.AfterClass.{AfterClass}
use Rattle.positions.proofs.Members.{none_member, or_member}
use Rattle.derivation.specs.Grammar.{Grammar}
use Rattle.derivation.specs.Tree.{Children, stop}
use Rattle.derivation.specs.inner.Within.{Within, ChildrenWithin}
use Rattle.derivation.proofs.Within.{children_inside}
use Rattle.derivation.proofs.Prefix.{empty_within, split, prefix_join, prefix_split, token_within, category_within, within_token, within_category}
use Rattle.filling.specs.inner.Reach.{ChartOf, Reaches, Applied}

-- the rows of a category are among the first 2048
pub rows_few : (left width : ℕ) → left < 32 → width ≤ 64 → left * width + width ≤ 2048
rows_few left width l h = omega (arith, mul-le-mul {n₂ = 32} {m₂ = 64} l h, suc-mul left width)

-- the empty list of symbols ends where it starts
pub stays : {g : Grammar} {w : List ℕ} {i j : ℕ} → Children g w [] i j → j ≡ i
stays (stop h) = refl

-- r is the set of the ends of the first d symbols from i, for every chart that these words are
abbrev pub Reached : List ℕ → List ℕ → List ℕ → ℕ → ℕ → ℕ → ℕ → Type 0
Reached symbols words places width i d r =
    (G : Grammar) (line : List ℕ) (h : ℕ) → ChartOf G line h symbols words places width → (j : ℕ) →
    Member r j ↔ ChildrenWithin G line h (take d symbols) i j

module _ {symbols words places : List ℕ} {width i : ℕ} where
  pub reached_none : (r : ℕ) → i < width → With 0 i r → Reached symbols words places width i 0 r
  reached_none r l w G line h chart j = (
    λ m. ⊎_elim (λ o. absurd (none_member j o)) (λ e. rw e (empty_within (omega (arith, chart.wide)))) ((w j).0 m),
    λ b. (w j).1 (inr (stays b.children)),
  )

  -- symbol d is a class
  pub reached_class :
      (d r r' : ℕ) → d < length symbols → get_or symbols d 0 < 128 →
      Reached symbols words places width i d r → AfterClass r (get_or places (get_or symbols d 0) 0) r' → Reached symbols words places width i (d + 1) r'
  reached_class d r r' l k u w G line h chart j = (
    λ m.
        let v = (w j).0 m in
        let p = (chart.placed.holds (get_or symbols d 0) k v.mid).0 v.classed in
        rw (v.next, add-one, add-one) (prefix_join symbols d l ((u G line h chart v.mid).0 v.chosen) (token_within k p.0 p.1)),
    λ b.
        let s = prefix_split symbols d l (rw add-one at b) in
        let t = within_token k s.2 in
        (w j).1
        (record {
          mid = s.0;
          chosen = (u G line h chart s.0).1 s.1;
          classed = (chart.placed.holds (get_or symbols d 0) k s.0).1 (t.0, t.1);
          next = omega arith;
        }),
  )

  -- symbol d is a category
  pub reached_category :
      (d r r' : ℕ) → d < length symbols → 128 ≤ get_or symbols d 0 →
      Reached symbols words places width i d r → Union r words ((get_or symbols d 0 - 128) * width) i width r' → Reached symbols words places width i (d + 1) r'
  reached_category d r r' l k u w G line h chart j = (
    λ m.
        let v = (w j).0 m in
        rw add-one
        (prefix_join symbols d l ((u G line h chart v.mid).0 v.chosen)
        (category_within k ((row v.mid (omega (arith, v.before, chart.wide))).0 v.leads))),
    λ b.
        let s = prefix_split symbols d l (rw add-one at b) in
        let inside = children_inside s.1.children in
        (w j).1
        (record {
          mid = s.0;
          after = inside.rises;
          before = omega (arith, chart.wide);
          chosen = (u G line h chart s.0).1 s.1;
          leads = (row s.0 inside.ends).1 (within_category k s.2);
        }),
  )
    where
      row : (m : ℕ) → m ≤ length line → Member (get_or words ((get_or symbols d 0 - 128) * width + m) 0) j ↔ Within G line h (get_or symbols d 0 - 128) m j
      row m le = rw chart.wide (chart.holds (get_or symbols d 0 - 128) m (chart.known d l k) le j)

  pub reached_all : (d r : ℕ) → length symbols ≤ d → Reached symbols words places width i d r → Reaches symbols words places width i r
  reached_all d r l u G line h chart j = rw (take_all d symbols l) at (u G line h chart j)

  -- where the first d symbols have no end, the symbols have none
  pub reached_nowhere : (d r : ℕ) → r ≡ 0 → Reached symbols words places width i d r → Reaches symbols words places width i 0
  reached_nowhere d r e u G line h chart j = (
    λ m. absurd (none_member j m),
    λ b.
        let s = split (take d symbols) (rw (← take-append-drop d symbols) at b) in
        absurd (none_member s.0 (rw e at ((u G line h chart s.0).1 s.1))),
  )

-- the rows of the first k starts, from base on, have gained the ends of the symbols from each, and the other rows stay
pub record AppliedBelow (symbols words places : List ℕ) (base width : ℕ) (old : List ℕ) (k : ℕ) (new : List ℕ) : Type 0 where
  pub long : length new ≡ length old
  pub hit :
      (G : Grammar) (line : List ℕ) (h : ℕ) → ChartOf G line h symbols words places width → (i : ℕ) → i < k → (j : ℕ) →
      Member (get_or new (base + i) 0) j ↔ (Member (get_or old (base + i) 0) j ⊎ ChildrenWithin G line h symbols i j)
  pub miss : (q : ℕ) → (q < base) ⊎ (base + k ≤ q) → get_or new q 0 ≡ get_or old q 0

module _ {symbols words places : List ℕ} {base width : ℕ} {old : List ℕ} where
  pub applied_more :
      (k ends : ℕ) (new : List ℕ) → base + k < length new → AppliedBelow symbols words places base width old k new → Reaches symbols words places width k ends →
      AppliedBelow symbols words places base width old (k + 1) (set new (base + k) (bit_or (get_or new (base + k) 0) ends))
  applied_more k ends new l u w =
      record {
        long = length-set new (base + k) row ∙ u.long;
        hit = λ G line h chart i b j.
            ⊎_elim (λ e. rw e (here G line h chart j))
            (λ b. rw (get_or-set_other new (base + k) (base + i) row 0 (λ e. omega arith)) (u.hit G line h chart i b j))
            (eq-or-lt_of_le {n = i} {m = k} (omega arith));
        miss = λ q b.
            get_or-set_other new (base + k) q row 0 (λ e. ⊎_elim (λ x. omega arith) (λ x. omega arith) b)
            ∙ u.miss q (⊎_elim inl (λ x. inr (omega arith)) b);
      }
    where
      row : ℕ
      row = bit_or (get_or new (base + k) 0) ends

      here :
          (G : Grammar) (line : List ℕ) (h : ℕ) → ChartOf G line h symbols words places width → (j : ℕ) →
          Member (get_or (set new (base + k) row) (base + k) 0) j ↔ (Member (get_or old (base + k) 0) j ⊎ ChildrenWithin G line h symbols k j)
      here G line h chart j =
          let old_row : get_or new (base + k) 0 ≡ get_or old (base + k) 0 = u.miss (base + k) (inr (omega arith)) in
          let o = or_member (get_or new (base + k) 0) ends j in
          let r = w G line h chart j in
          rw (get_or-set_same new (base + k) row 0 l) (
            λ m. ⊎_elim (λ a. inl (rw old_row at a)) (λ b. inr (r.0 b)) (o.0 m),
            λ t. o.1 (⊎_elim (λ a. inl (rw old_row a)) (λ b. inr (r.1 b)) t),
          )

  pub applied_all : (k : ℕ) (new : List ℕ) → k ≡ width → AppliedBelow symbols words places base width old k new → Applied symbols words places base width old new
  applied_all k new e u = record { long = u.long; hit = λ G line h chart i l. u.hit G line h chart i (rw e l); miss = λ q b. u.miss q (rw e b) }
