-- The first end of a symbol in a set, the starts before a set, and the sets of a rule's symbols, made from the right.
use Prim.Native.Nat.{ℕ, zero, suc, ◌+◌, ◌-◌, ◌≤◌, ◌<◌}
use mathlib.Core.Path.{◌≡◌, sym, ◌∙◌}
use mathlib.Core.Bool.{true, false, false≢true}
use mathlib.Core.Logic.{◌↔◌, inl, inr, ⊎_elim}
use mathlib.Core.List.{List}
use native.Mathlib.Nat.{eq-or-lt_of_le, le_of_suc-le-suc}
use native.Mathlib.Numerals.{add-one}
use native.Mathlib.Decide.{dec_lt, ℕ_discrete}
use native.Mathlib.Omega.{arith}
use lib.Bits.{bit_and}
use lib.ListN.{length, get_or, drop, set}
use lib.Seq.{drop-cons, drop-length, get_or-set_same, get_or-set_other}
use Rattle.positions.specs.Member.{Member}
use Rattle.positions.specs.With.{With}
use Rattle.positions.proofs.Members.{none_member, and_member}
use Rattle.derivation.specs.Grammar.{Grammar}
use Rattle.derivation.specs.Fact.{Fact}
use Rattle.derivation.specs.Depth.{DepthIs, no_fact, deep}
use Rattle.derivation.specs.inner.Within.{Within, ChildrenWithin}
use Rattle.derivation.proofs.Within.{child_inside}
use Rattle.derivation.proofs.Prefix.{empty_within, then_within, within_then, token_within, category_within, within_token, within_category}
use Rattle.std.proofs.Common.{Option, Some, None, is_some}
use Rattle.tree.specs.declared.division.Below.{Below}
use Rattle.tree.specs.inner.Kept.{row_kept, depth_at}
use Rattle.tree.specs.inner.Sets.{CategoryKnown, WorkKept, FirstThat, Leads, FirstEnd, ClassBefore, StartsBefore, Sets}
use Rattle.tree.proofs.DivisionLaws.{none_within}

-- the depth kept for a fact is at most h exactly where it has a tree so low
kept_within : {G : Grammar} {line : List ℕ} {A i j d : ℕ} (h : ℕ) → DepthIs G line A i j d → Fact G line A i j → (d ≤ h) ↔ Within G line h A i j
kept_within h (no_fact n) f = absurd (n f)
kept_within h (deep p) f = (λ l. record { tree = p.tree; low = omega (arith, p.high) }, λ v. omega (arith, p.least v.tree, v.low))

module _ (below : Below) (c set m : ℕ) where
  -- a category: the ends of its row that are in the set, with the depths kept for them
  module _ (k : 128 ≤ c) (a : m ≤ length below.kept.line.now) (inside : (e : ℕ) → Member set e → e ≤ length below.kept.line.now) where
    abbrev Shallow : ℕ → Type 0
    Shallow e = Member (bit_and (row_kept below.kept (c - 128) m) set) e × (depth_at below.kept.depths.now (length below.kept.line.now) (c - 128) m e ≤ below.h)

    -- exactly they lead on
    module _ (G : Grammar) (work : WorkKept G below.kept) (known : CategoryKnown G c) (e : ℕ) where
      low : e ≤ length below.kept.line.now → Fact G below.kept.line.now (c - 128) m e → (depth_at below.kept.depths.now (length below.kept.line.now) (c - 128) m e ≤ below.h) ↔ Within G below.kept.line.now below.h (c - 128) m e
      low b t = kept_within below.h (work.kept (c - 128) m e (known k) a b) t

      shallow_leads : Shallow e → Leads G below.kept.line.now below.h c set m e
      shallow_leads p =
          let q = (and_member _ set e).0 p.0 in
          (q.1, category_within k ((low (inside e q.1) ((work.rows (c - 128) m (known k) a e).0 q.0)).0 p.1))

      leads_shallow : Leads G below.kept.line.now below.h c set m e → Shallow e
      leads_shallow p =
          let v = within_category k p.1 in
          ((and_member _ set e).1 ((work.rows (c - 128) m (known k) a e).1 v.tree, p.0), (low (inside e p.0) v.tree).1 v)

    pub end_category : (r : Option ℕ) → FirstThat Shallow r → FirstEnd below c set m r
    end_category None f G work known = λ e p. f e (leads_shallow G work known e p)
    end_category (Some r) f G work known = (λ e l p. f.0 e l (leads_shallow G work known e p), shallow_leads G work known r f.1)

  -- a class: only the next position, after its token
  module _ (k : c < 128) where
    pub end_past : length below.kept.line.now ≤ m → FirstEnd below c set m None
    end_past a G work known = λ e p. omega (arith, (within_token k p.1).0)

    pub end_other : (get_or below.kept.line.now m 0 ≡ c → ⊥) → FirstEnd below c set m None
    end_other n G work known = λ e p. n (within_token k p.1).1

    pub end_out : (Member set (m + 1) → ⊥) → FirstEnd below c set m None
    end_out n G work known = λ e p. n (rw (add-one, ← (within_token k p.1).2) p.0)

    pub end_next : m < length below.kept.line.now → get_or below.kept.line.now m 0 ≡ c → Member set (m + 1) → FirstEnd below c set m (Some (m + 1))
    end_next a q s G work known = (λ e l p. omega (arith, (within_token k p.1).2), (s, rw add-one (token_within k a q)))

-- the starts of a class
pub class_before : (below : Below) (c set start end r : ℕ) → c < 128 → end ≤ length below.kept.line.now → ((e : ℕ) → Member set e → e ≤ end) →
    ClassBefore below.kept.line.now c set start r → StartsBefore below c set start end r
class_before below c set start end r k b inside found = record {
  inside = λ m x. omega (arith, inside (suc m) ((found m).0 x).1);
  exact = λ G work known m. (
    λ x. let p = (found m).0 x in (p.0, (suc m, (p.1, token_within k (omega (arith, inside (suc m) p.1)) p.2))),
    λ x. let q = within_token k x.1.1.1 in (found m).1 (x.0, rw (← q.2) x.1.1.0, q.1),
  );
}

-- the starts below m that have an end in the set
pub record BeforeBelow (below : Below) (c set start end m r : ℕ) : Type 0 where
  pub after : start ≤ m
  pub inside : (x : ℕ) → Member r x → x ≤ end
  pub exact : (G : Grammar) → WorkKept G below.kept → CategoryKnown G c → (x : ℕ) → Member r x ↔ ((start ≤ x) × (x < m) × ((e : ℕ) × Leads G below.kept.line.now below.h c set x e))

module _ (below : Below) (c set start end : ℕ) where
  pub before_none : BeforeBelow below c set start end start 0
  before_none = record {
    after = omega arith;
    inside = λ x k. absurd (none_member x k);
    exact = λ G work known x. (λ k. absurd (none_member x k), λ p. absurd (omega (arith, p.0, p.1)));
  }

  module _ (m r : ℕ) (l : m ≤ end) (b : BeforeBelow below c set start end m r) where
    before_more : (e r' : ℕ) → FirstEnd below c set m (Some e) → With r m r' → BeforeBelow below c set start end (m + 1) r'
    before_more e r' f w = record {
      after = omega (arith, b.after);
      inside = λ x y. ⊎_elim (b.inside x) (λ (q : x ≡ m). omega arith) ((w x).0 y);
      exact = λ G work known x. (
        λ y. ⊎_elim (λ z. let p = (b.exact G work known x).0 z in (p.0, omega (arith, p.1), p.2)) (λ (q : x ≡ m). rw q (b.after, omega arith, (e, (f G work known).1))) ((w x).0 y),
        λ p. (w x).1 (⊎_elim (λ (q : x ≡ m). inr q) (λ z. inl ((b.exact G work known x).1 (p.0, z, p.2))) (eq-or-lt_of_le (le_of_suc-le-suc (rw add-one at p.1)))),
      );
    }

    before_skip : FirstEnd below c set m None → BeforeBelow below c set start end (m + 1) r
    before_skip f = record {
      after = omega (arith, b.after);
      inside = b.inside;
      exact = λ G work known x. (
        λ y. let p = (b.exact G work known x).0 y in (p.0, omega (arith, p.1), p.2),
        λ p. (b.exact G work known x).1 (p.0, ⊎_elim (λ (q : x ≡ m). let z = rw q at p.2 in absurd (f G work known z.0 z.1)) (λ z. z) (eq-or-lt_of_le (le_of_suc-le-suc (rw add-one at p.1))), p.2),
      );
    }

    -- whether there is an end or not
    pub before_found : (o : Option ℕ) (r' : ℕ) → FirstEnd below c set m o → is_some o ≡ true → With r m r' → BeforeBelow below c set start end (m + 1) r'
    before_found None r' f q w = absurd (false≢true q)
    before_found (Some e) r' f q w = before_more e r' f w

    pub before_lacks : (o : Option ℕ) → FirstEnd below c set m o → is_some o ≡ false → BeforeBelow below c set start end (m + 1) r
    before_lacks None f q = before_skip f
    before_lacks (Some e) f q = absurd (false≢true (sym q))

  pub before_all : (m r : ℕ) → end < m → ((x : ℕ) → Member set x → x ≤ end) → BeforeBelow below c set start end m r → StartsBefore below c set start end r
  before_all m r l low b = record {
    inside = b.inside;
    exact = λ G work known x. (
      λ y. let p = (b.exact G work known x).0 y in (p.0, p.2),
      λ p. (b.exact G work known x).1 (p.0, omega (arith, low p.1.0 p.1.1.0, (child_inside p.1.1.1.child).rises), p.1),
    );
  }

-- the sets of the symbols from d on; the others are empty
pub record SetsFrom (below : Below) (symbols : List ℕ) (start end d : ℕ) (sets : List ℕ) : Type 0 where
  pub low : d ≤ length symbols
  pub inside : (x m : ℕ) → Member (get_or sets x 0) m → m ≤ end
  pub rest : (x : ℕ) → x < d → get_or sets x 0 ≡ 0
  pub exact :
      (G : Grammar) → WorkKept G below.kept → ((x : ℕ) → x < length symbols → CategoryKnown G (get_or symbols x 0)) →
      (x : ℕ) → d ≤ x → x ≤ length symbols → (m : ℕ) → Member (get_or sets x 0) m ↔ ((start ≤ m) × ChildrenWithin G below.kept.line.now below.h (drop x symbols) m end)

cases : {P Q : Type 0} → Dec P → (P → Q) → ((P → ⊥) → Q) → Q
cases (yes p) f g = f p
cases (no n) f g = g n

module _ (below : Below) (symbols : List ℕ) (start end : ℕ) (few : length symbols ≤ 8) where
  -- after the last symbol the end alone
  pub sets_none : (sets : List ℕ) (word : ℕ) → length sets ≡ 9 → ((x : ℕ) → get_or sets x 0 ≡ 0) → start ≤ end → end ≤ length below.kept.line.now → With 0 end word →
      SetsFrom below symbols start end (length symbols) (set sets (length symbols) word)
  sets_none sets word long zero-at a b w =
      let here : get_or (set sets (length symbols) word) (length symbols) 0 ≡ word = get_or-set_same sets (length symbols) word 0 (omega arith) in
      let other : (x : ℕ) → (x ≡ length symbols → ⊥) → get_or (set sets (length symbols) word) x 0 ≡ 0 = λ x n. get_or-set_other sets (length symbols) x word 0 n ∙ zero-at x in
      let only : (m : ℕ) → Member word m → m ≡ end = λ m x. ⊎_elim (λ y. absurd (none_member m y)) (λ q. q) ((w m).0 x) in
      record {
        low = omega arith;
        inside = λ x m y. cases (ℕ_discrete x (length symbols))
            (λ (q : x ≡ length symbols). let e : m ≡ end = only m (rw (q, here) at y) in omega arith)
            (λ n. absurd (none_member m (rw (other x n) at y)));
        rest = λ x l. other x (λ q. omega arith);
        exact = λ G work known x l k m.
            let q : x ≡ length symbols = omega arith in
            rw (q, here, drop-length symbols) (
              λ y. let e : m ≡ end = only m y in rw e (a, empty_within b),
              λ p. (w m).1 (inr (none_within p.1)),
            );
      }

  module _ (d : ℕ) (sets : List ℕ) (long : length sets ≡ 9) (x : SetsFrom below symbols start end d sets) where
    -- the positions before symbol d - 1
    pub sets_more : (word : ℕ) → 1 < d → StartsBefore below (get_or symbols (d - 1) 0) (get_or sets d 0) start end word →
        SetsFrom below symbols start end (d - 1) (set sets (d - 1) word)
    sets_more word pos b = record {
      low = omega (arith, x.low);
      inside = λ y m z. cases (ℕ_discrete y (d - 1)) (λ (q : y ≡ d - 1). b.inside m (rw (q, here) at z)) (λ n. x.inside y m (rw (other y n) at z));
      rest = λ y l. other y (λ q. omega arith) ∙ x.rest y (omega arith);
      exact = λ G work known y l k m. ⊎_elim
          (λ (q : d - 1 ≡ y). rw (← q, here, drop-cons symbols (d - 1) 0 (omega (arith, x.low)), next) (
            λ z.
                let p = (b.exact G work (known (d - 1) (omega (arith, x.low))) m).0 z in
                (p.0, then_within p.1.1.1 ((x.exact G work known d (omega arith) x.low p.1.0).0 p.1.1.0).1),
            λ p.
                let a = within_then p.1 in
                let r = (x.exact G work known d (omega arith) x.low a.0).1 (omega (arith, p.0, (child_inside a.1.child).rises), a.2) in
                (b.exact G work (known (d - 1) (omega (arith, x.low))) m).1 (p.0, (a.0, (r, a.1))),
          ))
          (λ (q : d - 1 < y). rw (other y (λ z. omega arith)) (x.exact G work known y (omega arith) k m))
          (eq-or-lt_of_le l);
    }
      where
        next : suc (d - 1) ≡ d
        next = omega arith

        here : get_or (set sets (d - 1) word) (d - 1) 0 ≡ word
        here = get_or-set_same sets (d - 1) word 0 (omega (arith, x.low))

        other : (y : ℕ) → (y ≡ d - 1 → ⊥) → get_or (set sets (d - 1) word) y 0 ≡ get_or sets y 0
        other y n = get_or-set_other sets (d - 1) y word 0 n

    -- where set d is empty, so are those before it
    pub sets_empty : get_or sets d 0 ≡ 0 → Sets below symbols start end sets
    sets_empty e = record {
      inside = x.inside;
      exact = λ G work known y pos k m. cases (dec_lt y d)
          (λ (l : y < d). rw (x.rest y l) (λ z. absurd (none_member m z), λ p. absurd (none G work known (d - y) y (omega arith) m p.0 p.1)))
          (λ n. x.exact G work known y (omega arith) k m);
    }
      where
        none : (G : Grammar) → WorkKept G below.kept → ((y : ℕ) → y < length symbols → CategoryKnown G (get_or symbols y 0)) → (t y : ℕ) → y + t ≡ d → (m : ℕ) → start ≤ m → ChildrenWithin G below.kept.line.now below.h (drop y symbols) m end → ⊥
        none G work known zero y q m a v =
            let z : y ≡ d = omega arith in
            none_member m (rw e at ((x.exact G work known d (omega arith) x.low m).1 (a, rw z at v)))
        none G work known (suc t) y q m a v =
            let b = within_then (rw (drop-cons symbols y 0 (omega (arith, x.low))) at v) in
            none G work known t (suc y) (omega arith) b.0 (omega (arith, (child_inside b.1.child).rises)) b.2

    pub sets_all : d ≤ 1 → Sets below symbols start end sets
    sets_all l = record { inside = x.inside; exact = λ G work known y pos k. x.exact G work known y (omega arith) k }
