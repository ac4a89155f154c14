-- What read sections have: each part inside the bytes and within its limits, and the rules one after the other up to the end.
use Rattle.std.proofs.Common.{Err, Ok, Result}
use Prim.Native.Nat.{ℕ, zero, suc, ◌+◌, ◌-◌, ◌≤◌, ◌<◌}
use mathlib.Core.Path.{◌≡◌, refl, ap, sym, ◌∙◌}
use mathlib.Core.Bool.{Bool, true, false, not, cond}
use mathlib.Core.List.{List, [], ◌∷◌, ◌++◌, append_assoc, append-nil}
use native.Mathlib.Numerals.{add-one}
use native.Mathlib.Omega.{arith}
use lib.ListN.{take, drop, length, get_or}
use lib.Dec.{leb, ltb}
use borrow.Author.Tests.{ltb-true, ltb-false, leb-true, not-true}
use Rattle.refusals.specs.declared.Refusal.{Refusal}
use Rattle.refusals.specs.declared.Refusal.TheVariants.{BytesAfterRules}
use Rattle.derivation.specs.Grammar.{Rule, rule}
use Rattle.grammar.specs.declared.reading.Sections.{Sections}
use Rattle.grammar.specs.Repeats.{is_repeated}
use Rattle.grammar.specs.Reading.{byte, then_read, each_from, is_flag, is_symbol, rule_from, rules_from, flags_section, rules_section, onward, sections_at, sections_of, nothing_after, read_of}
use Rattle.grammar.specs.Value.{Sectioned, standing, after, rules_at, start_of, grammar_of, Stands, Found}
use Rattle.grammar.proofs.Parts.{part_length, part_at}
use Rattle.grammar.proofs.ReadingLaws.{must_to, flags_section_to, rules_section_to, rules_step}

-- bytes that were passed over, each with its test
pub record Each (ok : ℕ → Bool) (g : List ℕ) (count at next : ℕ) : Type 0 where
  pub past : next ≡ at + count
  pub inside : next ≤ length g
  pub good : (i : ℕ) → i < count → ok (byte g (at + i)) ≡ true

to_inj : (a b : ℕ) → ◌≡◌ {A = Result ℕ Refusal} (Ok a) (Ok b) → a ≡ b
to_inj a b e = cc

module _ (ok : ℕ → Bool) (fault : ℕ → Refusal) (g : List ℕ) where
  each_next : (count at next : ℕ) → each_from ok fault g (suc count) at ≡ Ok next → (at < length g) × (ok (byte g at) ≡ true) × (each_from ok fault g count (at + 1) ≡ Ok next)
  unfolding each_from
  each_next count at next e =
      let m = must_to _ _ _ _ e in
      let n = must_to _ _ _ _ m.1 in
      (ltb-true _ _ m.0, n.0, n.1)

  each_good : (count at : ℕ) → ok (byte g at) ≡ true → ((i : ℕ) → i < count → ok (byte g (at + 1 + i)) ≡ true) → (i : ℕ) → i < suc count → ok (byte g (at + i)) ≡ true
  each_good count at o r zero l = let z : at + 0 ≡ at = omega arith in rw z o
  each_good count at o r (suc i) l = let z : at + suc i ≡ at + 1 + i = omega arith in rw z (r i (omega arith))

  pub each_to : (count at next : ℕ) → at ≤ length g → each_from ok fault g count at ≡ Ok next → Each ok g count at next
  unfolding each_from
  each_to zero at next h e =
      let z : at ≡ next = to_inj at next e in
      record { past = omega arith; inside = omega arith; good = λ i l. absurd (omega arith) }
  each_to (suc count) at next h e =
      let n = each_next count at next e in
      let r = each_to count (at + 1) next (omega arith) n.2 in
      record { past = omega (arith, r.past); inside = r.inside; good = each_good count at n.1 r.good }

-- a rule that was passed over
pub record RulePassed (g : List ℕ) (t n at : ℕ) : Type 0 where
  pub stands : Stands g at
  pub left : byte g at < n
  pub symbols : (d : ℕ) → d < byte g (at + 1) → is_symbol t n (byte g (at + 2 + d)) ≡ true

module _ (g : List ℕ) (t n : ℕ) where
  pub rule_to : (at next : ℕ) → rule_from g t n at ≡ Ok next → (next ≡ after g at) × RulePassed g t n at
  unfolding rule_from
  rule_to at next e =
      let a = must_to (ltb at (length g)) _ _ next e in
      let b = must_to (ltb (byte g at) n) _ _ next a.1 in
      let c = must_to (ltb (at + 1) (length g)) _ _ next b.1 in
      let d = must_to (leb (byte g (at + 1)) 8) _ _ next c.1 in
      let l : at + 1 < length g = ltb-true _ _ c.0 in
      let s = each_to (is_symbol t n) _ g (byte g (at + 1)) (at + 2) next (omega arith) d.1 in
      (s.past, record { stands = record { inside = omega (arith, s.past, s.inside); long = leb-true _ _ d.0 }; left = ltb-true _ _ b.0; symbols = s.good })

  and_to : (p : Result ℕ Refusal) (go : ℕ → Result ℕ Refusal) (end : ℕ) → then_read p go ≡ Ok end → (next : ℕ) × (p ≡ Ok next) × (go next ≡ Ok end)
  and_to (Ok at) go end e = (at, refl, e)
  and_to (Err refusal) go end e = absurd (never e)
    where
      never : Err refusal ≡ Ok end → ⊥
      never h = let z : ◌≡◌ {A = ℕ} 0 1 = cc in omega arith

  -- rules that were passed over: the first of them, which is new, and the others
  pub rules_to :
      (earlier : List Rule) (count at end : ℕ) → 0 < count → rules_from g t n earlier count at ≡ Ok end →
      RulePassed g t n at × (is_repeated (standing g at) earlier ≡ false) × (rules_from g t n (earlier ++ (standing g at ∷ [])) (count - 1) (after g at) ≡ Ok end)
  rules_to earlier count at end h e =
      let m = and_to (rule_from g t n at) _ end (sym (rules_step g t n earlier count at h) ∙ e) in
      let r = rule_to at m.0 m.1 in
      let u = must_to (not (is_repeated (standing g at) earlier)) _ _ end m.2 in
      (r.1, not-true _ u.0, rw r.0 at u.1)

  pub rules_inside : (earlier : List Rule) (count at end : ℕ) → at ≤ length g → rules_from g t n earlier count at ≡ Ok end → end ≤ length g
  unfolding rules_from
  rules_inside earlier zero at end h e = let z : at ≡ end = to_inj at end e in omega arith
  rules_inside earlier (suc count) at end h e =
      let r = rules_to earlier (suc count) at end (omega arith) e in
      let z : suc count - 1 ≡ count = omega arith in
      rules_inside (earlier ++ (standing g at ∷ [])) count (after g at) end (omega (arith, r.0.stands.inside)) (rw z at r.2)

  -- each of them, where it stands
  pub rules_each : (earlier : List Rule) (count at end p : ℕ) → p < count → rules_from g t n earlier count at ≡ Ok end → RulePassed g t n (start_of g p at)
  unfolding start_of
  rules_each earlier count at end zero h e = (rules_to earlier count at end (omega arith) e).0
  rules_each earlier count at end (suc p) h e =
      rules_each (earlier ++ (standing g at ∷ [])) (count - 1) (after g at) end p (omega arith) (rules_to earlier count at end (omega arith) e).2

  -- and each is new
  pub rules_new :
      (earlier : List Rule) (count at end p : ℕ) → p < count → rules_from g t n earlier count at ≡ Ok end → is_repeated (standing g (start_of g p at)) (earlier ++ rules_at g p at) ≡ false
  unfolding start_of rules_at
  rules_new earlier count at end zero h e = rw (append-nil earlier) (rules_to earlier count at end (omega arith) e).1
  rules_new earlier count at end (suc p) h e =
      rw (← append_assoc earlier (standing g at ∷ []) (rules_at g p (after g at)))
      (rules_new (earlier ++ (standing g at ∷ [])) (count - 1) (after g at) end p (omega arith) (rules_to earlier count at end (omega arith) e).2)

-- rule p of the list is the one that stands there
module _ (g : List ℕ) where
  start_suc : (p at : ℕ) → start_of g (suc p) at ≡ after g (start_of g p at)
  unfolding start_of
  start_suc zero at = refl
  start_suc (suc p) at = start_suc p (after g at)

  pub start_more : (p at : ℕ) → start_of g (p + 1) at ≡ after g (start_of g p at)
  start_more p at = rw (add-one p) (start_suc p at)

  pub start_none : (at : ℕ) → start_of g 0 at ≡ at
  unfolding start_of
  start_none at = refl

  pub rules_nth : (count p at : ℕ) → p < count → get_or (rules_at g count at) p (rule 0 []) ≡ standing g (start_of g p at)
  unfolding rules_at start_of
  rules_nth zero p at h = absurd (omega arith)
  rules_nth (suc count) zero at h = refl
  rules_nth (suc count) (suc p) at h = rules_nth count p (after g at) (omega arith)

-- sections that were read
pub record Whole (g : List ℕ) (s : Sections) : Type 0 where
  pub classes_low : 1 ≤ s.classes
  pub classes_high : s.classes ≤ 128
  pub categories_low : 1 ≤ s.categories
  pub categories_high : s.categories ≤ 32
  pub rules_high : s.rules ≤ 128
  pub class_count : byte g 0 ≡ s.classes
  pub category_count_lem : byte g (s.classes + 1) ≡ s.categories
  pub rule_count_lem : byte g (s.classes + s.categories + 2) ≡ s.rules
  pub flags_is : s.flags ≡ s.classes + 2
  pub first_is : s.first ≡ s.classes + s.categories + 3
  pub first_inside : s.first ≤ length g
  pub inside : s.end ≤ length g
  pub class_flags : (i : ℕ) → i < s.classes → byte g (1 + i) ≤ 1
  pub category_flags : (i : ℕ) → i < s.categories → byte g (s.flags + i) ≤ 1
  pub rules : rules_from g s.classes s.categories [] s.rules s.first ≡ Ok s.end

onward_to : (p : Result ℕ Refusal) (go : ℕ → Result Sections Refusal) (s : Sections) → onward p go ≡ Ok s → (next : ℕ) × (p ≡ Ok next) × (go next ≡ Ok s)
onward_to (Ok at) go s e = (at, refl, e)
onward_to (Err refusal) go s e = absurd (never e)
  where
    never : Err refusal ≡ Ok s → ⊥
    never h = let z : ◌≡◌ {A = ℕ} 0 1 = cc in omega arith

accepted_inj : (s s' : Sections) → ◌≡◌ {A = Result Sections Refusal} (Ok s) (Ok s') → s ≡ s'
accepted_inj s s' e = cc

whole_of :
    (g : List ℕ) (a b end : ℕ) → flags_section g 128 0 ≡ Ok a → flags_section g 32 a ≡ Ok b → rules_section g (byte g 0) (byte g a) b ≡ Ok end → Whole g (sections_at g a b end)
whole_of g a b end first second third =
    let one = flags_section_to g 128 0 a first in
    let two = flags_section_to g 32 a b second in
    let three = rules_section_to g (byte g 0) (byte g a) b end third in
    let f : Each is_flag g (byte g 0) 1 a = each_to is_flag _ g (byte g 0) 1 a one.inside one.flags in
    let h : Each is_flag g (byte g a) (a + 1) b = each_to is_flag _ g (byte g a) (a + 1) b (omega (arith, two.inside)) two.flags in
    let p : a ≡ byte g 0 + 1 = omega (arith, f.past) in
    let q : b ≡ byte g 0 + byte g a + 2 = omega (arith, f.past, h.past) in
    record {
      classes_low = one.low;
      classes_high = one.high;
      categories_low = two.low;
      categories_high = two.high;
      rules_high = three.high;
      class_count = refl;
      category_count_lem = ap (byte g) (sym p);
      rule_count_lem = ap (byte g) (sym q);
      flags_is = omega (arith, f.past);
      first_is = omega (arith, f.past, h.past);
      first_inside = omega (arith, three.inside);
      inside = rules_inside g (byte g 0) (byte g a) [] (byte g b) (b + 1) end (omega (arith, three.inside)) three.rules;
      class_flags = λ i l. leb-true _ _ (f.good i l);
      category_flags = λ i l. leb-true _ _ (h.good i l);
      rules = three.rules;
    }

pub whole : (g : List ℕ) (s : Sections) → sections_of g ≡ Ok s → Whole g s
unfolding sections_of
whole g s e =
    let m = onward_to _ _ s e in
    let n = onward_to _ _ s m.2 in
    let o = onward_to _ _ s n.2 in
    rw (accepted_inj _ s o.2) at (whole_of g m.0 n.0 o.0 m.1 n.1 o.1)

-- accepted bytes are their three sections, to the end
pub accepted : (g : List ℕ) (s : Sections) → read_of g ≡ Ok s → (sections_of g ≡ Ok s) × (s.end ≡ length g)
unfolding read_of
accepted g s e = go (sections_of g) refl e
  where
    last : (x : Sections) (past : Bool) → ltb x.end (length g) ≡ past → cond past (Err (BytesAfterRules x.end)) (Ok x) ≡ Ok s → (x ≡ s) × (length g ≤ x.end)
    last x true q h = absurd (never h)
      where
        never : Err (BytesAfterRules x.end) ≡ Ok s → ⊥
        never h = let z : ◌≡◌ {A = ℕ} 0 1 = cc in omega arith
    last x false q h = (accepted_inj x s h, ltb-false _ _ q)

    go : (r : Result Sections Refusal) → sections_of g ≡ r → nothing_after g r ≡ Ok s → (sections_of g ≡ Ok s) × (s.end ≡ length g)
    go (Ok x) q h =
        let l = last x (ltb x.end (length g)) refl h in
        let r : sections_of g ≡ Ok s = q ∙ ap (λ (y : Sections). Ok y) l.0 in
        let u : s.end ≤ length g = (whole g s r).inside in
        let v : length g ≤ s.end = rw l.0 at l.1 in
        (r, omega arith)
    go (Err refusal) q h = absurd (never h)
      where
        never : Err refusal ≡ Ok s → ⊥
        never h = let z : ◌≡◌ {A = ℕ} 0 1 = cc in omega arith

module _ (g : List ℕ) (s : Sections) (e : Sectioned g s) where
  -- where rule p stands
  pub found : (p : ℕ) → p < s.rules → Found g s p (start_of g p s.first)
  unfolding grammar_of
  found p h =
      let r = rules_each g s.classes s.categories [] s.rules s.first s.end p h (whole g s e).rules in
      record { place = refl; is = sym (rules_nth g s.rules p s.first h); stands = r.stands; left = r.left; symbols = r.symbols }

  -- rule 0 stands first, and the next rule past this one
  pub found_first : 0 < s.rules → Found g s 0 s.first
  found_first h = rw (start_none g s.first) at (found 0 h)

  pub found_next : (p at : ℕ) → Found g s p at → p + 1 < s.rules → Found g s (p + 1) (after g at)
  found_next p at f h = rw (f.place, ← start_more g p s.first) (found (p + 1) h)

  -- the flags, where they stand
  pub class_flag_is : (t : ℕ) → t < s.classes → byte g (1 + t) ≡ get_or (grammar_of g s).classes t 0
  unfolding grammar_of
  class_flag_is t h = sym (part_at g s.classes 1 t h)

  pub category_flag_is : (a : ℕ) → a < s.categories → byte g (s.flags + a) ≡ get_or (grammar_of g s).categories a 0
  unfolding grammar_of
  category_flag_is a h = sym (part_at g s.categories s.flags a h)

-- what stands at a position is what the rule there has
module _ (g : List ℕ) (at : ℕ) (h : Stands g at) where
  pub left_is : byte g at ≡ (standing g at).left
  unfolding standing
  left_is = refl

  pub length_is : byte g (at + 1) ≡ length (standing g at).right
  unfolding standing
  length_is = sym (part_length g (byte g (at + 1)) (at + 2) h.inside)

  pub symbols_is : take (at + 2 + byte g (at + 1) - (at + 2)) (drop (at + 2) g) ≡ (standing g at).right
  unfolding standing
  symbols_is = let z : at + 2 + byte g (at + 1) - (at + 2) ≡ byte g (at + 1) = omega arith in rw z
