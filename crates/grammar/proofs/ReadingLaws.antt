-- Laws of `specs/Reading.antt`: one step of each definition, by the tests that led there.
use Rattle.std.proofs.Common.{Err, Ok, Result}
use Prim.Native.Nat.{ℕ, zero, suc, ◌+◌, ◌-◌, ◌≤◌, ◌<◌}
use mathlib.Core.Path.{◌≡◌, refl, ap, ◌∙◌}
use mathlib.Core.Bool.{Bool, true, false, not, cond}
use mathlib.Core.List.{List, [], ◌∷◌, ◌++◌}
use native.Mathlib.Omega.{arith}
use lib.ListN.{length}
use borrow.Author.Tests.{lt-ltb, le-ltb, ltb-true, leb-true}
use Rattle.std.proofs.lemmas.Bool.Decides.{nat_tests}
use Rattle.refusals.specs.declared.Refusal.{Refusal}
use Rattle.refusals.specs.declared.Refusal.TheVariants.{GrammarEndsEarly, RuleRepeated, BytesAfterRules}
use Rattle.derivation.specs.Grammar.{Rule}
use Rattle.grammar.specs.declared.reading.Sections.{Sections}
use Rattle.grammar.specs.Standing.{standing}
use Rattle.grammar.specs.Repeats.{is_repeated}
use Rattle.grammar.specs.Reading.{byte, have, must, then_read, each_from, flags_from, rule_from, rules_from, flags_section, rules_section, sections_at, sections_of, read_of}

-- a number above 0 is one more than the number before it
one_more : (n : ℕ) → 0 < n → n ≡ suc (n - 1)
one_more n h = omega arith

module _ (ok : ℕ → Bool) (fault : ℕ → Refusal) (g : List ℕ) where
  each_step : (count at : ℕ) → 0 < count → each_from ok fault g count at ≡ have g at (must (ok (byte g at)) (fault at) (each_from ok fault g (count - 1) (at + 1)))
  unfolding each_from
  each_step count at h = ap (λ (k : ℕ). each_from ok fault g k at) (one_more count h)

  pub each_none : (count at : ℕ) → count ≤ 0 → each_from ok fault g count at ≡ Ok at
  unfolding each_from
  each_none count at h = let z : count ≡ 0 = omega arith in rw z

  each_more : (count at : ℕ) → 0 < count → at < length g → ok (byte g at) ≡ true → each_from ok fault g count at ≡ each_from ok fault g (count - 1) (at + 1)
  each_more count at h l e = each_step count at h ∙ rw (lt-ltb at (length g) l, e)

  -- k bytes that pass the test, and those still to come
  pub each_past : (k count at : ℕ) → k ≤ count → at + k ≤ length g → ((i : ℕ) → i < k → ok (byte g (at + i)) ≡ true) → each_from ok fault g count at ≡ each_from ok fault g (count - k) (at + k)
  each_past zero count at l h good =
      let z : at + 0 ≡ at = omega arith in
      let m : count - 0 ≡ count = omega arith in
      rw (z, m)
  each_past (suc k) count at l h good =
      let z : at + 0 ≡ at = omega arith in
      let p : at + suc k ≡ at + 1 + k = omega arith in
      let m : count - suc k ≡ count - 1 - k = omega arith in
      each_more count at (omega arith) (omega arith) (rw z at (good 0 (omega arith)))
      ∙ rw (p, m) (each_past k (count - 1) (at + 1) (omega arith) (omega arith) (λ i j. let s : at + 1 + i ≡ at + suc i = omega arith in rw s (good (suc i) (omega arith))))

  -- after k bytes that passed: no byte, one that fails the test, one that passes it, and none left to read
  module _ (count at k : ℕ) where
    pub each_short : k < count → length g ≤ at + k → each_from ok fault g (count - k) (at + k) ≡ Err (GrammarEndsEarly (length g))
    each_short h l = each_step (count - k) (at + k) (omega arith) ∙ rw (le-ltb (at + k) (length g) l)

    pub each_bad : k < count → at + k < length g → ok (byte g (at + k)) ≡ false → each_from ok fault g (count - k) (at + k) ≡ Err (fault (at + k))
    each_bad h l e = each_step (count - k) (at + k) (omega arith) ∙ rw (lt-ltb (at + k) (length g) l, e)

    pub each_next : k < count → at + k < length g → ok (byte g (at + k)) ≡ true → each_from ok fault g (count - k) (at + k) ≡ each_from ok fault g (count - (k + 1)) (at + (k + 1))
    each_next h l e =
        let m : count - (k + 1) ≡ count - k - 1 = omega arith in
        let z : at + (k + 1) ≡ at + k + 1 = omega arith in
        rw (m, z) (each_more (count - k) (at + k) (omega arith) l e)

    pub each_last : k ≡ count → each_from ok fault g (count - k) (at + k) ≡ Ok (at + count)
    each_last e = each_none (count - k) (at + k) (omega arith) ∙ rw e refl

-- what each byte of a section's flags or of a rule's symbols leads to
pub ruleset each_byte = (nat_tests, each_short, each_bad, each_next, each_last)

module _ (g : List ℕ) (t n : ℕ) (earlier : List Rule) where
  pub rules_step :
      (count at : ℕ) → 0 < count →
      rules_from g t n earlier count at
      ≡ then_read (rule_from g t n at) (λ next. must (not (is_repeated (standing g at) earlier)) (RuleRepeated at) (rules_from g t n (earlier ++ (standing g at ∷ [])) (count - 1) next))
  unfolding rules_from
  rules_step count at h = ap (λ (k : ℕ). rules_from g t n earlier k at) (one_more count h)

  -- p rules of count were read, and none is left
  pub rules_none : (count p at : ℕ) → count ≤ p → rules_from g t n earlier (count - p) at ≡ Ok at
  unfolding rules_from
  rules_none count p at h = let z : count - p ≡ 0 = omega arith in rw z

  -- rule p, the next one, stops the reading, repeats an earlier one, or leads on
  pub rules_stop : (count p at : ℕ) (refusal : Refusal) → p < count → rule_from g t n at ≡ Err refusal → rules_from g t n earlier (count - p) at ≡ Err refusal
  rules_stop count p at refusal h e = rules_step (count - p) at (omega arith) ∙ rw e

  module _ (count p at next : ℕ) (h : p < count) (e : rule_from g t n at ≡ Ok next) where
    pub rules_repeat : is_repeated (standing g at) earlier ≡ true → rules_from g t n earlier (count - p) at ≡ Err (RuleRepeated at)
    rules_repeat same = rules_step (count - p) at (omega arith) ∙ rw (e, same)

    pub rules_more : is_repeated (standing g at) earlier ≡ false → rules_from g t n earlier (count - p) at ≡ rules_from g t n (earlier ++ (standing g at ∷ [])) (count - (p + 1)) next
    rules_more new =
        let z : count - (p + 1) ≡ count - p - 1 = omega arith in
        rules_step (count - p) at (omega arith) ∙ rw (e, new, z)

-- what a reading that goes on says: the test held
pub must_to : (ok : Bool) (p : Result ℕ Refusal) (refusal : Refusal) (next : ℕ) → cond ok p (Err refusal) ≡ Ok next → (ok ≡ true) × (p ≡ Ok next)
must_to true p refusal next e = (refl, e)
must_to false p refusal next e = absurd (never e)
  where
    never : Err refusal ≡ Ok next → ⊥
    never h = let z : ◌≡◌ {A = ℕ} 0 1 = cc in omega arith

-- a section of flags that was passed over
pub record FlagsSection (g : List ℕ) (most at next : ℕ) : Type 0 where
  pub inside : at < length g
  pub low : 1 ≤ byte g at
  pub high : byte g at ≤ most
  pub flags : flags_from g (byte g at) (at + 1) ≡ Ok next

pub flags_section_to : (g : List ℕ) (most at next : ℕ) → flags_section g most at ≡ Ok next → FlagsSection g most at next
unfolding flags_section
flags_section_to g most at next e =
    let h = must_to _ _ _ _ e in
    let l = must_to _ _ _ _ h.1 in
    let m = must_to _ _ _ _ l.1 in
    record { inside = ltb-true _ _ h.0; low = leb-true _ _ l.0; high = leb-true _ _ m.0; flags = m.1 }

-- a section of rules that was passed over
pub record RulesSection (g : List ℕ) (t n at next : ℕ) : Type 0 where
  pub inside : at < length g
  pub high : byte g at ≤ 128
  pub rules : rules_from g t n [] (byte g at) (at + 1) ≡ Ok next

pub rules_section_to : (g : List ℕ) (t n at next : ℕ) → rules_section g t n at ≡ Ok next → RulesSection g t n at next
unfolding rules_section
rules_section_to g t n at next e =
    let h = must_to _ _ _ _ e in
    let m = must_to _ _ _ _ h.1 in
    record { inside = ltb-true _ _ h.0; high = leb-true _ _ m.0; rules = m.1 }

-- the sections, by what each of them gives
module _ (g : List ℕ) where
  pub sections_first : (refusal : Refusal) → flags_section g 128 0 ≡ Err refusal → sections_of g ≡ Err refusal
  unfolding sections_of
  sections_first refusal e = rw e

  module _ (a : ℕ) (ha : flags_section g 128 0 ≡ Ok a) where
    pub sections_second : (refusal : Refusal) → flags_section g 32 a ≡ Err refusal → sections_of g ≡ Err refusal
    unfolding sections_of
    sections_second refusal e = rw (ha, e)

    module _ (b : ℕ) (hb : flags_section g 32 a ≡ Ok b) where
      pub sections_third : (refusal : Refusal) → rules_section g (byte g 0) (byte g a) b ≡ Err refusal → sections_of g ≡ Err refusal
      unfolding sections_of
      sections_third refusal e = rw (ha, hb, e)

      pub sections_whole : (end : ℕ) → rules_section g (byte g 0) (byte g a) b ≡ Ok end → sections_of g ≡ Ok (sections_at g a b end)
      unfolding sections_of
      sections_whole end e = rw (ha, hb, e)

-- the reading, by what the sections give
module _ (g : List ℕ) where
  pub read_refused : (refusal : Refusal) → sections_of g ≡ Err refusal → read_of g ≡ Err refusal
  unfolding read_of
  read_refused refusal e = rw e

  pub read_more : (s : Sections) → sections_of g ≡ Ok s → s.end < length g → read_of g ≡ Err (BytesAfterRules s.end)
  unfolding read_of
  read_more s e h = rw (e, lt-ltb s.end (length g) h)

  pub read_whole : (s : Sections) → sections_of g ≡ Ok s → length g ≤ s.end → read_of g ≡ Ok s
  unfolding read_of
  read_whole s e h = rw (e, le-ltb s.end (length g) h)
