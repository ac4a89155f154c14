-- Bytes that were accepted: the encoding of the grammar that they stand for, which is within the limits and repeats no rule.
use Rattle.std.proofs.Common.{Ok}
use Prim.Native.Nat.{ℕ, zero, suc, ◌+◌, ◌-◌, ◌≤◌, ◌<◌}
use mathlib.Core.Path.{◌≡◌, refl, ap, sym, ◌∙◌}
use mathlib.Core.Bool.{true, false≢true}
use mathlib.Core.List.{List, [], ◌∷◌, ◌++◌}
use native.Mathlib.Numerals.{add-one}
use native.Mathlib.Omega.{arith}
use lib.ListN.{take, drop, length, get_or, take-append-drop}
use lib.Seq.{drop-cons, drop-drop, drop-length}
use borrow.Author.Tests.{ltb-true, lt-ltb, le-ltb}
use Rattle.derivation.specs.Grammar.{Rule, Grammar, Proper, rule, rule_at}
use Rattle.grammar.specs.declared.reading.Sections.{Sections}
use Rattle.grammar.specs.Reading.{byte, is_symbol, rules_from, sections_of, read_of}
use Rattle.grammar.specs.Value.{standing, after, rules_at, start_of, grammar_of, Stands}
use Rattle.grammar.specs.Limits.{FlagsWithin, SymbolWithin, RuleWithin, WithinLimits}
use Rattle.grammar.specs.Repeats.{Distinct}
use Rattle.grammar.specs.Encoding.{encode_rule, encode_rules, encode}
use Rattle.grammar.proofs.Parts.{part_length, part_at}
use Rattle.grammar.proofs.Accepted.{RulePassed, rules_to, rules_each, rules_new, rules_nth, whole, accepted}
use Rattle.grammar.proofs.RepeatLaws.{repeats_one}

-- as many bytes as `count`, from a position
module _ (g : List ℕ) (count at : ℕ) (inside : at + count ≤ length g) where
  part : length (take count (drop at g)) ≡ count
  part = part_length g count at inside

  flags_within : ((i : ℕ) → i < count → byte g (at + i) ≤ 1) → FlagsWithin (take count (drop at g))
  flags_within good i l = let c : i < count = rw part at l in rw (part_at g count at i c) (good i c)

  -- they stand after their count, and the other bytes after them
  pub counted : (start : ℕ) → suc start ≡ at → byte g start ≡ count → drop start g ≡ (length (take count (drop at g)) ∷ take count (drop at g)) ++ drop (at + count) g
  counted start e c =
      drop-cons g start 0 (omega arith)
      ∙ rw (e, c, part) (ap (λ (rest : List ℕ). count ∷ rest) (sym (take-append-drop count (drop at g)) ∙ rw (drop-drop count at g)))

-- rules that stand in the bytes, each after the other
module _ (g : List ℕ) where
  rule_encoded : (at : ℕ) → Stands g at → drop at g ≡ encode_rule (standing g at) ++ drop (after g at) g
  unfolding standing
  rule_encoded at s =
      let k = byte g (at + 1) in
      let right = take k (drop (at + 2) g) in
      let next : drop (suc at) g ≡ length right ∷ (right ++ drop (after g at) g) = rw (← add-one at) (counted g k (at + 2) s.inside (at + 1) (omega arith) refl) in
      drop-cons g at 0 (omega arith) ∙ rw next

  rules_encoded : (t n : ℕ) (earlier : List Rule) (count at : ℕ) → rules_from g t n earlier count at ≡ Ok (length g) → drop at g ≡ encode_rules (rules_at g count at)
  unfolding rules_from rules_at encode_rules
  rules_encoded t n earlier zero at e = let z : at ≡ length g = cc in rw z (drop-length g)
  rules_encoded t n earlier (suc count) at e =
      let r = rules_to g t n earlier (suc count) at (length g) (omega arith) e in
      let z : suc count - 1 ≡ count = omega arith in
      rule_encoded at r.0.stands ∙ ap (λ (rest : List ℕ). encode_rule (standing g at) ++ rest) (rules_encoded t n (earlier ++ (standing g at ∷ [])) count (after g at) (rw z at r.2))

  rules_length : (count at : ℕ) → length (rules_at g count at) ≡ count
  unfolding rules_at
  rules_length zero at = refl
  rules_length (suc count) at = ap suc (rules_length count (after g at))

-- what passed the tests of t classes and n categories is within the limits of a grammar that has as many
module _ (G : Grammar) (t n : ℕ) (classes : length G.classes ≡ t) (categories : length G.categories ≡ n) where
  pub symbol_within : (b : ℕ) → is_symbol t n b ≡ true → SymbolWithin G b
  symbol_within b e = record {
    class = λ l. rw classes (ltb-true b t (rw (lt-ltb b 128 l) at e));
    category = λ l. rw categories (ltb-true (b - 128) n (rw (le-ltb b 128 l) at e));
  }

  rule_within : (g : List ℕ) (at : ℕ) → RulePassed g t n at → RuleWithin G (standing g at)
  unfolding standing
  rule_within g at r =
      let k = byte g (at + 1) in
      let inside : at + 2 + k ≤ length g = r.stands.inside in
      let long : length (take k (drop (at + 2) g)) ≡ k = part_length g k (at + 2) inside in
      record {
        left = rw categories r.left;
        long = rw long r.stands.long;
        symbols = λ d l. let c : d < k = rw long at l in rw (part_at g k (at + 2) d c) (symbol_within (byte g (at + 2 + d)) (r.symbols d c));
      }

-- sections that were read: the counts of their grammar, and its limits
module _ (b : List ℕ) (s : Sections) (read : sections_of b ≡ Ok s) where
  classes_inside : 1 + s.classes ≤ length b
  classes_inside = let w = whole b s read in omega (arith, w.first_is, w.first_inside)

  categories_inside : s.flags + s.categories ≤ length b
  categories_inside = let w = whole b s read in omega (arith, w.flags_is, w.first_is, w.first_inside)

  pub class_count : length (grammar_of b s).classes ≡ s.classes
  unfolding grammar_of
  class_count = part_length b s.classes 1 classes_inside

  pub category_count_lem : length (grammar_of b s).categories ≡ s.categories
  unfolding grammar_of
  category_count_lem = part_length b s.categories s.flags categories_inside

  pub rule_count_lem : length (grammar_of b s).rules ≡ s.rules
  unfolding grammar_of
  rule_count_lem = rules_length b s.rules s.first

  each_within : (p : ℕ) → p < s.rules → RuleWithin (grammar_of b s) (rule_at (grammar_of b s) p)
  unfolding grammar_of
  each_within p l =
      rw (rules_nth b s.rules p s.first l)
      (rule_within (grammar_of b s) s.classes s.categories class_count category_count_lem b (start_of b p s.first)
      (rules_each b s.classes s.categories [] s.rules s.first s.end p l (whole b s read).rules))

  pub sections_within : WithinLimits (grammar_of b s)
  unfolding grammar_of
  sections_within =
      let w = whole b s read in
      record {
        some_class = rw class_count w.classes_low;
        classes = rw class_count w.classes_high;
        class_flags = flags_within b s.classes 1 classes_inside w.class_flags;
        some_category = rw category_count_lem w.categories_low;
        categories = rw category_count_lem w.categories_high;
        category_flags = flags_within b s.categories s.flags categories_inside w.category_flags;
        rules = rw rule_count_lem w.rules_high;
        each = λ p l. each_within p (rw rule_count_lem at l);
      }

  -- its rules all differ
  pub sections_distinct : Distinct (grammar_of b s)
  unfolding grammar_of
  sections_distinct p q l h e =
      let k : q < s.rules = rw rule_count_lem at h in
      let at = s.first in
      let stands : get_or (rules_at b q at) p (rule 0 []) ≡ standing b (start_of b q at) =
      rules_nth b q p at l ∙ sym (rules_nth b s.rules p at (omega arith)) ∙ e ∙ rules_nth b s.rules q at k in
      let new = rules_new b s.classes s.categories [] s.rules at s.end q k (whole b s read).rules in
      false≢true (sym new ∙ repeats_one (standing b (start_of b q at)) (rules_at b q at) p (rw rules_length (omega arith)) stands)

  -- the theory of derivations asks for this
  pub sections_proper : Proper (grammar_of b s)
  sections_proper = record { lefts = λ p l. (sections_within.each p l).left }

  rules_section_encoded : s.end ≡ length b → drop (s.flags + s.categories) b ≡ length (rules_at b s.rules s.first) ∷ encode_rules (rules_at b s.rules s.first)
  rules_section_encoded e =
      let w = whole b s read in
      let at : s.flags + s.categories ≡ s.classes + s.categories + 2 = omega (arith, w.flags_is) in
      let next : suc (s.classes + s.categories + 2) ≡ s.first = omega (arith, w.first_is) in
      let rules : rules_from b s.classes s.categories [] s.rules s.first ≡ Ok (length b) = rw e at w.rules in
      rw (at, rules_length b s.rules s.first)
      (drop-cons b (s.classes + s.categories + 2) 0 (omega (arith, w.first_inside))
      ∙ rw (next, w.rule_count_lem, rules_encoded b s.classes s.categories [] s.rules s.first rules))

  sections_encode : s.end ≡ length b → b ≡ encode (grammar_of b s)
  unfolding encode grammar_of
  sections_encode e =
      let w = whole b s read in
      let at : 1 + s.classes ≡ s.classes + 1 = omega arith in
      counted b s.classes 1 classes_inside 0 refl w.class_count
      ∙ rw (at, counted b s.categories s.flags categories_inside (s.classes + 1) (omega (arith, w.flags_is)) w.category_count_lem, rules_section_encoded e)

-- accepted bytes are the encoding of the grammar that is read, it is within the limits and its rules all differ
pub accepted_encodes : (b : List ℕ) (s : Sections) → read_of b ≡ Ok s → WithinLimits (grammar_of b s) × Distinct (grammar_of b s) × (b ≡ encode (grammar_of b s))
accepted_encodes b s e = let a = accepted b s e in (sections_within b s a.0, sections_distinct b s a.0, sections_encode b s a.0 a.1)

pub accepted_proper : (b : List ℕ) (s : Sections) → read_of b ≡ Ok s → Proper (grammar_of b s)
accepted_proper b s e = sections_proper b s (accepted b s e).0
