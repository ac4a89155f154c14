-- Bytes are accepted exactly when they are the encoding of a grammar within the limits whose rules all differ, and that grammar is the value read.
use Rattle.std.proofs.Common.{Err, Ok, Result}
use Prim.Native.Nat.{ℕ, zero, suc, ◌+◌, ◌-◌, ◌≤◌, ◌<◌}
use mathlib.Core.Path.{◌≡◌, refl, ap, sym, ◌∙◌}
use mathlib.Core.Logic.{◌↔◌, ◌⊎◌, inl, inr}
use mathlib.Core.Bool.{Bool, true, false, not, cond}
use mathlib.Core.List.{List, [], ◌∷◌, ◌++◌, append_assoc, append-nil}
use native.Mathlib.Decide.{dec_lt}
use native.Mathlib.Omega.{arith}
use lib.ListN.{take, drop, length, get_or, length-append, length-drop, get_or-append}
use lib.Seq.{get_or-drop, drop-drop, take-append_seam, drop-append_seam}
use lib.Dec.{ltb}
use borrow.Author.Tests.{ltb-true, ltb-false, lt-ltb, le-leb}
use Rattle.refusals.specs.declared.Row.{Row}
use Rattle.refusals.specs.declared.Refusal.{Refusal}
use Rattle.refusals.specs.declared.Refusal.TheVariants.{RuleRepeated}
use Rattle.refusals.specs.Told.{answered, refused}
use Rattle.derivation.specs.Grammar.{Rule, Grammar, rule}
use Rattle.grammar.specs.declared.reading.Sections.{Sections}
use Rattle.grammar.specs.Reading.{byte, must, each_from, is_flag, is_symbol, rule_from, rules_from, flags_section, rules_section, sections_at, sections_of, read_of}
use Rattle.grammar.specs.Told.{reading_told}
use Rattle.grammar.specs.Value.{standing, after, rules_at, grammar_of}
use Rattle.grammar.specs.Limits.{FlagsWithin, SymbolWithin, RuleWithin, WithinLimits}
use Rattle.grammar.specs.Repeats.{is_repeated, Distinct}
use Rattle.grammar.specs.Encoding.{encode_rule, encode_rules, encode}
use Rattle.grammar.specs.Beginning.{FlagsSoFar, bytes_so_far}
use Rattle.grammar.proofs.ReadingLaws.{each_none, each_past, rules_none, rules_step, sections_third, sections_whole, read_refused, read_whole}
use Rattle.grammar.proofs.RepeatLaws.{distinct_new}
use Rattle.grammar.proofs.Accepted.{accepted}
use Rattle.grammar.proofs.Encoded.{class_count, category_count_lem, rule_count_lem, accepted_encodes}

-- a byte that stands at a position, and the bytes after it
module _ (g rest : List ℕ) (y at : ℕ) (e : drop at g ≡ y ∷ rest) where
  pub byte_inside : at < length g
  byte_inside = let l : length g - at ≡ suc (length rest) = sym (length-drop at g) ∙ ap length e in omega arith

  pub byte_is : byte g at ≡ y
  byte_is = let z : at ≡ at + 0 = omega arith in rw z (sym (get_or-drop at g 0 0) ∙ ap (λ (l : List ℕ). get_or l 0 0) e)

  pub byte_after : drop (at + 1) g ≡ rest
  byte_after = sym (drop-drop 1 at g) ∙ ap (drop 1) e

-- bytes that stand at a position
module _ (g x rest : List ℕ) (at : ℕ) (e : drop at g ≡ x ++ rest) where
  pub bytes_are : take (length x) (drop at g) ≡ x
  bytes_are = rw e (take-append_seam x rest)

  bytes_at : (i : ℕ) → i < length x → byte g (at + i) ≡ get_or x i 0
  bytes_at i l = sym (get_or-drop at g i 0) ∙ rw e (get_or-append x rest 0 i l)

  pub bytes_after : drop (at + length x) g ≡ rest
  bytes_after = sym (drop-drop (length x) at g) ∙ rw e (drop-append_seam x rest)

  pub bytes_inside : at ≤ length g → at + length x ≤ length g
  bytes_inside h = let l : length g - at ≡ length x + length rest = sym (length-drop at g) ∙ rw e (length-append x rest) in omega arith

-- bytes that stand at a position and pass the test are passed over
module _ (ok : ℕ → Bool) (fault : ℕ → Refusal) (g x rest : List ℕ) (at : ℕ) (e : drop at g ≡ x ++ rest) (h : at ≤ length g) (good : (i : ℕ) → i < length x → ok (get_or x i 0) ≡ true) where
  pub bytes_past : (count : ℕ) → length x ≤ count → each_from ok fault g count at ≡ each_from ok fault g (count - length x) (at + length x)
  bytes_past count l = each_past ok fault g (length x) count at l (bytes_inside g x rest at e h) (λ i k. rw (bytes_at g x rest at e i k) (good i k))

  bytes_passed : each_from ok fault g (length x) at ≡ Ok (at + length x)
  bytes_passed = bytes_past (length x) (omega arith) ∙ each_none ok fault g (length x - length x) (at + length x) (omega arith)

pub symbol_passed : (G : Grammar) (b : ℕ) → SymbolWithin G b → is_symbol (length G.classes) (length G.categories) b ≡ true
symbol_passed G b s = go (ltb b 128) refl
  where
    go : (low : Bool) → ltb b 128 ≡ low → cond low (ltb b (length G.classes)) (ltb (b - 128) (length G.categories)) ≡ true
    go true e = lt-ltb b (length G.classes) (s.class (ltb-true b 128 e))
    go false e = lt-ltb (b - 128) (length G.categories) (s.category (ltb-false b 128 e))

-- a section of flags that stands at a position
module _ (g x rest : List ℕ) (at : ℕ) (e : drop at g ≡ (length x ∷ x) ++ rest) where
  flags_next : drop (at + 1) g ≡ x ++ rest
  flags_next = byte_after g (x ++ rest) (length x) at e

  count_is : byte g at ≡ length x
  count_is = byte_is g (x ++ rest) (length x) at e

  flags_are : take (byte g at) (drop (at + 1) g) ≡ x
  flags_are = rw (count_is, bytes_are g x rest (at + 1) flags_next)

  flags_after : drop (at + 1 + length x) g ≡ rest
  flags_after = bytes_after g x rest (at + 1) flags_next

  flags_section_passed : {most : ℕ} → FlagsSoFar most (length x) x → flags_section g most at ≡ Ok (at + 1 + length x)
  unfolding flags_section
  flags_section_passed {most} w =
      let inside : at < length g = byte_inside g (x ++ rest) (length x) at e in
      rw (lt-ltb at (length g) inside, count_is, le-leb 1 (length x) w.low, le-leb (length x) most w.high)
      (bytes_passed is_flag _ g x rest (at + 1) flags_next (omega arith) (λ i l. le-leb (get_or x i 0) 1 (w.within i l)))

-- a rule that stands at a position
module _ (g rest : List ℕ) (r : Rule) (at : ℕ) (e : drop at g ≡ encode_rule r ++ rest) where
  length_next : drop (at + 1) g ≡ length r.right ∷ (r.right ++ rest)
  length_next = byte_after g (length r.right ∷ (r.right ++ rest)) r.left at e

  left_is : byte g at ≡ r.left
  left_is = byte_is g (length r.right ∷ (r.right ++ rest)) r.left at e

  length_is : byte g (at + 1) ≡ length r.right
  length_is = byte_is g (r.right ++ rest) (length r.right) (at + 1) length_next

  length_inside : at + 1 < length g
  length_inside = byte_inside g (r.right ++ rest) (length r.right) (at + 1) length_next

  right_next : drop (at + 2) g ≡ r.right ++ rest
  right_next = let z : at + 2 ≡ at + 1 + 1 = omega arith in rw z (byte_after g (r.right ++ rest) (length r.right) (at + 1) length_next)

  pub rule_is : standing g at ≡ r
  unfolding standing
  rule_is = rw (left_is, length_is, bytes_are g r.right rest (at + 2) right_next)

  rule_after : drop (after g at) g ≡ rest
  rule_after = rw length_is (bytes_after g r.right rest (at + 2) right_next)

  pub rule_passed : (G : Grammar) → RuleWithin G r → rule_from g (length G.classes) (length G.categories) at ≡ Ok (after g at)
  unfolding rule_from
  rule_passed G w =
      let l = length_inside in
      rw (
        lt-ltb at (length g) (omega arith),
        left_is,
        lt-ltb r.left (length G.categories) w.left,
        lt-ltb (at + 1) (length g) l,
        length_is,
        le-leb (length r.right) 8 w.long,
      )
      (bytes_passed (is_symbol (length G.classes) (length G.categories)) _ g r.right rest (at + 2) right_next (omega arith)
      (λ d k. symbol_passed G (get_or r.right d 0) (w.symbols d k)))

-- rules that stand at a position, all new, are passed over, and then come the others of P
rules_past :
    (G : Grammar) (g : List ℕ) (earlier rs : List Rule) (rest : List ℕ) (P at : ℕ) → drop at g ≡ encode_rules rs ++ rest →
    ((p : ℕ) → p < length rs → RuleWithin G (get_or rs p (rule 0 []))) → ((p : ℕ) → p < length rs → is_repeated (get_or rs p (rule 0 [])) (earlier ++ take p rs) ≡ false) → length rs ≤ P →
    rules_from g (length G.classes) (length G.categories) earlier P at
    ≡ rules_from g (length G.classes) (length G.categories) (earlier ++ rs) (P - length rs) (at + length (encode_rules rs))
unfolding encode_rules
rules_past G g earlier [] rest P at e each new l =
    let z : at + 0 ≡ at = omega arith in
    let m : P - 0 ≡ P = omega arith in
    rw (z, m, append-nil earlier)
rules_past G g earlier (r ∷ rs) rest P at e each new l =
    let more = encode_rules rs ++ rest in
    let f : drop at g ≡ encode_rule r ++ more = e ∙ append_assoc (encode_rule r) (encode_rules rs) rest in
    let m : P - suc (length rs) ≡ P - 1 - length rs = omega arith in
    let p : at + length (encode_rule r ++ encode_rules rs) ≡ after g at + length (encode_rules rs) = omega (arith, length-append (encode_rule r) (encode_rules rs), length_is g more r at f) in
    let first : is_repeated r earlier ≡ false = rw (append-nil earlier) at (new 0 (omega arith)) in
    rules_step g (length G.classes) (length G.categories) earlier P at (omega arith)
    ∙ rw (rule_passed g more r at f G (each 0 (omega arith)), rule_is g more r at f, first, m, p, ← append_assoc earlier (r ∷ []) rs)
    (rules_past G g (earlier ++ (r ∷ [])) rs rest (P - 1) (after g at) (rule_after g more r at f) (λ i j. each (suc i) (omega arith))
    (λ i j. rw (append_assoc earlier (r ∷ []) (take i rs)) (new (suc i) (omega arith))) (omega arith))

rules_are : (g : List ℕ) (rs : List Rule) (rest : List ℕ) (at : ℕ) → drop at g ≡ encode_rules rs ++ rest → rules_at g (length rs) at ≡ rs
unfolding rules_at encode_rules
rules_are g [] rest at e = refl
rules_are g (r ∷ rs) rest at e =
    let more = encode_rules rs ++ rest in
    let f : drop at g ≡ encode_rule r ++ more = e ∙ append_assoc (encode_rule r) (encode_rules rs) rest in
    rw (rule_is g more r at f, rules_are g rs rest (after g at) (rule_after g more r at f))

-- bytes that begin with all classes
module _ (g f rest : List ℕ) (e : g ≡ (length f ∷ f) ++ rest) where
  pub classes_next : drop (1 + length f) g ≡ rest
  classes_next = flags_after g f rest 0 e

  pub classes_to : FlagsSoFar 128 (length f) f → flags_section g 128 0 ≡ Ok (1 + length f)
  classes_to = flags_section_passed g f rest 0 e

-- bytes that begin with all classes and categories
module _ (g f h rest : List ℕ) (e : g ≡ (length f ∷ f) ++ ((length h ∷ h) ++ rest)) where
  pub categories_next : drop (1 + length f + 1 + length h) g ≡ rest
  categories_next = flags_after g h rest (1 + length f) (classes_next g f _ e)

  pub categories_to : FlagsSoFar 32 (length h) h → flags_section g 32 (1 + length f) ≡ Ok (1 + length f + 1 + length h)
  categories_to = flags_section_passed g h rest (1 + length f) (classes_next g f _ e)

  pub counts_are : (byte g 0 ≡ length f) × (byte g (1 + length f) ≡ length h)
  counts_are = (count_is g f _ 0 e, count_is g h rest (1 + length f) (classes_next g f _ e))

pub classes_within : {G : Grammar} → WithinLimits G → FlagsSoFar 128 (length G.classes) G.classes
classes_within w = record { low = w.some_class; high = w.classes; within = w.class_flags }

pub categories_within : {G : Grammar} → WithinLimits G → FlagsSoFar 32 (length G.categories) G.categories
categories_within w = record { low = w.some_category; high = w.categories; within = w.category_flags }

-- where the count of rules stands
abbrev rule_count_at : Grammar → ℕ
rule_count_at G = 1 + length G.classes + 1 + length G.categories

-- bytes that begin with all classes and categories, P, and the rules of G
module _ (G : Grammar) (P : ℕ) (g rest : List ℕ) (e : g ≡ bytes_so_far G P ++ rest) where
  pub sections_are : g ≡ (length G.classes ∷ G.classes) ++ ((length G.categories ∷ G.categories) ++ (P ∷ (encode_rules G.rules ++ rest)))
  sections_are = e ∙ simp append_assoc

  rules_section_next : drop (rule_count_at G) g ≡ P ∷ (encode_rules G.rules ++ rest)
  rules_section_next = categories_next g G.classes G.categories _ sections_are

  rule_count_is : byte g (rule_count_at G) ≡ P
  rule_count_is = byte_is g (encode_rules G.rules ++ rest) P (rule_count_at G) rules_section_next

  rules_next : drop (rule_count_at G + 1) g ≡ encode_rules G.rules ++ rest
  rules_next = byte_after g (encode_rules G.rules ++ rest) P (rule_count_at G) rules_section_next

  rules_end : rule_count_at G + 1 + length (encode_rules G.rules) ≡ length (bytes_so_far G P)
  rules_end =
      omega (arith, length-append G.classes ((length G.categories ∷ G.categories) ++ (P ∷ encode_rules G.rules)), length-append G.categories (P ∷ encode_rules G.rules))

  rules_section_is : P ≤ 128 → rules_section g (length G.classes) (length G.categories) (rule_count_at G) ≡ rules_from g (length G.classes) (length G.categories) [] P (rule_count_at G + 1)
  unfolding rules_section
  rules_section_is high =
      let inside : rule_count_at G < length g = byte_inside g (encode_rules G.rules ++ rest) P (rule_count_at G) rules_section_next in
      rw (lt-ltb (rule_count_at G) (length g) inside, rule_count_is, le-leb P 128 high)

  pub rules_section_past :
      WithinLimits G → Distinct G → length G.rules ≤ P → P ≤ 128 →
      rules_section g (length G.classes) (length G.categories) (rule_count_at G)
      ≡ rules_from g (length G.classes) (length G.categories) G.rules (P - length G.rules) (length (bytes_so_far G P))
  rules_section_past within distinct fits high =
      rules_section_is high ∙ rw rules_end at (rules_past G g [] G.rules rest P (rule_count_at G + 1) rules_next within.each (distinct_new G distinct) fits)

  -- the sections, by what the section of rules gives
  sections_to : WithinLimits G → (end : ℕ) → rules_section g (length G.classes) (length G.categories) (rule_count_at G) ≡ Ok end → sections_of g ≡ Ok (sections_at g (1 + length G.classes) (rule_count_at G) end)
  sections_to within end rules =
      let c = counts_are g G.classes G.categories _ sections_are in
      sections_whole g
      (1 + length G.classes) (classes_to g G.classes _ sections_are (classes_within within))
      (rule_count_at G) (categories_to g G.classes G.categories _ sections_are (categories_within within))
      end (rw (c.0, c.1) rules)

  pub sections_stop : WithinLimits G → (refusal : Refusal) → rules_section g (length G.classes) (length G.categories) (rule_count_at G) ≡ Err refusal → sections_of g ≡ Err refusal
  sections_stop within refusal rules =
      let c = counts_are g G.classes G.categories _ sections_are in
      sections_third g
      (1 + length G.classes) (classes_to g G.classes _ sections_are (classes_within within))
      (rule_count_at G) (categories_to g G.classes G.categories _ sections_are (categories_within within))
      refusal (rw (c.0, c.1) rules)

-- the counts and offsets of bytes that begin with an encoding
abbrev sections_encoded : Grammar → List ℕ → Sections
sections_encoded G g = sections_at g (1 + length G.classes) (rule_count_at G) (length (encode G))

-- bytes that begin with an encoding: its sections are read, and stand for the grammar
module _ (G : Grammar) (g rest : List ℕ) (e : g ≡ encode G ++ rest) where
  pub encoding_sections : WithinLimits G → Distinct G → sections_of g ≡ Ok (sections_encoded G g)
  unfolding encode
  encoding_sections within distinct =
      let P = length G.rules in
      sections_to G P g rest e within (length (bytes_so_far G P))
      (rules_section_past G P g rest e within distinct (omega arith) within.rules ∙ rules_none g (length G.classes) (length G.categories) G.rules P P (length (bytes_so_far G P)) (omega arith))

  encoding_value : grammar_of g (sections_encoded G g) ≡ G
  unfolding encode grammar_of
  encoding_value =
      let P = length G.rules in
      let parts = sections_are G P g rest e in
      rw (
        flags_are g G.classes _ 0 parts,
        flags_are g G.categories _ (1 + length G.classes) (classes_next g G.classes _ parts),
        rule_count_is G P g rest e,
        rules_are g G.rules rest (rule_count_at G + 1) (rules_next G P g rest e),
      )

encoding_read : (G : Grammar) → WithinLimits G → Distinct G → (b : List ℕ) → b ≡ encode G → (s : Sections) × (read_of b ≡ Ok s) × (grammar_of b s ≡ G)
encoding_read G within distinct b encoded =
    let e : b ≡ encode G ++ [] = encoded ∙ sym (append-nil (encode G)) in
    let s = sections_encoded G b in
    (s, read_whole b s (encoding_sections G b [] e within distinct) (omega (arith, ap length encoded)), encoding_value G b [] e)

-- the encoding of a grammar within the limits whose rules all differ is accepted, and that grammar is read
pub encoding_accepted : (G : Grammar) → WithinLimits G → Distinct G → (s : Sections) × (read_of (encode G) ≡ Ok s) × (grammar_of (encode G) s ≡ G)
encoding_accepted G within distinct = encoding_read G within distinct (encode G) refl

-- bytes are accepted exactly when they are the encoding of a grammar within the limits whose rules all differ
pub accepted_iff : (b : List ℕ) → ((s : Sections) × (read_of b ≡ Ok s)) ↔ ((G : Grammar) × WithinLimits G × Distinct G × (b ≡ encode G))
accepted_iff b = (
  λ r. let e = accepted_encodes b r.0 r.1 in (grammar_of b r.0, e.0, e.1, e.2),
  λ r. let e = encoding_read r.0 r.1 r.2 b r.3 in (e.0, e.1),
)

-- the grammar of accepted bytes is one, the value read
pub value_read : (b : List ℕ) (s : Sections) (G : Grammar) → read_of b ≡ Ok s → b ≡ encode G → WithinLimits G → Distinct G → grammar_of b s ≡ G
value_read b s G read encoded within distinct =
    let r = encoding_read G within distinct b encoded in
    let both : Ok s ≡ Ok r.0 = sym read ∙ r.1 in
    let same : s ≡ r.0 = cc in
    rw same r.2

-- of an encoding T, N and P are told
pub encoding_told : (G : Grammar) → WithinLimits G → Distinct G → reading_told (read_of (encode G)) ≡ answered (length G.classes ∷ length G.categories ∷ length G.rules ∷ [])
encoding_told G within distinct =
    let r = encoding_accepted G within distinct in
    let read = (accepted (encode G) r.0 r.1).0 in
    let classes = rw r.2 at (class_count (encode G) r.0 read) in
    let categories = rw r.2 at (category_count_lem (encode G) r.0 read) in
    let rules = rw r.2 at (rule_count_lem (encode G) r.0 read) in
    rw (r.1, classes, categories, rules)

-- rules that stand at a position, each within the limits: they are passed over, or one repeats an earlier one
rules_or_repeat :
    (G : Grammar) (g : List ℕ) (earlier rs : List Rule) (rest : List ℕ) (at : ℕ) → drop at g ≡ encode_rules rs ++ rest → ((p : ℕ) → p < length rs → RuleWithin G (get_or rs p (rule 0 []))) →
    (rules_from g (length G.classes) (length G.categories) earlier (length rs) at ≡ Ok (at + length (encode_rules rs)))
    ⊎ ((place : ℕ) × (rules_from g (length G.classes) (length G.categories) earlier (length rs) at ≡ Err (RuleRepeated place)))
unfolding encode_rules rules_from
rules_or_repeat G g earlier [] rest at e each = let z : at + 0 ≡ at = omega arith in inl (rw z)
rules_or_repeat G g earlier (r ∷ rs) rest at e each =
    let more = encode_rules rs ++ rest in
    let f : drop at g ≡ encode_rule r ++ more = e ∙ append_assoc (encode_rule r) (encode_rules rs) rest in
    let p : at + length (encode_rule r ++ encode_rules rs) ≡ after g at + length (encode_rules rs) = omega (arith, length-append (encode_rule r) (encode_rules rs), length_is g more r at f) in
    rw (rule_passed g more r at f G (each 0 (omega arith)), p)
    (go (is_repeated (standing g at) earlier) (rules_or_repeat G g (earlier ++ (standing g at ∷ [])) rs rest (after g at) (rule_after g more r at f) (λ i j. each (suc i) (omega arith))))
  where
    go : (same : Bool) {later : (Result ℕ Refusal)} {end : ℕ} → (later ≡ Ok end) ⊎ ((place : ℕ) × (later ≡ Err (RuleRepeated place))) →
        (must (not same) (RuleRepeated at) later ≡ Ok end) ⊎ ((place : ℕ) × (must (not same) (RuleRepeated at) later ≡ Err (RuleRepeated place)))
    go true x = inr (at, refl)
    go false x = x

-- so an encoding within the limits is refused by 14 alone
pub encoding_refused : (G : Grammar) → WithinLimits G → (row : Row) → reading_told (read_of (encode G)) ≡ refused row → row.number ≡ 14
unfolding encode
encoding_refused G within row told = go (rules_or_repeat G g [] G.rules [] (rule_count_at G + 1) (rules_next G P g [] e) within.each)
  where
    P : ℕ
    P = length G.rules

    g : List ℕ
    g = bytes_so_far G P

    e : g ≡ g ++ []
    e = sym (append-nil g)

    go : (rules_from g (length G.classes) (length G.categories) [] P (rule_count_at G + 1) ≡ Ok (rule_count_at G + 1 + length (encode_rules G.rules)))
        ⊎ ((place : ℕ) × (rules_from g (length G.classes) (length G.categories) [] P (rule_count_at G + 1) ≡ Err (RuleRepeated place))) →
        row.number ≡ 14
    go (inl x) =
        let sections = sections_to G P g [] e within _ (rules_section_is G P g [] e within.rules ∙ x) in
        let read = read_whole g _ sections (omega (arith, rules_end G P g [] e)) in
        absurd (let z : ◌≡◌ {A = ℕ} 0 1 = cc in omega arith)
    go (inr x) =
        let read = read_refused g _ (sections_stop G P g [] e within _ (rules_section_is G P g [] e within.rules ∙ x.1)) in
        cc

-- numbers that are bytes
abbrev Bytes : List ℕ → Type 0
Bytes x = (i : ℕ) → i < length x → byte x i < 256

cons_bytes : (y : ℕ) (x : List ℕ) → y < 256 → Bytes x → Bytes (y ∷ x)
cons_bytes y x h p zero l = h
cons_bytes y x h p (suc i) l = p i (omega arith)

append_bytes : (x y : List ℕ) → Bytes x → Bytes y → Bytes (x ++ y)
append_bytes [] y p q = q
append_bytes (b ∷ x) y p q = cons_bytes b (x ++ y) (p 0 (omega arith)) (append_bytes x y (λ i l. p (suc i) (omega arith)) q)

flags_bytes : (x : List ℕ) → length x ≤ 128 → FlagsWithin x → Bytes (length x ∷ x)
flags_bytes x high good = cons_bytes (length x) x (omega arith) (λ i l. let f : byte x i ≤ 1 = good i l in omega arith)

module _ (G : Grammar) (categories : length G.categories ≤ 32) where
  symbol_byte : (b : ℕ) → SymbolWithin G b → b < 256
  symbol_byte b s = go (dec_lt b 128)
    where
      go : Dec (b < 128) → b < 256
      go (yes l) = omega arith
      go (no l) = let h : 128 ≤ b = omega arith in omega (arith, s.category h)

  rule_bytes : (r : Rule) → RuleWithin G r → Bytes (encode_rule r)
  rule_bytes r w =
      cons_bytes r.left (length r.right ∷ r.right) (omega (arith, w.left))
      (cons_bytes (length r.right) r.right (omega (arith, w.long)) (λ d l. symbol_byte (get_or r.right d 0) (w.symbols d l)))

  rules_bytes : (rs : List Rule) → ((p : ℕ) → p < length rs → RuleWithin G (get_or rs p (rule 0 []))) → Bytes (encode_rules rs)
  unfolding encode_rules
  rules_bytes [] each = λ i l. absurd (omega arith)
  rules_bytes (r ∷ rs) each = append_bytes (encode_rule r) (encode_rules rs) (rule_bytes r (each 0 (omega arith))) (rules_bytes rs (λ p l. each (suc p) (omega arith)))

-- an encoding is of bytes
pub encoding_bytes : (G : Grammar) → WithinLimits G → (i : ℕ) → i < length (encode G) → byte (encode G) i < 256
unfolding encode
encoding_bytes G within =
    append_bytes (length G.classes ∷ G.classes) _ (flags_bytes G.classes within.classes within.class_flags)
    (append_bytes (length G.categories ∷ G.categories) _ (flags_bytes G.categories (omega (arith, within.categories)) within.category_flags)
    (cons_bytes (length G.rules) (encode_rules G.rules) (omega (arith, within.rules)) (rules_bytes G within.categories G.rules within.each)))
