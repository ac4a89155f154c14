-- The reading stops where a beginning ends, if there the next byte is missing or not right, and at a whole rule that repeats one.
use Rattle.std.proofs.Common.{Err, Result}
use Prim.Native.Nat.{ℕ, suc, ◌+◌, ◌-◌, ◌≤◌, ◌<◌}
use mathlib.Core.Path.{◌≡◌, refl, ap, sym, ◌∙◌}
use mathlib.Core.Logic.{◌≢◌}
use mathlib.Core.Bool.{Bool, true, false, cond}
use mathlib.Core.List.{List, [], ◌∷◌, ◌++◌, append_assoc}
use native.Mathlib.Omega.{arith}
use lib.ListN.{length, get_or, drop, length-append, length-drop}
use lib.Seq.{drop-append_seam}
use lib.Dec.{ltb, leb}
use borrow.Author.Tests.{ltb-true, leb-true, lt-ltb, le-ltb, le-leb}
use Rattle.refusals.specs.declared.Refusal.{Refusal}
use Rattle.refusals.specs.declared.Refusal.TheVariants.{GrammarEndsEarly, CountOutsideLimits, FlagAboveOne, NotInGrammar, RuleRepeated, BytesAfterRules}
use Rattle.derivation.specs.Grammar.{Rule, Grammar, rule}
use Rattle.grammar.specs.Reading.{byte, have, must, each_from, is_flag, is_symbol, flags_from, rule_from, flags_section, rules_section, read_of}
use Rattle.grammar.specs.Limits.{RuleWithin}
use Rattle.grammar.specs.Standing.{standing, after}
use Rattle.grammar.specs.Repeats.{is_repeated, Repeats}
use Rattle.grammar.specs.Encoding.{encode_rule, encode}
use Rattle.grammar.specs.Beginning.{
  NextByte,
  count_between,
  flag_byte,
  left_of,
  symbol_of,
  no_more,
  RightByte,
  FlagsSoFar,
  RulesSoFar,
  bytes_so_far,
  Beginning,
  no_byte,
  some_classes,
  all_classes,
  some_categories,
  all_categories,
  some_rules,
  left_category,
  some_symbols,
  whole_grammar,
}
use Rattle.grammar.proofs.RepeatLaws.{repeats_one}
use Rattle.grammar.proofs.ReadingLaws.{rules_stop, rules_repeat, sections_first, sections_second, sections_third, read_refused, read_more}
use Rattle.grammar.proofs.Encoded.{symbol_within}
use Rattle.grammar.proofs.Encoding.{
  byte_inside,
  byte_is,
  byte_after,
  bytes_after,
  bytes_inside,
  bytes_past,
  symbol_passed,
  rule_is,
  rule_passed,
  classes_to,
  classes_next,
  categories_to,
  categories_next,
  counts_are,
  rules_section_past,
  sections_stop,
  encoding_sections,
}

-- a fault after a beginning: no byte, where one is wanted, or one that is not right
pub data Fault (next : NextByte) : List ℕ → Type 0 where
  missing : next ≢ no_more → Fault next []
  other : (y : ℕ) → ¬ RightByte next y → (rest : List ℕ) → Fault next (y ∷ rest)

-- the refusal of a byte that is not right
abbrev pub refusal_of : NextByte → ℕ → Refusal
refusal_of (count_between low high) at = CountOutsideLimits at
refusal_of flag_byte at = FlagAboveOne at
refusal_of (left_of G) at = NotInGrammar at
refusal_of (symbol_of G) at = NotInGrammar at
refusal_of no_more at = BytesAfterRules at

-- the refusal of a fault, by the bytes from there on
abbrev pub fault_refusal : NextByte → ℕ → List ℕ → Refusal
fault_refusal next at [] = GrammarEndsEarly at
fault_refusal next at (y ∷ rest) = refusal_of next at

-- one test of the reading
byte_stopped :
    (next : NextByte) (ok : ℕ → Bool) (go : Result ℕ Refusal) → ((y : ℕ) → ok y ≡ true → RightByte next y) → (g : List ℕ) (at : ℕ) (rest : List ℕ) → drop at g ≡ rest → at ≤ length g → Fault next rest →
    have g at (must (ok (byte g at)) (refusal_of next at) go) ≡ Err (fault_refusal next at rest)
byte_stopped next ok go sure g at x e h (missing w) =
    let l : length g - at ≡ 0 = sym (length-drop at g) ∙ ap length e in
    let z : length g ≡ at = omega arith in
    rw (le-ltb at (length g) (omega arith), z)
byte_stopped next ok go sure g at x e h (other y wrong rest) =
    rw (lt-ltb at (length g) (byte_inside g rest y at e), byte_is g rest y at e) (no_pass (ok y) refl)
  where
    no_pass : (t : Bool) → ok y ≡ t → cond t go (Err (refusal_of next at)) ≡ Err (refusal_of next at)
    no_pass true o = absurd (wrong (sure y o))
    no_pass false o = refl

-- bytes that pass their test, and then a fault
each_stopped :
    (ok : ℕ → Bool) (fault : ℕ → Refusal) (g : List ℕ) (next : NextByte) → ((y : ℕ) → ok y ≡ true → RightByte next y) → ((at : ℕ) → fault at ≡ refusal_of next at) → (x rest : List ℕ) (many at : ℕ) →
    drop at g ≡ x ++ rest → at ≤ length g → ((i : ℕ) → i < length x → ok (get_or x i 0) ≡ true) → length x < many → Fault next rest → each_from ok fault g many at ≡ Err (fault_refusal next (at + length x) rest)
unfolding each_from
each_stopped ok fault g next sure same x rest many at e h good l bad =
    let m : many - length x ≡ suc (many - length x - 1) = omega arith in
    bytes_past ok fault g x rest at e h good many (omega arith)
    ∙ rw (m, same) (byte_stopped next ok _ sure g (at + length x) rest (bytes_after g x rest at e) (bytes_inside g x rest at e h) bad)

-- a section of flags stops at its count, or at a flag
module _ (g : List ℕ) (most at : ℕ) where
  count_stopped : (rest : List ℕ) → drop at g ≡ rest → at ≤ length g → Fault (count_between 1 most) rest → flags_section g most at ≡ Err (fault_refusal (count_between 1 most) at rest)
  unfolding flags_section
  count_stopped rest e h bad =
      ap (λ (p : Result ℕ Refusal). have g at p) (one (leb 1 (byte g at)) (leb (byte g at) most))
      ∙ byte_stopped (count_between 1 most) (λ y. cond (leb 1 y) (leb y most) false) go sure g at rest e h bad
    where
      go : Result ℕ Refusal
      go = flags_from g (byte g at) (at + 1)

      one : (a b : Bool) → must a (CountOutsideLimits at) (must b (CountOutsideLimits at) go) ≡ must (cond a b false) (CountOutsideLimits at) go
      one true b = refl
      one false b = refl

      sure : (y : ℕ) → cond (leb 1 y) (leb y most) false ≡ true → (1 ≤ y) × (y ≤ most)
      sure y = by (leb 1 y) refl
        where
          by : (a : Bool) → leb 1 y ≡ a → cond a (leb y most) false ≡ true → (1 ≤ y) × (y ≤ most)
          by true q r = (leb-true 1 y q, leb-true y most r)
          by false q r = absurd (let z : ◌≡◌ {A = ℕ} 0 1 = cc in omega arith)

  flag_stopped : (x rest : List ℕ) (many : ℕ) → drop at g ≡ (many ∷ x) ++ rest → FlagsSoFar most many x → length x < many → Fault flag_byte rest → flags_section g most at ≡ Err (fault_refusal flag_byte (at + 1 + length x) rest)
  unfolding flags_section
  flag_stopped x rest many e w l bad =
      let inside : at < length g = byte_inside g (x ++ rest) many at e in
      rw (lt-ltb at (length g) inside, byte_is g (x ++ rest) many at e, le-leb 1 many w.low, le-leb many most w.high)
      (each_stopped is_flag _ g flag_byte (λ y o. leb-true y 1 o) (λ a. refl) x rest many (at + 1) (byte_after g (x ++ rest) many at e) (omega arith)
      (λ i j. le-leb (get_or x i 0) 1 (w.within i j)) l bad)

-- the section of rules stops at its count
rule_count_stopped : (g : List ℕ) (t n at : ℕ) (rest : List ℕ) → drop at g ≡ rest → at ≤ length g → Fault (count_between 0 128) rest → rules_section g t n at ≡ Err (fault_refusal (count_between 0 128) at rest)
unfolding rules_section
rule_count_stopped g t n at rest e h bad = byte_stopped (count_between 0 128) (λ y. leb y 128) _ (λ y o. (omega arith, leb-true y 128 o)) g at rest e h bad

-- a rule stops at its left category, its length or a symbol
module _ (G : Grammar) (g : List ℕ) (at : ℕ) where
  left_stopped : (rest : List ℕ) → drop at g ≡ rest → at ≤ length g → Fault (left_of G) rest → rule_from g (length G.classes) (length G.categories) at ≡ Err (fault_refusal (left_of G) at rest)
  unfolding rule_from
  left_stopped rest e h bad = byte_stopped (left_of G) (λ y. ltb y (length G.categories)) _ (λ y o. ltb-true y (length G.categories) o) g at rest e h bad

  length_stopped : (A : ℕ) (rest : List ℕ) → drop at g ≡ A ∷ rest → A < length G.categories → Fault (count_between 0 8) rest → rule_from g (length G.classes) (length G.categories) at ≡ Err (fault_refusal (count_between 0 8) (at + 1) rest)
  unfolding rule_from
  length_stopped A rest e l bad =
      let inside : at < length g = byte_inside g rest A at e in
      rw (lt-ltb at (length g) inside, byte_is g rest A at e, lt-ltb A (length G.categories) l)
      (byte_stopped (count_between 0 8) (λ y. leb y 8) _ (λ y o. (omega arith, leb-true y 8 o)) g (at + 1) rest (byte_after g rest A at e) (omega arith) bad)

  symbol_stopped :
      (A k : ℕ) (s rest : List ℕ) → drop at g ≡ A ∷ (k ∷ (s ++ rest)) → RuleWithin G (rule A s) → length s < k → k ≤ 8 → Fault (symbol_of G) rest →
      rule_from g (length G.classes) (length G.categories) at ≡ Err (fault_refusal (symbol_of G) (at + 2 + length s) rest)
  unfolding rule_from
  symbol_stopped A k s rest e w l h bad =
      let next : drop (at + 1) g ≡ k ∷ (s ++ rest) = byte_after g (k ∷ (s ++ rest)) A at e in
      let inside : at + 1 < length g = byte_inside g (s ++ rest) k (at + 1) next in
      let two : at + 2 ≡ at + 1 + 1 = omega arith in
      rw (
        lt-ltb at (length g) (omega arith),
        byte_is g (k ∷ (s ++ rest)) A at e,
        lt-ltb A (length G.categories) w.left,
        lt-ltb (at + 1) (length g) inside,
        byte_is g (s ++ rest) k (at + 1) next,
        le-leb k 8 h,
      )
      (each_stopped (is_symbol (length G.classes) (length G.categories)) _ g (symbol_of G) (symbol_within G _ _ refl refl) (λ a. refl) s rest k (at + 2)
      (rw two (byte_after g (s ++ rest) k (at + 1) next)) (omega arith) (λ i j. symbol_passed G (get_or s i 0) (w.symbols i j)) l bad)

-- where the section of categories stops, the reading does
classes_stopped : (g f rest : List ℕ) → g ≡ (length f ∷ f) ++ rest → FlagsSoFar 128 (length f) f → (refusal : Refusal) → flags_section g 32 (1 + length f) ≡ Err refusal → read_of g ≡ Err refusal
classes_stopped g f rest e v refusal s = read_refused g refusal (sections_second g (1 + length f) (classes_to g f rest e v) refusal s)

-- where the section of rules stops, the reading does
categories_stopped :
    (g f h rest : List ℕ) → g ≡ (length f ∷ f) ++ ((length h ∷ h) ++ rest) → FlagsSoFar 128 (length f) f → FlagsSoFar 32 (length h) h → (refusal : Refusal) →
    rules_section g (length f) (length h) (1 + length f + 1 + length h) ≡ Err refusal → read_of g ≡ Err refusal
categories_stopped g f h rest e v w refusal s =
    let c = counts_are g f h rest e in
    read_refused g refusal
    (sections_third g (1 + length f) (classes_to g f _ e v) (1 + length f + 1 + length h) (categories_to g f h rest e w) refusal (rw (c.0, c.1) s))

-- where a rule stops that comes after those of G, the reading does
rule_stopped :
    {G : Grammar} {P : ℕ} → RulesSoFar G P → (g rest : List ℕ) → g ≡ bytes_so_far G P ++ rest → (refusal : Refusal) →
    rule_from g (length G.classes) (length G.categories) (length (bytes_so_far G P)) ≡ Err refusal → read_of g ≡ Err refusal
rule_stopped {G} {P} u g rest e refusal s =
    read_refused g refusal
    (sections_stop G P g rest e u.within refusal
    (rules_section_past G P g rest e u.within u.distinct (omega (arith, u.fewer)) u.high
    ∙ rules_stop g (length G.classes) (length G.categories) G.rules P (length G.rules) (length (bytes_so_far G P)) refusal u.fewer s))

-- what stands after a beginning
module _ (g b rest : List ℕ) (e : g ≡ b ++ rest) where
  beginning_after : drop (length b) g ≡ rest
  beginning_after = rw e (drop-append_seam b rest)

  beginning_inside : length b ≤ length g
  beginning_inside = rw e (omega (arith, length-append b rest))

-- the same place, said in another way
placed : (g rest : List ℕ) (next : NextByte) (at : ℕ) {place : ℕ} → at ≡ place → read_of g ≡ Err (fault_refusal next at rest) → read_of g ≡ Err (fault_refusal next place rest)
placed g rest next at e h = rw e at h

-- the reading of a beginning and a fault
pub fault_refused : {b : List ℕ} {next : NextByte} → Beginning b next → (rest : List ℕ) → Fault next rest → read_of (b ++ rest) ≡ Err (fault_refusal next (length b) rest)
unfolding encode
fault_refused no_byte rest bad = read_refused rest _ (sections_first rest _ (count_stopped rest 128 0 rest refl (omega arith) bad))
fault_refused (some_classes {T} {f} v l) rest bad =
    let g = (T ∷ f) ++ rest in
    placed g rest flag_byte (0 + 1 + length f) (omega arith) (read_refused g _ (sections_first g _ (flag_stopped g 128 0 f rest T refl v l bad)))
fault_refused (all_classes {f} v) rest bad =
    let g = (length f ∷ f) ++ rest in
    let at = 1 + length f in
    placed g rest (count_between 1 32) at (omega arith)
    (classes_stopped g f rest refl v _ (count_stopped g 32 at rest (classes_next g f rest refl) (omega (arith, length-append f rest)) bad))
fault_refused (some_categories {N} {f} {h} v w l) rest bad =
    let g = ((length f ∷ f) ++ (N ∷ h)) ++ rest in
    let e : g ≡ (length f ∷ f) ++ ((N ∷ h) ++ rest) = append_assoc (length f ∷ f) (N ∷ h) rest in
    placed g rest flag_byte (1 + length f + 1 + length h) (omega (arith, length-append f (N ∷ h)))
    (classes_stopped g f ((N ∷ h) ++ rest) e v _ (flag_stopped g 32 (1 + length f) h rest N (classes_next g f _ e) w l bad))
fault_refused (all_categories {f} {h} v w) rest bad =
    let b = (length f ∷ f) ++ (length h ∷ h) in
    let e : b ++ rest ≡ (length f ∷ f) ++ ((length h ∷ h) ++ rest) = append_assoc (length f ∷ f) (length h ∷ h) rest in
    let at = 1 + length f + 1 + length h in
    let p : at ≡ length b = omega (arith, length-append f (length h ∷ h)) in
    placed (b ++ rest) rest (count_between 0 128) at p
    (categories_stopped (b ++ rest) f h rest e v w _
    (rule_count_stopped (b ++ rest) (length f) (length h) at rest (categories_next (b ++ rest) f h rest e) (omega (arith, length-append b rest)) bad))
fault_refused (some_rules {G} {P} u) rest bad =
    let b = bytes_so_far G P in
    rule_stopped u (b ++ rest) rest refl _ (left_stopped G (b ++ rest) (length b) rest (beginning_after (b ++ rest) b rest refl) (beginning_inside (b ++ rest) b rest refl) bad)
fault_refused (left_category {G} {P} {A} u l) rest bad =
    let b = bytes_so_far G P in
    let g = (b ++ (A ∷ [])) ++ rest in
    let e : g ≡ b ++ (A ∷ rest) = append_assoc b (A ∷ []) rest in
    placed g rest (count_between 0 8) (length b + 1) (sym (length-append b (A ∷ [])))
    (rule_stopped u g (A ∷ rest) e _ (length_stopped G g (length b) A rest (beginning_after g b (A ∷ rest) e) l bad))
fault_refused (some_symbols {G} {P} {A} {k} {s} u w l m) rest bad =
    let b = bytes_so_far G P in
    let g = (b ++ (A ∷ (k ∷ s))) ++ rest in
    let next = A ∷ (k ∷ (s ++ rest)) in
    let e : g ≡ b ++ next = append_assoc b (A ∷ (k ∷ s)) rest in
    placed g rest (symbol_of G) (length b + 2 + length s) (omega (arith, length-append b (A ∷ (k ∷ s))))
    (rule_stopped u g next e _ (symbol_stopped G g (length b) A k s rest (beginning_after g b next e) w l m bad))
fault_refused (whole_grammar {G} w d) x (missing more) = absurd (more refl)
fault_refused (whole_grammar {G} w d) x (other y wrong rest) =
    let g = encode G ++ (y ∷ rest) in
    read_more g _ (encoding_sections G g (y ∷ rest) refl w d) (omega (arith, length-append (encode G) (y ∷ rest)))

-- the reading of rules so far, a whole rule that is one of them, and anything
pub repeat_refused :
    {G : Grammar} {P : ℕ} {r : Rule} → RulesSoFar G P → RuleWithin G r → Repeats G r → (rest : List ℕ) →
    read_of (bytes_so_far G P ++ (encode_rule r ++ rest)) ≡ Err (RuleRepeated (length (bytes_so_far G P)))
repeat_refused {G} {P} {r} u v same rest =
    let b = bytes_so_far G P in
    let g = b ++ (encode_rule r ++ rest) in
    let stands = beginning_after g b (encode_rule r ++ rest) refl in
    let repeated : is_repeated (standing g (length b)) G.rules ≡ true = rw (rule_is g rest r (length b) stands) (repeats_one r G.rules same.number same.below same.same) in
    read_refused g _
    (sections_stop G P g (encode_rule r ++ rest) refl u.within _
    (rules_section_past G P g (encode_rule r ++ rest) refl u.within u.distinct (omega (arith, u.fewer)) u.high
    ∙ rules_repeat g (length G.classes) (length G.categories) G.rules P (length G.rules) (length b) (after g (length b)) u.fewer (rule_passed g rest r (length b) stands G v) repeated))
