-- The place of a refusal by `encode` alone: with the bytes before it an encoding within the limits begins, and but for 14 it is the last such place.
use Prim.Native.Nat.{ℕ, zero, suc, ◌+◌, ◌-◌, ◌≤◌, ◌<◌}
use mathlib.Core.Path.{◌≡◌, refl, sym, ◌∙◌}
use mathlib.Core.Logic.{◌≢◌}
use mathlib.Core.List.{List, [], ◌∷◌, ◌++◌, append_assoc, append-nil}
use native.Mathlib.Omega.{arith}
use lib.ListN.{length, take, length-append}
use lib.Seq.{take-append_seam, take-append-add, take-length}
use Rattle.refusals.specs.declared.Row.{Row}
use Rattle.refusals.specs.Told.{refused}
use Rattle.derivation.specs.Grammar.{Rule, Grammar, rule}
use Rattle.grammar.specs.Reading.{read_of}
use Rattle.grammar.specs.Told.{reading_told}
use Rattle.grammar.specs.Limits.{RuleWithin, WithinLimits}
use Rattle.grammar.specs.Encoding.{encode_rule, encode}
use Rattle.grammar.specs.Beginning.{
  NextByte,
  count_between,
  flag_byte,
  left_of,
  symbol_of,
  no_more,
  RightByte,
  number_of,
  FlagsSoFar,
  RulesSoFar,
  bytes_so_far,
  Beginning,
  no_byte,
  some_classes,
  all_classes,
  some_categories,
  all_categories,
  some_rules,
  left_category,
  some_symbols,
  whole_grammar,
  Refusing,
  ends_early,
  not_right,
  rule_repeated,
  EncodingBegins,
}
use Rattle.grammar.proofs.Growing.{
  length_snoc,
  flags_snoc,
  with_rule,
  with_within,
  with_bytes,
  empty_within,
  symbol_snoc,
  ruleless,
  ruleless_within,
  ruleless_bytes,
  no_flags,
}
use Rattle.grammar.proofs.Encoding.{encoding_refused}
use Rattle.grammar.proofs.Refusals.{refused_iff}

begins_before : (b x : List ℕ) → EncodingBegins (b ++ x) → EncodingBegins b
begins_before b x s = record { rest = x ++ s.rest; grammar = s.grammar; within = s.within; encoded = sym (append_assoc b x s.rest) ∙ s.encoded }

-- without the last byte of the last part
part_before : (b x : List ℕ) (y : ℕ) → EncodingBegins (b ++ (x ++ (y ∷ []))) → EncodingBegins (b ++ x)
part_before b x y f = begins_before (b ++ x) (y ∷ []) (rw (append_assoc b x (y ∷ [])) f)

-- rules of no symbols, as many as are to come
rules_last : {G : Grammar} {P : ℕ} → WithinLimits G → P ≡ length G.rules → EncodingBegins (bytes_so_far G P)
unfolding encode
rules_last {G} w e = rw e (record { rest = []; grammar = G; within = w; encoded = append-nil (encode G) })

rule_before : (G : Grammar) (P : ℕ) (r : Rule) → EncodingBegins (bytes_so_far (with_rule G r) P) → EncodingBegins (bytes_so_far G P ++ encode_rule r)
rule_before G P r f = rw (with_bytes G P r) at f

rules_finish : (more : ℕ) {G : Grammar} {P : ℕ} → WithinLimits G → length G.rules + more ≡ P → P ≤ 128 → EncodingBegins (bytes_so_far G P)
unfolding with_rule
rules_finish zero w e h = rules_last w (omega arith)
rules_finish (suc more) {G} {P} w e h =
    let r = rule 0 [] in
    begins_before (bytes_so_far G P) (encode_rule r)
    (rule_before G P r (rules_finish more {G = with_rule G r} (with_within w (omega arith) (empty_within w.some_category)) (omega (arith, length_snoc G.rules r)) h))

rule_last : {G : Grammar} {P : ℕ} {r : Rule} → RulesSoFar G P → RuleWithin G r → EncodingBegins (bytes_so_far G P ++ encode_rule r)
unfolding with_rule
rule_last {G} {P} {r} u w =
    rule_before G P r
    (rules_finish (P - length G.rules - 1) {G = with_rule G r} (with_within u.within (omega (arith, u.fewer, u.high)) w) (omega (arith, u.fewer, length_snoc G.rules r)) u.high)

-- class 0, for as many symbols as are to come
symbol_more : {G : Grammar} {P A : ℕ} {s : List ℕ} → RulesSoFar G P → RuleWithin G (rule A s) → length s < 8 → RuleWithin G (rule A (s ++ (0 ∷ [])))
symbol_more u w l = symbol_snoc w l (record { class = λ k. u.within.some_class; category = λ k. absurd (omega arith) })

symbols_last : {G : Grammar} {P A k : ℕ} {s : List ℕ} → RulesSoFar G P → RuleWithin G (rule A s) → k ≡ length s → EncodingBegins (bytes_so_far G P ++ (A ∷ (k ∷ s)))
symbols_last u w e = rw e (rule_last u w)

symbols_finish : (more : ℕ) {G : Grammar} {P A k : ℕ} {s : List ℕ} → RulesSoFar G P → RuleWithin G (rule A s) → length s + more ≡ k → k ≤ 8 → EncodingBegins (bytes_so_far G P ++ (A ∷ (k ∷ s)))
symbols_finish zero u w e h = symbols_last u w (omega arith)
symbols_finish (suc more) {G} {P} {A} {k} {s} u w e h = part_before (bytes_so_far G P) (A ∷ (k ∷ s)) 0 (symbols_finish more u (symbol_more u w (omega arith)) (omega (arith, length_snoc s 0)) h)

-- flags of 0, as many as are to come, and no rules
categories_last : {N : ℕ} {f h : List ℕ} → FlagsSoFar 128 (length f) f → FlagsSoFar 32 N h → N ≡ length h → EncodingBegins ((length f ∷ f) ++ (N ∷ h))
categories_last {N} {f} {h} v w e =
    rw e (begins_before ((length f ∷ f) ++ (length h ∷ h)) (0 ∷ []) (rw (ruleless_bytes f h 0) at (rules_last {G = ruleless f h} (ruleless_within v (rw e at w)) refl)))

categories_finish : (more : ℕ) {N : ℕ} {f h : List ℕ} → FlagsSoFar 128 (length f) f → FlagsSoFar 32 N h → length h + more ≡ N → EncodingBegins ((length f ∷ f) ++ (N ∷ h))
categories_finish zero v w e = categories_last v w (omega arith)
categories_finish (suc more) {N} {f} {h} v w e = part_before (length f ∷ f) (N ∷ h) 0 (categories_finish more v (flags_snoc w (omega arith)) (omega (arith, length_snoc h 0)))

classes_last : {T : ℕ} {f : List ℕ} → FlagsSoFar 128 T f → T ≡ length f → EncodingBegins (T ∷ f)
classes_last {f = f} v e = rw e (begins_before (length f ∷ f) (1 ∷ []) (categories_finish 1 (rw e at v) (no_flags (omega arith) (omega arith)) (omega arith)))

classes_finish : (more : ℕ) {T : ℕ} {f : List ℕ} → FlagsSoFar 128 T f → length f + more ≡ T → EncodingBegins (T ∷ f)
classes_finish zero v e = classes_last v (omega arith)
classes_finish (suc more) {T} {f} v e = part_before [] (T ∷ f) 0 (classes_finish more (flags_snoc v (omega arith)) (omega (arith, length_snoc f 0)))

-- an encoding begins with each beginning
finish : {b : List ℕ} {next : NextByte} → Beginning b next → EncodingBegins b
unfolding encode
finish no_byte = begins_before [] (1 ∷ []) (classes_finish 1 (no_flags (omega arith) (omega arith)) (omega arith))
finish (some_classes {T} {f} v l) = classes_finish (T - length f) v (omega arith)
finish (all_classes v) = classes_last v refl
finish (some_categories {N} {f} {h} v w l) = categories_finish (N - length h) v w (omega arith)
finish (all_categories v w) = categories_last v w refl
finish (some_rules {G} {P} u) = rules_finish (P - length G.rules) u.within (omega (arith, u.fewer)) u.high
finish (left_category {G} {P} {A} u l) = part_before (bytes_so_far G P) (A ∷ []) 0 (rule_last u (empty_within l))
finish (some_symbols {k = k} {s = s} u w l h) = symbols_finish (k - length s) u w (omega arith) h
finish (whole_grammar {G} w d) = record { rest = []; grammar = G; within = w; encoded = append-nil (encode G) }

-- and none goes on with a byte that is not right: an encoding within the limits is accepted, or refused by 14 alone
never_goes_on : {b : List ℕ} {next : NextByte} (y : ℕ) (x : List ℕ) → Beginning b next → ¬ RightByte next y → ¬ EncodingBegins (b ++ (y ∷ x))
never_goes_on {b} {next} y x s w f =
    let e : b ++ (y ∷ (x ++ f.rest)) ≡ encode f.grammar = sym (append_assoc b (y ∷ x) f.rest) ∙ f.encoded in
    let told = (refused_iff _ _).1 (not_right s y w (x ++ f.rest)) in
    not_fourteen next (encoding_refused f.grammar f.within _ (rw e at told))
  where
    not_fourteen : (n : NextByte) → number_of n ≡ 14 → ⊥
    not_fourteen (count_between low high) k = omega arith
    not_fourteen flag_byte k = omega arith
    not_fourteen (left_of G) k = omega arith
    not_fourteen (symbol_of G) k = omega arith
    not_fourteen no_more k = omega arith

-- the place of a refusal: an encoding within the limits begins with the bytes before it; and by 14 apart, none with the byte there as well
pub refused_place :
    (g : List ℕ) (row : Row) → reading_told (read_of g) ≡ refused row →
    (row.place ≤ length g) × EncodingBegins (take row.place g) × (row.number ≢ 14 → row.place < length g → ¬ EncodingBegins (take (row.place + 1) g))
refused_place g row told = go ((refused_iff g row).0 told)
  where
    go : {x : List ℕ} {r : Row} → Refusing x r → (r.place ≤ length x) × EncodingBegins (take r.place x) × (r.number ≢ 14 → r.place < length x → ¬ EncodingBegins (take (r.place + 1) x))
    go (ends_early {b} s more) = (omega arith, rw (take-length b) (finish s), λ n l. absurd (omega arith))
    go (not_right {b} s y w rest) =
        (omega (arith, length-append b (y ∷ rest)), rw (take-append_seam b (y ∷ rest)) (finish s), λ n l. rw (take-append-add b (y ∷ rest) 1) (never_goes_on y [] s w))
    go (rule_repeated {G} {P} {r} u w same rest) =
        let b = bytes_so_far G P in
        (omega (arith, length-append b (encode_rule r ++ rest)), rw (take-append_seam b (encode_rule r ++ rest)) (finish (some_rules u)), λ n. absurd (n refl))
