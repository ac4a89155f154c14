-- Bytes are accepted, or refused with a number and a place, exactly as `specs/Beginning.antt` says.
use Rattle.std.proofs.Common.{Ok}
use Prim.Native.Nat.{ℕ}
use mathlib.Core.Path.{◌≡◌, refl, ap, ◌∙◌}
use mathlib.Core.Logic.{◌↔◌, ◌⊎◌, inl, inr}
use mathlib.Core.List.{List, [], ◌∷◌, ◌++◌, append-nil}
use native.Mathlib.Omega.{arith}
use lib.ListN.{length}
use Rattle.refusals.specs.declared.Row.{Row}
use Rattle.refusals.specs.Row.{row_of}
use Rattle.refusals.specs.Told.{refused}
use Rattle.derivation.specs.Grammar.{Grammar}
use Rattle.grammar.specs.declared.reading.Sections.{Sections}
use Rattle.grammar.specs.Reading.{read_of}
use Rattle.grammar.specs.Told.{reading_told}
use Rattle.grammar.specs.Limits.{WithinLimits}
use Rattle.grammar.specs.Repeats.{Distinct}
use Rattle.grammar.specs.Encoding.{encode}
use Rattle.grammar.specs.Beginning.{NextByte, count_between, flag_byte, left_of, symbol_of, no_more, number_of, Beginning, whole_grammar, Refusing, ends_early, not_right, rule_repeated}
use Rattle.grammar.proofs.Encoding.{accepted_iff}
use Rattle.grammar.proofs.Growing.{Judged, all_right, first_wrong, first_again, judged}
use Rattle.grammar.proofs.Stopping.{Fault, missing, other, refusal_of, fault_refusal, fault_refused, repeat_refused}

whole_encodes : {g : List ℕ} → Beginning g no_more → (G : Grammar) × WithinLimits G × Distinct G × (g ≡ encode G)
whole_encodes (whole_grammar {G} within distinct) = (G, within, distinct, refl)

-- bytes are accepted exactly when they are right to their end, and no more may follow
pub accepted_whole : (g : List ℕ) → ((s : Sections) × (read_of g ≡ Ok s)) ↔ Beginning g no_more
accepted_whole g = (λ a. let r = (accepted_iff g).0 a in rw r.3 (whole_grammar r.1 r.2), λ b. (accepted_iff g).1 (whole_encodes b))

-- what is told of a beginning and a fault
fault_told : {b : List ℕ} {next : NextByte} → Beginning b next → (rest : List ℕ) → Fault next rest → reading_told (read_of (b ++ rest)) ≡ refused (row_of (fault_refusal next (length b) rest))
fault_told s rest bad = ap reading_told (fault_refused s rest bad)

refusal_row : (next : NextByte) (at : ℕ) → row_of (refusal_of next at) ≡ record { number = number_of next; place = at }
refusal_row (count_between low high) at = refl
refusal_row flag_byte at = refl
refusal_row (left_of G) at = refl
refusal_row (symbol_of G) at = refl
refusal_row no_more at = refl

refusing_told : {g : List ℕ} {row : Row} → Refusing g row → reading_told (read_of g) ≡ refused row
refusing_told (ends_early {b} s more) = rw (append-nil b) at (fault_told s [] (missing more))
refusing_told (not_right {b} {next} s y bad rest) = fault_told s (y ∷ rest) (other y bad rest) ∙ ap (λ (r : Row). refused r) (refusal_row next (length b))
refusing_told (rule_repeated u within same rest) = ap reading_told (repeat_refused u within same rest)

no_more? : (next : NextByte) → Dec (next ≡ no_more)
no_more? (count_between low high) = no (λ e. let z : ◌≡◌ {A = ℕ} 0 1 = cc in omega arith)
no_more? flag_byte = no (λ e. let z : ◌≡◌ {A = ℕ} 0 1 = cc in omega arith)
no_more? (left_of G) = no (λ e. let z : ◌≡◌ {A = ℕ} 0 1 = cc in omega arith)
no_more? (symbol_of G) = no (λ e. let z : ◌≡◌ {A = ℕ} 0 1 = cc in omega arith)
no_more? no_more = yes refl

-- all bytes are whole or refused
pub whole_or_refused : (g : List ℕ) → Beginning g no_more ⊎ ((row : Row) × Refusing g row)
whole_or_refused g = go (judged g)
  where
    by : {b : List ℕ} {next : NextByte} → Beginning b next → Dec (next ≡ no_more) → Beginning b no_more ⊎ ((row : Row) × Refusing b row)
    by s (yes e) = inl (rw e at s)
    by s (no e) = inr (_, ends_early s e)

    go : {b : List ℕ} → Judged b → Beginning b no_more ⊎ ((row : Row) × Refusing b row)
    go (all_right {next = next} s) = by s (no_more? next)
    go (first_wrong s y bad rest) = inr (_, not_right s y bad rest)
    go (first_again u within same rest) = inr (_, rule_repeated u within same rest)

-- none are both
pub whole_not_refused : {g : List ℕ} {row : Row} → Refusing g row → ¬ Beginning g no_more
whole_not_refused {g} r w =
    let a = (accepted_whole g).1 w in
    let f = refusing_told r in
    let z : ◌≡◌ {A = ℕ} 0 1 = cc a.1 in
    omega arith

-- what refuses them is one number and place
pub refusing_unique : {g : List ℕ} {a b : Row} → Refusing g a → Refusing g b → a ≡ b
refusing_unique x y =
    let p = refusing_told x in
    let q = refusing_told y in
    cc

-- the reading tells a refusal exactly where it refuses the bytes
pub refused_iff : (g : List ℕ) (row : Row) → (reading_told (read_of g) ≡ refused row) ↔ Refusing g row
refused_iff g row = (λ e. go e (whole_or_refused g), refusing_told)
  where
    go : reading_told (read_of g) ≡ refused row → Beginning g no_more ⊎ ((row : Row) × Refusing g row) → Refusing g row
    go e (inl w) = let a = (accepted_whole g).1 w in absurd (let z : ◌≡◌ {A = ℕ} 0 1 = cc a.1 in omega arith)
    go e (inr r) = let f = refusing_told r.1 in let z : r.0 ≡ row = cc in rw z at r.1
