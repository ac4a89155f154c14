-- Any two outcomes that the contract of the marks allows are equal, and they are the computed marks.
use Rattle.std.proofs.Common.{Err, Ok, Result}
use Rattle.refusals.specs.declared.Refusal.{Refusal}
use Prim.Native.Nat.{ℕ, zero, suc, ◌≤◌, ◌<◌}
use mathlib.Core.Path.{◌≡◌, refl, sym, ap, ◌∙◌}
use mathlib.Core.Logic.{◌↔◌}
use mathlib.Core.Bool.{Bool, true, false, cond, true≢false}
use mathlib.Core.List.{List, [], ◌∷◌}
use native.Mathlib.Decide.{dec_lt}
use lib.ListN.{length, get_or, take}
use lib.Seq.{ext_get_or, length-take-le, get_or-take}
use Rattle.derivation.specs.Grammar.{Grammar, Proper}
use Rattle.derivation.specs.Secret.{Secret}
use Rattle.derivation.specs.computed.Listing.{listed}
use Rattle.derivation.specs.computed.Marks as computed
use Rattle.derivation.proofs.Table.{at_listed}
use Rattle.derivation.proofs.Secret.{secret_iff}
use Rattle.marks.specs.Marks.{MarkIs, marked, unmarked, MarksAre}
use Rattle.derivation.proofs.Totals.{total_same}
use Rattle.refusals.specs.Order.{Checks}
use Rattle.refusals.specs.Told as told
use Rattle.checks.proofs.Laws.{one_refusal, not_both, reported_passed}
use Rattle.filling.proofs.Unique.{filled_unique}
use Rattle.marks.specs.Told.{marks_told}
use Rattle.marks.specs.Outcome.{marks_checks, MarksOutcome, turned_down, no_room, answered}
use native.Mathlib.Omega.{arith}

-- a token has one mark
mark_one : {G : Grammar} {line : List ℕ} {t a b : ℕ} → MarkIs G line t a → MarkIs G line t b → a ≡ b
mark_one (marked s) (marked s') = refl
mark_one (marked s) (unmarked n) = absurd (n s)
mark_one (unmarked n) (marked s) = absurd (n s)
mark_one (unmarked n) (unmarked n') = refl

pub marks_unique : {G : Grammar} {line marks a b : List ℕ} {x y : ℕ} → MarksAre G line marks a x → MarksAre G line marks b y → (a ≡ b) × (x ≡ y)
marks_unique {G} {line} {marks} {a} {b} p q = (
  ext_get_or 0 a b (p.long ∙ sym q.long) (λ t h. same t (dec_lt t (length line))),
  p.ones ∙ total_same _ _ (length line) (λ t l. same t (yes l)) ∙ sym q.ones,
)
  where
    same : (t : ℕ) → Dec (t < length line) → get_or a t 0 ≡ get_or b t 0
    same t (yes l) = mark_one (p.mark t l) (q.mark t l)
    same t (no n) = p.past t (omega arith) ∙ sym (q.past t (omega arith))

pub length_listed : (f : ℕ → ℕ) (i n : ℕ) → length (listed f i n) ≡ n
unfolding listed
length_listed f i zero = refl
length_listed f i (suc n) = ap suc (length_listed f (suc i) n)

-- the computed mark of a token
pub mark_computed : (G : Grammar) (line : List ℕ) (t : ℕ) → Proper G → MarkIs G line t (cond (computed.secret G line t) 1 0)
mark_computed G line t proper = go (computed.secret G line t) (secret_iff G line proper t)
  where
    go : (b : Bool) → (b ≡ true) ↔ Secret G line t → MarkIs G line t (cond b 1 0)
    go true e = marked (e.0 refl)
    go false e = unmarked (λ s. true≢false (sym (e.1 s)))

-- the first n bytes are the list of the computed marks
pub marks_computed :
    {G : Grammar} {line marks marks' : List ℕ} {secret : ℕ} → Proper G → length line ≤ length marks → MarksAre G line marks marks' secret →
    take (length line) marks' ≡ computed.marks G line
unfolding computed.marks
marks_computed {G} {line} {marks} {marks'} proper room p =
    let long : length (take (length line) marks') ≡ length line = length-take-le (length line) marks' (omega (arith, p.long)) in
    ext_get_or 0 (take (length line) marks') (listed (λ t. cond (computed.secret G line t) 1 0) 0 (length line)) (long ∙ sym (length_listed _ 0 (length line)))
    (λ t h.
    let l : t < length line = rw long at h in
    get_or-take (length line) marks' t 0 l ∙ mark_one (p.mark t l) (mark_computed G line t proper) ∙ sym (at_listed _ 0 (length line) t l))

-- the values that are told are those of one answer
told_marked : (a : Result ℕ Refusal) (secret : ℕ) → marks_told a ≡ told.answered (secret ∷ []) → a ≡ Ok secret
told_marked (Ok x) secret e = cc
told_marked (Err refusal) secret e = cc

module _ (g line words depths marks : List ℕ) where
  abbrev checks : Checks
  checks = marks_checks g line words depths marks

  -- two outcomes that the contract of the marks question allows are equal
  pub marks_outcome_unique :
      {a b : Result ℕ Refusal} {w d m w' d' m' : List ℕ} → MarksOutcome g line words depths marks a w d m → MarksOutcome g line words depths marks b w' d' m' →
      (a ≡ b) × (w ≡ w') × (d ≡ d') × (m ≡ m')
  marks_outcome_unique (turned_down e p x y z) (turned_down f q x' y' z') =
      let r = one_refusal e f in (p ∙ ap Err r ∙ sym q, x ∙ sym x', y ∙ sym y', z ∙ sym z')
  marks_outcome_unique (turned_down e p x y z) (no_room f l q x' z') = absurd (not_both e f)
  marks_outcome_unique (turned_down e p x y z) (answered f u x' z') = absurd (not_both e (reported_passed checks f).0)
  marks_outcome_unique (no_room e k p x z) (turned_down f q x' y' z') = absurd (not_both f e)
  marks_outcome_unique (no_room e k p x z) (no_room f l q x' z') =
      let r = one_refusal k l in
      let w = filled_unique _ line words depths x x' in
      (p ∙ ap Err r ∙ sym q, w.0, w.1, z ∙ sym z')
  marks_outcome_unique (no_room e k p x z) (answered f u x' z') = absurd (not_both k (reported_passed checks f).1)
  marks_outcome_unique (answered e t x z) (turned_down f q x' y' z') = absurd (not_both f (reported_passed checks e).0)
  marks_outcome_unique (answered e t x z) (no_room f l q x' z') = absurd (not_both l (reported_passed checks e).1)
  marks_outcome_unique {a} {b} (answered {secret = r} e t x z) (answered {secret = s} f u x' z') =
      let w = filled_unique _ line words depths x x' in
      let m = marks_unique z z' in
      (told_marked a r t ∙ ap Ok m.1 ∙ sym (told_marked b s u), w.0, w.1, m.0)
