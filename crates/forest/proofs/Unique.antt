-- The outcome of the forest question is one: any two that its contract allows are equal.
use Rattle.std.proofs.Common.{Err, Ok, Result}
use Prim.Native.Nat.{ℕ}
use mathlib.Core.Path.{◌≡◌, sym, ap, ◌∙◌}
use mathlib.Core.List.{List, [], ◌∷◌, ◌++◌, map}
use native.Mathlib.Omega.{arith}
use lib.ListN.{length, drop}
use Rattle.refusals.specs.declared.Refusal.{Refusal}
use Rattle.refusals.specs.declared.Refusal.TheVariants.{ForestTooSmall}
use Rattle.refusals.specs.Told as told
use Rattle.derivation.specs.Grammar.{Grammar}
use Rattle.derivation.specs.Branch.{BranchValue, ForestIs}
use Rattle.derivation.proofs.Forest.{forest_unique}
use Rattle.checks.proofs.Laws.{one_refusal, not_both}
use Rattle.grammar.specs.Given.{grammar_given}
use Rattle.filling.proofs.Unique.{filled_unique}
use Rattle.forest.specs.declared.Branch.{Branch}
use Rattle.forest.specs.Record.{record_of}
use Rattle.forest.specs.Told.{forest_told}
use Rattle.forest.specs.Outcome.{ForestOutcome, turned_down, no_room, answered}

-- the value that is told is that of one answer
told_records : (a : Result ℕ Refusal) {count : ℕ} → forest_told a ≡ told.answered (count ∷ []) → a ≡ Ok count
told_records (Ok x) e = cc
told_records (Err refusal) e = cc

-- two lists of the records are equally long
same_length : {G : Grammar} {line : List ℕ} {s t : List BranchValue} → ForestIs G line s → ForestIs G line t → length s ≡ length t
same_length i j = ap length (forest_unique i j)

pub forest_outcome_unique :
    (g line words depths : List ℕ) (rows : List Branch) {a b : (Result ℕ Refusal)} {w w' d d' : List ℕ} {r r' : List Branch} →
    ForestOutcome g line words depths rows a w d r → ForestOutcome g line words depths rows b w' d' r' →
    (a ≡ b) × (w ≡ w') × (d ≡ d') × (r ≡ r')
forest_outcome_unique g line words depths rows (turned_down e q w d r) (turned_down e' q' w' d' r') =
    (q ∙ ap (λ (z : Refusal). Err z) (one_refusal e e') ∙ sym q', w ∙ sym w', d ∙ sym d', r ∙ sym r')
forest_outcome_unique g line words depths rows (turned_down e q w d r) (no_room e' i' l' q' f' r') = absurd (not_both e e')
forest_outcome_unique g line words depths rows (turned_down e q w d r) (answered e' i' l' t' f' r') = absurd (not_both e e')
forest_outcome_unique g line words depths rows (no_room e i l q f r) (turned_down e' q' w' d' r') = absurd (not_both e' e)
forest_outcome_unique g line words depths rows (no_room e i l q f r) (no_room e' i' l' q' f' r') =
    let m = filled_unique (grammar_given g) line words depths f f' in
    (q ∙ ap (λ (s : List BranchValue). Err (ForestTooSmall (length s))) (forest_unique i i') ∙ sym q', m.0, m.1, r ∙ sym r')
forest_outcome_unique g line words depths rows (no_room e i l q f r) (answered e' i' l' t' f' r') = absurd (omega (arith, l, l', same_length i i'))
forest_outcome_unique g line words depths rows (answered e i l t f r) (turned_down e' q' w' d' r') = absurd (not_both e' e)
forest_outcome_unique g line words depths rows (answered e i l t f r) (no_room e' i' l' q' f' r') = absurd (omega (arith, l, l', same_length i i'))
forest_outcome_unique g line words depths rows {a} {b} (answered e i l t f r) (answered e' i' l' t' f' r') =
    let m = filled_unique (grammar_given g) line words depths f f' in
    let same = forest_unique i i' in
    (told_records a t ∙ ap (λ (s : List BranchValue). Ok (length s)) same ∙ sym (told_records b t'), m.0, m.1, r ∙ ap (λ (s : List BranchValue). map record_of s ++ drop (length s) rows) same ∙ sym r')
