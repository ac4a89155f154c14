-- How an answer is handed over: by its values, or by its refusal's number and place.
use Prim.Native.Nat.{ℕ}
use mathlib.Core.Path.{◌≡◌, ap, ◌∙◌}
use mathlib.Core.List.{List}
use Rattle.refusals.specs.declared.Refusal.{Refusal}
use Rattle.refusals.specs.Row.{row_of}
use Rattle.refusals.specs.Told.{Told, answered, refused}
use Rattle.berylskip.specs.Exported.{numbers, handed, Exported}

module _ {told : Told} (values : List ℕ) (place : ℕ) where
  pub values_handed : (found : List ℕ) → told ≡ answered found → handed told values place ≡ numbers 0 found place
  values_handed found e = ap (λ (t : Told). handed t values place) e

  pub refusal_handed : (refusal : Refusal) {n p : ℕ} → told ≡ refused (row_of refusal) → (n ≡ (row_of refusal).number) × (p ≡ (row_of refusal).place) → handed told values place ≡ numbers n values p
  refusal_handed refusal e row = ap (λ (t : Told). handed t values place) e ∙ rw (row.0, row.1)

module _ {Answer : Type 0} {Outcome : Answer → Type 0} {told : Answer → Told} {values : List ℕ} {place : ℕ} (answer : Answer) (outcome : Outcome answer) where
  pub hands_values : (found : List ℕ) → told answer ≡ answered found → Exported Outcome told values place (numbers 0 found place)
  hands_values found e = record { answer = answer; outcome = outcome; hands = values_handed values place found e }

  pub hands_refusal : (refusal : Refusal) {n p : ℕ} → told answer ≡ refused (row_of refusal) → (n ≡ (row_of refusal).number) × (p ≡ (row_of refusal).place) → Exported Outcome told values place (numbers n values p)
  hands_refusal refusal e row = record { answer = answer; outcome = outcome; hands = refusal_handed values place refusal e row }
