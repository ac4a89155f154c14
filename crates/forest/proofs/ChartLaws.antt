-- What a chart holds, taken out of its type: each part of it is one fact at most, or is decided by a test.
use Prim.Native.Nat.{ℕ}
use mathlib.Core.Logic.{∥∥₁_elim}
use mathlib.Core.Bool.{Bool-set}
use mathlib.Core.List.{List}
use native.Mathlib.Nat.{ℕ_set}
use native.Mathlib.Bridge.{le_prop}
use Rattle.derivation.specs.Fact.{Fact}
use Rattle.derivation.proofs.Facts.{facts_exact}
use Rattle.grammar.specs.declared.view.Checked.{Checked}
use Rattle.grammar.specs.Checked.{grammar_in}
use Rattle.forest.specs.inner.Charted.{Charted}
use Rattle.forest.proofs.RuleLaws.{proper}

module _ {grammar : Checked} {line words : List ℕ} (held : ∥ Charted grammar line words ∥₁) where
  -- a fact is there where its test is true
  fact : (A i j : ℕ) → (Charted grammar line words → Fact (grammar_in grammar) line A i j) → Fact (grammar_in grammar) line A i j
  fact A i j h = let exact = facts_exact (grammar_in grammar) line (proper grammar) A i j in exact.0 (∥∥₁_elim held (Bool-set _ _) (λ chart. exact.1 (h chart)))

  pub opened : Charted grammar line words
  opened =
      record {
        is_line =
            record {
              short = ∥∥₁_elim held le_prop (λ chart. chart.is_line.short);
              tokens = λ t l. ∥∥₁_elim held le_prop (λ chart. chart.is_line.tokens t l);
            };
        room = ∥∥₁_elim held le_prop (λ chart. chart.room);
        word = λ A i a l j. (
          λ m. fact A i j (λ chart. (chart.word A i a l j).0 m),
          λ t. ∥∥₁_elim held (ℕ_set _ _) (λ chart. (chart.word A i a l j).1 t),
        );
      }
