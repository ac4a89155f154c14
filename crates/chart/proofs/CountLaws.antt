-- A row that shows the ends of (A, i): its digits, its size; and the number of ends that a filled chart shows, which is the number of facts.
use Prim.Native.Nat.{ℕ, zero, suc, ◌+◌, ◌-◌, ◌*◌, ◌^◌, ◌≤◌, ◌<◌}
use mathlib.Core.Path.{◌≡◌, refl, ap, ◌∙◌}
use mathlib.Core.Logic.{◌↔◌}
use mathlib.Core.Bool.{Bool, true, false, cond, false≢true}
use mathlib.Core.List.{List}
use native.Mathlib.Nat.{le_of_suc-le-suc}
use native.Mathlib.Numerals.{add-one}
use native.Mathlib.Omega.{arith}
use lib.ListN.{length, get_or, take}
use Rattle.std.proofs.lemmas.List.{get_or-take, length-take-le}
use Rattle.positions.specs.Member.{digit, Member}
use Rattle.positions.specs.Count.{count_below}
use Rattle.positions.proofs.Members.{no_digit, word_below}
use Rattle.derivation.specs.Grammar.{Grammar, Proper}
use Rattle.derivation.specs.Fact.{Fact}
use Rattle.derivation.specs.computed.Facts.{facts}
use Rattle.derivation.specs.computed.FactCount.{total, fact_count}
use Rattle.derivation.proofs.Within.{tree_inside}
use Rattle.derivation.proofs.Totals.{total_past, total_rows, total_same}
use Rattle.derivation.proofs.Facts.{facts_exact}
use Rattle.checks.specs.Memory.{chart_size}
use Rattle.filling.specs.Filled.{WorkFilled}

-- a count is a total of digits
pub count_total : (k x : ℕ) → count_below k x ≡ total (digit x) k
unfolding count_below total
count_total zero x = refl
count_total (suc k) x = ap (λ (y : ℕ). y + digit x k) (count_total k x)

-- the total of the first rows of a chart, which are a row of their own
pub total_front : (words : List ℕ) (rows : ℕ) → rows ≤ length words →
    total (λ q. count_below 64 (get_or (take rows words) q 0)) (length (take rows words)) ≡ total (λ q. count_below 64 (get_or words q 0)) rows
total_front words rows l =
    rw (length-take-le rows words l)
    (total_same (λ q. count_below 64 (get_or (take rows words) q 0)) (λ q. count_below 64 (get_or words q 0)) rows (λ q h. ap (count_below 64) (get_or-take rows words q 0 h)))

-- a digit that tells the truth of a test
pub digit_test : (x j : ℕ) (b : Bool) → (Member x j → b ≡ true) → (b ≡ true → Member x j) → digit x j ≡ cond b 1 0
digit_test x j true to from = from refl
digit_test x j false to from = no_digit x j (λ m. false≢true (to m))

-- a word that shows the ends of (A, i) on a line of at most 63 tokens has 64 digits
pub row_fits : (G : Grammar) (line : List ℕ) (A i word : ℕ) → length line ≤ 63 → ((j : ℕ) → Member word j ↔ Fact G line A i j) → word < 2 ^ 64
row_fits G line A i word short shows = word_below word 64 (λ j m. omega (arith, (tree_inside ((shows j).0 m)).ends))

-- the digits of a word that shows the ends of (A, i) are the computed facts
module _ (G : Grammar) (line : List ℕ) (proper : Proper G) (A i word : ℕ) (shows : (j : ℕ) → Member word j ↔ Fact G line A i j) where
  pub digit_is : (j : ℕ) → digit word j ≡ cond (facts G line A i j) 1 0
  digit_is j =
      let exact = facts_exact G line proper A i j in
      digit_test word j (facts G line A i j) (λ m. exact.1 ((shows j).0 m)) (λ e. (shows j).1 (exact.0 e))

  pub digit_past : (j : ℕ) → suc (length line) ≤ j → digit word j ≡ 0
  digit_past j h = no_digit word j (λ m. omega (arith, (tree_inside ((shows j).0 m)).ends))

module _ (G : Grammar) (line words depths words' depths' : List ℕ) (proper : Proper G) (short : length line ≤ 63) (filled : WorkFilled G line words depths words' depths') where
  -- a word shows as many ends as its category has facts from its start
  row_counted : (A i : ℕ) → A < length G.categories → i ≤ length line →
      count_below 64 (get_or words' (A * (length line + 1) + i) 0) ≡ total (λ j. cond (facts G line A i j) 1 0) (suc (length line))
  row_counted A i a l =
      let n = length line in
      let word = get_or words' (A * (n + 1) + i) 0 in
      let shows = filled.word A i a l in
      let all : 64 ≡ suc n + (63 - n) = omega arith in
      count_total 64 word
      ∙ ap (total (digit word)) all
      ∙ total_past (digit word) (suc n) (63 - n) (digit_past G line proper A i word shows)
      ∙ total_same _ _ (suc n) (λ j h. digit_is G line proper A i word shows j)

  pub facts_counted : total (λ q. count_below 64 (get_or words' q 0)) (chart_size (length G.categories) (length line)) ≡ fact_count G line
  unfolding fact_count
  facts_counted =
      total_rows (λ q. count_below 64 (get_or words' q 0)) (length G.categories) (length line + 1)
      ∙ total_same _ _ (length G.categories) (λ A a.
      ap (total (λ i. count_below 64 (get_or words' (A * (length line + 1) + i) 0))) (add-one (length line))
      ∙ total_same _ _ (suc (length line)) (λ i l. row_counted A i a (le_of_suc-le-suc l)))
