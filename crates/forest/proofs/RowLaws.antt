-- The records of a middle, a start, a place and a rule as rows, and the rows as they are written.
use Rattle.std.proofs.Common.{◌^◌, ◌≡◌, ℕ, suc, ◌+◌, ◌-◌, ◌<◌, ◌≤◌, Bool, true, false, cond, List, [], ◌∷◌, ◌++◌, map, length, take, drop, refl, sym, ap, ap₂, ◌∙◌, append_assoc, append-nil, add-one, arith, length-append, length-drop, slice_set, get_or, suc-le-suc, zero-le}
use Rattle.std.specs.List.{flat_map}
use borrow.Rule.Slice.PartMut.{put_mid, mid_of}
use lib.Seq.{set-append_seam, take-append_seam, drop-append_seam, take-length, drop-length, drop-drop, drop-cons}
use Rattle.positions.specs.Count.{count_below}
use Rattle.positions.proofs.Listed.{length_list}
use Rattle.positions.specs.Ascending.{member_list}
use Rattle.derivation.specs.Grammar.{Grammar, rule_at, Rule}
use Rattle.derivation.specs.Branch.{BranchValue}
use Rattle.derivation.specs.computed.Listing.{gathered, kept}
use Rattle.derivation.specs.computed.Facts.{facts}
use Rattle.derivation.specs.computed.Forest.{is_branch, passing, forest}
use Rattle.derivation.proofs.Forest.{is_branch_iff}
use Rattle.derivation.proofs.Within.{child_inside}
use Rattle.grammar.specs.Value.{standing}
use Rattle.grammar.specs.Checked.{grammar_in}
use Rattle.forest.specs.declared.Branch.{Branch}
use Rattle.forest.specs.declared.place.Chart.{Chart}
use Rattle.forest.specs.declared.place.Place.{Place}
use Rattle.forest.specs.Record.{record_of}
use Rattle.forest.specs.inner.Ends.{Reached, SymbolDerives, SymbolEnds, PrefixEnds}
use Rattle.forest.specs.inner.Parts.{branch_at, place_part}
use Rattle.forest.specs.inner.Writing.{all_rows, rule_rows, place_rows, start_rows, middle_rows, Front}
use Rattle.forest.proofs.RuleLaws.{proper, rules_all}
use Rattle.forest.proofs.EndsLaws.{rule_of, prefix_inside}
use Rattle.forest.proofs.CountLaws.{branch_zero}
use Rattle.forest.proofs.PartLaws.{gathered_none, gathered_next, gathered_fits, gathered_empty, gathered_first, gathered_map, members_gathered, flat_map_fits}

-- the row of one record, whose symbol is d, counted from 0
abbrev pub one_row : ℕ → ℕ → ℕ → ℕ → ℕ → List Branch
one_row p d i m j = record { rule = p; place = d + 1; start = i; middle = m; end = j } ∷ []

one_rows : (p d i m : ℕ) (ends : List ℕ) → length (flat_map (one_row p d i m) ends) ≡ length ends
one_rows p d i m [] = refl
one_rows p d i m (j ∷ ends) = ap suc (one_rows p d i m ends)

-- what is kept of a that does not pass, and of one that does
kept_none : {X : Type 0} (test : X → Bool) (x : X) → (test x ≡ true → ⊥) → kept test x ≡ []
unfolding kept
kept_none {X} test x n = go (test x) refl
  where
    go : (b : Bool) → test x ≡ b → cond b (x ∷ []) [] ≡ []
    go true e = absurd (n e)
    go false e = refl

kept_one : {X : Type 0} (test : X → Bool) (x : X) → test x ≡ true → kept test x ≡ x ∷ []
unfolding kept
kept_one test x e = rw e

module _ (place : Place) (i : ℕ) where
  abbrev G : Grammar
  G = grammar_in place.chart.now.grammar

  abbrev line : List ℕ
  line = place.chart.now.line.now

  abbrev test : BranchValue → Bool
  test = is_branch G line (facts G line)

  abbrev here : ℕ → ℕ → BranchValue
  here m j = branch_at place.rule (suc place.d) i m j

  right_is : (standing place.chart.now.grammar.view.bytes.now place.at).right ≡ (rule_at G place.rule).right
  right_is = ap (λ (r : Rule). r.right) (rule_of place).found.is

  before_is : suc place.d - 1 ≡ place.d
  before_is = omega arith

  is_test : (m j : ℕ) → Reached place.chart.now place.at place.d i m → SymbolDerives place.chart.now place.at place.d m j → test (here m j) ≡ true
  is_test m j before symbol =
      (is_branch_iff (proper place.chart.now.grammar) (here m j)).1
      (record {
        below = rw (rules_all place.chart.now.grammar) place.below;
        first = suc-le-suc zero-le;
        last = rw (← right_is) place.inside;
        before = rw (before_is, ← right_is) before;
        symbol = rw (before_is, ← right_is) symbol;
      })

  test_is : (m j : ℕ) → test (here m j) ≡ true → Reached place.chart.now place.at place.d i m × SymbolDerives place.chart.now place.at place.d m j
  test_is m j e =
      let b = (is_branch_iff (proper place.chart.now.grammar) (here m j)).0 e in
      (rw (before_is, ← right_is) at b.before, rw (before_is, ← right_is) at b.symbol)

  -- the rows of a middle are those of its ends
  pub middle_rows_are :
      (m ends : ℕ) → Reached place.chart.now place.at place.d i m → SymbolEnds place.chart.now place.at place.d m ends →
      flat_map (one_row place.rule place.d i m) (member_list ends) ≡ middle_rows place.chart.now place.rule place.d i m
  middle_rows_are m ends reached w =
      members_gathered ends (one_row place.rule place.d i m) (λ j. map record_of (kept test (here m j)))
      (λ j h. rw (add-one, kept_one test (here m j) (is_test m j reached ((w j).0 h))) refl)
      (λ j n. ap (map record_of) (kept_none test (here m j) (λ e. n ((w j).1 (test_is m j e).1))))
      (suc (length line)) (λ j h. omega (arith, (child_inside ((w j).0 h)).ends))
      ∙ sym (gathered_map record_of (λ j. kept test (here m j)) (suc (length line)))

  -- as many as there are ends
  pub middle_counted :
      (m ends : ℕ) → Reached place.chart.now place.at place.d i m → SymbolEnds place.chart.now place.at place.d m ends → ends < 2 ^ 64 →
      length (middle_rows place.chart.now place.rule place.d i m) ≡ count_below 64 ends
  middle_counted m ends reached w fits =
      ap (λ (s : List Branch). length s) (sym (middle_rows_are m ends reached w)) ∙ one_rows place.rule place.d i m (member_list ends) ∙ length_list ends fits

  -- there is room for one more
  pub middle_room :
      (m ends : ℕ) → Reached place.chart.now place.at place.d i m → SymbolEnds place.chart.now place.at place.d m ends →
      (taken rest : List ℕ) (j n : ℕ) → taken ++ j ∷ rest ≡ member_list ends → length (middle_rows place.chart.now place.rule place.d i m) ≤ n →
      length (flat_map (one_row place.rule place.d i m) taken) < n
  middle_room m ends reached w taken rest j n e l =
      omega (arith, flat_map_fits (one_row place.rule place.d i m) taken rest (member_list ends) j e, ap (λ (s : List Branch). length s) (middle_rows_are m ends reached w), l)

  -- those of a start are those of its middles
  pub start_rows_are :
      (middles : ℕ) → PrefixEnds place.chart.now place.at place.d i middles →
      flat_map (middle_rows place.chart.now place.rule place.d i) (member_list middles) ≡ start_rows place.chart.now place.rule place.d i
  start_rows_are middles w =
      members_gathered middles (middle_rows place.chart.now place.rule place.d i) (middle_rows place.chart.now place.rule place.d i)
      (λ m h. refl)
      (λ m n. ap (map record_of) (gathered_empty _ (suc (length line)) (λ j. kept_none test (here m j) (λ e. n ((w m).1 (test_is m j e).0)))))
      (suc (length line)) (λ m h. omega (arith, prefix_inside place.chart.now place.at i place.d middles w m h))
      ∙ sym (gathered_map record_of (λ m. gathered (suc (length line)) (λ j. kept test (here m j))) (suc (length line)))

  pub start_room :
      (middles : ℕ) → PrefixEnds place.chart.now place.at place.d i middles →
      (taken rest : List ℕ) (m n : ℕ) → taken ++ m ∷ rest ≡ member_list middles → length (start_rows place.chart.now place.rule place.d i) ≤ n →
      length (flat_map (middle_rows place.chart.now place.rule place.d i) taken) + length (middle_rows place.chart.now place.rule place.d i m) ≤ n
  start_room middles w taken rest m n e l =
      omega (arith, flat_map_fits (middle_rows place.chart.now place.rule place.d i) taken rest (member_list middles) m e, ap (λ (s : List Branch). length s) (start_rows_are middles w), l)

-- those of a place are those of its starts, those of a rule those of its places, and all are those of the rules
pub place_rows_are : (chart : Chart) (p d : ℕ) → gathered (suc (length chart.line.now)) (start_rows chart p d) ≡ place_rows chart p d
place_rows_are chart p d = sym (gathered_map record_of _ (suc (length chart.line.now)))

pub rule_rows_are : (chart : Chart) (p : ℕ) → gathered (length (rule_at (grammar_in chart.grammar) p).right) (place_rows chart p) ≡ rule_rows chart p
rule_rows_are chart p =
    let n = length (rule_at (grammar_in chart.grammar) p).right in
    sym (gathered_map record_of (place_part (grammar_in chart.grammar) chart.line.now p) (suc n) ∙ gathered_first (λ d. map record_of (place_part (grammar_in chart.grammar) chart.line.now p d)) n (ap (map record_of) none))
  where
    none : place_part (grammar_in chart.grammar) chart.line.now p 0 ≡ []
    none = gathered_empty _ _ (λ i. gathered_empty _ _ (λ m. gathered_empty _ _ (λ j. kept_none _ _ (λ e. let z = branch_zero (grammar_in chart.grammar) chart.line.now p i m j in cc))))

pub all_rows_are : (chart : Chart) → gathered (length (grammar_in chart.grammar).rules) (rule_rows chart) ≡ all_rows chart
unfolding forest passing
all_rows_are chart = sym (gathered_map record_of _ (length (grammar_in chart.grammar).rules))

pub front_none : (rows : List Branch) → Front [] rows rows 0
front_none rows = record { count = refl; laid = refl }

module _ {l rows rows' : List Branch} {w : ℕ} (front : Front l rows rows' w) where
  taken : take w rows' ≡ l
  taken = ap₂ (λ (k : ℕ) (s : List Branch). take k s) front.count front.laid ∙ take-append_seam l (drop (length l) rows)

  -- what is left of the rows
  others : drop w rows' ≡ drop (length l) rows
  others = ap₂ (λ (k : ℕ) (s : List Branch). drop k s) front.count front.laid ∙ drop-append_seam l (drop (length l) rows)

  module _ (room : length l ≤ length rows) where
    left_is : length rows' - w ≡ length (drop (length l) rows)
    left_is = omega (arith, ap (λ (s : List Branch). length s) front.laid, length-append l (drop (length l) rows), front.count)

    lent_is : mid_of w (length rows' - w) rows' ≡ drop (length l) rows
    lent_is = ap₂ (λ (k : ℕ) (s : List Branch). take k s) left_is others ∙ take-length (drop (length l) rows)

    none_past : drop (length rows' - w) (drop w rows') ≡ []
    none_past = ap₂ (λ (k : ℕ) (s : List Branch). drop k s) left_is others ∙ drop-length (drop (length l) rows)

    -- l' has room in the others, and is then written after l
    pub front_room : (l' : List Branch) → length l + length l' ≤ length rows → length l' ≤ length (mid_of w (length rows' - w) rows')
    front_room l' fits = rw lent_is (omega (arith, length-drop (length l) rows))

    pub front_more : {l' part : List Branch} {w' : ℕ} → Front l' (mid_of w (length rows' - w) rows') part w' → Front (l ++ l') rows (put_mid w (length rows' - w) rows' part) (w + w')
    front_more {l'} {part} {w'} more =
        record {
          count = omega (arith, front.count, more.count, length-append l l');
          laid =
              ap₂ (λ (a b : List Branch). a ++ b) taken (ap₂ (λ (a b : List Branch). a ++ b) more.laid none_past ∙ append-nil (l' ++ drop (length l') (mid_of w (length rows' - w) rows')) ∙ ap (λ (s : List Branch). l' ++ drop (length l') s) lent_is)
              ∙ rw (length-append l l', append_assoc, drop-drop) refl;
        }

  pub front_one : (x : Branch) → length l < length rows → Front (l ++ x ∷ []) rows (slice_set rows' w x) (w + 1)
  front_one x room =
      record {
        count = omega (arith, front.count, length-append l (x ∷ []));
        laid =
            ap₂ (λ (s : List Branch) (k : ℕ). slice_set s k x) (front.laid ∙ ap (λ (s : List Branch). l ++ s) (drop-cons rows (length l) x room)) front.count
            ∙ set-append_seam l (get_or rows (length l) x) (drop (suc (length l)) rows) x
            ∙ rw (length-append l (x ∷ []), append_assoc) (ap (λ (k : ℕ). l ++ x ∷ drop k rows) (sym (add-one (length l))));
      }

-- a loop over what is gathered: there is room for the next list, and with it one more is gathered
module _ (f : ℕ → List Branch) {rows rows' : List Branch} {k w : ℕ} (front : Front (gathered k f) rows rows' w) (n : ℕ) (more : k < n) (room : length (gathered n f) ≤ length rows) where
  fits : length (gathered k f) + length (f k) ≤ length rows
  fits = omega (arith, gathered_fits f k n more)

  pub gathered_room : length (f k) ≤ length (mid_of w (length rows' - w) rows')
  gathered_room = front_room front (omega (arith, fits)) (f k) fits

  pub gathered_more : {part : List Branch} {w' : ℕ} → Front (f k) (mid_of w (length rows' - w) rows') part w' → Front (gathered (k + 1) f) rows (put_mid w (length rows' - w) rows' part) (w + w')
  gathered_more one = rw gathered_next (front_more front (omega (arith, fits)) one)

pub gathered_begins : (f : ℕ → List Branch) (rows : List Branch) → Front (gathered 0 f) rows rows 0
gathered_begins f rows = rw gathered_none (front_none rows)
