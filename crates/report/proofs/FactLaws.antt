-- The lines of facts, read off filled depths, are those of the document.
use Prim.Native.Nat.{ℕ, zero, suc, ◌+◌, ◌*◌, ◌/◌, ◌%◌, ◌≤◌, ◌<◌}
use mathlib.Core.Path.{◌≡◌, refl, sym, ◌∙◌}
use mathlib.Core.List.{List, append-nil, map, flatten}
use native.Mathlib.Numerals.{add-one}
use native.Mathlib.Nat.{mul-add-div_right, mul-add-mod_self_right, mod-eq_of_lt, div-eq_of_lt, add-zero}
use native.Mathlib.Omega.{arith}
use lib.ListN.{length, get_or, take}
use lib.Seq.{length-take-le}
use Rattle.std.proofs.lemmas.List.{get_or-take}
use Rattle.derivation.specs.Grammar.{Grammar, Proper}
use Rattle.derivation.specs.computed.Listing.{gathered, kept}
use Rattle.derivation.specs.computed.Table.{is_found, depth_of}
use Rattle.derivation.specs.computed.Facts.{facts}
use Rattle.derivation.specs.computed.Facts.{fact_list}
use Rattle.derivation.proofs.Table.{depth_of_is, depth_is_unique}
use Rattle.filling.specs.Filled.{WorkFilled}
use Rattle.lines.specs.inner.Listing.{depth_line, fact_line_at}
use Rattle.report.specs.Printed.{fact_line, fact_lines}
use Rattle.report.proofs.GatherLaws.{gathered_same, gathered_rows, map_gathered}

-- the numbers of q = (A×w + i)×w + j
module _ (w A i j : ℕ) (a : i < w) (b : j < w) where
  row_of : ((A * w + i) * w + j) / w ≡ A * w + i
  row_of = mul-add-div_right (omega arith) (A * w + i) j ∙ rw (div-eq_of_lt b) (add-zero (A * w + i))

  end_of : ((A * w + i) * w + j) % w ≡ j
  end_of = mul-add-mod_self_right (A * w + i) w j ∙ mod-eq_of_lt b

  category_of : ((A * w + i) * w + j) / w / w ≡ A
  category_of = rw row_of (mul-add-div_right (omega arith) A i ∙ rw (div-eq_of_lt a) (add-zero A))

  start_of : ((A * w + i) * w + j) / w % w ≡ i
  start_of = rw row_of (mul-add-mod_self_right A w i ∙ mod-eq_of_lt a)

-- the lines read off the first n depths
pub lines_front : (depths : List ℕ) (width n : ℕ) → n ≤ length depths → gathered (length (take n depths)) (fact_line_at (take n depths) width) ≡ gathered n (fact_line_at depths width)
lines_front depths width n h = rw (length-take-le n depths h) (gathered_same _ _ n (λ k l. rw (get_or-take n depths k 0 l)))

-- a fact has its line, and no other span has one
module _ (G : Grammar) (line : List ℕ) where
  found_is : (A i j : ℕ) → facts G line A i j ≡ is_found (depth_of G line A i j)
  unfolding facts depth_of
  found_is A i j = refl

  line_is : (A i j d : ℕ) → depth_of G line A i j ≡ suc d → fact_line G line (record { category = A; start = i; end = j }) ≡ depth_line A i j (suc d)
  unfolding fact_line
  line_is A i j d e = rw e

  fact_lines_lem : (A i j : ℕ) →
      flatten (map (fact_line G line) (kept (λ s. facts G line s.category s.start s.end) (record { category = A; start = i; end = j }))) ≡ depth_line A i j (depth_of G line A i j)
  unfolding flatten kept is_found
  fact_lines_lem A i j = go (depth_of G line A i j) refl
    where
      go : (d : ℕ) → depth_of G line A i j ≡ d →
          flatten (map (fact_line G line) (kept (λ s. facts G line s.category s.start s.end) (record { category = A; start = i; end = j }))) ≡ depth_line A i j (depth_of G line A i j)
      go zero e = rw (found_is A i j, e)
      go (suc d) e = rw (found_is A i j, e) (append-nil (fact_line G line (record { category = A; start = i; end = j })) ∙ line_is A i j d e)

  module _ (proper : Proper G) {words depths words' depths' : List ℕ} (filled : WorkFilled G line words depths words' depths') where
    abbrev w : ℕ
    w = length line + 1

    one_fact : (A i j : ℕ) → A < length G.categories → i < w → j < w → fact_line_at depths' w ((A * w + i) * w + j) ≡ depth_line A i j (depth_of G line A i j)
    one_fact A i j a b c =
        let d : get_or depths' ((A * w + i) * w + j) 0 ≡ depth_of G line A i j = depth_is_unique (filled.depth A i j a (omega arith) (omega arith)) (depth_of_is G line proper A i j) in
        rw (category_of w A i j b c, start_of w A i j b c, end_of w A i j b c, d)

    abbrev cells : (ℕ → ℕ → ℕ → List ℕ) → List ℕ
    cells f = gathered (length G.categories) (λ A. gathered w (λ i. gathered w (λ j. f A i j)))

    to_width : (f : ℕ → List ℕ) → gathered (suc (length line)) f ≡ gathered w f
    to_width f = rw add-one

    -- the document's list of facts, line by line
    listed_facts : fact_lines G line ≡ cells (λ A i j. depth_line A i j (depth_of G line A i j))
    unfolding fact_lines fact_list
    listed_facts =
        map_gathered (fact_line G line) _ (length G.categories)
        ∙ gathered_same _ _ (length G.categories) (λ A a.
        map_gathered (fact_line G line) _ (suc (length line))
        ∙ to_width _
        ∙ gathered_same _ _ w (λ i b.
        map_gathered (fact_line G line) _ (suc (length line))
        ∙ to_width _
        ∙ gathered_same _ _ w (λ j c. fact_lines_lem A i j)))

    pub facts_listed : gathered (length G.categories * w * w) (fact_line_at depths' w) ≡ fact_lines G line
    facts_listed =
        gathered_rows (fact_line_at depths' w) w (length G.categories * w)
        ∙ gathered_rows (λ r. gathered w (λ j. fact_line_at depths' w (r * w + j))) w (length G.categories)
        ∙ gathered_same _ _ (length G.categories) (λ A a. gathered_same _ _ w (λ i b. gathered_same _ _ w (λ j c. one_fact A i j a b c)))
        ∙ sym listed_facts
