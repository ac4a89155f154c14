-- Bytes printed one after the other: into a row, on a page, numbers with a space before each, and lists gathered.
use Prim.Native.Nat.{ℕ, zero, suc, ◌+◌, ◌*◌, ◌≤◌, ◌<◌}
use mathlib.Core.Path.{◌≡◌, refl, sym, ◌∙◌, ap}
use mathlib.Core.List.{List, [], ◌∷◌, ◌++◌, append_assoc, append-nil, map, map-append, flatten}
use native.Mathlib.Numerals.{add-one}
use native.Mathlib.Nat.{zero-add, add-zero, add-suc, suc-add, mul-le-mul_left}
use native.Mathlib.Omega.{arith}
use lib.ListN.{length, get_or, length-append, take, drop, take-append-drop}
use borrow.Rule.Slice.PartMut.{put_mid}
use lib.Seq.{drop-drop}
use Rattle.std.proofs.lemmas.List.{take_more}
use Rattle.derivation.specs.computed.Listing.{listed, gathered}
use Rattle.tree.specs.Bytes.{wrote}
use Rattle.tree.proofs.ByteLaws.{wrote_none, wrote_more}
use Rattle.lines.specs.Decimal.{digit_code, decimal}
use Rattle.lines.specs.declared.writing.Page.{Page}
use Rattle.lines.specs.inner.Printed.{HasRoom, Printed}
use Rattle.lines.specs.inner.Stored.{Stored}
use Rattle.lines.specs.Lines.{spaced}

-- a part of the row is written over
pub wrote_part : (row : List ℕ) (at k : ℕ) {part : List ℕ} (bytes : List ℕ) → part ≡ bytes → k ≡ length bytes → put_mid at k row part ≡ wrote row at bytes
unfolding wrote
wrote_part row at k bytes e h = rw (e, h, drop-drop (length bytes) at row)

pub stored_none : (row : List ℕ) (at : ℕ) → Stored row at [] row at
stored_none row at = record { holds = sym (wrote_none row at); after = omega arith }

-- nothing is printed, and what is printed right after
pub printed_none : (page : Page) → page.at ≤ length page.row.now → Printed page [] page
printed_none page h = record { holds = sym (wrote_none page.row.now page.at); after = omega arith; fits = h; long = refl; same_row = refl }

pub printed_then : {p q r : Page} {x y : List ℕ} → Printed p x q → Printed q y r → Printed p (x ++ y) r
printed_then {p} {q} {r} {x} {y} v w =
    let both = length-append x y in
    record {
      holds = w.holds ∙ rw (v.holds, v.after) (wrote_more p.row.now p.at x y (omega arith));
      after = omega arith;
      fits = w.fits;
      long = w.long ∙ v.long;
      same_row = w.same_row ∙ v.same_row;
    }

-- the row that a page had, once the page is let go
pub printed_stored : {page page' : Page} {bytes row' : List ℕ} → Printed page bytes page' → row' ≡ page'.row.now → Stored page.row.now page.at bytes row' page'.at
printed_stored w e = record { holds = e ∙ w.holds; after = w.after }

-- fields with a space before each, of two lists
pub spaced_append : (x y : List (List ℕ)) → spaced (x ++ y) ≡ spaced x ++ spaced y
unfolding spaced
spaced_append [] y = refl
spaced_append (field ∷ x) y = ap (λ (l : List ℕ). 32 ∷ l) (ap (λ (l : List ℕ). field ++ l) (spaced_append x y) ∙ sym (append_assoc field (spaced x) (spaced y)))

-- the first i numbers, with a space before each
abbrev pub numbers_to : List ℕ → ℕ → List ℕ
numbers_to numbers i = spaced (map decimal (take i numbers))

module _ (numbers : List ℕ) (i : ℕ) where
  -- the first numbers are no longer than all
  pub numbers_few : length (numbers_to numbers i) ≤ length (spaced (map decimal numbers))
  numbers_few =
      let parts : numbers_to numbers i ++ spaced (map decimal (drop i numbers)) ≡ spaced (map decimal numbers) =
      sym (spaced_append (map decimal (take i numbers)) (map decimal (drop i numbers))) ∙ ap spaced (sym (map-append decimal (take i numbers) (drop i numbers)) ∙ ap (map decimal) (take-append-drop i numbers)) in
      omega (arith, simp length-append at (ap length parts))

  pub numbers_more : i < length numbers → numbers_to numbers (i + 1) ≡ numbers_to numbers i ++ (32 ∷ decimal (get_or numbers i 0))
  unfolding spaced
  numbers_more h =
      rw (take_more numbers i 0 h, map-append decimal (take i numbers) (get_or numbers i 0 ∷ []), spaced_append (map decimal (take i numbers)) (decimal (get_or numbers i 0) ∷ []), append-nil (decimal (get_or numbers i 0)))

-- a number more has room where all have
pub numbers_room : (numbers : List ℕ) (i : ℕ) → i < length numbers → length (numbers_to numbers i) + (1 + length (decimal (get_or numbers i 0))) ≤ length (spaced (map decimal numbers))
numbers_room numbers i h = omega (arith, numbers_few numbers (i + 1), simp length-append at (ap length (numbers_more numbers i h)))

-- the digit of a mark more
pub digits_more : (marks : List ℕ) (t : ℕ) → t < length marks → map digit_code (take (t + 1) marks) ≡ map digit_code (take t marks) ++ (digit_code (get_or marks t 0) ∷ [])
digits_more marks t h = rw (take_more marks t 0 h) (map-append digit_code (take t marks) (get_or marks t 0 ∷ []))

-- lists gathered one by one, each of at most b bytes
module _ {X : Type 0} (f : ℕ → List X) where
  from_snoc : (i n : ℕ) → flatten (listed f i (suc n)) ≡ flatten (listed f i n) ++ f (i + n)
  unfolding listed flatten
  from_snoc i zero = rw (add-zero, append-nil (f i))
  from_snoc i (suc n) = rw (from_snoc (suc i) n, add-suc, suc-add) (sym (append_assoc (f i) (flatten (listed f (suc i) n)) (f (suc (i + n)))))

  pub gathered_none : gathered 0 f ≡ []
  unfolding gathered listed flatten
  gathered_none = refl

  pub gathered_more : (n : ℕ) → gathered (n + 1) f ≡ gathered n f ++ f n
  unfolding gathered
  gathered_more n = rw (add-one, from_snoc 0 n, zero-add)

  pub gathered_few : (b n : ℕ) → ((k : ℕ) → k < n → length (f k) ≤ b) → length (gathered n f) ≤ b * n
  unfolding gathered listed flatten
  gathered_few b zero h = omega arith
  gathered_few b (suc n) h =
      let before = gathered_few b n (λ k l. h k (omega arith)) in
      let last = h n (omega arith) in
      let parts : length (gathered (suc n) f) ≡ length (gathered n f) + length (f n) = ap length (from_snoc 0 n) ∙ length-append (flatten (listed f 0 n)) (f (0 + n)) ∙ rw zero-add in
      omega (arith, before, last, parts)

-- a page on which q lists are gathered, and the next one is printed
pub gather_more : {start page next : Page} {q : ℕ} (f : ℕ → List ℕ) → Printed start (gathered q f) page → Printed page (f q) next → Printed start (gathered (q + 1) f) next
gather_more {q = q} f w more = rw (gathered_more f q) (printed_then w more)

-- lists of at most b bytes each are short, and where n of them have room the next has
module _ (b n : ℕ) (f : ℕ → List ℕ) (few : (k : ℕ) → k < n → length (f k) ≤ b) {start page : Page} {q : ℕ} (w : Printed start (gathered q f) page) where
  pub gather_short : q ≤ n → page.at ≤ start.at + b * q
  gather_short h = omega (arith, gathered_few f b q (λ k l. few k (omega arith)))

  pub gather_room : HasRoom start (b * n) → q < n → HasRoom page b
  gather_room room h = let m : b * suc q ≤ b * n = mul-le-mul_left b h in omega (arith, gather_short (omega arith))
