-- The lines of a word and numbers: how long they are, and of which parts they are put together.
use Prim.Native.Nat.{ℕ, zero, suc, ◌+◌, ◌*◌, ◌/◌, ◌%◌, ◌≤◌, ◌<◌}
use mathlib.Core.Path.{◌≡◌, refl, ap}
use mathlib.Core.List.{List, [], ◌∷◌, ◌++◌, append_assoc, append-nil, map}
use native.Mathlib.Nat.{div-le_self, mod-le, suc-add}
use native.Mathlib.Omega.{arith}
use lib.ListN.{length, get_or, length-append}
use Rattle.std.specs.Simd.{first_chunks}
use Rattle.lines.specs.Decimal.{digit_code, decimal}
use Rattle.lines.specs.Lines.{text, spaced, line_of, numbered, rounds_and_facts, marks_of}
use Rattle.lines.specs.inner.Listing.{depth_line, fact_line_at, node_line_at}
use Rattle.lines.proofs.DecimalLaws.{tens, decimal_few}

-- numbers of at most k + 1 digits each, with a space before each, and with byte 10 after them
abbrev pub EachBelow : ℕ → List ℕ → Type 0
EachBelow n [] = Unit {0}
EachBelow n (a ∷ numbers) = (a < n) × EachBelow n numbers

pub spaced_few : (k : ℕ) (numbers : List ℕ) → EachBelow (tens k) numbers → length (spaced (map decimal numbers)) ≤ suc (suc k) * length numbers
unfolding spaced
spaced_few k [] h = omega arith
spaced_few k (a ∷ numbers) h = omega (arith, decimal_few k a h.0, spaced_few k numbers h.1, length-append (decimal a) (spaced (map decimal numbers)))

pub line_few : (k : ℕ) (numbers : List ℕ) → EachBelow (tens k) numbers → length (spaced (map decimal numbers) ++ (10 ∷ [])) ≤ suc (suc k) * length numbers + 1
line_few k numbers h = omega (arith, spaced_few k numbers h, length-append (spaced (map decimal numbers)) (10 ∷ []))

-- the line of a fact
pub depth_line_lem : (A i j d : ℕ) → 0 < d → depth_line A i j d ≡ text "fact" ++ (spaced (map decimal (A ∷ i ∷ j ∷ d ∷ [])) ++ (10 ∷ []))
unfolding numbered line_of
depth_line_lem A i j zero h = absurd (omega arith)
depth_line_lem A i j (suc d) h = refl

depth_few : (A i j d : ℕ) → A < 100000 → i < 100000 → j < 100000 → d < 100000 → length (depth_line A i j d) ≤ 29
unfolding numbered line_of text
depth_few A i j zero p q r s = omega arith
depth_few A i j (suc d) p q r s = omega (arith, line_few 4 (A ∷ i ∷ j ∷ suc d ∷ []) (p, (q, (r, (s, tt)))))

pub facts_few : (depths : List ℕ) (width : ℕ) → length depths ≤ 16384 → ((i : ℕ) → get_or depths i 0 < 65536) → (q : ℕ) → q < length depths → length (fact_line_at depths width q) ≤ 29
facts_few depths width few d q h =
    let row = div-le_self q width in
    depth_few (q / width / width) (q / width % width) (q % width) (get_or depths q 0)
    (omega (arith, row, div-le_self (q / width) width))
    (omega (arith, row, mod-le (q / width) width))
    (omega (arith, mod-le q width))
    (omega (arith, d q))

-- the four bytes of node k
abbrev pub four : List ℕ → ℕ → List ℕ
four nodes k = get_or nodes (4 * k) 0 ∷ get_or nodes (4 * k + 1) 0 ∷ get_or nodes (4 * k + 2) 0 ∷ get_or nodes (4 * k + 3) 0 ∷ []

-- the line of a node
pub node_few : (nodes : List ℕ) → ((i : ℕ) → get_or nodes i 0 < 256) → (k : ℕ) → length (node_line_at nodes k) ≤ 21
unfolding numbered line_of text
node_few nodes h k =
    omega (arith, line_few 2 (four nodes k) (below (4 * k), (below (4 * k + 1), (below (4 * k + 2), (below (4 * k + 3), tt)))))
  where
    below : (i : ℕ) → get_or nodes i 0 < 1000
    below i = omega (arith, h i)

-- nodes read four bytes at a time
pub node_is : (n k : ℕ) (nodes : List ℕ) → k < n → 4 * n ≤ length nodes → get_or (first_chunks 4 n nodes) k [] ≡ four nodes k
node_is zero k nodes h l = absurd (omega arith)
node_is (suc n) k [] h l = absurd (omega arith)
node_is (suc n) k (a ∷ []) h l = absurd (omega arith)
node_is (suc n) k (a ∷ b ∷ []) h l = absurd (omega arith)
node_is (suc n) k (a ∷ b ∷ c ∷ []) h l = absurd (omega arith)
node_is (suc n) zero (a ∷ b ∷ c ∷ d ∷ nodes) h l = refl
node_is (suc n) (suc k) (a ∷ b ∷ c ∷ d ∷ nodes) h l =
    let e : 4 * suc k ≡ suc (suc (suc (suc (4 * k)))) = omega arith in
    rw (node_is n k nodes (omega arith) (omega arith), e) (simp suc-add)

-- the parts of the line of rounds and facts
pub rounds_parts : (rounds facts : ℕ) →
    text "rounds" ++ (spaced (decimal rounds ∷ []) ++ (text " facts" ++ (spaced (decimal facts ∷ []) ++ (10 ∷ [])))) ≡ rounds_and_facts rounds facts
unfolding rounds_and_facts line_of spaced text
rounds_parts rounds facts = simp (append_assoc, append-nil)

pub rounds_few : (rounds facts : ℕ) → rounds < tens 19 → facts < tens 19 → length (rounds_and_facts rounds facts) ≤ 64
unfolding text
rounds_few rounds facts h k =
    let whole = ap length (rounds_parts rounds facts) in
    let all = length-append (spaced (decimal rounds ∷ [])) (text " facts" ++ (spaced (decimal facts ∷ []) ++ (10 ∷ []))) in
    let rest = length-append (spaced (decimal facts ∷ [])) (10 ∷ []) in
    omega (arith, whole, all, rest, spaced_few 19 (rounds ∷ []) (h, tt), spaced_few 19 (facts ∷ []) (k, tt))

-- the parts of the line of the marks
pub marks_none : (marks : List ℕ) → length marks ≡ 0 → text "marks" ++ (10 ∷ []) ≡ marks_of marks
unfolding marks_of line_of spaced
marks_none [] h = refl
marks_none (mark ∷ others) h = absurd (omega arith)

pub marks_parts : (marks : List ℕ) → 0 < length marks → text "marks" ++ ((32 ∷ []) ++ (map digit_code marks ++ (10 ∷ []))) ≡ marks_of marks
unfolding marks_of line_of spaced
marks_parts [] h = absurd (omega arith)
marks_parts (mark ∷ others) h = rw (append-nil (map digit_code others))
