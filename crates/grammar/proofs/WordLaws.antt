-- Laws of `specs/inner/Words.antt`: the word of a rule's symbols tells them, and it fits in 64 bits.
use Rattle.std.proofs.Common.{Err, Ok, Result}
use Prim.Native.Nat.{ℕ, suc, ◌+◌, ◌*◌, ◌-◌, ◌^◌, ◌≤◌, ◌<◌}
use mathlib.Core.Path.{◌≡◌, refl, ap, ap₂, sym, ◌∙◌}
use mathlib.Core.Bool.{Bool, true, false, cond}
use mathlib.Core.List.{List, [], ◌∷◌, reverse, reverse_aux, reverse-reverse}
use native.Mathlib.Nat.{le_trans, one-mul, mul_assoc, mul-le-mul_right, le-mul_of_pos_right, one-le-pow, pow-succ', pow-le-pow_right}
use native.Mathlib.Omega.{arith}
use lib.ListN.{length, get_or, take, drop}
use lib.Seq.{drop-cons}
use lib.Dec.{ltb}
use borrow.Author.Tests.{ltb-true}
use Rattle.refusals.specs.declared.Refusal.{Refusal}
use Rattle.grammar.specs.declared.reading.PassedRule.{PassedRule}
use Rattle.grammar.specs.Reading.{byte, is_symbol}
use Rattle.grammar.specs.inner.Words.{word_from, word_of, with_word}

-- each symbol and 1 is below 256
abbrev pub Small : List ℕ → Type 0
Small [] = Unit
Small (symbol ∷ symbols) = (symbol < 255) × Small symbols

pub small_each : (symbols : List ℕ) → ((d : ℕ) → d < length symbols → get_or symbols d 0 < 255) → Small symbols
small_each [] each = tt
small_each (symbol ∷ symbols) each = (each 0 (omega arith), small_each symbols (λ d l. each (suc d) (omega arith)))

small_onto : (a b : List ℕ) → Small a → Small b → Small (reverse_aux a b)
small_onto [] b x y = y
small_onto (s ∷ a) b x y = small_onto a (s ∷ b) x.1 (x.0, y)

-- the word by its last digit: the symbols the other way round
abbrev value : List ℕ → ℕ
value [] = 0
value (symbol ∷ symbols) = value symbols * 256 + (symbol + 1)

word_value : (symbols before : List ℕ) → word_from (value before) symbols ≡ value (reverse_aux symbols before)
unfolding word_from
word_value [] before = refl
word_value (symbol ∷ symbols) before = word_value symbols (symbol ∷ before)

value_tells : (a b : List ℕ) → Small a → Small b → value a ≡ value b → a ≡ b
value_tells [] [] x y e = refl
value_tells [] (t ∷ b) x y e = absurd (omega arith)
value_tells (s ∷ a) [] x y e = absurd (omega arith)
value_tells (s ∷ a) (t ∷ b) x y e =
    let i : s < 255 = x.0 in
    let j : t < 255 = y.0 in
    let first : s ≡ t = omega arith in
    let rest : value a ≡ value b = omega arith in
    rw (first, value_tells a b x.1 y.1 rest)

-- symbols with the same word are the same
pub word_tells : (a b : List ℕ) → Small a → Small b → word_of a ≡ word_of b → a ≡ b
word_tells a b x y e =
    let back : reverse a ≡ reverse b = value_tells (reverse a) (reverse b) (small_onto a [] x tt) (small_onto b [] y tt) (sym (word_value a []) ∙ e ∙ word_value b []) in
    sym (reverse-reverse a) ∙ ap reverse back ∙ reverse-reverse b

-- with `left` symbols to come the word fits so far
abbrev pub Fits : ℕ → ℕ → Type 0
Fits word left = (word + 1) * 256 ^ left ≤ 256 ^ 8

pub fits_next :
    (word count k symbol : ℕ) → k < count → symbol < 255 → Fits word (count - k) →
    (word * 256 + (symbol + 1) < 2 ^ 64) × Fits (word * 256 + (symbol + 1)) (count - (k + 1))
fits_next word count k symbol h s f =
    let left = count - (k + 1) in
    let more : count - k ≡ suc left = omega arith in
    let rest = 256 ^ left in
    let grown : 256 ^ (count - k) ≡ 256 * rest = ap (λ (k : ℕ). 256 ^ k) more ∙ pow-succ' 256 left in
    let bound : (word + 1) * 256 * rest ≤ 2 ^ 64 = rw (mul_assoc (word + 1) 256 rest) (rw grown at f) in
    let low : (word + 1) * 256 ≤ (word + 1) * 256 * rest = le-mul_of_pos_right ((word + 1) * 256) (one-le-pow left 256 (omega arith)) in
    let next : word * 256 + (symbol + 1) + 1 ≤ (word + 1) * 256 = omega arith in
    (omega arith, le_trans (mul-le-mul_right rest next) bound)

pub fits_none : (left : ℕ) → left ≤ 8 → Fits 0 left
fits_none left h = rw (one-mul (256 ^ left)) (pow-le-pow_right (omega arith) h)

-- the word of bytes that are to come: of none, and by the first of them
pub word_none : (g : List ℕ) (word left : ℕ) → left ≤ 0 → word_from word (take left g) ≡ word
unfolding word_from
word_none g word left h = let z : left ≡ 0 = omega arith in rw z

pub word_step :
    (g : List ℕ) (word count at k : ℕ) → k < count → at + k < length g →
    word_from word (take (count - k) (drop (at + k) g)) ≡ word_from (word * 256 + (byte g (at + k) + 1)) (take (count - (k + 1)) (drop (at + (k + 1)) g))
unfolding word_from
word_step g word count at k h l =
    let more : count - k ≡ suc (count - (k + 1)) = omega arith in
    let past : at + (k + 1) ≡ suc (at + k) = omega arith in
    let first : drop (at + k) g ≡ byte g (at + k) ∷ drop (at + (k + 1)) g = rw past (drop-cons g (at + k) 0 l) in
    ap (word_from word) (ap₂ take more first)

-- a symbol of at most 128 classes and 32 categories is small
pub symbol_small : (t n b : ℕ) → t ≤ 128 → n ≤ 32 → is_symbol t n b ≡ true → b < 255
symbol_small t n b h k e = go (ltb b 128) refl e
  where
    go : (low : Bool) → ltb b 128 ≡ low → cond low (ltb b t) (ltb (b - 128) n) ≡ true → b < 255
    go true q r = omega (arith, ltb-true b 128 q)
    go false q r = omega (arith, ltb-true (b - 128) n r)

-- so the word fits with it
pub symbol_fits :
    (t n symbol word count k : ℕ) → t ≤ 128 → n ≤ 32 → is_symbol t n symbol ≡ true → k < count → Fits word (count - k) →
    (word * 256 + (symbol + 1) < 2 ^ 64) × Fits (word * 256 + (symbol + 1)) (count - (k + 1))
symbol_fits t n symbol word count k h i e l f = fits_next word count k symbol l (symbol_small t n symbol h i e) f

-- what a reading with its word says of the reading
pub given_stop : (pass : Result ℕ Refusal) {refusal : Refusal} (word : ℕ) → with_word pass word ≡ Err refusal → pass ≡ Err refusal
given_stop (Ok at) word e = absurd (let z : ◌≡◌ {A = ℕ} 0 1 = cc in omega arith)
given_stop (Err other) {refusal} word e = let z : other ≡ refusal = cc in rw z

pub given_to : (pass : Result ℕ Refusal) {rule : PassedRule} (word : ℕ) → with_word pass word ≡ Ok rule → (pass ≡ Ok rule.next) × (word ≡ rule.word)
given_to (Ok at) {rule} word e = let z : record { next = at; word = word } ≡ rule = cc in (ap (λ (r : PassedRule). Ok r.next) z, ap (λ (r : PassedRule). r.word) z)
given_to (Err refusal) word e = absurd (let z : ◌≡◌ {A = ℕ} 0 1 = cc in omega arith)
