-- The digits of a number: the digit j + 1 of x is the digit j of x / 2.
use mathlib.Core.Path.{◌≡◌, sym, ap, ◌∙◌}
use Prim.Native.Nat.{ℕ, zero, suc, ◌*◌, ◌/◌, ◌%◌, ◌^◌, ◌≤◌, ◌<◌, suc-le-suc, min, max}
use native.Mathlib.Nat.{pow-suc, div-one, div-div-eq-div-mul, mul_comm, mod-lt, zero-lt-suc, zero-div, mul-div_cancel, mul-mod_left, div-eq_of_lt, div-eq_of_lt-le}
use native.Mathlib.Omega.{arith}
use lib.Arith.{digits_mod, lt-one}
use lib.Pow.{pow_mono}
use lib.Bits.{bit_or, bit_and, bit_xor, differ, or_step, or_shr, and_step, and_shr, xor_step, xor_shr}
use Rattle.positions.specs.Member.{digit, Member}

pub digit_zero : (x : ℕ) → digit x zero ≡ x % 2
unfolding digit
digit_zero x = ap (λ (y : ℕ). y % 2) (div-one x)

pub digit_suc : (x j : ℕ) → digit x (suc j) ≡ digit (x / 2) j
unfolding digit
digit_suc x j =
    ap (λ (y : ℕ). y % 2) (ap (λ (y : ℕ). x / y) (pow-suc 2 j ∙ mul_comm (2 ^ j) 2) ∙ sym (div-div-eq-div-mul x 2 (2 ^ j)))

pub digit_lt : (x j : ℕ) → digit x j < 2
unfolding digit
digit_lt x j = mod-lt (x / 2 ^ j) (zero-lt-suc 1)

pub digit_none : (j : ℕ) → digit 0 j ≡ 0
unfolding digit
digit_none j = ap (λ (y : ℕ). y % 2) (zero-div (2 ^ j))

-- a number below 2 ^ k has no digit from k on
pub digit_above : (x k j : ℕ) → x < 2 ^ k → k ≤ j → digit x j ≡ 0
unfolding digit
digit_above x k j h l = ap (λ (y : ℕ). y % 2) (div-eq_of_lt (omega (arith, pow_mono l)))

-- the digit that gives a number its length is 1
pub digit_top : (x j : ℕ) → 2 ^ j ≤ x → x < 2 ^ suc j → Member x j
unfolding digit
digit_top x j l h = ap (λ (y : ℕ). y % 2) (div-eq_of_lt-le {k = 1} (2 ^ j) (omega arith) (omega (arith, pow-suc 2 j)))

pub digit_or : (a b j : ℕ) → digit (bit_or a b) j ≡ max (digit a j) (digit b j)
unfolding digit
digit_or a b j =
    ap (λ (y : ℕ). y % 2) (or_shr a b j ∙ or_step (a / 2 ^ j) (b / 2 ^ j))
    ∙ digits_mod (bit_or (a / 2 ^ j / 2) (b / 2 ^ j / 2)) (omega (arith, digit_lt a j, digit_lt b j))

pub digit_and : (a b j : ℕ) → digit (bit_and a b) j ≡ min (digit a j) (digit b j)
unfolding digit
digit_and a b j =
    ap (λ (y : ℕ). y % 2) (and_shr a b j ∙ and_step (a / 2 ^ j) (b / 2 ^ j))
    ∙ digits_mod (bit_and (a / 2 ^ j / 2) (b / 2 ^ j / 2)) (omega (arith, digit_lt a j, digit_lt b j))

differ_lt : (x y : ℕ) → x < 2 → y < 2 → differ x y < 2
differ_lt zero y hx hy = hy
differ_lt (suc x) zero hx hy = hx
differ_lt (suc x) (suc y) hx hy = differ_lt x y (omega arith) (omega arith)

pub digit_xor : (a b j : ℕ) → digit (bit_xor a b) j ≡ differ (digit a j) (digit b j)
unfolding digit
digit_xor a b j =
    ap (λ (y : ℕ). y % 2) (xor_shr a b j ∙ xor_step (a / 2 ^ j) (b / 2 ^ j))
    ∙ digits_mod (bit_xor (a / 2 ^ j / 2) (b / 2 ^ j / 2)) (differ_lt (digit a j) (digit b j) (digit_lt a j) (digit_lt b j))

-- twice a number: its digits move up by one
pub double_zero : (x : ℕ) → digit (x * 2) zero ≡ 0
double_zero x = digit_zero (x * 2) ∙ mul-mod_left x 2

pub double_suc : (x j : ℕ) → digit (x * 2) (suc j) ≡ digit x j
double_suc x j = digit_suc (x * 2) j ∙ ap (λ (y : ℕ). digit y j) (mul-div_cancel x (zero-lt-suc 1))

pub half_lt : (x k : ℕ) → x < 2 ^ suc k → x / 2 < 2 ^ k
half_lt x k h = omega (arith, pow-suc 2 k)

-- two numbers of k digits with the same digits are equal
pub same_digits : (k a b : ℕ) → a < 2 ^ k → b < 2 ^ k → ((j : ℕ) → j < k → digit a j ≡ digit b j) → a ≡ b
same_digits zero a b ha hb h = lt-one ha ∙ sym (lt-one hb)
same_digits (suc k) a b ha hb h =
    let halves : (j : ℕ) → j < k → digit (a / 2) j ≡ digit (b / 2) j = λ j l. sym (digit_suc a j) ∙ h (suc j) (suc-le-suc l) ∙ digit_suc b j in
    let high : a / 2 ≡ b / 2 = same_digits k (a / 2) (b / 2) (half_lt a k ha) (half_lt b k hb) halves in
    let low : a % 2 ≡ b % 2 = sym (digit_zero a) ∙ h zero (zero-lt-suc k) ∙ digit_zero b in
    omega arith
