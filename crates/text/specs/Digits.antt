-- A number as text, in ASCII.
use Rattle.std.specs.Prelude.{◌≡◌, refl, cond, List, [], ◌∷◌, ◌++◌, ℕ, zero, suc, ◌+◌, ◌-◌, ◌/◌, ◌%◌, ◌^◌, ◌≤◌, ◌<◌, ltb, length}
use Rattle.std.proofs.Common.{pow-suc, arith, length-append, lt-ltb, le-ltb}
use Rattle.std.proofs.Math.Nat.{pow-zero, one-le-pow, pow-le-pow_right, div-add-mod}
use Rattle.std.proofs.Math.Decide.{dec_le}
use Rattle.io.specs.Digits.{last_digits, hex_digit_ascii, IsDigitCount}
use Rattle.routine.specs.Test.{by_test}

-- the digits of n in front of its last, if there are any, and its last: at most k of them
unfoldable pub spelled : ℕ → ℕ → List ℕ
spelled zero n = []
spelled (suc k) n = cond (ltb n 10) [] (spelled k (n / 10)) ++ ((48 + n % 10) ∷ [])

-- the decimal digits of n, no zero in front; no number of 64 bits has more than 20
unfoldable pub decimal : ℕ → List ℕ
decimal n = spelled 20 n

-- a word of 16 bits: four hexadecimal digits, in lower case
unfoldable pub hexadecimal : ℕ → List ℕ
hexadecimal w = last_digits 16 4 w

-- ---- examples

nought : decimal 0 ≡ 48 ∷ []
unfolding decimal spelled
nought = refl

most_turns_lem : decimal 4096 ≡ 52 ∷ 48 ∷ 57 ∷ 54 ∷ []
unfolding decimal spelled
most_turns_lem = refl

largest : length (decimal 18446744073709551615) ≡ 20
unfolding decimal spelled
largest = refl

word : hexadecimal 171 ≡ 48 ∷ 48 ∷ 97 ∷ 98 ∷ []
unfolding hexadecimal
word = refl

-- ---- laws

-- a number of few digits
short : (k j n : ℕ) → n < 10 ^ suc j → length (spelled k n) ≤ suc j
unfolding spelled
short zero j n h = omega arith
short (suc k) zero n h =
    let l : n < 10 = omega (arith, pow-suc 10 0, pow-zero 10) in
    rw (lt-ltb n 10 l) (omega arith)
short (suc k) (suc j) n h =
    let f : n / 10 < 10 ^ suc j = omega (arith, pow-suc 10 (suc j), div-add-mod n 10) in
    by_test (ltb n 10)
    (λ e. rw e (omega arith))
    (λ e. rw e (rw (length-append (spelled k (n / 10)) ((48 + n % 10) ∷ [])) (omega (arith, short k j (n / 10) f))))

last : (n : ℕ) → hex_digit_ascii (n % 10) ≡ 48 + n % 10
last n = let h : n % 10 < 10 = omega arith in rw (lt-ltb (n % 10) 10 h)

-- what `io::decimal` writes
pub spells : (k f n : ℕ) → k ≤ f → IsDigitCount 10 1 n k → last_digits 10 k n ≡ spelled f n
unfolding spelled
spells zero f n l w = absurd (omega arith)
spells (suc k) zero n l w = absurd (omega arith)
spells (suc zero) (suc f) n l w = let h : n < 10 = omega (arith, pow-suc 10 0, pow-zero 10) in rw (lt-ltb n 10 h, last n)
spells (suc (suc k)) (suc f) n l w =
    let e : suc (suc k) - 1 ≡ suc k = omega arith in
    let h : 10 ^ suc k ≤ n = rw e at (w.2 (omega arith)) in
    let ten : 10 ≤ n = omega (arith, pow-suc 10 k, one-le-pow k 10 (omega arith)) in
    let v : IsDigitCount 10 1 (n / 10) (suc k) = (omega arith, omega (arith, pow-suc 10 (suc k)), λ m. let d : suc k - 1 ≡ k = omega arith in rw d (omega (arith, pow-suc 10 k))) in
    rw (le-ltb n 10 ten, last n, spells (suc k) f (n / 10) (omega arith) v)

-- what `io::hex` writes of a word
pub four : (n k : ℕ) → n < 65536 → IsDigitCount 16 4 n k → last_digits 16 k n ≡ hexadecimal n
unfolding hexadecimal
four n k h w = elim (dec_le k 4) [
  | yes l ↦ let e : k ≡ 4 = omega arith in rw e
  | no l ↦ absurd (omega (arith, w.2 (omega arith), pow-le-pow_right {n = 16} (omega arith) {i = 4} {j = k - 1} (omega arith)))
]

pub four_long : (n : ℕ) → length (hexadecimal n) ≡ 4
unfolding hexadecimal
four_long n = refl

-- a number of 64 bits
pub few : (n k : ℕ) → n < 18446744073709551616 → IsDigitCount 10 1 n k → k ≤ 20
few n k h w = elim (dec_le k 20) [
  | yes l ↦ l
  | no l ↦ absurd (omega (arith, w.2 (omega arith), pow-le-pow_right {n = 10} (omega arith) {i = 20} {j = k - 1} (omega arith)))
]

most : (k n : ℕ) → length (spelled k n) ≤ k
unfolding spelled
most zero n = omega arith
most (suc k) n =
    by_test (ltb n 10)
    (λ e. rw e (omega arith))
    (λ e. rw e (rw (length-append (spelled k (n / 10)) ((48 + n % 10) ∷ [])) (omega (arith, most k (n / 10)))))

pub decimal_long : (n : ℕ) → length (decimal n) ≤ 20
unfolding decimal
decimal_long n = most 20 n

pub decimal_short : (j n : ℕ) → n < 10 ^ suc j → length (decimal n) ≤ suc j
unfolding decimal
decimal_short j n h = short 20 j n h
