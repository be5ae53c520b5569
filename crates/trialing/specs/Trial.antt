-- A trial in the input: one byte op, a file with its length in 16 bits before it, words with their number in 16 bits before them, and a process number of 32 bits; all low byte first.
use Rattle.std.specs.Prelude.{◌≡◌, refl, cond, List, ℕ, zero, suc, ◌+◌, ◌*◌, ◌/◌, ◌≤◌, eqb, ltb, length, get_or, set, take, drop, replicate, Result, Ok, Err}
use Rattle.std.proofs.Common.{sym, ap, ◌∙◌, arith, eqb-true, ltb-true, ltb-false, lt-ltb, le-ltb}
use Rattle.std.proofs.lemmas.List.{length-drop, length-replicate, length-set, get_or-drop}
use native.Mathlib.Numerals.{unary_clauses}
use Rattle.routine.specs.Test.{by_test}
use Rattle.trialing.specs.declared.trial.Op.{Op}
use Rattle.trialing.specs.declared.trial.Ending.{Ending}
use Rattle.trialing.specs.declared.trial.Ending.TheVariants.{Cut, Stop}

abbrev pub most_file : ℕ
most_file = 8192

abbrev pub most_words : ℕ
most_words = 256

unfoldable pub op_number : Op → ℕ
op_number Op.Read = 1
op_number Op.Judge = 2
op_number Op.Fresh = 3
op_number Op.Turn = 4
op_number Op.Standing = 5

-- the op of a byte
unfoldable pub op_of : ℕ → Result Op Ending
op_of b =
    cond (eqb b 1) (Ok Op.Read)
    (cond (eqb b 2) (Ok Op.Judge)
    (cond (eqb b 3) (Ok Op.Fresh)
    (cond (eqb b 4) (Ok Op.Turn)
    (cond (eqb b 5) (Ok Op.Standing)
    (Err Stop)))))

unfoldable pub number : List ℕ → ℕ → ℕ
number l i = get_or l i 0 + 256 * get_or l (i + 1) 0

unfoldable pub long_number : List ℕ → ℕ → ℕ
long_number l i = number l i + 65536 * number l (i + 2)

-- what stands in the input: a trial may go on after its end, or is none, for its op or its size
unfoldable pub op_at : List ℕ → Result Op Ending
op_at l = cond (ltb (length l) 1) (Err Cut) (op_of (get_or l 0 0))

unfoldable pub number_at : List ℕ → ℕ → ℕ → Result ℕ Ending
number_at l i most = cond (ltb (length l) (i + 2)) (Err Cut) (cond (ltb most (number l i)) (Err Stop) (Ok (number l i)))

unfoldable pub long_at : List ℕ → ℕ → Result ℕ Ending
long_at l i = cond (ltb (length l) (i + 4)) (Err Cut) (Ok (long_number l i))

infixl 10 ◌>>=◌
abbrev pub ◌>>=◌ : {A B : Type 0} → Result A Ending → (A → Result B Ending) → Result B Ending
Ok a >>= f = f a
Err e >>= f = Err e

-- what a trial tells: its op, its file, the bytes of its words, and its process number
pub record Told : Type 0 where
  pub op : Op
  pub file : List ℕ
  pub words : List ℕ
  pub process : ℕ

abbrev pub told : Op → List ℕ → List ℕ → ℕ → Told
told op file words process = record { op = op; file = file; words = words; process = process }

-- the trial at the start of the input
unfoldable pub trial_at : List ℕ → Result Told Ending
trial_at l = do
  op ← op_at l
  file ← number_at l 1 most_file
  words ← number_at l (3 + file) most_words
  process ← long_at l (5 + file + 2 * words)
  Ok (told op (take file (drop 3 l)) (take (2 * words) (drop (5 + file) l)) process)

-- the bytes that a trial with this file and these words takes
abbrev pub size_of : List ℕ → List ℕ → ℕ
size_of file words = length file + length words + 9

-- the words that stand in these bytes, in place of the first n of a table
unfoldable pub loaded : List ℕ → List ℕ → ℕ → List ℕ
loaded l t zero = t
loaded l t (suc i) = set (loaded l t i) i (number l (2 * i))

-- the words that stand in these bytes, two bytes a word
unfoldable pub words_of : List ℕ → List ℕ
words_of l = loaded l (replicate (length l / 2) 0) (length l / 2)

-- ---- laws

-- a byte gives the op whose number it is
op_given : (op : Op) → op_of (op_number op) ≡ Ok op
unfolding op_of op_number
op_given Op.Read = refl
op_given Op.Judge = refl
op_given Op.Fresh = refl
op_given Op.Turn = refl
op_given Op.Standing = refl

given_here : (b : ℕ) (own op : Op) (rest : Result Op Ending) → (rest ≡ Ok op → op_number op ≡ b) → cond (eqb b (op_number own)) (Ok own) rest ≡ Ok op → op_number op ≡ b
given_here b own op rest next h =
    by_test (eqb b (op_number own))
    (λ e. let here : ◌≡◌ {A = Result Op Ending} (Ok own) (Ok op) = rw e at h in let is : own ≡ op = cc in ap op_number (sym is) ∙ sym (eqb-true _ _ e))
    (λ e. next (rw e at h))

number_given : (b : ℕ) (op : Op) → op_of b ≡ Ok op → op_number op ≡ b
unfolding op_of op_number
number_given b op h = given_here b Op.Read op _ (given_here b Op.Judge op _ (given_here b Op.Fresh op _ (given_here b Op.Turn op _ (given_here b Op.Standing op _ (λ e. let z : ◌≡◌ {A = ℕ} 0 1 = cc in absurd (omega arith)))))) h

-- what stands at a place stands at the start of the rest there
short_from : (l : List ℕ) (i n : ℕ) → 1 ≤ n → ltb (length l) (i + n) ≡ ltb (length (drop i l)) n
short_from l i n some =
    by_test (ltb (length l) (i + n))
    (λ e. let h = ltb-true (length l) (i + n) e in rw (e, lt-ltb (length (drop i l)) n (rw (length-drop i l) (omega arith))) refl)
    (λ e. let h = ltb-false (length l) (i + n) e in rw (e, le-ltb (length (drop i l)) n (rw (length-drop i l) (omega arith))) refl)

pub number_from : (l : List ℕ) (i most : ℕ) → number_at l i most ≡ number_at (drop i l) 0 most
unfolding number_at number
number_from l i most = rw (short_from l i 2 (omega arith), get_or-drop i l 0 0, get_or-drop i l 1 0) (simp unary_clauses)

pub long_from : (l : List ℕ) (i : ℕ) → long_at l i ≡ long_at (drop i l) 0
unfolding long_at long_number number
long_from l i = rw (short_from l i 4 (omega arith)) (simp (get_or-drop, unary_clauses))

-- a load keeps a table's length
loaded_long : (l t : List ℕ) (n : ℕ) → length (loaded l t n) ≡ length t
unfolding loaded
loaded_long l t zero = refl
loaded_long l t (suc i) = rw (length-set, loaded_long l t i) refl

-- half as many words as bytes
pub words_of_long : (l : List ℕ) → length (words_of l) ≡ length l / 2
unfolding words_of
words_of_long l = rw (loaded_long l (replicate (length l / 2) 0) (length l / 2)) (length-replicate {A = ℕ} (length l / 2) 0)

-- what is loaded into a table that has a zero for each word
pub words_loaded : (l t : List ℕ) → t ≡ replicate (length l / 2) 0 → loaded l t (length t) ≡ words_of l
unfolding words_of
words_loaded l t e = rw (e, length-replicate {A = ℕ} (length l / 2) 0) refl
