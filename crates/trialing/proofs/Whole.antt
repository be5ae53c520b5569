-- A trial that is read stands in the input, and no text of an answer is longer than its room.
use Rattle.std.specs.Prelude.{◌≡◌, refl, Bool, false, true, cond, List, ℕ, ◌+◌, ◌*◌, ◌≤◌, ltb, length, take, drop, replicate, ⊤, Result, Ok, Err}
use Rattle.std.proofs.Common.{ap, arith, length-take-le, ltb-false}
use Rattle.std.proofs.lemmas.List.{length-drop, length-replicate, length-take}
use Rattle.routine.specs.declared.refusal.Refusal.{Refusal}
use Rattle.routine.specs.declared.set.Set.{Set}
use Rattle.rules.specs.declared.Answer.{Answer}
use Rattle.rules.specs.declared.Standing.{Standing}
use Rattle.trialing.specs.declared.trial.Op.{Op}
use Rattle.trialing.specs.declared.trial.Ending.{Ending}
use Rattle.trialing.specs.declared.trial.Ending.TheVariants.{Cut, Stop}
use Rattle.trialing.specs.Trial.{most_file, most_words, number, long_number, op_at, number_at, long_at, ◌>>=◌, Told, told, trial_at, size_of}
use Rattle.trialing.specs.Answers.{passes, fresh, set_text, did_text, stands_text, said, said_text, said_long, set_long, did_long, stands_long, text_room}

-- a trial at the start of the input
pub record Stands (l : List ℕ) (t : Told) : Type 0 where
  pub whole : size_of t.file t.words ≤ length l
  pub few_words : length t.words ≤ 2 * most_words

-- a step and the rest went well
bound : {A B : Type 0} (r : Result A Ending) (f : A → Result B Ending) (b : B) → (r >>= f) ≡ Ok b → (a : A) × (r ≡ Ok a) × (f a ≡ Ok b)
bound (Ok a) f b h = (a, refl, h)
bound (Err e) f b h = let z : ◌≡◌ {A = ℕ} 0 1 = cc in absurd (omega arith)

-- a test was passed
passed : {A : Type 0} (t : Bool) (e : Ending) (r : Result A Ending) (a : A) → cond t (Err e) r ≡ Ok a → (t ≡ false) × (r ≡ Ok a)
passed true e r a h = let z : ◌≡◌ {A = ℕ} 0 1 = cc in absurd (omega arith)
passed false e r a h = (refl, h)

at_most : (l : List ℕ) (i most n : ℕ) → number_at l i most ≡ Ok n → n ≤ most
unfolding number_at
at_most l i most n e =
    let h = passed (ltb most (number l i)) Stop (Ok (number l i)) n (passed (ltb (length l) (i + 2)) Cut _ n e).1 in
    let is : number l i ≡ n = cc (h.1) in
    omega (arith, ltb-false most (number l i) h.0)

inside : (l : List ℕ) (i n : ℕ) → long_at l i ≡ Ok n → i + 4 ≤ length l
unfolding long_at
inside l i n e = ltb-false _ _ (passed (ltb (length l) (i + 4)) Cut (Ok (long_number l i)) n e).0

told_stands : (l : List ℕ) (op : Op) (file words process : ℕ) (t : Told) → 9 + file + 2 * words ≤ length l → words ≤ most_words
    → ◌≡◌ {A = Result Told Ending} (Ok (told op (take file (drop 3 l)) (take (2 * words) (drop (5 + file) l)) process)) (Ok t) → Stands l t
told_stands l op file words process t whole few e =
    let is : told op (take file (drop 3 l)) (take (2 * words) (drop (5 + file) l)) process ≡ t = cc in
    let f = length-take file (drop 3 l) in
    let w = length-take (2 * words) (drop (5 + file) l) in
    record { whole = omega (arith, ap (λ z. length z.file) is, ap (λ z. length z.words) is, f, w); few_words = omega (arith, ap (λ z. length z.words) is, w) }

pub stands : (l : List ℕ) (t : Told) → trial_at l ≡ Ok t → Stands l t
unfolding trial_at
stands l t e =
    let all : Op → ℕ → ℕ → ℕ → Result Told Ending = λ op file words process. Ok (told op (take file (drop 3 l)) (take (2 * words) (drop (5 + file) l)) process) in
    let with_words = λ (op : Op) (file words : ℕ). long_at l (5 + file + 2 * words) >>= all op file words in
    let with_file = λ (op : Op) (file : ℕ). number_at l (3 + file) most_words >>= with_words op file in
    let with_op = λ (op : Op). number_at l 1 most_file >>= with_file op in
    let (op, _, e₁) = bound (op_at l) with_op t e in
    let (file, _, e₂) = bound (number_at l 1 most_file) (with_file op) t e₁ in
    let (words, few, e₃) = bound (number_at l (3 + file) most_words) (with_words op file) t e₂ in
    let (process, long, e₄) = bound (long_at l (5 + file + 2 * words)) (all op file words) t e₃ in
    told_stands l op file words process t (omega (arith, inside l (5 + file + 2 * words) process long)) (at_most l (3 + file) most_words words few) e₄

-- and one that stands at a place of the input ends in it, and has no more words than a trial may have
pub stands_at : (l : List ℕ) (at : ℕ) (t : Told) → trial_at (drop at l) ≡ Ok t → (at + size_of t.file t.words ≤ length l) × (length t.words ≤ 2 * most_words)
stands_at l at t e = let s = stands (drop at l) t e in (omega (arith, s.whole, length-drop at l), s.few_words)

-- the first words of a whole table
pub part_long : (n : ℕ) → n ≤ most_words → length (take n (replicate {A = ℕ} most_words 0)) ≡ n
part_long n h = length-take-le n (replicate most_words 0) (rw (length-replicate {A = ℕ} most_words 0) h)

-- whatever a call answers, its text has room
pub read_long : (x : Result Set Refusal) → length (said_text (said set_text x)) ≤ text_room
read_long x = said_long set_text x set_long

pub judge_long : (x : Result ⊤ Refusal) → length (said_text (said (λ _. passes) x)) ≤ text_room
judge_long x = said_long (λ _. passes) x (λ _. omega arith)

pub made_long : (x : Result ⊤ Refusal) → length (said_text (said (λ _. fresh) x)) ≤ text_room
made_long x = said_long (λ _. fresh) x (λ _. omega arith)

pub turn_long : (x : Result Answer Refusal) → length (said_text (said did_text x)) ≤ text_room
turn_long x = said_long did_text x did_long

pub standing_long : (x : Result Standing Refusal) → length (said_text (said stands_text x)) ≤ text_room
standing_long x = said_long stands_text x stands_long
