use Rattle.std.specs.Prelude.{◌≡◌, refl, List, ℕ, ◌∷◌, ◌+◌, ◌*◌, ◌<◌, length, take, drop, Result, Ok, Err}
use Rattle.std.proofs.Common.{sym, arith, rules, lt-ltb, le-ltb}
use Rattle.std.proofs.lemmas.List.{drop-drop, length-drop}
use Rattle.trialing.specs.declared.trial.Op.{Op}
use Rattle.trialing.specs.declared.trial.Ending.{Ending}
use Rattle.trialing.specs.declared.trial.Ending.TheVariants.{Cut}
use Rattle.trialing.specs.Trial.{most_file, most_words, op_of, op_at, number_at, long_at, ◌>>=◌, Told, told, trial_at, number_from, long_from}
use Rattle.trialing.proofs.trial.Trial.read.Goals as goal
use Rattle.trialing.proofs.trial.Trial.read.Goals.{After-number-2}

-- what is told once the op and the file are read, and this is left
abbrev words_on : Op → List ℕ → List ℕ → Result Told Ending
words_on op file rest = number_at rest 0 most_words >>= λ (words : ℕ). long_at (drop (2 * words) (drop 2 rest)) 0 >>= λ (process : ℕ). Ok (told op file (take (2 * words) (drop 2 rest)) process)

bind_same : {A B : Type 0} (r : Result A Ending) (f g : A → Result B Ending) → ((a : A) → f a ≡ g a) → (r >>= f) ≡ (r >>= g)
bind_same (Ok a) f g h = h a
bind_same (Err e) f g h = refl

drop_on : (l : List ℕ) (i j k : ℕ) → i + j ≡ k → drop k l ≡ drop j (drop i l)
drop_on l i j k e = rw (← e) (sym (drop-drop j i l))

words_at : (b file : ℕ) (r : List ℕ) → drop (5 + file) (b ∷ r) ≡ drop 2 (drop file (drop 2 r))
words_at b file r = rw (drop_on (b ∷ r) (3 + file) 2 (5 + file) (omega arith), drop_on (b ∷ r) 3 file (3 + file) refl) refl

trial_on : (b file : ℕ) (r : List ℕ) (op : Op) → op_of b ≡ Ok op → number_at r 0 most_file ≡ Ok file
    → trial_at (b ∷ r) ≡ words_on op (take file (drop 2 r)) (drop file (drop 2 r))
unfolding trial_at op_at
trial_on b file r op o f =
    let l = b ∷ r in
    rw (le-ltb (length l) 1 (omega arith), o, number_from l 1 most_file, f, number_from l (3 + file) most_words, drop_on l 3 file (3 + file) refl)
    (bind_same (number_at (drop file (drop 2 r)) 0 most_words) _ _ (λ words. rw (long_from l (5 + file + 2 * words), drop_on l (5 + file) (2 * words) (5 + file + 2 * words) refl, words_at b file r) refl))

rest_on : (b file words : ℕ) (r : List ℕ) → drop 4 (drop words (drop 2 (drop file (drop 2 r)))) ≡ drop (file + words + 9) (b ∷ r)
rest_on b file words r =
    let l = b ∷ r in
    rw (drop_on l (5 + file + words) 4 (file + words + 9) (omega arith), drop_on l (5 + file) words (5 + file + words) refl, words_at b file r) refl

short : (l : List ℕ) (n : ℕ) → length l < n → long_at (drop n l) 0 ≡ Err Cut
unfolding long_at
short l n h = rw (lt-ltb (length (drop n l)) 4 (rw (length-drop n l) (omega arith))) refl

on : (c : After-number-2) → trial_at c.args.input.now ≡ words_on c.in_ok-op-2.op c.in_ok-file-2.file.now c.in_ok-file-2.rest.now
on c =
    let (is, _) = rw c.in_ok-op.ensures.ok_part at c.split_first.ensures.cases in
    let (_, file, rest, _, _) = rw c.in_ok-file-2.ensures.ok_part at c.split_at_checked.ensures.cases in
    rw (is, file, rest, c.in_ok-file.ensures.rest.0) (trial_on _ _ _ _ (sym c.in_ok-op-2.ensures) c.in_ok-file.ensures.number)

pub returns-in_err-words-clause-trial : goal.returns-in_err-words-clause-trial
returns-in_err-words-clause-trial c =
    let h = rw c.in_err-words.ensures.number at (on (goal.at.returns-in_err-words-clause-trial c).After-number-2) in
    search rules

pub returns-in_err-words-2-clause-trial : goal.returns-in_err-words-2-clause-trial
returns-in_err-words-2-clause-trial c =
    let w = c.in_ok-words in
    let few = rw c.in_err-words-2.ensures.ok_part at c.split_at_checked-2.ensures.cases in
    let e = rw c.in_err-words-2.ensures.ok_part at c.in_err-words-2.ensures.value in
    let h = rw (w.ensures.number, ← w.ensures.rest.0, short w.rest.now (2 * w.words) few) at (on (goal.at.returns-in_err-words-2-clause-trial c).After-number-2) in
    search rules

pub returns-in_err-process-clause-trial : goal.returns-in_err-process-clause-trial
returns-in_err-process-clause-trial c =
    let w = c.in_ok-words in
    let (_, _, last, _, _) = rw c.in_ok-words-2.ensures.ok_part at c.split_at_checked-2.ensures.cases in
    let h = rw (w.ensures.number, ← w.ensures.rest.0, ← last, c.in_err-process.ensures.number) at (on (goal.at.returns-in_err-process-clause-trial c).After-number-2) in
    search rules

pub returns-clause-trial : goal.returns-clause-trial
returns-clause-trial c =
    let w = c.in_ok-words in
    let (_, words, last, _, _) = rw c.in_ok-words-2.ensures.ok_part at c.split_at_checked-2.ensures.cases in
    rw (w.ensures.number, ← w.ensures.rest.0, ← last, c.in_ok-process.ensures.number, ← words) at (on (goal.at.returns-clause-trial c).After-number-2)

pub returns-clause-rest : goal.returns-clause-rest
returns-clause-rest c =
    let (is, _) = rw c.in_ok-op.ensures.ok_part at c.split_first.ensures.cases in
    let (_, _, rest, file, _) = rw c.in_ok-file-2.ensures.ok_part at c.split_at_checked.ensures.cases in
    let (_, _, last, words, _) = rw c.in_ok-words-2.ensures.ok_part at c.split_at_checked-2.ensures.cases in
    rw (file, words, is, c.in_ok-process.ensures.rest.0, last, c.in_ok-words.ensures.rest.0, rest, c.in_ok-file.ensures.rest.0) (rest_on c.in_ok-op.field-0-0.now c.in_ok-file.file (2 * c.in_ok-words.words) c.in_ok-op.rest.now)
