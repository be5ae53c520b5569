-- The playing program: what it writes for any bytes of `set.bin` and of `turns.bin`.
use Rattle.std.specs.Prelude.{◌≡◌, List, [], ◌∷◌, ◌++◌, ℕ, ◌+◌, ◌*◌, ◌≤◌, ◌<◌, ltb, length, get_or, drop, ⊤, Option, None, Result, Ok, Err, MatchResult}
use Rattle.std.proofs.Common.{sym, ◌∙◌, arith, drop_of_length-le, drop-cons, add-one, ltb-false}
use Rattle.routine.specs.declared.refusal.Refusal.{Refusal}
use Rattle.routine.specs.declared.refusal.Refusal.TheVariants as Rf
use Rattle.routine.specs.declared.set.Set.{Set}
use Rattle.routine.specs.Test.{by_test}
use Rattle.routine.specs.Limits.{most_turns}
use Rattle.routine.specs.Refusal.{shown, given, first_due, unless, unless_some, err_unless, ok_unless, some_due, none_due, only_due, some_none, by_due, due_given}
use Rattle.routine.specs.Reading.{file_refusals, file_refusal, reading}
use Rattle.rules.specs.declared.Answer.{Answer}
use Rattle.rules.specs.declared.Answer.TheVariants as An
use Rattle.rules.specs.declared.Standing.{Standing}
use Rattle.rules.specs.Table.{call, phase, fresh}
use Rattle.rules.specs.Standing.{standing_number}
use Rattle.rules.specs.Answers.{standing, turning, turned_table}
use Rattle.text.specs.Digits.{decimal_short}
use Rattle.text.specs.Lines.{header, moved, idle, turn_line, refused_line, standing_line, field_long, field_most, last_most, turn_long, refused_long, standing_long}
use Rattle.text.specs.declared.Text.{Text}
use Rattle.text.specs.Text.{text_bytes, text_end, Puts, Leaves, puts_whole, leaves_less}

-- 8: "program only: more than 4,096 turns"
unfoldable pub turns_refusal : List ℕ → Option Refusal
turns_refusal ts = given (ltb most_turns (length ts)) Rf.Turns

-- "Order: 1, 2, 3, .. or 8 for the program"
unfoldable pub play_refusal : List ℕ → List ℕ → Option Refusal
play_refusal f ts = first_due (file_refusals f ++ (turns_refusal ts ∷ []))

-- "`REFUSED`, number, block"
unfoldable pub refusal_line : Refusal → List ℕ
refusal_line r = refused_line (shown r).number (shown r).block

-- what is written where a call answers, or, where it refuses, the line of its refusal and nothing more
unfoldable pub or_refused : {A : Type 0} → Result A Refusal → (A → List ℕ) → List ℕ
or_refused (Ok a) rest = rest a
or_refused (Err r) rest = refusal_line r

unfoldable pub word : Answer → List ℕ
word An.Moved = moved
word An.Idle = idle

-- turn i, by process p, that left table t: "turn, process, then that process's CALL and PHASE after it, then the answer"
unfoldable pub line_of : List ℕ → ℕ → ℕ → Answer → List ℕ
line_of t i p answer = turn_line i p (call t p) (phase t p) (word answer)

-- "last `STANDING` with its number"
unfoldable pub last_line : Standing → List ℕ
last_line s = standing_line (standing_number s)

-- the lines of these turns, the first of which is turn i, from table t on; a refused turn "stops without `STANDING`"
unfoldable pub lines_from : List ℕ → List ℕ → ℕ → List ℕ → List ℕ
lines_from f t i [] = or_refused (standing f t) last_line
lines_from f t i (p ∷ ps) = or_refused (turning f t p) (λ answer. line_of (turned_table f t p) i p answer ++ lines_from f (turned_table f t p) (i + 1) ps)

-- whether it plays
unfoldable pub playable : List ℕ → List ℕ → Result ⊤ Refusal
playable f ts = unless (play_refusal f ts) tt

-- all that the program writes: "Refusals 1, 2, 3 and 8 print `REFUSED`, number, block, and nothing else"; "it plays from the fresh table"
unfoldable pub playing : List ℕ → List ℕ → List ℕ
playing f ts = or_refused (playable f ts) (λ _. header ++ lines_from f fresh 1 ts)

-- ---- the room that it takes at most

-- one line
abbrev pub line_room : ℕ
line_room = 50

-- the header, the lines of the turns and the last line
abbrev pub play_room : ℕ
play_room = 25 + line_room * (most_turns + 1)

-- ---- what is put behind a text

-- a line
pub record LinePut (old new : Text) (line : List ℕ) : Type 0 where
  pub puts : Puts old new line
  pub short : length line ≤ line_room

-- the line of what was answered, or nothing where that was refused, as r says
abbrev pub AnswerPut : {A : Type 0} → Text → Text → Result A Refusal → (A → List ℕ) → Result ⊤ Refusal → Type 0
AnswerPut {A} old new answer line r = MatchResult r (λ _. (a : A) × (answer ≡ Ok a) × LinePut old new (line a)) (λ e. (answer ≡ Err e) × (new ≡ old))

-- what is left to be put: the line of a refusal, if there is one
abbrev pub ending : Result ⊤ Refusal → List ℕ
ending r = or_refused r (λ _. [])

-- these bytes, but for the ending, for which there is room
pub record PutSoFar (old new : Text) (all : List ℕ) (r : Result ⊤ Refusal) : Type 0 where
  pub leaves : Leaves old new all (ending r)
  pub room : text_end new + length (ending r) ≤ length (text_bytes new)

-- ---- laws

pub refusal_short : (r : Refusal) → length (refusal_line r) ≤ line_room
unfolding refusal_line
refusal_short r = let s = shown r in omega (arith, refused_long s.number s.block, field_most s.number, last_most s.block)

pub last_short : (s : Standing) → length (last_line s) ≤ line_room
unfolding last_line
last_short s = let n = standing_number s in omega (arith, standing_long n, last_most n)

pub turn_short : (i p k ph : ℕ) (word : List ℕ) → p < 256 → k < 65536 → ph < 65536 → length word ≤ 5 → length (turn_line i p k ph word) ≤ line_room
turn_short i p k ph word hp hk hh hw =
    let fp = decimal_short 2 p (omega arith) in
    let fk = decimal_short 4 k (omega arith) in
    let fh = decimal_short 4 ph (omega arith) in
    omega (arith, turn_long i p k ph word, field_most i, field_long p, field_long k, field_long ph)

pub word_short : (a : Answer) → length (word a) ≤ 5
unfolding word
word_short An.Moved = omega arith
word_short An.Idle = omega arith

-- a line that there is room for, and then what is left
pub line_put : {a b c : Text} {all line rest : List ℕ} → Leaves a b all (line ++ rest) → LinePut b c line → text_end b + line_room ≤ length (text_bytes b)
    → Leaves a c all rest × (text_end c ≤ text_end b + line_room) × (length (text_bytes c) ≡ length (text_bytes b))
line_put r l room = let w = puts_whole l.puts (omega (arith, l.short)) in (leaves_less r w, omega (arith, w.wrote.ends, l.short), w.wrote.size)

pub leaves_then : {a b c : Text} {xs ys zs : List ℕ} → Leaves a b xs ys → Leaves b c ys zs → Leaves a c xs zs
leaves_then v w = record { same = w.same ∙ v.same; rest = record { is = w.rest.is ∙ v.rest.is; ends = w.rest.ends ∙ v.rest.ends; size = w.rest.size ∙ v.rest.size } }

module _ (f ts : List ℕ) where
  pub file_first : (r : Refusal) → reading f ≡ Err r → playable f ts ≡ Err r
  unfolding playable play_refusal reading file_refusal
  file_first r e = unless_some _ _ r (some_due (file_refusals f) _ r (err_unless _ _ r e))

  pub turns_then : (s : Set) → reading f ≡ Ok s → play_refusal f ts ≡ turns_refusal ts
  unfolding play_refusal reading file_refusal
  turns_then s e = none_due (file_refusals f) _ (ok_unless _ _ s e).0 ∙ only_due (turns_refusal ts)

  pub few_turns : playable f ts ≡ Ok tt → length ts ≤ most_turns
  unfolding playable play_refusal turns_refusal file_refusal
  few_turns e =
      let none : play_refusal f ts ≡ None = (ok_unless _ _ _ e).0 in
      by_due (file_refusal f)
      (λ z. by_test (ltb most_turns (length ts))
      (λ many. absurd (some_none _ (sym (none_due (file_refusals f) _ z ∙ only_due _ ∙ due_given _ Rf.Turns many) ∙ none)))
      (λ few. ltb-false most_turns (length ts) few))
      (λ r d. absurd (some_none r (sym (some_due (file_refusals f) _ r d) ∙ none)))

-- one line more, of process p
module _ (f t ts : List ℕ) (i p : ℕ) (here : p ≡ get_or ts i 0) (more : i < length ts) where
  more_lines : lines_from f t (i + 1) (drop i ts) ≡ or_refused (turning f t p) (λ answer. line_of (turned_table f t p) (i + 1) p answer ++ lines_from f (turned_table f t p) (i + 1 + 1) (drop (i + 1) ts))
  unfolding lines_from
  more_lines = rw (drop-cons ts i 0 more, add-one i, here)

  pub line_on : (answer : Answer) → turning f t p ≡ Ok answer → lines_from f t (i + 1) (drop i ts) ≡ line_of (turned_table f t p) (i + 1) p answer ++ lines_from f (turned_table f t p) (i + 1 + 1) (drop (i + 1) ts)
  unfolding or_refused
  line_on answer e = more_lines ∙ rw e

  pub line_off : (r : Refusal) → turning f t p ≡ Err r → lines_from f t (i + 1) (drop i ts) ≡ refusal_line r
  unfolding or_refused
  line_off r e = more_lines ∙ rw e

pub lines_end : (f t ts : List ℕ) (i k : ℕ) → length ts ≤ i → lines_from f t k (drop i ts) ≡ or_refused (standing f t) last_line
unfolding lines_from
lines_end f t ts i k h = rw (drop_of_length-le ts h)
