-- The line of a trial: its op and what the call answers.
use Rattle.std.specs.Prelude.{◌≡◌, ◌⊎◌, refl, List, [], ◌∷◌, ◌++◌, ℕ, ◌+◌, ◌*◌, ◌≤◌, ◌<◌, length, get_or, take, ⊤, Result, Ok, Err}
use Rattle.std.proofs.Common.{sym, inl, inr, append-nil, append_assoc, arith, length-append, take-suc, add-one}
use Rattle.routine.specs.declared.refusal.Refusal.{Refusal}
use Rattle.routine.specs.declared.set.Set.{Set}
use Rattle.routine.specs.Refusal.{shown}
use Rattle.routine.specs.Reading.{reading}
use Rattle.routine.specs.Judging.{judging}
use Rattle.rules.specs.declared.Answer.{Answer}
use Rattle.rules.specs.declared.Answer.TheVariants as An
use Rattle.rules.specs.declared.Standing.{Standing}
use Rattle.rules.specs.Standing.{standing_number}
use Rattle.rules.specs.Answers as Ans
use Rattle.rules.specs.Answers.{making, made_table, turning, turned_table}
use Rattle.text.specs.Digits.{decimal, decimal_long, hexadecimal, four_long}
use Rattle.text.specs.Lines.{space, line_feed, field, field_most, moved, idle, refused, standing}
use Rattle.text.specs.declared.Text.{Text}
use Rattle.text.specs.Text.{Puts, puts_then}
use Rattle.trialing.specs.declared.trial.Op.{Op}
use Rattle.trialing.specs.Trial.{op_number, most_words}

-- READ
abbrev pub read : List ℕ
read = 82 ∷ 69 ∷ 65 ∷ 68 ∷ []

-- PASSES
abbrev pub passes : List ℕ
passes = 80 ∷ 65 ∷ 83 ∷ 83 ∷ 69 ∷ 83 ∷ []

-- FRESH
abbrev pub fresh : List ℕ
fresh = 70 ∷ 82 ∷ 69 ∷ 83 ∷ 72 ∷ []

-- "`REFUSED` number block place"
unfoldable pub refusal_text : Refusal → List ℕ
refusal_text r = refused ++ space ++ field (shown r).number ++ field (shown r).block ++ decimal (shown r).place

-- "`READ` N B"
unfoldable pub set_text : Set → List ℕ
set_text s = read ++ space ++ field s.processes ++ decimal s.bases

unfoldable pub did_text : Answer → List ℕ
did_text An.Moved = moved
did_text An.Idle = idle

-- "`STANDING` s"
unfoldable pub stands_text : Standing → List ℕ
stands_text s = standing ++ space ++ decimal (standing_number s)

-- what an answer says in words of its own, or its refusal
unfoldable pub said : {A : Type 0} → (A → List ℕ) → Result A Refusal → Result (List ℕ) Refusal
said text (Ok a) = Ok (text a)
said text (Err r) = Err r

unfoldable pub said_text : Result (List ℕ) Refusal → List ℕ
said_text (Ok xs) = xs
said_text (Err r) = refusal_text r

-- what the call of this op answers
unfoldable pub call_said : Op → List ℕ → List ℕ → ℕ → Result (List ℕ) Refusal
call_said Op.Read f t p = said set_text (reading f)
call_said Op.Judge f t p = said (λ _. passes) (judging f)
call_said Op.Fresh f t p = said (λ _. fresh) (making t)
call_said Op.Turn f t p = said did_text (turning f t p)
call_said Op.Standing f t p = said stands_text (Ans.standing f t)

-- the table after it
unfoldable pub call_table : Op → List ℕ → List ℕ → ℕ → List ℕ
call_table Op.Fresh f t p = made_table t
call_table Op.Turn f t p = turned_table f t p
call_table _ f t p = t

-- every word, each as four hexadecimal digits
unfoldable pub table_text : List ℕ → List ℕ
table_text [] = []
table_text (w ∷ ws) = (space ++ hexadecimal w) ++ table_text ws

-- the words of a table, where the call writes it
unfoldable pub words_text : Op → List ℕ → List ℕ
words_text Op.Fresh t = table_text t
words_text Op.Turn t = table_text t
words_text _ t = []

-- the answer to a trial of this op, with every word of the table after the call where it writes the table
unfoldable pub answer_text : Op → List ℕ → List ℕ → ℕ → List ℕ
answer_text op f t p = said_text (call_said op f t p) ++ words_text op (call_table op f t p)

unfoldable pub trial_line : Op → List ℕ → List ℕ → ℕ → List ℕ
trial_line op f t p = field (op_number op) ++ answer_text op f t p ++ line_feed

-- the room that the text of an answer may take, that with the words, and a line
abbrev pub text_room : ℕ
text_room = 80

abbrev pub answer_room : ℕ
answer_room = 1400

abbrev pub line_room : ℕ
line_room = 1500

-- what an answer says was put, or nothing, and its refusal is handed on
abbrev pub PutsSaid : Text → Text → Result (List ℕ) Refusal → Result ⊤ Refusal → Type 0
PutsSaid old new (Ok xs) r = (r ≡ Ok tt) × Puts old new xs
PutsSaid old new (Err q) r = (r ≡ Err q) × Puts old new []

-- ---- laws

pub refusal_long : (r : Refusal) → length (refusal_text r) ≤ text_room
unfolding refusal_text
refusal_long r = simp length-append (omega (arith, field_most (shown r).number, field_most (shown r).block, decimal_long (shown r).place))

pub set_long : (s : Set) → length (set_text s) ≤ text_room
unfolding set_text
set_long s = simp length-append (omega (arith, field_most s.processes, decimal_long s.bases))

pub did_long : (a : Answer) → length (did_text a) ≤ text_room
unfolding did_text
did_long An.Moved = omega arith
did_long An.Idle = omega arith

pub stands_long : (s : Standing) → length (stands_text s) ≤ text_room
unfolding stands_text
stands_long s = simp length-append (omega (arith, decimal_long (standing_number s)))

pub said_long : {A : Type 0} (text : A → List ℕ) (r : Result A Refusal) → ((a : A) → length (text a) ≤ text_room) → length (said_text (said text r)) ≤ text_room
unfolding said said_text
said_long text (Ok a) h = h a
said_long text (Err r) h = refusal_long r

pub call_long : (op : Op) (f t : List ℕ) (p : ℕ) → length (said_text (call_said op f t p)) ≤ text_room
unfolding call_said
call_long Op.Read f t p = said_long set_text (reading f) set_long
call_long Op.Judge f t p = said_long (λ _. passes) (judging f) (λ _. omega arith)
call_long Op.Fresh f t p = said_long (λ _. fresh) (making t) (λ _. omega arith)
call_long Op.Turn f t p = said_long did_text (turning f t p) did_long
call_long Op.Standing f t p = said_long stands_text (Ans.standing f t) stands_long

pub table_long : (ws : List ℕ) → length (table_text ws) ≡ 5 * length ws
unfolding table_text
table_long [] = refl
table_long (w ∷ ws) = simp length-append (omega (arith, four_long w, table_long ws))

words_long : (op : Op) (ws : List ℕ) → length (words_text op ws) ≤ 5 * length ws
unfolding words_text
words_long Op.Read ws = omega arith
words_long Op.Judge ws = omega arith
words_long Op.Fresh ws = omega (arith, table_long ws)
words_long Op.Turn ws = omega (arith, table_long ws)
words_long Op.Standing ws = omega arith

pub answer_long : (op : Op) (f t : List ℕ) (p : ℕ) → length (call_table op f t p) ≤ most_words → length (answer_text op f t p) ≤ answer_room
unfolding answer_text
answer_long op f t p h = rw (length-append (said_text (call_said op f t p)) (words_text op (call_table op f t p))) (omega (arith, call_long op f t p, words_long op (call_table op f t p)))

table_append : (vs ws : List ℕ) → table_text (vs ++ ws) ≡ table_text vs ++ table_text ws
unfolding table_text
table_append [] ws = refl
table_append (v ∷ vs) ws = rw (table_append vs ws) (sym (append_assoc (space ++ hexadecimal v) (table_text vs) (table_text ws)))

-- one word more
pub table_more : (ws : List ℕ) (i : ℕ) → i < length ws → table_text (take (i + 1) ws) ≡ table_text (take i ws) ++ (space ++ hexadecimal (get_or ws i 0))
unfolding table_text
table_more ws i h = rw (add-one i, take-suc ws i 0 h, table_append (take i ws) (get_or ws i 0 ∷ []), append-nil (space ++ hexadecimal (get_or ws i 0)))

-- the text of what it answers is whole, with the refusal that it hands on
pub puts_own : {old new : Text} (answer : Result (List ℕ) Refusal) (result : Result ⊤ Refusal) (u : ⊤) → result ≡ Ok u → PutsSaid old new answer result → Puts old new (said_text answer)
unfolding said_text
puts_own (Ok xs) result u e w = w.1
puts_own (Err q) result u e w = let z : ◌≡◌ {A = ℕ} 0 1 = cc (e, w.0) in absurd (omega arith)

pub puts_refusal : {old new last : Text} (answer : Result (List ℕ) Refusal) (result : Result ⊤ Refusal) (r : Refusal) → result ≡ Err r → PutsSaid old new answer result → Puts new last (refusal_text r) → Puts old last (said_text answer)
unfolding said_text
puts_refusal (Ok xs) result r e w v = let z : ◌≡◌ {A = ℕ} 0 1 = cc (e, w.0) in absurd (omega arith)
puts_refusal (Err q) result r e w v = let is : r ≡ q = cc (e, w.0) in rw is at (puts_then w.1 v)

pub words_there : (op : Op) (t : List ℕ) → (op ≡ Op.Fresh) ⊎ (op ≡ Op.Turn) → words_text op t ≡ table_text t
unfolding words_text
words_there op t (inl e) = rw e refl
words_there op t (inr e) = rw e refl

pub no_words : (op : Op) (t : List ℕ) → (op ≡ Op.Fresh → ⊥) → (op ≡ Op.Turn → ⊥) → words_text op t ≡ []
unfolding words_text
no_words Op.Read t h k = refl
no_words Op.Judge t h k = refl
no_words Op.Fresh t h k = absurd (h refl)
no_words Op.Turn t h k = absurd (k refl)
no_words Op.Standing t h k = refl
