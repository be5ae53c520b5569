-- Why the rules are as they are: with a slip in one of them, some file is passed and has turns that end in harm.
-- A slip is written over the interlock, or over the judge, and their own definitions know nothing of it.
use Rattle.std.specs.Prelude.{◌≡◌, Bool, true, cond, not, ◌||◌, List, [], ◌∷◌, ℕ, zero, suc, ◌+◌, eqb, ltb, ⊤, Option, Some, is_some, is_none, option_map, Result, Ok}
use Rattle.routine.specs.declared.refusal.Refusal.{Refusal}
use Rattle.routine.specs.Test.{and, implies}
use Rattle.routine.specs.First.{first_in, every}
use Rattle.routine.specs.Routines.{Routines, routines, kind_now, base_now, modlock, unlock, free, modifies, hold}
use Rattle.routine.specs.Reading.{file_refusal}
use Rattle.routine.specs.Judging.{is_take, place_good, judging}
use Rattle.rules.specs.declared.Words.{Words}
use Rattle.rules.specs.declared.Standing.TheVariants as St
use Rattle.rules.specs.Table.{call, phase, words_at, put_words, fresh}
use Rattle.rules.specs.Consistent.{mark_now, held}
use Rattle.rules.specs.Turn.{with_base, to_phase, completed, succeeds, taken, enlist, next, waits, notified, settle, turned, moves}
use Rattle.rules.specs.Standing.{all_finished, standing_number}
use Rattle.promise.specs.Play.{by_processes}
use Rattle.promise.specs.Files.{modifier_reader, modifiers_reader, modifiers_then_reader, ring}

-- ---- machines

-- what a turn leaves of the table, and whether it moves
pub record Machine : Type 0 where
  pub after : Routines → List ℕ → ℕ → List ℕ
  pub able : Routines → List ℕ → ℕ → Bool

unfoldable pub interlock : Machine
interlock = record { after = turned; able = moves }

-- the table after these turns, and the standing of a table: as `play` and `standing_of` say it of the interlock
unfoldable pub play_of : Machine → Routines → List ℕ → List ℕ → List ℕ
play_of M S t [] = t
play_of M S t (p ∷ ps) = play_of M S (M.after S t p) ps

unfoldable pub standing_in : Machine → Routines → List ℕ → ℕ
standing_in M S t = standing_number (cond (all_finished S t) St.Finished (cond (every (λ p. not (M.able S t p)) 1 (S.N + 1)) St.Stuck St.Moving))

-- ---- harms

-- what may be wrong with a table that a machine has come to
abbrev pub Harm : Type 0
Harm = Machine → Routines → List ℕ → Bool

-- "never stuck" is broken
unfoldable pub stuck : Harm
stuck M S t = eqb (standing_in M S t) 2

-- where p modifies b, q holds b in no way or is p
unfoldable pub alone : Routines → List ℕ → ℕ → ℕ → ℕ → Bool
alone S t b p q = implies (eqb (held S t p b) modifies) (eqb (held S t q b) free || eqb q p)

-- "a modifier is alone" is broken
unfoldable pub crowded : Harm
crowded M S t = not (every (λ b. every (λ p. every (alone S t b p) 1 (S.N + 1)) 1 (S.N + 1)) 1 (S.B + 1))

-- ---- slips

-- a judge and a machine, one of them slipped, and the file and the turns with which they come to harm
pub record Slip : Type 0 where
  pub judge : List ℕ → Result ⊤ Refusal
  pub machine : Machine
  pub file : List ℕ
  pub turns : List ℕ
  pub harm : Harm

-- the file is passed, the turns are by its processes, and they end in the harm
pub record Harmful (s : Slip) : Type 0 where
  pub passed : s.judge s.file ≡ Ok tt
  pub turns_by : by_processes (routines s.file).N s.turns ≡ true
  pub harmed : s.harm s.machine (routines s.file) (play_of s.machine (routines s.file) fresh s.turns) ≡ true

-- and so is each slip of a list
pub data AllHarmful : List Slip → Type 0 where
  no_more : AllHarmful []
  also : {s : Slip} {ss : List Slip} → Harmful s → AllHarmful ss → AllHarmful (s ∷ ss)

-- the judge and the interlock as they are
abbrev pub no_slip : List ℕ → List ℕ → Harm → Slip
no_slip f turns harm = record { judge = judging; machine = interlock; file = f; turns = turns; harm = harm }

-- with this file and these turns they come to neither harm
pub record NoHarm (f turns : List ℕ) : Type 0 where
  pub not_stuck : Harmful (no_slip f turns stuck) → ⊥
  pub not_crowded : Harmful (no_slip f turns crowded) → ⊥

-- ---- a slip in what a turn leaves of the words that it looks at

-- what `next` says, from the process, the kind of its call, the mark on its base, and the words
abbrev pub Rule : Type 0
Rule = ℕ → ℕ → ℕ → Words → Option Words

unfoldable pub leaving : Rule → Routines → List ℕ → ℕ → Option Words
leaving n S t p = n p (kind_now S p (call t p)) (mark_now S p (call t p)) (words_at t (base_now S p (call t p)) p)

-- the interlock with n in the place of `next`
unfoldable pub slipping : Rule → Machine
slipping n = record { after = λ S t p. settle S t p (leaving n S t p); able = λ S t p. is_some (leaving n S t p) }

-- ---- the slips, one by one

-- "unlock that leaves NOMORE on: after two modifiers no reader enters again"
unfoldable pub leaves_switch : Rule
leaves_switch p kind old w = cond (eqb kind unlock) (option_map (λ x. with_base x.lock w.nomore x.count x) (next p kind old w)) (next p kind old w)

-- 1 takes the base; 2 misses it, enlists and misses again; 1 unlocks and notifies; 2 sets the switch, wakes, takes the base, unlocks it and leaves the switch on; 3 waits to read a free base
unfoldable pub switch_left : Slip
switch_left = record {
  judge = judging;
  machine = slipping leaves_switch;
  file = modifiers_then_reader;
  turns = 1 ∷ 2 ∷ 2 ∷ 2 ∷ 1 ∷ 1 ∷ 2 ∷ 2 ∷ 2 ∷ 2 ∷ 2 ∷ 3 ∷ 3 ∷ 3 ∷ [];
  harm = stuck;
}

-- enlisted, and on the way to phase 5 with no try after it
unfoldable pub enlist_and_wait : ℕ → Words → Words
enlist_and_wait kind w = to_phase (cond (eqb kind modlock) 4 5) (enlist w)

-- "A wait after one try .. the wakeup falls between": between the try and enlisting
unfoldable pub waits_at_once : Rule
waits_at_once p kind old w = cond (eqb w.phase 1) (Some (enlist_and_wait kind w)) (next p kind old w)

-- 1 takes the base; 2 misses it; 1 unlocks and notifies nobody; 2 enlists and waits
unfoldable pub one_try : Slip
one_try = record {
  judge = judging;
  machine = slipping waits_at_once;
  file = modifier_reader;
  turns = 1 ∷ 2 ∷ 1 ∷ 1 ∷ 2 ∷ [];
  harm = stuck;
}

-- "or the second try before enlisting": the wakeup falls between that try and enlisting
unfoldable pub tries_first : Rule
tries_first p kind old w =
    cond (eqb w.phase 1) (Some (cond (succeeds kind w) (to_phase 3 (taken p kind w)) (to_phase 2 w)))
    (cond (eqb w.phase 2) (Some (enlist_and_wait kind w))
    (next p kind old w))

-- 1 takes the base; 2 misses it twice; 1 unlocks and notifies nobody; 2 enlists and waits
unfoldable pub tries_too_soon : Slip
tries_too_soon = record {
  judge = judging;
  machine = slipping tries_first;
  file = modifier_reader;
  turns = 1 ∷ 2 ∷ 2 ∷ 1 ∷ 1 ∷ 2 ∷ [];
  harm = stuck;
}

-- "modlock that tests LOCK and forgets COUNT": it goes on as if COUNT were 0
unfoldable pub forgets_count : Rule
forgets_count p kind old w =
    cond (eqb kind modlock) (option_map (λ x. with_base x.lock x.nomore w.count x) (next p kind old (with_base w.lock w.nomore 0 w))) (next p kind old w)

-- 2 reads, and 1 modifies
unfoldable pub count_forgotten : Slip
count_forgotten = record {
  judge = judging;
  machine = slipping forgets_count;
  file = modifier_reader;
  turns = 2 ∷ 1 ∷ [];
  harm = crowded;
}

-- "Notify that wakes .. only the first": it goes through processes 1, 2, .. and ends with the first that waits
unfoldable pub first_notified : Routines → ℕ → List ℕ → List ℕ
first_notified S b t = notified S b t (first_in (λ q. not (waits S t b q)) 1 S.N)

-- the table after phase 6 of process p, at base b
unfoldable pub after_first : Routines → List ℕ → ℕ → ℕ → List ℕ
after_first S t b p = put_words (first_notified S b t) b p (completed (words_at t b p))

unfoldable pub wakes_first : Machine
wakes_first = record { after = λ S t p. cond (eqb (phase t p) 6) (after_first S t (base_now S p (call t p)) p) (turned S t p); able = moves }

-- 1 takes the base; 2 and 3 enlist and miss it; 1 unlocks and notifies 2 alone; 3 sets the switch and waits; 2 wakes, finds the switch on and waits: both for a free base
unfoldable pub only_first_woken : Slip
only_first_woken = record {
  judge = judging;
  machine = wakes_first;
  file = modifiers_reader;
  turns = 1 ∷ 2 ∷ 2 ∷ 2 ∷ 3 ∷ 3 ∷ 3 ∷ 1 ∷ 1 ∷ 2 ∷ 3 ∷ 2 ∷ 2 ∷ 2 ∷ [];
  harm = stuck;
}

-- notify only if the switch was on: "otherwise a waiting reader with the switch off sleeps on"
unfoldable pub notifies_if_on : Rule
notifies_if_on p kind old w = cond (eqb w.nomore 0) (option_map (λ x. cond (eqb x.phase 6) (completed x) x) (next p kind old w)) (next p kind old w)

-- 1 takes the base; 2 misses it, enlists, misses again and waits; 1 unlocks, and nobody is notified
unfoldable pub not_notified : Slip
not_notified = record {
  judge = judging;
  machine = slipping notifies_if_on;
  file = modifier_reader;
  turns = 1 ∷ 2 ∷ 2 ∷ 2 ∷ 1 ∷ [];
  harm = stuck;
}

-- the base of the last modlock or readlock among the first k calls of routine p
unfoldable pub last_taken : Routines → ℕ → ℕ → ℕ
last_taken S p zero = 0
last_taken S p (suc k) = cond (is_take (S.kind p k)) (S.base p k) (last_taken S p k)

-- "A judge that compares only with the base taken last", where that is still held
unfoldable pub place_by_last : Routines → ℕ → ℕ → Bool
place_by_last S p k = cond (and (ltb k (S.calls p)) (is_take (S.kind p k))) (implies (not (eqb (hold S p k (last_taken S p k)) free)) (ltb (last_taken S p k) (S.base p k))) (place_good S p k)

unfoldable pub passes_by_last : Routines → Bool
passes_by_last S = every (λ p. every (place_by_last S p) 0 (S.calls p + 1)) 1 (S.N + 1)

unfoldable pub judge_by_last : List ℕ → Result ⊤ Refusal
judge_by_last f = cond (and (is_none (file_refusal f)) (passes_by_last (routines f))) (Ok tt) (judging f)

-- 1 takes base 2, takes base 3 and gives it up; 2 takes base 1; 1 waits for base 1, and 2 for base 2
unfoldable pub ring_passed : Slip
ring_passed = record {
  judge = judge_by_last;
  machine = interlock;
  file = ring;
  turns = 1 ∷ 1 ∷ 1 ∷ 1 ∷ 2 ∷ 1 ∷ 1 ∷ 1 ∷ 1 ∷ 2 ∷ 2 ∷ 2 ∷ 2 ∷ [];
  harm = stuck;
}

-- the slips of document 01 that do harm, and the notify of 003's introduction
unfoldable pub slips : List Slip
slips = switch_left ∷ one_try ∷ tries_too_soon ∷ count_forgotten ∷ only_first_woken ∷ not_notified ∷ ring_passed ∷ []
