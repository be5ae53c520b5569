-- Demand 3: "for every file that the judge passes and every order of turns: no logic error, a modifier is alone, never stuck, at most (5N + 1) × R moves".
use Rattle.std.specs.Prelude.{◌≡◌, ◌≢◌, List, ℕ, ◌+◌, ◌*◌, ◌≤◌, Ok}
use Rattle.routine.specs.Routines.{Routines, routines, free, modifies}
use Rattle.routine.specs.Refusal.{numbers}
use Rattle.routine.specs.Judging.{judging}
use Rattle.rules.specs.Table.{lock, count, call, phase, fresh}
use Rattle.rules.specs.Consistent.{held}
use Rattle.rules.specs.Answers.{turning}
use Rattle.rules.specs.Standing.{standing_of}
use Rattle.promise.specs.Play.{play, moved_in, TurnsBy, releases}

-- what holds of the routines S at a table t that m moves have led to
pub record Promised (S : Routines) (t : List ℕ) (m : ℕ) : Type 0 where
  -- "no logic error": no process stops
  pub no_logic_error : (p : ℕ) → 1 ≤ p → p ≤ S.N → phase t p ≢ 7
  -- "a modifier is alone": where p modifies b, no other process holds b in any way
  pub alone : (b p q : ℕ) → 1 ≤ b → b ≤ S.B → 1 ≤ p → p ≤ S.N → 1 ≤ q → q ≤ S.N → held S t p b ≡ modifies → q ≢ p → held S t q b ≡ free
  -- LOCK is p exactly where p modifies, and LOCK and COUNT are never both non-zero
  pub lock_modifies : (b p : ℕ) → 1 ≤ b → b ≤ S.B → 1 ≤ p → p ≤ S.N → lock t b ≡ p → held S t p b ≡ modifies
  pub modifies_lock : (b p : ℕ) → 1 ≤ b → b ≤ S.B → 1 ≤ p → p ≤ S.N → held S t p b ≡ modifies → lock t b ≡ p
  pub not_both : (b : ℕ) → 1 ≤ b → b ≤ S.B → lock t b ≢ 0 → count t b ≡ 0
  -- "never stuck": the standing is 0 or 1, and 0 exactly where every routine has finished
  pub never_stuck : standing_of S t ≤ 1
  pub end_finished : standing_of S t ≡ 0 → (p : ℕ) → 1 ≤ p → p ≤ S.N → call t p ≡ S.calls p
  pub finished_end : ((p : ℕ) → 1 ≤ p → p ≤ S.N → call t p ≡ S.calls p) → standing_of S t ≡ 0
  -- "at most (5N + 1) × R moves"
  pub bounded : m ≤ (5 * S.N + 1) * releases S

-- what holds after these turns over the file f, which may be any turns by 1 to N: so it holds after each turn of every play
pub record Promise (f turns : List ℕ) : Type 0 where
  -- no next turn is refused
  pub not_refused : (p : ℕ) → 1 ≤ p → p ≤ (routines f).N → (numbers (turning f (play (routines f) fresh turns) p)).number ≡ 0
  pub promised : Promised (routines f) (play (routines f) fresh turns) (moved_in (routines f) fresh turns)

-- demand 3
abbrev pub Demand3 : Type 0
Demand3 = (f : List ℕ) → judging f ≡ Ok tt → (turns : List ℕ) → TurnsBy (routines f).N turns → Promise f turns
