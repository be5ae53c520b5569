-- The harms by which the slips are known are those that demand 3 excludes: the judge and the interlock as they are come to none.
use mathlib.Core.Path.{◌≡◌, refl, subst}
use mathlib.Core.Bool.{true, ◌||◌}
use mathlib.Core.List.{List, [], ◌∷◌}
use Prim.Native.Nat.{ℕ, ◌+◌, ◌≤◌}
use native.Mathlib.Omega.{arith}
use native.Mathlib.Decide.{ℕ_discrete}
use lib.Dec.{eqb}
use borrow.Author.Tests.{eqb-true, eq-eqb, not-true}
use Rattle.routine.specs.Test.{and_left, and_right, within, within_is, clash, by_test, implying}
use Rattle.routine.specs.First.{every, every_is}
use Rattle.routine.specs.Routines.{Routines, routines, free, modifies}
use Rattle.rules.specs.Table.{fresh}
use Rattle.rules.specs.Consistent.{held}
use Rattle.rules.specs.Turn.{next, next_at, turned, moves}
use Rattle.rules.specs.Standing.{nobody_moves, standing_case, standing_of}
use Rattle.promise.specs.Play.{play, moved_in, TurnsBy, no_turn, a_turn, by_processes}
use Rattle.promise.specs.Promise.{Promised}
use Rattle.promise.specs.Slips.{interlock, play_of, standing_in, Harm, stuck, alone, crowded, Harmful, no_slip, NoHarm, leaving, slipping}
use Rattle.promise.proofs.Demand3.{demand_3}

-- the test of a list of turns means what it should
pub by_processes_lem : (n : ℕ) (ps : List ℕ) → by_processes n ps ≡ true → TurnsBy n ps
unfolding by_processes
by_processes_lem n [] e = no_turn
by_processes_lem n (p ∷ ps) e = let w = within_is 1 n p (and_left _ _ e) in a_turn w.0 w.1 (by_processes_lem n ps (and_right (within 1 n p) _ e))

-- a play and a standing of the interlock as a machine are those of the interlock
pub play_same : (S : Routines) (t ps : List ℕ) → play_of interlock S t ps ≡ play S t ps
unfolding play_of play interlock
play_same S t [] = refl
play_same S t (p ∷ ps) = play_same S (turned S t p) ps

pub standing_same : (S : Routines) (t : List ℕ) → standing_in interlock S t ≡ standing_of S t
unfolding standing_in interlock standing_of standing_case nobody_moves
standing_same S t = refl

-- a machine that slips nowhere is the interlock
pub slipping_nowhere : (S : Routines) (t : List ℕ) (p : ℕ) → ((slipping next).after S t p ≡ turned S t p) × ((slipping next).able S t p ≡ moves S t p)
unfolding slipping leaving turned moves next_at
slipping_nowhere S t p = (refl, refl)

module _ (S : Routines) (t : List ℕ) (m : ℕ) (d : Promised S t m) where
  not_stuck : stuck interlock S t ≡ true → ⊥
  unfolding stuck
  not_stuck e = let two : standing_in interlock S t ≡ 2 = eqb-true _ _ e in omega (arith, standing_same S t, d.never_stuck)

  all_alone : (b p q : ℕ) → 1 ≤ b → b ≤ S.B → 1 ≤ p → p ≤ S.N → 1 ≤ q → q ≤ S.N → alone S t b p q ≡ true
  unfolding alone
  all_alone b p q bl bh pl ph ql qh =
      implying (eqb (held S t p b) modifies) (eqb (held S t q b) free || eqb q p) (λ e. elim (ℕ_discrete q p) [
        | yes z ↦ rw (eq-eqb q p z) (by_test (eqb (held S t q b) free) (λ f. rw f refl) (λ f. rw f refl))
        | no ne ↦ rw (eq-eqb _ _ (d.alone b p q bl bh pl ph ql qh (eqb-true _ _ e) ne)) refl
      ])

  not_crowded : crowded interlock S t ≡ true → ⊥
  unfolding crowded
  not_crowded e =
      clash (every_is (λ b. every (λ p. every (alone S t b p) 1 (S.N + 1)) 1 (S.N + 1)) 1 (S.B + 1) (omega arith)
      (λ b bl bh. every_is (λ p. every (alone S t b p) 1 (S.N + 1)) 1 (S.N + 1) (omega arith)
      (λ p pl ph. every_is (alone S t b p) 1 (S.N + 1) (omega arith)
      (λ q ql qh. all_alone b p q bl (omega arith) pl (omega arith) ql (omega arith)))))
      (not-true _ e)

pub no_harm : (f turns : List ℕ) → NoHarm f turns
no_harm f turns = record {
  not_stuck = λ h. not_stuck (routines f) _ _ (promised h) (subst (λ t. stuck interlock (routines f) t ≡ true) (play_same (routines f) fresh turns) h.harmed);
  not_crowded = λ h. not_crowded (routines f) _ _ (promised h) (subst (λ t. crowded interlock (routines f) t ≡ true) (play_same (routines f) fresh turns) h.harmed);
}
  where
    promised : {harm : Harm} → Harmful (no_slip f turns harm) → Promised (routines f) (play (routines f) fresh turns) (moved_in (routines f) fresh turns)
    promised h = (demand_3 f h.passed turns (by_processes_lem _ _ h.turns_by)).promised
