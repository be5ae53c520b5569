-- What each standing means: 0, every routine finished; 1, not so, and some process would move; 2, neither.
use mathlib.Core.Path.{◌≡◌, refl}
use mathlib.Core.Bool.{Bool, true, false, not}
use mathlib.Core.List.{List}
use Prim.Native.Nat.{ℕ, ◌+◌, ◌≤◌, ◌<◌}
use native.Mathlib.Omega.{arith}
use borrow.Author.Tests.{eqb-true, eq-eqb, not-true, not-false}
use Rattle.routine.specs.Test.{by_test, clash}
use Rattle.routine.specs.First.{first_in, first_low, first_fails, every_at, every_is, every_not}
use Rattle.routine.specs.Routines.{Routines}
use Rattle.routine.proofs.Sums.{Some}
use Rattle.rules.specs.Table.{call}
use Rattle.rules.specs.Turn.{moves}
use Rattle.rules.specs.Standing.{finished, all_finished, nobody_moves, standing_case, standing_number, standing_of}

abbrev pub AllFinished : Routines → List ℕ → Type 0
AllFinished S t = (p : ℕ) → 1 ≤ p → p ≤ S.N → call t p ≡ S.calls p

abbrev pub NobodyMoves : Routines → List ℕ → Type 0
NobodyMoves S t = (p : ℕ) → 1 ≤ p → p ≤ S.N → moves S t p ≡ false

module _ (S : Routines) (t : List ℕ) where
  all_finished_lem : all_finished S t ≡ true → AllFinished S t
  unfolding all_finished finished
  all_finished_lem e p lo hi = eqb-true _ _ (every_at (finished S t) 1 (S.N + 1) e p lo (omega arith))

  is_all_finished : AllFinished S t → all_finished S t ≡ true
  unfolding all_finished finished
  is_all_finished f = every_is (finished S t) 1 (S.N + 1) (omega arith) (λ p lo hi. eq-eqb _ _ (f p lo (omega arith)))

  nobody_moves_lem : nobody_moves S t ≡ true → NobodyMoves S t
  unfolding nobody_moves
  nobody_moves_lem e p lo hi = not-true _ (every_at (λ p. not (moves S t p)) 1 (S.N + 1) e p lo (omega arith))

  is_nobody_moves : NobodyMoves S t → nobody_moves S t ≡ true
  unfolding nobody_moves
  is_nobody_moves f = every_is (λ p. not (moves S t p)) 1 (S.N + 1) (omega arith) (λ p lo hi. rw (f p lo (omega arith)) refl)

  somebody_moves : nobody_moves S t ≡ false → Some S.N (λ p. moves S t p ≡ true)
  unfolding nobody_moves
  somebody_moves e =
      let idle : ℕ → Bool = λ p. not (moves S t p) in
      let h : first_in idle 1 (S.N + 1) < S.N + 1 = every_not idle 1 (S.N + 1) (omega arith) e in
      record { at = first_in idle 1 (S.N + 1); low = first_low idle 1 (S.N + 1); high = omega arith; holds = not-false _ (first_fails idle 1 (S.N + 1) h) }

  -- each standing follows from its meaning, by the two tests that decide it
  pub standing_finished : AllFinished S t → standing_of S t ≡ 0
  unfolding standing_of standing_case standing_number
  standing_finished f = rw (is_all_finished f) refl

  pub standing_moving : (AllFinished S t → ⊥) → Some S.N (λ p. moves S t p ≡ true) → standing_of S t ≡ 1
  unfolding standing_of standing_case standing_number
  standing_moving n r =
      by_test (all_finished S t) (λ a. absurd (n (all_finished_lem a)))
      (λ a. by_test (nobody_moves S t) (λ b. absurd (clash r.holds (nobody_moves_lem b r.at r.low r.high))) (λ b. rw (a, b) refl))

  pub standing_stuck : (AllFinished S t → ⊥) → NobodyMoves S t → standing_of S t ≡ 2
  unfolding standing_of standing_case standing_number
  standing_stuck n f = by_test (all_finished S t) (λ a. absurd (n (all_finished_lem a))) (λ a. rw (a, is_nobody_moves f) refl)

  -- and its meaning from it, since the three exclude each other
  pub finished_standing : standing_of S t ≡ 0 → AllFinished S t
  finished_standing e =
      by_test (all_finished S t) all_finished_lem
      (λ a. let n : AllFinished S t → ⊥ = λ f. clash (is_all_finished f) a in
      by_test (nobody_moves S t) (λ b. absurd (omega (arith, standing_stuck n (nobody_moves_lem b)))) (λ b. absurd (omega (arith, standing_moving n (somebody_moves b)))))

  pub moving_standing : standing_of S t ≡ 1 → (AllFinished S t → ⊥) × Some S.N (λ p. moves S t p ≡ true)
  moving_standing e =
      let n : AllFinished S t → ⊥ = λ f. omega (arith, standing_finished f) in
      (n, by_test (nobody_moves S t) (λ b. absurd (omega (arith, standing_stuck n (nobody_moves_lem b)))) somebody_moves)

  pub stuck_standing : standing_of S t ≡ 2 → (AllFinished S t → ⊥) × NobodyMoves S t
  stuck_standing e =
      let n : AllFinished S t → ⊥ = λ f. omega (arith, standing_finished f) in
      (n, by_test (nobody_moves S t) nobody_moves_lem (λ b. absurd (omega (arith, standing_moving n (somebody_moves b)))))

  -- there is no other standing
  pub standing_small : standing_of S t ≤ 2
  unfolding standing_of standing_case standing_number
  standing_small =
      by_test (all_finished S t) (λ a. rw a (omega arith))
      (λ a. by_test (nobody_moves S t) (λ b. rw (a, b) (omega arith)) (λ b. rw (a, b) (omega arith)))
