-- What a process is doing tells whether it has finished and whether it moves, and so what the standing is.
use Rattle.std.proofs.Common.{◌≡◌, ◌+◌, ◌≤◌, ℕ, Bool, List, true, false, not, cond, refl, sym, ap, subst, ◌∙◌, arith}
use lib.Dec.{eqb}
use borrow.Author.Tests.{eqb-true, eqb-false}
use Rattle.routine.specs.Test.{and, and_false, and_end, both, by_test}
use Rattle.routine.specs.First.{every, every_is, every_more, one_fails}
use Rattle.routine.specs.Routines.{Routines, routines}
use Rattle.routine.specs.Rules.{WellFormed}
use Rattle.rules.specs.Table.{call, phase, wake}
use Rattle.rules.specs.Turn.{moves}
use Rattle.rules.specs.Standing.{finished, all_finished, nobody_moves, standing_case}
use Rattle.rules.specs.declared.Standing.{Standing}
use Rattle.rules.specs.declared.Standing.TheVariants as St
use Rattle.rules.specs.Ready.{Ready}
use Rattle.rules.proofs.Sentences.{Consistent, consistent_means}
use Rattle.rules.proofs.Moves.{finished_idle, stopped_idle, waiting_moves, other_moves}
use Rattle.interlock.specs.declared.stand.Doing.{Doing}
use Rattle.interlock.specs.declared.stand.Doing.TheVariants as Do
use Rattle.interlock.specs.Doing.{doing}

unfoldable pub has_finished : Doing → Bool
has_finished Do.Finished = true
has_finished Do.Stopped = false
has_finished Do.Waits = false
has_finished Do.Moves = false

unfoldable pub does_move : Doing → Bool
does_move Do.Finished = false
does_move Do.Stopped = false
does_move Do.Waits = false
does_move Do.Moves = true

finished_by : (S : Routines) (t : List ℕ) (p : ℕ) → finished S t p ≡ has_finished (doing S t p)
unfolding doing has_finished
finished_by S t p =
    by_test (finished S t p) (λ f. simp f)
    (λ f. by_test (eqb (phase t p) 7) (λ s. simp (f, s))
    (λ s. by_test (eqb (phase t p) 5) (λ w. by_test (eqb (wake t p) 1) (λ k. simp (f, s, w, k)) (λ k. simp (f, s, w, k)))
    (λ w. simp (f, s, w))))

moves_by : (S : Routines) → WellFormed S → (t : List ℕ) → Consistent S t → (p : ℕ) → 1 ≤ p → p ≤ S.N → moves S t p ≡ does_move (doing S t p)
unfolding doing finished does_move moves
moves_by S g t o p lo hi =
    by_test (eqb (call t p) (S.calls p)) (λ f. simp (f, finished_idle S g t o p lo hi (omega (arith, eqb-true (call t p) (S.calls p) f))))
    (λ f. by_test (eqb (phase t p) 7) (λ s. simp (f, s, stopped_idle S g t o p lo hi (eqb-true _ _ s)))
    (λ s. by_test (eqb (phase t p) 5) (λ w. by_test (eqb (wake t p) 1) (λ k. simp (f, s, w, waiting_moves S g t o p lo hi (eqb-true _ _ w), k)) (λ k. simp (f, s, w, waiting_moves S g t o p lo hi (eqb-true _ _ w), k)))
    (λ w. let ne : call t p ≡ S.calls p → ⊥ = eqb-false _ _ f in
    let le = (o.process p lo hi).call_low in
    simp (f, s, w, other_moves S g t o p lo hi (omega arith) (eqb-false _ _ w) (eqb-false _ _ s)))))

-- nobody before p moves, and the standing tells whether all of them have finished
abbrev pub StandsBefore : Routines → List ℕ → ℕ → Standing → Type 0
StandsBefore S t p s = (1 ≤ p) × (every (λ q. not (moves S t q)) 1 p ≡ true) × (s ≡ cond (every (finished S t) 1 p) St.Finished St.Stuck)

pub nobody : (S : Routines) (t : List ℕ) → StandsBefore S t 1 St.Finished
nobody S t =
    let none : (good : ℕ → Bool) → every good 1 1 ≡ true = λ good. every_is good 1 1 (omega arith) (λ q a b. absurd (omega arith)) in
    (omega arith, none _, rw (none (finished S t)) refl)

-- everybody has been looked at, and nobody moves
pub everybody : (S : Routines) (t : List ℕ) (p : ℕ) (s : Standing) → p ≡ S.N + 1 → StandsBefore S t p s → s ≡ standing_case S t
unfolding standing_case all_finished nobody_moves
everybody S t p s e b =
    let m = subst (λ q. every (λ r. not (moves S t r)) 1 q ≡ true) e b.1 in
    subst (λ q. s ≡ cond (every (finished S t) 1 q) St.Finished St.Stuck) e b.2 ∙ simp m

module _ {f t : List ℕ} (ready : Ready f t) (p : ℕ) (hi : p ≤ (routines f).N) (s : Standing) (before : StandsBefore (routines f) t p s) (d : Doing) (is : d ≡ doing (routines f) t p) where
  ended : finished (routines f) t p ≡ has_finished d
  ended = finished_by (routines f) t p ∙ ap has_finished (sym is)

  moving : moves (routines f) t p ≡ does_move d
  moving = moves_by _ ready.file t (consistent_means _ _ ready.file ready.consistency) p before.0 hi ∙ ap does_move (sym is)

  -- p moves
  pub somebody : does_move d ≡ true → has_finished d ≡ false → standing_case (routines f) t ≡ St.Moving
  unfolding standing_case all_finished nobody_moves
  somebody m e =
      let a = one_fails (finished (routines f) t) 1 ((routines f).N + 1) p before.0 (omega arith) (ended ∙ e) in
      let b = one_fails (λ q. not (moves (routines f) t q)) 1 ((routines f).N + 1) p before.0 (omega arith) (ap not (moving ∙ m)) in
      simp (a, b)

  -- p does not
  pub one_more : does_move d ≡ false → (u : Standing) → u ≡ cond (has_finished d) s St.Stuck → StandsBefore (routines f) t (p + 1) u
  one_more m u e =
      let more = every_more (finished (routines f) t) 1 p before.0 in (
        omega arith,
        every_more _ 1 p before.0 ∙ both before.1 (ap not (moving ∙ m)),
        e ∙ by_test (has_finished d)
            (λ y. rw y (before.2 ∙ ap (λ b. cond b St.Finished St.Stuck) (sym (more ∙ and_end _ _ (ended ∙ y)))))
            (λ n. rw n (ap (λ b. cond b St.Finished St.Stuck) (sym (more ∙ ap (and _) (ended ∙ n) ∙ and_false _)))),
      )
