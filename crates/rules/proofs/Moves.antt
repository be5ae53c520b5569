-- Whether a process moves: its own words decide.
use mathlib.Core.Path.{◌≡◌, refl}
use mathlib.Core.Logic.{◌≢◌}
use mathlib.Core.Bool.{true, false}
use mathlib.Core.List.{List}
use Prim.Native.Nat.{ℕ, zero, suc, ◌≤◌, ◌<◌}
use native.Mathlib.Omega.{arith}
use lib.Dec.{eqb}
use borrow.Author.Tests.{eqb-true, eqb-false, eq-eqb, ne_eqb}
use Rattle.std.specs.Prelude.{None, is_some}
use Rattle.routine.specs.Test.{by_test}
use Rattle.routine.specs.Routines.{Routines}
use Rattle.routine.specs.Rules.{WellFormed}
use Rattle.routine.proofs.Holding.{kind_end, call_now}
use Rattle.rules.specs.declared.Words.{Words}
use Rattle.rules.specs.Table.{call, phase, wake, words_at}
use Rattle.rules.specs.Turn.{start, await, next, next_at, moves}
use Rattle.rules.proofs.Sentences.{Consistent}
use Rattle.rules.proofs.Bounds.{finished_phase}

module _ (p kind old : ℕ) (w : Words) where
  idle_finished : w.phase ≡ 0 → kind ≡ 0 → next p kind old w ≡ None
  unfolding next start
  idle_finished e k = simp (eq-eqb _ _ e, eq-eqb _ _ k)

  moves_start : w.phase ≡ 0 → kind ≢ 0 → is_some (next p kind old w) ≡ true
  unfolding next start
  moves_start e k = simp (eq-eqb _ _ e, ne_eqb _ _ k)

  moves_await : w.phase ≡ 5 → is_some (next p kind old w) ≡ eqb w.wake 1
  unfolding next await
  moves_await e = simp e (by_test (eqb w.wake 1) (λ f. simp f) (λ f. simp f))

  idle_stopped : w.phase ≡ 7 → is_some (next p kind old w) ≡ false
  unfolding next
  idle_stopped e = simp e

  moves_in : (ph : ℕ) → w.phase ≡ ph → ph ≢ 0 → ph ≢ 5 → ph ≤ 6 → is_some (next p kind old w) ≡ true
  unfolding next
  moves_in zero e n0 n5 h = absurd (n0 refl)
  moves_in (suc zero) e n0 n5 h = simp e
  moves_in (suc (suc zero)) e n0 n5 h = simp e
  moves_in (suc (suc (suc zero))) e n0 n5 h = simp e
  moves_in (suc (suc (suc (suc zero)))) e n0 n5 h = simp e
  moves_in (suc (suc (suc (suc (suc zero))))) e n0 n5 h = absurd (n5 refl)
  moves_in (suc (suc (suc (suc (suc (suc zero)))))) e n0 n5 h = simp e
  moves_in (suc (suc (suc (suc (suc (suc (suc ph))))))) e n0 n5 h = absurd (omega arith)

  moves_else : w.phase ≢ 0 → w.phase ≢ 5 → w.phase ≤ 6 → is_some (next p kind old w) ≡ true
  moves_else = moves_in w.phase refl

module _ (S : Routines) (g : WellFormed S) (t : List ℕ) (o : Consistent S t) (p : ℕ) (lo : 1 ≤ p) (hi : p ≤ S.N) where
  -- a finished process idles, and so its turn leaves the table itself
  pub finished_idle : S.calls p ≤ call t p → next_at S t p ≡ None
  unfolding next_at words_at
  finished_idle h = idle_finished p _ _ _ (finished_phase S g t o p lo hi h) (kind_end S p (call t p) h)

  pub stopped_idle : phase t p ≡ 7 → moves S t p ≡ false
  unfolding moves next_at words_at
  stopped_idle e = idle_stopped p _ _ _ e

  pub waiting_moves : phase t p ≡ 5 → moves S t p ≡ eqb (wake t p) 1
  unfolding moves next_at words_at
  waiting_moves e = moves_await p _ _ _ e

  pub other_moves : call t p < S.calls p → phase t p ≢ 5 → phase t p ≢ 7 → moves S t p ≡ true
  unfolding moves next_at words_at
  other_moves h n5 n7 =
      by_test (eqb (phase t p) 0)
      (λ e. moves_start p _ _ _ (eqb-true _ _ e) (λ z. let k = call_now S g p (call t p) lo hi h in omega arith))
      (λ e. let n0 = eqb-false (phase t p) 0 e in moves_else p _ _ _ n0 n5 (omega (arith, (o.process p lo hi).phase_low)))
