-- Laws of the current call and of what a process holds.
use mathlib.Core.Path.{◌≡◌, refl}
use mathlib.Core.Logic.{◌≢◌}
use Prim.Native.Nat.{ℕ, zero, suc, ◌≤◌, ◌<◌}
use native.Mathlib.Omega.{arith}
use native.Mathlib.Decide.{ℕ_discrete, dec_le}
use lib.Dec.{eqb}
use borrow.Author.Tests.{eq-eqb, ne_eqb, lt-ltb, le-ltb}
use Rattle.routine.specs.Routines.{Routines, kind_now, base_now, modlock, readlock, unlock, decrease, free, modifies, reads, mark, fine, hold}
use Rattle.routine.specs.Rules.{WellFormed}
use Rattle.routine.specs.Kind.{kind_number}
use Rattle.routine.specs.Test.{within, is_within, clash}
use Rattle.routine.specs.declared.kind.Kind.{Kind}
use Rattle.routine.specs.declared.kind.NoKind.{NoKind}
use Rattle.std.specs.Prelude.{Result, Ok, Err, MatchResult, IsOk, IsOkAnd}
use mathlib.Core.Bool.{false}

-- ---- the current call

module _ (S : Routines) (p k : ℕ) where
  pub kind_now_lem : k < S.calls p → kind_now S p k ≡ S.kind p k
  unfolding kind_now
  kind_now_lem h = rw (lt-ltb k (S.calls p) h)

  pub kind_end : S.calls p ≤ k → kind_now S p k ≡ 0
  unfolding kind_now
  kind_end h = rw (le-ltb k (S.calls p) h)

  pub base_now_lem : k < S.calls p → base_now S p k ≡ S.base p k
  unfolding base_now
  base_now_lem h = rw (lt-ltb k (S.calls p) h)

  pub base_end : S.calls p ≤ k → base_now S p k ≡ 0
  unfolding base_now
  base_end h = rw (le-ltb k (S.calls p) h)

  -- a kind that is not 0 is that of a call
  pub at_call : kind_now S p k ≢ 0 → k < S.calls p
  at_call n = elim (dec_le (S.calls p) k) [ yes h ↦ absurd (n (kind_end h)) | no h ↦ omega arith ]

-- what stands at a call of a well-formed file
pub record CallNow (S : Routines) (p k : ℕ) : Type 0 where
  pub kind_low : modlock ≤ kind_now S p k
  pub kind_high : kind_now S p k ≤ decrease
  pub base_low : 1 ≤ base_now S p k
  pub base_high : base_now S p k ≤ S.B

pub call_now : (S : Routines) → WellFormed S → (p k : ℕ) → 1 ≤ p → p ≤ S.N → k < S.calls p → CallNow S p k
call_now S g p k lo hi h =
    record {
      kind_low = omega (arith, kind_now_lem S p k h, g.kind_low p k lo hi h);
      kind_high = omega (arith, kind_now_lem S p k h, g.kind_high p k lo hi h);
      base_low = omega (arith, base_now_lem S p k h, g.base_low p k lo hi h);
      base_high = omega (arith, base_now_lem S p k h, g.base_high p k lo hi h);
    }

-- an answer that is Ok with some value is Ok
pub is_ok : {A E : Type 0} (P : A → Type 0) (r : Result A E) → IsOkAnd r P → IsOk r
is_ok P (Ok a) h = refl
is_ok P (Err e) h = absurd h

-- the kind of a call is one of the four
pub kind_known : (S : Routines) → WellFormed S → (p k n : ℕ) → 1 ≤ p → p ≤ S.N → k < S.calls p → n ≡ kind_now S p k
    → (r : Result Kind NoKind) → MatchResult r (λ kind. kind_number kind ≡ n) (λ e. (e.0 ≡ n) × (within modlock decrease n ≡ false)) → IsOkAnd r (λ kind. kind_number kind ≡ n)
kind_known S g p k n lo hi h is (Ok kind) e = e
kind_known S g p k n lo hi h is (Err e) m = let c = call_now S g p k lo hi h in clash (is_within modlock decrease n (omega (arith, c.kind_low)) (omega (arith, c.kind_high))) m.1

-- no kind is above decrease
pub kind_now_high : (S : Routines) → WellFormed S → (p k : ℕ) → 1 ≤ p → p ≤ S.N → kind_now S p k ≤ decrease
kind_now_high S g p k lo hi = elim (dec_le (S.calls p) k) [
  | yes h ↦ omega (arith, kind_end S p k h)
  | no h ↦ (let lt : k < S.calls p = omega arith in (call_now S g p k lo hi lt).kind_high)
]

-- kind 0 is that of no call
pub no_call : (S : Routines) → WellFormed S → (p k : ℕ) → 1 ≤ p → p ≤ S.N → kind_now S p k ≡ 0 → S.calls p ≤ k
no_call S g p k lo hi z = elim (dec_le (S.calls p) k) [
  | yes h ↦ h
  | no h ↦ (let lt : k < S.calls p = omega arith in absurd (omega (arith, call_now S g p k lo hi lt)))
]

-- ---- the marks

pub mark_modlock : (kind old : ℕ) → kind ≡ modlock → mark kind old ≡ modifies
unfolding mark
mark_modlock kind old e = rw e

pub mark_readlock : (kind old : ℕ) → kind ≡ readlock → mark kind old ≡ reads
unfolding mark
mark_readlock kind old e = rw e

pub mark_release : (kind old : ℕ) → unlock ≤ kind → mark kind old ≡ free
unfolding mark
mark_release kind old h = rw (ne_eqb kind modlock (omega arith), ne_eqb kind readlock (omega arith))

-- no logic error, kind by kind
pub fine_take : (kind old : ℕ) → kind ≤ readlock → fine kind old ≡ eqb old free
unfolding fine
fine_take kind old h = rw (ne_eqb kind unlock (omega arith), ne_eqb kind decrease (omega arith))

pub fine_unlock : (kind old : ℕ) → kind ≡ unlock → fine kind old ≡ eqb old modifies
unfolding fine
fine_unlock kind old e = rw e

pub fine_decrease : (kind old : ℕ) → kind ≡ decrease → fine kind old ≡ eqb old reads
unfolding fine
fine_decrease kind old e = rw e

-- a call changes the mark of its own base alone
pub hold_here : (S : Routines) (p k b : ℕ) → S.base p k ≡ b → hold S p (suc k) b ≡ mark (S.kind p k) (hold S p k b)
unfolding hold
hold_here S p k b e = rw (eq-eqb (S.base p k) b e)

pub hold_else : (S : Routines) (p k b : ℕ) → S.base p k ≢ b → hold S p (suc k) b ≡ hold S p k b
unfolding hold
hold_else S p k b e = rw (ne_eqb (S.base p k) b e)

-- a mark is free, modifies or reads
pub mark_small : (kind old : ℕ) → mark kind old ≤ reads
unfolding mark
mark_small kind old = elim (ℕ_discrete kind modlock) [
  | yes e ↦ rw e (omega arith)
  | no n ↦ elim (ℕ_discrete kind readlock) [
    | yes e ↦ rw e (omega arith)
    | no m ↦ rw (ne_eqb kind modlock n, ne_eqb kind readlock m) (omega arith)
  ]
]

pub hold_small : (S : Routines) (p k b : ℕ) → hold S p k b ≤ reads
hold_small S p zero b = unfold hold in omega arith
hold_small S p (suc k) b = elim (ℕ_discrete (S.base p k) b) [
  | yes e ↦ omega (arith, hold_here S p k b e, mark_small (S.kind p k) (hold S p k b))
  | no n ↦ omega (arith, hold_else S p k b n, hold_small S p k b)
]
