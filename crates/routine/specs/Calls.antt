-- One call of a file, for any bytes and any process and place.
use Rattle.std.specs.Prelude.{◌≡◌, refl, true, false, cond, List, ℕ, ◌≤◌, ◌<◌, ltb, min, Option, Some, None}
use Rattle.std.proofs.Common.{sym, ◌∙◌, arith, lt-ltb, le-ltb, ltb-true, ltb-false}
use Rattle.std.proofs.lemmas.Option.{none-some, cond_some}
use Rattle.routine.specs.declared.calls.Call.{Call}
use Rattle.routine.specs.Test.{and, within, by_test, is_within, and_left, and_stop, and_false, both}
use Rattle.routine.specs.Limits.{most_calls}
use Rattle.routine.specs.Routines.{routines, kind_now, base_now}

abbrev pub call_of : ℕ → ℕ → Call
call_of kind base = record { kind = kind; base = base }

-- the number of calls of routine p, or 0 where the file has no block p
unfoldable pub calls_in : List ℕ → ℕ → ℕ
calls_in f p = cond (within 1 (routines f).N p) ((routines f).calls p) 0

-- the call at which process p stands when it has completed k calls; none past its last, or past the 32nd
unfoldable pub call_at : List ℕ → ℕ → ℕ → Option Call
call_at f p k = cond (and (ltb k (calls_in f p)) (ltb k most_calls)) (Some (call_of ((routines f).kind p k) ((routines f).base p k))) None

-- ---- laws

-- what the block of p says, where the file has one
module _ (f : List ℕ) (p k : ℕ) where
  pub no_block : within 1 (routines f).N p ≡ false → call_at f p k ≡ None
  unfolding call_at calls_in and
  no_block e = rw e (rw (le-ltb k 0 (omega arith)) refl)

  module _ (e : within 1 (routines f).N p ≡ true) where
    pub block_calls : calls_in f p ≡ (routines f).calls p
    unfolding calls_in
    block_calls = rw e refl

    pub past_calls : min ((routines f).calls p) most_calls ≤ k → call_at f p k ≡ None
    unfolding call_at
    past_calls h = rw block_calls (by_test (ltb k ((routines f).calls p))
        (λ l. rw (le-ltb k most_calls (omega (arith, ltb-true _ _ l)), and_false (ltb k ((routines f).calls p))) refl)
        (λ l. rw (and_stop _ (ltb k most_calls) l) refl))

    pub among_calls : k < min ((routines f).calls p) most_calls → call_at f p k ≡ Some (call_of ((routines f).kind p k) ((routines f).base p k))
    unfolding call_at
    among_calls h = rw block_calls (rw (both (lt-ltb k ((routines f).calls p) (omega arith)) (lt-ltb k most_calls (omega arith))) refl)

pub calls_are : (f : List ℕ) (p : ℕ) → 1 ≤ p → p ≤ (routines f).N → calls_in f p ≡ (routines f).calls p
unfolding calls_in
calls_are f p lo hi = simp (is_within 1 (routines f).N p lo hi)

pub call_is : (f : List ℕ) (p k : ℕ) → 1 ≤ p → p ≤ (routines f).N → k < (routines f).calls p → (routines f).calls p ≤ most_calls → call_at f p k ≡ Some (call_of ((routines f).kind p k) ((routines f).base p k))
unfolding call_at and
call_is f p k lo hi h few = simp (calls_are f p lo hi, lt-ltb k ((routines f).calls p) h, lt-ltb k most_calls (omega arith))

-- a call that there is stands among those of its routine
pub call_there : (f : List ℕ) (p k : ℕ) (c : Call) → call_at f p k ≡ Some c → (k < calls_in f p) × (c ≡ call_of ((routines f).kind p k) ((routines f).base p k))
unfolding call_at and
call_there f p k c e =
    let s = cond_some (and (ltb k (calls_in f p)) (ltb k most_calls)) (call_of ((routines f).kind p k) ((routines f).base p k)) c e in
    (ltb-true _ _ (and_left _ _ s.0), sym s.1)

-- and, of a process of the file, is its current call
pub call_now : (f : List ℕ) (p k : ℕ) (c : Call) → 1 ≤ p → p ≤ (routines f).N → call_at f p k ≡ Some c → (k < (routines f).calls p) × (c.kind ≡ kind_now (routines f) p k) × (c.base ≡ base_now (routines f) p k)
unfolding kind_now base_now
call_now f p k c lo hi e =
    let t = call_there f p k c e in
    let h : k < (routines f).calls p = (rw (calls_are f p lo hi) at t.0) in
    (h, simp (lt-ltb _ _ h, t.1), simp (lt-ltb _ _ h, t.1))

-- where there is none, a process of the file has finished
pub no_call : (f : List ℕ) (p k : ℕ) → 1 ≤ p → p ≤ (routines f).N → (routines f).calls p ≤ most_calls → call_at f p k ≡ None → (routines f).calls p ≤ k
no_call f p k lo hi few e =
    by_test (ltb k ((routines f).calls p))
    (λ t. absurd (none-some _ (sym e ∙ call_is f p k lo hi (ltb-true _ _ t) few)))
    (λ t. ltb-false _ _ t)
