-- What a turn changes of what its process holds, together with the two words of the base that record it.
use mathlib.Core.Path.{◌≡◌, sym, ap, ap₂, ◌∙◌}
use mathlib.Core.Logic.{◌≢◌}
use mathlib.Core.List.{List}
use Prim.Native.Nat.{ℕ, suc, ◌+◌, ◌-◌}
use native.Mathlib.Omega.{arith}
use native.Mathlib.Numerals.{add-one}
use Rattle.routine.specs.Routines.{Routines, modlock, readlock, unlock, decrease, free, modifies, reads, mark, hold, kind_now, base_now}
use Rattle.routine.proofs.Holding.{kind_now_lem, base_now_lem, at_call, mark_modlock, mark_readlock, mark_release, hold_here, hold_else}
use Rattle.rules.specs.Table.{lock, nomore, count, call, phase, words_at}
use Rattle.rules.specs.Consistent.{mark_now, effective, held}
use Rattle.rules.proofs.Holding.{effective_also, effective_less, effective_else}
use Rattle.rules.proofs.Sentences.{Stands}
use Rattle.promise.proofs.Lines.{Line, finished, waiting, stopped, errs, takes_modlock, takes_readlock, misses, unlocks, decreases_last, decreases, enlists, retakes_modlock, retakes_readlock, remisses_modlock, remisses_readlock, delists, switches, wakes, notifies}
use Rattle.promise.proofs.Places.{at_take}

-- what becomes of base b, which p holds, takes or gives up
pub data HoldLine (S : Routines) (p b : ℕ) (t u : List ℕ) : Type 0 where
  keeps : held S u p b ≡ held S t p b → lock u b ≡ lock t b → count u b ≡ count t b → HoldLine S p b t u
  gets_modify : held S t p b ≡ free → held S u p b ≡ modifies → lock t b ≡ 0 → count t b ≡ 0 → lock u b ≡ p → count u b ≡ count t b → HoldLine S p b t u
  gets_read : held S t p b ≡ free → held S u p b ≡ reads → lock t b ≡ 0 → nomore t b ≡ 0 → lock u b ≡ 0 → count u b ≡ count t b + 1 → HoldLine S p b t u
  drops_modify : held S t p b ≡ modifies → held S u p b ≡ free → lock u b ≡ 0 → count u b ≡ count t b → HoldLine S p b t u
  drops_read : held S t p b ≡ reads → held S u p b ≡ free → lock u b ≡ lock t b → count u b ≡ count t b - 1 → HoldLine S p b t u

pub record HoldStep (S : Routines) (p b : ℕ) (t u : List ℕ) : Type 0 where
  pub here : HoldLine S p b t u
  pub else : (c : ℕ) → c ≢ b → held S u p c ≡ held S t p c

module _ (S : Routines) (p b : ℕ) (t u : List ℕ) (eb : b ≡ base_now S p (call t p)) where
  stay : effective (call u p) (phase u p) ≡ effective (call t p) (phase t p) → lock u b ≡ lock t b → count u b ≡ count t b → HoldStep S p b t u
  unfolding held
  stay e l c = record { here = keeps (ap (λ z. hold S p z b) e) l c; else = λ d ne. ap (λ z. hold S p z d) e }

  named : kind_now S p (call t p) ≢ 0 → S.base p (call t p) ≡ b
  named n = sym (base_now_lem S p (call t p) (at_call S p (call t p) n)) ∙ sym eb

  before : effective (call t p) (phase t p) ≡ call t p → held S t p b ≡ mark_now S p (call t p)
  unfolding held mark_now
  before e = rw e (ap (hold S p (call t p)) eb)

  after : effective (call u p) (phase u p) ≡ suc (call t p) → kind_now S p (call t p) ≢ 0 → held S u p b ≡ mark (kind_now S p (call t p)) (hold S p (call t p) b)
  unfolding held
  after e n = rw e (hold_here S p (call t p) b (named n) ∙ ap (λ z. mark z (hold S p (call t p) b)) (sym (kind_now_lem S p (call t p) (at_call S p (call t p) n))))

  apart : effective (call t p) (phase t p) ≡ call t p → effective (call u p) (phase u p) ≡ suc (call t p) → kind_now S p (call t p) ≢ 0 → (c : ℕ) → c ≢ b → held S u p c ≡ held S t p c
  unfolding held
  apart e f n c ne = rw (e, f) (hold_else S p (call t p) c (λ z. ne (sym z ∙ named n)))

  effective_next : phase u p ≡ 0 → call u p ≡ call t p + 1 → effective (call u p) (phase u p) ≡ suc (call t p)
  effective_next z e = effective_else _ _ (omega arith) (omega arith) ∙ e ∙ add-one _

  effective_same : phase t p ≢ 3 → phase t p ≢ 6 → phase u p ≢ 3 → phase u p ≢ 6 → call u p ≡ call t p → effective (call u p) (phase u p) ≡ effective (call t p) (phase t p)
  effective_same a c d f e = effective_else _ _ d f ∙ e ∙ sym (effective_else _ _ a c)

  -- a turn whose effect on what p holds is there at once
  module _ (e : effective (call t p) (phase t p) ≡ call t p) (f : effective (call u p) (phase u p) ≡ suc (call t p)) where
    get_modify : kind_now S p (call t p) ≡ modlock → mark_now S p (call t p) ≡ free → lock t b ≡ 0 → count t b ≡ 0 → lock u b ≡ p → count u b ≡ count t b → HoldStep S p b t u
    get_modify k o l c l2 c2 = record { here = gets_modify (before e ∙ o) (after f (omega arith) ∙ mark_modlock _ _ k) l c l2 c2; else = apart e f (omega arith) }

    get_read : kind_now S p (call t p) ≡ readlock → mark_now S p (call t p) ≡ free → lock t b ≡ 0 → nomore t b ≡ 0 → lock u b ≡ lock t b → count u b ≡ count t b + 1 → HoldStep S p b t u
    get_read k o l n l2 c2 = record { here = gets_read (before e ∙ o) (after f (omega arith) ∙ mark_readlock _ _ k) l n (l2 ∙ l) c2; else = apart e f (omega arith) }

    drop_modify : kind_now S p (call t p) ≡ unlock → mark_now S p (call t p) ≡ modifies → lock u b ≡ 0 → count u b ≡ count t b → HoldStep S p b t u
    drop_modify k o l c = record { here = drops_modify (before e ∙ o) (after f (omega arith) ∙ mark_release _ _ (omega arith)) l c; else = apart e f (omega arith) }

    drop_read : kind_now S p (call t p) ≡ decrease → mark_now S p (call t p) ≡ reads → lock u b ≡ lock t b → count u b ≡ count t b - 1 → HoldStep S p b t u
    drop_read k o l c = record { here = drops_read (before e ∙ o) (after f (omega arith) ∙ mark_release _ _ (omega arith)) l c; else = apart e f (omega arith) }

  module _ (ok : Stands (kind_now S p (call t p)) (mark_now S p (call t p)) (phase t p)) where
    pub line_holds : (d : ℕ) → Line p (kind_now S p (call t p)) (mark_now S p (call t p)) (words_at t b p) d (words_at u b p) → HoldStep S p b t u
    unfolding words_at
    line_holds d (finished a r) = stay (ap₂ effective r.call_is r.phase_is) r.lock_is r.count_is
    line_holds d (waiting a r) = stay (ap₂ effective r.call_is r.phase_is) r.lock_is r.count_is
    line_holds d (stopped a r) = stay (ap₂ effective r.call_is r.phase_is) r.lock_is r.count_is
    line_holds d (errs a c r) = stay (effective_same (omega arith) (omega arith) (omega arith) (omega arith) r.call_is) r.lock_is r.count_is
    line_holds d (takes_modlock a c e f r) = get_modify (effective_else _ _ (omega arith) (omega arith)) (effective_next r.phase_is r.call_is) a c e f r.lock_is r.count_is
    line_holds d (takes_readlock a c e f r) = get_read (effective_else _ _ (omega arith) (omega arith)) (effective_next r.phase_is r.call_is) a c e f r.lock_is r.count_is
    line_holds d (misses a c e r) = stay (effective_same (omega arith) (omega arith) (omega arith) (omega arith) r.call_is) r.lock_is r.count_is
    line_holds d (unlocks a c r) = drop_modify (effective_else _ _ (omega arith) (omega arith)) (effective_less _ _ r.phase_is ∙ ap suc r.call_is) a c r.lock_is r.count_is
    line_holds d (decreases_last a c e r) = drop_read (effective_else _ _ (omega arith) (omega arith)) (effective_less _ _ r.phase_is ∙ ap suc r.call_is) a c r.lock_is (omega arith)
    line_holds d (decreases a c e r) = drop_read (effective_else _ _ (omega arith) (omega arith)) (effective_next r.phase_is r.call_is) a c r.lock_is r.count_is
    line_holds d (enlists r) = stay (effective_same (omega arith) (omega arith) (omega arith) (omega arith) r.call_is) r.lock_is r.count_is
    line_holds d (retakes_modlock a c e r) = get_modify (effective_else _ _ (omega arith) (omega arith)) (effective_also _ _ r.phase_is ∙ ap suc r.call_is) a (at_take ok (omega arith) (omega arith)).freed c e r.lock_is r.count_is
    line_holds d (retakes_readlock a c e r) = (let k = at_take ok (omega arith) (omega arith) in get_read (effective_else _ _ (omega arith) (omega arith)) (effective_also _ _ r.phase_is ∙ ap suc r.call_is) (omega arith) k.freed c e r.lock_is r.count_is)
    line_holds d (remisses_modlock a c r) = stay (effective_same (omega arith) (omega arith) (omega arith) (omega arith) r.call_is) r.lock_is r.count_is
    line_holds d (remisses_readlock a c r) = stay (effective_same (omega arith) (omega arith) (omega arith) (omega arith) r.call_is) r.lock_is r.count_is
    line_holds d (delists r) = stay (effective_next r.phase_is r.call_is ∙ sym (effective_also _ _ r.at)) r.lock_is r.count_is
    line_holds d (switches r) = stay (effective_same (omega arith) (omega arith) (omega arith) (omega arith) r.call_is) r.lock_is r.count_is
    line_holds d (wakes a r) = stay (effective_same (omega arith) (omega arith) (omega arith) (omega arith) r.call_is) r.lock_is r.count_is
    line_holds d (notifies r) = stay (effective_next r.phase_is r.call_is ∙ sym (effective_less _ _ r.at)) r.lock_is r.count_is
