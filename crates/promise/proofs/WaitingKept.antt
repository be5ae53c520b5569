-- Every step keeps the three statements about who waits. A base's words and its notifiers are pressed from one to the other:
-- an unlock or last decrease leaves a notifier, and the notifier takes its base's waiters off the list.
use mathlib.Core.Path.{◌≡◌, refl, sym, ap, ◌∙◌, subst}
use mathlib.Core.Logic.{◌≢◌}
use mathlib.Core.Bool.{cond}
use mathlib.Core.List.{List}
use Prim.Native.Nat.{ℕ, ◌+◌, ◌≤◌}
use native.Mathlib.Omega.{arith}
use native.Mathlib.Decide.{ℕ_discrete}
use lib.Dec.{eqb}
use borrow.Author.Tests.{eq-eqb, ne_eqb}
use Rattle.routine.specs.Test.{and, by_test}
use Rattle.routine.specs.Limits.{most_bases}
use Rattle.routine.specs.Routines.{Routines, modlock, readlock, hold, kind_now, base_now}
use Rattle.routine.specs.Rules.{WellFormed}
use Rattle.routine.proofs.Sums.{sum_one, term_le}
use Rattle.routine.proofs.Holding.{kind_now_lem, base_now_lem, at_call, call_now, mark_modlock, hold_here}
use Rattle.rules.specs.Table.{lock, nomore, count, call, phase, wake, entry, words_at, fresh}
use Rattle.rules.specs.Consistent.{mark_now, held}
use Rattle.rules.proofs.Holding.{effective_also}
use Rattle.rules.proofs.Sentences.{ProcessConsistent, Consistent}
use Rattle.promise.specs.Waiting.{notifier, notifiers, wanter, wanters, Waiting}
use Rattle.promise.proofs.Lines.{Line, finished, waiting, stopped, errs, takes_modlock, takes_readlock, misses, unlocks, decreases_last, decreases, enlists, retakes_modlock, retakes_readlock, remisses_modlock, remisses_readlock, delists, switches, wakes, notifies}
use Rattle.promise.proofs.Steps.{MarksLine, kept, woken, Step}
use Rattle.promise.proofs.ConsistencyKept.{lock_modifies}
use Rattle.promise.proofs.FreshTable.{fresh_zero}

-- ---- who counts as a notifier, and as a wanter

both_tests : (a c m n : ℕ) → a ≡ c → m ≡ n → cond {A = ℕ} (and (eqb a c) (eqb m n)) 1 0 ≡ 1
unfolding and
both_tests a c m n e f = rw (eq-eqb a c e, eq-eqb m n f)

first_fails : (a c m n : ℕ) → a ≢ c → cond {A = ℕ} (and (eqb a c) (eqb m n)) 1 0 ≡ 0
unfolding and
first_fails a c m n e = rw (ne_eqb a c e)

second_fails : (a c m n : ℕ) → m ≢ n → cond {A = ℕ} (and (eqb a c) (eqb m n)) 1 0 ≡ 0
unfolding and
second_fails a c m n e = rw (ne_eqb m n e) (by_test (eqb a c) (λ f. rw f refl) (λ f. rw f refl))

module _ (S : Routines) (t : List ℕ) (c q : ℕ) where
  notifier_is : phase t q ≡ 6 → base_now S q (call t q) ≡ c → notifier S t c q ≡ 1
  unfolding notifier
  notifier_is e f = both_tests _ _ _ _ e f

  pub notifier_phase : phase t q ≢ 6 → notifier S t c q ≡ 0
  unfolding notifier
  notifier_phase e = first_fails _ _ (base_now S q (call t q)) c e

  notifier_base : base_now S q (call t q) ≢ c → notifier S t c q ≡ 0
  unfolding notifier
  notifier_base e = second_fails (phase t q) 6 _ _ e

  wanter_is : kind_now S q (call t q) ≡ modlock → base_now S q (call t q) ≡ c → wanter S t c q ≡ 1
  unfolding wanter
  wanter_is e f = both_tests _ _ _ _ e f

  pub wanter_kind : kind_now S q (call t q) ≢ modlock → wanter S t c q ≡ 0
  unfolding wanter
  wanter_kind e = first_fails _ _ (base_now S q (call t q)) c e

  pub wanter_base : base_now S q (call t q) ≢ c → wanter S t c q ≡ 0
  unfolding wanter
  wanter_base e = second_fails (kind_now S q (call t q)) modlock _ _ e

  wanter_small : wanter S t c q ≤ 1
  unfolding wanter
  wanter_small = by_test (and (eqb (kind_now S q (call t q)) modlock) (eqb (base_now S q (call t q)) c)) (λ e. rw e (omega arith)) (λ e. rw e (omega arith))

-- what a step keeps of a base's words and notifiers, for its waiters
record Pressed (l n c o l' n' c' o' : ℕ) : Type 0 where
  to_modify : 1 ≤ l + c + o → 1 ≤ l' + c' + o'
  to_read : 1 ≤ l + n + o → 1 ≤ l' + n' + o'

module _ (S : Routines) (g : WellFormed S) (t u : List ℕ) (p b d : ℕ) (o : Consistent S t) (p_low : 1 ≤ p) (p_high : p ≤ S.N) (st : Step S p b t u d) where
  -- ---- how the two sums move

  notifier_else : (c q : ℕ) → 1 ≤ q → q ≢ p → notifier S u c q ≡ notifier S t c q
  unfolding notifier
  notifier_else c q lo ne = rw (st.call_else q lo ne, st.phase_else q lo ne)

  wanter_else : (c q : ℕ) → 1 ≤ q → q ≢ p → wanter S u c q ≡ wanter S t c q
  unfolding wanter
  wanter_else c q lo ne = rw (st.call_else q lo ne)

  notifiers_move : (c : ℕ) → notifiers S u c + notifier S t c p ≡ notifiers S t c + notifier S u c p
  unfolding notifiers
  notifiers_move c = sum_one S.N (notifier S t c) (notifier S u c) p p_low p_high (λ q lo hi ne. notifier_else c q lo ne)

  wanters_move : (c : ℕ) → wanters S u c + wanter S t c p ≡ wanters S t c + wanter S u c p
  unfolding wanters
  wanters_move c = sum_one S.N (wanter S t c) (wanter S u c) p p_low p_high (λ q lo hi ne. wanter_else c q lo ne)

  -- notifiers grow, but for the notifying step at its own base
  notifiers_elsewhere : (c : ℕ) → c ≢ b → notifiers S t c ≤ notifiers S u c
  notifiers_elsewhere c ne = omega (arith, notifiers_move c, notifier_base S t c p (λ e. ne (sym e ∙ sym st.at_base)))

  notifiers_here : phase t p ≢ 6 → notifiers S t b ≤ notifiers S u b
  notifiers_here n = omega (arith, notifiers_move b, notifier_phase S t b p n)

  -- who comes to phase 6 is a notifier
  notifies_here : phase u p ≡ 6 → call u p ≡ call t p → 1 ≤ notifiers S u b
  unfolding notifiers
  notifies_here six k = omega (arith, term_le S.N (notifier S u b) p p_low p_high, notifier_is S u b p six (ap (base_now S p) k ∙ sym st.at_base))

  wanters_elsewhere : (c : ℕ) → c ≢ b → wanters S t c ≤ wanters S u c
  wanters_elsewhere c ne = omega (arith, wanters_move c, wanter_base S t c p (λ e. ne (sym e ∙ sym st.at_base)))

  wanters_same : call u p ≡ call t p → wanters S u b ≡ wanters S t b
  unfolding wanter
  wanters_same k = omega (arith, wanters_move b, ap (λ z. cond {A = ℕ} (and (eqb (kind_now S p z) modlock) (eqb (base_now S p z) b)) 1 0) k)

  wants_here : kind_now S p (call t p) ≡ modlock → 1 ≤ wanters S t b
  unfolding wanters
  wants_here e = omega (arith, term_le S.N (wanter S t b) p p_low p_high, wanter_is S t b p e (sym st.at_base))

  mine : ProcessConsistent S p (call t p) (phase t p) (wake t p) (entry t p)
  mine = o.process p p_low p_high

  module _ (b_low : 1 ≤ b) (b_high : b ≤ S.B) where
    -- a modifier in phase 3 has the lock
    locked : phase t p ≡ 3 → wanter S t b p ≤ lock t b
    unfolding held
    locked z = elim (ℕ_discrete (kind_now S p (call t p)) modlock) [
      | yes e ↦ (let lt = at_call S p (call t p) (omega arith) in
          omega (
            arith,
            wanter_small S t b p,
            (lock_modifies (o.base b b_low b_high)).of p p_low p_high
                (ap (λ k. hold S p k b) (effective_also _ _ z) ∙ hold_here S p (call t p) b (sym (base_now_lem S p (call t p) lt) ∙ sym st.at_base) ∙ mark_modlock _ _ (sym (kind_now_lem S p (call t p) lt) ∙ e)),
          ))
      | no ne ↦ omega (arith, wanter_kind S t b p ne)
    ]

    pressed : Line p (kind_now S p (call t p)) (mark_now S p (call t p)) (words_at t b p) d (words_at u b p) → phase t p ≢ 6
        → Pressed (lock t b) (nomore t b) (count t b) (notifiers S t b) (lock u b) (nomore u b) (count u b) (notifiers S u b)
    unfolding words_at
    pressed (finished a r) n6 = let up = notifiers_here n6 in omega arith
    pressed (waiting a r) n6 = let up = notifiers_here n6 in omega arith
    pressed (stopped a r) n6 = let up = notifiers_here n6 in omega arith
    pressed (errs a1 a2 r) n6 = let up = notifiers_here n6 in omega arith
    pressed (takes_modlock a1 a2 a3 a4 r) n6 = let up = notifiers_here n6 in omega arith
    pressed (takes_readlock a1 a2 a3 a4 r) n6 = let up = notifiers_here n6 in omega arith
    pressed (misses a1 a2 a3 r) n6 = let up = notifiers_here n6 in omega arith
    pressed (unlocks a1 a2 r) n6 = let on = notifies_here r.phase_is r.call_is in omega arith
    pressed (decreases_last a1 a2 a3 r) n6 = let on = notifies_here r.phase_is r.call_is in omega arith
    pressed (decreases a1 a2 a3 r) n6 = let up = notifiers_here n6 in omega arith
    pressed (enlists r) n6 = let up = notifiers_here n6 in omega arith
    pressed (retakes_modlock a1 a2 a3 r) n6 = let up = notifiers_here n6 in omega arith
    pressed (retakes_readlock a1 a2 a3 r) n6 = let up = notifiers_here n6 in omega arith
    pressed (remisses_modlock a1 a2 r) n6 = let up = notifiers_here n6 in omega arith
    pressed (remisses_readlock a1 a2 r) n6 = let up = notifiers_here n6 in omega arith
    pressed (delists r) n6 = let up = notifiers_here n6 in omega arith
    pressed (switches r) n6 = let up = notifiers_here n6 in omega arith
    pressed (wakes a r) n6 = let up = notifiers_here n6 in omega arith
    pressed (notifies r) n6 = absurd (n6 r.at)

    switch_here : Line p (kind_now S p (call t p)) (mark_now S p (call t p)) (words_at t b p) d (words_at u b p)
        → nomore t b ≤ lock t b + count t b + wanters S t b → nomore t b ≤ 1 → nomore u b ≤ lock u b + count u b + wanters S u b
    unfolding words_at
    switch_here (finished a r) v sw = let w = wanters_same r.call_is in omega arith
    switch_here (waiting a r) v sw = let w = wanters_same r.call_is in omega arith
    switch_here (stopped a r) v sw = let w = wanters_same r.call_is in omega arith
    switch_here (errs a1 a2 r) v sw = let w = wanters_same r.call_is in omega arith
    switch_here (takes_modlock a1 a2 a3 a4 r) v sw = omega arith
    switch_here (takes_readlock a1 a2 a3 a4 r) v sw = omega arith
    switch_here (misses a1 a2 a3 r) v sw = let w = wanters_same r.call_is in omega arith
    switch_here (unlocks a1 a2 r) v sw = omega arith
    switch_here (decreases_last a1 a2 a3 r) v sw = omega arith
    switch_here (decreases a1 a2 a3 r) v sw = omega arith
    switch_here (enlists r) v sw = let w = wanters_same r.call_is in omega arith
    switch_here (retakes_modlock a1 a2 a3 r) v sw = let w = wanters_same r.call_is in omega arith
    switch_here (retakes_readlock a1 a2 a3 r) v sw = let w = wanters_same r.call_is in omega arith
    switch_here (remisses_modlock a1 a2 r) v sw = let w = wanters_same r.call_is in omega arith
    switch_here (remisses_readlock a1 a2 r) v sw = let w = wanters_same r.call_is in omega arith
    switch_here (delists r) v sw = omega (arith, wanters_move b, locked r.at)
    switch_here (switches r) v sw = omega (arith, wanters_same r.call_is, wants_here (mine.stands.switch_at r.at))
    switch_here (wakes a r) v sw = let w = wanters_same r.call_is in omega arith
    switch_here (notifies r) v sw = omega (arith, wanters_move b, wanter_kind S t b p (omega (arith, mine.stands.release_low r.at)))

  -- p itself, where it stands in phase 4 or 5 after the step
  record OwnWaiting : Type 0 where
    call_is : call u p ≡ call t p
    to_modify : kind_now S p (call t p) ≡ modlock → entry u p ≡ 1 → 1 ≤ lock u b + count u b + notifiers S u b
    to_read : phase u p ≡ 5 → kind_now S p (call t p) ≡ readlock → entry u p ≡ 1 → 1 ≤ lock u b + nomore u b + notifiers S u b

  abbrev PressedAt : ℕ → Type 0
  PressedAt c = Pressed (lock t c) (nomore t c) (count t c) (notifiers S t c) (lock u c) (nomore u c) (count u c) (notifiers S u c)

  pressed_elsewhere : (c : ℕ) → 1 ≤ c → c ≤ S.B → c ≢ b → PressedAt c
  pressed_elsewhere c lo hi ne =
      let far : c ≤ most_bases = omega (arith, g.few_bases) in
      omega (arith, st.lock_else c lo far ne, st.nomore_else c lo far ne, st.count_else c lo far ne, notifiers_elsewhere c ne)

  -- another process that stands on the list for c after the step stood there before it, and c is as hard pressed
  other : (c q : ℕ) → 1 ≤ q → q ≤ S.N → q ≢ p → base_now S q (call t q) ≡ c → 1 ≤ c → c ≤ S.B → entry u q ≡ 1 → (entry t q ≡ 1) × PressedAt c
  other c q lo hi ne at cl ch e = go (st.marks_else q lo ne)
    where
      go : MarksLine S p b t u q → (entry t q ≡ 1) × PressedAt c
      go (woken a f h i w e2) = absurd (omega arith)
      go (kept n w e2) = (
        sym e2 ∙ e,
        elim (ℕ_discrete c b) [
          | yes z ↦ rw z (pressed (rw z at cl) (rw z at ch) st.follows (λ six. n six hi (sym e2 ∙ e) (at ∙ z)))
          | no nz ↦ pressed_elsewhere c cl ch nz
        ],
      )

  module _ (wt : Waiting S t) where
    own_waiting : Line p (kind_now S p (call t p)) (mark_now S p (call t p)) (words_at t b p) d (words_at u b p) → 4 ≤ phase u p → phase u p ≤ 5 → OwnWaiting
    unfolding words_at
    own_waiting (waiting a r) lo hi = let up = notifiers_here (omega arith) in record {
      call_is = r.call_is;
      to_modify = λ k e. omega (arith, wt.for_modlock b p p_low p_high (sym st.at_base) k (omega arith) (omega arith) (omega arith));
      to_read = λ f k e. omega (arith, wt.for_readlock b p p_low p_high (sym st.at_base) k (omega arith) r.at);
    }
    own_waiting (remisses_modlock a1 a2 r) lo hi = record { call_is = r.call_is; to_modify = λ k e. omega arith; to_read = λ f k e. omega arith }
    own_waiting (remisses_readlock a1 a2 r) lo hi = record { call_is = r.call_is; to_modify = λ k e. omega arith; to_read = λ f k e. omega arith }
    own_waiting (switches r) lo hi = let up = notifiers_here (omega arith) in record {
      call_is = r.call_is;
      to_modify = λ k e. omega (arith, wt.for_modlock b p p_low p_high (sym st.at_base) k (omega arith) (omega arith) (omega arith));
      to_read = λ f k e. omega arith;
    }
    own_waiting (finished a r) lo hi = absurd (omega arith)
    own_waiting (stopped a r) lo hi = absurd (omega arith)
    own_waiting (errs a1 a2 r) lo hi = absurd (omega arith)
    own_waiting (takes_modlock a1 a2 a3 a4 r) lo hi = absurd (omega arith)
    own_waiting (takes_readlock a1 a2 a3 a4 r) lo hi = absurd (omega arith)
    own_waiting (misses a1 a2 a3 r) lo hi = absurd (omega arith)
    own_waiting (unlocks a1 a2 r) lo hi = absurd (omega arith)
    own_waiting (decreases_last a1 a2 a3 r) lo hi = absurd (omega arith)
    own_waiting (decreases a1 a2 a3 r) lo hi = absurd (omega arith)
    own_waiting (enlists r) lo hi = absurd (omega arith)
    own_waiting (retakes_modlock a1 a2 a3 r) lo hi = absurd (omega arith)
    own_waiting (retakes_readlock a1 a2 a3 r) lo hi = absurd (omega arith)
    own_waiting (delists r) lo hi = absurd (omega arith)
    own_waiting (wakes a r) lo hi = absurd (omega arith)
    own_waiting (notifies r) lo hi = absurd (omega arith)

    switch_kept : (c : ℕ) → 1 ≤ c → c ≤ S.B → nomore u c ≤ lock u c + count u c + wanters S u c
    switch_kept c lo hi = elim (ℕ_discrete c b) [
      | yes e ↦ (let bl : 1 ≤ b = rw e at lo in let bh : b ≤ S.B = rw e at hi in
          rw e (switch_here bl bh st.follows (wt.for_switch b bl bh) (o.base b bl bh).nomore_low))
      | no ne ↦ (let far : c ≤ most_bases = omega (arith, g.few_bases) in
          omega (arith, st.lock_else c lo far ne, st.nomore_else c lo far ne, st.count_else c lo far ne, wanters_elsewhere c ne, wt.for_switch c lo hi))
    ]

    modlock_kept : (c q : ℕ) → 1 ≤ q → q ≤ S.N → base_now S q (call u q) ≡ c → kind_now S q (call u q) ≡ modlock → entry u q ≡ 1 → 4 ≤ phase u q → phase u q ≤ 5 → 1 ≤ lock u c + count u c + notifiers S u c
    modlock_kept c q lo hi = elim (ℕ_discrete q p) [
      | yes z ↦ rw z (λ at k e a f. (let w = own_waiting st.follows a f in
          subst (λ x. 1 ≤ lock u x + count u x + notifiers S u x) (st.at_base ∙ ap (base_now S p) (sym w.call_is) ∙ at) (w.to_modify (ap (kind_now S p) (sym w.call_is) ∙ k) e)))
      | no nz ↦ rw (st.call_else q lo nz, st.phase_else q lo nz) (λ at k e a f.
          (let cn = call_now S g q (call t q) lo hi (at_call S q (call t q) (omega arith)) in
          let r = other c q lo hi nz at (omega arith) (omega arith) e in
          r.1.to_modify (wt.for_modlock c q lo hi at k r.0 a f)))
    ]

    readlock_kept : (c q : ℕ) → 1 ≤ q → q ≤ S.N → base_now S q (call u q) ≡ c → kind_now S q (call u q) ≡ readlock → entry u q ≡ 1 → phase u q ≡ 5 → 1 ≤ lock u c + nomore u c + notifiers S u c
    readlock_kept c q lo hi = elim (ℕ_discrete q p) [
      | yes z ↦ rw z (λ at k e f. (let w = own_waiting st.follows (omega arith) (omega arith) in
          subst (λ x. 1 ≤ lock u x + nomore u x + notifiers S u x) (st.at_base ∙ ap (base_now S p) (sym w.call_is) ∙ at) (w.to_read f (ap (kind_now S p) (sym w.call_is) ∙ k) e)))
      | no nz ↦ rw (st.call_else q lo nz, st.phase_else q lo nz) (λ at k e f.
          (let cn = call_now S g q (call t q) lo hi (at_call S q (call t q) (omega arith)) in
          let r = other c q lo hi nz at (omega arith) (omega arith) e in
          r.1.to_read (wt.for_readlock c q lo hi at k r.0 f)))
    ]

    -- so the step keeps all three
    pub step_waiting : Waiting S u
    step_waiting = record { for_modlock = modlock_kept; for_readlock = readlock_kept; for_switch = switch_kept }

-- nobody waits in the fresh table
pub fresh_waiting : (S : Routines) → Waiting S fresh
fresh_waiting S =
    let z = fresh_zero in
    record {
      for_modlock = λ b q lo hi at k e a f. absurd (omega (arith, z.phase_zero q));
      for_readlock = λ b q lo hi at k e f. absurd (omega (arith, z.phase_zero q));
      for_switch = λ b lo hi. omega (arith, z.nomore_zero b);
    }
