-- A file that passes: no logic error, a modifier is alone, and somebody can always move.
-- If nobody moved, each awaited base would be held, by a process that awaits a higher base; but the bases end at B.
use mathlib.Core.Path.{◌≡◌, refl, sym, ap, ap₂, ◌∙◌}
use mathlib.Core.Logic.{◌≢◌, ◌⊎◌, inl, inr}
use mathlib.Core.Bool.{true}
use mathlib.Core.List.{List}
use Prim.Native.Nat.{ℕ, zero, suc, ◌+◌, ◌≤◌, ◌<◌}
use native.Mathlib.Omega.{arith}
use native.Mathlib.Decide.{ℕ_discrete, dec_le}
use lib.ListN.{length}
use Rattle.routine.specs.Test.{clash}
use Rattle.routine.specs.Limits.{table_words}
use Rattle.routine.specs.Routines.{Routines, modlock, readlock, free, modifies, reads, fine, hold, kind_now, base_now}
use Rattle.routine.specs.Rules.{WellFormed, KeepsRules}
use Rattle.routine.proofs.Balance.{never_error}
use Rattle.routine.proofs.Sums.{sum_zero, sum_some, Some}
use Rattle.routine.proofs.Holding.{kind_now_lem, base_now_lem, at_call, call_now}
use Rattle.rules.specs.Table.{lock, count, call, phase, entry}
use Rattle.rules.specs.Consistent.{mark_now, held, one_if_reads, readers}
use Rattle.rules.specs.Standing.{standing_of}
use Rattle.rules.proofs.Holding.{mark_now_lem, effective_else, none_reads, held_small}
use Rattle.rules.proofs.Sentences.{Consistent}
use Rattle.rules.proofs.Bounds.{reader_counted, finished_phase}
use Rattle.promise.specs.Waiting.{notifier, notifiers, wanter, wanters, Waiting}
use Rattle.promise.proofs.Places.{at_take}
use Rattle.promise.proofs.ConsistencyKept.{lock_modifies}
use Rattle.promise.proofs.WaitingKept.{notifier_phase, wanter_kind, wanter_base}
use Rattle.promise.proofs.Moving.{IdleBecause, is_finished, is_stopped, is_waiting, idle_because}
use Rattle.promise.proofs.Standings.{AllFinished, NobodyMoves, stuck_standing}

-- an unfinished process that is enlisted and waits
record Waits (S : Routines) (t : List ℕ) (p : ℕ) : Type 0 where
  five : phase t p ≡ 5
  enlisted : entry t p ≡ 1
  low : modlock ≤ kind_now S p (call t p)
  high : kind_now S p (call t p) ≤ readlock

module _ (S : Routines) (g : WellFormed S) (t : List ℕ) (o : Consistent S t) where
  -- a modifier is alone: LOCK names it, so nobody else modifies, and COUNT is 0, so nobody reads
  pub modifier_alone : (b p q : ℕ) → 1 ≤ b → b ≤ S.B → 1 ≤ p → p ≤ S.N → 1 ≤ q → q ≤ S.N → held S t p b ≡ modifies → q ≢ p → held S t q b ≡ free
  modifier_alone b p q bl bh pl ph ql qh h ne =
      let m = lock_modifies (o.base b bl bh) in
      let l : lock t b ≡ p = m.of p pl ph h in
      let c : count t b ≡ 0 = (o.base b bl bh).not_both (omega arith) in
      let s = held_small S t q b in
      elim (ℕ_discrete (held S t q b) modifies) [
        | yes e ↦ absurd (ne (sym (m.of q ql qh e) ∙ l))
        | no n ↦ elim (ℕ_discrete (held S t q b) reads) [
          | yes e ↦ absurd (omega (arith, reader_counted S g t o b bl bh q ql qh e))
          | no k ↦ omega arith
        ]
      ]

  -- a base that is locked or read has a holder
  holder : (c : ℕ) → 1 ≤ c → c ≤ S.B → 1 ≤ lock t c + count t c → Some S.N (λ q. held S t q c ≢ free)
  unfolding readers
  holder c lo hi h =
      let m = lock_modifies (o.base c lo hi) in
      elim (ℕ_discrete (lock t c) 0) [
        | no nz ↦ record { at = lock t c; low = omega arith; high = m.low; holds = λ z. omega (arith, m.by (lock t c) (omega arith) m.low refl) }
        | yes z ↦ (let r = sum_some S.N (λ q. one_if_reads (held S t q c)) (omega (arith, (o.base c lo hi).count_readers)) in
            record { at = r.at; low = r.low; high = r.high; holds = λ e. omega (arith, r.holds, none_reads (held S t r.at c) (omega arith)) })
      ]

module _ (S : Routines) (g : WellFormed S) (js : KeepsRules S) where
  -- no current call of a passing file is a logic error
  pub no_error_now : (p k : ℕ) → 1 ≤ p → p ≤ S.N → kind_now S p k ≢ 0 → fine (kind_now S p k) (mark_now S p k) ≡ true
  no_error_now p k lo hi n = let lt = at_call S p k n in ap₂ fine (kind_now_lem S p k lt) (mark_now_lem S p k lt) ∙ never_error S g js p lo hi k lt

  module _ (t : List ℕ) (o : Consistent S t) where
    -- nobody stops
    pub none_stopped : (p : ℕ) → 1 ≤ p → p ≤ S.N → phase t p ≢ 7
    none_stopped p lo hi e =
        let s = (o.process p lo hi).stands in
        clash (no_error_now p (call t p) lo hi (λ z. omega (arith, s.stopped_low e))) (s.stopped_error e)

    -- a finished process holds nothing
    finished_free : (p : ℕ) → 1 ≤ p → p ≤ S.N → call t p ≡ S.calls p → (c : ℕ) → 1 ≤ c → c ≤ S.B → held S t p c ≡ free
    unfolding held
    finished_free p lo hi e c cl ch =
        let z = finished_phase S g t o p lo hi (omega arith) in
        ap (λ j. hold S p j c) (effective_else _ _ (omega arith) (omega arith) ∙ e) ∙ js.end p lo hi c cl (omega (arith, g.few_bases))

    -- a waiting process holds lower bases only
    holds_lower : (p : ℕ) → 1 ≤ p → p ≤ S.N → Waits S t p → (c : ℕ) → 1 ≤ c → c ≤ S.B → held S t p c ≢ free → c < base_now S p (call t p)
    unfolding held
    holds_lower p lo hi w c cl ch h =
        let lt : call t p < S.calls p = at_call S p (call t p) (omega arith) in
        let k : S.kind p (call t p) ≤ readlock = omega (arith, kind_now_lem S p (call t p) lt) in
        omega (arith, base_now_lem S p (call t p) lt, js.takes p (call t p) lo hi lt k c cl (omega (arith, g.few_bases)) (λ z. h (ap (λ j. hold S p j c) (effective_else _ _ (omega arith) (omega arith)) ∙ z)))

    module _ (wt : Waiting S t) (len : length t ≡ table_words) (nobody : NobodyMoves S t) where
      -- who does not move is finished or waits
      idle : (p : ℕ) → 1 ≤ p → p ≤ S.N → (call t p ≡ S.calls p) ⊎ Waits S t p
      idle p lo hi = go (idle_because S g t len o p lo hi (nobody p lo hi))
        where
          go : IdleBecause S t p → (call t p ≡ S.calls p) ⊎ Waits S t p
          go (is_finished e) = inl e
          go (is_stopped e) = absurd (none_stopped p lo hi e)
          go (is_waiting e w) =
              let a = at_take (o.process p lo hi).stands (omega arith) (omega arith) in
              inr (record { five = e; enlisted = omega (arith, (o.process p lo hi).marks.one (omega arith) (omega arith)); low = a.low; high = a.high })

      waits_unless : (p : ℕ) → 1 ≤ p → p ≤ S.N → call t p < S.calls p → Waits S t p
      waits_unless p lo hi lt = elim (idle p lo hi) [ inl e ↦ absurd (omega arith) | inr w ↦ w ]

      no_notifiers : (c : ℕ) → notifiers S t c ≡ 0
      unfolding notifiers
      no_notifiers c = sum_zero S.N (notifier S t c) (λ q lo hi. notifier_phase S t c q (elim (idle q lo hi) [
        | inl e ↦ omega (arith, finished_phase S g t o q lo hi (omega arith))
        | inr w ↦ omega arith
      ]))

      -- what a waiting modifier waits for is held
      modlock_held : (c q : ℕ) → 1 ≤ q → q ≤ S.N → kind_now S q (call t q) ≡ modlock → base_now S q (call t q) ≡ c → 1 ≤ lock t c + count t c
      modlock_held c q lo hi k e =
          let w = waits_unless q lo hi (at_call S q (call t q) (omega arith)) in
          omega (arith, wt.for_modlock c q lo hi e k w.enlisted (omega arith) (omega arith), no_notifiers c)

      -- a base that somebody wants to modify is held
      wanted_held : (c : ℕ) → 1 ≤ wanters S t c → 1 ≤ lock t c + count t c
      unfolding wanters
      wanted_held c h =
          let r = sum_some S.N (wanter S t c) h in
          elim (ℕ_discrete (kind_now S r.at (call t r.at)) modlock) [
            | no n ↦ absurd (omega (arith, r.holds, wanter_kind S t c r.at n))
            | yes k ↦ elim (ℕ_discrete (base_now S r.at (call t r.at)) c) [
              | no n ↦ absurd (omega (arith, r.holds, wanter_base S t c r.at n))
              | yes e ↦ modlock_held c r.at r.low r.high k e
            ]
          ]

      -- what anybody waits for is held
      awaited_held : (p : ℕ) → 1 ≤ p → p ≤ S.N → Waits S t p → 1 ≤ lock t (base_now S p (call t p)) + count t (base_now S p (call t p))
      awaited_held p lo hi w =
          let c : ℕ = base_now S p (call t p) in
          elim (ℕ_discrete (kind_now S p (call t p)) modlock) [
            | yes k ↦ modlock_held c p lo hi k refl
            | no nk ↦ elim (dec_le 1 (lock t c + count t c)) [
              | yes h ↦ h
              | no h ↦ (let cn = call_now S g p (call t p) lo hi (at_call S p (call t p) (omega arith)) in
                  wanted_held c (omega (arith, wt.for_readlock c p lo hi refl (omega arith) w.enlisted w.five, no_notifiers c, wt.for_switch c cn.base_low cn.base_high)))
            ]
          ]

      -- its holder waits too, for a higher base
      climb : (left p : ℕ) → 1 ≤ p → p ≤ S.N → Waits S t p → S.B < base_now S p (call t p) + left → ⊥
      climb zero p lo hi w h = omega (arith, call_now S g p (call t p) lo hi (at_call S p (call t p) (omega arith)))
      climb (suc left) p lo hi w h =
          let cn = call_now S g p (call t p) lo hi (at_call S p (call t p) (omega arith)) in
          let r = holder S g t o (base_now S p (call t p)) cn.base_low cn.base_high (awaited_held p lo hi w) in
          elim (idle r.at r.low r.high) [
            | inl e ↦ r.holds (finished_free r.at r.low r.high e (base_now S p (call t p)) cn.base_low cn.base_high)
            | inr v ↦ climb left r.at r.low r.high v (omega (arith, holds_lower r.at r.low r.high v (base_now S p (call t p)) cn.base_low cn.base_high r.holds))
          ]

      -- so nobody waits
      nobody_waits : AllFinished S t
      nobody_waits p lo hi = elim (idle p lo hi) [ inl e ↦ e | inr w ↦ absurd (climb (suc S.B) p lo hi w (omega arith)) ]

    -- where nobody would move, every routine has finished: the standing is never 2
    pub never_stuck : length t ≡ table_words → Waiting S t → standing_of S t ≢ 2
    never_stuck len wt e = let m = stuck_standing S t e in m.0 (nobody_waits wt len m.1)
