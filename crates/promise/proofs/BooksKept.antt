-- Every turn keeps the books, and all calls together are worth (5N + 1) R: so many turns move, and no more.
use mathlib.Core.Path.{◌≡◌, ap, ◌∙◌}
use mathlib.Core.Logic.{◌≢◌}
use mathlib.Core.List.{List}
use Prim.Native.Nat.{ℕ, zero, suc, ◌+◌, ◌*◌, ◌≤◌, ◌<◌}
use native.Mathlib.Omega.{arith}
use native.Mathlib.Numerals.{add-one}
use native.Mathlib.Decide.{ℕ_discrete, dec_le, le_ind}
use borrow.Author.Tests.{le-leb, lt-leb}
use Rattle.routine.specs.Test.{clash, is_within, below_within, above_within}
use Rattle.routine.specs.Sum.{sum_below, sum}
use Rattle.routine.specs.Routines.{Routines, modlock, readlock, unlock, decrease, kind_now}
use Rattle.routine.specs.Rules.{WellFormed, KeepsRules, one_if_take, one_if_release, takes_in, releases_in}
use Rattle.routine.specs.Judging.{is_take}
use Rattle.routine.proofs.Balance.{balanced}
use Rattle.routine.proofs.Sums.{sum_one, sum_zero, sum_le, sum_mul, sum_rise_but}
use Rattle.routine.proofs.Holding.{kind_now_lem, at_call}
use Rattle.rules.specs.Table.{call, phase, wake, entry, words_at, fresh}
use Rattle.rules.specs.Consistent.{mark_now}
use Rattle.rules.proofs.Sentences.{Stands, ProcessConsistent, Consistent}
use Rattle.promise.specs.Play.{releases}
use Rattle.promise.specs.Books.{worth, worth_in, progress, paid, Balanced}
use Rattle.promise.proofs.Lines.{Line, Leaves, finished, waiting, stopped, errs, takes_modlock, takes_readlock, misses, unlocks, decreases_last, decreases, enlists, retakes_modlock, retakes_readlock, remisses_modlock, remisses_readlock, delists, switches, wakes, notifies}
use Rattle.promise.proofs.Steps.{MarksLine, kept, woken, Step}
use Rattle.promise.proofs.Places.{at_take}
use Rattle.promise.proofs.FreshTable.{fresh_zero}
use Rattle.promise.proofs.NeverStuck.{no_error_now}

worth_take : (n kind : ℕ) → kind ≤ readlock → worth n kind ≡ 4
unfolding worth is_take
worth_take n kind h = rw (le-leb kind readlock h)

worth_release : (n kind : ℕ) → unlock ≤ kind → 1 ≤ n → worth n kind + 3 ≡ 5 * n
unfolding worth is_take
worth_release n kind h l = rw (lt-leb kind readlock h) (omega arith)

-- ---- one step

module _ (S : Routines) (g : WellFormed S) (js : KeepsRules S) (t u : List ℕ) (p b d : ℕ) (o : Consistent S t) (p_low : 1 ≤ p) (p_high : p ≤ S.N) (st : Step S p b t u d) where
  mine : ProcessConsistent S p (call t p) (phase t p) (wake t p) (entry t p)
  mine = o.process p p_low p_high

  paid_else : (q : ℕ) → 1 ≤ q → q ≢ p → paid S u q ≡ paid S t q
  unfolding paid
  paid_else q lo ne = rw (st.call_else q lo ne, st.phase_else q lo ne)

  paid_move : sum S.N (paid S u) + paid S t p ≡ sum S.N (paid S t) + paid S u p
  paid_move = sum_one S.N (paid S t) (paid S u) p p_low p_high (λ q lo hi ne. paid_else q lo ne)

  -- but for a notify, only p's own WAKE may change
  wake_move : phase t p ≢ 6 → sum S.N (wake u) + wake t p ≡ sum S.N (wake t) + wake u p
  wake_move n6 = sum_one S.N (wake t) (wake u) p p_low p_high (λ q lo hi ne. go (st.marks_else q lo ne))
    where
      go : {q : ℕ} → MarksLine S p b t u q → wake u q ≡ wake t q
      go (kept n w e) = w
      go (woken a c f h w e) = absurd (n6 a)

  -- a notify wakes at most every other process
  wake_rise : wake u p ≤ wake t p → sum S.N (wake u) + 1 ≤ sum S.N (wake t) + S.N
  wake_rise h = sum_rise_but S.N (wake t) (wake u) p p_low p_high (λ q lo hi ne. go (st.marks_else q lo ne)) h
    where
      go : {q : ℕ} → MarksLine S p b t u q → wake u q ≤ wake t q + 1
      go (kept n w e) = omega arith
      go (woken a c f h w e) = omega arith

  -- p's own account, within a call and at its end
  same_call : call u p ≡ call t p → paid S u p + progress (phase t p) ≡ paid S t p + progress (phase u p)
  unfolding paid
  same_call k = omega (arith, ap (worth_in S p) k)

  next_call : call u p ≡ call t p + 1 → kind_now S p (call t p) ≢ 0 → phase u p ≡ 0 → paid S u p + progress (phase t p) ≡ paid S t p + worth S.N (kind_now S p (call t p))
  unfolding paid worth_in sum_below progress
  next_call k n z = omega (arith, ap (worth_in S p) (k ∙ add-one (call t p)), ap progress z, ap (worth S.N) (kind_now_lem S p (call t p) (at_call S p (call t p) n)))

  -- what the step adds to the moves and to the wakeups, it adds to what is paid
  abbrev Account : Type 0
  Account = d + 5 * sum S.N (wake u) + sum S.N (paid S t) ≤ 5 * sum S.N (wake t) + sum S.N (paid S u)

  -- a move within the current call, which costs one
  within_call : {ph ph' l n c wk en : ℕ} → Leaves (words_at t b p) d (words_at u b p) ph 1 l n c (call t p) ph' wk en → ph ≢ 6 → wk ≤ wake t p → progress ph + 1 + 5 * wk ≤ progress ph' + 5 * wake t p → Account
  unfolding words_at
  within_call r n6 w h = omega (arith, paid_move, wake_move (omega arith), same_call r.call_is, ap progress r.at, ap progress r.phase_is)

  -- a move that completes a take or a decrease
  ends_call : {ph l n c wk en : ℕ} → Leaves (words_at t b p) d (words_at u b p) ph 1 l n c (call t p + 1) 0 wk en → ph ≢ 6 → kind_now S p (call t p) ≢ 0 → wk ≤ wake t p → progress ph + 1 ≤ worth S.N (kind_now S p (call t p)) → Account
  unfolding words_at
  ends_call r n6 k w h = omega (arith, paid_move, wake_move (omega arith), next_call r.call_is k r.phase_is, ap progress r.at)

  -- an idle turn
  at_rest : {ph : ℕ} → Leaves (words_at t b p) d (words_at u b p) ph 0 (words_at t b p).lock (words_at t b p).nomore (words_at t b p).count (call t p) (phase t p) (wake t p) (entry t p) → phase t p ≢ 6 → Account
  unfolding words_at
  at_rest r n6 = omega (arith, paid_move, wake_move n6, same_call r.call_is, ap progress r.phase_is)

  account : Line p (kind_now S p (call t p)) (mark_now S p (call t p)) (words_at t b p) d (words_at u b p) → Account
  unfolding words_at progress
  account (finished a r) = at_rest r (omega arith)
  account (waiting a r) = at_rest r (omega arith)
  account (stopped a r) = at_rest r (omega arith)
  account (errs a c r) = absurd (clash (no_error_now S g js p (call t p) p_low p_high a) c)
  account (takes_modlock a c e f r) = ends_call r (omega arith) (omega arith) (omega arith) (omega (arith, worth_take S.N (kind_now S p (call t p)) (omega arith)))
  account (takes_readlock a c e f r) = ends_call r (omega arith) (omega arith) (omega arith) (omega (arith, worth_take S.N (kind_now S p (call t p)) (omega arith)))
  account (misses a c e r) = within_call r (omega arith) (omega arith) (omega arith)
  account (unlocks a c r) = within_call r (omega arith) (omega arith) (omega arith)
  account (decreases_last a c e r) = within_call r (omega arith) (omega arith) (omega arith)
  account (decreases a c e r) = ends_call r (omega arith) (omega arith) (omega arith) (omega (arith, worth_release S.N (kind_now S p (call t p)) (omega arith) g.some_process, g.some_process))
  account (enlists r) = within_call r (omega arith) (omega arith) (omega arith)
  account (retakes_modlock a c e r) = within_call r (omega arith) (omega arith) (omega arith)
  account (retakes_readlock a c e r) = within_call r (omega arith) (omega arith) (omega arith)
  account (remisses_modlock a c r) = within_call r (omega arith) (omega arith) (omega arith)
  account (remisses_readlock a c r) = within_call r (omega arith) (omega arith) (omega arith)
  account (delists r) = (let k = at_take mine.stands (omega arith) (omega arith) in ends_call r (omega arith) (omega arith) (omega arith) (omega (arith, worth_take S.N (kind_now S p (call t p)) (omega arith))))
  account (switches r) = within_call r (omega arith) (omega arith) (omega arith)
  account (wakes a r) = within_call r (omega arith) (omega arith) (omega arith)
  account (notifies r) = (let l = mine.stands.release_low r.at in
      omega (arith, paid_move, wake_rise (omega arith), next_call r.call_is (omega arith) r.phase_is, worth_release S.N (kind_now S p (call t p)) l g.some_process, ap progress r.at))

  -- so a step that moves pays one
  pub step_balanced : (m : ℕ) → Balanced S t m → Balanced S u (m + d)
  step_balanced m bal = record { balance = omega (arith, bal.balance, account st.follows) }

pub fresh_balanced : (S : Routines) → Balanced S fresh 0
fresh_balanced S = record { balance = omega (arith, sum_zero S.N (wake fresh) (λ q lo hi. fresh_zero.wake_zero q)) }

-- ---- what the whole file is worth

take_counts : (kind : ℕ) → modlock ≤ kind → kind ≤ readlock → (one_if_take kind ≡ 1) × (one_if_release kind ≡ 0)
unfolding one_if_take one_if_release
take_counts kind l h = (rw (is_within modlock readlock kind l h), rw (below_within unlock decrease kind (omega arith)))

release_counts : (kind : ℕ) → unlock ≤ kind → kind ≤ decrease → (one_if_take kind ≡ 0) × (one_if_release kind ≡ 1)
unfolding one_if_take one_if_release
release_counts kind l h = (rw (above_within modlock readlock kind (omega arith)), rw (is_within unlock decrease kind l h))

progress_small : (ph : ℕ) → progress ph ≤ 4
unfolding progress
progress_small zero = omega arith
progress_small (suc zero) = omega arith
progress_small (suc (suc zero)) = omega arith
progress_small (suc (suc (suc zero))) = omega arith
progress_small (suc (suc (suc (suc zero)))) = omega arith
progress_small (suc (suc (suc (suc (suc zero))))) = omega arith
progress_small (suc (suc (suc (suc (suc (suc zero)))))) = omega arith
progress_small (suc (suc (suc (suc (suc (suc (suc k))))))) = omega arith

-- progress in a call is at most what the call is worth
progress_worth : (n kind old ph : ℕ) → 1 ≤ n → ph ≤ 7 → Stands kind old ph → progress ph ≤ worth n kind
unfolding progress
progress_worth n kind old ph l h s = elim (ℕ_discrete ph 0) [
  | yes z ↦ omega (arith, ap progress z)
  | no n0 ↦ elim (dec_le ph 5) [
    | yes five ↦ omega (arith, progress_small ph, worth_take n kind (s.take_high (omega arith) five))
    | no n5 ↦ elim (ℕ_discrete ph 6) [
      | yes six ↦ omega (arith, ap progress six, worth_release n kind (s.release_low six) l)
      | no n6 ↦ (let seven : ph ≡ 7 = omega arith in omega (arith, ap progress seven))
    ]
  ]
]

module _ (S : Routines) (g : WellFormed S) (js : KeepsRules S) (p : ℕ) (p_low : 1 ≤ p) (p_high : p ≤ S.N) where
  worth_counts : (k : ℕ) → k ≤ S.calls p → worth_in S p k + 3 * releases_in S p k ≡ 4 * takes_in S p k + 5 * (S.N * releases_in S p k)
  unfolding worth_in releases_in takes_in sum_below
  worth_counts zero h = omega arith
  worth_counts (suc k) h = elim (dec_le (S.kind p k) readlock) [
    | yes l ↦ (let r = take_counts (S.kind p k) (g.kind_low p k p_low p_high h) l in rw r.1 (omega (arith, worth_counts k (omega arith), worth_take S.N (S.kind p k) l, r.0)))
    | no l ↦ (let r = release_counts (S.kind p k) (omega arith) (g.kind_high p k p_low p_high h) in rw r.1 (omega (arith, worth_counts k (omega arith), worth_release S.N (S.kind p k) (omega arith) g.some_process, r.0)))
  ]

  -- a routine's takes are as many as its releases
  worth_routine : worth_in S p (S.calls p) ≡ (5 * S.N + 1) * releases_in S p (S.calls p)
  worth_routine = omega (arith, worth_counts (S.calls p) (omega arith), balanced S g js p p_low p_high)

  worth_grows : (k n : ℕ) → k ≤ n → worth_in S p k ≤ worth_in S p n
  unfolding worth_in sum_below
  worth_grows k n h = le_ind (λ m. worth_in S p k ≤ worth_in S p m) (omega arith) (λ m km ih. omega arith) n h

  paid_small : (t : List ℕ) → Consistent S t → paid S t p ≤ worth_in S p (S.calls p)
  unfolding paid worth_in sum_below progress
  paid_small t o =
      (let q = o.process p p_low p_high in
      let w = progress_worth S.N (kind_now S p (call t p)) (mark_now S p (call t p)) (phase t p) g.some_process q.phase_low q.stands in
      elim (dec_le (S.calls p) (call t p)) [
        | yes h ↦ omega (arith, ap progress (q.end_phase (omega (arith, q.call_low))), worth_grows (call t p) (S.calls p) q.call_low)
        | no h ↦ (let lt : call t p < S.calls p = omega arith in
            omega (arith, worth_grows (suc (call t p)) (S.calls p) lt, ap (worth S.N) (kind_now_lem S p (call t p) lt)))
      ])

-- what all processes have paid is at most what the file is worth: a take and its release together are worth 5N + 1
pub paid_total : (S : Routines) → WellFormed S → KeepsRules S → (t : List ℕ) → Consistent S t → sum S.N (paid S t) ≤ (5 * S.N + 1) * releases S
unfolding releases
paid_total S g js t o = omega (
  arith,
  sum_le S.N (λ p. (5 * S.N + 1) * releases_in S p (S.calls p)) (paid S t) (λ p lo hi. omega (arith, paid_small S g js p lo hi t o, worth_routine S g js p lo hi)),
  sum_mul S.N (5 * S.N + 1) (λ p. releases_in S p (S.calls p)),
)
