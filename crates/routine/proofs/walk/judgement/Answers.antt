-- The walk has found nothing before place k of routine p, and the row is what p holds there.
use mathlib.Core.Path.{◌≡◌, refl, sym, ap, ◌∙◌}
use mathlib.Core.Bool.{true}
use Prim.Native.Nat.{◌+◌, ◌≤◌, ◌<◌}
use native.Mathlib.Omega.{arith}
use Rattle.std.specs.Prelude.{Some, IsOkAnd}
use Rattle.routine.specs.Limits.{most_bases}
use Rattle.routine.specs.First.{first_in, first_more}
use Rattle.std.proofs.lemmas.Option.{same_Some}
use Rattle.routine.specs.Refusal.{unless_none, unless_some}
use Rattle.routine.specs.Routines.{routines}
use Rattle.routine.specs.Calls.{call_of, calls_are, call_is}
use Rattle.routine.specs.Rows.{row_start, row_more}
use Rattle.routine.specs.Judging.{place_good, failing_place, routine_passes, failing_block}
use Rattle.routine.specs.Kind.{kind_number}
use Rattle.routine.proofs.Holding.{kind_now_lem, kind_known, is_ok}
use Rattle.routine.proofs.Walking.{held_is, row_call, row_end, place_call, place_end, stops, goes_on, ends}
use Rattle.routine.proofs.walk.judgement.Goals as goal
use Rattle.routine.proofs.walk.judgement.Goals.{After-call_at, After-unwrap-call, After-try_from, After-call_good, After-calls_in-calls, After-nothing_held, In-loop-k}

-- routine p stands in the file, and the code's number of calls is its
own : (c : After-calls_in-calls) → (1 ≤ c.walk.p) × (c.walk.p ≤ (routines c.args.file.bytes.now).N) × (c.calls_in-calls.result ≡ (routines c.args.file.bytes.now).calls c.walk.p) × ((routines c.args.file.bytes.now).calls c.walk.p ≤ 32)
own c =
    let hi : c.walk.p ≤ (routines c.args.file.bytes.now).N = omega (arith, c.processes-p-end.ensures) in
    (c.walk.invariant.0, hi, c.calls_in-calls.ensures ∙ calls_are _ _ c.walk.invariant.0 hi, c.args.file.formed.few_calls _ c.walk.invariant.0 hi)

inside : (c : In-loop-k) → c.loop-k.k < (routines c.args.file.bytes.now).calls c.walk.p
inside c = let o = own (goal.at.In-loop-k c).After-calls_in-calls in omega arith

-- the call that the code looks at is call k, and its base is one of the sixteen
found : (c : After-call_at) → c.call_at.result ≡ Some (call_of ((routines c.args.file.bytes.now).kind c.walk.p c.loop-k.k) ((routines c.args.file.bytes.now).base c.walk.p c.loop-k.k))
found c =
    let o = own (goal.at.After-call_at c).After-calls_in-calls in
    c.call_at.ensures ∙ call_is _ _ _ o.0 o.1 (inside (goal.at.After-call_at c).In-loop-k) o.3

the : (c : After-unwrap-call) → c.unwrap-call.result ≡ call_of ((routines c.args.file.bytes.now).kind c.walk.p c.loop-k.k) ((routines c.args.file.bytes.now).base c.walk.p c.loop-k.k)
the c = same_Some _ _ (sym c.unwrap-call.ensures ∙ found (goal.at.After-unwrap-call c).After-call_at)

base_in : (c : After-unwrap-call) → (1 ≤ (routines c.args.file.bytes.now).base c.walk.p c.loop-k.k) × ((routines c.args.file.bytes.now).base c.walk.p c.loop-k.k ≤ most_bases)
base_in c =
    let o = own (goal.at.After-unwrap-call c).After-calls_in-calls in
    let w = c.args.file.formed in
    let i = inside (goal.at.After-unwrap-call c).In-loop-k in
    (w.base_low _ _ o.0 o.1 i, omega (arith, w.base_high _ _ o.0 o.1 i, w.few_bases))

kind : (c : After-try_from) → IsOkAnd c.try_from.result (λ kind. kind_number kind ≡ c.unwrap-call.result.kind)
kind c =
    let o = own (goal.at.After-try_from c).After-calls_in-calls in
    let i = inside (goal.at.After-try_from c).In-loop-k in
    let n = ap (λ c. c.kind) (the (goal.at.After-try_from c).After-unwrap-call) ∙ sym (kind_now_lem _ _ _ i) in
    kind_known _ c.args.file.formed _ _ _ o.0 o.1 i n _ c.try_from.ensures

pub unwrap-kind-requires : goal.unwrap-kind-requires
unwrap-kind-requires c = is_ok _ _ (kind (goal.at.unwrap-kind-requires c).After-try_from)

-- what the code says of the call is what the judge says of place k
judged : (c : After-call_good) → c.call_good.result ≡ place_good (routines c.args.file.bytes.now) c.walk.p c.loop-k.k
judged c =
    let u = (goal.at.After-call_good c).After-unwrap-call in
    let b = base_in u in
    let k = rw c.unwrap-kind.ensures at (kind (goal.at.After-call_good c).After-try_from) in
    (rw (k, the u) at c.call_good.ensures) ∙ row_call _ _ _ _ c.loop-k.invariant.1 _ _ b.0 b.1 ∙ sym (place_call _ _ _ (inside (goal.at.After-call_good c).In-loop-k))

-- and at the end, of place n + 1
judged_end : (c : After-nothing_held) → c.nothing_held.result ≡ place_good (routines c.args.file.bytes.now) c.walk.p c.loop-k.k
judged_end c =
    let o = own (goal.at.After-nothing_held c).After-calls_in-calls in
    held_is _ _ c.nothing_held.ensures ∙ row_end _ _ _ _ c.loop-k.invariant.1 ∙ sym (place_end _ _ _ (omega arith))

pub loop-k-init : goal.loop-k-init
unfolding failing_place
loop-k-init c = (c.walk.invariant.1, row_start _ _, refl)

pub unwrap-call-requires : goal.unwrap-call-requires
unwrap-call-requires c = rw (found c) refl

pub loop-k-preserved : goal.loop-k-preserved
loop-k-preserved c =
    let l = c.loop-k in
    let u = (goal.at.loop-k-preserved c).After-unwrap-call in
    let b = base_in u in
    let g = sym (judged (goal.at.loop-k-preserved c).After-call_good) ∙ c.if-not-call_good.false in
    let i = inside (goal.at.loop-k-preserved c).In-loop-k in
    let m = rw (the u) at c.marked-next.ensures in
    (l.invariant.0, rw m (row_more _ _ _ _ b.0 b.1 l.invariant.1), sym (first_more _ l.k _ (omega arith) g) ∙ l.invariant.2)

pub overflow_add-place-then-not-nothing_held : goal.overflow_add-place-then-not-nothing_held
overflow_add-place-then-not-nothing_held c = let o = own (goal.at.overflow_add-place-then-not-nothing_held c).After-calls_in-calls in omega arith

-- a routine that fails nowhere
passed : (c : After-nothing_held) → c.nothing_held.result ≡ true → first_in (routine_passes (routines c.args.file.bytes.now)) (c.walk.p + 1) ((routines c.args.file.bytes.now).N + 1) ≡ failing_block (routines c.args.file.bytes.now)
passed c t =
    let o = own (goal.at.After-nothing_held c).After-calls_in-calls in
    let l = c.loop-k in
    goes_on _ _ l.k l.invariant.2 c.walk.invariant.2 o.1 (omega arith) (sym (judged_end c) ∙ t)

pub walk-preserved : goal.walk-preserved
walk-preserved c = (omega arith, c.loop-k.invariant.0, passed (goal.at.walk-preserved c).After-nothing_held c.if-not-nothing_held.false)

pub returns-else-not-nothing_held : goal.returns-else-not-nothing_held
returns-else-not-nothing_held c =
    let o = own (goal.at.returns-else-not-nothing_held c).After-calls_in-calls in
    let p = passed (goal.at.returns-else-not-nothing_held c).After-nothing_held c.if-not-nothing_held.false in
    c.loop-k.invariant.0 ∙ sym (unless_none _ _ (ends _ (c.walk.p + 1) p (omega (arith, o.1, c.processes-p-end.ensures))))

pub returns-then-not-call_good : goal.returns-then-not-call_good
returns-then-not-call_good c =
    let o = own (goal.at.returns-then-not-call_good c).After-calls_in-calls in
    let l = c.loop-k in
    let f = sym (judged (goal.at.returns-then-not-call_good c).After-call_good) ∙ c.if-not-call_good.true in
    sym (unless_some _ _ _ (stops _ _ l.k l.invariant.2 c.walk.invariant.2 o.1 (omega arith) f))

pub returns-then-not-nothing_held : goal.returns-then-not-nothing_held
returns-then-not-nothing_held c =
    let o = own (goal.at.returns-then-not-nothing_held c).After-calls_in-calls in
    let l = c.loop-k in
    let f = sym (judged_end (goal.at.returns-then-not-nothing_held c).After-nothing_held) ∙ c.if-not-nothing_held.true in
    let e : l.k ≡ c.calls_in-calls.result = omega arith in
    rw (← e) (sym (unless_some _ _ _ (stops _ _ l.k l.invariant.2 c.walk.invariant.2 o.1 (omega arith) f)))
