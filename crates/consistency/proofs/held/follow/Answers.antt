use native.Mathlib.Omega.{arith}
use native.Mathlib.Numerals.{add-one}
use mathlib.Core.Path.{◌≡◌, refl, sym, ap, ◌∙◌}
use mathlib.Core.Bool.{Bool, true, false}
use mathlib.Core.List.{List}
use Prim.Native.Nat.{ℕ, ◌+◌, ◌<◌}
use lib.ListN.{length}
use Rattle.std.specs.Prelude.{Option, Some, None, Ok, Err}
use Rattle.std.specs.Bool.{then_some}
use Rattle.routine.specs.declared.calls.Call.{Call}
use Rattle.routine.specs.Calls.{call_at}
use Rattle.routine.specs.First.{first_in, first_more, first_here, walk_stops, walk_ends}
use Rattle.consistency.specs.Following.{row_with, row_after, fine_in, fine_after, following, row_size}
use Rattle.consistency.proofs.held.follow.Goals as goal

none_is : (b : Bool) (x : List ℕ) → None ≡ then_some b x → b ≡ false
none_is true x e = cc
none_is false x e = refl

some_is : (b : Bool) (x y : List ℕ) → Some y ≡ then_some b x → (b ≡ true) × (y ≡ x)
some_is true x y e = (refl, cc)
some_is false x y e = (cc, cc)

-- the walk has come to call j
module _ (f row : List ℕ) (p j k : ℕ) (r : row ≡ row_after f p j) (w : first_in (fine_after f p) j k ≡ first_in (fine_after f p) 0 k) where
  module _ (h : j < k) (o : Option Call) (e : o ≡ call_at f p j) where
    stops : fine_in row o ≡ false → Err row ≡ following f p k
    unfolding following fine_after
    stops g =
        let d : fine_in (row_after f p j) (call_at f p j) ≡ false = rw (← r, ← e) g in
        simp (walk_stops (fine_after f p) 0 j k w h d, sym w ∙ first_here (fine_after f p) j k h d, r)

    row_next : row_with row o ≡ row_after f p (j + 1)
    unfolding row_after
    row_next = rw (add-one j, r, e) refl

    walk_next : fine_in row o ≡ true → first_in (fine_after f p) (j + 1) k ≡ first_in (fine_after f p) 0 k
    unfolding fine_after
    walk_next g = let d : fine_in (row_after f p j) (call_at f p j) ≡ true = rw (← r, ← e) g in sym (first_more (fine_after f p) j k h d) ∙ w

  ends : j ≡ k → Ok row ≡ following f p k
  unfolding following
  ends e = simp (walk_ends (fine_after f p) 0 j k w e, r, e)

pub loop-j-init : goal.loop-j-init
unfolding row_after
loop-j-init c = (refl, refl, refl)

pub returns-in_default : goal.returns-in_default
returns-in_default c = stops _ _ _ _ _ c.loop-j.invariant.1 c.loop-j.invariant.2 c.loop-j-test.true _ c.call_at.ensures (none_is _ _ c.in_default.ensures)

pub loop-j-preserved : goal.loop-j-preserved
loop-j-preserved c =
    let l = c.loop-j in
    let s = some_is _ _ _ c.in-Some.ensures in
    let r = s.1 ∙ row_next _ _ _ _ _ l.invariant.1 l.invariant.2 c.loop-j-test.true _ c.call_at.ensures in
    (ap length r ∙ row_size _ _ _, r, walk_next _ _ _ _ _ l.invariant.1 l.invariant.2 c.loop-j-test.true _ c.call_at.ensures s.0)

pub returns : goal.returns
returns c = ends _ _ _ _ _ c.loop-j.invariant.1 c.loop-j.invariant.2 (omega arith)
