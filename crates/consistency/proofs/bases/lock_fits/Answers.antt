use mathlib.Core.Path.{◌≡◌, refl}
use native.Mathlib.Numerals.{add-one}
use mathlib.Core.Bool.{true, beq}
use lib.Dec.{eqb}
use lib.ListN.{length, get_or}
use mathlib.Core.List.{[]}
use Prim.Native.Nat.{ℕ, ◌+◌, ◌<◌}
use Rattle.std.specs.Prelude.{IsTrue, ◌↔◌, slice_index_or}
use Rattle.std.proofs.Common.{rules}
use borrow.Author.Tests.{le-leb, lt-leb}
use Rattle.routine.specs.Test.{and}
use Rattle.routine.specs.Routines.{modifies}
use Rattle.routine.specs.Rows.{mark_in}
use Rattle.consistency.specs.Holders.{holder, lock_fits_in}
use Rattle.consistency.proofs.Each.{from_0, holder_at}
use Rattle.consistency.proofs.bases.lock_fits.Goals as goal
use Rattle.consistency.proofs.bases.lock_fits.Goals.{After-all}

told : (c : After-all) → IsTrue c.all.result ↔ ((i : ℕ) → i < length c.args.rows.now → beq (eqb c.args.lock (i + 1)) (eqb (mark_in (slice_index_or c.args.rows.now i []) c.args.b) modifies) ≡ true)
told c = search rules

pub returns-then-lock-rows : goal.returns-then-lock-rows
unfolding lock_fits_in and
returns-then-lock-rows c =
    let l = c.args.lock in
    let b = c.args.b in
    simp (le-leb _ _ c.if-lock-rows.true)
    (from_0 (λ p. beq (eqb l p) (eqb (holder c.args.rows.now p b) modifies)) _ _ (λ i. beq (eqb l (i + 1)) (eqb (mark_in (slice_index_or c.args.rows.now i []) b) modifies)) (λ i. rw (holder_at c.args.rows.now i b, add-one i) refl) (told c))

pub returns-else-lock-rows : goal.returns-else-lock-rows
unfolding lock_fits_in and
returns-else-lock-rows c = simp (lt-leb _ _ c.if-lock-rows.false)
