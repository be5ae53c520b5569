-- Laws of what a process holds at a table.
use mathlib.Core.Path.{◌≡◌, refl, ap}
use mathlib.Core.Logic.{◌≢◌}
use mathlib.Core.List.{List}
use Prim.Native.Nat.{ℕ, suc, ◌≤◌, ◌<◌}
use native.Mathlib.Omega.{arith}
use native.Mathlib.Numerals.{add-one}
use native.Mathlib.Decide.{ℕ_discrete}
use lib.Dec.{eqb}
use borrow.Author.Tests.{ne_eqb}
use Rattle.routine.specs.Routines.{Routines, modifies, reads, hold}
use Rattle.routine.proofs.Holding.{base_now_lem, hold_small}
use Rattle.rules.specs.Consistent.{mark_now, effective, held, owns, one_if_reads}

pub mark_now_lem : (S : Routines) (p k : ℕ) → k < S.calls p → mark_now S p k ≡ hold S p k (S.base p k)
unfolding mark_now
mark_now_lem S p k h = ap (hold S p k) (base_now_lem S p k h)

pub effective_also : (k ph : ℕ) → ph ≡ 3 → effective k ph ≡ suc k
unfolding effective
effective_also k ph e = rw e (add-one k)

pub effective_less : (k ph : ℕ) → ph ≡ 6 → effective k ph ≡ suc k
unfolding effective
effective_less k ph e = rw e (add-one k)

pub effective_else : (k ph : ℕ) → ph ≢ 3 → ph ≢ 6 → effective k ph ≡ k
unfolding effective
effective_else k ph n m = rw (ne_eqb ph 3 n, ne_eqb ph 6 m)

pub held_small : (S : Routines) (t : List ℕ) (p b : ℕ) → held S t p b ≤ reads
unfolding held
held_small S t p b = hold_small S p _ b

pub owns_modifies : (S : Routines) (t : List ℕ) (b p : ℕ) → owns S t b p ≡ eqb (held S t p b) modifies
unfolding owns
owns_modifies S t b p = refl

pub one_reads : (m : ℕ) → m ≡ reads → one_if_reads m ≡ 1
unfolding one_if_reads
one_reads m e = rw e

pub none_reads : (m : ℕ) → m ≢ reads → one_if_reads m ≡ 0
unfolding one_if_reads
none_reads m n = rw (ne_eqb m reads n)

pub one_small : (m : ℕ) → one_if_reads m ≤ 1
one_small m = elim (ℕ_discrete m reads) [ yes e ↦ omega (arith, one_reads m e) | no n ↦ omega (arith, none_reads m n) ]
