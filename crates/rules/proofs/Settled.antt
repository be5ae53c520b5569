-- The contracts settle everything: any two answers that the contract of a public call allows are equal.
use Rattle.std.proofs.Common.{◌≡◌, ◌≤◌, ◌<◌, ℕ, cond, refl, sym, ◌∙◌, arith}
use lib.Dec.{eqb}
use contract.Lifetimes.{Lfts}
use Rattle.rules.specs.declared.phase.Phase.{Phase}
use Rattle.rules.specs.declared.phase.Phase.TheVariants as Ph
use Rattle.rules.specs.Phase.{phase_number}
use Rattle.routine.proofs.Numbered.{one_answer}
use Rattle.rules.proofs.phase.PhaseTryFromUsize.try_from.Reads as try_from_reads
use Rattle.rules.proofs.phase.U16FromPhase.from.Reads as from_reads
use Rattle.rules.proofs.UsizeFromStanding.from.Reads as standing_reads

pub from_settled : (κs : Lfts 0) (a : _) (r s : _) (x y : _) → from_reads.Post κs a r x → from_reads.Post κs a s y → r ≡ s
from_settled κs a r s x y p q = p ∙ sym q

pub standing_number_settled : (κs : Lfts 0) (a : _) (r s : _) (x y : _) → standing_reads.Post κs a r x → standing_reads.Post κs a s y → r ≡ s
standing_number_settled κs a r s x y p q = p ∙ sym q

-- the phase of each number, to 7
by_number : ℕ → Phase
by_number n = cond (eqb n 0) Ph.Start (cond (eqb n 1) Ph.Enlist (cond (eqb n 2) Ph.SecondTry (cond (eqb n 3) Ph.Delist (cond (eqb n 4) Ph.SetSwitch (cond (eqb n 5) Ph.Waiting (cond (eqb n 6) Ph.Notify Ph.Stopped))))))

number_is : (phase : Phase) → (by_number (phase_number phase) ≡ phase) × (phase_number phase ≤ 7)
unfolding by_number phase_number
number_is Ph.Start = (refl, omega arith)
number_is Ph.Enlist = (refl, omega arith)
number_is Ph.SecondTry = (refl, omega arith)
number_is Ph.Delist = (refl, omega arith)
number_is Ph.SetSwitch = (refl, omega arith)
number_is Ph.Waiting = (refl, omega arith)
number_is Ph.Notify = (refl, omega arith)
number_is Ph.Stopped = (refl, omega arith)

pub try_from_settled : (κs : Lfts 0) (a : _) (r s : _) (x y : _) → try_from_reads.Post κs a r x → try_from_reads.Post κs a s y → r ≡ s
try_from_settled κs a r s x y p q =
    one_answer phase_number by_number (λ phase. (number_is phase).0) (λ n. 7 < n) (λ phase none. omega (arith, none, number_is phase)) (λ n. record { 0 = n }) (λ e. e.0) (λ e. refl) a.0 r s p q
