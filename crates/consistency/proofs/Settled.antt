-- The contracts settle everything: any two answers that the contract of a public call allows are equal.
use mathlib.Core.Path.{◌≡◌, sym, ◌∙◌}
use contract.Lifetimes.{Lfts}
use Rattle.routine.proofs.Settled.{SameGood, same_good}
use Rattle.consistency.proofs.ready.Reads as ready_reads
use Rattle.consistency.proofs.checked.Reads as checked_reads
use Rattle.consistency.proofs.held.follow.Reads as follow_reads

pub ready_settled : (κs : Lfts 2) (a : _) (r s : _) (x y : _) → ready_reads.Post κs a r x → ready_reads.Post κs a s y → SameGood r s
ready_settled κs a r s x y p q = same_good _ _ r s p q

pub checked_settled : (κs : Lfts 2) (a : _) (r s : _) (x y : _) → checked_reads.Post κs a r x → checked_reads.Post κs a s y → r ≡ s
checked_settled κs a r s x y p q = p ∙ sym q

pub follow_settled : (κs : Lfts 1) (a : _) (r s : _) (x y : _) → follow_reads.Post κs a r x → follow_reads.Post κs a s y → r ≡ s
follow_settled κs a r s x y p q = p ∙ sym q
