-- The contracts settle everything: any two answers that the contract of a public call allows are equal, and so is every word lent.
use mathlib.Core.Path.{◌≡◌, sym, ◌∙◌}
use contract.Lifetimes.{Lfts}
use Rattle.interlock.proofs.fresh.Reads as fresh_reads
use Rattle.interlock.proofs.turn.Reads as turn_reads
use Rattle.interlock.proofs.standing.Reads as standing_reads

pub fresh_settled : (κs : Lfts 1) (a : _) (r s : _) (x y : _) → fresh_reads.Post κs a r x → fresh_reads.Post κs a s y → (r ≡ s) × (x.0.now ≡ y.0.now)
fresh_settled κs a r s x y p q = (p.answer ∙ sym q.answer, p.table ∙ sym q.table)

pub turn_settled : (κs : Lfts 2) (a : _) (r s : _) (x y : _) → turn_reads.Post κs a r x → turn_reads.Post κs a s y → (r ≡ s) × (x.1.0.now ≡ y.1.0.now)
turn_settled κs a r s x y p q = (p.answer ∙ sym q.answer, p.table ∙ sym q.table)

pub standing_settled : (κs : Lfts 2) (a : _) (r s : _) (x y : _) → standing_reads.Post κs a r x → standing_reads.Post κs a s y → r ≡ s
standing_settled κs a r s x y p q = p ∙ sym q
