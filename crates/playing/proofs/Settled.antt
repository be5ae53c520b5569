-- The contract settles everything: any two results that it allows are equal, and so is every byte lent.
use mathlib.Core.Path.{◌≡◌}
use contract.Lifetimes.{Lfts}
use Rattle.text.specs.Wrote.{settled}
use Rattle.playing.proofs.play.put_play.Reads as put_play_reads

pub play_settled : (κs : Lfts 3) (a : _) (r s : _) (x y : _) → put_play_reads.Post κs a r x → put_play_reads.Post κs a s y → (r ≡ s) × (x.0.now ≡ y.0.now)
play_settled κs a r s x y p q = settled p.0 q.0
