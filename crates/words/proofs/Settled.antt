-- The contracts settle everything: any two answers that the contract of a public call allows are equal, and so is every word lent.
use mathlib.Core.Path.{◌≡◌, sym, ◌∙◌}
use contract.Lifetimes.{Lfts}
use Rattle.words.proofs.wide.Reads as wide_reads
use Rattle.words.proofs.lock.Reads as lock_reads
use Rattle.words.proofs.nomore.Reads as nomore_reads
use Rattle.words.proofs.count.Reads as count_reads
use Rattle.words.proofs.call.Reads as call_reads
use Rattle.words.proofs.phase.Reads as phase_reads
use Rattle.words.proofs.wake.Reads as wake_reads
use Rattle.words.proofs.entry.Reads as entry_reads
use Rattle.words.proofs.words_at.Reads as words_at_reads
use Rattle.words.proofs.put_words.Reads as put_words_reads
use Rattle.words.proofs.put_marks.Reads as put_marks_reads

pub wide_settled : (κs : Lfts 0) (a : _) (r s : _) (x y : _) → wide_reads.Post κs a r x → wide_reads.Post κs a s y → r ≡ s
wide_settled κs a r s x y p q = p.0 ∙ sym q.0

pub lock_settled : (κs : Lfts 1) (a : _) (r s : _) (x y : _) → lock_reads.Post κs a r x → lock_reads.Post κs a s y → r ≡ s
lock_settled κs a r s x y p q = p ∙ sym q

pub nomore_settled : (κs : Lfts 1) (a : _) (r s : _) (x y : _) → nomore_reads.Post κs a r x → nomore_reads.Post κs a s y → r ≡ s
nomore_settled κs a r s x y p q = p ∙ sym q

pub count_settled : (κs : Lfts 1) (a : _) (r s : _) (x y : _) → count_reads.Post κs a r x → count_reads.Post κs a s y → r ≡ s
count_settled κs a r s x y p q = p ∙ sym q

pub call_settled : (κs : Lfts 1) (a : _) (r s : _) (x y : _) → call_reads.Post κs a r x → call_reads.Post κs a s y → r ≡ s
call_settled κs a r s x y p q = p.0 ∙ sym q.0

pub phase_settled : (κs : Lfts 1) (a : _) (r s : _) (x y : _) → phase_reads.Post κs a r x → phase_reads.Post κs a s y → r ≡ s
phase_settled κs a r s x y p q = p.0 ∙ sym q.0

pub wake_settled : (κs : Lfts 1) (a : _) (r s : _) (x y : _) → wake_reads.Post κs a r x → wake_reads.Post κs a s y → r ≡ s
wake_settled κs a r s x y p q = p.0 ∙ sym q.0

pub entry_settled : (κs : Lfts 1) (a : _) (r s : _) (x y : _) → entry_reads.Post κs a r x → entry_reads.Post κs a s y → r ≡ s
entry_settled κs a r s x y p q = p.0 ∙ sym q.0

pub words_settled : (κs : Lfts 1) (a : _) (r s : _) (x y : _) → words_at_reads.Post κs a r x → words_at_reads.Post κs a s y → r ≡ s
words_settled κs a r s x y p q = p ∙ sym q

pub put_words_settled : (κs : Lfts 1) (a : _) (r s : _) (x y : _) → put_words_reads.Post κs a r x → put_words_reads.Post κs a s y → x.0.now ≡ y.0.now
put_words_settled κs a r s x y p q = p ∙ sym q

pub put_marks_settled : (κs : Lfts 1) (a : _) (r s : _) (x y : _) → put_marks_reads.Post κs a r x → put_marks_reads.Post κs a s y → x.0.now ≡ y.0.now
put_marks_settled κs a r s x y p q = p ∙ sym q
