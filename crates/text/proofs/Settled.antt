-- The contracts settle everything: any two texts that the contract of a method allows end at one place of one buffer, and hold the same bytes.
use Rattle.std.specs.Prelude.{◌≡◌}
use Rattle.std.proofs.Common.{sym, ◌∙◌}
use contract.Lifetimes.{Lfts}
use Rattle.text.specs.Text.{Same, puts_settled}
use Rattle.text.proofs.Text.new.Reads as new_reads
use Rattle.text.proofs.Text.end.Reads as end_reads
use Rattle.text.proofs.Text.put_byte.Reads as put_byte_reads
use Rattle.text.proofs.Text.put_bytes.Reads as put_bytes_reads
use Rattle.text.proofs.Text.put_decimal.Reads as put_decimal_reads
use Rattle.text.proofs.Text.put_hexadecimal.Reads as put_hexadecimal_reads
use Rattle.text.proofs.Text.put_field.Reads as put_field_reads
use Rattle.text.proofs.Text.put_last.Reads as put_last_reads
use Rattle.text.proofs.Text.put_header.Reads as put_header_reads
use Rattle.text.proofs.Text.put_turn.Reads as put_turn_reads
use Rattle.text.proofs.Text.put_refused.Reads as put_refused_reads
use Rattle.text.proofs.Text.put_standing.Reads as put_standing_reads

pub new_settled : (κs : Lfts 1) (a : _) (r s : _) (x y : _) → new_reads.Post κs a r x → new_reads.Post κs a s y → Same r s
new_settled κs a r s x y p q = record { end = p.1.1 ∙ sym q.1.1; bytes = p.1.0 ∙ sym q.1.0; name = p.0 ∙ sym q.0 }

pub end_settled : (κs : Lfts 2) (a : _) (r s : _) (x y : _) → end_reads.Post κs a r x → end_reads.Post κs a s y → r ≡ s
end_settled κs a r s x y p q = p ∙ sym q

pub byte_settled : (κs : Lfts 2) (a : _) (r s : _) (x y : _) → put_byte_reads.Post κs a r x → put_byte_reads.Post κs a s y → Same x.0.now y.0.now
byte_settled κs a r s x y p q = puts_settled p q

pub bytes_settled : (κs : Lfts 3) (a : _) (r s : _) (x y : _) → put_bytes_reads.Post κs a r x → put_bytes_reads.Post κs a s y → Same x.0.now y.0.now
bytes_settled κs a r s x y p q = puts_settled p q

pub decimal_settled : (κs : Lfts 2) (a : _) (r s : _) (x y : _) → put_decimal_reads.Post κs a r x → put_decimal_reads.Post κs a s y → Same x.0.now y.0.now
decimal_settled κs a r s x y p q = puts_settled p q

pub hexadecimal_settled : (κs : Lfts 2) (a : _) (r s : _) (x y : _) → put_hexadecimal_reads.Post κs a r x → put_hexadecimal_reads.Post κs a s y → Same x.0.now y.0.now
hexadecimal_settled κs a r s x y p q = puts_settled p q

pub field_settled : (κs : Lfts 2) (a : _) (r s : _) (x y : _) → put_field_reads.Post κs a r x → put_field_reads.Post κs a s y → Same x.0.now y.0.now
field_settled κs a r s x y p q = puts_settled p q

pub last_settled : (κs : Lfts 2) (a : _) (r s : _) (x y : _) → put_last_reads.Post κs a r x → put_last_reads.Post κs a s y → Same x.0.now y.0.now
last_settled κs a r s x y p q = puts_settled p q

pub header_settled : (κs : Lfts 2) (a : _) (r s : _) (x y : _) → put_header_reads.Post κs a r x → put_header_reads.Post κs a s y → Same x.0.now y.0.now
header_settled κs a r s x y p q = puts_settled p q

pub turn_settled : (κs : Lfts 3) (a : _) (r s : _) (x y : _) → put_turn_reads.Post κs a r x → put_turn_reads.Post κs a s y → Same x.0.now y.0.now
turn_settled κs a r s x y p q = puts_settled p q

pub refused_settled : (κs : Lfts 2) (a : _) (r s : _) (x y : _) → put_refused_reads.Post κs a r x → put_refused_reads.Post κs a s y → Same x.0.now y.0.now
refused_settled κs a r s x y p q = puts_settled p q

pub standing_settled : (κs : Lfts 2) (a : _) (r s : _) (x y : _) → put_standing_reads.Post κs a r x → put_standing_reads.Post κs a s y → Same x.0.now y.0.now
standing_settled κs a r s x y p q = puts_settled p q
