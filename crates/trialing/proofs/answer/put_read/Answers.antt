use Rattle.std.specs.Prelude.{refl}
use Rattle.text.specs.Text.{puts_then}
use Rattle.trialing.specs.Answers.{said, set_text}
use Rattle.trialing.proofs.answer.put_read.Goals as goal

pub returns : goal.returns
unfolding said set_text
returns c = rw (← c.in_ok-set.ensures) (refl, puts_then (puts_then c.put_bytes.ensures c.put_field.ensures) c.put_decimal.ensures)
