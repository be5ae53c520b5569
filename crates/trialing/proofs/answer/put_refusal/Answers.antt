use Rattle.text.specs.Text.{puts_then}
use Rattle.trialing.specs.Answers.{refusal_text}
use Rattle.trialing.proofs.answer.put_refusal.Goals as goal

pub returns : goal.returns
unfolding refusal_text
returns c = rw (← c.from-shown.ensures, ← c.from.ensures) (puts_then (puts_then (puts_then c.put_bytes.ensures c.put_field.ensures) c.put_field-2.ensures) c.put_decimal.ensures)
