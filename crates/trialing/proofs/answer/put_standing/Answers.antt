use Rattle.std.specs.Prelude.{refl}
use Rattle.text.specs.Text.{puts_then}
use Rattle.trialing.specs.Answers.{said, stands_text}
use Rattle.trialing.proofs.answer.put_standing.Goals as goal

pub returns : goal.returns
unfolding said stands_text
returns c = rw (← c.in_ok-standing.ensures, ← c.from.ensures) (refl, puts_then c.put_bytes.ensures c.put_decimal.ensures)
