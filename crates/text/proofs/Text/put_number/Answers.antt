use Rattle.text.specs.Text.{puts_then}
use Rattle.text.proofs.Text.put_number.Goals as goal

pub returns : goal.returns
returns c = puts_then c.put_decimal.ensures c.put_byte.ensures
