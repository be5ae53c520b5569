use Rattle.text.specs.Text.{puts_then}
use Rattle.text.specs.Lines.{standing_line}
use Rattle.text.proofs.Text.put_standing.Goals as goal

pub returns : goal.returns
unfolding standing_line
returns c = puts_then c.put_bytes.ensures c.put_last.ensures
