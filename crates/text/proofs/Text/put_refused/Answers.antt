use Rattle.text.specs.Text.{puts_then}
use Rattle.text.specs.Lines.{refused_line}
use Rattle.text.proofs.Text.put_refused.Goals as goal

pub returns : goal.returns
unfolding refused_line
returns c = puts_then (puts_then c.put_bytes.ensures c.put_field.ensures) c.put_last.ensures
