use Rattle.text.specs.Text.{puts_then}
use Rattle.text.specs.Lines.{turn_line}
use Rattle.text.proofs.Text.put_turn.Goals as goal

pub returns : goal.returns
unfolding turn_line
returns c =
    let fields = puts_then (puts_then (puts_then c.put_field.ensures c.put_field-2.ensures) c.put_field-3.ensures) c.put_field-4.ensures in
    puts_then (puts_then fields c.put_bytes.ensures) c.put_byte.ensures
