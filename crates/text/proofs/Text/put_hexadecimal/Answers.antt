use Rattle.std.specs.Prelude.{◌≡◌, take}
use Rattle.std.proofs.Common.{◌∙◌, arith}
use Rattle.text.specs.Digits.{hexadecimal, four}
use Rattle.text.proofs.Text.put_hexadecimal.Goals as goal
use Rattle.text.proofs.Text.put_hexadecimal.Goals.{After-hex-k}

written : (c : After-hex-k) → take c.hex-k.result c.hex-k.new.out ≡ hexadecimal c.args.word
written c = rw c.from.ensures at (c.hex-k.ensures.digits ∙ four _ c.hex-k.result (omega arith) c.hex-k.ensures.len)

pub returns : goal.returns
returns c = rw (written (goal.at.returns c).After-hex-k) at c.put_bytes.ensures
