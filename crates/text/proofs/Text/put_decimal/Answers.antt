use Rattle.std.specs.Prelude.{◌≡◌, take}
use Rattle.std.proofs.Common.{◌∙◌, arith}
use Rattle.text.specs.Digits.{decimal, spells, few}
use Rattle.text.proofs.Text.put_decimal.Goals as goal
use Rattle.text.proofs.Text.put_decimal.Goals.{After-decimal-k}

written : (c : After-decimal-k) → take c.decimal-k.result c.decimal-k.new.out ≡ decimal c.args.n
unfolding decimal
written c =
    let w = c.decimal-k.ensures in
    w.digits ∙ spells c.decimal-k.result 20 c.args.n (few _ _ (omega arith) w.len) w.len

pub returns : goal.returns
returns c = rw (written (goal.at.returns c).After-decimal-k) at c.put_bytes.ensures
