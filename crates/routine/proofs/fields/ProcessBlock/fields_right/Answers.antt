use Rattle.routine.specs.Limits.{checked_bytes}
use Rattle.routine.specs.First.{every, none_found}
use Rattle.routine.specs.Block.{bad_byte, fields_right}
use Rattle.routine.proofs.fields.ProcessBlock.fields_right.Goals as goal

pub returns : goal.returns
unfolding fields_right bad_byte every
returns c = none_found _ checked_bytes c.bad_byte.result _ c.bad_byte.ensures c.is_none.ensures
