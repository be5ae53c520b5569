use Rattle.std.proofs.Common.{arith}
use Rattle.text.specs.Text.{puts_then}
use Rattle.trialing.specs.Answers.{table_more}
use Rattle.trialing.proofs.answer.put_table.Goals as goal

pub loop-word-preserved : goal.loop-word-preserved
loop-word-preserved c =
    let l = c.loop-word in
    rw (table_more c.args.table.now l.word-index (omega arith)) (puts_then l.invariant (puts_then c.put_byte.ensures c.put_hexadecimal.ensures))
