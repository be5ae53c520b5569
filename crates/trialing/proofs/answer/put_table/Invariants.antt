use Rattle.std.specs.Prelude.{take}
use Rattle.text.specs.Text.{Puts}
use Rattle.trialing.specs.Answers.{table_text}
use Rattle.trialing.proofs.answer.put_table.Given as goal

abbrev pub invariant-loop-word : goal.invariant-loop-word
invariant-loop-word l = Puts l.initial.text l.text (table_text (take l.word-index l.table))
