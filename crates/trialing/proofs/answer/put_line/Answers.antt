use Rattle.std.specs.Prelude.{◌≤◌, length}
use Rattle.std.proofs.Common.{ap, arith, length-append}
use Rattle.text.specs.Lines.{field_most}
use Rattle.text.specs.Text.{Writes, puts_then, puts_whole}
use Rattle.trialing.specs.Trial.{most_words, op_number, words_of_long}
use Rattle.trialing.specs.Answers.{trial_line, line_room}
use Rattle.trialing.proofs.answer.put_line.Goals as goal
use Rattle.trialing.proofs.answer.put_line.Goals.{After-put_byte}

few_words : (c : After-put_byte) → length c.args.table.now ≤ most_words
few_words c = omega (arith, ap length c.requires.words, words_of_long c.args.trial.words.now, c.args.trial.few_words)

long : (c : After-put_byte) → length (trial_line c.args.trial.op c.args.trial.file.now c.args.table.now c.args.trial.process) ≤ line_room
unfolding trial_line
long c = simp length-append (omega (arith, field_most (op_number c.args.trial.op), c.put_answer.ensures.short (few_words c)))

whole : (c : After-put_byte) → Writes c.args.text.now c.put_byte.new.self (trial_line c.args.trial.op c.args.trial.file.now c.args.table.now c.args.trial.process)
unfolding trial_line
whole c = puts_whole (rw c.from.ensures at (puts_then (puts_then c.put_field.ensures c.put_answer.ensures.puts) c.put_byte.ensures)) (omega (arith, long c))

pub returns-clause-writes : goal.returns-clause-writes
returns-clause-writes c = whole (goal.at.returns-clause-writes c).After-put_byte

pub returns-clause-short : goal.returns-clause-short
returns-clause-short c = let p = (goal.at.returns-clause-short c).After-put_byte in omega (arith, long p, (whole p).wrote.ends)
