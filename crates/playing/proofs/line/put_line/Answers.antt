use Rattle.std.proofs.Common.{sym, arith, ◌∙◌, ap}
use Rattle.rules.specs.Answers.{turning}
use Rattle.text.specs.Lines.{turn_line}
use Rattle.playing.specs.Play.{line_of, turn_short, word_short, LinePut}
use Rattle.playing.proofs.line.put_line.Goals as goal
use Rattle.playing.proofs.line.put_line.Goals.{After-put_turn}

line : (c : After-put_turn) → LinePut c.args.text.now c.put_turn.new.self (line_of c.turn.new.table c.args.i c.args.process c.in_ok-answer.answer)
unfolding line_of
line c =
    let short = turn_short c.args.i c.from-process.result c.call-call.result c.phase-phase.result c.word.result.now (omega arith) (omega arith) (omega arith) (rw c.word.ensures (word_short c.in_ok-answer.answer)) in
    let put : LinePut c.args.text.now c.put_turn.new.self (turn_line c.args.i c.from-process.result c.call-call.result c.phase-phase.result c.word.result.now) = record { puts = c.put_turn.ensures; short = short } in
    rw (c.call-call.ensures.0, c.phase-phase.ensures.0, c.word.ensures, c.from-process.ensures) at put

pub returns-clause-line : goal.returns-clause-line
returns-clause-line c = (c.in_ok-answer.answer, ap (turning c.args.file.now c.args.table.now) (sym c.from-process.ensures) ∙ sym c.in_ok-answer.ensures.answer, line (goal.at.returns-clause-line c).After-put_turn)
