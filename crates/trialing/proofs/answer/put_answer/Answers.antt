use Rattle.std.specs.Prelude.{◌≤◌, length}
use Rattle.std.proofs.Common.{ap, arith, append-nil}
use Rattle.text.specs.Text.{Puts, puts_then}
use Rattle.trialing.specs.Trial.{most_words}
use Rattle.trialing.specs.Answers.{said_text, call_said, answer_text, answer_room, answer_long, puts_own, puts_refusal, words_there, no_words}
use Rattle.trialing.proofs.answer.put_answer.Goals as goal
use Rattle.trialing.proofs.answer.put_answer.Goals.{After-put_call, Joined-put_call, in-Err, in_default}

said : (c : Joined-put_call) → Puts c.args.text.now c.match-put_call.text (said_text (call_said c.args.trial.op c.args.trial.file.now c.args.table.now c.args.trial.process))
said c = elim c.match-put_call.branch [
  | in-Err w ↦ rw w.text-is (puts_refusal _ _ _ w.in-Err.is c.put_call.ensures.said w.put_refusal.ensures)
  | in_default w ↦ rw w.text-is (puts_own _ _ _ w.in_default.is c.put_call.ensures.said)
]

short : (c : After-put_call) → length c.args.table.now ≤ most_words → length (answer_text c.args.trial.op c.args.trial.file.now c.args.table.now c.args.trial.process) ≤ answer_room
short c h = answer_long _ _ _ _ (omega (arith, ap length c.put_call.ensures.table, c.put_call.auto.table))

pub returns-in-Fresh-clause-puts : goal.returns-in-Fresh-clause-puts
unfolding answer_text
returns-in-Fresh-clause-puts c =
    rw (words_there _ _ c.in-Fresh.is, ← c.put_call.ensures.table) (puts_then (said (goal.at.returns-in-Fresh-clause-puts c).Joined-put_call) c.put_table.ensures)

pub returns-in-Fresh-clause-short : goal.returns-in-Fresh-clause-short
returns-in-Fresh-clause-short c = short (goal.at.returns-in-Fresh-clause-short c).After-put_call

pub returns-in_default-op : goal.returns-in_default-op
unfolding answer_text
returns-in_default-op c = record {
  puts = rw (no_words _ _ c.in_default-op.not-Fresh c.in_default-op.not-Turn, append-nil _) (said (goal.at.returns-in_default-op c).Joined-put_call);
  short = short (goal.at.returns-in_default-op c).After-put_call;
}
