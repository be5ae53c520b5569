use Rattle.std.proofs.Common.{sym, ◌∙◌, lt-ltb, le-ltb}
use Rattle.routine.specs.Refusal.{handed_on, due_given, not_given, unless_some, unless_none}
use Rattle.playing.specs.Play.{playable, turns_refusal, file_first, turns_then}
use Rattle.playing.proofs.play.playable.Goals as goal

pub returns-in_err-read : goal.returns-in_err-read
returns-in_err-read c = handed_on _ _ c.from_residual.ensures.1 ∙ sym (file_first _ _ _ (sym c.in_err-read.ensures))

pub returns-then-turns-gt-TURNS : goal.returns-then-turns-gt-TURNS
unfolding playable turns_refusal
returns-then-turns-gt-TURNS c = sym (unless_some _ _ _ (turns_then _ _ _ (sym c.in_ok-read.ensures) ∙ due_given _ _ (lt-ltb _ _ c.if-turns-gt-TURNS.true)))

pub returns : goal.returns
unfolding playable turns_refusal
returns c = sym (unless_none _ _ (turns_then _ _ _ (sym c.in_ok-read.ensures) ∙ not_given _ _ (le-ltb _ _ c.if-turns-gt-TURNS.false)))
