use Rattle.std.proofs.Common.{◌≡◌, sym, arith}
use Rattle.routine.specs.Refusal.{given, handed_on, unless, ok_err}
use Rattle.rules.specs.Table.{fresh}
use Rattle.rules.specs.Answers.{size_refusal, making, made_table}
use Rattle.text.specs.Lines.{header}
use Rattle.text.specs.Text.{Leaves, Writes, puts_whole, leaves_all, leaves_less}
use Rattle.playing.specs.Play.{playing, lines_from, refusal_short, or_refused, leaves_then, few_turns}
use Rattle.playing.proofs.play.put_all.Goals as goal
use Rattle.playing.proofs.play.put_all.Goals.{After-put_header, After-fresh}

pub returns-in_err-playable : goal.returns-in_err-playable
unfolding playing or_refused
returns-in_err-playable c = rw (handed_on _ _ c.from_residual.ensures.1, ← c.in_err-playable.ensures) (record { leaves = leaves_all _ _; room = omega (arith, refusal_short c.in_err-playable.field-0.0) })

pub returns-in_err-fresh : goal.returns-in_err-fresh
unfolding making size_refusal given unless
returns-in_err-fresh c = absurd (ok_err _ _ (sym c.in_err-fresh.ensures.answer))

-- the whole header is there
headed : (c : After-put_header) → Writes c.args.text.now c.put_header.new.self header
unfolding header
headed c = puts_whole c.put_header.ensures (omega arith)

pub put_turns-requires : goal.put_turns-requires
unfolding header
put_turns-requires c = let w = (headed (goal.at.put_turns-requires c).After-put_header).wrote in omega (arith, w.ends, w.size, few_turns _ _ (sym c.in_ok-playable.ensures))

-- the local table is the fresh one
made : (c : After-fresh) → c.fresh.new.table ≡ fresh
unfolding made_table size_refusal given fresh
made c = c.fresh.ensures.table

left : (c : After-fresh) → Leaves c.args.text.now c.put_header.new.self (playing c.args.file.now c.args.turns.now) (lines_from c.args.file.now c.fresh.new.table 1 c.args.turns.now)
unfolding playing or_refused
left c = rw (← c.in_ok-playable.ensures, made c) (leaves_less (leaves_all _ _) (headed (goal.at.After-fresh c).After-put_header))

pub returns : goal.returns
returns c =
    let p = c.put_turns.ensures in
    record { leaves = leaves_then (left (goal.at.returns c).After-fresh) p.leaves; room = p.room }
