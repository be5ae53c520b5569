use Rattle.std.proofs.Common.{◌+◌, ◌-◌, ◌*◌, ◌≤◌, length, drop}
use Rattle.text.specs.Text.{text_bytes, text_end, Leaves}
use Rattle.playing.specs.Play.{lines_from, line_room}
use Rattle.playing.proofs.play.put_turns.Given as goal

-- the lines of the turns from i on are still to be put, and there is room for them
abbrev pub invariant-loop-i : goal.invariant-loop-i
invariant-loop-i l =
    Leaves l.initial.text l.text (lines_from l.file l.initial.table 1 l.turns) (lines_from l.file l.table (l.i + 1) (drop l.i l.turns))
    × (text_end l.text + line_room * (length l.turns - l.i + 1) ≤ length (text_bytes l.text))
