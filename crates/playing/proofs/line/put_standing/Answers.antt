use Rattle.std.proofs.Common.{sym, rules}
use Rattle.rules.specs.Standing.{standing_number}
use Rattle.playing.specs.Play.{last_line, last_short}
use Rattle.playing.proofs.line.put_standing.Goals as goal

pub returns : goal.returns
unfolding last_line standing_number
returns c = (c.in_ok-standing.standing, sym c.in_ok-standing.ensures, record { puts = search rules; short = last_short c.in_ok-standing.standing })
