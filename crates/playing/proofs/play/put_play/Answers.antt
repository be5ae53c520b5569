use Rattle.std.proofs.Common.{◌≤◌, length, ap, sym, arith, rules, length-take-le}
use Rattle.text.specs.Text.{Writes, puts_whole, leaves_none, leaves_put, writes_lent}
use Rattle.playing.specs.Play.{playing, or_refused}
use Rattle.playing.proofs.play.put_play.Goals as goal
use Rattle.playing.proofs.play.put_play.Goals.{After-end, in-Err, in_default}

whole : (c : After-end) → Writes c.new-text.result c.match-put_all.text (playing c.args.file.now c.args.turns.now)
unfolding or_refused
whole c = elim c.match-put_all.branch [
  | in-Err w ↦ let p = rw w.in-Err.is at c.put_all.ensures in rw w.text-is (leaves_put p.leaves (puts_whole w.put_refusal.ensures p.room))
  | in_default w ↦ let p = rw w.in_default.is at c.put_all.ensures in rw w.text-is (leaves_none p.leaves)
]

pub returns : goal.returns
returns c =
    let n = c.new-text.ensures in
    let p = c.put_all.ensures in
    let w = writes_lent (whole (goal.at.returns c).After-end) n.bytes n.end (search rules) c.end.ensures in
    let h : c.end.result ≤ length _ = omega (arith, w.ends, w.size, p.room, p.leaves.rest.ends, p.leaves.rest.size, n.end, ap length n.bytes) in
    record { wrote = w; prefix_len = (h, sym (length-take-le _ _ h)) }
