use Rattle.std.proofs.Common.{◌≤◌, List, ℕ, ◌+◌, length, arith, Result, Err, Ok, append-nil, refl}
use Rattle.std.specs.Prelude.{⊤}
use Rattle.routine.specs.declared.refusal.Refusal.{Refusal}
use Rattle.routine.specs.Refusal.{handed_on}
use Rattle.rules.specs.declared.Standing.{Standing}
use Rattle.text.specs.declared.Text.{Text}
use Rattle.text.specs.Text.{text_end, text_bytes, Leaves}
use Rattle.playing.specs.Play.{AnswerPut, PutSoFar, line_room, line_on, line_off, line_put, lines_end, refusal_short, or_refused, last_line}
use Rattle.playing.proofs.play.put_turns.Goals as goal

pub returns-in_err-put_line : goal.returns-in_err-put_line
unfolding or_refused
returns-in_err-put_line c =
    let l = c.loop-i in
    let t = c.in_err-put_line.ensures.line in
    let off = line_off c.args.file.now l.table c.args.turns.now l.i _ refl (omega arith) _ t.0 in
    rw (handed_on _ _ c.from_residual.ensures.1, t.1) (record { leaves = rw off at l.invariant.0; room = omega (arith, refusal_short c.in_err-put_line.field-0.0) })

pub loop-i-preserved : goal.loop-i-preserved
loop-i-preserved c =
    let l = c.loop-i in
    let t = c.in_ok-put_line.ensures.line in
    let on = line_on c.args.file.now l.table c.args.turns.now l.i _ refl (omega arith) _ t.1 in
    let p = line_put (rw (on, ← c.put_line.ensures.table) at l.invariant.0) t.2 (omega arith) in
    (p.0, omega (arith, p.1, p.2))

-- the last line
last : {a b c : Text} {all : List ℕ} (standing : Result Standing Refusal) (r : Result ⊤ Refusal) → Leaves a b all (or_refused standing last_line) → AnswerPut b c standing last_line r → text_end b + line_room ≤ length (text_bytes b) → PutSoFar a c all r
unfolding or_refused
last standing (Ok u) v p room =
    let w = rw (p.1, ← append-nil (last_line p.0)) at v in
    let e = line_put w p.2 room in
    record { leaves = e.0; room = omega (arith, e.1, e.2) }
last standing (Err r) v p room = rw p.1 (record { leaves = rw p.0 at v; room = omega (arith, refusal_short r) })

pub returns : goal.returns
returns c =
    let l = c.loop-i in
    last _ _ (rw (lines_end c.args.file.now l.table c.args.turns.now l.i (l.i + 1) (omega arith)) at l.invariant.0) c.put_standing.ensures (omega arith)
