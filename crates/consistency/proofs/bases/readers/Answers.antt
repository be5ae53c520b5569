use mathlib.Core.Path.{◌≡◌, ◌∙◌}
use lib.Dec.{eqb}
use Rattle.std.specs.List.{count_by}
use Rattle.std.proofs.Common.{rules}
use Rattle.routine.specs.Routines.{reads}
use Rattle.routine.specs.Rows.{mark_in}
use Rattle.consistency.proofs.Each.{counted}
use Rattle.consistency.proofs.bases.readers.Goals as goal
use Rattle.consistency.proofs.bases.readers.Goals.{After-count}

told : (c : After-count) → c.count.result ≡ count_by (λ row. eqb (mark_in row c.args.b) reads) c.args.rows.now
told c = search rules

pub returns : goal.returns
returns c = told c ∙ counted _ _
