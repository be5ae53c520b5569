-- What a turn that is not refused may rely on.
use Rattle.std.specs.Prelude.{◌≡◌, true, List, ℕ, length}
use Rattle.routine.specs.Limits.{table_words}
use Rattle.routine.specs.Routines.{routines}
use Rattle.routine.specs.Rules.{WellFormed}
use Rattle.rules.specs.Consistent.{consistent}

pub record Ready (f t : List ℕ) : Type 0 where
  pub file : WellFormed (routines f)
  pub words : length t ≡ table_words
  pub consistency : consistent (routines f) t ≡ true
