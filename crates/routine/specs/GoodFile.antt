-- What a good file is read of and is about.
use Rattle.std.specs.Prelude.{List, ℕ}
use Rattle.routine.specs.declared.good_file.GoodFile.{GoodFile}
use Rattle.routine.specs.declared.set.Set.{Set}
use Rattle.routine.specs.Routines.{Routines, routines}

abbrev pub file_bytes : GoodFile → List ℕ
file_bytes g = g.bytes.now

abbrev pub file_set : GoodFile → Set
file_set g = g.set

abbrev pub file_routines : GoodFile → Routines
file_routines g = routines (file_bytes g)
