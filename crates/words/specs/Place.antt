-- Where a named word stands.
use Rattle.std.specs.Prelude.{ℕ, ◌+◌, ◌-◌, ◌*◌}
use Rattle.words.specs.declared.Field.{Field}

abbrev pub place : Field → ℕ → ℕ
place f n = f.first + f.step * (n - 1)
