-- The limits, each named once: 1 to 8 processes, 1 to 16 bases, 0 to 32 calls in a routine, 80 words of state, 4,096 turns in one play.
use Rattle.std.specs.Prelude.{ℕ, ◌+◌, ◌*◌}
use Rattle.routine.specs.declared.set.Limits.{Limits}
use Rattle.routine.specs.declared.set.Set.{Set}

abbrev pub most_processes : ℕ
most_processes = 8

abbrev pub most_bases : ℕ
most_bases = 16

abbrev pub most_calls : ℕ
most_calls = 32

-- the words of a base, and those of a process
abbrev pub base_words : ℕ
base_words = 3

abbrev pub process_words : ℕ
process_words = 4

abbrev pub table_words : ℕ
table_words = base_words * most_bases + process_words * most_processes

abbrev pub most_turns : ℕ
most_turns = 4096

-- the bytes of a block, those before its calls, and those that its check covers
abbrev pub block_bytes : ℕ
block_bytes = 512

abbrev pub head_bytes : ℕ
head_bytes = 4

abbrev pub checked_bytes : ℕ
checked_bytes = 508

-- the constants of the code are these
abbrev pub limits : Limits
limits = record {
  processes = most_processes;
  bases = most_bases;
  calls = most_calls;
  words = table_words;
  turns = most_turns;
  block = block_bytes;
  head = head_bytes;
  checked = checked_bytes;
}

abbrev pub set_of : ℕ → ℕ → Set
set_of n b = record { processes = n; bases = b }
