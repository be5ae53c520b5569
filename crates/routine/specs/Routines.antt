-- What a good file says, and what it means to hold a base. Everything above the reader speaks of this, and never of a byte's place.
use Rattle.std.specs.Prelude.{Bool, cond, List, ℕ, zero, suc, ◌+◌, ◌*◌, ◌/◌, eqb, ltb, length}
use Rattle.routine.specs.Limits.{block_bytes, head_bytes}
use Rattle.routine.specs.Block.{block, byte}

-- N processes share B bases; routine p has calls p calls, and kind p k and base p k are the call at which it stands when it has completed k of them
pub record Routines : Type 0 where
  pub N : ℕ
  pub B : ℕ
  pub calls : ℕ → ℕ
  pub kind : ℕ → ℕ → ℕ
  pub base : ℕ → ℕ → ℕ

-- "B is taken from block 1"
unfoldable pub routines : List ℕ → Routines
routines f = record {
  N = length f / block_bytes;
  B = byte (block f 1) 3;
  calls = λ p. byte (block f p) 2;
  kind = λ p k. byte (block f p) (head_bytes + 2 * k);
  base = λ p k. byte (block f p) (head_bytes + 2 * k + 1);
}

-- the current call of process p when it has completed k calls: its kind and its base, 0 where the routine is finished
unfoldable pub kind_now : Routines → ℕ → ℕ → ℕ
kind_now S p k = cond (ltb k (S.calls p)) (S.kind p k) 0

unfoldable pub base_now : Routines → ℕ → ℕ → ℕ
base_now S p k = cond (ltb k (S.calls p)) (S.base p k) 0

-- the kinds of call: 1 modlock, 2 readlock, 3 unlock, 4 decrease
abbrev pub modlock : ℕ
modlock = 1

abbrev pub readlock : ℕ
readlock = 2

abbrev pub unlock : ℕ
unlock = 3

abbrev pub decrease : ℕ
decrease = 4

-- the marks of holding: a base is free of this process, or the process modifies it, or reads it
abbrev pub free : ℕ
free = 0

abbrev pub modifies : ℕ
modifies = 1

abbrev pub reads : ℕ
reads = 2

-- the mark that a call of this kind leaves on its base, which had the mark old
unfoldable pub mark : ℕ → ℕ → ℕ
mark kind old = cond (eqb kind modlock) modifies (cond (eqb kind readlock) reads free)

-- no logic error. One is: "modlock or readlock of a base this process already holds for either use; unlock of a base it does not modify; decrease of a base it does not read"
unfoldable pub fine : ℕ → ℕ → Bool
fine kind old = cond (eqb kind unlock) (eqb old modifies) (cond (eqb kind decrease) (eqb old reads) (eqb old free))

-- how process p holds base b when it has completed k calls
unfoldable pub hold : Routines → ℕ → ℕ → ℕ → ℕ
hold S p zero b = free
hold S p (suc k) b = cond (eqb (S.base p k) b) (mark (S.kind p k) (hold S p k b)) (hold S p k b)
