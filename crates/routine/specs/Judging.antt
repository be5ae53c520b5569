-- The judge: which file passes, and where one that does not fails first.
use Rattle.std.specs.Prelude.{Bool, cond, not, List, [], ◌∷◌, ◌++◌, ℕ, ◌+◌, eqb, ltb, leb, ⊤, Option, Result}
use Rattle.routine.specs.declared.refusal.Refusal.{Refusal}
use Rattle.routine.specs.declared.refusal.Refusal.TheVariants.{Routine}
use Rattle.routine.specs.Test.{implies}
use Rattle.routine.specs.First.{first_in, every}
use Rattle.routine.specs.Limits.{most_bases}
use Rattle.routine.specs.Routines.{Routines, routines, readlock, free, fine, hold}
use Rattle.routine.specs.Refusal.{given, first_due, unless}
use Rattle.routine.specs.Reading.{first_block, file_refusals}

-- a modlock or readlock
unfoldable pub is_take : ℕ → Bool
is_take kind = leb kind readlock

-- "every base now held by this routine, for either use, has a number below b"
unfoldable pub only_lower : (ℕ → ℕ) → ℕ → Bool
only_lower held b = every (λ c. implies (not (eqb (held c) free)) (ltb c b)) 1 (most_bases + 1)

-- "modlock or readlock of base b is good when every base now held .. has a number below b; unlock is good when this routine holds b for modifying; decrease, when it holds b for reading"
unfoldable pub call_good : (ℕ → ℕ) → ℕ → ℕ → Bool
call_good held kind b = cond (is_take kind) (only_lower held b) (fine kind (held b))

unfoldable pub nothing_held : (ℕ → ℕ) → Bool
nothing_held held = every (λ c. eqb (held c) free) 1 (most_bases + 1)

-- The places of routine p, from 0: its calls in order, and the end after the last. "A routine that ends holding something fails at place n + 1"
unfoldable pub place_good : Routines → ℕ → ℕ → Bool
place_good S p k = cond (ltb k (S.calls p)) (call_good (hold S p k) (S.kind p k) (S.base p k)) (nothing_held (hold S p k))

-- the first place that fails, or calls p + 1
unfoldable pub failing_place : Routines → ℕ → ℕ
failing_place S p = first_in (place_good S p) 0 (S.calls p + 1)

unfoldable pub routine_passes : Routines → ℕ → Bool
routine_passes S p = every (place_good S p) 0 (S.calls p + 1)

-- the first block whose routine fails, or N + 1
unfoldable pub failing_block : Routines → ℕ
failing_block S = first_block (routine_passes S) S.N

unfoldable pub passes : Routines → Bool
passes S = every (routine_passes S) 1 (S.N + 1)

-- 4: "the file does not pass", with the first failing call in file order; "call places count from 1"
unfoldable pub judgement : Routines → Option Refusal
judgement S = given (not (passes S)) (Routine (failing_block S) (failing_place S (failing_block S) + 1))

-- "Order: 1, 2, 3, then 4 for the judge"
unfoldable pub judge_refusals : List ℕ → List (Option Refusal)
judge_refusals f = file_refusals f ++ (judgement (routines f) ∷ [])

unfoldable pub judge_refusal : List ℕ → Option Refusal
judge_refusal f = first_due (judge_refusals f)

-- what the judge answers: a file that it refuses nothing of passes
unfoldable pub judging : List ℕ → Result ⊤ Refusal
judging f = unless (judge_refusal f) tt
