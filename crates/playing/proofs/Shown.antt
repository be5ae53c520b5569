-- The numbers of the refusals that print one line and nothing else.
use mathlib.Core.Path.{◌≡◌, ◌∙◌}
use mathlib.Core.List.{List}
use Prim.Native.Nat.{ℕ, ◌<◌}
use lib.ListN.{length}
use borrow.Author.Tests.{lt-ltb}
use Rattle.std.specs.Prelude.{Ok, Err}
use Rattle.routine.specs.declared.refusal.Refusal.{Refusal}
use Rattle.routine.specs.declared.refusal.Refusal.TheVariants as Rf
use Rattle.routine.specs.declared.set.Set.{Set}
use Rattle.routine.specs.Limits.{most_turns}
use Rattle.routine.specs.Refusal.{shown, numbers, due_given, unless}
use Rattle.routine.specs.Reading.{reading}
use Rattle.text.specs.Lines.{refused_line}
use Rattle.playing.specs.Play.{turns_refusal, refusal_line, or_refused, playable, playing, file_first, turns_then}

module _ (f ts : List ℕ) where
  -- 1, 2 and 3: what the reader shows
  pub shows_file : (r : Refusal) → reading f ≡ Err r → playing f ts ≡ refused_line (numbers (reading f)).number (numbers (reading f)).block
  unfolding playing or_refused refusal_line numbers
  shows_file r e = rw (file_first f ts r e, e)

  -- 8: "program only: more than 4,096 turns"
  pub shows_8 : (s : Set) → reading f ≡ Ok s → most_turns < length ts → playing f ts ≡ refused_line 8 0
  unfolding playing playable turns_refusal unless or_refused refusal_line shown
  shows_8 s e h = rw (turns_then f ts s e ∙ due_given _ Rf.Turns (lt-ltb _ _ h))
