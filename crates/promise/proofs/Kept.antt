-- What holds of every table that a play reaches from the fresh one.
use mathlib.Core.Path.{◌≡◌}
use mathlib.Core.Bool.{true}
use mathlib.Core.List.{List, [], ◌∷◌}
use Prim.Native.Nat.{ℕ, ◌+◌, ◌≤◌}
use native.Mathlib.Nat.{add-zero, zero-add, add_assoc}
use lib.ListN.{length}
use Rattle.routine.specs.Limits.{table_words}
use Rattle.routine.specs.Routines.{Routines, base_now}
use Rattle.routine.specs.Rules.{WellFormed, KeepsRules}
use Rattle.rules.specs.Table.{call, fresh}
use Rattle.rules.specs.Consistent.{consistent}
use Rattle.rules.specs.Turn.{turned}
use Rattle.rules.proofs.Sentences.{Consistent, means_consistent}
use Rattle.promise.specs.Play.{play, one_if_moves, moved_in, TurnsBy, a_turn}
use Rattle.promise.specs.Waiting.{Waiting}
use Rattle.promise.specs.Books.{Balanced}
use Rattle.promise.proofs.ConsistencyKept.{turn_frame, turn_size, turn_sentences}
use Rattle.promise.proofs.FreshTable.{fresh_zero, fresh_sentences}
use Rattle.promise.proofs.WaitingKept.{step_waiting, fresh_waiting}
use Rattle.promise.proofs.BooksKept.{step_balanced, fresh_balanced}

-- consistency, and who waits: kept over every well-formed file
pub record Kept (S : Routines) (t : List ℕ) : Type 0 where
  pub size : length t ≡ table_words
  pub sentences : Consistent S t
  pub waiting : Waiting S t

pub fresh_kept : (S : Routines) → Kept S fresh
fresh_kept S = record { size = fresh_zero.size; sentences = fresh_sentences S; waiting = fresh_waiting S }

module _ (S : Routines) (g : WellFormed S) where
  pub turn_kept : (t : List ℕ) (p : ℕ) → Kept S t → 1 ≤ p → p ≤ S.N → Kept S (turned S t p)
  turn_kept t p k lo hi = record {
    size = turn_size S g t k.size k.sentences p lo hi;
    sentences = turn_sentences S g t k.size k.sentences p lo hi;
    waiting = step_waiting S g t (turned S t p) p (base_now S p (call t p)) (one_if_moves S t p) k.sentences lo hi (turn_frame S g t k.size k.sentences p lo hi) k.waiting;
  }

  pub play_kept : (t : List ℕ) (ps : List ℕ) → Kept S t → TurnsBy S.N ps → Kept S (play S t ps)
  unfolding play
  play_kept t [] k ts = k
  play_kept t (p ∷ ps) k (a_turn lo hi ts) = play_kept (turned S t p) ps (turn_kept t p k lo hi) ts

  -- every table reached is consistent, and nobody in it sleeps on: so it is at the start, and each turn keeps it
  pub reached_kept : (ps : List ℕ) → TurnsBy S.N ps → Kept S (play S fresh ps)
  reached_kept ps ts = play_kept fresh ps (fresh_kept S) ts

  pub reached_consistent : (ps : List ℕ) → TurnsBy S.N ps → consistent S (play S fresh ps) ≡ true
  reached_consistent ps ts = means_consistent S (play S fresh ps) (reached_kept ps ts).sentences

  module _ (js : KeepsRules S) where
    play_balanced : (t : List ℕ) (m : ℕ) (ps : List ℕ) → Kept S t → Balanced S t m → TurnsBy S.N ps → Balanced S (play S t ps) (m + moved_in S t ps)
    unfolding play moved_in
    play_balanced t m [] k bal ts = rw add-zero bal
    play_balanced t m (p ∷ ps) k bal (a_turn lo hi ts) =
        rw (← add_assoc m (one_if_moves S t p)) (play_balanced (turned S t p) (m + one_if_moves S t p) ps (turn_kept t p k lo hi)
        (step_balanced S g js t (turned S t p) p (base_now S p (call t p)) (one_if_moves S t p) k.sentences lo hi (turn_frame S g t k.size k.sentences p lo hi) m bal) ts)

    -- the books balance at every table reached: each turn that moves is paid for when it is made
    pub reached_balanced : (ps : List ℕ) → TurnsBy S.N ps → Balanced S (play S fresh ps) (moved_in S fresh ps)
    reached_balanced ps ts = rw zero-add at (play_balanced fresh 0 ps (fresh_kept S) (fresh_balanced S) ts)
