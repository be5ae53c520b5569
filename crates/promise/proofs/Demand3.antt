-- Demand 3, over every file that the judge passes and every order of turns.
use mathlib.Core.Path.{◌≡◌, refl, sym, ap, ◌∙◌}
use mathlib.Core.Bool.{cond}
use mathlib.Core.List.{List}
use Prim.Native.Nat.{ℕ, ◌≤◌}
use native.Mathlib.Omega.{arith}
use Rattle.std.specs.Prelude.{Option, Some, None, Ok}
use Rattle.routine.specs.declared.refusal.Refusal.{Refusal}
use Rattle.routine.specs.Test.{is_within}
use Rattle.routine.specs.Refusal.{numbers, shown_first}
use Rattle.routine.specs.Routines.{Routines, routines}
use Rattle.routine.specs.Rules.{WellFormed, KeepsRules}
use Rattle.routine.proofs.Passing.{passed}
use Rattle.routine.proofs.Refused.{shows_some}
use Rattle.rules.specs.Table.{fresh}
use Rattle.rules.specs.declared.Answer.TheVariants as An
use Rattle.rules.specs.Answers.{table_refusal, turning, turned_table}
use Rattle.rules.specs.Turn.{moves, turned}
use Rattle.rules.proofs.Numbers.{answer_numbers_lem}
use Rattle.rules.proofs.Orders.{due_none, due_nothing, turn_goes}
use Rattle.rules.proofs.Sentences.{Consistent}
use Rattle.promise.specs.Play.{play, moved_in, TurnsBy}
use Rattle.promise.specs.Promise.{Promised, Promise, Demand3}
use Rattle.promise.proofs.ConsistencyKept.{lock_modifies}
use Rattle.promise.proofs.Standings.{standing_finished, finished_standing, standing_small}
use Rattle.promise.proofs.NeverStuck.{modifier_alone, none_stopped, never_stuck}
use Rattle.promise.proofs.BooksKept.{paid_total}
use Rattle.promise.proofs.Kept.{Kept, reached_kept, reached_consistent, reached_balanced}

-- what the judge's rules promise of every play: all four rest on what each turn keeps
pub demand_3_rules : (S : Routines) → WellFormed S → KeepsRules S → (turns : List ℕ) → TurnsBy S.N turns → Promised S (play S fresh turns) (moved_in S fresh turns)
demand_3_rules S g js turns ts =
    let t : List ℕ = play S fresh turns in
    let k : Kept S t = reached_kept S g turns ts in
    let o : Consistent S t = k.sentences in
    let bal = reached_balanced S g js turns ts in
    record {
      no_logic_error = none_stopped S g js t o;
      alone = modifier_alone S g t o;
      lock_modifies = λ b p bl bh. (lock_modifies (o.base b bl bh)).by p;
      modifies_lock = λ b p bl bh. (lock_modifies (o.base b bl bh)).of p;
      not_both = λ b bl bh. (o.base b bl bh).not_both;
      never_stuck = let low = standing_small S t in let n = never_stuck S g js t o k.size k.waiting in omega arith;
      end_finished = finished_standing S t;
      finished_end = standing_finished S t;
      bounded = omega (arith, bal.balance, paid_total S g js t o);
    }

-- over a file that the judge passes, the turns of a play are never refused and keep the promise
pub demand_3 : Demand3
unfolding numbers
demand_3 f j turns ts =
    let g = passed f j in
    let t : List ℕ = play (routines f) fresh turns in
    let k = reached_kept (routines f) g.well_formed turns ts in
    let free : table_refusal f t ≡ None = due_none f t g.not_refused k.size (reached_consistent (routines f) g.well_formed turns ts) in
    record {
      not_refused = λ p lo hi. ap (λ a. (numbers a).number) (turn_goes f t p (due_nothing f t p free (is_within 1 (routines f).N p lo hi))).0;
      promised = demand_3_rules (routines f) g.well_formed g.keeps turns ts;
    }

-- where the number shown is 0, nothing is refused
none_shown : (o : Option Refusal) → (shown_first o).number ≡ 0 → o ≡ None
unfolding shown_first
none_shown None e = refl
none_shown (Some r) e = absurd (omega (arith, shows_some r))

-- so what the call answers and leaves at a table of the play is the play's next turn
pub turn_called : (f turns : List ℕ) → Promise f turns → (p : ℕ) → 1 ≤ p → p ≤ (routines f).N
    → (turning f (play (routines f) fresh turns) p ≡ Ok (cond (moves (routines f) (play (routines f) fresh turns) p) An.Moved An.Idle))
    × (turned_table f (play (routines f) fresh turns) p ≡ turned (routines f) (play (routines f) fresh turns) p)
turn_called f turns k p lo hi = turn_goes f _ p (none_shown _ (ap (λ s. s.number) (sym (answer_numbers_lem f _ p)) ∙ k.not_refused p lo hi))
