-- Refusals, their numbers, and the order in which a call gives them.
use Rattle.std.specs.Prelude.{◌≡◌, refl, Bool, true, false, cond, List, [], ◌∷◌, ◌++◌, ℕ, Option, Some, None, Result, Ok, Err, IsErrAnd}
use Rattle.std.specs.Option.{option_or}
use Rattle.std.proofs.Common.{sym, ap, ◌∙◌, arith}
use Rattle.std.proofs.lemmas.Option.{none-some}
use Rattle.routine.specs.declared.refusal.Refusal.{Refusal}
use Rattle.routine.specs.declared.refusal.Refusal.TheVariants as Rf
use Rattle.routine.specs.declared.refusal.Shown.{Shown}

abbrev pub shown_of : ℕ → ℕ → ℕ → Shown
shown_of number block place = record { number = number; block = block; place = place }

abbrev pub none : Shown
none = shown_of 0 0 0

-- the document's number, block and call place of each refusal
unfoldable pub shown : Refusal → Shown
shown Rf.Length = shown_of 1 0 0
shown (Rf.Check block) = shown_of 2 block 0
shown (Rf.Fields block) = shown_of 3 block 0
shown (Rf.Routine block place) = shown_of 4 block place
shown Rf.Words = shown_of 5 0 0
shown Rf.Table = shown_of 6 0 0
shown Rf.Process = shown_of 7 0 0
shown Rf.Turns = shown_of 8 0 0

-- and of what a call answers: zeros where it refuses nothing
unfoldable pub numbers : {A : Type 0} → Result A Refusal → Shown
numbers (Ok a) = none
numbers (Err r) = shown r

-- a refusal that is due, or nothing
unfoldable pub given : Bool → Refusal → Option Refusal
given due r = cond due (Some r) None

-- the first that is due, in the order of the list
unfoldable pub first_due : List (Option Refusal) → Option Refusal
first_due [] = None
first_due (None ∷ rs) = first_due rs
first_due (Some r ∷ rs) = Some r

-- what is answered where nothing is due
unfoldable pub unless : {A : Type 0} → Option Refusal → A → Result A Refusal
unless None a = Ok a
unless (Some r) a = Err r

-- the numbers of the refusal that is due, or zeros
unfoldable pub shown_first : Option Refusal → Shown
shown_first None = none
shown_first (Some r) = shown r

-- ---- laws

pub some_none : (r : Refusal) → ◌≡◌ {A = Option Refusal} (Some r) None → ⊥
some_none r e = none-some r (sym e)

pub ok_err : {A : Type 0} (a : A) (r : Refusal) → ◌≡◌ {A = Result A Refusal} (Ok a) (Err r) → ⊥
ok_err a r e = let z : ◌≡◌ {A = ℕ} 0 1 = cc in omega arith

-- a refusal is due, or none is
pub by_due : {P : Type 0} (o : Option Refusal) → (o ≡ None → P) → ((r : Refusal) → o ≡ Some r → P) → P
by_due None f g = f refl
by_due (Some r) f g = g r refl

-- what `?` hands on is the refusal
pub handed_on : {A : Type 0} (answer : Result A Refusal) (r : Refusal) → IsErrAnd answer (λ e. e ≡ r) → answer ≡ Err r
handed_on (Ok a) r e = absurd e
handed_on (Err q) r e = ap Err e

pub unless_none : {A : Type 0} (o : Option Refusal) (a : A) → o ≡ None → unless o a ≡ Ok a
unfolding unless
unless_none o a e = rw e refl

pub unless_some : {A : Type 0} (o : Option Refusal) (a : A) (r : Refusal) → o ≡ Some r → unless o a ≡ Err r
unfolding unless
unless_some o a r e = rw e refl

pub err_unless : {A : Type 0} (o : Option Refusal) (a : A) (r : Refusal) → unless o a ≡ Err r → o ≡ Some r
unfolding unless
err_unless None a r e = absurd (ok_err a r e)
err_unless (Some q) a r e = cc

pub ok_unless : {A : Type 0} (o : Option Refusal) (a b : A) → unless o a ≡ Ok b → (o ≡ None) × (b ≡ a)
unfolding unless
ok_unless None a b e = (refl, cc)
ok_unless (Some q) a b e = absurd (ok_err b q (sym e))

-- the numbers of an answer are those of the refusal that is due
pub numbers_unless : {A : Type 0} (o : Option Refusal) (a : A) → numbers (unless o a) ≡ shown_first o
unfolding unless numbers shown_first
numbers_unless None a = refl
numbers_unless (Some r) a = refl

pub due_append : (rs ss : List (Option Refusal)) → first_due (rs ++ ss) ≡ option_or (first_due rs) (first_due ss)
unfolding first_due
due_append [] ss = refl
due_append (None ∷ rs) ss = due_append rs ss
due_append (Some r ∷ rs) ss = refl

-- a list of which nothing is due gives what follows it, and another what it gives itself
pub none_due : (rs ss : List (Option Refusal)) → first_due rs ≡ None → first_due (rs ++ ss) ≡ first_due ss
none_due rs ss e = due_append rs ss ∙ ap (λ o. option_or o (first_due ss)) e

pub some_due : (rs ss : List (Option Refusal)) (r : Refusal) → first_due rs ≡ Some r → first_due (rs ++ ss) ≡ Some r
some_due rs ss r e = due_append rs ss ∙ ap (λ o. option_or o (first_due ss)) e

pub only_due : (o : Option Refusal) → first_due (o ∷ []) ≡ o
unfolding first_due
only_due None = refl
only_due (Some r) = refl

pub due_given : (due : Bool) (r : Refusal) → due ≡ true → given due r ≡ Some r
unfolding given
due_given due r e = rw e refl

pub not_given : (due : Bool) (r : Refusal) → due ≡ false → given due r ≡ None
unfolding given
not_given due r e = rw e refl
