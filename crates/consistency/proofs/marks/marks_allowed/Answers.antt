-- The table's rule is one test that computes over all of it.
use native.Mathlib.Omega.{arith}
use mathlib.Core.Path.{◌≡◌, refl, sym, ap, ◌∙◌}
use Rattle.std.proofs.Common.{◌⊎◌}
use Rattle.std.proofs.lemmas.Bool.Decides.{nat_tests}
use mathlib.Core.Bool.{Bool, true, false, beq}
use Prim.Native.Nat.{ℕ, ◌≤◌, ◌<◌}
use lib.ListN.{get_or}
use mathlib.Core.List.{List, [], ◌∷◌}
use Rattle.routine.specs.Test.{and, within}
use Rattle.routine.specs.First.{first, every, every_at}
use Rattle.rules.specs.Consistent.{marks_allowed}
use Rattle.consistency.proofs.marks.marks_allowed.Goals as goal

none : List (List Bool)
none = (true ∷ false ∷ []) ∷ (false ∷ false ∷ []) ∷ []

one : List (List Bool)
one = (false ∷ true ∷ []) ∷ (true ∷ false ∷ []) ∷ []

table : List (List (List Bool))
table = none ∷ none ∷ one ∷ one ∷ one ∷ one ∷ none ∷ none ∷ []

right : ℕ → ℕ → ℕ → Bool
right ph w e = beq (get_or (get_or (get_or table ph []) w []) e false) (marks_allowed ph w e)

rule : every (λ ph. every (λ w. every (right ph w) 0 2) 0 2) 0 8 ≡ true
unfolding right table none one every first marks_allowed within and
rule = refl

same : (a b : Bool) → beq a b ≡ true → a ≡ b
same true true e = refl
same true false e = sym e
same false true e = e
same false false e = refl

at : (ph w e : ℕ) → ph < 8 → w < 2 → e < 2 → get_or (get_or (get_or table ph []) w []) e false ≡ marks_allowed ph w e
unfolding right
at ph w e hp hw he =
    same _ _ (every_at (right ph w) 0 2 (every_at (λ v. every (right ph v) 0 2) 0 2 (every_at (λ q. every (λ v. every (right q v) 0 2) 0 2) 0 8 rule ph (omega arith) hp) w (omega arith) hw) e (omega arith) he)

big : (ph w e : ℕ) → (1 < w) ⊎ ((w ≤ 1) × (1 < e)) → false ≡ marks_allowed ph w e
unfolding marks_allowed and within
big ph w e h = grind (arith, nat_tests)

pub returns-then-wake-gt1 : goal.returns-then-wake-gt1
returns-then-wake-gt1 c = big _ _ _ c.then-wake-gt1.either

pub returns : goal.returns
unfolding table none one
returns c = ap (λ i. get_or (get_or (get_or table i []) c.args.wake []) c.args.entry false) c.number.ensures.0 ∙ at _ c.args.wake c.args.entry (omega arith) (omega arith) (omega arith)
