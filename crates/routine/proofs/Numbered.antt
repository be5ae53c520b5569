-- An enum whose cases have numbers, and an error that names a number that none of them has: of a number there is one answer.
use Rattle.std.proofs.Common.{◌≡◌, ℕ, Ok, Err, sym, ap, ◌∙◌}
use Rattle.std.specs.Prelude.{Result, MatchResult}

module _ {A E : Type 0} (number : A → ℕ) (case : ℕ → A) (back : (a : A) → case (number a) ≡ a) (NoCase : ℕ → Type 0) (some : (a : A) → NoCase (number a) → ⊥)
    (error : ℕ → E) (named : E → ℕ) (again : (e : E) → error (named e) ≡ e) where
  abbrev pub Answers : ℕ → Result A E → Type 0
  Answers n r = MatchResult r (λ a. number a ≡ n) (λ e. (named e ≡ n) × NoCase n)

  pub one_answer : (n : ℕ) (r s : Result A E) → Answers n r → Answers n s → r ≡ s
  one_answer n (Ok a) (Ok b) p q = ap Ok (sym (back a) ∙ ap case (p ∙ sym q) ∙ back b)
  one_answer n (Ok a) (Err e) p q = absurd (some a (rw p q.1))
  one_answer n (Err d) (Ok b) p q = absurd (some b (rw q p.1))
  one_answer n (Err d) (Err e) p q = ap Err (sym (again d) ∙ ap error (p.0 ∙ sym q.0) ∙ again e)
