-- The marks of one process as an array of sixteen, base b's at b - 1.
use Rattle.std.specs.Prelude.{◌≡◌, refl, ◌≢◌, cond, List, ℕ, ◌+◌, ◌-◌, ◌≤◌, length, get_or, set, replicate}
use Rattle.std.proofs.Common.{sym, ap, ◌∙◌, subst, arith, add-one, eq-eqb, ne_eqb, length-set, get_or-set_same, get_or-set_other}
use Rattle.std.proofs.Math.Decide.{ℕ_discrete}
use Rattle.std.proofs.lemmas.List.{get_or-replicate}
use Rattle.routine.specs.Test.{within, is_within}
use Rattle.routine.specs.Limits.{most_bases}
use Rattle.routine.specs.Routines.{Routines, free, mark, hold}

-- the mark of base b in a row; a base that is not 1 to 16 is free
unfoldable pub mark_in : List ℕ → ℕ → ℕ
mark_in row b = cond (within 1 most_bases b) (get_or row (b - 1) 0) free

-- the row after a call of this kind on base b
unfoldable pub marked_row : List ℕ → ℕ → ℕ → List ℕ
marked_row row kind b = cond (within 1 most_bases b) (set row (b - 1) (mark kind (get_or row (b - 1) 0))) row

-- a row is what process p holds when it has completed k calls
pub record RowOf (row : List ℕ) (S : Routines) (p k : ℕ) : Type 0 where
  pub size : length row ≡ most_bases
  pub at : (b : ℕ) → 1 ≤ b → b ≤ most_bases → mark_in row b ≡ hold S p k b

-- ---- laws

pub in_row : (row : List ℕ) (b : ℕ) → 1 ≤ b → b ≤ most_bases → mark_in row b ≡ get_or row (b - 1) 0
unfolding mark_in
in_row row b lo hi = simp (is_within 1 most_bases b lo hi)

-- what a call on base c, of sixteen, does to the marks
module _ (row : List ℕ) (kind c : ℕ) (size : length row ≡ most_bases) (lo : 1 ≤ c) (hi : c ≤ most_bases) where
  stored : marked_row row kind c ≡ set row (c - 1) (mark kind (mark_in row c))
  unfolding marked_row mark_in
  stored = simp (is_within 1 most_bases c lo hi)

  marked_size : length (marked_row row kind c) ≡ most_bases
  marked_size = rw stored (simp length-set size)

  marked_here : mark_in (marked_row row kind c) c ≡ mark kind (mark_in row c)
  marked_here = in_row (marked_row row kind c) c lo hi ∙ rw stored (get_or-set_same row (c - 1) (mark kind (mark_in row c)) 0 (omega arith))

  marked_else : (b : ℕ) → 1 ≤ b → b ≤ most_bases → b ≢ c → mark_in (marked_row row kind c) b ≡ mark_in row b
  marked_else b l h ne =
      in_row (marked_row row kind c) b l h ∙ rw stored (get_or-set_other row (c - 1) (b - 1) (mark kind (mark_in row c)) 0 (λ z. ne (omega arith))) ∙ sym (in_row row b l h)

pub row_start : (S : Routines) (p : ℕ) → RowOf (replicate most_bases free) S p 0
unfolding hold
row_start S p = record {
  size = refl;
  at = λ b lo hi. in_row (replicate most_bases free) b lo hi ∙ get_or-replicate most_bases (b - 1) free 0 (omega arith);
}

pub row_more : (row : List ℕ) (S : Routines) (p k : ℕ) → 1 ≤ S.base p k → S.base p k ≤ most_bases → RowOf row S p k → RowOf (marked_row row (S.kind p k) (S.base p k)) S p (k + 1)
unfolding hold
row_more row S p k lo hi r = rw (add-one k) (record {
  size = marked_size row (S.kind p k) (S.base p k) r.size lo hi;
  at = λ b l h. elim (ℕ_discrete (S.base p k) b) [
    | yes e ↦ rw (eq-eqb (S.base p k) b e)
        (subst (λ c. mark_in (marked_row row (S.kind p k) (S.base p k)) c ≡ mark (S.kind p k) (hold S p k c)) e
        (marked_here row (S.kind p k) (S.base p k) r.size lo hi ∙ ap (mark (S.kind p k)) (r.at (S.base p k) lo hi)))
    | no ne ↦ rw (ne_eqb (S.base p k) b ne) (marked_else row (S.kind p k) (S.base p k) r.size lo hi b l h (λ z. ne (sym z)) ∙ r.at b l h)
  ];
})
