-- A place in a table as the code works it out: the definition's place, or, where that is past the table's end, some place past it. Reads and writes are the same at either.
use Rattle.std.specs.Prelude.{◌≡◌, refl, List, ℕ, ◌+◌, ◌-◌, ◌^◌, ◌≤◌, ◌<◌, min, length, get_or, set}
use Rattle.std.proofs.Common.{sym, ap, ◌∙◌, arith, add-zero, length-set}
use Rattle.std.proofs.Math.Decide.{dec_le}
use Rattle.std.proofs.Math.ListN.{get_or-eq_default}
use Rattle.std.proofs.Math.Seq.{set_out}
use Rattle.words.specs.declared.Field.{Field}
use Rattle.words.specs.Place.{place}

pub record Placed (t : List ℕ) (i r : ℕ) : Type 0 where
  pub there : i < length t → r ≡ i
  pub past : length t ≤ i → length t ≤ r

-- stores into the table t left u, which is w, as long as t
pub record Stores (t u w : List ℕ) : Type 0 where
  pub left : u ≡ w
  pub size : length w ≡ length t

-- no table reaches the machine's largest number, at which the code stops counting
pub placed : (t : List ℕ) (f : Field) (n : ℕ) → length t ≤ 2 ^ 64 - 1 → Placed t (place f n) (min (place f n) (2 ^ 64 - 1))
placed t f n h = record { there = λ l. omega arith; past = λ l. omega arith }

pub no_stores : (t : List ℕ) → Stores t t t
no_stores t = record { left = refl; size = refl }

module _ (t : List ℕ) (i r : ℕ) (at : Placed t i r) where
  -- the word k places on
  pub word_placed : (k : ℕ) → get_or t (r + k) 0 ≡ get_or t (i + k) 0
  word_placed k = elim (dec_le (length t) i) [
    | yes h ↦ let g = at.past h in get_or-eq_default t 0 {n = r + k} (omega arith) ∙ sym (get_or-eq_default t 0 {n = i + k} (omega arith))
    | no h ↦ ap (λ n. get_or t (n + k) 0) (at.there (omega arith))
  ]

  pub word_here : get_or t r 0 ≡ get_or t i 0
  word_here = simp add-zero at (word_placed 0)

  put_placed : (u : List ℕ) → length u ≡ length t → (k v : ℕ) → set u (r + k) v ≡ set u (i + k) v
  put_placed u len k v = elim (dec_le (length t) i) [
    | yes h ↦ let g = at.past h in set_out u (r + k) v (omega arith) ∙ sym (set_out u (i + k) v (omega arith))
    | no h ↦ ap (λ n. set u (n + k) v) (at.there (omega arith))
  ]

  -- a store k places on, after others that left the table w
  pub put_next : (u v w : List ℕ) (k x : ℕ) → Stores t u w → v ≡ set u (r + k) x → Stores t v (set w (i + k) x)
  put_next u v w k x s stored = record {
    left = stored ∙ ap (λ z. set z (r + k) x) s.left ∙ put_placed w s.size k x;
    size = simp length-set s.size;
  }

  pub put_here : (u v w : List ℕ) (x : ℕ) → Stores t u w → v ≡ set u r x → Stores t v (set w i x)
  put_here u v w x s stored = record {
    left = stored ∙ ap (λ z. set z r x) s.left ∙ simp add-zero at (put_placed w s.size 0 x);
    size = simp length-set s.size;
  }
