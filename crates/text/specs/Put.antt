-- Text is put into a lent buffer as far as there is room: a text that does not fit is cut off at the buffer's end.
use Rattle.std.specs.Prelude.{◌≡◌, refl, List, [], ◌∷◌, ◌++◌, ℕ, suc, ◌+◌, ◌-◌, ◌≤◌, ◌<◌, min, max, length}
use Rattle.std.proofs.Common.{sym, ◌∙◌, arith, length-append}
use Rattle.std.proofs.Math.Decide.{dec_le}
use Rattle.std.proofs.lemmas.List.Edits.{sets}
use Rattle.std.proofs.Math.Seq.{set_out}
use Rattle.text.specs.Wrote.{Wrote, sets_append}

-- the place after n bytes from a place on, in a buffer of this size
unfoldable pub after : ℕ → ℕ → ℕ → ℕ
after size at n = at + min n (size - at)

-- these bytes were put at this place, as far as there was room, and `next` is the place after them
pub record Put (old new : List ℕ) (at : ℕ) (bytes : List ℕ) (next : ℕ) : Type 0 where
  pub is : new ≡ sets old at bytes
  pub ends : next ≡ after (length old) at (length bytes)
  pub size : length new ≡ length old

-- ---- laws

sets_past : (xs l : List ℕ) (at : ℕ) → length l ≤ at → sets l at xs ≡ l
sets_past [] l at h = refl
sets_past (x ∷ xs) l at h = rw (set_out l at x h) (sets_past xs l (suc at) (omega arith))

after_fits : (size at n : ℕ) → at + n ≤ size → after size at n ≡ at + n
unfolding after
after_fits size at n h = omega arith

after_full : (size at n : ℕ) → size < at + n → (size ≤ after size at n) × ((k : ℕ) → after size (after size at n) k ≡ after size at (n + k))
unfolding after
after_full size at n h =
    let room : at + min n (size - at) ≡ max at size = omega arith in
    (omega arith, λ k. rw room (omega arith))

after_after : (size at m n : ℕ) → after size (after size at m) n ≡ after size at (m + n)
after_after size at m n = elim (dec_le (at + m) size) [
  | yes h ↦ rw (after_fits size at m h) (unfold after in omega arith)
  | no h ↦ (after_full size at m (omega arith)).1 n
]

-- a text goes on at the place after another, whether there is room or not
on_after : (l xs : List ℕ) (at n : ℕ) → sets l (after (length l) at n) xs ≡ sets l (at + n) xs
on_after l xs at n = elim (dec_le (at + n) (length l)) [
  | yes h ↦ rw (after_fits (length l) at n h)
  | no h ↦ sets_past xs l (after (length l) at n) (after_full (length l) at n (omega arith)).0 ∙ sym (sets_past xs l (at + n) (omega arith))
]

-- one text and then another
pub then : {a b c xs ys : List ℕ} {at m n : ℕ} → Put a b at xs m → Put b c m ys n → Put a c at (xs ++ ys) n
then {a} {b} {c} {xs} {ys} {at} {m} {n} v w =
    let goes : sets b m ys ≡ sets b (at + length xs) ys = rw (v.ends, ← v.size) (on_after b ys at (length xs)) in
    record {
      is = w.is ∙ goes ∙ rw v.is (sym (sets_append xs ys a at));
      ends = w.ends ∙ rw (length-append xs ys, v.size, v.ends) (after_after (length a) at (length xs) (length ys));
      size = w.size ∙ v.size;
    }

-- nothing
pub nothing : (a : List ℕ) (at : ℕ) → Put a a at [] at
unfolding after
nothing a at = record { is = refl; ends = omega arith; size = refl }

-- where there is room, the whole text is there
pub whole : {a b xs : List ℕ} {at n : ℕ} → Put a b at xs n → at + length xs ≤ length a → Wrote a b at xs n
whole {a} {b} {xs} {at} {n} w h = record { is = w.is; ends = w.ends ∙ after_fits (length a) at (length xs) h; size = w.size }

-- it settles the buffer and the place
pub settled : {a b c xs : List ℕ} {at m n : ℕ} → Put a b at xs m → Put a c at xs n → (m ≡ n) × (b ≡ c)
settled v w = (v.ends ∙ sym w.ends, v.is ∙ sym w.is)
