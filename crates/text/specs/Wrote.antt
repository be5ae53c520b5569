-- Text is put into a lent buffer, byte after byte from a place on: `sets old at bytes` is the buffer with these bytes at that place.
use Rattle.std.specs.Prelude.{◌≡◌, refl, List, [], ◌∷◌, ◌++◌, ℕ, suc, ◌+◌, ◌≤◌, length, take, drop, set}
use Rattle.std.proofs.Common.{sym, ◌∙◌, arith, length-append}
use Rattle.std.proofs.lemmas.List.Edits.{sets, sets-eq}
use Rattle.std.proofs.Math.Seq.{take-append_seam}

-- exactly these bytes were put at this place, and `next` is the place after them
pub record Wrote (old new : List ℕ) (at : ℕ) (bytes : List ℕ) (next : ℕ) : Type 0 where
  pub is : new ≡ sets old at bytes
  pub ends : next ≡ at + length bytes
  pub size : length new ≡ length old

-- ---- laws

pub sets_append : (xs ys l : List ℕ) (at : ℕ) → sets l at (xs ++ ys) ≡ sets (sets l at xs) (at + length xs) ys
sets_append [] ys l at = let e : at + 0 ≡ at = omega arith in rw e
sets_append (x ∷ xs) ys l at =
    let e : at + suc (length xs) ≡ suc at + length xs = omega arith in
    rw e (sets_append xs ys (set l at x) (suc at))

-- one text and then another
pub then : {a b c xs ys : List ℕ} {at m n : ℕ} → Wrote a b at xs m → Wrote b c m ys n → Wrote a c at (xs ++ ys) n
then {a} {b} {c} {xs} {ys} {at} {m} {n} v w = record {
  is = rw (sets_append xs ys a at, ← v.is, ← v.ends) w.is;
  ends = rw (length-append xs ys) (omega arith);
  size = w.size ∙ v.size;
}

-- what was put at the start of a buffer that has room stands there
pub at_start : (old bytes : List ℕ) → length bytes ≤ length old → take (length bytes) (sets old 0 bytes) ≡ bytes
at_start old bytes h = let r : 0 + length bytes ≤ length old = omega arith in rw (sets-eq bytes old 0 r) (take-append_seam bytes (drop (0 + length bytes) old))

-- these bytes are still to be put, so that in the end `bytes₀` will stand at `at₀` of the buffer `old`
pub record Rest (old : List ℕ) (at₀ : ℕ) (bytes₀ : List ℕ) (new : List ℕ) (at : ℕ) (bytes : List ℕ) : Type 0 where
  pub is : sets new at bytes ≡ sets old at₀ bytes₀
  pub ends : at + length bytes ≡ at₀ + length bytes₀
  pub size : length new ≡ length old

pub rest_all : (a : List ℕ) (at : ℕ) (xs : List ℕ) → Rest a at xs a at xs
rest_all a at xs = record { is = refl; ends = refl; size = refl }

pub rest_less : {a b c xs ys zs : List ℕ} {at m n : ℕ} → Rest a at xs b m (ys ++ zs) → Wrote b c m ys n → Rest a at xs c n zs
rest_less {a} {b} {c} {xs} {ys} {zs} {at} {m} {n} r w = record {
  is = rw (w.is, w.ends) (sym (sets_append ys zs b m) ∙ r.is);
  ends = omega (arith, length-append ys zs, r.ends, w.ends);
  size = w.size ∙ r.size;
}

pub rest_none : {a b xs : List ℕ} {at m : ℕ} → Rest a at xs b m [] → Wrote a b at xs m
rest_none {a} {b} {xs} {at} {m} r = record { is = r.is; ends = omega (arith, r.ends); size = r.size }

pub rest_put : {a b c xs ys : List ℕ} {at m n : ℕ} → Rest a at xs b m ys → Wrote b c m ys n → Wrote a c at xs n
rest_put {a} {b} {c} {xs} {ys} {at} {m} {n} r w = record { is = w.is ∙ r.is; ends = omega (arith, r.ends, w.ends); size = w.size ∙ r.size }

-- it settles the buffer and the place
pub settled : {a b c xs : List ℕ} {at m n : ℕ} → Wrote a b at xs m → Wrote a c at xs n → (m ≡ n) × (b ≡ c)
settled v w = (v.ends ∙ sym w.ends, v.is ∙ sym w.is)
