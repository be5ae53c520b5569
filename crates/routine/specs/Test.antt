-- Tests: Bools that compute, and what it means that one is true.
use Rattle.std.specs.Prelude.{◌≡◌, refl, Bool, true, false, ℕ, ◌≤◌, ◌<◌, leb}
use Rattle.std.proofs.Common.{arith, leb-true, le-leb}
use Rattle.std.proofs.lemmas.Bool.{lt-leb}

unfoldable pub and : Bool → Bool → Bool
and true b = b
and false b = false

unfoldable pub implies : Bool → Bool → Bool
implies true b = b
implies false b = true

-- v is low to high
unfoldable pub within : ℕ → ℕ → ℕ → Bool
within low high v = and (leb low v) (leb v high)

-- ---- laws

pub clash : {b : Bool} → b ≡ true → b ≡ false → ⊥
clash t f = let z : ◌≡◌ {A = ℕ} 0 1 = cc in omega arith

-- a Bool is one of the two
pub by_test : {P : Type 0} (b : Bool) → (b ≡ true → P) → (b ≡ false → P) → P
by_test true f g = f refl
by_test false f g = g refl

pub and_left : (a b : Bool) → and a b ≡ true → a ≡ true
unfolding and
and_left true b e = refl
and_left false b e = e

pub and_right : (a b : Bool) → and a b ≡ true → b ≡ true
unfolding and
and_right true b e = e
and_right false b e = absurd (clash e refl)

pub and_skip : (a b : Bool) → a ≡ true → and a b ≡ b
unfolding and
and_skip a b e = rw e

pub and_stop : (a b : Bool) → a ≡ false → and a b ≡ false
unfolding and
and_stop a b e = rw e

pub and_end : (a b : Bool) → b ≡ true → and a b ≡ a
unfolding and
and_end true b e = e
and_end false b e = refl

pub both : {a b : Bool} → a ≡ true → b ≡ true → and a b ≡ true
unfolding and
both e f = rw (e, f)

pub implied : (a b : Bool) → implies a b ≡ true → a ≡ true → b ≡ true
unfolding implies
implied true b e t = e
implied false b e t = absurd (clash t refl)

pub implying : (a b : Bool) → (a ≡ true → b ≡ true) → implies a b ≡ true
unfolding implies
implying true b f = f refl
implying false b f = refl

pub within_is : (low high v : ℕ) → within low high v ≡ true → (low ≤ v) × (v ≤ high)
unfolding within
within_is low high v e = (leb-true _ _ (and_left _ _ e), leb-true _ _ (and_right (leb low v) _ e))

pub is_within : (low high v : ℕ) → low ≤ v → v ≤ high → within low high v ≡ true
unfolding within
is_within low high v l h = both (le-leb _ _ l) (le-leb _ _ h)

pub and_false : (a : Bool) → and a false ≡ false
unfolding and
and_false true = refl
and_false false = refl

pub below_within : (low high v : ℕ) → v < low → within low high v ≡ false
unfolding within and
below_within low high v h = simp (lt-leb _ _ h)

pub above_within : (low high v : ℕ) → high < v → within low high v ≡ false
unfolding within
above_within low high v h = rw (lt-leb _ _ h) (and_false (leb low v))
