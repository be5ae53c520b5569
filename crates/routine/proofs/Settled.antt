-- The contracts settle everything: any two answers that the contract of a public call allows are equal.
use mathlib.Core.Path.{◌≡◌, refl, sym, ◌∙◌}
use mathlib.Core.Bool.{true, false, cond}
use mathlib.Core.List.{List}
use Prim.Native.Nat.{ℕ}
use lib.Dec.{eqb}
use contract.Lifetimes.{Lfts}
use Rattle.std.specs.Prelude.{Result, Ok, Err, MatchResult}
use Rattle.routine.specs.declared.refusal.Refusal.{Refusal}
use Rattle.routine.specs.declared.set.Set.{Set}
use Rattle.routine.specs.declared.good_file.GoodFile.{GoodFile}
use Rattle.routine.specs.declared.kind.Kind.{Kind}
use Rattle.routine.specs.declared.kind.Kind.TheVariants as Ki
use Rattle.routine.specs.Refusal.{ok_err}
use Rattle.routine.specs.Test.{and, within, clash}
use Rattle.routine.specs.Routines.{modlock, readlock, unlock, decrease}
use Rattle.routine.specs.Kind.{kind_number}
use Rattle.routine.specs.GoodFile.{file_bytes, file_set}
use Rattle.routine.proofs.Numbered.{one_answer}
use Rattle.routine.proofs.read.Reads as read_reads
use Rattle.routine.proofs.judge.Reads as judge_reads
use Rattle.routine.proofs.calls.calls_in.Reads as calls_reads
use Rattle.routine.proofs.calls.call_at.Reads as call_reads
use Rattle.routine.proofs.holds.mark.Reads as mark_reads
use Rattle.routine.proofs.holds.fine.Reads as fine_reads
use Rattle.routine.proofs.holds.mark_in.Reads as mark_in_reads
use Rattle.routine.proofs.holds.marked.Reads as marked_reads
use Rattle.routine.proofs.range.within.Reads as within_reads
use Rattle.routine.proofs.set.Set.new.Reads as set_reads
use Rattle.routine.proofs.set.Set.limits.Reads as limits_reads
use Rattle.routine.proofs.refusal.Shown.new.Reads as shown_reads
use Rattle.routine.proofs.refusal.Shown.none.Reads as none_reads
use Rattle.routine.proofs.refusal.ShownFromRefusal.from.Reads as from_reads
use Rattle.routine.proofs.kind.KindTryFromUsize.try_from.Reads as kind_reads
use Rattle.routine.proofs.kind.UsizeFromKind.from.Reads as kind_number_reads
use Rattle.routine.proofs.good_file.GoodFile.read.Reads as good_reads
use Rattle.routine.proofs.good_file.GoodFile.bytes.Reads as good_bytes_reads
use Rattle.routine.proofs.good_file.GoodFile.set.Reads as good_set_reads
use Rattle.routine.proofs.good_file.GoodFile.processes.Reads as good_processes_reads
use Rattle.routine.proofs.good_file.GoodFile.calls_in.Reads as good_calls_reads
use Rattle.routine.proofs.good_file.GoodFile.call_at.Reads as good_call_reads

pub read_settled : (κs : Lfts 1) (a : _) (r s : _) (x y : _) → read_reads.Post κs a r x → read_reads.Post κs a s y → r ≡ s
read_settled κs a r s x y p q = p ∙ sym q

pub judge_settled : (κs : Lfts 1) (a : _) (r s : _) (x y : _) → judge_reads.Post κs a r x → judge_reads.Post κs a s y → r ≡ s
judge_settled κs a r s x y p q = p ∙ sym q

pub calls_settled : (κs : Lfts 1) (a : _) (r s : _) (x y : _) → calls_reads.Post κs a r x → calls_reads.Post κs a s y → r ≡ s
calls_settled κs a r s x y p q = p ∙ sym q

pub call_settled : (κs : Lfts 1) (a : _) (r s : _) (x y : _) → call_reads.Post κs a r x → call_reads.Post κs a s y → r ≡ s
call_settled κs a r s x y p q = p ∙ sym q

pub mark_settled : (κs : Lfts 0) (a : _) (r s : _) (x y : _) → mark_reads.Post κs a r x → mark_reads.Post κs a s y → r ≡ s
mark_settled κs a r s x y p q = p ∙ sym q

pub fine_settled : (κs : Lfts 0) (a : _) (r s : _) (x y : _) → fine_reads.Post κs a r x → fine_reads.Post κs a s y → r ≡ s
fine_settled κs a r s x y p q = p ∙ sym q

pub mark_in_settled : (κs : Lfts 0) (a : _) (r s : _) (x y : _) → mark_in_reads.Post κs a r x → mark_in_reads.Post κs a s y → r ≡ s
mark_in_settled κs a r s x y p q = p ∙ sym q

pub marked_settled : (κs : Lfts 0) (a : _) (r s : _) (x y : _) → marked_reads.Post κs a r x → marked_reads.Post κs a s y → r ≡ s
marked_settled κs a r s x y p q = p ∙ sym q

pub within_settled : (κs : Lfts 0) (a : _) (r s : _) (x y : _) → within_reads.Post κs a r x → within_reads.Post κs a s y → r ≡ s
within_settled κs a r s x y p q = p ∙ sym q

pub set_settled : (κs : Lfts 0) (a : _) (r s : _) (x y : _) → set_reads.Post κs a r x → set_reads.Post κs a s y → r ≡ s
set_settled κs a r s x y p q = p ∙ sym q

pub limits_settled : (κs : Lfts 0) (a : _) (r s : _) (x y : _) → limits_reads.Post κs a r x → limits_reads.Post κs a s y → r ≡ s
limits_settled κs a r s x y p q = p ∙ sym q

pub shown_settled : (κs : Lfts 0) (a : _) (r s : _) (x y : _) → shown_reads.Post κs a r x → shown_reads.Post κs a s y → r ≡ s
shown_settled κs a r s x y p q = p ∙ sym q

pub none_settled : (κs : Lfts 0) (a : _) (r s : _) (x y : _) → none_reads.Post κs a r x → none_reads.Post κs a s y → r ≡ s
none_settled κs a r s x y p q = p ∙ sym q

pub from_settled : (κs : Lfts 0) (a : _) (r s : _) (x y : _) → from_reads.Post κs a r x → from_reads.Post κs a s y → r ≡ s
from_settled κs a r s x y p q = p ∙ sym q

pub kind_number_settled : (κs : Lfts 0) (a : _) (r s : _) (x y : _) → kind_number_reads.Post κs a r x → kind_number_reads.Post κs a s y → r ≡ s
kind_number_settled κs a r s x y p q = p ∙ sym q

-- the kind of each number, to 4
by_number : ℕ → Kind
by_number n = cond (eqb n modlock) Ki.Modlock (cond (eqb n readlock) Ki.Readlock (cond (eqb n unlock) Ki.Unlock Ki.Decrease))

number_is : (kind : Kind) → (by_number (kind_number kind) ≡ kind) × (within modlock decrease (kind_number kind) ≡ true)
unfolding by_number kind_number within and
number_is Ki.Modlock = (refl, refl)
number_is Ki.Readlock = (refl, refl)
number_is Ki.Unlock = (refl, refl)
number_is Ki.Decrease = (refl, refl)

pub kind_settled : (κs : Lfts 0) (a : _) (r s : _) (x y : _) → kind_reads.Post κs a r x → kind_reads.Post κs a s y → r ≡ s
kind_settled κs a r s x y p q =
    one_answer kind_number by_number (λ kind. (number_is kind).0) (λ n. within modlock decrease n ≡ false) (λ kind none. clash (number_is kind).1 none) (λ n. record { 0 = n }) (λ e. e.0) (λ e. refl) a.0 r s p q

pub good_bytes_settled : (κs : Lfts 1) (a : _) (r s : _) (x y : _) → good_bytes_reads.Post κs a r x → good_bytes_reads.Post κs a s y → r.now ≡ s.now
good_bytes_settled κs a r s x y p q = p ∙ sym q

pub good_set_settled : (κs : Lfts 1) (a : _) (r s : _) (x y : _) → good_set_reads.Post κs a r x → good_set_reads.Post κs a s y → r ≡ s
good_set_settled κs a r s x y p q = p ∙ sym q

pub good_processes_settled : (κs : Lfts 1) (a : _) (r s : _) (x y : _) → good_processes_reads.Post κs a r x → good_processes_reads.Post κs a s y → r ≡ s
good_processes_settled κs a r s x y p q = p.0 ∙ sym q.0

pub good_calls_settled : (κs : Lfts 1) (a : _) (r s : _) (x y : _) → good_calls_reads.Post κs a r x → good_calls_reads.Post κs a s y → r ≡ s
good_calls_settled κs a r s x y p q = p ∙ sym q

pub good_call_settled : (κs : Lfts 1) (a : _) (r s : _) (x y : _) → good_call_reads.Post κs a r x → good_call_reads.Post κs a s y → r ≡ s
good_call_settled κs a r s x y p q = p ∙ sym q

-- a file is read into the same set and bytes, or refused for the same reason
abbrev pub SameGood : Result GoodFile Refusal → Result GoodFile Refusal → Type 0
SameGood (Ok g) (Ok h) = (file_set g ≡ file_set h) × (file_bytes g ≡ file_bytes h)
SameGood (Err q) (Err r) = q ≡ r
SameGood (Ok g) (Err r) = ⊥
SameGood (Err q) (Ok h) = ⊥

-- what a contract says of an answer that is the file's bytes with the set of this answer, or its refusal
abbrev pub Gives : Result Set Refusal → List ℕ → Result GoodFile Refusal → Type 0
Gives due f r = MatchResult r (λ g. (due ≡ Ok (file_set g)) × (file_bytes g ≡ f)) (λ q. due ≡ Err q)

pub same_good : (due : Result Set Refusal) (f : List ℕ) (r s : Result GoodFile Refusal) → Gives due f r → Gives due f s → SameGood r s
same_good due f (Ok g) (Ok h) p q = (ok_same (sym p.0 ∙ q.0), p.1 ∙ sym q.1)
  where
    ok_same : {a b : Set} → ◌≡◌ {A = Result Set Refusal} (Ok a) (Ok b) → a ≡ b
    ok_same e = cc
same_good due f (Err o) (Err r) p q = err_same (sym p ∙ q)
  where
    err_same : {a b : Refusal} → ◌≡◌ {A = Result Set Refusal} (Err a) (Err b) → a ≡ b
    err_same e = cc
same_good due f (Ok g) (Err r) p q = absurd (ok_err _ _ (sym p.0 ∙ q))
same_good due f (Err o) (Ok h) p q = absurd (ok_err _ _ (sym q.0 ∙ p))

pub good_settled : (κs : Lfts 1) (a : _) (r s : _) (x y : _) → good_reads.Post κs a r x → good_reads.Post κs a s y → SameGood r s
good_settled κs a r s x y p q = same_good _ _ r s p q
