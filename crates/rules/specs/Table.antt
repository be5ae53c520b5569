-- The state table: 80 words, read by named accessors and written by named writers, with the laws of the one over the other.
-- Of the definitions only this file knows where a word stands, and of the code only `words`.
use Rattle.std.specs.Prelude.{◌≡◌, ◌≢◌, List, ℕ, ◌+◌, ◌-◌, ◌*◌, ◌≤◌, ◌<◌, length, get_or, set, replicate}
use Rattle.std.proofs.Common.{◌∙◌, arith, length-set, get_or-set_same, get_or-set_other}
use Rattle.routine.specs.Limits.{most_processes, most_bases, base_words, process_words, table_words}
use Rattle.rules.specs.declared.Words.{Words}

-- "Base b, from word 3 × (b − 1): LOCK (0 or a process), NOMORE (0 or 1), COUNT (readers)"
unfoldable pub base_at : ℕ → ℕ
base_at b = base_words * (b - 1)

unfoldable pub lock : List ℕ → ℕ → ℕ
lock t b = get_or t (base_at b) 0

unfoldable pub nomore : List ℕ → ℕ → ℕ
nomore t b = get_or t (base_at b + 1) 0

unfoldable pub count : List ℕ → ℕ → ℕ
count t b = get_or t (base_at b + 2) 0

-- "Process p, from word 48 + 4 × (p − 1): CALL (calls completed), PHASE, WAKE, ENTRY"
unfoldable pub process_at : ℕ → ℕ
process_at p = base_words * most_bases + process_words * (p - 1)

unfoldable pub call : List ℕ → ℕ → ℕ
call t p = get_or t (process_at p) 0

unfoldable pub phase : List ℕ → ℕ → ℕ
phase t p = get_or t (process_at p + 1) 0

unfoldable pub wake : List ℕ → ℕ → ℕ
wake t p = get_or t (process_at p + 2) 0

unfoldable pub entry : List ℕ → ℕ → ℕ
entry t p = get_or t (process_at p + 3) 0

-- the words of base b and of process p together
unfoldable pub words_at : List ℕ → ℕ → ℕ → Words
words_at t b p = record {
  lock = lock t b;
  nomore = nomore t b;
  count = count t b;
  call = call t p;
  phase = phase t p;
  wake = wake t p;
  entry = entry t p;
}

-- LOCK, NOMORE and COUNT of base b
unfoldable pub put_base : List ℕ → ℕ → ℕ → ℕ → ℕ → List ℕ
put_base t b l n c = set (set (set t (base_at b) l) (base_at b + 1) n) (base_at b + 2) c

-- WAKE and ENTRY of process p
unfoldable pub put_marks : List ℕ → ℕ → ℕ → ℕ → List ℕ
put_marks t p w e = set (set t (process_at p + 2) w) (process_at p + 3) e

-- CALL, PHASE, WAKE and ENTRY of process p
unfoldable pub put_process : List ℕ → ℕ → ℕ → ℕ → ℕ → ℕ → List ℕ
put_process t p k ph w e = put_marks (set (set t (process_at p) k) (process_at p + 1) ph) p w e

-- the words of base b and of process p
unfoldable pub put_words : List ℕ → ℕ → ℕ → Words → List ℕ
put_words t b p x = put_process (put_base t b x.lock x.nomore x.count) p x.call x.phase x.wake x.entry

-- "A fresh table is 80 zero words"
unfoldable pub fresh : List ℕ
fresh = replicate table_words 0

-- ---- laws, over any table of 80 words

-- what two, and what three, stores leave
module _ (t : List ℕ) (i j a b : ℕ) where
  other2 : (m : ℕ) → m ≢ i → m ≢ j → get_or (set (set t i a) j b) m 0 ≡ get_or t m 0
  other2 m ni nj = get_or-set_other (set t i a) j m b 0 nj ∙ get_or-set_other t i m a 0 ni

  at2 : j < length t → get_or (set (set t i a) j b) j 0 ≡ b
  at2 h = get_or-set_same (set t i a) j b 0 (simp length-set h)

  at1 : i ≢ j → i < length t → get_or (set (set t i a) j b) i 0 ≡ a
  at1 nj h = get_or-set_other (set t i a) j i b 0 nj ∙ get_or-set_same t i a 0 h

  module _ (k c : ℕ) where
    other3 : (m : ℕ) → m ≢ i → m ≢ j → m ≢ k → get_or (set (set (set t i a) j b) k c) m 0 ≡ get_or t m 0
    other3 m ni nj nk = get_or-set_other (set (set t i a) j b) k m c 0 nk ∙ other2 m ni nj

    at3_last : k < length t → get_or (set (set (set t i a) j b) k c) k 0 ≡ c
    at3_last h = get_or-set_same (set (set t i a) j b) k c 0 (simp length-set h)

    at3_mid : j ≢ k → j < length t → get_or (set (set (set t i a) j b) k c) j 0 ≡ b
    at3_mid nk h = get_or-set_other (set (set t i a) j b) k j c 0 nk ∙ at2 h

    at3_first : i ≢ j → i ≢ k → i < length t → get_or (set (set (set t i a) j b) k c) i 0 ≡ a
    at3_first nj nk h = get_or-set_other (set (set t i a) j b) k i c 0 nk ∙ at1 nj h

-- u is t with these words at base b
pub record BasePut (t u : List ℕ) (b l n c : ℕ) : Type 0 where
  pub size : length u ≡ length t
  pub lock_is : lock u b ≡ l
  pub nomore_is : nomore u b ≡ n
  pub count_is : count u b ≡ c
  pub lock_else : (d : ℕ) → 1 ≤ d → d ≢ b → lock u d ≡ lock t d
  pub nomore_else : (d : ℕ) → 1 ≤ d → d ≢ b → nomore u d ≡ nomore t d
  pub count_else : (d : ℕ) → 1 ≤ d → d ≢ b → count u d ≡ count t d
  pub call_all : (p : ℕ) → call u p ≡ call t p
  pub phase_all : (p : ℕ) → phase u p ≡ phase t p
  pub wake_all : (p : ℕ) → wake u p ≡ wake t p
  pub entry_all : (p : ℕ) → entry u p ≡ entry t p

pub base_put : (t : List ℕ) (b l n c : ℕ) → length t ≡ table_words → 1 ≤ b → b ≤ most_bases → BasePut t (put_base t b l n c) b l n c
unfolding put_base lock nomore count call phase wake entry base_at process_at
base_put t b l n c len lo hi = record {
  size = simp length-set;
  lock_is = at3_first t _ _ l n _ c (omega arith) (omega arith) (omega arith);
  nomore_is = at3_mid t _ _ l n _ c (omega arith) (omega arith);
  count_is = at3_last t _ _ l n _ c (omega arith);
  lock_else = λ d l1 ne. other3 t _ _ l n _ c _ (omega arith) (omega arith) (omega arith);
  nomore_else = λ d l1 ne. other3 t _ _ l n _ c _ (omega arith) (omega arith) (omega arith);
  count_else = λ d l1 ne. other3 t _ _ l n _ c _ (omega arith) (omega arith) (omega arith);
  call_all = λ p. other3 t _ _ l n _ c _ (omega arith) (omega arith) (omega arith);
  phase_all = λ p. other3 t _ _ l n _ c _ (omega arith) (omega arith) (omega arith);
  wake_all = λ p. other3 t _ _ l n _ c _ (omega arith) (omega arith) (omega arith);
  entry_all = λ p. other3 t _ _ l n _ c _ (omega arith) (omega arith) (omega arith);
}

-- u is t with these marks at process p
pub record MarksPut (t u : List ℕ) (p w e : ℕ) : Type 0 where
  pub size : length u ≡ length t
  pub wake_is : wake u p ≡ w
  pub entry_is : entry u p ≡ e
  pub lock_all : (b : ℕ) → b ≤ most_bases → lock u b ≡ lock t b
  pub nomore_all : (b : ℕ) → b ≤ most_bases → nomore u b ≡ nomore t b
  pub count_all : (b : ℕ) → b ≤ most_bases → count u b ≡ count t b
  pub call_all : (q : ℕ) → 1 ≤ q → call u q ≡ call t q
  pub phase_all : (q : ℕ) → 1 ≤ q → phase u q ≡ phase t q
  pub wake_else : (q : ℕ) → 1 ≤ q → q ≢ p → wake u q ≡ wake t q
  pub entry_else : (q : ℕ) → 1 ≤ q → q ≢ p → entry u q ≡ entry t q

pub marks_put : (t : List ℕ) (p w e : ℕ) → length t ≡ table_words → 1 ≤ p → p ≤ most_processes → MarksPut t (put_marks t p w e) p w e
unfolding put_marks lock nomore count call phase wake entry base_at process_at
marks_put t p w e len lo hi = record {
  size = simp length-set;
  wake_is = at1 t _ _ w e (omega arith) (omega arith);
  entry_is = at2 t _ _ w e (omega arith);
  lock_all = λ b h. other2 t _ _ w e _ (omega arith) (omega arith);
  nomore_all = λ b h. other2 t _ _ w e _ (omega arith) (omega arith);
  count_all = λ b h. other2 t _ _ w e _ (omega arith) (omega arith);
  call_all = λ q h. other2 t _ _ w e _ (omega arith) (omega arith);
  phase_all = λ q h. other2 t _ _ w e _ (omega arith) (omega arith);
  wake_else = λ q h ne. other2 t _ _ w e _ (omega arith) (omega arith);
  entry_else = λ q h ne. other2 t _ _ w e _ (omega arith) (omega arith);
}

-- u is t with these words at process p
pub record ProcessPut (t u : List ℕ) (p k ph w e : ℕ) : Type 0 where
  pub size : length u ≡ length t
  pub call_is : call u p ≡ k
  pub phase_is : phase u p ≡ ph
  pub wake_is : wake u p ≡ w
  pub entry_is : entry u p ≡ e
  pub lock_all : (b : ℕ) → b ≤ most_bases → lock u b ≡ lock t b
  pub nomore_all : (b : ℕ) → b ≤ most_bases → nomore u b ≡ nomore t b
  pub count_all : (b : ℕ) → b ≤ most_bases → count u b ≡ count t b
  pub call_else : (q : ℕ) → 1 ≤ q → q ≢ p → call u q ≡ call t q
  pub phase_else : (q : ℕ) → 1 ≤ q → q ≢ p → phase u q ≡ phase t q
  pub wake_else : (q : ℕ) → 1 ≤ q → q ≢ p → wake u q ≡ wake t q
  pub entry_else : (q : ℕ) → 1 ≤ q → q ≢ p → entry u q ≡ entry t q

pub process_put : (t : List ℕ) (p k ph w e : ℕ) → length t ≡ table_words → 1 ≤ p → p ≤ most_processes → ProcessPut t (put_process t p k ph w e) p k ph w e
unfolding put_process put_marks lock nomore count call phase wake entry base_at process_at
process_put t p k ph w e len lo hi =
    let s : List ℕ = set (set t (process_at p) k) (process_at p + 1) ph in
    let slen : length s ≡ table_words = simp length-set len in
    let m : MarksPut s (put_marks s p w e) p w e = marks_put s p w e slen lo hi in
    record {
      size = simp length-set;
      call_is = m.call_all p lo ∙ at1 t _ _ k ph (omega arith) (omega arith);
      phase_is = m.phase_all p lo ∙ at2 t _ _ k ph (omega arith);
      wake_is = m.wake_is;
      entry_is = m.entry_is;
      lock_all = λ b h. m.lock_all b h ∙ other2 t _ _ k ph _ (omega arith) (omega arith);
      nomore_all = λ b h. m.nomore_all b h ∙ other2 t _ _ k ph _ (omega arith) (omega arith);
      count_all = λ b h. m.count_all b h ∙ other2 t _ _ k ph _ (omega arith) (omega arith);
      call_else = λ q h ne. m.call_all q h ∙ other2 t _ _ k ph _ (omega arith) (omega arith);
      phase_else = λ q h ne. m.phase_all q h ∙ other2 t _ _ k ph _ (omega arith) (omega arith);
      wake_else = λ q h ne. m.wake_else q h ne ∙ other2 t _ _ k ph _ (omega arith) (omega arith);
      entry_else = λ q h ne. m.entry_else q h ne ∙ other2 t _ _ k ph _ (omega arith) (omega arith);
    }
