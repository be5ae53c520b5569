-- A text in a lent buffer, before and after more was put behind it.
use Rattle.std.specs.Prelude.{◌≡◌, refl, List, [], ◌++◌, ℕ, ◌+◌, ◌≤◌, length}
use Rattle.std.specs.Borrow.{GName}
use Rattle.std.proofs.Common.{sym, ◌∙◌}
use Rattle.text.specs.declared.Text.{Text}
use Rattle.text.specs.Wrote as wrote
use Rattle.text.specs.Wrote.{Wrote, Rest}
use Rattle.text.specs.Put as put
use Rattle.text.specs.Put.{Put}

-- all that the lent buffer holds
abbrev pub text_bytes : Text → List ℕ
text_bytes t = t.buffer.now

-- the place after the text
abbrev pub text_end : Text → ℕ
text_end t = t.end

-- which lent buffer it is
abbrev pub text_name : Text → GName
text_name t = t.buffer.ghost_name

-- these bytes were put behind a text, as far as there was room; it stays in its buffer
pub record Puts (old new : Text) (bytes : List ℕ) : Type 0 where
  pub same : text_name new ≡ text_name old
  pub put : Put (text_bytes old) (text_bytes new) (text_end old) bytes (text_end new)

-- these bytes were put behind a text that had room for them all
pub record Writes (old new : Text) (bytes : List ℕ) : Type 0 where
  pub same : text_name new ≡ text_name old
  pub wrote : Wrote (text_bytes old) (text_bytes new) (text_end old) bytes (text_end new)

-- these bytes are still to be put behind `now`, so that in the end `all` will stand behind `first`
pub record Leaves (first now : Text) (all bytes : List ℕ) : Type 0 where
  pub same : text_name now ≡ text_name first
  pub rest : Rest (text_bytes first) (text_end first) all (text_bytes now) (text_end now) bytes

-- two texts that hold the same, in one buffer
pub record Same (s t : Text) : Type 0 where
  pub end : text_end s ≡ text_end t
  pub bytes : text_bytes s ≡ text_bytes t
  pub name : text_name s ≡ text_name t

-- ---- laws

-- nothing, and one text and then another
pub puts_nothing : (a : Text) → Puts a a []
puts_nothing a = record { same = refl; put = put.nothing a.buffer.now a.end }

pub puts_then : {a b c : Text} {xs ys : List ℕ} → Puts a b xs → Puts b c ys → Puts a c (xs ++ ys)
puts_then v w = record { same = w.same ∙ v.same; put = put.then v.put w.put }

-- where there is room, the whole text is there
pub puts_whole : {a b : Text} {xs : List ℕ} → Puts a b xs → text_end a + length xs ≤ length (text_bytes a) → Writes a b xs
puts_whole w h = record { same = w.same; wrote = put.whole w.put h }

pub puts_settled : {a s t : Text} {xs : List ℕ} → Puts a s xs → Puts a t xs → Same s t
puts_settled v w = let e = put.settled v.put w.put in record { end = e.0; bytes = e.1; name = v.same ∙ sym w.same }

pub writes_then : {a b c : Text} {xs ys : List ℕ} → Writes a b xs → Writes b c ys → Writes a c (xs ++ ys)
writes_then v w = record { same = w.same ∙ v.same; wrote = wrote.then v.wrote w.wrote }

-- what is left of a text that is put in pieces: all of it, less, none
pub leaves_all : (a : Text) (xs : List ℕ) → Leaves a a xs xs
leaves_all a xs = record { same = refl; rest = wrote.rest_all a.buffer.now a.end xs }

pub leaves_less : {a b c : Text} {xs ys zs : List ℕ} → Leaves a b xs (ys ++ zs) → Writes b c ys → Leaves a c xs zs
leaves_less r w = record { same = w.same ∙ r.same; rest = wrote.rest_less r.rest w.wrote }

pub leaves_none : {a b : Text} {xs : List ℕ} → Leaves a b xs [] → Writes a b xs
leaves_none r = record { same = r.same; wrote = wrote.rest_none r.rest }

pub leaves_put : {a b c : Text} {xs ys : List ℕ} → Leaves a b xs ys → Writes b c ys → Writes a c xs
leaves_put r w = record { same = w.same ∙ r.same; wrote = wrote.rest_put r.rest w.wrote }

-- what a lent buffer holds once the text that was begun in it is done
pub puts_lent : {a b : Text} {xs old new : List ℕ} {at next : ℕ} → Puts a b xs → text_bytes a ≡ old → text_end a ≡ at → new ≡ text_bytes b → next ≡ text_end b → Put old new at xs next
puts_lent w o p n e = rw (← o, ← p, n, e) w.put

pub writes_lent : {a b : Text} {xs old new : List ℕ} {at next : ℕ} → Writes a b xs → text_bytes a ≡ old → text_end a ≡ at → new ≡ text_bytes b → next ≡ text_end b → Wrote old new at xs next
writes_lent w o p n e = rw (← o, ← p, n, e) w.wrote
