use Rattle.std.specs.Prelude.{◌≡◌, take}
use Rattle.text.specs.Put.{Put}
use Rattle.text.specs.Text.{text_bytes, text_end, text_name}
use Rattle.text.proofs.Text.put_bytes.Given as goal

-- The bytes so far are put.
abbrev pub invariant-loop-byte : goal.invariant-loop-byte
invariant-loop-byte l = (text_name l.self ≡ text_name l.initial.self) × Put (text_bytes l.initial.self) (text_bytes l.self) (text_end l.initial.self) (take l.byte-index l.bytes) l.end
