-- The bytes gone over may all stand in lines, or one of them may not.
use Rattle.std.proofs.Common.{◌≡◌, take}
use Rattle.std.specs.List.{list_all}
use Rattle.lab_text.specs.Bundle.{is_body_byte}
use Rattle.lab_text.proofs.lines.are_body_bytes.Given as goal

abbrev pub invariant-loop-byte : goal.invariant-loop-byte
invariant-loop-byte l = l.all ≡ list_all is_body_byte (take l.byte-index l.text)
