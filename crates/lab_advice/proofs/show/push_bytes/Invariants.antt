use Rattle.std.proofs.Common.{◌≡◌, ◌++◌, take}
use Rattle.std.specs.String.{string_bytes}
use Rattle.lab_advice.specs.Shown.{bytes_shown}
use Rattle.lab_advice.proofs.show.push_bytes.Given as goal

-- the bytes so far are appended
abbrev pub invariant-loop-byte : goal.invariant-loop-byte
invariant-loop-byte l =
    string_bytes l.text ≡ string_bytes l.initial.text ++ bytes_shown (take l.byte-index l.bytes)
