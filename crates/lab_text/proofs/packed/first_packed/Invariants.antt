-- The runs are those of the bytes that are left, where the first run is begun.
use Rattle.std.proofs.Common.{◌≡◌, ◌<◌, length, None, Some}
use Rattle.lab_text.specs.Packed.{unpacked}
use Rattle.lab_text.proofs.packed.first_packed.Given as goal

abbrev pub invariant-loop-digit : goal.invariant-loop-digit
invariant-loop-digit l =
    record {
      runs : unpacked None l.fn.bytes ≡ unpacked (Some l.run) l.rest;
      shorter : length l.rest < length l.fn.bytes;
    }

abbrev pub decreases-loop-digit : goal.decreases-loop-digit
decreases-loop-digit l = length l.rest
