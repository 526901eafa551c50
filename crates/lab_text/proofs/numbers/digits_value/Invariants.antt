-- The digits that are left, after the number so far, say the whole number.
use Rattle.std.proofs.Common.{◌≡◌, drop}
use Rattle.std.specs.Str.Parse.{digits_value_after}
use Rattle.std.specs.Str.Parse.{digits_value}
use Rattle.lab_text.proofs.numbers.digits_value.Given as goal

abbrev pub invariant-loop-digit : goal.invariant-loop-digit
invariant-loop-digit l =
    digits_value_after 10 l.value (drop l.digit-index l.digits) ≡ digits_value 10 l.digits
