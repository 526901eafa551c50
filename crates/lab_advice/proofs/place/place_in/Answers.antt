use Rattle.std.proofs.Common.{rules, ◌≡◌, arith}
use Rattle.lab_advice.specs.Places.{ShowsLine}
use Rattle.lab_advice.specs.declared.place.Place.{Place}
use Rattle.lab_advice.proofs.PlaceLemmas.{NamesLine-within}
use Rattle.lab_advice.proofs.place.place_in.Goals as goal

-- no line has a number past 64 bits
pub returns-in_err-number-clause-none : goal.returns-in_err-number-clause-none
returns-in_err-number-clause-none c =
    let none : (place : Place) → ¬ ShowsLine c.args.bytes.now c.args.part c.args.within place =
    λ place shown.
    let heading : shown.names.heading ≡ c.in_ok-heading_number.field-0 =
    cc (shown.names.opened, c.in_ok-heading_number.ensures.heading) in
    omega (
      arith,
      shown.names.counted,
      c.in_err-number.ensures,
      NamesLine-within _ _ _ _ _ shown.names,
    ) in
    search (rules, none)
