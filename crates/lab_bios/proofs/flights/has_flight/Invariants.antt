-- None of the numbers so far is in flight there.
use Rattle.lab_model.proofs.Common.{◌≡◌, ◌+◌, ◌-◌, length, list_any, Bio, flies_at}
use Rattle.lab_bios.specs.Living.{living_of}
use Rattle.lab_bios.proofs.Walks.{left_from}
use Rattle.lab_bios.proofs.flights.has_flight.Given as goal

abbrev pub invariant-loop-number : goal.invariant-loop-number
invariant-loop-number l =
    list_any (λ (bio : Bio). flies_at l.device bio.device bio.stage)
    (left_from l.from l.bios.items)
    ≡ list_any (λ (bio : Bio). flies_at l.device bio.device bio.stage) (living_of l.bios.items)

abbrev pub decreases-loop-number : goal.decreases-loop-number
decreases-loop-number l = length l.bios.items + 1 - l.from
