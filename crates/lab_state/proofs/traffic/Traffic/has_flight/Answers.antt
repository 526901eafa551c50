-- Some are counted just where one is in flight.
use Rattle.lab_model.proofs.Common.{ap, sym, ◌∙◌, nat_lt, get_or_from_slice_get, list_any, Bio}
use Rattle.lab_model.proofs.Common.{flies_at}
use Rattle.lab_bios.specs.Living.{living_of}
use Rattle.lab_bios.proofs.Sums.{counted-any}
use Rattle.lab_state.proofs.traffic.Traffic.has_flight.Goals as goal

-- they are counted
pub returns-in-Some : goal.returns-in-Some
returns-in-Some g c =
    let flights = c.self.inside.devices.flights in
    let read = sym c.in_flight.ensures ∙ c.in-Some.is in
    ap (nat_lt 0) (sym (get_or_from_slice_get flights c.args.device c.in-Some.count 0 read)
    ∙ c.self.invariant.counted c.if-self.true c.args.device)
    ∙ counted-any c.args.device c.self.inside.bios.items
    ∙ ap (λ t. list_any (λ (bio : Bio). flies_at c.args.device bio.device bio.stage)
    (living_of t.bios)) c.self.view_is
