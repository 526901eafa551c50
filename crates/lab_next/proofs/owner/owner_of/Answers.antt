-- A bio comes from the log that the traffic tells.
use Rattle.lab_model.proofs.Common.{rules, ap, ◌≡◌, ◌∙◌}
use Rattle.lab_model.specs.Owner.{origin}
use Rattle.lab_bios.specs.Origin.{log_of}
use Rattle.lab_next.proofs.owner.owner_of.Goals as goal

-- so the event is that log's
pub returns-in-Map : goal.returns-in-Map
returns-in-Map g c =
    let s = c.args.state.now in
    let log : c.log_of.result ≡ origin s c.in-Map.number =
    c.log_of.ensures ∙ ap (λ v. log_of v.bios c.in-Map.number) c.state.view_is in
    search rules
