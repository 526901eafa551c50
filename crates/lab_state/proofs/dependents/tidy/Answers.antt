-- What depends on the device stays.
use Rattle.lab_model.proofs.Common.{◌≡◌, filter, rules, filter_same}
use Rattle.lab_state.proofs.Going.{has-left}
use Rattle.lab_state.specs.Dependents.{device_of, is_device}
use Rattle.lab_state.proofs.dependents.tidy.Goals as goal

-- the rest is filtered out
pub returns : goal.returns
returns c =
    let left : c.retain.new.self.items ≡ filter
    (λ number. is_device (device_of c.args.bios.now.items number) c.args.device)
    c.args.row.now.items =
    filter_same _ _ _ (λ x b f' k. search rules) _ _ c.retain.ensures.filtered in
    search (rules, has-left, left)
