-- A count is raised at its place.
use Rattle.lab_model.proofs.Common.{◌≡◌, ◌+◌, ap, sym, ◌∙◌, rules, slice_set, change-set}
use Rattle.lab_script.proofs.walk.count_load.Goals as goal

-- the device was made
pub returns-in_ok-count : goal.returns-in_ok-count
returns-in_ok-count c =
    let more : c.in_ok-count.field-0 ≡ c.in-Some.count.now + 1 = search rules in
    ap (slice_set c.args.loads.now.items c.args.device) more
    ∙ sym (change-set _ _ (λ count. count + 1) c.in-Some.count.now c.in-Some.ensures.value)
