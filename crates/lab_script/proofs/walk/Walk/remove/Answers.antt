-- A name less.
use Rattle.lab_model.proofs.Common.{refl}
use Rattle.lab_script.proofs.WalkLemmas.{same-walk}
use Rattle.lab_script.proofs.walk.Walk.remove.Goals as goal

-- the name is free, and its device is gone
pub returns-in-Some : goal.returns-in-Some
returns-in-Some c = same-walk _ _
    (λ name. c.swap_remove.ensures.updates.0 (record c.args.name { now = name }))
    (rw (← c.in-Some.ensures.value) c.empty_slot.ensures) refl
