-- A name more, a device more and a count more.
use Rattle.lab_model.proofs.Common.{refl, map-append}
use Rattle.lab_script.proofs.WalkLemmas.{same-walk}
use Rattle.lab_script.proofs.walk.Walk.create.Goals as goal

-- the name is the new device's, and each other name what it was
pub returns : goal.returns
returns c = same-walk _ _
    (λ name. cc (
      c.in_ok-insert.ensures.updates.0 (record c.args.name { now = name }),
      c.in_ok-number.ensures,
    ))
    (rw (c.in_ok-push.ensures.items, map-append, c.created.ensures, c.first_version.ensures) refl)
    (rw (c.in_ok-push-2.ensures.items, c.first_loads.ensures) refl)
