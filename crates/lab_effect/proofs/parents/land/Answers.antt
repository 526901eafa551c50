-- Where none of the number lives, nothing is said of it.
use Rattle.lab_model.proofs.Common.{option_flatten, numbered, Bio}
use Rattle.lab_effect.proofs.HandedLemmas.{nothing-told}
use Rattle.lab_effect.proofs.parents.land.Goals as goal

-- the bio that ended would have been told
pub returns-in_default-clause-bios : goal.returns-in_default-clause-bios
returns-in_default-clause-bios g c =
    nothing-told _ c.end.result (option_flatten (numbered c.args.traffic.now.bios c.args.number))
    (λ ended. ended.0) (λ (bio : Bio). bio.parent) c.end.ensures.parent c.in_default.not-Some
