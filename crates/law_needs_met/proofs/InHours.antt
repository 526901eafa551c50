-- What is read of texts is brief, so it is within hours.
use Rattle.lab_model.proofs.Common.{rules, Meaning}
use Rattle.lab_rulebook.proofs.ReadParts.{parts-brief}
use Rattle.law_needs_met.specs.Law.{TextsAreInHours}

-- command by command, and line by line
pub texts-in-hours : {S : Type 0} (m : Meaning S) → TextsAreInHours m
texts-in-hours m texts =
    let brief = parts-brief m texts in
    search rules
