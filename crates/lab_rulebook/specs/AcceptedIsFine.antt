-- No run of an accepted scenario goes wrong or stops for its script, tables or logs: all that the
-- laws about runs need follows from the rules of its script and its logs (this project's own).
use Rattle.lab_target.specs.Meaning.{Meaning}
use Rattle.lab_model.specs.Fine.{Fine}
use Rattle.lab_rulebook.specs.Accepted.{KeepsRules}
use Rattle.lab_rulebook.specs.Parts.{Parts}
use Rattle.lab_rulebook.specs.Read.{WellRead}
use Rattle.lab_rulebook.specs.Walked.{scenario_of}

-- the scenario of parts that are well read and keep the rules of scripts and logs, as each
-- accepted one does, is fine
abbrev pub AcceptedIsFine : {S : Type 0} → Meaning S → Type 0
AcceptedIsFine {S} m = (parts : Parts S) → WellRead m parts → KeepsRules m parts
    → Fine m (scenario_of m parts)
