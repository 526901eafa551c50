-- How far the numbers of a run go, so that each fits its type (this project's own).
use Rattle.std.specs.Prelude.{◌≡◌, ℕ, ◌+◌, ◌*◌, ◌<◌, ◌≤◌, ◌^◌, All, Some, length, slice_get}
use Rattle.lab_model.specs.Lists.{numbered}
use Rattle.lab_model.specs.Scenario.{LogPlan, Scenario}
use Rattle.lab_model.specs.declared.plan.LogLine.{LogLine}
use Rattle.lab_model.specs.State.{LogState, State}
use Rattle.lab_model.specs.LogEffect.{wait_of}

-- no moment of a run lies later than an hour for each of the greatest budget, in microseconds
abbrev pub latest_moment : ℕ
latest_moment = 16777216 * 3600000000

-- the clock, the script's moment and those of the logs are no later than that
pub record HasMoments {S : Type 0} (s : State S) : Type 0 where
  pub clock : s.clock ≤ latest_moment
  pub script : s.moment ≤ latest_moment
  pub logs : All (λ log. log.moment ≤ latest_moment) s.logs

-- the moment of the log of a number after its next line fits
abbrev pub NextFits : {S : Type 0} → Scenario S → State S → ℕ → Type 0
NextFits c s number = (plan : LogPlan) (log : LogState) (line : LogLine)
    → numbered c.logs number ≡ Some plan → numbered s.logs number ≡ Some log
    → slice_get plan.lines log.taken ≡ Some line → log.moment + wait_of line.entry < 2 ^ 64

-- the logs and the bios can be numbered
pub record CanNumber {S : Type 0} (c : Scenario S) (s : State S) : Type 0 where
  pub logs : length c.logs < 2 ^ 32
  pub bios : length s.bios < 2 ^ 40
