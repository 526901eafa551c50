-- What a laboratory under the lock keeps, from what is known of each laboratory.
use Rattle.lab_model.proofs.Common.{rules, ◌≡◌, ◌<◌, ◌^◌, length, arith, Lawful, Meaning, Scenario}
use Rattle.lab_core.specs.Running.{IsRunning, Running}
use Rattle.lab_core.proofs.Known.{budget-within, can-number, length-within, stays-bounded}
use Rattle.lab_runner.specs.Counts.{CountsTurns}
use Rattle.lab_runner.specs.Shared.{IsShared, Sharing}

module _ {S : Type 0} (m : Meaning S) (lawful : Lawful m) (lab : Running S)
    (running : IsRunning m lab) where
  -- its logs have numbers of 32 bits
  pub logs-few : length lab.scenario.logs < 2 ^ 32
  logs-few = (can-number m lawful lab running).logs

  -- its events can be counted
  pub events-few : length lab.history < 2 ^ 32
  events-few = omega (arith, length-within m lawful _ running, budget-within m lawful _ running)

-- a laboratory of the named scenario, with a count for each worker of what belongs to it, may be
-- under the lock
pub counted-shared : {S : Type 0} (m : Meaning S) → Lawful m → (c : Scenario S)
    (shared : Sharing S) → shared.lab.scenario ≡ c → IsRunning m shared.lab
    → CountsTurns m c shared.lab.history shared.counts → IsShared m c shared
counted-shared m lawful c shared named running counted =
    search (rules, (stays-bounded m lawful shared.lab running).within_budget)
