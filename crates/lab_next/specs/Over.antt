-- When nothing is left that belongs to a log, to the script or to the timers (this project's own).
use Rattle.std.specs.Prelude.{◌≡◌, ℕ, ◌==◌, ◌&&◌, ◌||◌, Bool, true, not, nat_lt, length, Option, Some}
use Rattle.std.specs.List.{list_any, range_with_len}
use Rattle.lab_model.specs.declared.event.Event.TheVariants.{Line}
use Rattle.lab_model.specs.declared.event.Who.{Who}
use Rattle.lab_model.specs.declared.event.Who.TheVariants.{Log, Control, Timers}
use Rattle.lab_model.specs.Guard.{is_done, is_enabled, log_ended, script_ended}
use Rattle.lab_model.specs.Lists.{numbered}
use Rattle.lab_model.specs.Scenario.{LogPlan, Scenario}
use Rattle.lab_model.specs.State.{LogState, State, living}
use Rattle.lab_bios.specs.Tally.{is_log_within}
pub use Rattle.lab_state.specs.Owned.{is_same}

-- a log of this number has ended; one that isn't there has
abbrev pub has_ended : {S : Type 0} → State S → ℕ → Option LogPlan → Option LogState → Bool
has_ended s number (Some plan) (Some log) = log_ended s number plan log
has_ended s number _ _ = true

-- nothing is left for a log that has ended, for the script when it has, and for the timers when
-- all is done
abbrev pub is_over : {S : Type 0} → Scenario S → State S → Who → Bool
is_over c s (Log number) = has_ended s number (numbered c.logs number) (numbered s.logs number)
is_over c s Control = script_ended c s
is_over c s Timers = is_done c s

-- some log may take its next line
abbrev pub some_line_may : {S : Type 0} → Scenario S → State S → Bool
some_line_may c s = list_any (λ log. is_enabled c s (Line log)) (range_with_len 1 (length c.logs))

-- there are just the scenario's logs, and it is known whether one of them may take its next line
pub record KnowsLines {S : Type 0} (c : Scenario S) (s : State S) (can_take : Bool) : Type 0 where
  pub logs : length s.logs ≡ length c.logs
  pub lines : can_take ≡ some_line_may c s

-- the logs are idle: there are none, or they have started, no living bio was made for one of them,
-- and no moment of one lies ahead
abbrev pub are_idle : {S : Type 0} → State S → Bool
are_idle s =
    (length s.logs == 0)
    || (s.started
    && not (list_any (λ bio. is_log_within (length s.logs) bio.parent) (living s))
    && not (list_any (λ log. nat_lt s.clock log.moment) s.logs))
