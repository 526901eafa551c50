-- Each event that may come after a run of what texts say and is accepted finds what it needs, and
-- the numbers of the run fit (this project's own).
use Rattle.std.specs.Prelude.{◌≡◌, ◌<◌, ◌≤◌, ◌^◌, true, List, length}
use Rattle.lab_target.specs.Meaning.{Meaning}
use Rattle.lab_model.specs.declared.event.Event.{Event}
use Rattle.lab_model.specs.Cost.{budget}
use Rattle.lab_model.specs.Effect.{IsRun}
use Rattle.lab_model.specs.Guard.{is_enabled}
use Rattle.lab_model.specs.Potential.{clock_steps, steps}
use Rattle.lab_model.specs.Scenario.{Scenario}
use Rattle.lab_model.specs.State.{State}
use Rattle.lab_model.specs.Ready.{IsReady}
use Rattle.lab_model.specs.Bounds.{CanNumber}
use Rattle.lab_rulebook.specs.Accepted.{Accepted}
use Rattle.lab_rulebook.specs.Limits.{limit}
use Rattle.lab_rulebook.specs.Walked.{scenario_of}
use Rattle.lab_rulebook.specs.PartsOf.{Texts, parts_of_texts}
use Rattle.lab_rulebook.specs.Hours.{ReadInHours}

-- the scenario that texts say
abbrev pub scenario_of_texts : {S : Type 0} → Meaning S → Texts → Scenario S
scenario_of_texts m texts = scenario_of m (parts_of_texts m texts)

-- no sleep and no wait of the parts of any texts is longer than an hour
abbrev pub TextsAreInHours : {S : Type 0} → Meaning S → Type 0
TextsAreInHours m = (texts : Texts) → ReadInHours (parts_of_texts m texts)

-- what holds of each run of each scenario that texts say and that is accepted
abbrev pub AllRuns : {S : Type 0} (m : Meaning S)
    → (Scenario S → List Event → State S → Type 0) → Type 0
AllRuns {S} m P = (texts : Texts) → Accepted m (parts_of_texts m texts) → (events : List Event)
    (s : State S) → IsRun m (scenario_of_texts m texts) events s
    → P (scenario_of_texts m texts) events s

-- each event that may come finds what it needs
abbrev pub EachIsReady : {S : Type 0} → Meaning S → Scenario S → List Event → State S → Type 0
EachIsReady m c events s = (event : Event) → is_enabled c s event ≡ true → IsReady m c s event

-- after each run, each event that may come finds what it needs
abbrev pub RunsAreReady : {S : Type 0} → Meaning S → Type 0
RunsAreReady m = AllRuns m (EachIsReady m)

-- the numbers of a run: the logs and the bios can be numbered; no more bios and devices are made,
-- no more micro-commands are done and no more events come than the greatest budget says, and as
-- many of the clock's at most
pub record NumbersAre {S : Type 0} (m : Meaning S) (c : Scenario S) (events : List Event)
    (s : State S) : Type 0 where
  pub places : CanNumber c s
  pub budget : budget m c ≤ limit
  pub bios : length s.bios ≤ limit
  pub logs : length s.logs ≡ length c.logs
  pub done : s.done ≤ limit
  pub devices : length s.devices ≤ limit
  pub steps : steps events ≤ limit
  pub clock_steps : clock_steps events ≤ limit
  pub history : length events < 2 ^ 64

-- the numbers of each run fit
abbrev pub NumbersFit : {S : Type 0} → Meaning S → Type 0
NumbersFit m = AllRuns m (NumbersAre m)
