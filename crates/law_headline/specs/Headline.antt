-- The headline: what holds of every accepted scenario, for every order in which events may come
-- (this project's own).
use Rattle.std.specs.Prelude.{◌≡◌, ℕ, ◌<◌, ◌≤◌, true, false, List, length}
use Rattle.lab_target.specs.Meaning.{Meaning}
use Rattle.lab_model.specs.declared.event.Event.{Event}
use Rattle.lab_model.specs.After.{Next}
use Rattle.lab_model.specs.Cost.{budget}
use Rattle.lab_model.specs.Effect.{IsComplete, IsRun, effect}
use Rattle.lab_model.specs.Guard.{is_done, is_enabled}
use Rattle.lab_model.specs.Potential.{steps}
use Rattle.lab_model.specs.Scenario.{Scenario}
use Rattle.lab_model.specs.State.{State, opening}
use Rattle.law_answered_once.specs.AnsweredOnce.{times_answered}
use Rattle.law_never_wrong.specs.NeverWrong.{EachMay}
use Rattle.lab_rulebook.specs.Accepted.{KeepsRules}
use Rattle.lab_rulebook.specs.Parts.{Parts}
use Rattle.lab_rulebook.specs.Read.{WellRead}
use Rattle.lab_rulebook.specs.Walked.{scenario_of}

-- what holds of a scenario's runs
pub record RunsWell {S : Type 0} (m : Meaning S) (c : Scenario S) : Type 0 where
  -- each list of events, each of which may come where it stands, is a run: none of them meets a
  -- missing device or table, a closed file, a sector past an end, or a message that isn't taken
  pub lists : (events : List Event) → EachMay m c (Next (opening c)) events
      → (s : State S) × IsRun m c events s
  -- and none that may come after a run does
  pub never_wrong : (events : List Event) (s : State S) → IsRun m c events s → (event : Event)
      → is_enabled c s event ≡ true → (next : State S) × (effect m c s event ≡ Next next)
  -- unless all is done, some event may come
  pub never_stuck : (events : List Event) (s : State S) → IsRun m c events s
      → is_done c s ≡ false → (event : Event) × (is_enabled c s event ≡ true)
  -- once all is done, none may
  pub rests : (events : List Event) (s : State S) → IsComplete m c events s → (event : Event)
      → is_enabled c s event ≡ false
  -- at most the printed budget of the events are not the clock's
  pub within_budget : (events : List Event) (s : State S) → IsRun m c events s
      → steps events ≤ budget m c
  -- once all is done, every bio that was made has been answered exactly once
  pub answered_once : (events : List Event) (s : State S) → IsComplete m c events s
      → (number : ℕ) → 0 < number → number ≤ length s.bios → times_answered events number ≡ 1

-- every scenario that keeps the rules of its script and its logs runs well, where its parts are as
-- reading gives them; each accepted one keeps them (its `rules`), and the limits besides
abbrev pub Headline : {S : Type 0} → Meaning S → Type 0
Headline {S} m = (parts : Parts S) → WellRead m parts → KeepsRules m parts
    → RunsWell m (scenario_of m parts)
