-- No event adds a log or takes one away.
use Rattle.lab_model.proofs.Common.{rules, ◌≡◌, List, length, length-map, Meaning, Told, told_to}
use Rattle.lab_model.proofs.Common.{Bio, IsRun, Scenario, State, opening}
use Rattle.lab_model.specs.declared.parent.Parent.{Parent}
use Rattle.lab_model.proofs.Common.{length-change_numbered}
use Rattle.lab_model.specs.declared.event.Event.{Event}
use Rattle.law_slots.proofs.WalkRuns.{AfterEach, events-keep}

-- as many logs stand where a parent is told
pub told_to-length : {S : Type 0} (s : State S) (bio : Bio) (told : Told) (parent : Parent)
    → length (told_to s bio told parent).logs ≡ length s.logs
told_to-length s bio told parent = search (rules, length-change_numbered)

module _ {S : Type 0} (m : Meaning S) (c : Scenario S) where
  -- each log of the scenario stands, and no other
  abbrev AllStand : State S → Type 0
  AllStand s = length s.logs ≡ length c.logs

  -- each event leaves as many
  each-stands : (s : State S) → AllStand s → AfterEach m c s (λ event. AllStand)
  each-stands s all = search (rules, length-change_numbered, length-map)

  -- the law: at first there are as many logs as the scenario has, and so after each event
  pub logs-stand : (events : List Event) (s : State S) → IsRun m c events s → AllStand s
  logs-stand events s run =
      events-keep m c AllStand each-stands events (opening c) s run (length-map c.logs _)
