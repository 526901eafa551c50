-- Words for what a trace tells of the examples' runs.
use Rattle.std.specs.Prelude.{ℕ, ◌+◌, length, List, Option, option_map}
use Rattle.std.specs.Option.{option_and_then}
use Rattle.lab_target.specs.Meaning.{Meaning}
use Rattle.lab_model.specs.declared.event.Event.{Event}
use Rattle.lab_model.specs.Effect.{effect, step_from}
use Rattle.lab_model.specs.Guard.{is_enabled}
use Rattle.lab_model.specs.Scenario.{Scenario}
use Rattle.lab_model.specs.State.{State}
use Rattle.lab_trace.specs.Happened.{happened}
use Rattle.lab_trace.specs.Rows.{event_row}
use Rattle.lab_trace.specs.Text.{row_text}
use Rattle.test_examples.specs.Histories.{reached}

module _ {S : Type 0} (m : Meaning S) (c : Scenario S) where
  -- what is told that an event did which comes in a state
  abbrev pub did_in : Event → State S → Option (List ℕ)
  did_in event s = option_map (λ next. happened c s next event)
      (step_from m c (is_enabled c s event) s event (effect m c s event))

  -- what is told that an event did which comes behind a history; none if it leads nowhere
  abbrev pub did : List Event → Event → Option (List ℕ)
  did history event = option_and_then (did_in event) (reached m c history)

  -- the columns that are told of an event which comes behind a history, without what it did
  abbrev pub columns_of : List Event → Event → Option (List ℕ)
  columns_of history event =
      option_map (λ s. row_text (event_row c s (length history + 1) event)) (reached m c history)
