-- The history of a bundle, which an audit reads (this project's own). A text is seen as its lines.
use Rattle.std.specs.Prelude.{ℕ, List, [], ◌∷◌, Option, Some, Result, Err, map}
use Rattle.std.specs.Borrow.{Bor}
use Rattle.std.specs.List.{filter_map}
use Rattle.std.specs.Option.{option_map, option_to_list}
use Rattle.std.specs.Result.{result_map_both}
use Rattle.lab_text.specs.Bundle.{Line, as_history, parts_of}
use Rattle.lab_text.specs.Lines.{lines_of, kept_from}
use Rattle.lab_text.specs.Rows.{all_rows}
use Rattle.lab_model.specs.declared.event.Event.{Event}
use Rattle.lab_history.specs.History.{line_event}
use Rattle.lab_model.specs.declared.rule.Rule.TheVariants.{Missing}
use Rattle.lab_model.specs.Rules.{FaultSeen, of_history}
use Rattle.lab_refusal.specs.Faults.{fault_on, history_told}

-- the histories of a bundle of these bytes: one, or none
abbrev pub histories_of : List ℕ → List (List Line)
histories_of bytes = filter_map as_history (parts_of (lines_of bytes))

-- the same of a bundle that was read
abbrev pub histories_in : Option (Bor (List ℕ)) → List (List Line)
histories_in history = option_to_list (option_map (λ text. lines_of text.now) history)

-- the events that a bundle's history tells, or its fault: there is none, or its first line that is
-- no event
abbrev pub history_read : List (List Line) → Result (List Event) (Option FaultSeen)
history_read [] = Err (fault_on of_history 0 (Some Missing))
history_read (lines ∷ others) = result_map_both (λ events. events) history_told
    (all_rows (map line_event (kept_from 1 lines)))
