-- What is written and the text of the events that are left make the whole text.
use Rattle.lab_model.proofs.Common.{◌≡◌, ◌+◌, ◌≤◌, ◌++◌, drop, length, vec_len, vec_capacity}
use Rattle.lab_text.specs.Extends.{Extends}
use Rattle.lab_history.specs.History.{history_text}
use Rattle.lab_history.proofs.printer.push_each_event.Given as goal

abbrev pub invariant-loop-event : goal.invariant-loop-event
invariant-loop-event l =
    record {
      text : l.text.items ++ history_text (drop l.event-index l.events)
          ≡ l.fn.text.items ++ history_text l.fn.events;
      kept : Extends l.fn.text.items l.text.items;
      room : vec_len l.text + length (history_text (drop l.event-index l.events))
          ≡ vec_len l.fn.text + length (history_text l.fn.events);
      capacity : vec_capacity l.fn.text ≤ vec_capacity l.text;
    }
