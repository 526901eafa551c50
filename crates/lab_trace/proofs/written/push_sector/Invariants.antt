-- What is written and the bytes that are left make the whole text.
use Rattle.lab_model.proofs.Common.{◌≡◌, ◌+◌, ◌++◌, drop}
use Rattle.lab_trace.specs.Written.{bytes_text}
use Rattle.lab_trace.proofs.written.push_sector.Given as goal

abbrev pub invariant-loop-at : goal.invariant-loop-at
invariant-loop-at l =
    l.text.items ++ bytes_text (l.first + l.at) (drop l.at l.before) (drop l.at l.after)
    ≡ l.fn.text.items ++ bytes_text l.fn.first l.fn.before l.fn.after
