-- What is written and the sectors that are left make the whole text.
use Rattle.lab_model.proofs.Common.{◌≡◌, ◌*◌, ◌++◌, drop}
use Rattle.lab_trace.specs.Written.{changes_text}
use Rattle.lab_trace.proofs.written.push_changes.Given as goal

abbrev pub invariant-loop-place : goal.invariant-loop-place
invariant-loop-place l =
    l.text.items ++ changes_text (l.place * 512) (drop l.place l.before) (drop l.place l.after)
    ≡ l.fn.text.items ++ changes_text 0 l.fn.before l.fn.after
