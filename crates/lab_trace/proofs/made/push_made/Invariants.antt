-- What is written and the bios that are left make the whole text.
use Rattle.lab_model.proofs.Common.{◌≡◌, ◌-◌, ◌++◌, bio_of}
use Rattle.lab_trace.specs.Made.{made_text}
use Rattle.lab_trace.proofs.made.push_made.Given as goal

abbrev pub invariant-loop-place : goal.invariant-loop-place
invariant-loop-place g l =
    l.text.items ++ made_text l.state (bio_of l.state l.number) l.first l.place (l.count - l.place)
    ≡ l.fn.text.items ++ made_text l.state (bio_of l.state l.number) l.first l.first (l.count - l.first)
