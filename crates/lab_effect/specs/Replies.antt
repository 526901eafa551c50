-- What a step of the script tells, and when it goes on (dmsetup(8), message, status and table).
use Rattle.std.specs.Prelude.{ℕ, ◌+◌, List}
use Rattle.lab_model.specs.State.{State}
use Rattle.lab_model.specs.declared.reply.Reply.{Reply}

-- a text that a line of the script told
abbrev pub reply_of : ℕ → List ℕ → Reply
reply_of line text = record { line = line; text = text }

-- the state whose script goes on after so long
abbrev pub slept : {S : Type 0} → State S → ℕ → State S
slept s time = record s { moment = s.clock + time }
