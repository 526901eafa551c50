-- What is told of a complete run, a line each: the budget, what commands told, each log's
-- answers, and the counts
-- (this project's own).
use Rattle.std.specs.Prelude.{ℕ, List, [], ◌∷◌, ◌++◌, codes, decimal}
use Rattle.std.specs.List.{flat_map, zip}
use Rattle.lab_text.specs.Runs.{runs_text}
use Rattle.lab_target.specs.Meaning.{Meaning}
use Rattle.lab_model.specs.declared.answer.Answer.{Answer}
use Rattle.lab_model.specs.declared.answer.Outcome.{Outcome}
use Rattle.lab_model.specs.declared.answer.Outcome.TheVariants.{Fine, Eio, Runs}
use Rattle.lab_model.specs.declared.entry.Action.{Action}
use Rattle.lab_model.specs.declared.entry.Action.TheVariants.{Read, Write, Sync, Datasync, Trim}
use Rattle.lab_model.specs.declared.event.Event.{Event}
use Rattle.lab_model.specs.Cost.{budget}
use Rattle.lab_model.specs.Potential.{clock_steps, steps}
use Rattle.lab_model.specs.Scenario.{Scenario, LogPlan}
use Rattle.lab_model.specs.State.{State, LogState}
use Rattle.lab_model.specs.declared.reply.Reply.{Reply}

-- a line of text, ended by a newline
abbrev pub text_line : List ℕ → List ℕ
text_line text = text ++ 10 ∷ []

-- the word of an operation
abbrev pub action_word : Action → List ℕ
action_word Read = codes "read"
action_word Write = codes "write"
action_word Sync = codes "sync"
action_word Datasync = codes "datasync"
action_word Trim = codes "trim"

-- how an operation ended
abbrev pub outcome_text : Outcome → List ℕ
outcome_text Fine = codes "ok"
outcome_text Eio = codes "EIO"
outcome_text (Runs runs) = runs_text runs

-- `LINE ACTION RESULT`
abbrev pub answer_text : Answer → List ℕ
answer_text answer =
    decimal answer.line ++ 32 ∷ action_word answer.action ++ 32 ∷ outcome_text answer.outcome

-- `accepted budget=B`
abbrev pub budget_text : ℕ → List ℕ
budget_text n = codes "accepted budget=" ++ decimal n

-- `script LINE TEXT`
abbrev pub reply_text : Reply → List ℕ
reply_text reply = codes "script " ++ decimal reply.line ++ 32 ∷ reply.text

-- `log NAME`, and the log's answers
abbrev pub log_text : LogPlan × LogState → List ℕ
log_text log = text_line (codes "log " ++ log.0.name)
    ++ flat_map (λ answer. text_line (answer_text answer)) log.1.answers

-- `done steps=S clock=C now=T`
abbrev pub done_text : List Event → ℕ → List ℕ
done_text history now =
    codes "done steps=" ++ decimal (steps history)
    ++ codes " clock=" ++ decimal (clock_steps history) ++ codes " now=" ++ decimal now

-- the whole report
abbrev pub report : {S : Type 0} → Meaning S → Scenario S → List Event → State S → List ℕ
report m c history s = text_line (budget_text (budget m c))
    ++ flat_map (λ reply. text_line (reply_text reply)) s.replies
    ++ flat_map log_text (zip c.logs s.logs)
    ++ text_line (done_text history s.clock)
