-- It stands at none of the places before this one.
use Rattle.lab_model.proofs.Common.{◌≢◌, ℕ, ◌<◌, get_or}
use Rattle.lab_logs.proofs.agenda.Agenda.place_of.Given as goal

abbrev pub invariant-loop-place : goal.invariant-loop-place
invariant-loop-place l = (k : ℕ) → k < l.place → get_or l.self k l.due ≢ l.due
