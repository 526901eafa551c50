-- Where all is done nothing is left to take.
use Rattle.lab_model.proofs.Common.{◌≡◌, ℕ, ◌+◌, true, nat_le, List, [], ◌∷◌, length, map, sum}
use Rattle.lab_model.proofs.Common.{refl, ap, arith, enumerate_from, list_all, zip, and_parts}
use Rattle.lab_model.proofs.Common.{leb-true, drop_all, line_cost, nil_from_length, Meaning}
use Rattle.lab_model.proofs.Common.{has_come, log_ended, bio_potential, log_potential, LogPlan}
use Rattle.lab_model.proofs.Common.{Scenario, LogState, State, living, sum-total, total}
use Rattle.std.proofs.lemmas.Bool.{ltb-false}
use Rattle.law_slots.proofs.DoneLemmas.{done-ended, log-over}
use Rattle.law_within_budget.specs.Exactly.{NothingLeft}

module _ {S : Type 0} (m : Meaning S) (c : Scenario S) (s : State S) where
  -- no line of logs that have ended is left
  logs-none : (number : ℕ) (logs : List (LogPlan × LogState))
      → list_all (λ entry. log_ended s entry.0 entry.1.0 entry.1.1) (enumerate_from number logs)
      ≡ true → total (log_potential m c) logs ≡ 0
  logs-none number [] ended = refl
  logs-none number (log ∷ logs) ended =
      let both = and_parts (log_ended s number log.0 log.1) _ ended in
      let over = log-over s number log.0 log.1 both.0 in
      let none = ltb-false log.1.taken (length log.0.lines) over.no_line in omega (
        arith,
        ap (λ lines. sum (map (line_cost m c) lines)) (drop_all log.1.taken log.0.lines none),
        logs-none (number + 1) logs both.1,
      )

-- no line, no micro-command and no bio is left
pub none-left : {S : Type 0} (m : Meaning S) → NothingLeft m
none-left m c s done =
    let ended = done-ended c s done in
    let script = and_parts (nat_le (length c.micros) s.done) (has_come s s.moment) ended.script in
    omega (
      arith,
      sum-total (log_potential m c) (zip c.logs s.logs),
      logs-none m c s 1 (zip c.logs s.logs) ended.logs,
      leb-true (length c.micros) s.done script.0,
      ap (λ bios. sum (map (bio_potential m c) bios)) (nil_from_length (living s) ended.none_lives),
    )
