-- What it says that all is done.
use Rattle.lab_model.proofs.Common.{rules, ◌≡◌, ℕ, zero, suc, true, false, List, [], ◌∷◌, Option}
use Rattle.lab_model.proofs.Common.{Some, None, filter_map, length, refl, arith, has_come, has_line}
use Rattle.lab_model.proofs.Common.{is_busy, is_done, log_ended, logs_ended, option_flatten}
use Rattle.lab_model.proofs.Common.{LogPlan, Scenario, LogState, State, bio_of, living}
use Rattle.lab_model.proofs.Common.{numbered, numbered-test}
use Rattle.lab_model.specs.Guard.{script_ended}

-- where no entry is there, none is at any number
all-gone : {X : Type 0} (entries : List (Option X))
    → length (filter_map (λ entry. entry) entries) ≡ 0 → (number : ℕ)
    → option_flatten (numbered entries number) ≡ None
all-gone entries none zero = refl
all-gone [] none (suc place) = refl
all-gone (None ∷ entries) none (suc zero) = refl
all-gone (None ∷ entries) none (suc (suc place)) = all-gone entries none (suc place)
all-gone (Some x ∷ entries) none (suc place) = absurd (omega arith)

-- what is left of a log that has ended: no line, and no bio; and its moment has come
pub record IsOver {S : Type 0} (s : State S) (number : ℕ) (plan : LogPlan)
    (log : LogState) : Type 0 where
  pub no_line : has_line plan log ≡ false
  pub is_free : is_busy s number ≡ false
  pub come : has_come s log.moment ≡ true

-- a log that has ended is over
pub log-over : {S : Type 0} (s : State S) (number : ℕ) (plan : LogPlan) (log : LogState)
    → log_ended s number plan log ≡ true → IsOver s number plan log
log-over s number plan log ended = search rules

module _ {S : Type 0} (c : Scenario S) (s : State S) where
  -- once all logs have ended, each is over
  pub logs-over : logs_ended c s ≡ true → (number : ℕ) (plan : LogPlan) (log : LogState)
      → numbered c.logs number ≡ Some plan → numbered s.logs number ≡ Some log
      → IsOver s number plan log
  logs-over ended number plan log planned logged = search (rules, numbered-test)

  -- what is done when all is
  pub record Ended : Type 0 where
    pub script : script_ended c s ≡ true
    pub logs : logs_ended c s ≡ true
    pub none_lives : length (living s) ≡ 0

  module _ (done : is_done c s ≡ true) where
    -- the script and all logs have ended, and no bio lives
    pub done-ended : Ended
    done-ended = search rules

    -- no bio of a number lives
    pub done-gone : (number : ℕ) → bio_of s number ≡ None
    done-gone number = all-gone s.bios done-ended.none_lives number
