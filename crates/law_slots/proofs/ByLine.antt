-- What holds of the next state of an event, if there is one: through the words that make effects.
-- What a line of a log does: the log takes it, a wait sets its moment on, and an operation makes a
-- bio.
use Rattle.lab_model.proofs.Common.{rules, ◌≡◌, Bool, true, Option, Some, subst, After, Next, Wrong}
use Rattle.lab_model.proofs.Common.{Cause, given, unless, State, ℕ, ◌+◌, false, List, [], ◌∷◌, ◌++◌}
use Rattle.lab_model.proofs.Common.{None, map, slice_get, refl, sym, arith, true≢false, ltb-true}
use Rattle.lab_model.proofs.Common.{and_parts, DevNo, Bio, has_line, is_busy, is_enabled, line_may}
use Rattle.lab_model.proofs.Common.{numbered, line_effect, operation, wait_of, with_log}
use Rattle.lab_model.specs.declared.plan.LogLine.{LogLine}
use Rattle.lab_model.proofs.Common.{LogPlan, Scenario, LogState, slice_get-within}
use Rattle.lab_model.specs.After.{where_there}
use Rattle.lab_model.specs.declared.entry.Entry.{Entry}
use Rattle.lab_model.specs.declared.entry.Entry.TheVariants.{Operate}
use Rattle.lab_model.specs.declared.event.Event.TheVariants.{Line}
use Rattle.lab_model.specs.Files.{files_after}
use Rattle.lab_model.specs.LogEffect.{take_line}

-- P holds of the next state, if there is one
abbrev pub Then : {S : Type 0} → After S → (State S → Type 0) → Type 0
Then (Next s) P = P s
Then (Wrong cause) P = Unit {0}

-- so it does of a state that is known to be the next one
pub Then-at : {S : Type 0} (P : State S → Type 0) (after : After S) (next : State S)
    → Then after P → after ≡ Next next → P next
Then-at P after next then e = subst (λ a. Then a P) e then

-- what holds of the next state gives what follows from it
pub Then-so : {S : Type 0} (P Q : State S → Type 0) → ((next : State S) → P next → Q next)
    → (after : After S) → Then after P → Then after Q
Then-so P Q so after has = search rules

-- it holds where it holds for the value that is given
pub Then-given : {S X : Type 0} (P : State S → Type 0) (cause : Cause) (o : Option X)
    (f : X → After S)
    → ((x : X) → o ≡ Some x → Then (f x) P) → Then (given cause o f) P
Then-given P cause o f then = search rules

-- it holds where it holds if the test passes
pub Then-unless : {S : Type 0} (P : State S → Type 0) (cause : Cause) (test : Bool)
    (after : After S)
    → (test ≡ true → Then after P) → Then (unless cause test after) P
Then-unless P cause test after then = search rules

-- it holds where a value that a guard has found is there
pub Then-there : {S X : Type 0} (P : State S → Type 0) (s : State S) (o : Option X)
    (f : X → After S) (x : X)
    → o ≡ Some x → Then (f x) P → Then (where_there s o f) P
Then-there P s o f x there then = rw there then

-- it holds where it holds for the value that is there, and of the state itself
pub Then-either : {S X : Type 0} (P : State S → Type 0) (s : State S) (o : Option X)
    (f : X → After S)
    → P s → ((x : X) → o ≡ Some x → Then (f x) P) → Then (where_there s o f) P
Then-either P s o f here then = search rules

-- the bio that an entry makes, if it is an operation on a device
abbrev pub made_by : ℕ → ℕ → Entry → Option DevNo → List Bio
made_by log line (Operate action span) (Some device) =
    operation log line device action span ∷ []
made_by log line _ _ = []

-- whether an entry names the device that it needs: an operation does
abbrev pub names : Entry → Option DevNo → Bool
names (Operate action span) None = false
names _ _ = true

-- what an entry does to the log of a number, and to the bios
pub record Entered {S : Type 0} (s : State S) (at : ℕ) (line : LogLine) (entry : Entry)
    (next : State S) : Type 0 where
  pub named : names entry line.device ≡ true
  pub f : LogState → LogState
  pub taken : (log : LogState) → (f log).taken ≡ log.taken
  pub answers : (log : LogState) → (f log).answers ≡ log.answers
  pub moment : (log : LogState) → (f log).moment ≡ log.moment + wait_of entry
  pub files : (log : LogState) → (f log).files ≡ files_after log.files entry line.device
  pub is : next ≡ record (with_log s at f) {
    bios = s.bios ++ map (λ bio. Some bio) (made_by at line.number entry line.device);
  }

module _ {S : Type 0} (s : State S) (at : ℕ) (log : LogState) (line : LogLine) where
  -- each entry does what an entry may
  pub entry-does : (entry : Entry)
      → Then (line_effect s at log line entry) (Entered s at line entry)
  entry-does entry = search rules

-- the line that a log of a number takes
pub record Comes {S : Type 0} (c : Scenario S) (s : State S) (at : ℕ) : Type 0 where
  pub plan : LogPlan
  pub log : LogState
  pub line : LogLine
  pub planned : numbered c.logs at ≡ Some plan
  pub stands : numbered s.logs at ≡ Some log
  pub comes : slice_get plan.lines log.taken ≡ Some line
  pub started : s.started ≡ true
  pub free : is_busy s at ≡ false

-- what a log's event does: its next line is there, and is taken
pub record Takes {S : Type 0} (c : Scenario S) (s : State S) (at : ℕ)
    (next : State S) : Type 0 where
  pub from : Comes c s at
  pub does : Entered s at from.line from.line.entry next

module _ {S : Type 0} (c : Scenario S) (s : State S) (at : ℕ) where
  -- the guard finds the log, which has a line left
  guard-gives : (plan : Option LogPlan) (log : Option LogState) → numbered c.logs at ≡ plan
      → numbered s.logs at ≡ log → line_may s at plan log ≡ true → Comes c s at
  guard-gives (Some plan) (Some log) planned stood may =
      let has : has_line plan log ≡ true = grind (arith, and_parts) in
      let line = slice_get-within plan.lines log.taken (ltb-true _ _ has) in
      search rules
  guard-gives _ _ planned stood may = absurd (true≢false (sym may))

  -- so a log that may take a line has one
  pub line-comes : is_enabled c s (Line at) ≡ true → Comes c s at
  line-comes may = guard-gives (numbered c.logs at) (numbered s.logs at) refl refl may

  -- and the event of a log takes it
  pub line-does : is_enabled c s (Line at) ≡ true → Then (take_line c s at) (Takes c s at)
  line-does may =
      let from = line-comes may in
      Then-there (Takes c s at) s (numbered c.logs at) _ from.plan from.planned
      (Then-there (Takes c s at) s (numbered s.logs at) _ from.log from.stands
      (Then-there (Takes c s at) s (slice_get from.plan.lines from.log.taken) _ from.line from.comes
      (Then-so _ (Takes c s at) (λ next does. record { from = from; does = does }) _
      (entry-does s at from.log from.line from.line.entry))))
