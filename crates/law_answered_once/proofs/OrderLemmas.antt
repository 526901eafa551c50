-- A log's answers, and then the operation that waits, are its operations so far.
use Rattle.lab_model.proofs.Common.{rules, ◌≡◌, ℕ, ◌+◌, ◌≤◌, cond, eqb, List, [], ◌∷◌, ◌++◌, Some}
use Rattle.lab_model.proofs.Common.{None, length, map, take, slice_get, inl, inr, refl, ap, sym}
use Rattle.lab_model.proofs.Common.{◌∙◌, arith, eq-eqb, ne_eqb, map-append}
use Rattle.lab_model.proofs.Common.{filter_map-append, told_to, recorded, outcome_of, with_answer}
use Rattle.lab_model.proofs.Common.{without_bio, starting}
use Rattle.lab_model.specs.declared.parent.Parent.{Parent}
use Rattle.lab_model.specs.declared.parent.Parent.TheVariants.{FromLog, FromBio}
use Rattle.lab_model.proofs.Common.{change_numbered, numbered, next_line, Scenario}
use Rattle.lab_model.specs.declared.plan.LogLine.{LogLine}
use Rattle.lab_model.proofs.Common.{LogPlan, State, LogState, joined-Some, take-more}
use Rattle.lab_model.proofs.Common.{change_numbered-cases, map-cases, Some-holds}
use Rattle.lab_model.specs.declared.event.Event.{Event}
use Rattle.lab_model.specs.declared.event.Event.TheVariants.{Line, Map, Serve, Release, Finish}
use Rattle.lab_model.specs.declared.event.Event.TheVariants.{Control, Clock}
use Rattle.std.proofs.Common.{append-nil}
use Rattle.lab_model.specs.declared.answer.Answer.{Answer}
use Rattle.law_answered_once.specs.LineOrder.{Operation, answered_operations, operation_of}
use Rattle.law_answered_once.specs.LineOrder.{operations}
use Rattle.law_answered_once.proofs.Waiting.{GoesOn, IsAnswered, Moves, Restarts, TakesLine}
use Rattle.law_answered_once.proofs.Waiting.{waiting, waiting-append, waiting-change, waiting-free}
use Rattle.law_answered_once.proofs.Waiting.{waiting-only, waiting-others}

-- the operations that have answers, and then those that wait, are those among the lines taken
pub record Waits (plan : LogPlan) (taken : ℕ) (answered left : List Operation) : Type 0 where
  pub order : answered ++ left ≡ operations (take taken plan.lines)
  pub most : length left ≤ 1

-- so it is of one log
abbrev pub LogWaits : {S : Type 0} → State S → ℕ → LogPlan → LogState → Type 0
LogWaits s number plan log = Waits plan log.taken (answered_operations log) (waiting number s.bios)

-- so it is of each log
abbrev pub InOrder : {S : Type 0} → Scenario S → State S → Type 0
InOrder c s = (number : ℕ) (plan : LogPlan) (log : LogState)
    → numbered c.logs number ≡ Some plan → numbered s.logs number ≡ Some log
    → LogWaits s number plan log

-- the same in other words
pub Waits-same : {plan other : LogPlan} {taken count : ℕ} {answered said left more : List Operation}
    → plan ≡ other → taken ≡ count → answered ≡ said → left ≡ more → Waits other count said more
    → Waits plan taken answered left
Waits-same e f g h waits = rw (e, f, g, h) waits

-- where logs stay and the same operations wait
same-InOrder : {S : Type 0} (c : Scenario S) (s next : State S) → next.logs ≡ s.logs
    → ((log : ℕ) → waiting log next.bios ≡ waiting log s.bios) → InOrder c s → InOrder c next
same-InOrder c s next logs left h number plan log planned stands =
    search (rules, Waits-same, left number, h number plan log planned)

-- where the logs start
restarts-InOrder : {S : Type 0} (c : Scenario S) (s next : State S) → Restarts s next
    → InOrder c s → InOrder c next
restarts-InOrder c s next moves h n plan log planned stands =
    let old = map-cases (starting s.clock) s.logs n log (rw moves.logs at stands) in
    search (rules, Waits-same, h n plan old.0 planned old.1)

-- where a bio goes on
goes_on-InOrder : {S : Type 0} (c : Scenario S) (s next : State S) (at : ℕ)
    → GoesOn s at next → InOrder c s → InOrder c next
goes_on-InOrder c s next at moves = same-InOrder c s next moves.logs (λ log.
    rw (moves.bios, waiting-append log _ moves.made, moves.made_operations log)
    (append-nil _ ∙ waiting-change log moves.f moves.keeps s.bios at))

-- the operations with one line more
operations-next : (lines : List LogLine) (n : ℕ) (line : LogLine) → slice_get lines n ≡ Some line
    → operations (take (n + 1) lines) ≡ operations (take n lines) ++ operations (line ∷ [])
operations-next lines n line comes = ap operations (take-more lines n line comes)
    ∙ filter_map-append (λ l. operation_of l.number l.entry) (take n lines) (line ∷ [])

-- where one log changes, and of no other does more or less wait
module _ {S : Type 0} (c : Scenario S) (s next : State S) (at : ℕ) (f : LogState → LogState)
    (logs : next.logs ≡ change_numbered s.logs at f)
    (others : (number : ℕ) → (number ≡ at → ⊥) → waiting number next.bios ≡ waiting number s.bios)
    (own : (plan : LogPlan) (log : LogState) → numbered c.logs at ≡ Some plan
    → numbered s.logs at ≡ Some log → LogWaits s at plan log → LogWaits next at plan (f log)) where
  -- so it is of each log, if it is of that one
  changed-InOrder : InOrder c s → InOrder c next
  changed-InOrder h number plan log planned stands =
      elim (change_numbered-cases s.logs f at number log (rw logs at stands)) [
        | inl one ↦
            let there = rw one.same at planned in
            rw (one.same, one.is) (own plan one.old there one.stood
            (h at plan one.old there one.stood))
        | inr other ↦ Waits-same refl refl refl (others number other.0)
            (h number plan log planned other.1)
      ]

-- where a log takes a line
module _ {S : Type 0} (c : Scenario S) (s next : State S) (at : ℕ)
    (moves : TakesLine c s at next) where
  -- the operations that wait then
  left_after : (log : ℕ) → waiting log next.bios
      ≡ waiting log s.bios ++ cond (eqb log at) (operations (moves.from.line ∷ [])) []
  left_after log = search (rules, waiting-append)

  -- each log: the line's operation waits alone, where nothing had waited
  takes-InOrder : InOrder c s → InOrder c next
  takes-InOrder = changed-InOrder c s next at (λ l. moves.f (next_line l)) moves.logs
      (λ number other. left_after number ∙ rw (ne_eqb number at other) (append-nil _))
      (λ plan log planned stood before.
      let from = moves.from in
      let same : plan ≡ from.plan = Some-holds (sym planned ∙ from.planned) in
      let is : log ≡ from.log = Some-holds (sym stood ∙ from.stands) in
      let free = waiting-free s at from.free in
      let left : waiting at next.bios ≡ operations (from.line ∷ []) =
      left_after at ∙ rw (eq-eqb at at refl, free) in
      let comes : slice_get plan.lines log.taken ≡ Some from.line = rw (same, is) from.comes in
      Waits-same refl (moves.keeps_taken (next_line log))
      (ap (map (λ answer. record { line = answer.line; action = answer.action }))
      (moves.keeps_answers (next_line log))) left (record {
        order = ap (λ l. l ++ operations (from.line ∷ [])) (rw (free, append-nil) at before.order)
            ∙ sym (operations-next plan.lines log.taken from.line comes);
        most = grind arith;
      }))

-- where a bio is answered
module _ {S : Type 0} (c : Scenario S) (s next : State S) (at : ℕ)
    (moves : IsAnswered s at next) where
  -- the bio stands at its number
  there : numbered s.bios at ≡ Some (Some moves.bio)
  there = joined-Some (numbered s.bios at) moves.bio moves.lives

  -- by its parent: a log has its answer and waits no more, or a bio is told, and no log
  parent-InOrder : (parent : Parent) → moves.bio.parent ≡ parent
      → next.bios ≡ (told_to (without_bio s at) moves.bio moves.told parent).bios
      → next.logs ≡ (told_to (without_bio s at) moves.bio moves.told parent).logs
      → InOrder c s → InOrder c next
  parent-InOrder (FromLog log line action) is bios logs =
      let operation : Operation = record { line = line; action = action } in
      changed-InOrder c s next log
      (with_answer line action (outcome_of moves.bio.kind moves.told)) logs
      (λ number other. rw bios (waiting-others number s.bios at moves.bio there
      (rw (is, ne_eqb number log other) refl))) (λ plan now planned stood before.
      let only = waiting-only log s.bios at moves.bio operation there
      (rw (is, eq-eqb log log refl) refl) before.most in
      Waits-same refl refl (map-append (λ (answer : Answer). record {
        line = answer.line;
        action = answer.action;
      }) now.answers _) (rw bios only.after) (record {
        order = append-nil _ ∙ rw only.before at before.order;
        most = omega arith;
      }))
  parent-InOrder (FromBio number piece) is bios logs = same-InOrder c s next logs
      (λ log. rw bios (waiting-change log (recorded moves.bio piece moves.told) (λ bio. refl)
      (change_numbered s.bios at (λ entry. None)) number
      ∙ waiting-others log s.bios at moves.bio there (rw is refl)))

  -- so it is of any bio
  answered-InOrder : InOrder c s → InOrder c next
  answered-InOrder = parent-InOrder moves.bio.parent refl moves.bios moves.logs

-- each event
pub event-InOrder : {S : Type 0} (c : Scenario S) (s : State S) (event : Event) (next : State S)
    → Moves c s event next → InOrder c s → InOrder c next
event-InOrder c s (Line log) next moves h = takes-InOrder c s next log moves h
event-InOrder c s (Map at) next moves h = goes_on-InOrder c s next at moves h
event-InOrder c s (Serve at) next moves h = answered-InOrder c s next at moves h
event-InOrder c s (Release at) next moves h = goes_on-InOrder c s next at moves h
event-InOrder c s (Finish at) next moves h = answered-InOrder c s next at moves h
event-InOrder c s Control next (inl moves) h =
    same-InOrder c s next moves.logs (λ log. ap (waiting log) moves.bios) h
event-InOrder c s Control next (inr moves) h = restarts-InOrder c s next moves h
event-InOrder c s Clock next moves h =
    same-InOrder c s next moves.logs (λ log. ap (waiting log) moves.bios) h
