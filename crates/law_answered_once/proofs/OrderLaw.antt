-- What becomes of bios and logs with each event, and along a run. In any run a log's answers are to
-- its operations so far, in line order.
use Rattle.lab_model.proofs.Common.{◌≡◌, ◌⊎◌, ℕ, true, cond, nat_eq, [], Option, ap, List, ◌∷◌, sym}
use Rattle.lab_model.proofs.Common.{subst, rules, cons_option, DevNo, Scenario, State, Meaning}
use Rattle.lab_model.proofs.Common.{Next, effect, Leads, is_enabled, ◌≤◌, Some, None, length, refl}
use Rattle.lab_model.proofs.Common.{◌∙◌, arith, ltb-false, take_all, IsRun, opening, map-cases}
use Rattle.lab_model.specs.declared.entry.Entry.{Entry}
use Rattle.lab_model.specs.declared.micro.Order.{Order}
use Rattle.lab_model.specs.declared.event.Event.{Event}
use Rattle.law_slots.proofs.ByLine.{Takes, made_by, names}
use Rattle.law_slots.proofs.ByStep.{Controlled, Ordered}
use Rattle.law_answered_once.specs.LineOrder.{operation_of, AllAnsweredInLineOrder}
use Rattle.law_answered_once.specs.LineOrder.{AnsweredInLineOrder}
use Rattle.law_answered_once.proofs.Waiting.{Restarts, Rests, TakesLine, operations_for, Moves}
use Rattle.law_answered_once.proofs.Waiting.{has_item, waiting, waiting-busy, waiting-free}
use Rattle.law_slots.proofs.WalkRuns.{AfterEach, next-gives}
use Rattle.law_answered_once.proofs.BioMoves.{answers-moves, judges-moves, release-goes_on}
use Rattle.std.proofs.Common.{is_some, option_to_list, append-nil}
use Rattle.law_slots.proofs.DoneLemmas.{done-ended, logs-over}
use Rattle.law_answered_once.proofs.OrderLemmas.{InOrder, Waits-same, event-InOrder}

-- the bio that a line makes is made for its operation, if it is one
made-operations : (log at line : ℕ) (entry : Entry) (device : Option DevNo)
    → names entry device ≡ true → operations_for log (made_by at line entry device)
    ≡ cond (nat_eq log at) (cons_option (operation_of line entry) []) []
made-operations log at line entry device named = search rules

-- a log that takes a line
pub takes-moves : {S : Type 0} (c : Scenario S) (s : State S) (at : ℕ) (next : State S)
    → Takes c s at next → TakesLine c s at next
takes-moves c s at next takes =
    let line = takes.from.line in
    let does = takes.does in
    record {
      from = takes.from;
      f = does.f;
      keeps_taken = does.taken;
      keeps_answers = does.answers;
      made = made_by at line.number line.entry line.device;
      made_operations = λ log. made-operations log at line.number line.entry line.device does.named;
      bios = ap (λ t. t.bios) does.is;
      logs = ap (λ t. t.logs) does.is;
    }

-- the script's steps leave bios and logs, or start the logs
pub ordered-moves : {S : Type 0} (s : State S) (order : Order) (next : State S)
    → Ordered s order next → Rests s next ⊎ Restarts s next
ordered-moves s order next does = search rules

module _ {S : Type 0} (m : Meaning S) (c : Scenario S) (s : State S) where
  -- what each event does moves bios and logs so
  each-Moves : AfterEach m c s (Moves c s)
  each-Moves = search (
    rules,
    takes-moves,
    judges-moves,
    answers-moves,
    release-goes_on,
    λ (next : State S) (is : Controlled c s next). ordered-moves s is.micro.order next is.does,
  )

  -- so an event that may come does
  pub moved : (event : Event) (next : State S) → is_enabled c s event ≡ true
      → effect m c s event ≡ Next next → Moves c s event next
  moved = next-gives m c s (Moves c s) each-Moves

-- the first event of a run moves bios and logs so
pub first-Moves : {S : Type 0} (m : Meaning S) (c : Scenario S) (s : State S) (event : Event)
    (events : List Event) (end : State S)
    → (leads : Leads m c s (event ∷ events) end) → Moves c s event leads.1
first-Moves m c s event events end leads = moved m c s event leads.1 leads.0 leads.2

-- what each move keeps holds at the end of a run
pub run-keeps : {S : Type 0} (m : Meaning S) (c : Scenario S) (P : State S → Type 0)
    → ((s : State S) (event : Event) (next : State S) → Moves c s event next → P s → P next)
    → (events : List Event) (s end : State S) → Leads m c s events end → P s → P end
run-keeps m c P keeps [] s end leads h = subst P (sym leads) h
run-keeps m c P keeps (event ∷ events) s end leads h =
    run-keeps m c P keeps events leads.1 end leads.3
    (keeps s event leads.1 (first-Moves m c s event events end leads) h)

-- so it is in any run
run-InOrder : {S : Type 0} (m : Meaning S) (c : Scenario S) (events : List Event) (s : State S)
    → IsRun m c events s → InOrder c s
run-InOrder m c events s run = run-keeps m c (InOrder c) (event-InOrder c) events (opening c) s run
    (search (rules, map-cases, Waits-same))

-- a list of at most one item, as an option
as_option : {X : Type 0} (xs : List X) → length xs ≤ 1
    → (item : Option X) × (option_to_list item ≡ xs) × (is_some item ≡ has_item xs)
as_option [] most = (None, refl, refl)
as_option (x ∷ []) most = (Some x, refl, refl)
as_option (x ∷ y ∷ xs) most = absurd (omega arith)

-- the law: in any run answers are in line order, and at most one operation is under way
pub each-answered_in_line_order : {S : Type 0} (m : Meaning S) → AnsweredInLineOrder m
each-answered_in_line_order m c events s run number plan log planned stands =
    let waits = run-InOrder m c events s run number plan log planned stands in
    let last = as_option (waiting number s.bios) waits.most in
    record {
      under_way = last.0;
      order = rw last.1 waits.order;
      lives = last.2 ∙ sym (waiting-busy s number);
    }

-- the law at the end of a run: nothing waits, and all lines are taken
pub all-answered_in_line_order : {S : Type 0} (m : Meaning S) → AllAnsweredInLineOrder m
all-answered_in_line_order m c events s complete n plan log planned stands =
    let over = logs-over c s (done-ended c s complete.1).logs n plan log planned stands in
    let kept = run-InOrder m c events s complete.0 n plan log planned stands in
    search (rules, waiting-free, append-nil, take_all, ltb-false)
