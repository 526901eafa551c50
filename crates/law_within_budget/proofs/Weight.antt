-- The potential as a weight: of the logs' lines, of the micro-commands and of the bios. Each event
-- but a Map and the clock's takes exactly one of it.
use Rattle.lab_model.proofs.Common.{rules, ◌≡◌, ℕ, Bool, ◌+◌, ◌-◌, ◌≤◌, Option, Some, map, drop}
use Rattle.lab_model.proofs.Common.{length, refl, ap, arith, true, false, true≢false, not, cond}
use Rattle.lab_model.proofs.Common.{List, [], ◌∷◌, sum_by-cons, Meaning, Told, told_to}
use Rattle.lab_model.proofs.Common.{Bio, InFlight, line_cost}
use Rattle.lab_model.specs.declared.parent.Parent.{Parent}
use Rattle.lab_model.specs.declared.parent.Parent.TheVariants.{FromLog, FromBio}
use Rattle.lab_model.proofs.Common.{next_line, bio_potential, log_potential, potential}
use Rattle.lab_model.proofs.Common.{Scenario, Sectors, State, drop-found, of_entry, sum-total}
use Rattle.lab_model.proofs.Common.{total, total-numbered-entry, total-numbered-same}
use Rattle.lab_model.proofs.Common.{slice_get_within, DevNo, cost, release, is_enabled, is_clock}
use Rattle.lab_model.proofs.Common.{total-append, bio_may-gives, Leads, steps, clock_steps}
use Rattle.lab_model.proofs.Common.{sum, sum-there}
use Rattle.lab_model.specs.declared.entry.Entry.{Entry}
use Rattle.lab_model.specs.declared.event.Event.TheVariants.{Release}
use Rattle.lab_model.specs.declared.micro.Order.{Order}
use Rattle.lab_model.specs.declared.event.Event.{Event}
use Rattle.std.proofs.Common.{zip}
use Rattle.lab_model.proofs.ListLemmas.{total-zip-numbered, total-zip-numbered-same}
use Rattle.lab_model.proofs.ListLemmas.{total-zip-map-same}
use Rattle.lab_model.specs.Cost.{of_operation}
use Rattle.law_slots.proofs.WalkRuns.{AfterEach, next-gives}
use Rattle.law_slots.proofs.ByBio.{Answers, Judges}
use Rattle.law_slots.proofs.ByLine.{Takes, made_by, Then}
use Rattle.law_slots.proofs.ByStep.{Controlled, logs_after}
use Rattle.law_within_budget.specs.PotentialFalls.{KeepsVersions, TablesAreVersions}

-- the potential, as the total of its parts
abbrev pub weight : {S : Type 0} → Meaning S → Scenario S → State S → ℕ
weight m c s = total (log_potential m c) (zip c.logs s.logs) + (length c.micros - s.done)
    + total (of_entry (bio_potential m c)) s.bios

-- the weight falls from a state to the next
abbrev pub Fell : {S : Type 0} → Meaning S → Scenario S → State S → State S → Type 0
Fell m c s next = weight m c next + 1 ≤ weight m c s

-- it falls by exactly one
abbrev pub Spends : {S : Type 0} → Meaning S → Scenario S → State S → State S → Type 0
Spends m c s next = weight m c next + 1 ≡ weight m c s

-- what a bio in flight has been told of its pieces weighs nothing
abbrev pub IgnoresAnswers : (Bio → ℕ) → Type 0
IgnoresAnswers w = (bio : Bio) (failed later : Bool) (before after : Sectors)
    → w (record bio { stage = InFlight failed before })
    ≡ w (record bio { stage = InFlight later after })

-- so telling a parent leaves what the bios weigh
pub told-bios : {S : Type 0} (w : Bio → ℕ) → IgnoresAnswers w → (s : State S) (bio : Bio)
    (told : Told) (parent : Parent)
    → total (of_entry w) (told_to s bio told parent).bios ≡ total (of_entry w) s.bios
told-bios w ignores s bio told parent = search (rules, total-numbered-same)

module _ {S : Type 0} (m : Meaning S) (c : Scenario S) where
  -- the potential is the weight
  pub potential-is : (s : State S) → potential m c s ≡ weight m c s
  potential-is s = search (rules, sum-total, sum-there)

  -- telling a parent leaves the weight
  told-same : (s : State S) (bio : Bio) (told : Told) (parent : Parent)
      → weight m c (told_to s bio told parent) ≡ weight m c s
  told-same s bio told (FromLog log line action) = search (rules, total-zip-numbered-same)
  told-same s bio told (FromBio number piece) = search (rules, told-bios)

-- the script's steps, and the lines of logs
module _ {S : Type 0} (m : Meaning S) (c : Scenario S) (s : State S) where
  -- logs that start have as many lines left
  started-same : (order : Order) → total (log_potential m c) (zip c.logs (logs_after s order))
      ≡ total (log_potential m c) (zip c.logs s.logs)
  started-same order = search (rules, total-zip-map-same)

  -- the script's next step is one micro-command done
  pub step-spends : (next : State S) → Controlled c s next → Spends m c s next
  step-spends next is = search (rules, slice_get_within, started-same)

  -- the bio of an operation is worth what the line counts for it
  made-worth : (at line : ℕ) (entry : Entry) (device : Option DevNo)
      → total (of_entry (bio_potential m c)) (map (λ bio. Some bio) (made_by at line entry device))
      ≡ of_operation (cost m c) device entry
  made-worth at line entry device = grind arith

  -- a line gives up itself and what its operation costs, and takes its operation's bio
  pub takes-spends : (at : ℕ) (next : State S) → Takes c s at next → Spends m c s next
  takes-spends at next takes =
      let from = takes.from in
      let line = from.line in
      let f = takes.does.f in
      let rest = drop (from.log.taken + 1) from.plan.lines in
      rw takes.does.is (omega (
        arith,
        total-zip-numbered (log_potential m c) (λ l. f (next_line l)) c.logs s.logs at from.plan
            from.log from.planned from.stands,
        ap (λ taken. sum (map (line_cost m c) (drop taken from.plan.lines)))
            (takes.does.taken (next_line from.log)),
        ap (λ lines. sum (map (line_cost m c) lines))
            (drop-found from.plan.lines from.log.taken line from.comes),
        sum_by-cons (λ n. n) (line_cost m c line) (map (line_cost m c) rest),
        made-worth at line.number line.entry line.device,
        total-append (of_entry (bio_potential m c)) s.bios
            (map (λ bio. Some bio) (made_by at line.number line.entry line.device)),
      ))

-- the events of bios
module _ {S : Type 0} (m : Meaning S) (c : Scenario S) (s : State S) where
  -- an answer takes what the bio is worth
  pub answers-spends : (at : ℕ) (next : State S) → Answers s at next → Spends m c s next
  answers-spends at next is = search (rules, told-same, total-numbered-entry)

  -- the event of a held bio
  pub release-spends : (at : ℕ) → is_enabled c s (Release at) ≡ true
      → Then (release s at) (Spends m c s)
  release-spends at may = search (rules, bio_may-gives, total-numbered-entry, true≢false)

-- what holds of an event that takes exactly one holds of each but the clock's and a Map's: so of
-- all, where it holds of these
pub each-spends : {S : Type 0} (m : Meaning S) (c : Scenario S) (s : State S)
    (P : Bool → State S → Type 0) → ((next : State S) → Spends m c s next → P false next)
    → ((next : State S) → weight m c next ≡ weight m c s → P true next)
    → ((at : ℕ) (next : State S) → Judges m s at next → P false next)
    → AfterEach m c s (λ event. P (is_clock event))
each-spends m c s P spent same judged =
    search (rules, takes-spends, answers-spends, release-spends, step-spends)

-- what an event counts among those that aren't the clock's
abbrev pub other_count : Event → ℕ
other_count event = cond (not (is_clock event)) 1 0

-- what an event counts among the clock's
abbrev pub clock_count : Event → ℕ
clock_count event = cond (is_clock event) 1 0

-- what holds of each event and of two runs one after another holds of all runs, by how many events
-- are the clock's and how many aren't
pub events-sum : {S : Type 0} (m : Meaning S) (c : Scenario S)
    (Q : State S → State S → ℕ → ℕ → Type 0) → ((s : State S) → Q s s 0 0)
    → ((s next end : State S) (a b c d : ℕ) → Q s next a b → Q next end c d
    → Q s end (a + c) (b + d))
    → ((s : State S) → TablesAreVersions m c s
    → AfterEach m c s (λ event next. Q s next (other_count event) (clock_count event)))
    → (events : List Event) (s end : State S) → KeepsVersions m c s → Leads m c s events end
    → Q s end (steps events) (clock_steps events)
events-sum m c Q none join each [] s end keeps leads = rw leads (none s)
events-sum m c Q none join each (event ∷ events) s end keeps leads =
    rw (sum_by-cons other_count event events, sum_by-cons clock_count event events)
    (join s leads.1 end _ _ _ _
    (next-gives m c s _ (each s (keeps [] s refl)) event leads.1 leads.0 leads.2)
    (events-sum m c Q none join each events leads.1 end
    (λ more reached on. keeps (event ∷ more) reached (leads.0, leads.1, leads.2, on)) leads.3))
