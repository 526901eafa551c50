-- Which logs may take their next line stays, but for those that an event touches: where the clock
-- goes on, but not to a log's moment, and where another event comes.
use Rattle.lab_model.proofs.Common.{rules, ◌≡◌, ℕ, ◌≤◌, false, Some, None, refl, ap, ◌∙◌, subst}
use Rattle.lab_model.proofs.Common.{zero, suc, true, nat_eq, List, [], ◌∷◌, slice_get, joined-Some}
use Rattle.lab_model.proofs.Common.{is_enabled, moments, numbered, Scenario, State}
use Rattle.lab_model.proofs.Common.{Meaning, Next, Told, recorded, told_to, without_bio, Bio}
use Rattle.lab_model.proofs.Common.{control, effect, change}
use Rattle.lab_model.specs.declared.parent.Parent.{Parent}
use Rattle.lab_model.specs.declared.parent.Parent.TheVariants.{FromLog, FromBio}
use Rattle.lab_model.proofs.Common.{change_numbered, bio_of, is_clock}
use Rattle.lab_model.specs.declared.event.Event.TheVariants.{Line, Map, Serve, Release, Finish}
use Rattle.lab_model.specs.declared.event.Event.TheVariants.{Control, Clock}
use Rattle.lab_model.specs.declared.event.Event.{Event}
use Rattle.lab_model.specs.declared.micro.Order.{Order}
use Rattle.std.proofs.Common.{append-nil}
use Rattle.lab_model.specs.Effect.{tick}
use Rattle.std.proofs.lemmas.Bool.{ne_eqb}
use Rattle.lab_model.proofs.LeastAhead.{least-is}
use Rattle.law_slots.proofs.ByLine.{Then, Then-either, Then-at}
use Rattle.law_slots.proofs.ByStep.{Controlled, Ordered, control-does}
use Rattle.law_slots.proofs.WalkRuns.{AfterEach, next-gives}
use Rattle.law_slots.specs.WalkIsKept.{is_control}
use Rattle.law_answered_once.proofs.Waiting.{waiting, waiting-busy, waiting-append, waiting-change}
use Rattle.law_answered_once.proofs.Waiting.{waiting-others, GoesOn, IsAnswered, TakesLine}
use Rattle.law_answered_once.proofs.Waiting.{operation_for}
use Rattle.law_answered_once.proofs.OrderLaw.{moved}
use Rattle.lab_core.specs.Free.{IsTouchedLog, bio_log, order_logs, parent_log, step_logs, touched_logs}

-- the clock alone goes on
pub record Ticks {S : Type 0} (s next : State S) : Type 0 where
  pub clock : s.clock ≤ next.clock
  pub started : next.started ≡ s.started
  pub bios : next.bios ≡ s.bios
  pub logs : next.logs ≡ s.logs

-- where its event comes
pub tick-ticks : {S : Type 0} (s : State S) → Then (tick s) (Ticks s)
tick-ticks s = Then-either (Ticks s) s _ _ (search rules)
    (λ moment found. search (rules, least-is s.clock (moments s) moment found))

-- the clock stays, and so does whether the logs have started
record Stays {S : Type 0} (s next : State S) : Type 0 where
  clock : next.clock ≡ s.clock
  started : next.started ≡ s.started

-- so it is after each event but the script's and the clock's
each-stays : {S : Type 0} (m : Meaning S) (c : Scenario S) (s : State S) → AfterEach m c s
    (λ event next. is_control event ≡ false → is_clock event ≡ false → Stays s next)
each-stays m c s = search rules

-- an item at another place than one that is changed
change-other : {X : Type 0} (xs : List X) (f : X → X) (place other : ℕ) → (other ≡ place → ⊥)
    → slice_get (change xs place f) other ≡ slice_get xs other
change-other [] f place other apart = refl
change-other (x ∷ xs) f zero zero apart = absurd (apart refl)
change-other (x ∷ xs) f zero (suc other) apart = refl
change-other (x ∷ xs) f (suc place) zero apart = refl
change-other (x ∷ xs) f (suc place) (suc other) apart =
    change-other xs f place other (λ same. apart (ap suc same))

-- the same by number
numbered-other : {X : Type 0} (xs : List X) (f : X → X) (at number : ℕ) → (number ≡ at → ⊥)
    → numbered (change_numbered xs at f) number ≡ numbered xs number
numbered-other xs f at number apart = search (rules, change-other)

module _ {S : Type 0} (c : Scenario S) (s next : State S) (number : ℕ) where
  -- a log stands as it stood, and as many of its operations wait
  record StandsSo : Type 0 where
    logs : numbered next.logs number ≡ numbered s.logs number
    waits : waiting number next.bios ≡ waiting number s.bios

  -- so it may take its next line as before, where the clock stays
  stands-kept : Stays s next → StandsSo
      → is_enabled c next (Line number) ≡ is_enabled c s (Line number)
  stands-kept stays stands = search (rules, waiting-busy)

  -- another log's line was taken
  takes-stands : (at : ℕ) → TakesLine c s at next → (number ≡ at → ⊥) → StandsSo
  takes-stands at takes apart = record {
    logs = ap (λ logs. numbered logs number) takes.logs ∙ numbered-other s.logs _ at number apart;
    waits = rw (
      takes.bios,
      waiting-append,
      takes.made_operations number,
      ne_eqb number at apart,
      append-nil,
    ) refl;
  }

  -- a bio went on
  goes-stands : (at : ℕ) → GoesOn s at next → StandsSo
  goes-stands at goes = let same = waiting-change number goes.f goes.keeps in
      search (rules, goes.bios, waiting-append, goes.made_operations number, append-nil, same)

  -- a bio was answered that is of another log, or of a bio
  told-stands : (at : ℕ) (bio : Bio) (told : Told) (parent : Parent) → bio.parent ≡ parent
      → bio_of s at ≡ Some bio → next.bios ≡ (told_to (without_bio s at) bio told parent).bios
      → next.logs ≡ (told_to (without_bio s at) bio told parent).logs
      → (IsTouchedLog next (parent_log parent) number → ⊥) → StandsSo
  told-stands at bio told (FromLog log line action) parent_is lives bios logs apart = record {
    logs = ap (λ logs. numbered logs number) logs ∙ numbered-other s.logs _ log number apart;
    waits = ap (waiting number) bios ∙ waiting-others number s.bios at bio
        (joined-Some (numbered s.bios at) bio lives)
        (ap (operation_for number) parent_is ∙ none-of (ne_eqb number log apart));
  }
    where
      none-of : nat_eq number log ≡ false
          → operation_for number (FromLog log line action) ≡ None
      none-of is = rw is refl
  told-stands at bio told (FromBio parent_number piece) parent_is lives bios logs apart = record {
    logs = ap (λ logs. numbered logs number) logs;
    waits = ap (waiting number) bios
        ∙ waiting-change number (recorded bio piece told) (λ b. refl)
        (change_numbered s.bios at (λ entry. None)) parent_number
        ∙ waiting-others number s.bios at bio (joined-Some (numbered s.bios at) bio lives)
        (ap (operation_for number) parent_is);
  }

  -- a bio was answered that doesn't touch the log
  answered-stands : (at : ℕ) → IsAnswered s at next
      → (IsTouchedLog next (bio_log (bio_of s at)) number → ⊥) → StandsSo
  answered-stands at answers apart = search (rules, told-stands)

  -- a step of the script was done that starts no log
  step-kept : (order : Order) → Ordered s order next
      → (IsTouchedLog next (order_logs order) number → ⊥)
      → is_enabled c next (Line number) ≡ is_enabled c s (Line number)
  step-kept order does apart = search rules

-- so is what an event leaves so that is neither the script's nor the clock's
stays-kept : {S : Type 0} (m : Meaning S) (c : Scenario S) (s next : State S) (number : ℕ)
    (event : Event) → is_control event ≡ false → is_clock event ≡ false
    → is_enabled c s event ≡ true → effect m c s event ≡ Next next → StandsSo c s next number
    → is_enabled c next (Line number) ≡ is_enabled c s (Line number)
stays-kept m c s next number event script clock may goes = stands-kept c s next number
    (next-gives m c s _ (each-stays m c s) event next may goes script clock)

-- an event that may come lets be which logs may take their next line, but for those that it touches
pub event-kept : {S : Type 0} (m : Meaning S) (c : Scenario S) (s next : State S) (event : Event)
    → is_enabled c s event ≡ true → effect m c s event ≡ Next next → (number : ℕ)
    → (IsTouchedLog next (touched_logs c s event) number → ⊥)
    → is_enabled c next (Line number) ≡ is_enabled c s (Line number)
event-kept m c s next (Line log) may goes number apart =
    stays-kept m c s next number (Line log) refl refl may goes
    (takes-stands c s next number log (moved m c s (Line log) next may goes) apart)
event-kept m c s next (Map at) may goes number apart =
    stays-kept m c s next number (Map at) refl refl may goes
    (goes-stands c s next number at (moved m c s (Map at) next may goes))
event-kept m c s next (Serve at) may goes number apart =
    stays-kept m c s next number (Serve at) refl refl may goes
    (answered-stands c s next number at (moved m c s (Serve at) next may goes) apart)
event-kept m c s next (Release at) may goes number apart =
    stays-kept m c s next number (Release at) refl refl may goes
    (goes-stands c s next number at (moved m c s (Release at) next may goes))
event-kept m c s next (Finish at) may goes number apart =
    stays-kept m c s next number (Finish at) refl refl may goes
    (answered-stands c s next number at (moved m c s (Finish at) next may goes) apart)
event-kept m c s next Control may goes number apart =
    let does = Then-at (Controlled c s) (control m c s) next (control-does m c s may) goes in
    step-kept c s next number does.micro.order does.does
    (subst (λ step. IsTouchedLog next (step_logs step) number → ⊥) does.comes apart)
event-kept m c s next Clock may goes number apart =
    search (rules, Then-at (Ticks s) (tick s) next (tick-ticks s) goes)
