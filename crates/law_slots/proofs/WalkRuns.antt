-- What holds after each event, by what the event does; and what each event keeps holds at the end
-- of all runs. Runs keep the walk: each event leads from a state on the walk to one on the walk.
use Rattle.lab_model.proofs.Common.{◌≡◌, ℕ, ◌<◌, true, List, [], ◌∷◌, Meaning, Next, release, Leads}
use Rattle.lab_model.proofs.Common.{effect, is_enabled, moments, Scenario, State, In, rules, ◌+◌}
use Rattle.lab_model.proofs.Common.{false, Some, take, refl, ◌∙◌, arith, sum_by-cons, Lawful}
use Rattle.lab_model.proofs.Common.{pieces, devices_image, walk, walk_order, take-more}
use Rattle.lab_model.specs.declared.event.Event.{Event}
use Rattle.lab_model.specs.declared.event.Event.TheVariants.{Line, Map, Serve, Release, Finish}
use Rattle.lab_model.specs.declared.event.Event.TheVariants.{Control, Clock}
use Rattle.law_slots.proofs.ByBio.{Answers, Judges, finish-does, map-does, serve-does}
use Rattle.law_slots.proofs.ByLine.{Takes, line-does, Then, Then-at, Then-so, Then-there}
use Rattle.law_slots.proofs.ByStep.{Controlled, control-does, control-comes, order-gives-step}
use Rattle.lab_model.proofs.LeastAhead.{least-is, least-there}
use Rattle.lab_model.specs.declared.micro.Micro.{Micro}
use Rattle.std.specs.List.{slice_get}
use Rattle.std.proofs.lemmas.List.Sums.{fold_push}
use Rattle.law_slots.specs.WalkIsKept.{WalkIsKept, controls, is_control}
use Rattle.law_slots.proofs.WalkImages.{all_judged-image, devices_live-image}

module _ {S : Type 0} (m : Meaning S) (c : Scenario S) (s : State S) where
  -- what is to hold after each event, by what it does; the clock goes on to a moment that stands
  -- and lies ahead
  pub record AfterEach (P : Event → State S → Type 0) : Type 0 where
    pub takes : (at : ℕ) (next : State S) → Takes c s at next → P (Line at) next
    pub judges : (at : ℕ) (next : State S) → Judges m s at next → P (Map at) next
    pub serves : (at : ℕ) (next : State S) → Answers s at next → P (Serve at) next
    pub releases : (at : ℕ) → is_enabled c s (Release at) ≡ true
        → Then (release s at) (P (Release at))
    pub finishes : (at : ℕ) (next : State S) → Answers s at next → P (Finish at) next
    pub steps : (next : State S) → Controlled c s next → P Control next
    pub ticks : (moment : ℕ) → In moment (moments s) → s.clock < moment
        → P Clock (record s { clock = moment })

  module _ (P : Event → State S → Type 0) (each : AfterEach P) where
    -- it holds after each event that may come
    pub event-gives : (event : Event) → is_enabled c s event ≡ true
        → Then (effect m c s event) (P event)
    event-gives (Line at) may = Then-so _ _ (each.takes at) _ (line-does c s at may)
    event-gives (Map at) may = Then-so _ _ (each.judges at) _ (map-does c s at m may)
    event-gives (Serve at) may = Then-so _ _ (each.serves at) _ (serve-does c s at may)
    event-gives (Release at) may = each.releases at may
    event-gives (Finish at) may = Then-so _ _ (each.finishes at) _ (finish-does c s at may)
    event-gives Control may = Then-so _ _ each.steps _ (control-does m c s may)
    event-gives Clock may =
        let found = least-there s.clock (moments s) may in
        let is = least-is s.clock (moments s) found.0 found.1 in
        Then-there (P Clock) s _ _ found.0 found.1 (each.ticks found.0 is.0 is.1)

    -- so of the state that it leads to
    pub next-gives : (event : Event) (next : State S) → is_enabled c s event ≡ true
        → effect m c s event ≡ Next next → P event next
    next-gives event next may leads =
        Then-at (P event) (effect m c s event) next (event-gives event may) leads

-- what each event keeps holds after all of some events
pub events-keep : {S : Type 0} (m : Meaning S) (c : Scenario S) (P : State S → Type 0)
    → ((s : State S) → P s → AfterEach m c s (λ event. P)) → (events : List Event)
    (s end : State S) → Leads m c s events end → P s → P end
events-keep m c P each [] s end leads has = rw leads has
events-keep m c P each (event ∷ events) s end leads has =
    events-keep m c P each events leads.1 end leads.3
    (next-gives m c s (λ event. P) (each s has) event leads.1 leads.0 leads.2)

-- the next state has the same slots and modes, and as many micro-commands are done
abbrev pub KeepsPlace : {S : Type 0} → Meaning S → State S → State S → Type 0
KeepsPlace m s next =
    (devices_image m next.devices ≡ devices_image m s.devices) × (next.done ≡ s.done)

-- slots and modes are those of the walk after the micro-commands done
abbrev pub IsOnWalk : {S : Type 0} → Meaning S → Scenario S → State S → Type 0
IsOnWalk m c s = devices_image m s.devices ≡ walk m c s.done

-- events lead to a state on the walk, and each of the script's has done one micro-command
abbrev pub KeepsWalk : {S : Type 0} → Meaning S → Scenario S → State S → List Event → State S
    → Type 0
KeepsWalk m c s events next = IsOnWalk m c next × (next.done ≡ s.done + controls events)

-- the first of some events and the others are counted apart
controls-cons : (event : Event) (events : List Event)
    → controls (event ∷ events) ≡ controls (event ∷ []) + controls events
controls-cons event events = search (rules, sum_by-cons)

module _ {S : Type 0} (m : Meaning S) (lawful : Lawful m) (c : Scenario S) where
  -- no event but the script's changes a state's place on the walk: a judged table has its image,
  -- and the others leave the devices
  pub each-keeps-place : (s : State S)
      → AfterEach m c s (λ event next. is_control event ≡ false → KeepsPlace m s next)
  each-keeps-place s = record {
    takes = λ at next takes other. rw takes.does.is (refl, refl);
    judges = λ at next judges other. rw judges.is (
      devices_live-image m s.devices judges.device judges.table _ (rw judges.there judges.live)
          (all_judged-image m lawful judges.bio.kind s.clock judges.table
          (pieces m judges.table judges.bio.kind judges.bio.span)),
      refl,
    );
    serves = λ at next answers other. rw answers.aside (refl, refl);
    releases = λ at may other. (refl, refl);
    finishes = λ at next answers other. rw answers.aside (refl, refl);
    steps = λ next step other. cc;
    ticks = λ moment among ahead other. (refl, refl);
  }

  -- the walk after one micro-command more
  walk-more : (n : ℕ) (micro : Micro) → slice_get c.micros n ≡ Some micro
      → walk m c (n + 1) ≡ walk_order m c (walk m c n) micro.order
  walk-more n micro found = rw (take-more c.micros n micro found)
      (fold_push (λ devices step. walk_order m c devices step.order) [] (take n c.micros) micro)

  -- each event keeps the walk: the script's takes its step too, and any other keeps the place
  event-keeps-walk : (s : State S) → IsOnWalk m c s → (event : Event) (next : State S)
      → is_enabled c s event ≡ true → effect m c s event ≡ Next next
      → KeepsWalk m c s (event ∷ []) next
  event-keeps-walk s on_walk Control next may leads =
      let found = control-comes c s may in
      let step = Then-at _ _ next (Then-there _ s _ _ found.0 found.1
      (order-gives-step m c s lawful found.0.line found.0.order)) leads in
      (rw (step.1, walk-more s.done found.0 found.1, ← on_walk) step.0, step.1)
  event-keeps-walk s on_walk event next may leads =
      let place = next-gives m c s _ (each-keeps-place s) event next may leads refl in
      (rw place.1 (place.0 ∙ on_walk), omega (arith, place.1))

  -- events one after another keep the walk, from any state on it
  pub events-keep-walk : (events : List Event) (s end : State S) → Leads m c s events end
      → IsOnWalk m c s → KeepsWalk m c s events end
  events-keep-walk [] s end leads on_walk = rw leads (on_walk, omega arith)
  events-keep-walk (event ∷ events) s end leads on_walk =
      let first = event-keeps-walk s on_walk event leads.1 leads.0 leads.2 in
      let more = events-keep-walk events leads.1 end leads.3 first.0 in
      (more.0, omega (arith, first.1, more.1, controls-cons event events))

-- a run's end is on the walk, since the opening state is
pub run-keeps-walk : {S : Type 0} (m : Meaning S) → Lawful m → WalkIsKept m
run-keeps-walk m lawful c events s run = search (rules, events-keep-walk)
