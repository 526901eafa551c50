-- An operation under way goes on with each event but the script's; and what becomes of its places,
-- event by event: each is still to be served, or a read holds it with its bytes; and what the
-- operation gives in the end has them.
use Rattle.lab_model.proofs.Common.{rules, ◌++◌, ◌<◌, [], arith, false, inl, inr, List, refl}
use Rattle.lab_model.proofs.Common.{slice_get, Some, subst, sym, true, ℕ, ◌∙◌, ◌∷◌, ◌≡◌, ◌⊎◌}
use Rattle.lab_model.proofs.Common.{cases_eq, effect, is_enabled, IsRun, Leads, Next, opening, Read}
use Rattle.lab_model.proofs.Common.{Sectors, State}
use Rattle.std.proofs.Common.{count_by, eqb-true}
use Rattle.law_sectors_touched.proofs.EventOwes.{event-owes}
use Rattle.law_sectors_touched.proofs.Events.{event-image}
use Rattle.law_sectors_touched.proofs.Operations.{leads-more, quiet-parts}
use Rattle.law_sectors_touched.proofs.Ways.{leads-stay, line-before}
use Rattle.law_bytes_carried.proofs.Words.{all-runs-fit, DiskSector, Event, Finish, finishing-of}
use Rattle.law_bytes_carried.proofs.Words.{Fits, is_answer_to, is_control, Serve, serving-of}
use Rattle.law_bytes_carried.proofs.Loads.{Going, going-sound, Holds}
use Rattle.law_bytes_carried.proofs.Seats.{Course, Gone, route_of, Seat}
use Rattle.law_bytes_carried.proofs.Steps.{Answering, event-step, finish-answers, GoesOn, IsMoved}
use Rattle.law_bytes_carried.proofs.Steps.{Pending, serve-answers, ServesNone, ServesPlace, Step}
use Rattle.law_bytes_carried.specs.Carried.{bytes_at, Carried, carried, carried_by}
use Rattle.law_bytes_carried.proofs.Places.{itself-descends, stands-itself}

-- an event that isn't the script's may come, and leads to a state
pub record Coming {S : Type 0} (o : Course S) (s : State S) (event : Event) (next : State S)
    : Type 0 where
  pub quiet : is_control event ≡ false
  pub may : is_enabled o.c s event ≡ true
  pub leads : effect o.m o.c s event ≡ Next next

-- events none of which is the script's lead to an end
pub record Ahead {S : Type 0} (o : Course S) (s : State S) (events : List Event) (end : State S)
    : Type 0 where
  pub quiet : count_by is_control events ≡ 0
  pub leads : Leads o.m o.c s events end

module _ {S : Type 0} {o : Course S} {s : State S} {event : Event} {events : List Event}
    {end : State S} (a : Ahead o s (event ∷ events) end) where
  -- the first of them comes
  pub first-comes : Coming o s event a.leads.1
  first-comes = search (rules, quiet-parts)

  -- and the others are ahead then
  pub rest-ahead : Ahead o a.leads.1 events end
  rest-ahead = record { quiet = (quiet-parts event events a.quiet).1; leads = a.leads.3 }

module _ {S : Type 0} {o : Course S} {s : State S} (g : Going o s) {event : Event} {next : State S}
    (on : Coming o s event next) where
  -- the run goes on with the event
  on-run : IsRun o.m o.c (g.past ++ event ∷ []) next
  on-run = leads-more o.m o.c g.past (opening o.c) s event next g.run on.may on.leads

  -- so the next state fits
  pub next-fits : Fits o.m o.c next
  next-fits = all-runs-fit o.m g.lawful o.c g.fine (g.past ++ event ∷ []) next on-run

  -- each place is carried on, or served
  pub going-step : Step o s next event
  going-step = event-step g next next-fits event on.quiet on.may on.leads

  -- so it goes on
  pub goes-on : Going o next
  goes-on =
      let sound = going-sound g in
      let same = event-image g.lawful sound.fits next event on.quiet on.may on.leads in
      let owes = event-owes sound (record { disk = 0; sector = 0 }) g.numbered g.sized o.way
      g.plain.leads g.travel next next-fits event on.quiet on.may on.leads in
      record {
        lawful = g.lawful;
        fine = g.fine;
        past = g.past ++ event ∷ [];
        run = on-run;
        sized = g.sized;
        numbered = omega (arith, owes.count, g.numbered);
        plain = record {
          leads = leads-stay o.m s next same o.op.kind o.way g.plain.leads;
          plain = λ device sector line on at later shape piece now is.
              let before = line-before o.m s next same device sector line at in
              g.plain.plain device sector before.own on before.held later
              (shape ∙ sym before.shape) piece now is;
        };
        travel = owes.travels;
        image = same ∙ g.image;
        fares = going-step.fares;
        loads = going-step.loads;
      }

  -- where the event answers the operation, it is answered
  pub answering-of : is_answer_to o.first event ≡ true → Answering o s next o.first event
  answering-of = by_event event on.may on.leads
    where
      by_event : (e : Event) → is_enabled o.c s e ≡ true → effect o.m o.c s e ≡ Next next
          → is_answer_to o.first e ≡ true → Answering o s next o.first e
      by_event (Serve at) may leads answers = subst (λ k. Answering o s next k (Serve at))
          (eqb-true at o.first answers)
          (serve-answers g next next-fits at (serving-of o.m o.c s next at may leads))
      by_event (Finish at) may leads answers = subst (λ k. Answering o s next k (Finish at))
          (eqb-true at o.first answers)
          (finish-answers g next next-fits at (finishing-of o.m o.c s next at may leads))
      by_event _ may leads answers = cc

-- what is carried for a place over some events
abbrev pub carried_in : {S : Type 0} → Course S → ℕ → State S → List Event → List Carried
carried_in o p s events = carried o.m o.c (Next s) o.first p events

-- a place is served once among some events, at its route, with these bytes
pub record Once {S : Type 0} (o : Course S) (p : ℕ) (s : State S) (events : List Event)
    (bytes : List ℕ) : Type 0 where
  pub sector : DiskSector
  pub is_route : route_of o p ≡ Some sector
  pub once : carried_in o p s events ≡ record { sector = sector; bytes = bytes } ∷ []

module _ {S : Type 0} {o : Course S} {s next : State S} {event : Event}
    (on : Coming o s event next) (p : ℕ) (events : List Event) where
  -- what is carried over an event that carries these, and others
  carried-first : (these : List Carried) → carried_by s (Next next) o.first p event ≡ these
      → carried_in o p s (event ∷ events) ≡ these ++ carried_in o p next events
  carried-first these is = search rules

  -- where the others serve it once, and the event doesn't
  once-later : {bytes : List ℕ} → ServesNone o s next p event → Once o p next events bytes
      → Once o p s (event ∷ events) bytes
  once-later none later = search rules

  -- where the event serves it, and the others don't
  once-here : (serves : ServesPlace o s next p event) → carried_in o p next events ≡ []
      → Once o p s (event ∷ events) (bytes_at next serves.sector)
  once-here serves none = search rules

-- once it isn't carried any more, nothing is served for it
gone-carries : {S : Type 0} {o : Course S} (p : ℕ) (events : List Event) {s end : State S}
    → Going o s → Ahead o s events end → Gone s o.first p → carried_in o p s events ≡ []
gone-carries p [] g a gone = refl
gone-carries p (event ∷ events) g a gone =
    let on = first-comes a in
    let later = (going-step g on).gone p gone in
    carried-first on p events [] later.1
    ∙ gone-carries p events (goes-on g on) (rest-ahead a) later.0

-- a place is still to be served; or none carries it, and a read holds it with its bytes
abbrev pub Fate : {S : Type 0} → Course S → State S → ℕ → Type 0
Fate o s p = Pending s o.first p ⊎ (Gone s o.first p × (bytes : List ℕ)
    × (o.op.kind ≡ Read → Holds s o.first p bytes))

-- a place is served once among some events, with its bytes
abbrev pub MovedOnce : {S : Type 0} → Course S → State S → List Event → Sectors → ℕ → Type 0
MovedOnce o s events given p =
    (bytes : List ℕ) × IsMoved o given p bytes × Once o p s events bytes

-- in the end a place that was still to be served is served so, and another isn't served again; what
-- a read gives has its bytes
abbrev pub EndsAt : {S : Type 0} (o : Course S) (s : State S) → List Event → Sectors → (p : ℕ)
    → Fate o s p → Type 0
EndsAt o s events given p (inl w) = MovedOnce o s events given p
EndsAt o s events given p (inr held) = (carried_in o p s events ≡ [])
    × (o.op.kind ≡ Read → slice_get given p ≡ Some held.1)

-- what becomes of a place with an event
pub record Forth {S : Type 0} (o : Course S) (s next : State S) (event : Event) (p : ℕ)
    (fate : Fate o s p) : Type 0 where
  pub later : Fate o next p
  pub back : (given : Sectors) (events : List Event) → EndsAt o next events given p later
      → EndsAt o s (event ∷ events) given p fate

module _ {S : Type 0} {o : Course S} {s next : State S} (g : Going o s) {event : Event}
    (on : Coming o s event next) (p : ℕ) (less : p < o.op.span.len) where
  -- what becomes of a place that is still to be served
  forth-pending : (w : Pending s o.first p) → GoesOn o s next p event
      → Forth o s next event p (inl w)
  forth-pending w (inl waits) = search (rules, once-later)
  forth-pending w (inr (serves, holds)) = record {
    later = inr (serves.gone, bytes_at next serves.sector, holds);
    back = λ given events ends. (
      bytes_at next serves.sector,
      serves.moves given less ends.1,
      once-here on p events serves ends.0,
    );
  }

  -- of any place
  pub forth : (fate : Fate o s p) → Forth o s next event p fate
  forth (inl w) = forth-pending w ((going-step g on).pending p w)
  forth (inr held) =
      let step = going-step g on in
      let gone = step.gone p held.0 in
      record {
        later = inr (gone.0, held.1, λ reads. step.holds reads p held.0 held.1 (held.2 reads));
        back = λ given events ends. (carried-first on p events [] gone.1 ∙ ends.0, ends.1);
      }

-- where it is answered, it gives the bytes that are served then, or that it holds
pub answer-ends : {S : Type 0} {o : Course S} {s next end : State S} (g : Going o s)
    {event : Event} {events : List Event} → Coming o s event next
    → (answers : Answering o s next o.first event) → answers.tells.bio.span ≡ o.op.span
    → Ahead o next events end → (p : ℕ) → p < o.op.span.len → (fate : Fate o s p)
    → EndsAt o s (event ∷ events) answers.tells.given p fate
answer-ends {o = o} {s} {next} g {event} {events} on answers span a p less = by_fate
  where
    own : Seat s o.first p o.first p answers.tells.bio
    own = record {
      lives = answers.tells.lives;
      comes = itself-descends s o.first;
      within = subst (λ l. p < l.len) (sym span) less;
      stands = stands-itself s o.first p;
    }

    by_fate : (fate : Fate o s p) → EndsAt o s (event ∷ events) answers.tells.given p fate
    by_fate (inl w) = elim (cases_eq w.0.number o.first) [
      | inl is ↦
          let serves = answers.served p w is in (
            bytes_at next serves.sector,
            serves.moves answers.tells.given less (λ reads. answers.sees p w is reads p own),
            once-here on p events serves (gone-carries p events (goes-on g on) a serves.gone),
          )
      | inr apart ↦ absurd (answers.free p w apart p own)
    ]
    by_fate (inr held) =
        let gone = (going-step g on).gone p held.0 in (
          carried-first on p events [] gone.1 ∙ gone-carries p events (goes-on g on) a gone.0,
          λ reads. answers.gives reads p held.0 held.1 (held.2 reads) p own,
        )
