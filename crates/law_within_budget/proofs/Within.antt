-- With each event but the clock's the potential falls: with a Map the children cost at most what
-- the table does, and the bio gives up two and takes one. So a run's events, the clock's left out,
-- are within the budget. The clock over runs: it goes on at most once for each other event and each
-- held bio, and at most an hour for each other event.
use Rattle.lab_model.proofs.Common.{rules, ℕ, ◌≤◌, length, arith, ◌≡◌, ◌+◌, Bool, true, false, not}
use Rattle.lab_model.proofs.Common.{cond, List, [], ◌∷◌, map, refl, Lawful, Meaning}
use Rattle.lab_model.proofs.Common.{Scenario, State, line_cost, log_potential, LogPlan}
use Rattle.lab_model.proofs.Common.{opening, sum, sum-total, total, ◌*◌, Option, Some, ap}
use Rattle.lab_model.proofs.Common.{le_refl, nat_tests, Bio, Leads, moments, clock_steps, steps}
use Rattle.lab_model.proofs.Common.{of_entry, potential, slice_get, total-le}
use Rattle.std.proofs.Common.{zip}
use Rattle.law_slots.proofs.ByBio.{Judges}
use Rattle.law_slots.proofs.WalkRuns.{next-gives, AfterEach}
use Rattle.law_within_budget.specs.PotentialFalls.{TablesAreVersions, OpeningIsBudget}
use Rattle.law_within_budget.specs.PotentialFalls.{PotentialFalls, RunsFall, RunsKeepBudget}
use Rattle.law_within_budget.specs.PotentialFalls.{KeepsVersions}
use Rattle.law_within_budget.specs.Ranked.{Ranked}
use Rattle.law_within_budget.proofs.Ranks.{version-cost, ranked}
use Rattle.law_within_budget.proofs.Judged.{at-most, by-version, children-worth, judges-weight}
use Rattle.law_within_budget.proofs.Weight.{Fell, each-spends, events-sum, potential-is, weight}
use Rattle.law_within_budget.proofs.Weight.{clock_count, other_count}
use Rattle.law_within_budget.specs.WithinBudget.{WithinBudget}
use Rattle.law_within_budget.proofs.WalkVersions.{keeps-versions}
use Rattle.lab_model.specs.declared.event.Event.{Event}
use Rattle.law_slots.specs.Timely.{IsTimely, hour}
use Rattle.law_within_budget.specs.ClockBounded.{ClockBounded}
use Rattle.law_within_budget.proofs.Brings.{Brings, Ticks, answers-brings, clock-ticks}
use Rattle.law_within_budget.proofs.Brings.{control-brings, judges-brings, release-brings}
use Rattle.law_within_budget.proofs.Brings.{takes-brings}
use Rattle.law_within_budget.proofs.Moments.{ahead, bio_weight, held, later, later-le, later-none}
use Rattle.law_within_budget.proofs.Moments.{later-within, moments-total, moments_weight, total-at}
use Rattle.law_within_budget.proofs.Moments.{total-ones, weight-le}

-- a version that judges a bio lets the potential fall: the children are worth two less
pub judges-falls : {S : Type 0} (m : Meaning S) → Lawful m → (c : Scenario S) → Ranked m c
    → (s : State S) → TablesAreVersions m c s → (number : ℕ) (next : State S)
    → Judges m s number next → Fell m c s next
judges-falls m lawful c r s are number next is =
    let by = by-version m c s number next is are in
    omega (
      arith,
      judges-weight m c s number next is,
      children-worth m c s number next is lawful at-most by
          (λ place old line span at same may. (search rules)),
      version-cost m c r (length c.versions) is.device by.place by.table is.bio.kind is.bio.span
          (r.bounded is.device) by.known by.fits,
    )

module _ {S : Type 0} (m : Meaning S) (c : Scenario S) (s : State S) where
  -- what the potential does with an event that is the clock's or isn't
  abbrev FallsBy : Bool → State S → Type 0
  FallsBy clock next = (clock ≡ false → potential m c next + 1 ≤ potential m c s)
      × (clock ≡ true → potential m c next ≡ potential m c s)

  -- a weight that falls is a potential that falls
  fell : (next : State S) → Fell m c s next → FallsBy false next
  fell next falls = search (rules, potential-is)

-- the law, event by event
pub potential-falls : {S : Type 0} (m : Meaning S) → Lawful m → PotentialFalls m
potential-falls m lawful c acyclic s next are event = next-gives m c s _
    (each-spends m c s (FallsBy m c s) (search (rules, fell)) (search (rules, potential-is))
    (search (rules, fell, judges-falls, ranked))) event next

-- over events
pub runs-fall : {S : Type 0} (m : Meaning S) → Lawful m → RunsFall m
runs-fall m lawful c acyclic events s end keeps leads =
    let falls = events-sum m c (λ s t steps ticks. weight m c t + steps ≤ weight m c s)
    (λ s. omega arith) (λ s t end a b c d first rest. omega arith)
    (λ s are. each-spends m c s (λ clock t. weight m c t + cond (not clock) 1 0 ≤ weight m c s)
    (λ t spends. omega arith) (λ t same. omega arith)
    (judges-falls m lawful c (ranked m c acyclic) s are)) events s end keeps leads in
    omega (arith, potential-is m c s, potential-is m c end, falls)

-- no line of a log is taken yet
opening-logs : {S : Type 0} (m : Meaning S) (c : Scenario S) (all : List LogPlan)
    → total (log_potential m c) (zip all (opening (record c { logs = all })).logs)
    ≡ total (λ p. sum (map (line_cost m c) p.lines)) all
opening-logs m c [] = refl
opening-logs m c (plan ∷ plans) = rw (opening-logs m c plans)

-- before the first event all lines and all micro-commands are left, and no bio lives
pub opening-is-budget : {S : Type 0} (m : Meaning S) → OpeningIsBudget m
opening-is-budget m c = search (rules, sum-total, opening-logs)

-- a run begins with the budget
pub runs-keep-budget : {S : Type 0} (m : Meaning S) → Lawful m → RunsKeepBudget m
runs-keep-budget m lawful c acyclic keeps events end run =
    search (rules, runs-fall, opening-is-budget)

-- no run of a scenario without a cycle takes more events than its budget
pub runs-within-budget : {S : Type 0} (m : Meaning S) → Lawful m → WithinBudget m
runs-within-budget m lawful c acyclic creates = search (rules, runs-keep-budget, keeps-versions)

-- no moment that stands is past the bound, nor is the clock
abbrev pub UpTo : {S : Type 0} → ℕ → State S → Type 0
UpTo bound s = (s.clock ≤ bound) × (moments_weight (later bound) s ≤ 0)

-- where so many events have come between, and so many of the clock's: the clock's are at most as
-- many as the others, the moments that lay ahead and the bios that are held more; and no moment is
-- more than an hour for each of the others past a bound that was kept
pub record GoesOn {S : Type 0} (s next : State S) (others clocks : ℕ) : Type 0 where
  pub few : clocks + ahead next + held s ≤ others + ahead s + held next
  pub near : (bound : ℕ) → UpTo bound s → UpTo (bound + others * hour) next

-- a bound that is kept, and a greater one
up_to-le : {S : Type 0} (s : State S) (bound other : ℕ) → bound ≤ other → UpTo bound s
    → UpTo other s
up_to-le s bound other below kept = search (rules, weight-le, later-le)

-- where no moment is past a bound, each that stands is up to it
moment-within : {S : Type 0} (bound : ℕ) (s : State S) (place moment : ℕ)
    → slice_get (moments s) place ≡ Some moment → moments_weight (later bound) s ≤ 0
    → moment ≤ bound
moment-within bound s place moment at kept = later-within bound moment (omega (
  arith,
  kept,
  moments-total (later bound) s,
  total-at (later bound) (moments s) place moment at,
))

-- as many moments lie ahead as there are, at most
fresh-most : (bound : ℕ) (xs : List ℕ) → total (later bound) xs ≤ length xs
fresh-most bound xs =
    omega (arith, total-ones xs, total-le (later bound) (λ x. 1) (grind (arith, nat_tests)) xs)

-- a bio counts one at most
gone-most : (entry : Option Bio)
    → of_entry (bio_weight (λ due. 1)) entry ≤ of_entry (λ (bio : Bio). 1) entry
gone-most entry = grind arith

module _ {S : Type 0} (s next : State S) where
  -- an event that brings moments
  brings-goes : Brings s next → GoesOn s next 1 0
  brings-goes brings = record {
    few =
        let now = s.clock in
        let same : ahead next ≡ moments_weight (later now) next =
        ap (λ clock. moments_weight (later clock) next) brings.clock in
        search (rules, later, later-none, gone-most, fresh-most, total-ones);
    near = search (rules, later-none, weight-le, later, later-le);
  }

  -- the clock's
  ticks-goes : Ticks s next → GoesOn s next 0 1
  ticks-goes ticks = record { few = omega arith; near = search (rules, up_to-le next, ticks.stood) }

module _ {S : Type 0} (m : Meaning S) (lawful : Lawful m) (c : Scenario S) (timely : IsTimely m c)
  where
    -- each event
    each-goes : (s : State S) → TablesAreVersions m c s
        → AfterEach m c s (λ event next. GoesOn s next (other_count event) (clock_count event))
    each-goes s are = record {
      takes = λ at next is. brings-goes s next (takes-brings m c timely s at next is);
      judges = λ at next is. brings-goes s next (judges-brings m c timely s lawful at are next is);
      serves = λ at next is. brings-goes s next (answers-brings c s at next is);
      releases = λ at may. brings-goes s _ (release-brings c s at may);
      finishes = λ at next is. brings-goes s next (answers-brings c s at next is);
      steps = λ next is. brings-goes s next (control-brings m c timely s next is);
      ticks = λ moment among ahead. ticks-goes s _ (clock-ticks s moment among ahead);
    }

    -- so all events of a run, one after another
    events-go : (events : List Event) (s end : State S) → KeepsVersions m c s
        → Leads m c s events end → GoesOn s end (steps events) (clock_steps events)
    events-go = events-sum m c GoesOn
        (search (rules, up_to-le))
        (λ s next end a b c d first rest. record {
          few = omega (arith, first.few, rest.few);
          near = λ bound kept. up_to-le end (bound + a * hour + c * hour) (bound + (a + c) * hour)
              (omega arith) (rest.near (bound + a * hour) (first.near bound kept));
        }) each-goes

-- held bios are at most as many as the potential: each has an event left at least
held-potential : {S : Type 0} (m : Meaning S) (c : Scenario S) (s : State S)
    → held s ≤ potential m c s
held-potential m c s = search (rules, potential-is, total-le, le_refl)

-- the law: a run begins with no moment ahead and no bio
pub runs-bound-clock : {S : Type 0} (m : Meaning S) → Lawful m → ClockBounded m
runs-bound-clock m lawful c acyclic creates timely events end run =
    let goes = events-go m lawful c timely events _ end (keeps-versions m lawful c creates) run in
    search (rules, runs-within-budget, up_to-le, held-potential, ahead, moment-within)
