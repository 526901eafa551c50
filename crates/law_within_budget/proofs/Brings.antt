-- What an event but the clock's does to the moments that stand: it takes a bio's away or brings one
-- of its own, and brings those of new bios, each an hour at most after one that stood or the clock.
-- The clock's takes a moment that lies ahead away, and brings none.
use Rattle.lab_model.proofs.Common.{rules, ◌≡◌, ℕ, ◌+◌, ◌<◌, ◌≤◌, Bool, true, List, [], ◌∷◌, Option}
use Rattle.lab_model.proofs.Common.{Some, None, filter_map, length, map, slice_get, refl, ap, arith}
use Rattle.lab_model.proofs.Common.{le_refl, option_map, list_any, DevNo, Verdict, Lawful, Meaning}
use Rattle.lab_model.proofs.Common.{Told, told_to, without_bio, Bio, starting}
use Rattle.lab_model.specs.declared.parent.Parent.{Parent}
use Rattle.lab_model.proofs.Common.{release, bio_releases, due_of, is_enabled, moments}
use Rattle.lab_model.proofs.Common.{change_numbered, numbered, next_line, Judgement, child_of}
use Rattle.lab_model.proofs.Common.{fails, judgement_by, judgements, sent_off, pieces}
use Rattle.lab_model.specs.declared.plan.LogLine.{LogLine}
use Rattle.lab_model.proofs.Common.{LogPlan, Scenario, LogState, State, None-not-Some, In, of_entry}
use Rattle.lab_model.proofs.Common.{total, total-append, total-filter_map, total-none}
use Rattle.lab_model.proofs.Common.{total-numbered-entry, total-numbered-same, total-there}
use Rattle.lab_model.proofs.Common.{bio_may-gives, wait_of}
use Rattle.lab_model.specs.declared.entry.Entry.{Entry}
use Rattle.lab_model.specs.declared.event.Event.TheVariants.{Release}
use Rattle.lab_model.specs.declared.micro.Order.{Order}
use Rattle.lab_model.specs.declared.micro.Order.TheVariants.{Replay, Sleep}
use Rattle.lab_model.specs.declared.piece.Piece.{Piece}
use Rattle.lab_target.specs.Laws.{Bounded}
use Rattle.lab_model.proofs.ListLemmas.{total-change}
use Rattle.law_slots.specs.Timely.{EntryIsTimely, IsTimely, OrderIsTimely, hour}
use Rattle.law_slots.proofs.ByBio.{Answers, Judges}
use Rattle.law_slots.proofs.ByLine.{Takes, made_by, Then}
use Rattle.law_slots.proofs.ByStep.{Controlled, Ordered}
use Rattle.law_within_budget.specs.PotentialFalls.{TablesAreVersions}
use Rattle.law_within_budget.proofs.Judged.{at-most, born, by-version, children-all}
use Rattle.law_within_budget.proofs.Moments.{ahead, bio_weight, bios_weight, held, later, later-le}
use Rattle.law_within_budget.proofs.Moments.{later-none, later-one, later-within, logs_weight}
use Rattle.law_within_budget.proofs.Moments.{moments-total, moments_weight, total-at, total-in}
use Rattle.law_within_budget.proofs.Moments.{total-less}
use Rattle.law_within_budget.proofs.Weight.{told-bios}

-- what the script's moment and the logs' weigh
abbrev pub own_weight : {S : Type 0} → (ℕ → ℕ) → State S → ℕ
own_weight w s = w s.moment + logs_weight w s.started s.logs

-- the clock stays; the moment of a bio is gone or one of the script or a log is new, and those of
-- new bios are; a new one is an hour at most after one that stood; and but for these and for the
-- clock's nothing weighs more
pub record Brings {S : Type 0} (s next : State S) : Type 0 where
  pub clock : next.clock ≡ s.clock
  pub gone : Option Bio
  pub own : List ℕ
  pub dues : List ℕ
  pub few : of_entry (λ (bio : Bio). 1) gone + length own ≤ 1
  pub near : (bound : ℕ) → s.clock ≤ bound → moments_weight (later bound) s ≤ 0
      → total (later (bound + hour)) own + total (later (bound + hour)) dues ≤ 0
  pub bios : (w : ℕ → ℕ) → bios_weight w next.bios + of_entry (bio_weight w) gone
      ≡ bios_weight w s.bios + total w dues
  pub rest : (w : ℕ → ℕ) → w s.clock ≤ 0 → own_weight w next ≤ own_weight w s + total w own

-- telling a parent leaves what the moments of the script and of logs weigh
told-own : {S : Type 0} (w : ℕ → ℕ) (s : State S) (bio : Bio) (told : Told) (parent : Parent)
    → own_weight w (told_to s bio told parent) ≡ own_weight w s
told-own w s bio told parent = search (rules, total-numbered-same)

module _ {S : Type 0} (c : Scenario S) (s : State S) (number : ℕ) where
  -- a held bio that goes on takes its moment away
  pub release-brings : is_enabled c s (Release number) ≡ true → Then (release s number) (Brings s)
  release-brings may =
      let found = bio_may-gives _ (λ bio. bio_releases s bio.stage) may in
      record {
        clock = refl;
        gone = Some found.0;
        own = [];
        dues = [];
        few = le_refl 1;
        near = λ bound within none. le_refl 0;
        bios = search (rules, total-numbered-entry, of_entry, bio_weight);
        rest = λ w none. omega arith;
      }

  -- so does one that is answered
  pub answers-brings : (next : State S) → Answers s number next → Brings s next
  answers-brings next is =
      let gone = without_bio (record s { disks = is.disks }) number in
      record {
        clock = ap (λ t. t.clock) is.aside;
        gone = Some is.bio;
        own = [];
        dues = [];
        few = le_refl 1;
        near = λ bound within none. le_refl 0;
        bios = λ w. rw is.is (omega (
          arith,
          told-bios (bio_weight w) (λ bio failed later before after. refl) gone is.bio is.told
              is.bio.parent,
          total-numbered-entry (of_entry (bio_weight w)) (λ entry. None) s.bios number is.bio
              is.lives,
        ));
        rest = λ w none. rw is.is (omega (arith, told-own w gone is.bio is.told is.bio.parent));
      }

-- logs that start now weigh nothing where now doesn't
starting-none : (w : ℕ → ℕ) (now : ℕ) → w now ≤ 0 → (logs : List LogState)
    → total (λ log. w log.moment) (map (starting now) logs) ≤ 0
starting-none w now none [] = le_refl 0
starting-none w now none (log ∷ logs) = omega (arith, none, starting-none w now none logs)

module _ {S : Type 0} (s next : State S) where
  -- what leaves the bios brings one moment at most
  own-brings : next.clock ≡ s.clock → next.bios ≡ s.bios → (own : List ℕ) → length own ≤ 1
      → ((bound : ℕ) → s.clock ≤ bound → total (later (bound + hour)) own ≤ 0) → ((w : ℕ → ℕ)
      → w s.clock ≤ 0 → own_weight w next ≤ own_weight w s + total w own) → Brings s next
  own-brings clock bios own few near rest = search rules

-- a step of the script brings a moment if it sleeps; a replay's moments are the clock's
ordered-brings : {S : Type 0} (s : State S) (order : Order) (next : State S) → OrderIsTimely order
    → Ordered s order next → Brings s next
ordered-brings s (Sleep time) next timely does = rw does.is (own-brings s _ refl refl
    ((s.clock + time) ∷ []) (le_refl 1) (search (rules, later-none)) (λ w none. omega arith))
ordered-brings s Replay next timely does = rw does.is (own-brings s _ refl refl [] (omega arith)
    (λ bound within. le_refl 0) (λ w none. omega (arith, starting-none w s.clock none s.logs)))
ordered-brings s _ next timely does = rw does.is (own-brings s _ refl refl [] (omega arith)
    (λ bound within. le_refl 0) (λ w none. omega arith))

-- a log weighs at most what all logs do, once they have started
log-at : (w : ℕ → ℕ) (started : Bool) (logs : List LogState) (number : ℕ) (log : LogState)
    → started ≡ true → numbered logs number ≡ Some log → w log.moment ≤ logs_weight w started logs
log-at w started logs number log is at = search (rules, None-not-Some, total-at)

-- a log that goes on by a time takes its moment away and brings one
log-waits : (w : ℕ → ℕ) (time : ℕ) (f : LogState → LogState)
    → ((log : LogState) → (f log).moment ≡ log.moment + time) → (started : Bool)
    (logs : List LogState) (number : ℕ) (log : LogState) → numbered logs number ≡ Some log
    → logs_weight w started (change_numbered logs number (λ log. f (next_line log)))
    ≤ logs_weight w started logs + w (log.moment + time)
log-waits w time f moment started logs number log at = search (rules, None-not-Some, total-change)

-- the bio of an operation isn't held
made-none : (w : ℕ → ℕ) (at line : ℕ) (entry : Entry) (device : Option DevNo)
    → bios_weight w (map (λ bio. Some bio) (made_by at line entry device)) ≡ 0
made-none w at line entry device = grind arith

-- a timely entry sets its log's moment on by an hour at most
waits-an-hour : (entry : Entry) → EntryIsTimely entry → wait_of entry ≤ hour
waits-an-hour entry timely = search rules

-- the events of the script, of logs and of mapped devices
module _ {S : Type 0} (m : Meaning S) (c : Scenario S) (timely : IsTimely m c) (s : State S) where
  -- the script's
  pub control-brings : (next : State S) → Controlled c s next → Brings s next
  control-brings next is = ordered-brings s is.micro.order next
      (timely.sleeps s.done is.micro is.comes) is.does

  -- the lines of a log wait for an hour at most
  timely-at : (number place : ℕ) (plan : LogPlan) (line : LogLine)
      → numbered c.logs number ≡ Some plan → slice_get plan.lines place ≡ Some line
      → EntryIsTimely line.entry
  timely-at number place plan line planned comes = search rules

  -- a line brings the log's next moment
  pub takes-brings : (at : ℕ) (next : State S) → Takes c s at next → Brings s next
  takes-brings at next takes =
      let log = takes.from.log in
      let line = takes.from.line in
      let does = takes.does in
      let time = wait_of line.entry in
      let made = map (λ bio. Some bio) (made_by at line.number line.entry line.device) in
      let short : time ≤ hour = search (rules, waits-an-hour, timely-at) in
      rw does.is (record {
        clock = refl;
        gone = None;
        own = (log.moment + time) ∷ [];
        dues = [];
        few = le_refl 1;
        near = search (rules, later-within, log-at, later, later-none);
        bios = search (rules, made-none, total-append, of_entry, bio_weight);
        rest = λ w none. omega (
          arith,
          log-waits w time does.f does.moment s.started s.logs at log takes.from.stands,
        );
      })

  module _ (lawful : Lawful m) (number : ℕ) (are : TablesAreVersions m c s) where
    -- the child of a bounded verdict is due an hour at most after the clock, if it is held
    child-near : (device bound : ℕ) (bio : Bio) (j : Judgement) (v : Verdict) → s.clock ≤ bound
        → Bounded v → of_entry (bio_weight (later (bound + hour)))
        (child_of s.clock device number bio j v) ≤ 0
    child-near device bio bound j v within bounded = search rules

    -- so are all children of a sound version's lines
    born-near : (next : State S) (is : Judges m s number next) (bound : ℕ) → s.clock ≤ bound
        → total (bio_weight (later (bound + hour))) (born m s number next is) ≤ 0
    born-near next is bound within =
        let by = by-version m c s number next is are in
        omega (
          arith,
          children-all m lawful at-most s.clock is.device number is.bio
              (bio_weight (later (bound + hour))) by.table (λ piece line. 0) (λ piece. refl)
              (λ table same piece. refl) (λ piece old line at same may.
              let j = judgement_by m is.bio.kind s.clock piece (Some line) in
              child-near is.device bound is.bio j j.verdict within (lawful.bounded line.target
              (search rules)
              is.bio.kind _ s.clock)) is.table by.alike,
          total-none (λ (piece : Piece). 0) (λ piece. le_refl 0)
              (pieces m by.table is.bio.kind is.bio.span),
        )

    -- a judged bio had no moment, and the children's come
    pub judges-brings : (next : State S) → Judges m s number next → Brings s next
    judges-brings next is =
        let bio = is.bio in
        let judged = judgements m bio.kind s.clock is.table (pieces m is.table bio.kind bio.span) in
        let children = born m s number next is in
        let off = option_map (sent_off (list_any (λ j. fails j.verdict) judged)) in
        rw is.is (record {
          clock = refl;
          gone = None;
          own = [];
          dues = filter_map (λ bio. due_of bio.stage) children;
          few = omega arith;
          near = λ bound within none. omega (
            arith,
            total-filter_map (later (bound + hour)) (λ b. due_of b.stage) children,
            born-near next is bound within,
          );
          bios = λ w. omega (
            arith,
            ap (λ stage. of_entry w (due_of stage)) is.enters,
            total-filter_map w (λ b. due_of b.stage) children,
            total-there (bio_weight w) children,
            total-append (of_entry (bio_weight w)) (change_numbered s.bios number off)
                (map (λ b. Some b) children),
            total-numbered-entry (of_entry (bio_weight w)) off s.bios number bio is.lives,
          );
          rest = λ w none. omega arith;
        })

-- one moment fewer lies ahead; the clock is where one stood, and all else stays
pub record Ticks {S : Type 0} (s next : State S) : Type 0 where
  pub fewer : ahead next + 1 ≤ ahead s
  pub holds : held next ≡ held s
  pub stood : (bound : ℕ) → moments_weight (later bound) s ≤ 0
      → (next.clock ≤ bound) × (moments_weight (later bound) next ≤ 0)

-- so it does where it goes on to a moment that stands and lies ahead
pub clock-ticks : {S : Type 0} (s : State S) (least : ℕ) → In least (moments s) → s.clock < least
    → Ticks s (record s { clock = least })
clock-ticks s least among past = record {
  fewer = omega (
    arith,
    moments-total (later least) s,
    moments-total (later s.clock) s,
    total-less (later least) (later s.clock) least (moments s) among
        (later-le s.clock least (omega (arith, past)))
        (omega (arith, later-none least least (le_refl least), later-one s.clock least past)),
  );
  holds = refl;
  stood = λ bound none. (
    later-within bound least
        (omega (
          arith,
          none,
          moments-total (later bound) s,
          total-in (later bound) least (moments s) among,
        )),
    none,
  );
}
