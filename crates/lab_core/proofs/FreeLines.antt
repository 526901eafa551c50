-- The marks of the logs that may take their next line: they tell the events of logs that may come,
-- each event keeps them, and they are set anew for the logs to whose moment the clock went on.
use Rattle.lab_model.proofs.Common.{rules, ◌≡◌, ◌∙◌, ◌+◌, ◌<◌, ◌≤◌, ◌↔◌, ℕ, suc, List, Option, None}
use Rattle.lab_model.proofs.Common.{Some, length, get_or, arith, ap, refl, sym, subst, Contains}
use Rattle.lab_model.proofs.Common.{◌⊎◌, inl, inr, zero, Bool, true, false, true≢false, [], ◌∷◌}
use Rattle.lab_model.proofs.Common.{map, slice_get, filter, nat_lt, is_enabled, numbered, Scenario}
use Rattle.lab_model.proofs.Common.{LogState, State, slice_get-within, nat_tests, list_any}
use Rattle.lab_model.proofs.Common.{range_with_len, cases_eq, cases_lt, length-map, slice_get-map}
use Rattle.lab_model.proofs.Common.{slice_get_past, Meaning, Next, effect, line_may}
use Rattle.lab_model.specs.declared.event.Event.TheVariants.{Line}
use Rattle.lab_model.specs.declared.event.Event.{Event}
use Rattle.std.proofs.lemmas.List.Elements.{Contains-get_or}
use Rattle.lab_index.specs.Numbers.{Marks, has, members, members_from}
use Rattle.std.specs.Option.{option_map}
use Rattle.lab_logs.specs.Agenda.{due_of, dues}
use Rattle.lab_logs.specs.declared.agenda.Due.{Due}
use Rattle.lab_logs.proofs.Dues.{due-there, dues-numbered, length-dues}
use Rattle.lab_next.specs.Over.{some_line_may}
use Rattle.lab_core.specs.declared.free_logs.TouchedLogs.TheVariants.{LogsSince}
use Rattle.lab_core.specs.Free.{HasComeSince, IsUpdated, IsFree, IsTouchedLog, line_events, touched_logs}
use Rattle.lab_core.specs.declared.free_logs.TouchedLogs.{TouchedLogs}
use Rattle.lab_core.proofs.FreeKept.{event-kept}

-- what is due is a log that is there
numbered-dues : (logs : List LogState) (due : Due) → Contains (dues logs) due
    → (log : LogState) × (numbered logs due.log ≡ Some log) × (due.moment ≡ log.moment)
numbered-dues logs due held =
    let at = slice_get-within logs held.0 (omega (arith, held.1, length-dues 1 logs)) in
    let is : due ≡ due_of (1 + held.0) at.0 = sym held.2 ∙ due-there 1 logs held.0 at.0 due at.1 in
    let number : 1 + held.0 ≡ suc held.0 = omega arith in
    search rules

module _ {S : Type 0} (c : Scenario S) (s : State S) (items : List Due) where
  -- the marks of the first so many that are due were set anew, and no others
  pub record UpdatedBefore (count : ℕ) (old new : Marks) : Type 0 where
    pub anew : (k place : ℕ) (d : Due) → k < count → suc place ≡ (get_or items k d).log
        → place < length c.logs → has new place ≡ is_enabled c s (Line (suc place))
    pub others : (place : ℕ)
        → ((k : ℕ) (d : Due) → k < count → suc place ≡ (get_or items k d).log → ⊥)
        → has new place ≡ has old place
    pub past : (place : ℕ) → length c.logs ≤ place → has new place ≡ has old place

  -- where they are all whose moment is later than one and has come, just these were
  pub before-all : (logs : List LogState) (since now count : ℕ) (old new : Marks) → logs ≡ s.logs
      → now ≡ s.clock → count ≡ length items
      → ((due : Due) → Contains items due
      ↔ (Contains (dues logs) due × (since < due.moment) × (due.moment ≤ now)))
      → UpdatedBefore count old new → IsUpdated c s (LogsSince since) old new
  before-all logs since now count old new logs_are clock_is all just before = record {
    anew = λ place inside came. found place inside (numbered s.logs (suc place)) refl came;
    others = λ place apart. before.others place (λ k d below at.
        let due = get_or items k d in
        let there = (just due).0 (Contains-get_or items k d (omega arith)) in
        let log = numbered-dues logs due there.0 in
        let numbered_is : numbered s.logs (suc place) ≡ Some log.0 =
        ap (λ l. numbered l (suc place)) (sym logs_are) ∙ ap (numbered logs) at ∙ log.1 in
        apart (subst (HasComeSince since s.clock) (sym numbered_is)
        (omega (arith, there.1, log.2), omega (arith, there.2, log.2, clock_is))));
    past = before.past;
  }
    where
      found : (place : ℕ) → place < length c.logs → (log : Option LogState)
          → numbered s.logs (suc place) ≡ log → HasComeSince since s.clock log
          → has new place ≡ is_enabled c s (Line (suc place))
      found place inside None at came = absurd came
      found place inside (Some log) at came =
          let due = due_of (suc place) log in
          let there = dues-numbered logs (suc place) log
          (ap (λ l. numbered l (suc place)) logs_are ∙ at) in
          let held = (just due).1 (there, came.0, omega (arith, came.1, clock_is)) in
          before.anew held.0 place due (omega (arith, held.1, all))
          (ap (λ (d : Due). d.log) (sym held.2)) inside

-- no number is a member where there are no marks
has-none : (n : ℕ) → has [] n ≡ false
has-none n = search rules

-- the lines of logs that may come are those of the marks, where the first mark is that of this log
lines-marked : (may : Event → Bool) (marks : Marks) (first before count : ℕ) → first ≡ suc before
    → ((place log : ℕ) → log ≡ first + place → has marks place ≡ may (Line log))
    → ((place : ℕ) → count ≤ place → has marks place ≡ false)
    → filter may (map (λ log. Line log) (range_with_len first count))
    ≡ map (λ place. Line (suc place)) (members_from before marks)
lines-marked may [] first before zero is marked past = refl
lines-marked may [] first before (suc count) is marked past =
    let none : may (Line first) ≡ false = sym (marked 0 first (omega arith)) in
    rw none (lines-marked may [] (first + 1) (suc before) count (omega arith)
    (λ place log at. has-none place ∙ sym (has-none (suc place))
    ∙ marked (suc place) log (omega arith)) (λ place behind. has-none place))
lines-marked may (true ∷ marks) first before zero is marked past =
    absurd (true≢false (past 0 (omega arith)))
lines-marked may (false ∷ marks) first before zero is marked past =
    lines-marked may marks (first + 1) (suc before) zero (omega arith)
    (λ place log at. marked (suc place) log (omega arith))
    (λ place behind. past (suc place) (omega arith))
lines-marked may (true ∷ marks) first before (suc count) is marked past =
    let some : may (Line first) ≡ true = sym (marked 0 first (omega arith)) in
    let rest = lines-marked may marks (first + 1) (suc before) count (omega arith)
    (λ place log at. marked (suc place) log (omega arith))
    (λ place behind. past (suc place) (omega arith)) in
    rw some (ap (λ events. Line first ∷ events) rest
    ∙ ap (λ n. Line n ∷ map (λ place. Line (suc place)) (members_from (suc before) marks)) is)
lines-marked may (false ∷ marks) first before (suc count) is marked past =
    let none : may (Line first) ≡ false = sym (marked 0 first (omega arith)) in
    rw none (lines-marked may marks (first + 1) (suc before) count (omega arith)
    (λ place log at. marked (suc place) log (omega arith))
    (λ place behind. past (suc place) (omega arith)))

-- a log past the last takes no line
pub past-none : {S : Type 0} (c : Scenario S) (s : State S) (place : ℕ) → length c.logs ≤ place
    → is_enabled c s (Line (suc place)) ≡ false
past-none c s place past = ap (λ plan. line_may s (suc place) plan (numbered s.logs (suc place)))
    (slice_get_past c.logs place past)

module _ {S : Type 0} (c : Scenario S) (s : State S) (free : Marks) (is : IsFree c s free) where
  -- the events of the logs are those of the marks
  pub lines-free : line_events c s ≡ map (λ place. Line (suc place)) (members free)
  lines-free = search (rules, lines-marked, past-none)

  -- they are as many
  pub count-free : length (line_events c s) ≡ length (members free)
  count-free = ap length lines-free ∙ length-map (members free) (λ place. Line (suc place))

  -- no log has a rank that no mark has
  pub free-none : (rank : ℕ) → slice_get (members free) rank ≡ None
      → slice_get (line_events c s) rank ≡ None
  free-none rank none = (search (rules, lines-free, slice_get-map)) ∙ ap (option_map (λ place. Line
      (suc place))) none

  -- and the log of a mark has its rank
  pub free-some : (rank place : ℕ) → slice_get (members free) rank ≡ Some place
      → slice_get (line_events c s) rank ≡ Some (Line (place + 1))
  free-some rank place some = search (rules, lines-free, slice_get-map)

-- a log's moment is later than one and has come, or not
come-or-not : (since now : ℕ) (log : Option LogState)
    → HasComeSince since now log ⊎ (HasComeSince since now log → ⊥)
come-or-not since now None = inr (λ never. never)
come-or-not since now (Some log) = elim (cases_lt since log.moment) [
  | inl later ↦ elim (cases_lt now log.moment) [
    | inl ahead ↦ inr (λ has. absurd (omega (arith, has.1)))
    | inr come ↦ inl (later, come)
  ]
  | inr before ↦ inr (λ has. absurd (omega (arith, has.0)))
]

-- a log is touched or it isn't
touched-or-not : {S : Type 0} (s : State S) (touches : TouchedLogs) (log : ℕ)
    → IsTouchedLog s touches log ⊎ (IsTouchedLog s touches log → ⊥)
touched-or-not s (LogsSince moment) log = come-or-not moment s.clock (numbered s.logs log)
touched-or-not s touches log = search (rules, cases_eq)

-- each event keeps them
pub event-free : {S : Type 0} (m : Meaning S) (c : Scenario S) (s next : State S) (event : Event)
    (old new : Marks) → is_enabled c s event ≡ true → effect m c s event ≡ Next next
    → IsFree c s old → IsUpdated c next (touched_logs c s event) old new → IsFree c next new
event-free m c s next event old new may goes free updated place =
    elim (cases_lt place (length c.logs)) [
      | inl below ↦ elim (touched-or-not next (touched_logs c s event) (suc place)) [
        | inl here ↦ updated.anew place below here
        | inr apart ↦ updated.others place apart ∙ free place
            ∙ sym (event-kept m c s next event may goes (suc place) apart)
      ]
      | inr past ↦ updated.past place past ∙ free place ∙ past-none c s place past
          ∙ sym (past-none c next place past)
    ]

-- there are lines of logs that may come where one may
some-kept : (may : Event → Bool) (logs : List ℕ)
    → nat_lt 0 (length (filter may (map (λ log. Line log) logs)))
    ≡ list_any (λ log. may (Line log)) logs
some-kept may [] = refl
some-kept may (log ∷ logs) = grind (arith, nat_tests, some-kept may logs)

-- so there are marks where some log may take its next line
pub some-free : {S : Type 0} (c : Scenario S) (s : State S) (free : Marks) → IsFree c s free
    → nat_lt 0 (length (members free)) ≡ some_line_may c s
some-free c s free is = ap (nat_lt 0) (sym (count-free c s free is))
    ∙ some-kept (is_enabled c s) (range_with_len 1 (length c.logs))

module _ {S : Type 0} (c : Scenario S) (s : State S) where
  -- the marks before a place were set anew, and no others
  pub record UpdatedTo (place : ℕ) (old new : Marks) : Type 0 where
    pub anew : (n : ℕ) → n < place → has new n ≡ is_enabled c s (Line (suc n))
    pub others : (n : ℕ) → place ≤ n → has new n ≡ has old n
