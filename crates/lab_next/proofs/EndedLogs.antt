-- All logs have ended where none may take a line and all are idle.
use Rattle.lab_model.proofs.Common.{rules, ◌≡◌, ℕ, suc, zero, ◌+◌, ◌<◌, ◌==◌, ◌&&◌, Bool, true}
use Rattle.lab_model.proofs.Common.{false, not, List, [], ◌∷◌, Some, length, get_or, inl, inr, refl}
use Rattle.lab_model.proofs.Common.{sym, ◌∙◌, arith, nat_lt, slice_get, and_from}
use Rattle.lab_model.proofs.Common.{both_ways, cases_eq, eqb-true, false_from_ne_true}
use Rattle.lab_model.proofs.Common.{nat_tests, not-true, or_cases, or_left, or_right, list_any_at}
use Rattle.lab_model.proofs.Common.{list_any_none, length-range_with_len, get_or_from_slice_get}
use Rattle.lab_model.proofs.Common.{slice_get_within, slice_get-within, enumerate_from, list_all}
use Rattle.lab_model.proofs.Common.{list_any, range_with_len, zip, Bio, has_come, has_line, is_busy}
use Rattle.lab_model.proofs.Common.{is_enabled, is_log, log_ended, logs_ended, LogPlan, Scenario}
use Rattle.lab_model.proofs.Common.{LogState, State, living, numbered-test}
use Rattle.lab_model.specs.declared.event.Event.TheVariants.{Line}
use Rattle.std.proofs.lemmas.Bool.{eq-eqb, false≢true, true≢false}
use Rattle.std.proofs.lemmas.List.FromFn.{get_or-range_with_len}
use Rattle.lab_bios.specs.Tally.{is_log_within, is_within}
use Rattle.lab_bios.proofs.Tallies.{is-in, log-within, own-within}
use Rattle.lab_next.specs.Over.{are_idle, some_line_may}

-- of four tests that all pass each passes
all-four : (a b c d : Bool) → (a && b && c && d) ≡ true
    → (a ≡ true) × (b ≡ true) × (c ≡ true) × (d ≡ true)
all-four a b c d all = search rules

-- where of four tests the second alone may fail, and not all pass, it fails
second-fails : (a b c d : Bool) → a ≡ true → c ≡ true → d ≡ true → (a && b && c && d) ≡ false
    → (a && not b && c && d) ≡ true
second-fails a b c d first third last some = search rules

-- a test that none passes isn't passed at a place
none-at : {X : Type 0} (test : X → Bool) (xs : List X) (place : ℕ) (d : X)
    → list_any test xs ≡ false → place < length xs → test (get_or xs place d) ≡ false
none-at test xs place d none inside = search (rules, false_from_ne_true, false≢true, list_any_at)

-- a test of the pairs of two lists with their numbers passes for all where it does for each
all-tested : {X Y : Type 0} (test : ℕ × (X × Y) → Bool) (first : ℕ) (xs : List X) (ys : List Y)
    → ((place number : ℕ) (x : X) (y : Y) → number ≡ first + place → slice_get xs place ≡ Some x
    → slice_get ys place ≡ Some y → test (number, (x, y)) ≡ true)
    → list_all test (enumerate_from first (zip xs ys)) ≡ true
all-tested test first [] ys each = refl
all-tested test first (x ∷ xs) [] each = refl
all-tested test first (x ∷ xs) (y ∷ ys) each =
    and_from _ _ (each 0 first x y (omega arith) refl refl) (all-tested test (first + 1) xs ys
    (λ place number v w at. each (suc place) number v w (omega arith)))

module _ {S : Type 0} (c : Scenario S) (s : State S) (long : length s.logs ≡ length c.logs) where
  -- the number of the log at a place
  number-at : (place d : ℕ) → place < length c.logs
      → get_or (range_with_len 1 (length c.logs)) place d ≡ suc place
  number-at place d inside = search (rules, get_or-range_with_len)

  -- some living bio was made for one of the logs
  abbrev within : Bool
  within = list_any (λ (bio : Bio). is_log_within (length s.logs) bio.parent) (living s)

  -- the moment of some log lies ahead
  abbrev ahead : Bool
  ahead = list_any (λ (log : LogState). nat_lt s.clock log.moment) s.logs

  -- the log at a place has started, has no operation under way, its moment has come, and it may
  -- take no line
  record IsDone (place : ℕ) : Type 0 where
    pub log : LogState
    pub there : slice_get s.logs place ≡ Some log
    pub begun : s.started ≡ true
    pub free : is_busy s (suc place) ≡ false
    pub come : has_come s log.moment ≡ true
    pub stays : is_enabled c s (Line (suc place)) ≡ false

  module _ (all : logs_ended c s ≡ true) where
    -- where all have ended, so is each
    done-at : (place : ℕ) → place < length s.logs → IsDone place
    done-at place inside =
        let plan = slice_get-within c.logs place (omega arith) in
        let log = slice_get-within s.logs place inside in
        let ended = all-four s.started (not (has_line plan.0 log.0)) (not (is_busy s (suc place)))
        (has_come s log.0.moment)
        (numbered-test (λ entry. log_ended s entry.0 entry.1.0 entry.1.1) c.logs s.logs all
        (suc place) plan.0 log.0 plan.1 log.1) in
        let line = not-true (has_line plan.0 log.0) ended.1 in
        search rules

    -- no operation of one of the logs is under way
    none-busy : (number : ℕ) → is_within (length s.logs) number ≡ true → is_busy s number ≡ false
    none-busy zero among = absurd (cc)
    none-busy (suc place) among = (done-at place (grind (arith, nat_tests))).free

    -- no living bio was made for one of them
    none-within : within ≡ false
    none-within = list_any_none (λ bio. is_log_within (length s.logs) bio.parent) (living s)
        (λ k d inside. false_from_ne_true _ (λ among.
        let own = own-within (length s.logs) (get_or (living s) k d).parent among in
        true≢false (sym (list_any_at (λ bio. is_log own.0 bio.parent) (living s) k d inside own.1)
        ∙ none-busy own.0 own.2)))

    -- and no moment of one lies ahead
    none-ahead : ahead ≡ false
    none-ahead = list_any_none (λ log. nat_lt s.clock log.moment) s.logs (λ k d inside.
        let log = done-at k inside in
        rw (get_or_from_slice_get s.logs k log.log d log.there) (grind (arith, nat_tests)))

    -- so all are idle
    ended-are-idle : are_idle s ≡ true
    ended-are-idle = elim (cases_eq (length s.logs) 0) as (λ w. are_idle s ≡ true) [
      | inl none ↦ or_left (length s.logs == 0) _ (eq-eqb (length s.logs) 0 none)
      | inr some ↦
          let first = done-at 0 (omega arith) in
          or_right (length s.logs == 0) _ (rw (none-within, none-ahead, first.begun) refl)
    ]

    -- and none may take a line
    ended-take-none : some_line_may c s ≡ false
    ended-take-none = list_any_none (λ log. is_enabled c s (Line log))
        (range_with_len 1 (length c.logs)) (λ place d inside.
        let there : place < length c.logs = omega (arith, length-range_with_len) in
        rw (number-at place d there) (done-at place (omega arith)).stays)

  module _ (none : some_line_may c s ≡ false) where
    -- where no living bio was made for a log, none was for the one at a place
    free-at : (place : ℕ) → place < length s.logs → within ≡ false → is_busy s (suc place) ≡ false
    free-at place inside free =
        search (rules, list_any_none, false_from_ne_true, false≢true, none-at, log-within, is-in)

    -- so where all are idle and none may take a line, the log at each place has ended
    idle-log : are_idle s ≡ true → (place : ℕ) (plan : LogPlan) (log : LogState)
        → slice_get c.logs place ≡ Some plan → slice_get s.logs place ≡ Some log
        → log_ended s (suc place) plan log ≡ true
    idle-log idle place plan log planned there =
        let inside = slice_get_within s.logs place log there in
        let number = number-at place 0 (omega arith) in
        let stays = rw number at (none-at (λ log. is_enabled c s (Line log))
        (range_with_len 1 (length c.logs)) place 0 none
        (omega (arith, length-range_with_len 1 (length c.logs)))) in
        elim (or_cases (length s.logs == 0) (s.started && not within && not ahead) idle)
        as (λ w. log_ended s (suc place) plan log ≡ true) [
          | inl empty ↦ absurd (omega (arith, inside, eqb-true (length s.logs) 0 empty))
          | inr rest ↦
              let parts = all-four s.started (not within) (not ahead) true (rw rest refl) in
              let late = none-at (λ (log : LogState). nat_lt s.clock log.moment) s.logs place log
              (not-true ahead parts.2) inside in
              let come = rw (get_or_from_slice_get s.logs place log log there) at late in
              second-fails s.started (has_line plan log) (not (is_busy s (suc place)))
              (has_come s log.moment) parts.0
              (rw (free-at place inside (not-true within parts.1)) refl)
              (grind (arith, nat_tests)) (rw (planned, there) at stays)
        ]

    -- where none may take a line, all have ended where all are idle
    pub idle_decides : are_idle s ≡ logs_ended c s
    idle_decides = both_ways (are_idle s) (logs_ended c s)
        (λ idle. all-tested (λ entry. log_ended s entry.0 entry.1.0 entry.1.1) 1 c.logs s.logs
        (λ place number plan log at planned there.
        let same : number ≡ suc place = omega arith in
        rw same (idle-log idle place plan log planned there))) ended-are-idle

  -- where one may, they haven't
  pub taken_not_ended : some_line_may c s ≡ true → logs_ended c s ≡ false
  taken_not_ended some = search (rules, ended-take-none)
