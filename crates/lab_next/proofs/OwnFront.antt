-- The script and each log have one event at most among those of the script and of the logs.
use Rattle.lab_model.proofs.Common.{rules, ◌≡◌, ℕ, suc, zero, ◌+◌, ◌<◌, ◌≤◌, Bool, true, false}
use Rattle.lab_model.proofs.Common.{cond, List, ◌∷◌, Option, Some, None, refl, ◌∙◌, arith, inl, inr}
use Rattle.lab_model.proofs.Common.{filter, length, map, cases_eq, slice_get_past, cases_lt, find}
use Rattle.lab_model.proofs.Common.{range_with_len, is_enabled, line_may, numbered, LogPlan}
use Rattle.lab_model.proofs.Common.{Scenario, LogState, State}
use Rattle.lab_model.specs.declared.event.Event.{Event}
use Rattle.lab_model.specs.declared.event.Event.TheVariants.{Line, Control}
use Rattle.lab_model.specs.declared.event.Who.{Who}
use Rattle.std.proofs.lemmas.Bool.{eq-eqb, ne_eqb}
use Rattle.lab_model.specs.declared.event.Who.TheVariants.{Log, Control as Script, Timers}
use Rattle.lab_next.specs.Places.{front_events, if_passes}
use Rattle.lab_state.proofs.OwnBios.{belongs}

-- the lines of so many logs from a number on
abbrev lines : ℕ → ℕ → List Event
lines first count = map (λ log. Line log) (range_with_len first count)

-- an event that isn't kept or doesn't pass is passed over
passed-by : (test : Event → Bool) (kept : Bool) (first : Event) (events : List Event)
    → (kept ≡ true → test first ≡ false)
    → find test (cond kept (first ∷ events) events) ≡ find test events
passed-by test kept first events fails = search rules

module _ {S : Type 0} (s : State S) (may : Event → Bool) where
  -- where no line that may come belongs to somebody, none of some lines does
  none-lines : (who : Who) → ((log : ℕ) → may (Line log) ≡ true → belongs s who (Line log) ≡ false)
      → (first count : ℕ) → find (belongs s who) (filter may (lines first count)) ≡ None
  none-lines who others first zero = search rules
  none-lines who others first (suc count) = search (rules, none-lines who others (first + 1) count)

  -- where a log's line may come, it is the one among those of some logs that the log is one of
  one-line : (log first count : ℕ) → may (Line log) ≡ true → first ≤ log → log < first + count
      → find (belongs s (Log log)) (filter may (lines first count)) ≡ Some (Line log)
  one-line log first zero comes from inside = absurd (omega arith)
  one-line log first (suc count) comes from inside = elim (cases_eq first log) [
    | inl same ↦ rw (same, comes, eq-eqb log log refl)
    | inr apart ↦ passed-by (belongs s (Log log)) (may (Line first)) (Line first)
        (filter may (lines (first + 1) count)) (λ _. ne_eqb first log apart)
        ∙ one-line log (first + 1) count comes (omega arith) (omega arith)
  ]

-- a log whose line may come is one of the scenario's
number-inside : {S : Type 0} (s : State S) (plans : List LogPlan) (number : ℕ)
    (state : Option LogState) → line_may s number (numbered plans number) state ≡ true
    → (1 ≤ number) × (number < 1 + length plans)
number-inside s plans number state may = search (rules, cases_lt, slice_get_past)

module _ {S : Type 0} (c : Scenario S) (s : State S) where
  -- of a log it is that log's line
  pub own-line : (log : ℕ) → if_passes (is_enabled c s) (Line log)
      ≡ find (belongs s (Log log)) (front_events c s)
  own-line log = search (rules, passed-by, number-inside, one-line, none-lines)

  -- of the script it is the script's event
  pub own-script : if_passes (is_enabled c s) Control ≡ find (belongs s Script) (front_events c s)
  own-script = search (rules, none-lines)

  -- the timers have none of them
  pub own-none : None ≡ find (belongs s Timers) (front_events c s)
  own-none = search (rules, none-lines)
