-- What is counted, read and found in the three parts of the written order.
use Rattle.lab_model.proofs.Common.{rules, ◌≡◌, ℕ, suc, ◌+◌, ◌-◌, ◌<◌, Bool, List, ◌∷◌}
use Rattle.lab_model.proofs.Common.{◌++◌, Option, Some, None, length, ◌∙◌, arith, length-append}
use Rattle.lab_model.proofs.Common.{slice_get, option_or, find, is_enabled, enabled_events}
use Rattle.lab_model.proofs.Common.{Scenario, State, slice_get-front, append_assoc, filter-append}
use Rattle.lab_model.specs.declared.event.Event.{Event}
use Rattle.lab_model.specs.declared.event.Event.TheVariants.{Clock}
use Rattle.std.proofs.lemmas.List.Folds.{find-append}
use Rattle.lab_state.specs.Places.{bio_events}
use Rattle.lab_next.specs.Places.{behind_events, clock_events, front_events, if_passes}
use Rattle.lab_state.proofs.Ready.{kept-each, of-bios, of-entry}

-- the events that may come next, in three parts
pub enabled-parts : {S : Type 0} (c : Scenario S) (s : State S)
    → enabled_events c s ≡ front_events c s ++ behind_events c s
enabled-parts c s = search (rules, append_assoc, filter-append, kept-each, of-entry, of-bios)

-- an item behind a list
get-behind : {X : Type 0} (xs ys : List X) (i j : ℕ)
    → length xs + j ≡ i → slice_get (xs ++ ys) i ≡ slice_get ys j
get-behind (x ∷ xs) ys (suc i) j at = get-behind xs ys i j (omega arith)
get-behind xs ys i j at = search rules

module _ {S : Type 0} (c : Scenario S) (s : State S) where
  -- the number of an event of the script or of a log
  pub nth-front : (number : ℕ) → number < length (front_events c s)
      → slice_get (enabled_events c s) number ≡ slice_get (front_events c s) number
  nth-front number inside = search (rules, enabled-parts, slice_get-front)

  -- a number that lies behind them
  pub nth-rest : (number left : ℕ) → length (front_events c s) + left ≡ number
      → slice_get (enabled_events c s) number ≡ slice_get (behind_events c s) left
  nth-rest number left behind = search (rules, enabled-parts, get-behind)

  -- the number of the clock's event
  pub nth-clock : (number : ℕ) → number ≡ length (bio_events s)
      → slice_get (behind_events c s) number ≡ if_passes (is_enabled c s) Clock
  nth-clock number at = get-behind (bio_events s) (clock_events c s) number 0 (omega arith)
      ∙ (search rules)

  -- a number behind all
  pub nth-past : (number : ℕ) → length (bio_events s) < number
      → slice_get (behind_events c s) number ≡ None
  nth-past number past = get-behind (bio_events s) (clock_events c s) number
      (suc (number - length (bio_events s) - 1)) (omega arith) ∙ (search rules)

  -- how many there are
  pub count-parts : length (enabled_events c s)
      ≡ length (front_events c s) + length (behind_events c s)
  count-parts = search (rules, enabled-parts, length-append)

  -- the first that passes is that of the first part that has one
  pub find-parts : (test : Event → Bool) → find test (enabled_events c s)
      ≡ option_or (find test (front_events c s))
      (option_or (find test (bio_events s)) (find test (clock_events c s)))
  find-parts test = search (rules, enabled-parts, find-append)

-- where no event is found there is none
pub none-found : (found : Option Event) → ((event : Event) → found ≡ Some event → ⊥) → found ≡ None
none-found found none = search rules
