-- The least of the moments that lie ahead: in parts. The least due moment of the bios that wait is
-- the least that lies ahead of the held ones.
use Rattle.lab_model.proofs.Common.{rules, ◌≡◌, ℕ, List, [], ◌∷◌, ◌++◌, Option, None, refl, ap}
use Rattle.lab_model.proofs.Common.{suc, zero, ◌≤◌, Some}
use Rattle.lab_model.proofs.Common.{sym, ◌∙◌, IfNone, IfSome, slice_get, nat_cmp}
use Rattle.lab_model.proofs.Common.{Bio, option_flatten, numbered}
use Rattle.lab_logs.specs.Moments.{least_over, least_with}
use Rattle.lab_queue.specs.Moments.{IsFirstMoment}
use Rattle.lab_queue.proofs.Indexes.{get-insert_other, get-insert_same, get-remove_other}
use Rattle.lab_queue.proofs.Indexes.{get-remove_same}
use Rattle.lab_bios.specs.Living.{living_of}
use Rattle.lab_state.specs.Index.{waits_of}
use Rattle.lab_state.specs.Moments.{dues}
use Rattle.std.specs.FinMap as map

-- the moments of two lists, one list after the other
pub over-append : (now : ℕ) (first later : List ℕ) (other : Option ℕ)
    → least_over now (first ++ later) other ≡ least_over now first (least_over now later other)
over-append now [] later other = search rules
over-append now (moment ∷ first) later other = search (rules, over-append now first later other)

-- the lesser of the moment of what waits, if something does, and another
abbrev with_wait : Option ℕ → Option ℕ → Option ℕ
with_wait None other = other
with_wait (Some due) other = least_with due other

-- the least moment of the bios that wait
abbrev least_wait : ℕ → List (Option Bio) → Option ℕ
least_wait now [] = None
least_wait now (entry ∷ entries) = with_wait (waits_of now entry) (least_wait now entries)

-- so the least that lies ahead of the held ones is the least of those that wait
over-wait : (now : ℕ) (bios : List (Option Bio))
    → least_over now (dues (living_of bios)) None ≡ least_wait now bios
over-wait now [] = search rules
over-wait now (entry ∷ bios) = search (rules, over-wait now bios)

-- with none that waits there is no moment
none-wait : (now : ℕ) (bios : List (Option Bio))
    → ((place : ℕ) → waits_of now (option_flatten (slice_get bios place)) ≡ None)
    → least_wait now bios ≡ None
none-wait now [] none = refl
none-wait now (entry ∷ bios) none = ap (λ wait. with_wait wait (least_wait now bios)) (none 0)
    ∙ none-wait now bios (λ place. none (suc place))

-- a moment that is no later than those of all that wait is the least of it and them
low-wait : (now moment : ℕ) (bios : List (Option Bio))
    → ((place due : ℕ)
    → waits_of now (option_flatten (slice_get bios place)) ≡ Some due → moment ≤ due)
    → least_with moment (least_wait now bios) ≡ Some moment
low-wait now moment [] low = refl
low-wait now moment (entry ∷ bios) low = (search rules)
    ∙ ap (with_wait (waits_of now entry)) (low-wait now moment bios (λ place. low (suc place)))
    ∙ (search (rules, low 0))

-- the moment of one that waits, no later than those of all, is the least
some-wait : (now : ℕ) (bios : List (Option Bio)) (at first : ℕ)
    → waits_of now (option_flatten (slice_get bios at)) ≡ Some first
    → ((place due : ℕ)
    → waits_of now (option_flatten (slice_get bios place)) ≡ Some due → first ≤ due)
    → least_wait now bios ≡ Some first
some-wait now [] at first waits low = cc
some-wait now (entry ∷ bios) zero first waits low =
    ap (λ wait. with_wait wait (least_wait now bios)) waits
    ∙ low-wait now first bios (λ place. low (suc place))
some-wait now (entry ∷ bios) (suc at) first waits low = ap (with_wait (waits_of now entry))
    (some-wait now bios at first waits (λ place. low (suc place)))
    ∙ (search (rules, low 0))

module _ (now : ℕ) (bios : List (Option Bio)) (waiting : map.FinMap nat_cmp ℕ)
    (waits : (number : ℕ)
    → map.get waiting number ≡ waits_of now (option_flatten (numbered bios number))) where
  -- where nothing is held, none lies ahead
  first-none : ((id : ℕ) → map.get waiting id ≡ None)
      → None ≡ least_over now (dues (living_of bios)) None
  first-none none = sym (over-wait now bios ∙ none-wait now bios (λ place.
      sym (waits (suc place)) ∙ (search (rules, none (suc place)))))

  -- one that waits has a place
  place-wait : (number due : ℕ) → map.get waiting number ≡ Some due
      → (place : ℕ) × (waits_of now (option_flatten (slice_get bios place)) ≡ Some due)
  place-wait number due is = search rules

  -- the least of all is the least that lies ahead
  first-some : (moment : ℕ) → IsFirstMoment waiting moment
      → Some moment ≡ least_over now (dues (living_of bios)) None
  first-some moment first =
      let at = place-wait first.held.0 moment first.held.1 in
      let least = some-wait now bios at.0 moment at.1
      (λ place due is. first.least (suc place) due (waits (suc place) ∙ is)) in
      sym (over-wait now bios ∙ least)

  -- the least due moment of all that is held, if there is one
  pub first_due : (result : Option ℕ) → IfSome result (IsFirstMoment waiting)
      → IfNone result ((id : ℕ) → map.get waiting id ≡ None)
      → result ≡ least_over now (dues (living_of bios)) None
  first_due None some none = first-none none
  first_due (Some moment) some none = first-some moment some

-- what is found of a number once it or another one was put in or taken out
pub ruleset held_steps = (get-insert_same, get-insert_other, get-remove_same, get-remove_other)
