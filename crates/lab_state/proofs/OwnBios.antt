-- The first event of a bio that belongs to somebody: those before it belong to others.
use Rattle.lab_model.proofs.Common.{rules, ◌≡◌, ℕ, suc, zero, ◌+◌, ◌-◌, ◌<◌, ◌≤◌, Bool, true, false}
use Rattle.lab_model.proofs.Common.{List, Option, Some, None, refl, ap, sym, ◌∙◌, arith, length}
use Rattle.lab_model.proofs.Common.{add-zero, cons_option, find, range_with_len, owner_of, State}
use Rattle.lab_model.specs.declared.event.Event.{Event}
use Rattle.lab_model.specs.declared.event.Who.{Who}
use Rattle.std.specs.List.{filter_map}
use Rattle.lab_model.specs.declared.event.Who.TheVariants.{Control}
use Rattle.lab_state.specs.Owned.{is_same}
use Rattle.lab_state.specs.Places.{bio_events}
use Rattle.lab_state.proofs.Ready.{event_of, of-bios}

-- whether an event belongs to somebody
abbrev pub belongs : {S : Type 0} → State S → Who → Event → Bool
belongs s who event = is_same (owner_of s event) who

-- what may come to the bio of a number belongs to another
abbrev pub IsOthers : {S : Type 0} → State S → Who → ℕ → Type 0
IsOthers s who number = (event : Event) → event_of s number ≡ Some event
    → belongs s who event ≡ false

-- what holds up to a number, from there up to another and of that one holds up to the next
pub passed-more : (P : ℕ → Type 0) (from number : ℕ) → ((other : ℕ) → other < from → P other)
    → ((other : ℕ) → from ≤ other → other < number → P other) → P number
    → (other : ℕ) → other < number + 1 → P other
passed-more P from number before skipped here = search rules

-- an event that fails a test is passed, if there is one
pass-one : (test : Event → Bool) (event : Option Event) (rest : List Event)
    → ((found : Event) → event ≡ Some found → test found ≡ false)
    → find test (cons_option event rest) ≡ find test rest
pass-one test event rest fails = search rules

module _ {S : Type 0} (s : State S) (who : Who) where
  -- the first event that belongs to somebody, of so many bios from a number on
  abbrev first_of : ℕ → ℕ → Option Event
  first_of from count = find (belongs s who) (filter_map (event_of s) (range_with_len from count))

  -- where those of some bios belong to others, it is that of those behind them
  skipped : (from more count : ℕ)
      → ((other : ℕ) → other < from + more → IsOthers s who other)
      → first_of from (more + count) ≡ first_of (from + more) count
  skipped from zero count others = search rules
  skipped from (suc more) count others =
      let next : suc more + count ≡ suc (more + count) = omega arith in
      let behind : from + suc more ≡ from + 1 + more = omega arith in
      rw (next, behind) (pass-one (belongs s who) (event_of s from) _ (others from (omega arith))
      ∙ skipped (from + 1) more count (λ other below. others other (omega arith)))

  -- so it is among the events of all bios
  pub found-first : (number : ℕ) (event : Event) → number ≤ length s.bios
      → ((other : ℕ) → other < number → IsOthers s who other)
      → event_of s number ≡ Some event → belongs s who event ≡ true
      → Some event ≡ find (belongs s who) (bio_events s)
  found-first zero event made others is owns = absurd (cc)
  found-first (suc place) event made others is owns =
      let left = length s.bios - suc place in
      let all : length s.bios ≡ place + suc left = omega arith in
      let at : 1 + place ≡ suc place = omega arith in
      let passed = skipped 1 place (suc left) (λ other below. others other (omega arith)) in
      sym (rw (← all, at) at passed ∙ rw (is, owns) refl) ∙ ap (find (belongs s who)) (of-bios s)

  -- and among these there is none where none has one
  pub found-none : ((other : ℕ) → IsOthers s who other)
      → None ≡ find (belongs s who) (bio_events s)
  found-none others = rw (← of-bios s) (sym (rw add-zero at
      (skipped 1 (length s.bios) 0 (λ other below. others other))))

-- so none is found among them
pub none_scripts : {S : Type 0} (s : State S) → None ≡ find (belongs s Control) (bio_events s)
none_scripts s = search (rules, found-none)
