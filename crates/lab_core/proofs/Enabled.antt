-- The events that may come are among those of the written order, and there is none exactly where all
-- is done.
use Rattle.lab_model.proofs.Common.{rules, ◌≡◌, ℕ, zero, suc, ◌+◌, ◌<◌, ◌≤◌, ◌%◌, inl, inr, Bool}
use Rattle.lab_model.proofs.Common.{true, false, cond, List, [], ◌∷◌, ◌++◌, Option, Some, None}
use Rattle.lab_model.proofs.Common.{length, map, slice_get, refl, arith, filter, range_with_len}
use Rattle.lab_model.proofs.Common.{cases_lt, slice_get_within, Lawful, Meaning, Bio, bio_may}
use Rattle.lab_model.proofs.Common.{is_done, is_enabled, option_flatten, numbered, enabled_events}
use Rattle.lab_model.proofs.Common.{events_of, Scenario, slice_get-within, In-map, State, bio_of}
use Rattle.lab_model.proofs.Common.{In, In-append_left, In-append_right, In-flat_map}
use Rattle.lab_model.specs.Order.{all_events}
use Rattle.lab_model.specs.declared.event.Event.{Event}
use Rattle.lab_model.specs.declared.event.Event.TheVariants.{Line, Map, Serve, Release, Finish}
use Rattle.lab_model.specs.declared.event.Event.TheVariants.{Control, Clock}
use Rattle.std.proofs.Common.{flat_map}
use Rattle.law_never_wrong.specs.NeverStuck.{SomeMay}
use Rattle.lab_core.specs.Running.{IsRunning, Running}
use Rattle.lab_core.proofs.Known.{runs-well}

-- an item that a filter keeps passes its test
pub kept-passes : {X : Type 0} (test : X → Bool) (xs : List X) (place : ℕ) (x : X)
    → slice_get (filter test xs) place ≡ Some x → test x ≡ true
kept-passes test [] zero x at = cc
kept-passes test [] (suc place) x at = cc
kept-passes {X} test (y ∷ ys) place x at = by_test (test y) refl place at (kept-passes test ys)
  where
    by_test : (passes : Bool) → test y ≡ passes → (place : ℕ)
        → slice_get (cond passes (y ∷ filter test ys) (filter test ys)) place ≡ Some x
        → ((later : ℕ) (x : X) → slice_get (filter test ys) later ≡ Some x → test x ≡ true)
        → test x ≡ true
    by_test true is zero at rest = let same : y ≡ x = cc in rw (← same) is
    by_test true is (suc place) at rest = rest place x at
    by_test false is place at rest = rest place x at

-- where an item passes, some are kept
pub some-kept : {X : Type 0} (test : X → Bool) (xs : List X) (x : X) → In x xs → test x ≡ true
    → 0 < length (filter test xs)
some-kept test [] x at passes = absurd at
some-kept test (y ∷ ys) x at passes = grind (arith, some-kept test ys x)

-- where none passes, none is kept
pub none-kept : {X : Type 0} (test : X → Bool) (xs : List X) → ((x : X) → test x ≡ false)
    → filter test xs ≡ []
none-kept test [] none = refl
none-kept test (y ∷ ys) none = rw (none y) (none-kept test ys none)

-- a list without a first item has none
pub no-first : {X : Type 0} (xs : List X) → slice_get xs 0 ≡ None → length xs ≡ 0
no-first [] none = refl
no-first (x ∷ xs) none = cc

-- in a list with items each number picks one
pub number-picks : {X : Type 0} (xs : List X) (n count : ℕ) → count ≡ length xs
    → slice_get xs (n % count) ≡ None → length xs ≡ 0
number-picks [] n count is none = refl
number-picks (x ∷ xs) n count is none = grind (arith, slice_get-within (x ∷ xs) (n % count))

-- a number of a range
pub number-in : (count first n : ℕ) → first ≤ n → n < first + count
    → In n (range_with_len first count)
number-in zero first n above below = absurd (omega arith)
number-in (suc count) first n above below = elim (cases_lt first n) [
  | inl less ↦ inr (number-in count (first + 1) n (omega arith) (omega arith))
  | inr most ↦ inl (omega arith)
]

-- an item that is numbered is inside
numbered-inside : {X : Type 0} (xs : List X) (n : ℕ) (x : X) → numbered xs n ≡ Some x
    → In n (range_with_len 1 (length xs))
numbered-inside xs zero x at = cc
numbered-inside xs (suc place) x at = search (arith, number-in, slice_get_within xs place x at)

module _ {S : Type 0} (c : Scenario S) (s : State S) where
  -- a bio to which something may come has one
  bio-inside : (number : ℕ) (test : Bio → Bool) (entry : Option (Option Bio))
      → numbered s.bios number ≡ entry → bio_may (option_flatten entry) test ≡ true
      → In number (range_with_len 1 (length s.bios))
  bio-inside number test entry at may = search (rules, numbered-inside)

  -- what may come to a bio is written
  bio-written : (number : ℕ) (test : Bio → Bool) (event : Event)
      → bio_may (bio_of s number) test ≡ true → In event (events_of number) → In event (all_events c s)
  bio-written number test event may own =
      search (rules, In-append_left, In-append_right, In-flat_map, bio-inside)

  -- each event that may come is written
  may-written : (event : Event) → is_enabled c s event ≡ true → In event (all_events c s)
  may-written (Line log) may =
      let lines = map (λ log. Line log) (range_with_len 1 (length c.logs)) in
      let bios = flat_map events_of (range_with_len 1 (length s.bios)) in
      inr (In-append_left (Line log) (lines ++ bios) (Clock ∷ []) (In-append_left (Line log) lines
      bios
      (In-map (λ log. Line log) log (range_with_len 1 (length c.logs))
      (search (rules, numbered-inside)))))
  may-written (Map number) may = bio-written number _ (Map number) may (inl refl)
  may-written (Serve number) may = bio-written number _ (Serve number) may (inr (inl refl))
  may-written (Release number) may =
      bio-written number _ (Release number) may (inr (inr (inl refl)))
  may-written (Finish number) may =
      bio-written number _ (Finish number) may (inr (inr (inr (inl refl))))
  may-written Control may = inl refl
  may-written Clock may =
      let lines = map (λ log. Line log) (range_with_len 1 (length c.logs)) in
      let bios = flat_map events_of (range_with_len 1 (length s.bios)) in
      inr (In-append_right Clock (lines ++ bios) (Clock ∷ []) (inl refl))

  -- where some event may come, some is listed
  pub some-listed : SomeMay c s → 0 < length (enabled_events c s)
  some-listed some = search (rules, some-kept, may-written)

  -- where none may, none is
  pub none-listed : ((event : Event) → is_enabled c s event ≡ false) → enabled_events c s ≡ []
  none-listed none = none-kept (is_enabled c s) (all_events c s) none

  -- an event that is listed may come
  pub listed-may : (place : ℕ) (event : Event) → slice_get (enabled_events c s) place ≡ Some event
      → is_enabled c s event ≡ true
  listed-may place event at = kept-passes (is_enabled c s) (all_events c s) place event at

-- a laboratory where no event is listed is done
pub unlisted-done : {S : Type 0} (m : Meaning S) (lawful : Lawful m) (lab : Running S)
    → IsRunning m lab → length (enabled_events lab.scenario lab.state) ≡ 0
    → is_done lab.scenario lab.state ≡ true
unlisted-done m lawful lab running none =
    search (rules, some-listed, (runs-well m lawful lab running).never_stuck)

-- a laboratory without a first event is done
pub first-done : {S : Type 0} (m : Meaning S) (lawful : Lawful m) (lab : Running S)
    → IsRunning m lab → slice_get (enabled_events lab.scenario lab.state) 0 ≡ None
    → is_done lab.scenario lab.state ≡ true
first-done m lawful lab running none = search (rules, unlisted-done, no-first)
