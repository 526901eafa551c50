-- What the living bios add up to as one is put behind, taken out or changed. How many bios are in
-- flight at each device, as one is put behind, taken out or comes to another stage.
use Rattle.lab_model.proofs.Common.{rules, ◌≡◌, ℕ, ◌+◌, ◌<◌, ◌≤◌, Bool, cond, ◌||◌, List, [], ◌∷◌}
use Rattle.lab_model.proofs.Common.{◌++◌, Option, Some, None, length, refl, sym, ◌∙◌, arith, nat_lt}
use Rattle.lab_model.proofs.Common.{nat_tests, sum_by-cons, count_by, list_any, sum_by, Bio}
use Rattle.lab_model.specs.declared.parent.Parent.{Parent}
use Rattle.lab_model.proofs.Common.{is_bio, change_numbered, option_flatten, numbered, of_entry}
use Rattle.lab_model.specs.declared.parent.Parent.TheVariants.{FromBio}
use Rattle.lab_model.proofs.Common.{total, total-append, total-numbered-entry, total-numbered-same}
use Rattle.lab_model.proofs.Common.{sum-there, option_map, ◌^◌, get_or, ap, Stage, flies_at, DevNo}
use Rattle.lab_model.specs.declared.piece.Piece.{Piece}
use Rattle.std.proofs.lemmas.List.Sums.{count_by-le-length, sum-map}
use Rattle.std.specs.List.{filter_map}
use Rattle.lab_bios.specs.Children.{parent_number}
use Rattle.lab_bios.specs.Living.{living_of}
use Rattle.lab_bios.specs.Flights.{AddsFlight, AreAllCounted, flight_of, flights_at, one_in}
use Rattle.lab_bios.specs.Views.{with_stage}

-- the sum of what each living one adds
abbrev pub sum_of : {X : Type 0} → (X → ℕ) → List (Option X) → ℕ
sum_of f xs = sum_by f (filter_map (λ x. x) xs)

module _ {X : Type 0} (f : X → ℕ) where
  -- the same as a total over all entries
  sum_of-total : (xs : List (Option X)) → sum_of f xs ≡ total (of_entry f) xs
  sum_of-total xs = sym (sum-map f (filter_map (λ x. x) xs)) ∙ sum-there f xs

  -- one that is put behind adds its own
  pub summed-push : (xs : List (Option X)) (x : X)
      → sum_of f (xs ++ Some x ∷ []) ≡ sum_of f xs + f x
  summed-push xs x = search (rules, sum_of-total, total-append)

  -- one that is taken out had added its own
  pub summed-gone : (xs : List (Option X)) (n : ℕ) (x : X) → option_flatten (numbered xs n) ≡ Some x
      → sum_of f (change_numbered xs n (λ _. None)) + f x ≡ sum_of f xs
  summed-gone xs n x got = search (rules, total-numbered-entry, sum_of-total)

  -- one that is changed adds what it is then
  pub summed-changed : (g : X → X) (xs : List (Option X)) (n : ℕ) (x : X)
      → option_flatten (numbered xs n) ≡ Some x
      → sum_of f (change_numbered xs n (option_map g)) + f x ≡ sum_of f xs + f (g x)
  summed-changed g xs n x got = search (rules, sum_of-total, total-numbered-entry)

  -- the same where the change leaves that alone, whether one lives there or not
  pub summed-stage : (g : X → X) → ((x : X) → f (g x) ≡ f x) → (xs : List (Option X)) (n : ℕ)
      → sum_of f (change_numbered xs n (option_map g)) ≡ sum_of f xs
  summed-stage g same xs n = search (rules, sum_of-total, total-numbered-same)

-- what a bio with this parent adds to the count of a number
abbrev pub one_if : ℕ → Parent → ℕ
one_if n parent = cond (is_bio n parent) 1 0

-- and what a bio does
abbrev pub child_of : ℕ → Bio → ℕ
child_of n bio = one_if n bio.parent

-- nothing to that of another bio
pub one-other : (n p : ℕ) (piece : Piece) → (n ≡ p → ⊥) → one_if n (FromBio p piece) ≡ 0
one-other n p piece other = grind (arith, nat_tests)

-- one to that of its parent
pub one-same : (n p : ℕ) (piece : Piece) → n ≡ p → one_if n (FromBio p piece) ≡ 1
one-same n p piece same = grind (arith, nat_tests)

-- nothing to that of a number above its parent's
pub one-above : (n : ℕ) (parent : Parent) → parent_number parent < n → one_if n parent ≡ 0
one-above n parent above = search rules

-- each living bio adds one to how many live
pub length-living : (bios : List (Option Bio)) → length (living_of bios) ≡ sum_of (λ _. 1) bios
length-living [] = refl
length-living (None ∷ bios) = length-living bios
length-living (Some bio ∷ bios) = simp sum_by-cons (omega (arith, length-living bios))

-- no more bios live than were made
pub living-few : (bios : List (Option Bio)) → length (living_of bios) ≤ length bios
living-few [] = omega arith
living-few (None ∷ bios) = omega (arith, living-few bios)
living-few (Some bio ∷ bios) = omega (arith, living-few bios)

-- so no more are counted
pub counted-few : (test : Bio → Bool) (bios : List (Option Bio))
    → count_by test (living_of bios) ≤ length bios
counted-few test bios = search (rules, living-few, count_by-le-length)

-- one more of a test's counts
some-more : (first rest : Bool) (all count : ℕ) → all ≡ cond first 1 0 + count
    → nat_lt 0 count ≡ rest → nat_lt 0 all ≡ (first || rest)
some-more first rest all count is some = search rules

-- some are counted where one passes
pub some-counted : {X : Type 0} (test : X → Bool) (xs : List X)
    → nat_lt 0 (count_by test xs) ≡ list_any test xs
some-counted test [] = search rules
some-counted test (x ∷ xs) = search (rules, some-more, sum_by-cons, some-counted test xs)

-- what a bio adds to the count of a device
abbrev adds : ℕ → Bio → ℕ
adds device bio = cond (flies_at device bio.device bio.stage) 1 0

-- it is one where it is in flight there
adds-one : (device : ℕ) (on : DevNo) (stage : Stage)
    → cond (flies_at device on stage) 1 0 ≡ one_in device (flight_of on stage)
adds-one device on stage = search rules

-- no more are in flight than were made
flights-few : (device : ℕ) (bios : List (Option Bio)) → flights_at device bios ≤ length bios
flights-few device = counted-few (λ (bio : Bio). flies_at device bio.device bio.stage)

module _ (before after : List (Option Bio)) (flights : List ℕ)
    (counted : AreAllCounted before flights) where
  -- one that is put behind adds its own
  pushed : (bio : Bio) → after ≡ before ++ Some bio ∷ [] → (device : ℕ)
      → flights_at device after
      ≡ get_or flights device 0 + one_in device (flight_of bio.device bio.stage)
  pushed bio is device = search (rules, summed-push, adds-one)

  -- so there is room for it
  pub room-for-pushed : (bio : Bio) → after ≡ before ++ Some bio ∷ [] → length after < 2 ^ 64
      → (device : ℕ)
      → get_or flights device 0 + one_in device (flight_of bio.device bio.stage) < 2 ^ 64
  room-for-pushed bio is fits device = omega (arith, pushed bio is device, flights-few device after)

  -- and the counts with it are right
  pub all-pushed : (new : List ℕ) (bio : Bio) → after ≡ before ++ Some bio ∷ []
      → AddsFlight flights new (flight_of bio.device bio.stage) → AreAllCounted after new
  all-pushed new bio is adds device = omega (arith, pushed bio is device, adds.each device)

  -- one that is taken out had added its own
  gone : (number : ℕ) (bio : Bio) → option_flatten (numbered before number) ≡ Some bio
      → (device : ℕ)
      → flights_at device (change_numbered before number (λ _. None))
      + one_in device (flight_of bio.device bio.stage) ≡ get_or flights device 0
  gone number bio got device = search (rules, summed-gone, adds-one)

  -- so it was counted
  pub was-counted : (number : ℕ) (bio : Bio) → option_flatten (numbered before number) ≡ Some bio
      → (device : ℕ) → one_in device (flight_of bio.device bio.stage) ≤ get_or flights device 0
  was-counted number bio got device = omega (arith, gone number bio got device)

  -- and the counts without it are right
  pub all-taken : (new : List ℕ) (number : ℕ) (bio : Bio)
      → option_flatten (numbered before number) ≡ Some bio
      → after ≡ change_numbered before number (λ _. None)
      → AddsFlight new flights (flight_of bio.device bio.stage) → AreAllCounted after new
  all-taken new number bio got is less device = search (rules, gone)

  -- one that comes to another stage adds by that one
  staged : (number : ℕ) (bio : Bio) (stage : Stage)
      → option_flatten (numbered before number) ≡ Some bio
      → after ≡ change_numbered before number (option_map (with_stage stage)) → (device : ℕ)
      → flights_at device after + one_in device (flight_of bio.device bio.stage)
      ≡ get_or flights device 0 + one_in device (flight_of bio.device stage)
  staged number bio stage got is device =
      let sum = summed-changed (adds device) (with_stage stage) before number bio got in
      search (rules, adds-one)

  -- so it fits into the counts without it
  pub room-for-staged : (new : List ℕ) (number : ℕ) (bio : Bio) (stage : Stage)
      → option_flatten (numbered before number) ≡ Some bio
      → after ≡ change_numbered before number (option_map (with_stage stage))
      → length after < 2 ^ 64
      → AddsFlight new flights (flight_of bio.device bio.stage)
      → (device : ℕ) → get_or new device 0 + one_in device (flight_of bio.device stage) < 2 ^ 64
  room-for-staged new number bio stage got is fits less device =
      let sum = staged number bio stage got is device in
      omega (arith, less.each device, flights-few device after)

  -- and with it they are right again
  pub all-staged : (between new : List ℕ) (number : ℕ) (bio : Bio) (stage : Stage)
      → option_flatten (numbered before number) ≡ Some bio
      → after ≡ change_numbered before number (option_map (with_stage stage))
      → AddsFlight between flights (flight_of bio.device bio.stage)
      → AddsFlight between new (flight_of bio.device stage) → AreAllCounted after new
  all-staged between new number bio stage got is less more device = search (rules, staged)

  -- where it is in flight there as before, they are still right
  pub all-kept : (number : ℕ) (bio : Bio) (stage : Stage)
      → option_flatten (numbered before number) ≡ Some bio
      → after ≡ change_numbered before number (option_map (with_stage stage))
      → flight_of bio.device stage ≡ flight_of bio.device bio.stage → AreAllCounted after flights
  all-kept number bio stage got is stays device =
      omega (arith, staged number bio stage got is device, ap (one_in device) stays)

-- some are counted just where one is in flight
pub counted-any : (device : ℕ) (bios : List (Option Bio))
    → nat_lt 0 (flights_at device bios)
    ≡ list_any (λ (bio : Bio). flies_at device bio.device bio.stage) (living_of bios)
counted-any device bios = search (rules, some-counted)
