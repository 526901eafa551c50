-- How often numbers stand in a row that doesn't fall, as one is put in or taken out. Whether one of
-- the numbers from 1 to another stands in a row that doesn't fall, by the least.
use Rattle.lab_model.proofs.Common.{rules, ◌≡◌, ◌≢◌, ℕ, suc, ◌<◌, List, [], ◌∷◌, Result, Ok, Err}
use Rattle.lab_model.proofs.Common.{get_or, length, not, refl, ap, sym, arith, nat_lt, lt-ltb}
use Rattle.lab_model.proofs.Common.{nat_tests, sum_by-cons, IsNonDecreasing, nat_cmp, ◌≤◌, true}
use Rattle.lab_model.proofs.Common.{false, Option, ◌∙◌, ◌==◌, nat_le, eqb-true, get_or_default}
use Rattle.lab_model.proofs.Common.{list_any_at, list_any_none, Any-from_list_any, both_ways}
use Rattle.lab_model.proofs.Common.{list_any, IsPartitionPoint, Bio, is_log}
use Rattle.lab_model.specs.declared.parent.Parent.{Parent}
use Rattle.std.proofs.Common.{is_ok}
use Rattle.std.proofs.lemmas.List.Edits.{get_or-remove_above, get_or-remove_below, length-remove}
use Rattle.std.proofs.lemmas.List.Sums.{get_or-le-sum_by}
use Rattle.std.proofs.lemmas.List.Sorted.{searched}
use Rattle.std.specs.List.{remove}
use Rattle.std.specs.List.Sorted.{IsBinarySearchResult}
use Rattle.std.specs.Result.{is_err}
use Rattle.lab_bios.specs.Tally.{one_at, times, HasLogs, is_log_within, is_within}
use Rattle.lab_bios.specs.Living.{living_of}
use Rattle.lab_bios.proofs.Sums.{some-counted}

-- a number that is at no place stands there never
pub times-none : (n : ℕ) (xs : List ℕ) → ((k : ℕ) → k < length xs → get_or xs k 0 ≢ n)
    → times n xs ≡ 0
times-none n [] none = refl
times-none n (x ∷ xs) none =
    let rest = times-none n xs (λ k inside. none (suc k) (omega arith)) in
    grind (arith, nat_tests, none 0 (omega arith), sum_by-cons (one_at n) x xs)

-- one that is at a place stands there
pub times-some : (n : ℕ) (xs : List ℕ) (k : ℕ) → k < length xs → get_or xs k 0 ≡ n
    → 0 < times n xs
times-some n xs k inside is = search (rules, get_or-le-sum_by)

-- a row with one taken out still doesn't fall
pub falls-remove : (xs : List ℕ) (place : ℕ) → place < length xs → IsNonDecreasing xs
    → IsNonDecreasing (remove xs place)
falls-remove xs place inside rises i j d upto below =
    search (rules, length-remove, get_or-remove_below, get_or-remove_above)

module _ (n : ℕ) (xs : List ℕ) (place : ℕ) (rises : IsNonDecreasing xs) where
  -- a search that finds nothing in a row that doesn't fall was for a number that isn't there
  pub not-found : IsBinarySearchResult (λ x. nat_cmp x n) xs (Err place) → times n xs ≡ 0
  not-found is =
      let cut = searched xs n (Err place) is (λ i j upto below. rises i j 0 upto below) in
      times-none n xs (λ k inside same. grind (arith, cut.1 k, cut.2 k))

  -- one that finds a place finds the number there
  pub found-at : IsBinarySearchResult (λ x. nat_cmp x n) xs (Ok place)
      → (place < length xs) × (get_or xs place 0 ≡ n)
  found-at is = searched xs n (Ok place) is (λ i j upto below. rises i j 0 upto below)

-- it finds a number where it stands, and nothing where it doesn't
pub found-stands : (n : ℕ) (xs : List ℕ) (found : Result ℕ ℕ) → IsNonDecreasing xs
    → IsBinarySearchResult (λ x. nat_cmp x n) xs found
    → is_ok found ≡ nat_lt 0 (times n xs)
found-stands n xs (Ok k) rises is =
    let at = found-at n xs k rises is in
    sym (lt-ltb 0 (times n xs) (times-some n xs k at.0 at.1))
found-stands n xs (Err k) rises is = ap (nat_lt 0) (sym (not-found n xs k rises is))

-- it fails where it doesn't find
pub err-or-ok : {X E : Type 0} (found : Result X E) → is_err found ≡ not (is_ok found)
err-or-ok found = search rules

-- one from 1 on is where it is not above the last
pub is-in : (count number : ℕ) → 1 ≤ number → number ≤ count → is_within count number ≡ true
is-in count number from to = grind (arith, nat_tests)

-- where the first numbers from 1 on stand
abbrev pub IsFirstPlace : List ℕ → ℕ → Type 0
IsFirstPlace numbers place =
    IsPartitionPoint (λ number. number < 1) (λ number. 1 ≤ number) numbers place

-- where 0 doesn't stand it is the first of all
pub first-of-all : (numbers : List ℕ) → false ≡ nat_lt 0 (times 0 numbers) → IsFirstPlace numbers 0
first-of-all numbers none = search (rules, times-some)

-- where none stands there, none is one of them
pub within-none : (count : ℕ) (numbers : List ℕ) (place : ℕ) → IsFirstPlace numbers place
    → length numbers ≤ place → list_any (is_within count) numbers ≡ false
within-none count numbers place cut past = search (rules, list_any_none)

-- else the one that stands there decides
pub within-least : (count : ℕ) (numbers : List ℕ) (place least : ℕ) → IsNonDecreasing numbers
    → IsFirstPlace numbers place → place < length numbers → get_or numbers place 0 ≡ least
    → list_any (is_within count) numbers ≡ nat_le least count
within-least count numbers place least rises cut inside is =
    both_ways (list_any (is_within count) numbers) (nat_le least count) (λ some.
    let any = Any-from_list_any (is_within count) numbers some in
    let same = get_or_default numbers place 0 any.1 inside in
    search rules)
    (search (rules, list_any_at))

-- a parent that is the log of one of them is within
pub log-within : (count number : ℕ) (parent : Parent) → is_log number parent ≡ true
    → is_within count number ≡ true → is_log_within count parent ≡ true
log-within count number parent own within = search rules

-- and one that is within is the log of one of them
pub own-within : (count : ℕ) (parent : Parent) → is_log_within count parent ≡ true
    → (number : ℕ) × (is_log number parent ≡ true) × (is_within count number ≡ true)
own-within count parent within = search rules

module _ (count : ℕ) (bios : List (Option Bio)) (logs : List ℕ) (has : HasLogs bios logs) where
  -- a number stands there where a living bio was made for its log
  log-stands : (log : ℕ) → nat_lt 0 (times log logs)
      ≡ list_any (λ (bio : Bio). is_log log bio.parent) (living_of bios)
  log-stands log = ap (nat_lt 0) (has log)
      ∙ some-counted (λ (bio : Bio). is_log log bio.parent) (living_of bios)

  -- where one of the numbers stands there, a living bio was made for its log
  bio-within : list_any (is_within count) logs ≡ true
      → list_any (λ (bio : Bio). is_log_within count bio.parent) (living_of bios) ≡ true
  bio-within some =
      let any = Any-from_list_any (is_within count) logs some in
      let stands = times-some any.1 logs any.0 any.2
      (get_or_default logs any.0 0 any.1 any.2 ∙ any.3) in
      let bio = Any-from_list_any (λ (bio : Bio). is_log any.1 bio.parent) (living_of bios)
      (sym (log-stands any.1) ∙ lt-ltb 0 (times any.1 logs) stands) in
      search (rules, list_any_at, log-within)

  -- and where a living bio was made for the log of one of them, its number stands there
  number-within :
      list_any (λ (bio : Bio). is_log_within count bio.parent) (living_of bios) ≡ true
      → list_any (is_within count) logs ≡ true
  number-within some =
      let bio = Any-from_list_any (λ (bio : Bio). is_log_within count bio.parent)
      (living_of bios) some in
      let own = own-within count bio.1.parent bio.4 in
      let made = list_any_at (λ (bio : Bio). is_log own.0 bio.parent) (living_of bios)
      bio.0 bio.1 bio.2 (rw bio.3 own.1) in
      let any = Any-from_list_any (λ other. own.0 == other) logs
      (sym (some-counted (λ other. own.0 == other) logs) ∙ log-stands own.0 ∙ made) in
      search (rules, list_any_at, eqb-true)

  -- so the two are asked alike
  pub within-logs : list_any (is_within count) logs
      ≡ list_any (λ (bio : Bio). is_log_within count bio.parent) (living_of bios)
  within-logs = search (rules, bio-within, number-within)
