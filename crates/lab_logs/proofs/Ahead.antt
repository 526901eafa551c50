-- The least of the logs' moments that lie ahead, by the first of them in their order.
use Rattle.lab_model.proofs.Common.{rules, ◌≡◌, ◌≤◌, ℕ, ◌+◌, ◌<◌, Bool, suc, zero, false, List, []}
use Rattle.lab_model.proofs.Common.{◌∷◌, All, Option, get_or, length, map, inl, inr, refl, ap, sym}
use Rattle.lab_model.proofs.Common.{◌∙◌, arith, Contains, nat_lt, list_any, IsPermutation, cases_lt}
use Rattle.lab_model.proofs.Common.{get_or-map, get_or_default, length-map, All-map, list_any_at}
use Rattle.lab_model.proofs.Common.{list_any_none, Contains-permutation, IsPermutation-sym}
use Rattle.lab_model.proofs.Common.{LogState, Any-from_list_any, both_ways, nat_tests}
use Rattle.std.proofs.lemmas.List.Sorted.{All-permutation, list_any-IsPermutation}
use Rattle.lab_logs.specs.Agenda.{IsInOrder, dues, dues_from}
use Rattle.lab_logs.specs.declared.agenda.Due.{Due}
use Rattle.lab_logs.specs.Moments.{least_over, least_with, lesser}
use Rattle.lab_logs.proofs.Dues.{moments-dues}

-- a moment that has come isn't later than now
come-not-ahead : (now moment : ℕ) (other : Option ℕ) → moment ≤ now → lesser now moment other ≡ other
come-not-ahead now moment other come = search rules

-- and one that lies ahead is
ahead-lesser : (now moment : ℕ) (other : Option ℕ) → now < moment
    → lesser now moment other ≡ least_with moment other
ahead-lesser now moment other ahead = search rules

-- where all moments have come, none lies ahead
over-none : (now : ℕ) (moments : List ℕ) (other : Option ℕ) → All (λ m. m ≤ now) moments
    → least_over now moments other ≡ other
over-none now [] other come = refl
over-none now (m ∷ moments) other come =
    come-not-ahead now m (least_over now moments other) (come 0 m (omega arith))
    ∙ over-none now moments other (λ k d within. come (suc k) d (omega arith))

-- the lesser of a moment and one that is none less
with-later : (first m : ℕ) (other : Option ℕ) → first ≤ m
    → least_with first (least_with m other) ≡ least_with first other
with-later first m other later = search rules

-- nor does the order matter
with-earlier : (first m : ℕ) (other : Option ℕ) → first ≤ m
    → least_with m (least_with first other) ≡ least_with first other
with-earlier first m other later = search rules

-- the lesser of a moment and those ahead, of which none is less
first-with : (now first : ℕ) (moments : List ℕ) (other : Option ℕ)
    → All (λ m. now < m → first ≤ m) moments
    → least_with first (least_over now moments other) ≡ least_with first other
first-with now first [] other least = refl
first-with now first (m ∷ moments) other least =
    let rest = first-with now first moments other (λ k d within. least (suc k) d (omega arith)) in
    elim (cases_lt now m) [
      | inl ahead ↦ rw (ahead-lesser now m _ ahead)
          (with-later first m _ (least 0 m (omega arith) ahead) ∙ rest)
      | inr come ↦ rw (come-not-ahead now m _ come) rest
    ]

-- the least of some moments that lie ahead is the one of them that none is less than
over-first : (now first : ℕ) (moments : List ℕ) (other : Option ℕ) → now < first
    → Contains moments first → All (λ m. now < m → first ≤ m) moments
    → least_over now moments other ≡ least_with first other
over-first now first [] other ahead held least = absurd (omega (arith, held.1))
over-first now first (m ∷ moments) other ahead (zero, within, is) least =
    rw (is, ahead-lesser now first _ ahead)
    (first-with now first moments other (λ k d within. least (suc k) d (omega arith)))
over-first now first (m ∷ moments) other ahead (suc k, within, is) least =
    let rest = over-first now first moments other ahead (k, omega arith, is)
    (λ k d within. least (suc k) d (omega arith)) in
    elim (cases_lt now m) [
      | inl later ↦ rw (ahead-lesser now m _ later, rest)
          (with-earlier first m other (least 0 m (omega arith) later))
      | inr come ↦ rw (come-not-ahead now m _ come) rest
    ]

-- a list's element under a function
Contains-map : {X Y : Type 0} (f : X → Y) (xs : List X) (x : X) → Contains xs x
    → Contains (map f xs) (f x)
Contains-map f xs x (k, within, is) =
    (k, omega (arith, length-map xs f), get_or-map f xs k x (f x) within ∙ ap f is)

module _ (now : ℕ) (logs : List LogState) (row : List Due) (other : Option ℕ)
    (same : IsPermutation (dues logs) row) where
  -- what holds of each moment in the row holds of each log's
  each-moment : (P : ℕ → Type 0) → All (λ due. P due.moment) row
      → All P (map (λ log. log.moment) logs)
  each-moment P all = rw (← moments-dues 1 logs) (All-map P (λ (due : Due). due.moment) (dues logs)
      (All-permutation (λ due. P due.moment) row (dues logs) (IsPermutation-sym _ _ same) all))

  -- where all logs are due by now, none's moment lies ahead
  pub none-ahead : All (λ due. due.moment ≤ now) row
      → other ≡ least_over now (map (λ log. log.moment) logs) other
  none-ahead come = sym (over-none now _ other (each-moment (λ m. m ≤ now) come))

  -- and the first that is due later has the least that does
  pub first-ahead : (first : Due) → Contains row first × (now < first.moment)
      → All (λ due. now < due.moment → first.moment ≤ due.moment) row
      → lesser now first.moment other ≡ least_over now (map (λ log. log.moment) logs) other
  first-ahead first there least =
      rw (ahead-lesser now first.moment other there.1) (sym (over-first now first.moment _ other
      there.1
      (rw (← moments-dues 1 logs) (Contains-map (λ (due : Due). due.moment) (dues logs) first
      (Contains-permutation row (dues logs) first (IsPermutation-sym (dues logs) row same)
      there.0))) (each-moment (λ m. now < m → first.moment ≤ m) least)))

-- whether a log is due later than now
abbrev is_ahead : ℕ → Due → Bool
is_ahead now due = nat_lt now due.moment

-- none is where there is none
pub ahead-none : (now : ℕ) (row : List Due) → length row ≤ 0
    → list_any (λ (due : Due). nat_lt now due.moment) row ≡ false
ahead-none now row none = list_any_none (is_ahead now) row (λ k d within. absurd (omega arith))

-- else one is where the last one is
pub ahead-last : (now : ℕ) (row : List Due) (place : ℕ) (last : Due) → IsInOrder row
    → length row ≡ suc place → last ≡ get_or row place last
    → nat_lt now last.moment ≡ list_any (λ (due : Due). nat_lt now due.moment) row
ahead-last now row place last order long is =
    let moment = ap (λ (due : Due). due.moment) is in
    both_ways (nat_lt now last.moment) (list_any (is_ahead now) row)
    (λ ahead. list_any_at (is_ahead now) row place last (omega arith) (grind (arith, nat_tests)))
    (λ some.
    let any = Any-from_list_any (is_ahead now) row some in
    let same = get_or_default row place last any.1 (omega arith) in
    grind (arith, nat_tests, any, order any.0 place any.1))

-- the logs are due at their moments
ahead-logs : (first now : ℕ) (logs : List LogState)
    → list_any (is_ahead now) (dues_from first logs)
    ≡ list_any (λ (log : LogState). nat_lt now log.moment) logs
ahead-logs first now [] = search rules
ahead-logs first now (log ∷ logs) = search (rules, ahead-logs (first + 1) now logs)

-- so one's moment lies ahead where one is due later, in whichever order they stand
pub ahead-row : (now : ℕ) (logs : List LogState) (row : List Due) → IsPermutation (dues logs) row
    → list_any (λ (due : Due). nat_lt now due.moment) row
    ≡ list_any (λ (log : LogState). nat_lt now log.moment) logs
ahead-row now logs row same = search (rules, list_any-IsPermutation, ahead-logs)
