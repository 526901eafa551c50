-- Tables that don't have the sectors are passed by.
use Rattle.lab_model.proofs.Common.{rules, ◌≡◌, ℕ, zero, suc, ◌+◌, ◌<◌, ◌≤◌, Bool, false, List, IfSome}
use Rattle.lab_model.proofs.Common.{arith, ap, ◌-◌, ◌∙◌, [], ◌∷◌, drop, filter, slice_get, refl}
use Rattle.lab_sector.specs.declared.request.Kind.{Kind}
use Rattle.lab_sector.specs.declared.span.Span.{Span}
use Rattle.lab_model.specs.MapEffect.{fits_table}
use Rattle.lab_model.specs.Tables.{Table}
use Rattle.lab_budget.specs.Grouped.{NoneFits, fitting_from}

-- an item that fails is passed by
one-passed : {X : Type 0} (test : X → Bool) (xs : List X) (i : ℕ)
    → IfSome (slice_get xs i) (λ x. test x ≡ false)
    → filter test (drop i xs) ≡ filter test (drop (suc i) xs)
one-passed test [] zero fails = refl
one-passed test [] (suc i) fails = refl
one-passed test (x ∷ xs) zero fails = search rules
one-passed test (x ∷ xs) (suc i) fails = one-passed test xs i fails

-- so are several
many-passed : {X : Type 0} (test : X → Bool) (xs : List X) (i count : ℕ)
    → ((at : ℕ) → i ≤ at → at < i + count → IfSome (slice_get xs at) (λ x. test x ≡ false))
    → filter test (drop i xs) ≡ filter test (drop (i + count) xs)
many-passed test xs i zero fails = search rules
many-passed test xs i (suc count) fails =
    let same : suc i + count ≡ i + suc count = omega arith in
    one-passed test xs i (fails i (omega arith) (omega arith))
    ∙ many-passed test xs (suc i) count
    (λ at from below. fails at (omega (arith, from)) (omega (arith, below)))
    ∙ ap (λ n. filter test (drop n xs)) same

-- the tables behind one that doesn't have the sectors, and behind others that don't
pub passed-by : {S : Type 0} (kind : Kind) (span : Span) (tables : List (Table S))
    (place next : ℕ) → place < next
    → IfSome (slice_get tables place) (λ table. fits_table table kind span ≡ false)
    → NoneFits kind span tables (place + 1) next
    → fitting_from kind span tables place ≡ fitting_from kind span tables next
passed-by {S} kind span tables place next later fails none =
    let count = next - suc place in
    let same : suc place + count ≡ next = omega (arith, later) in
    let test : Table S → Bool = λ table. fits_table table kind span in
    one-passed test tables place fails
    ∙ many-passed test tables (suc place) count
    (λ at from below. none at (omega (arith, from)) (omega (arith, below, same)))
    ∙ ap (λ n. filter test (drop n tables)) same
