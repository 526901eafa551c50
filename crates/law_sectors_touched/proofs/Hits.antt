-- How often a disk sector is the route of one of some sectors.
use Rattle.lab_model.proofs.Common.{rules, ◌++◌, ◌+◌, ◌<◌, ap, arith, cond, filter_map, List, map}
use Rattle.lab_model.proofs.Common.{None, Option, refl, Some, suc, zero, ℕ, ◌≡◌, ◌≤◌, cons_option}
use Rattle.lab_model.proofs.Common.{range_with_len, sum_by-cons}
use Rattle.std.proofs.lemmas.List.Sums.{sum_by-append}
use Rattle.law_headline.specs.Routes.{same_sector}
use Rattle.law_sectors_touched.proofs.Words.{DiskSector, times}

-- whether a route is the disk sector, as a number
abbrev pub hit : DiskSector → Option DiskSector → ℕ
hit x None = 0
hit x (Some y) = cond (same_sector x y) 1 0

-- how often the disk sector is what some function says of so many sectors from one on
abbrev pub hits : DiskSector → (ℕ → Option DiskSector) → ℕ → ℕ → ℕ
hits x route first zero = 0
hits x route first (suc count) = hit x (route first) + hits x route (first + 1) count

-- the two parts of a list are counted apart
pub times-append : (x : DiskSector) (a b : List DiskSector)
    → times x (a ++ b) ≡ times x a + times x b
times-append x a b = sum_by-append (λ y. cond (same_sector x y) 1 0) a b

-- the first of a list is counted apart
times-first : (x : DiskSector) (o : Option DiskSector) (more : List DiskSector)
    → times x (cons_option o more) ≡ hit x o + times x more
times-first x None more = omega arith
times-first x (Some y) more = sum_by-cons (λ y. cond (same_sector x y) 1 0) y more

-- the routes that there are of so many sectors are counted sector by sector
pub times-routes : (x : DiskSector) (route : ℕ → Option DiskSector) (first count : ℕ)
    → times x (filter_map route (range_with_len first count)) ≡ hits x route first count
times-routes x route first zero = search rules
times-routes x route first (suc n) = search (rules, times-first, times-routes x route (first + 1) n)

-- so are disk sectors of which there is one for each
pub times-map : (x : DiskSector) (place : ℕ → DiskSector) (first count : ℕ) → times x
    (map place (range_with_len first count)) ≡ hits x (λ sector. Some (place sector)) first count
times-map x place first zero = search rules
times-map x place first (suc n) = search (rules, sum_by-cons, times-map x place (first + 1) n)

-- two functions that say the same of sectors at the same distance hit as often
pub hits-same : (x : DiskSector) (route other : ℕ → Option DiskSector) (a b count : ℕ)
    → ((p q i : ℕ) → p ≡ a + i → q ≡ b + i → i < count → route p ≡ other q)
    → hits x route a count ≡ hits x other b count
hits-same x route other a b zero same = refl
hits-same x route other a b (suc count) same =
    let first : route a ≡ other b = same a b 0 (omega arith) (omega arith) (omega arith) in
    let rest : hits x route (a + 1) count ≡ hits x other (b + 1) count =
    hits-same x route other (a + 1) (b + 1) count (λ p q i at_p at_q less.
    same p q (suc i) (omega (arith, at_p)) (omega (arith, at_q)) (omega (arith, less))) in
    let start : hit x (route a) ≡ hit x (other b) = ap (hit x) first in
    omega (arith, start, rest)

-- no sector hits where none of them has a route
pub hits-none : (x : DiskSector) (route : ℕ → Option DiskSector) (first count : ℕ) → ((p : ℕ)
    → first ≤ p → p < first + count → route p ≡ None) → hits x route first count ≡ 0
hits-none x route first zero none = refl
hits-none x route first (suc count) none =
    let rest = hits-none x route (first + 1) count
    (λ p from to. none p (omega (arith, from)) (omega (arith, to))) in
    omega (arith, rest, ap (hit x) (none first (omega arith) (omega arith)))
