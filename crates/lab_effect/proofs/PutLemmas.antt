-- A disk after one sector was written all over a span: its sectors with such put in place.
use Rattle.lab_model.proofs.Common.{rules, ◌≡◌, ◌+◌, ◌≤◌, ◌<◌, true, ℕ, suc, zero, arith, List, []}
use Rattle.lab_model.proofs.Common.{◌∷◌, Some, length, ap, replicate}
use Rattle.lab_model.proofs.Common.{slice_get, same_lists, Span, Some-holds, Sectors}
use Rattle.lab_model.proofs.Common.{leb-true, nat_le, put}
use Rattle.std.proofs.lemmas.Option.{unwrap_or-slice_get}
use Rattle.lab_disk.specs.Disk.{Filled}

-- lists that are equal at each place are equal
same-everywhere : {X : Type 0} (xs ys : List X) → length xs ≡ length ys
    → ((k : ℕ) → slice_get xs k ≡ slice_get ys k) → xs ≡ ys
same-everywhere xs ys sizes same = same_lists xs ys sizes (λ k d within.
    cc (unwrap_or-slice_get xs k d, unwrap_or-slice_get ys k d, same k))

-- what has one sector all over a span, and is else as it was, is the old with those put in place
put-at : (first len : ℕ) (old new : Sectors) (sector : List ℕ) → length new ≡ length old
    → first + len ≤ length old
    → ((k : ℕ) → (first ≤ k) × (k < first + len) → slice_get new k ≡ Some sector)
    → ((k : ℕ) → ¬ ((first ≤ k) × (k < first + len)) → slice_get new k ≡ slice_get old k)
    → new ≡ put old first (replicate len sector)
put-at zero zero old new sector sizes inside there other =
    same-everywhere new old sizes (λ k. other k (λ held. omega (arith, held.1)))
put-at zero (suc len) [] new sector sizes inside there other = absurd (omega (arith, inside))
put-at zero (suc len) (x ∷ old) [] sector sizes inside there other = absurd (omega (arith, sizes))
put-at zero (suc len) (x ∷ old) (y ∷ new) sector sizes inside there other =
    let after : 0 + length (replicate (suc len) sector) ≡ suc (0 + length (replicate len sector)) =
    omega arith in
    rw (after, Some-holds (there 0 (omega arith, omega arith))) (ap (λ xs. sector ∷ xs)
    (put-at zero len old new sector (omega (arith, sizes)) (omega (arith, inside))
    (λ k held. there (suc k) (omega arith, omega (arith, held.1)))
    (λ k out. other (suc k) (λ held. out (omega arith, omega (arith, held.1))))))
put-at (suc first) len [] new sector sizes inside there other = absurd (omega (arith, inside))
put-at (suc first) len (x ∷ old) [] sector sizes inside there other = absurd (omega (arith, sizes))
put-at (suc first) len (x ∷ old) (y ∷ new) sector sizes inside there other =
    let after : suc first + length (replicate len sector)
    ≡ suc (first + length (replicate len sector)) = omega arith in
    rw (after, Some-holds (other 0 (λ held. omega (arith, held.0)))) (ap (λ xs. x ∷ xs)
    (put-at first len old new sector (omega (arith, sizes)) (omega (arith, inside))
    (λ k held. there (suc k) (omega (arith, held.0), omega (arith, held.1)))
    (λ k out. other (suc k) (λ held. out (omega (arith, held.0), omega (arith, held.1))))))

-- so what a fill has made of a disk
pub put_filled : (sector : List ℕ) {old new : Sectors} {span : Span}
    → nat_le (span.first + span.len) (length old) ≡ true → Filled old new span sector
    → new ≡ put old span.first (replicate span.len sector)
put_filled sector {old} {new} {span} inside is = search (rules, put-at, leb-true)
