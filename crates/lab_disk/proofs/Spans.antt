-- Spans that are gone over part by part, and what a disk has once sectors are put in place of one.
use Rattle.std.proofs.lemmas.List.{drop_at, take_at, length-take-le, length-replicate}
use Rattle.std.proofs.lemmas.List.{get_or_append_left, get_or-append_right, get_or-take}
use Rattle.std.proofs.lemmas.List.{get_or-drop, drop-drop, get_or_read, get_or-replicate}
use Rattle.std.proofs.lemmas.List.{nil_from_length, append-nil, replicate-append-replicate}
use Rattle.std.proofs.lemmas.List.{take_more, append_assoc}
use Rattle.std.proofs.Common.{rules, ◌≡◌, ℕ, ◌+◌, ◌-◌, ◌*◌, ◌<◌, ◌≤◌, List, [], ◌∷◌, ◌++◌, length}
use Rattle.std.proofs.Common.{take, drop, replicate, get_or, suc, zero, refl, arith, inl, inr}
use Rattle.std.proofs.Common.{length-append, length-drop}
use Rattle.std.specs.Prelude.{All, slice_get}
use Rattle.std.specs.List.{concat}
use Rattle.std.proofs.Math.Seq.{take-add}
use Rattle.std.proofs.lemmas.List.Folds.{concat-append}
use Rattle.std.proofs.lemmas.List.Elements.{All-append, All-drop, All-take, All-tail}
use Rattle.std.proofs.lemmas.Option.{slice_get-get_or, slice_get_past}
use Rattle.std.proofs.lemmas.Bool.{cases_lt}
use Rattle.lab_sector.specs.declared.span.Span.{Span}
use Rattle.lab_disk.specs.Disk.{Filled, IsInside, IsSector, Sectors, WritesOnly, bytes_in, put}
use Rattle.lab_disk.proofs.Puts.{length-put, put-more, put-none}

-- n sectors from the first on
abbrev pub run : ℕ → ℕ → Span
run first n = record { first = first; len = n }

-- a span that isn't empty ends within the disk
pub inside_end : (span : Span) (size : ℕ) → IsInside span size → 0 < span.len
    → span.first + span.len ≤ size
inside_end span size inside some = search rules

-- the next part of what is put
pub put_next : (old mid new : Sectors) (first at : ℕ) (xs ys zs : Sectors)
    → mid ≡ put old first xs → new ≡ put mid at ys → at ≡ first + length xs
    → first + length xs ≤ length old → xs ++ ys ≡ zs → new ≡ put old first zs
put_next old mid new first at xs ys zs so_far next place inside all = search (rules, put-more)

-- the next of the given sectors are put
pub given_next : (old mid new : Sectors) (first at n m j k : ℕ) (given left : Sectors)
    → mid ≡ put old first (take n given) → new ≡ put mid at (take j (drop n left))
    → drop n left ≡ drop n given → at ≡ first + n → j ≡ m → k ≡ n + m → n ≤ length given
    → first + n ≤ length old → new ≡ put old first (take k given)
given_next old mid new first at n m j k given left so_far next same place part count enough inside =
    let many : length (take n given) ≡ n = length-take-le n given enough in
    put_next old mid new first at (take n given) (take m (drop n given)) (take k given) so_far
    (rw (← same, ← part) next) (omega (arith, many)) (omega (arith, many)) (rw (count, take-add))

-- what is the same from a place on is so from a further one on
pub drop_further : (xs ys : Sectors) (n m k : ℕ) → drop n xs ≡ drop n ys → k ≡ n + m
    → drop k xs ≡ drop k ys
drop_further xs ys n m k same count = rw (count, ← drop-drop m n xs, ← drop-drop m n ys, same)

-- the next part of what is filled
pub filled_next : (old mid new : Sectors) (first at n m k : ℕ) (sector : List ℕ)
    → mid ≡ put old first (replicate n sector) → new ≡ put mid at (replicate m sector)
    → at ≡ first + n → k ≡ n + m → first + n ≤ length old
    → new ≡ put old first (replicate k sector)
filled_next old mid new first at n m k sector so_far next place count inside =
    let many : length (replicate n sector) ≡ n = length-replicate n sector in
    put_next old mid new first at (replicate n sector) (replicate m sector) (replicate k sector)
    so_far next (omega (arith, many)) (omega (arith, many))
    (rw count (replicate-append-replicate n m sector))

-- one more part of a run
pub part_more : (xs : Sectors) (first at n m k : ℕ) (part : Sectors)
    → part ≡ take m (drop at xs) → at ≡ first + n → k ≡ n + m
    → take n (drop first xs) ++ part ≡ take k (drop first xs)
part_more xs first at n m k part is place count = search (rules, drop-drop, take-add)

module _ (xs : Sectors) (first : ℕ) (ys : Sectors) (k : ℕ) where
  -- a place before those that were put, or behind them, holds what it held
  pub get_or-put_other : (d : List ℕ) → first + length ys ≤ length xs
      → ¬ ((first ≤ k) × (k < first + length ys)) → get_or (put xs first ys) k d ≡ get_or xs k d
  get_or-put_other d inside outside =
      search (
        rules,
        length-take-le,
        cases_lt,
        get_or_append_left,
        get_or-take,
        get_or-append_right,
        get_or-drop,
      )

  -- a place among those that were put holds what was put
  pub get_or-put_same : (d : List ℕ) → first + length ys ≤ length xs → first ≤ k
      → k < first + length ys → get_or (put xs first ys) k d ≡ get_or ys (k - first) d
  get_or-put_same d inside from below =
      search (rules, length-take-le, get_or-append_right, get_or_append_left)

  -- every other sector stays
  pub elsewhere-put : first + length ys ≤ length xs → ¬ ((first ≤ k) × (k < first + length ys))
      → slice_get (put xs first ys) k ≡ slice_get xs k
  elsewhere-put inside outside =
      let size : length (put xs first ys) ≡ length xs = length-put xs first ys inside in
      elim (cases_lt k (length xs)) [
        | inl below ↦
            let same = get_or-put_other [] inside outside in
            rw (slice_get-get_or xs k [] below, ← same)
            (slice_get-get_or (put xs first ys) k [] (omega (arith, below)))
        | inr past ↦ rw (slice_get_past xs k past)
            (slice_get_past (put xs first ys) k (omega (arith, past)))
      ]

-- the same sector is put all over a run
pub filled_run : (old : Sectors) (first n : ℕ) (sector : List ℕ)
    → (0 < n → first + n ≤ length old)
    → Filled old (put old first (replicate n sector)) (run first n) sector
filled_run old first zero sector inside = rw put-none
    (record {
      size = refl;
      filled = λ k held. absurd (omega (arith, held.0, held.1));
      elsewhere = λ k outside. refl;
    })
filled_run old first (suc n) sector inside =
    let count : length (replicate (suc n) sector) ≡ suc n = length-replicate (suc n) sector in
    let fits : first + length (replicate (suc n) sector) ≤ length old =
    omega (arith, inside (omega arith)) in
    let size = length-put old first (replicate (suc n) sector) fits in
    record {
      size = size;
      filled = λ k held.
          let below : k - first < suc n = omega (arith, held.0, held.1) in
          rw (slice_get-get_or (put old first (replicate (suc n) sector)) k []
          (omega (arith, held.1)))
          (rw (get_or-put_same old first (replicate (suc n) sector) k [] fits held.0
          (omega (arith, held.1))) (rw (get_or-replicate (suc n) (k - first) sector [] below)));
      elsewhere = λ k outside. elsewhere-put old first (replicate (suc n) sector) k fits
          (λ held. outside (held.0, omega (arith, held.1)));
    }

-- these sectors are put in place of a run
pub written_run : (old : Sectors) (first n : ℕ) (ys : Sectors)
    → length ys ≡ n → (0 < n → first + n ≤ length old)
    → WritesOnly old (put old first ys) (run first n) (concat ys)
written_run old first n ys count inside =
    search (
      rules,
      nil_from_length,
      put-none,
      length-put,
      length-take-le,
      drop_at,
      take_at,
      elsewhere-put,
    )

module _ (old new : Sectors) (span : Span) (inside : IsInside span (length old)) where
  -- what has sectors of these bytes in place of a span
  pub written_set : (ys : Sectors) (bytes : List ℕ) → length ys ≡ span.len → concat ys ≡ bytes
      → new ≡ put old span.first ys → WritesOnly old new span bytes
  written_set ys bytes count same is = rw (is, ← same)
      (written_run old span.first span.len ys count (inside_end span (length old) inside))

  -- what has the same sector all over a span
  pub filled_shown : (inner : Sectors) (sector : List ℕ) → inner ≡ old
      → new ≡ put inner span.first (replicate span.len sector) → Filled old new span sector
  filled_shown inner sector same is = rw (is, same)
      (filled_run old span.first span.len sector (inside_end span (length old) inside))

-- what has sectors put in place of some of its own
pub All-shown : (inner old new : Sectors) (first : ℕ) (ys : Sectors) → inner ≡ old
    → All IsSector old → All IsSector ys → new ≡ put inner first ys → All IsSector new
All-shown inner old new first ys same full given is = rw (is, same) (All-append IsSector _ _
    (All-take IsSector _ _ full) (All-append IsSector _ _ given (All-drop IsSector _ _ full)))

-- sectors have 512 bytes each
pub length-concat : (xs : Sectors) → All IsSector xs → length (concat xs) ≡ 512 * length xs
length-concat [] full = refl
length-concat (x ∷ xs) full =
    omega (arith, length-append x, full 0 [], length-concat xs (All-tail IsSector x xs full))

-- as many are taken as a run has
pub length-part : (disk : Sectors) (first n : ℕ) → (0 < n → first + n ≤ length disk)
    → length (take n (drop first disk)) ≡ n
length-part disk first n inside = search (rules, length-take-le, length-drop)

-- a span of a disk has 512 bytes for each of its sectors
pub length-bytes_in : (disk : Sectors) (span : Span) → IsInside span (length disk)
    → All IsSector disk → length (bytes_in disk span) ≡ 512 * span.len
length-bytes_in disk span inside full =
    search (rules, length-concat, All-take, All-drop, length-part, inside_end)

-- one more sector of a list gives its bytes
pub bytes_more : (xs : Sectors) (i : ℕ) (x before init : List ℕ) → i < length xs
    → x ≡ get_or xs i x → before ≡ init ++ concat (take i xs)
    → before ++ x ≡ init ++ concat (take (i + 1) xs)
bytes_more xs i x before init inside is so_far =
    let here : x ≡ get_or xs i [] = get_or_read xs i x inside is [] in
    rw (so_far, append_assoc, take_more xs i [] inside, concat-append, append-nil, ← here)

-- one more sector of the bytes
pub sectors_more : (xs : Sectors) (sector bytes : List ℕ) (i n : ℕ)
    → concat xs ≡ take (512 * i) bytes → sector ≡ take n (drop (512 * i) bytes) → n ≡ 512
    → concat (xs ++ sector ∷ []) ≡ take (512 * (i + 1)) bytes
sectors_more xs sector bytes i n so_far next count =
    let end : 512 * i + 512 ≡ 512 * (i + 1) = omega arith in
    rw (concat-append, append-nil, so_far, next, count, ← end, take-add)
