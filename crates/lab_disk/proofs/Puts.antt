-- Sectors with others in place of those from one on.
use Rattle.std.proofs.Common.{rules, ◌≡◌, ℕ, ◌+◌, ◌≤◌, [], ◌++◌, length, take, drop, arith}
use Rattle.std.proofs.Common.{add-zero, append_assoc, length-append, length-drop}
use Rattle.std.proofs.Math.Seq.{take-append-add, drop-append-add}
use Rattle.std.proofs.lemmas.List.{take-append-drop, take-append-le, drop-append-le, drop-drop}
use Rattle.std.proofs.lemmas.List.{append-nil, drop_all, drop_at, take_all, take_at, length-take-le}
use Rattle.lab_disk.specs.Disk.{Sectors, put}

-- none in place of none
pub put-none : (xs : Sectors) (first : ℕ) → put xs first [] ≡ xs
put-none xs first = rw add-zero (take-append-drop first xs)

module _ (xs : Sectors) (first : ℕ) (ys : Sectors) (inside : first + length ys ≤ length xs) where
  -- there are as many as there were
  pub length-put : length (put xs first ys) ≡ length xs
  length-put = search (rules, length-append, length-drop, length-take-le)

  -- so many stand up to the last that was put
  length-front : length (take first xs ++ ys) ≡ first + length ys
  length-front = rw (length-append, length-take-le first xs (omega arith))

  -- those up to the last that was put
  take-put_end : take (first + length ys) (put xs first ys) ≡ take first xs ++ ys
  take-put_end = rw (← append_assoc) (take_at (take first xs ++ ys) _ _ length-front)

  -- those behind the last that was put
  drop-put_end : drop (first + length ys) (put xs first ys) ≡ drop (first + length ys) xs
  drop-put_end = rw (← append_assoc) (drop_at (take first xs ++ ys) _ _ length-front)

  -- more of them, behind the last that was put
  pub put-more : (zs : Sectors)
      → put (put xs first ys) (first + length ys) zs ≡ put xs first (ys ++ zs)
  put-more zs =
      let end = first + length ys in
      let sum : first + length (ys ++ zs) ≡ end + length zs = omega (arith, length-append ys zs) in
      rw (take-put_end, sum, ← drop-drop (length zs) end (put xs first ys), drop-put_end)
      (simp (drop-drop, append_assoc))

-- in the first of two lists
pub put-append_left : (s rest : Sectors) (first : ℕ) (ys : Sectors)
    → first + length ys ≤ length s → put (s ++ rest) first ys ≡ put s first ys ++ rest
put-append_left s rest first ys inside =
    search (rules, take-append-le, drop-append-le, append_assoc)

-- in the second of two lists
pub put-append_right : (s rest : Sectors) (first place : ℕ) (ys : Sectors)
    → place ≡ length s + first → put (s ++ rest) place ys ≡ s ++ put rest first ys
put-append_right s rest first place ys at =
    search (rules, take-append-add, drop-append-add, append_assoc)

-- among those that are taken
pub take-put : (xs : Sectors) (size first : ℕ) (ys : Sectors) → first + length ys ≤ size
    → size ≤ length xs → take size (put xs first ys) ≡ put (take size xs) first ys
take-put xs size first ys inside enough =
    let front : length (take size xs) ≡ size = length-take-le size xs enough in
    let fits : first + length ys ≤ length (take size xs) = omega arith in
    let split = rw take-append-drop at (put-append_left (take size xs) (drop size xs) first ys fits)
    in
    rw split (take_at _ (drop size xs) size (rw (length-put (take size xs) first ys fits) front))

-- what a vector has once a part of it, lent as a slice, was written
pub written-part : (xs lent ys zs : Sectors) (from n room : ℕ) → lent ≡ xs → ys ≡ zs
    → n ≡ length zs → room ≡ length xs → from + length zs ≤ length xs
    → take room ((take from lent ++ (ys ++ drop n (drop from lent)))
    ++ drop (length (take from lent ++ (ys ++ drop n (drop from lent)))) xs) ≡ put xs from zs
written-part xs lent ys zs from n room same written count all inside =
    search (rules, length-put, drop-drop, drop_all, append-nil, take_all)
