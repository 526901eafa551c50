-- Rows joined in order: where a row starts, and what an edit of one row is to the whole list. A
-- full row split in two: the list stays, and the rows are shorter.
use Rattle.std.proofs.Common.{inl, inr, rules, ◌≡◌, ℕ, ◌+◌, ◌-◌, ◌<◌, ◌≤◌, List, [], ◌++◌, length, get_or}
use Rattle.std.proofs.Common.{take, drop, set, suc, refl, ap, sym, ◌∙◌, arith, ◌∷◌}
use Rattle.std.specs.List.{insert, remove}
use Rattle.std.proofs.lemmas.List.{set-get_or, set_split, take_all, take-take, nil_from_length, length-drop}
use Rattle.std.proofs.lemmas.List.{get_or_read, append_assoc, length-take-le, take_at}
use Rattle.std.proofs.lemmas.List.{take-append-drop, take_more_set, drop-set-lt, length-set}
use Rattle.std.proofs.lemmas.List.Concat.{flat_map-append, length-flat_map, get_or-flat_map}
use Rattle.std.proofs.lemmas.List.Edits.{insert-append_left, insert-append_right}
use Rattle.std.proofs.lemmas.List.Edits.{insert_end, remove-append_left, remove-append_right, length-insert}
use Rattle.std.proofs.lemmas.List.Sums.{sum_by_more, sum_by-take-le}
use Rattle.lab_queue.specs.declared.ranking.Ranked.{Ranked}
use Rattle.lab_queue.specs.declared.rows.Spot.{Spot}
use Rattle.lab_queue.specs.Ranking.{IsRanked}
use Rattle.lab_queue.specs.Rows.{flat, start, split_at_half, IsFilled, IsSpot}
use Rattle.std.specs.Prelude.{All}
use Rattle.std.proofs.lemmas.List.Elements.{All-append, All-cons, All-take, All-drop, All-set}

-- the next row starts a row's length later
pub start-next : (rows : List (List Ranked)) (i : ℕ) → i < length rows
    → start rows (i + 1) ≡ start rows i + length (get_or rows i [])
start-next rows i below = search (rules, length-flat_map, sum_by_more)

-- no row starts behind the end
pub start-within : (rows : List (List Ranked)) (i : ℕ) → start rows i ≤ length (flat rows)
start-within rows i = search (rules, length-flat_map, sum_by-take-le)

-- later rows start later
pub start-rises : (rows : List (List Ranked)) (i j : ℕ) → i ≤ j → start rows i ≤ start rows j
start-rises rows i j upto = rw (← take-take i j rows upto) (start-within (take j rows) i)

module _ (rows : List (List Ranked)) (i : ℕ) where
  -- an entry of a row, in the whole list
  pub entry-stands : (j : ℕ) (d : Ranked) → i < length rows → j < length (get_or rows i [])
      → get_or (flat rows) (start rows i + j) d ≡ get_or (get_or rows i []) j d
  entry-stands j d row place = get_or-flat_map (λ (r : List Ranked). r) rows i j [] d row place

  -- the last entry of a row, in the whole list
  pub last-stands : (d : Ranked) → i < length rows → 0 < length (get_or rows i [])
      → get_or (get_or rows i []) (length (get_or rows i []) - 1) d
      ≡ get_or (flat rows) (start rows (i + 1) - 1) d
  last-stands d row some = search (rules, start-next, entry-stands (length (get_or rows i []) - 1))

  -- a row of a list in order is in order
  pub row-ranked : IsRanked (flat rows) → i < length rows → IsRanked (get_or rows i [])
  row-ranked ranked row a b d before below =
      rw (← entry-stands a d row (omega arith), ← entry-stands b d row below)
      (search (rules, ranked, start-next rows i row, start-within rows (i + 1)))

  -- the whole list with one row changed
  pub flat-set : (r : List Ranked) → i < length rows
      → flat (set rows i r) ≡ flat (take i rows) ++ (r ++ flat (drop (suc i) rows))
  flat-set r below = search (rules, set_split, flat_map-append)

  -- the whole list as what is before a row, the row, and what is behind it
  pub flat-parts : i < length rows
      → flat rows ≡ flat (take i rows) ++ (get_or rows i [] ++ flat (drop (suc i) rows))
  flat-parts below = sym (ap flat (set-get_or rows i [])) ∙ flat-set (get_or rows i []) below

-- an entry taken out of a list between two others
pub remove-middle : (front middle back : List Ranked) (j : ℕ) → j < length middle
    → front ++ (remove middle j ++ back) ≡ remove (front ++ (middle ++ back)) (length front + j)
remove-middle front middle back j place =
    let less : length front + j - length front ≡ j = omega arith in
    let at = length front + j in
    let right = remove-append_right front (middle ++ back) (length front) at refl (omega arith) in
    rw (right, less, remove-append_left middle back j place)

-- an entry put into a row comes into the whole list
pub flat-insert : (rows : List (List Ranked)) (i j : ℕ) (x : Ranked) → i < length rows
    → j ≤ length (get_or rows i [])
    → flat (set rows i (insert (get_or rows i []) j x)) ≡ insert (flat rows) (start rows i + j) x
flat-insert rows i j x row place =
    let front = flat (take i rows) in
    let middle = get_or rows i [] in
    let back = flat (drop (suc i) rows) in
    let at = length front + j in
    let less : at - length front ≡ j = omega arith in
    let right = insert-append_right front (middle ++ back) (length front) at x refl (omega arith) in
    rw (flat-set rows i (insert middle j x) row, flat-parts rows i row)
    (rw (right, less, insert-append_left middle back j x place))

-- of one entry nothing is left
one-removed : (r : List Ranked) → length r ≡ 1 → remove r 0 ≡ []
one-removed r one = nil_from_length (drop 1 r) (omega (arith, length-drop 1 r))

-- a row of one entry that goes takes that entry from the whole list
pub flat-remove_row : (rows : List (List Ranked)) (i j : ℕ) → i < length rows
    → length (get_or rows i []) ≡ 1 → j < 1
    → flat (remove rows i) ≡ remove (flat rows) (start rows i + j)
flat-remove_row rows i j row one first =
    let front : j ≡ 0 = omega arith in
    let back = flat (drop (suc i) rows) in
    rw (front, flat-parts rows i row)
    (rw (← remove-middle (flat (take i rows)) (get_or rows i []) back 0 (omega arith))
    (rw (one-removed (get_or rows i []) one)
    (flat_map-append (λ (s : List Ranked). s) (take i rows) (drop (suc i) rows))))

-- a row that was read is as long as the one that stands there
pub read-length : (rows : List (List Ranked)) (i : ℕ) (its : List Ranked) → i < length rows
    → its ≡ get_or rows i its → length its ≡ length (get_or rows i [])
read-length rows i its row read = ap length (get_or_read rows i its row read [])

-- a row of one entry that was taken out is empty without it
pub emptied : (rows : List (List Ranked)) (i : ℕ) (its new : List Ranked) → i < length rows
    → its ≡ get_or rows i its → length (get_or rows i []) ≡ 1 → new ≡ remove its 0 → new ≡ []
emptied rows i its new row read one is = search (rules, one-removed, read-length)

-- what all of a list are, and one more is
pub All-insert : {X : Type 0} (P : X → Type 0) (xs : List X) (i : ℕ) (y : X) → All P xs → P y
    → All P (insert xs i y)
All-insert P xs i y all one = search (rules, All-append, All-take, All-cons, All-drop)

-- the halves of a full row are as long as each other
pub halves : (row : List Ranked) → length row ≡ 128
    → (length (take 64 row) ≡ 64) × (length (drop 64 row) ≡ 64)
halves row full = (length-take-le 64 row (omega arith), omega (arith, length-drop 64 row))

module _ (rows : List (List Ranked)) (i : ℕ) (below : i < length rows) where
  -- the split rows: those in front, the two halves, and those behind
  pub split-is : split_at_half rows i
      ≡ take i rows ++ (take 64 (get_or rows i []) ∷ drop 64 (get_or rows i [])
      ∷ drop (suc i) rows)
  split-is = search (rules, take_more_set, drop-set-lt, append_assoc)

  -- the list stays
  pub flat-split : flat (split_at_half rows i) ≡ flat rows
  flat-split =
      rw (split-is, flat_map-append (λ (s : List Ranked). s) (take i rows))
      (rw (← append_assoc (take 64 _), take-append-drop) (sym (flat-parts _ _ below)))

  -- the lower half starts where the row did, since the rows in front stay
  pub start-split : start (split_at_half rows i) i ≡ start rows i
  start-split = rw (split-is, take_at (take i rows) _ i (length-take-le i rows (omega arith)))

  -- there is one row more
  pub length-split : length (split_at_half rows i) ≡ length rows + 1
  length-split = search (rules, length-set, length-insert)

  module _ (full : length (get_or rows i []) ≡ 128) where
    -- all rows have entries still, and none has too many
    pub filled-split : All IsFilled rows → All IsFilled (split_at_half rows i)
    filled-split filled =
        let row : List Ranked = get_or rows i [] in
        let half = halves row full in
        All-insert IsFilled (set rows i (take 64 row)) (i + 1) (drop 64 row)
        (All-set IsFilled rows i (take 64 row) (omega (arith, half.0), omega (arith, half.0))
        filled) (omega (arith, half.1), omega (arith, half.1))

-- where the spot behind all rows is meant, no entry of its row stands before it
behind-all : (rows : List (List Ranked)) (spot : Spot) → IsSpot rows spot → spot.row ≡ length rows
    → spot.place ≡ 0
behind-all rows spot is end = elim is [
  | inl within ↦ absurd (omega (arith, within.0))
  | inr behind ↦ behind.1
]

-- a row of one entry behind all others puts it at the end of the whole list
pub flat-push : (rows : List (List Ranked)) (spot : Spot) (x : Ranked) → IsSpot rows spot
    → spot.row ≡ length rows
    → flat (rows ++ (x ∷ []) ∷ []) ≡ insert (flat rows) (start rows spot.row + spot.place) x
flat-push rows spot x is end = search (rules, flat_map-append, insert_end, take_all, behind-all)
