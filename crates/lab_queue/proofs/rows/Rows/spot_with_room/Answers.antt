use Rattle.std.proofs.lemmas.List.{get_or_at, append_assoc, length_push, length-take-le}
use Rattle.std.proofs.Common.{rules, ap, arith, ◌≡◌, ◌+◌, ◌<◌, ◌-◌, ◌∙◌, List, length, get_or, []}
use Rattle.std.proofs.lemmas.List.Elements.{All-take}
use Rattle.std.specs.Prelude.{vec_capacity}
use Rattle.std.specs.VecDeque.{deque_capacity}
use Rattle.lab_queue.proofs.Flats.{split-is, halves, filled-split, flat-split}
use Rattle.lab_queue.proofs.Flats.{length-split, start-split, read-length, start-next}
use Rattle.lab_queue.specs.declared.ranking.Ranked.{Ranked}
use Rattle.lab_queue.specs.Rows.{ManyRows, IsStocked}
use Rattle.lab_queue.proofs.rows.Rows.spot_with_room.Goals.{After-split_row}
use Rattle.lab_queue.proofs.rows.Rows.spot_with_room.Goals as goal

-- the row that is split is one of those in use
row : (c : After-split_row) → c.args.spot.row < length c.self.inside.rows.items
row c = search rules

-- and full
full : (c : After-split_row) → length (get_or c.self.inside.rows.items c.args.spot.row []) ≡ 128
full c = search (rules, read-length, row)

-- a split keeps what the rows promise
stocked : (c : After-split_row)
    → IsStocked c.split_row.new.rows.items c.split_row.new.spares.items
    (deque_capacity c.split_row.new.rows) (vec_capacity c.split_row.new.spares)
stocked c =
    let rows : List (List Ranked) = c.self.inside.rows.items in
    let spares : List (List Ranked) = c.self.inside.spares.items in
    let at = c.args.spot.row in
    let was = c.self.invariant in
    let split = c.split_row.ensures in
    let count = ap length split.rows ∙ length-split rows at (row c) in
    let some : 0 < length spares =
    omega (arith, c.requires.room, ap (λ (r : ManyRows). r.spare) c.self.view_is) in
    let taken = ap length split.spares in
    let fewer : length c.split_row.new.spares.items + 1 ≡ length spares =
    omega (arith, length-take-le (length spares - 1) spares (omega arith)) in
    record {
      filled = rw split.rows (filled-split rows at (row c) (full c) was.filled);
      empty = rw split.spares (All-take (λ r. r ≡ []) (length spares - 1) spares was.empty);
      rows_fit = omega (arith, was.rows_fit, split.reach);
      spares_fit = omega (arith, was.spares_fit, split.reach_spares);
    }

-- so it does for a spot in the lower half
pub invariant_of-self : goal.invariant_of-self
invariant_of-self c = stocked (goal.at.invariant_of-self c).After-split_row

-- which stays
pub returns-then-spot-le-HALF : goal.returns-then-spot-le-HALF
returns-then-spot-le-HALF c =
    search (
      rules,
      After-split_row,
      length-split,
      row,
      split-is,
      get_or_at,
      length-take-le,
      halves,
      full,
      flat-split,
      start-split,
    )

-- and for one in the upper half
pub invariant_of-self-2 : goal.invariant_of-self-2
invariant_of-self-2 c = stocked (goal.at.invariant_of-self-2 c).After-split_row

-- which moves there
pub returns : goal.returns
returns c =
    search (
      rules,
      After-split_row,
      length-split,
      row,
      full,
      split-is,
      append_assoc,
      get_or_at,
      length_push,
      length-take-le,
      halves,
      start-split,
      start-next,
      flat-split,
    )
