use Rattle.std.proofs.Common.{ap, arith, inl, length, []}
use Rattle.std.proofs.lemmas.List.{get_or_read}
use Rattle.lab_queue.proofs.Flats.{row-ranked}
use Rattle.lab_queue.proofs.Searches.{place-within, place-found}
use Rattle.lab_queue.proofs.search.spot.Goals as goal

-- a row of an ordered list is in order
pub place-place-requires : goal.place-place-requires
place-place-requires c =
    let row = c.in-Some.ensures.item.3.0 in
    rw (get_or_read _ _ _ row c.in-Some.ensures.item.1 [], c.rows-rows.ensures.rows)
    (row-ranked c.args.rows.now.rows _ c.requires
    (omega (arith, row, ap length c.rows-rows.ensures.rows)))

-- the place is one of the row, and so it is one of the list
pub returns-in-Some : goal.returns-in-Some
returns-in-Some c =
    let row = c.in-Some.ensures.item.3.0 in
    let place = rw (get_or_read _ _ _ row c.in-Some.ensures.item.1 []) at c.place-place.ensures in
    rw (← c.rows-rows.ensures.rows) (record {
      spot = inl (
        row,
        place-within _ _ (rw c.rows-rows.ensures.rows c.rows-rows.ensures.filled) _ _
            c.row_for-row.ensures row place,
      );
      place = place-found _ _ _ _ c.row_for-row.ensures row place;
    })
