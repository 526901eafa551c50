-- In new rows nothing is counted, and they are long enough.
use Rattle.lab_state.proofs.HeldPlaces.{empty-rows}
use Rattle.lab_state.proofs.held_rows.HeldRows.keep.Goals as goal

-- nothing is counted in them
pub count-requires : goal.count-requires
count-requires c =
    empty-rows _ c.max-count.result c.max.result c.in_ok-self-inside.ensures
