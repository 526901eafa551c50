use Rattle.std.proofs.Common.{ap, arith, sym, ◌≡◌, ◌+◌, ◌<◌, ◌∙◌, [], length, get_or}
use Rattle.std.proofs.lemmas.List.{get_or_read}
use Rattle.lab_queue.specs.Rows.{flat}
use Rattle.lab_queue.proofs.Flats.{entry-stands, start-next, start-within}
use Rattle.lab_queue.proofs.Searches.{first-found}
use Rattle.lab_queue.proofs.search.first_from.Goals as goal

-- it stands at the bound's place
pub returns-clause-some : goal.returns-clause-some
returns-clause-some c =
    let rows = c.args.rows.now.rows in
    let i = c.spot-spot.result.row in
    let j = c.spot-spot.result.place in
    let its = c.in_ok-row.row.now in
    let x = c.in_ok-first.first.now in
    let row : i < length rows =
    omega (arith, c.in_ok-row.ensures.item.3.0, ap length c.rows.ensures.rows) in
    let same : its ≡ get_or rows i [] = get_or_read rows i its row
    (c.in_ok-row.ensures.item.1 ∙ ap (λ s. get_or s i its) c.rows.ensures.rows) [] in
    let whole = c.entries.ensures ∙ same in
    let below : j < length (get_or rows i []) =
    omega (arith, c.in_ok-first.ensures.lookup.3.0, ap length whole) in
    first-found (flat rows) c.args.bound _ _ c.requires c.spot-spot.ensures.place
    (omega (arith, start-next rows i row, start-within rows (i + 1), below))
    (c.in_ok-first.ensures.lookup.1 ∙ ap (λ s. get_or s j x) whole
    ∙ sym (entry-stands rows i j x row below))
