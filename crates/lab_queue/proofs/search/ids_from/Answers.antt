use Rattle.std.proofs.Common.{rules, ap, ◌∙◌, ◌+◌, ◌++◌, ◌≡◌, [], drop, get_or}
use Rattle.std.proofs.lemmas.List.{get_or_read, take_rest}
use Rattle.lab_queue.specs.Ranking.{ids_in_front}
use Rattle.lab_queue.specs.Rows.{flat}
use Rattle.lab_queue.proofs.Walks.{IsBegun, walk-start}
use Rattle.lab_queue.proofs.search.ids_from.Goals.{In-Some}
use Rattle.lab_queue.proofs.search.ids_from.Goals as goal

-- the spot is in a row, so the walk begins there
begun : (c : In-Some) → IsBegun c.args.rows.now.items c.args.spot.row c.args.spot.place c.args.rank
begun c =
    let row = c.in-Some.ensures.item.3.0 in
    walk-start c.args.rows.now.items c.args.spot.row c.args.spot.place c.args.rank row
    (search (rules, c.requires.spot, row)) c.requires.ranked c.requires.above

-- the rows behind stand in order, and none there has a lower rank
pub add_ids-requires-clause-ahead : goal.add_ids-requires-clause-ahead
add_ids-requires-clause-ahead c =
    (begun (goal.at.add_ids-requires-clause-ahead c).In-Some).ahead

-- the numbers of the first row and those of the rows behind are all
pub returns : goal.returns
returns c =
    let rows = c.args.rows.now.items in
    let at = c.args.spot.row in
    let item = c.in-Some.ensures.item in
    let its = get_or_read rows at c.in-Some.first.now item.3.0 item.1 [] in
    let front : c.in_ok-ids.ids.items
    ≡ ids_in_front (drop c.args.spot.place (get_or rows at [])) c.args.rank =
    search (rules, take_rest, its) in
    let parts : IsBegun rows at c.args.spot.place c.args.rank = search begun in
    c.in_ok-add_ids.ensures
    ∙ ap (λ ids. ids ++ ids_in_front (flat (drop (at + 1) rows)) c.args.rank) front
    ∙ parts.parts
