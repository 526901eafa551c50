-- The next number leads to the next place, and that to the number.
use Rattle.std.proofs.Common.{rules, ◌≡◌, ◌+◌, length, arith}
use Rattle.std.proofs.lemmas.List.{length_push}
use Rattle.lab_index.proofs.Entries.{inverse-push, shown-push}
use Rattle.lab_index.proofs.Shown.{items-of}
use Rattle.lab_index.proofs.items.Numbered.push_in_room.Goals as goal

-- the rows lead back to each other, and the counts are right
pub invariant_of-self : goal.invariant_of-self
invariant_of-self g c = search (rules, length_push, inverse-push)

-- callers see the item behind the others
pub returns-clause-items : goal.returns-clause-items
returns-clause-items g c =
    let row = c.self.inside in
    let end : c.len-2.result ≡ length row.items.items + 1 =
    omega (arith, c.len-2.ensures, c.push_reserved.ensures.len, row.items.ok.0) in
    rw (
      c.push_reserved-3.ensures.items,
      c.push_reserved.ensures.items,
      ← items-of c.self.view_is,
    ) (shown-push row.places.items row.items.items c.len-2.result c.args.item
    c.self.invariant.inverse c.self.invariant.as_many end)
