-- The item at the place of the number is lent.
use Rattle.std.proofs.Common.{rules, refl}
use Rattle.lab_index.proofs.Seen.{IsRead, place-read, shown-lent, shown-read}
use Rattle.lab_index.proofs.Shown.{items-of}
use Rattle.lab_index.proofs.items.Numbered.get_mut.Given as given
use Rattle.lab_index.proofs.items.Numbered.get_mut.Goals.{After-index-place}
use Rattle.lab_index.proofs.items.Numbered.get_mut.Goals as goal

-- the number, of which callers see an item, has the place that was read
found : (g : given.Over) (c : After-index-place g)
    → IsRead c.self.inside.places.items c.self.inside.items.items c.args.number
    c.index-place.result.now
found g c = place-read c.args.number c.self.invariant
    (rw (items-of c.self.view_is) c.requires) c.index-place.ensures

-- a place isn't 0
pub overflow_sub-place : goal.overflow_sub-place
overflow_sub-place g c = search (rules, found, After-index-place)

-- an item stands there
pub index_mut-requires : goal.index_mut-requires
index_mut-requires g c = search (rules, found, After-index-place)

-- callers see it, and see it changed
pub returns : goal.returns
returns g c =
    let row = c.self.inside in
    let place = found g (goal.at.returns g c).After-index-place in (
      (
        refl {a = c.index_mut.result.ghost_name},
        λ w. (search (rules, c.self.view_is, shown-lent place w c.self.invariant)),
      ),
      record {
        lends = tt;
        item = rw (← items-of c.self.view_is) (shown-read place c.index_mut.ensures.value);
      },
    )
