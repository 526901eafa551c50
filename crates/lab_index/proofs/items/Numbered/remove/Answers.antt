-- The last item takes the place of the one that goes.
use Rattle.std.proofs.lemmas.Bool.Decides.{nat_tests}
use Rattle.std.proofs.Common.{rules, ◌≡◌, ap, sym, ◌∙◌, arith}
use Rattle.lab_index.specs.Rows.{entry}
use Rattle.lab_index.proofs.Entries.{entry-read, has-place}
use Rattle.lab_index.proofs.Removed.{counted-vacated, IsRemoval, inverse-removed, last-place}
use Rattle.lab_index.proofs.Removed.{removed-place, shown-removed, vacated-length}
use Rattle.lab_index.proofs.Seen.{IsRead, shown-none, shown-read}
use Rattle.lab_index.proofs.Shown.{items-of, shown-stays, swaps}
use Rattle.lab_index.proofs.items.Numbered.remove.Goals.{After-index-last}
use Rattle.lab_index.proofs.items.Numbered.remove.Given as given
use Rattle.lab_index.proofs.items.Numbered.remove.Goals as goal

-- a number with no place has no item to be gone
pub returns-then-place-eq0-clause-gone : goal.returns-then-place-eq0-clause-gone
returns-then-place-eq0-clause-gone g c =
    let row = c.self.inside in
    let none : entry row.places.items c.args.number ≡ 0 =
    sym (c.place_of-place.ensures ∙ ap (λ xs. entry xs c.args.number) c.deref.ensures.value)
    ∙ c.if-place-eq0.true in
    rw (← items-of c.self.view_is) (shown-stays row.places.items row.items.items c.args.number none)

-- and none is handed over
pub returns-then-place-eq0-clause-item : goal.returns-then-place-eq0-clause-item
returns-then-place-eq0-clause-item g c =
    let row = c.self.inside in
    let none : entry row.places.items c.args.number ≡ 0 =
    sym (c.place_of-place.ensures ∙ ap (λ xs. entry xs c.args.number) c.deref.ensures.value)
    ∙ c.if-place-eq0.true in
    rw (← items-of c.self.view_is)
    (sym (shown-none row.places.items row.items.items c.args.number none))

-- the number that was read is removed, and the last one is the one at the last place
found : (g : given.Over) (c : After-index-last g)
    → IsRemoval c.self.inside.places.items c.self.inside.numbers.items c.args.number
    c.index-last.result.now c.place_of-place.result
found g c = search (rules, has-place, entry-read)

-- the last place has a number
pub overflow_sub-last : goal.overflow_sub-last
overflow_sub-last g c =
    let last = last-place (found g (goal.at.overflow_sub-last g c).After-index-last) in
    omega arith

-- which was made
pub index_mut-requires : goal.index_mut-requires
index_mut-requires g c =
    let last = last-place (found g (goal.at.index_mut-requires g c).After-index-last) in
    omega (arith, c.self.inside.places.ok.0)

-- and so was the one that goes
pub index_mut-requires-2 : goal.index_mut-requires-2
index_mut-requires-2 g c = grind (arith, nat_tests, removed-place, found, After-index-last)

-- its group has a count
pub index_mut-requires-3 : goal.index_mut-requires-3
index_mut-requires-3 g c =
    let has = removed-place (found g (goal.at.index_mut-requires-3 g c).After-index-last) in
    omega (arith, c.self.inside.left.ok.0)

-- which isn't 0
pub overflow_sub-index_mut : goal.overflow_sub-index_mut
overflow_sub-index_mut g c =
    let counted = counted-vacated c.self.inside.left.items c.index_mut-3.result.now
    c.self.invariant.counted (found g (goal.at.overflow_sub-index_mut g c).After-index-last)
    c.index_mut-3.ensures.value in
    omega (arith, counted.0)

-- its place is one of the row
pub swap_remove-requires : goal.swap_remove-requires
swap_remove-requires g c =
    let has = removed-place (found g (goal.at.swap_remove-requires g c).After-index-last) in
    omega (arith, c.self.inside.numbers.ok.0)

-- and one of the items
pub swap_remove-requires-2 : goal.swap_remove-requires-2
swap_remove-requires-2 g c =
    let has = removed-place (found g (goal.at.swap_remove-requires-2 g c).After-index-last) in
    omega (arith, c.self.inside.items.ok.0)

-- the rows lead back to each other, and the counts are right
pub invariant_of-self : goal.invariant_of-self
invariant_of-self g c =
    let row = c.self.inside in
    let removal = found g (goal.at.invariant_of-self g c).After-index-last in
    let has = removed-place removal in
    let counted = counted-vacated row.left.items c.index_mut-3.result.now
    c.self.invariant.counted removal c.index_mut-3.ensures.value in
    let many = c.self.invariant.as_many in
    let numbers = swaps row.numbers.items c.place_of-place.result c.swap_remove.result has.there
    c.swap_remove.ensures.items in
    let items = swaps row.items.items c.place_of-place.result c.swap_remove-2.result
    (rw many at has.there) c.swap_remove-2.ensures.items in
    let made = vacated-length removal in
    record {
      as_many = omega (arith, many, numbers.less, items.less);
      few = omega (arith, c.self.invariant.few, items.less, made);
      inverse = inverse-removed removal c.swap_remove.new.self.items numbers;
      counted = counted.1;
      fits = omega (arith, c.self.invariant.fits, made);
    }

-- the item that callers saw is handed over
pub returns-clause-item : goal.returns-clause-item
returns-clause-item g c =
    let row = c.self.inside in
    let removal = found g (goal.at.returns-clause-item g c).After-index-last in
    let many = c.self.invariant.as_many in
    let there = rw many at (removed-place removal).there in
    let read : IsRead row.places.items row.items.items c.args.number c.place_of-place.result =
    record { is = removal.at; some = there.0; within = there.1 } in
    rw (← items-of c.self.view_is) (sym (shown-read read c.swap_remove-2.ensures.value))

-- callers see the item gone
pub returns-clause-gone : goal.returns-clause-gone
returns-clause-gone g c =
    let row = c.self.inside in
    let removal = found g (goal.at.returns-clause-gone g c).After-index-last in
    let many = c.self.invariant.as_many in
    let there = rw many at (removed-place removal).there in
    rw (← items-of c.self.view_is) (shown-removed removal (swaps row.items.items
    c.place_of-place.result c.swap_remove-2.result there c.swap_remove-2.ensures.items) many)
