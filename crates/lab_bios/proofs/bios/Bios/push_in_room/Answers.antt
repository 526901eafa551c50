-- The next number is one above the last, and the bio that the new one is a piece of has a child
-- more.
use Rattle.lab_model.proofs.Common.{◌≡◌, ◌+◌, ◌++◌, ◌∷◌, [], ℕ, List, Option, Some, ap, length, max}
use Rattle.lab_model.proofs.Common.{sym, ◌∙◌, arith, rules, option_map, Bio, length-map}
use Rattle.lab_bios.specs.Children.{child_count, is_alone, is_count, parent_number}
use Rattle.lab_bios.specs.declared.bio.Living.{Living}
use Rattle.lab_bios.specs.Living.{bios_of, counts_of, with_count}
use Rattle.lab_bios.proofs.Pushed.{alone-pushed, bios-pushed, count-fits, counts-told}
use Rattle.lab_bios.proofs.Living.{counts-counted, counts-push, tells-changed}
use Rattle.lab_bios.proofs.Sums.{child_of, length-living, living-few, one-above, summed-push}
use Rattle.lab_bios.specs.Tally.{one_for, times}
use Rattle.lab_bios.proofs.bios.Bios.push_in_room.Goals.{After-count_children-children}
use Rattle.lab_index.specs.Lists as rows
use Rattle.lab_bios.proofs.bios.Bios.push_in_room.Goals as goal

-- no more bios live than were made, of which there can be one more
pub overflow_add-self : goal.overflow_add-self
overflow_add-self c = search (rules, length-map, living-few)

-- the new one has as many children as the next number has
as_many : (c : After-count_children-children) → c.count_children-children.result
    ≡ child_count (length c.self.inside.living.items + 1) (bios_of c.self.inside.living.items)
as_many c = search rules

-- no more living ones are counted than were made
pub count_more-requires : goal.count_more-requires
count_more-requires c =
    let items = c.self.inside.living.items in
    let living : Living =
    record { bio = c.args.bio; children = c.count_children-children.result } in
    rw c.push_in_room.ensures.items (count-fits items living c.self.invariant.children
    (as_many (goal.at.count_more-requires c).After-count_children-children) c.parent_number-2.result
    (omega arith))

-- what is kept stays so
pub invariant_of-self : goal.invariant_of-self
invariant_of-self c =
    let items = c.self.inside.living.items in
    let number = c.parent_number-2.result in
    let living : Living =
    record { bio = c.args.bio; children = c.count_children-children.result } in
    let parent : number ≡ parent_number c.args.bio.parent =
    rw (← c.bio.view_is) c.parent_number-2.ensures in
    let highest : c.max-self-inside.result ≡ max c.self.inside.highest number = search rules in
    let kept = c.self.invariant in
    let bio = c.args.bio in
    let bios : List (Option Bio) = bios_of items in
    let after : List (Option Bio) = bios ++ Some bio ∷ [] in
    let counted = c.count_more.ensures.items
    ∙ ap (λ xs. rows.change_numbered xs number (option_map (with_count (λ count. count + 1))))
    c.push_in_room.ensures.items in
    let tallied : (log : ℕ) → times log c.count_in.new.self.logs
    ≡ times log c.self.inside.logs.logs + one_for log bio.parent =
    rw (← c.bio.view_is) c.count_in.ensures.times in
    let own = as_many (goal.at.invariant_of-self c).After-count_children-children in
    rw (
      highest,
      bios-pushed items c.count_more.new.living.items living number (λ k. k + 1) counted,
      counted,
      counts-counted (items ++ Some living ∷ []) number (λ k. k + 1),
      counts-push items living,
      parent,
    )
    (record {
      children = tells-changed (λ k more. k + more) (λ k. omega arith) after
          (counts_of items ++ Some living.children ∷ []) bio.parent (λ n. child_count n bios)
          (λ n. child_count n after) (counts-told items living kept.children own)
          (λ n. sym (summed-push (child_of n) bios bio));
      living = search (rules, summed-push, length-living);
      parents = λ n above.
          let new = one-above n bio.parent (omega arith) in
          omega (arith, summed-push (child_of n) bios bio, kept.parents n (omega arith));
      tallied = λ log. search (rules, summed-push);
    })

-- callers see the bio behind the others, and the parent's count before tells whether the new one is
-- its only child
pub returns : goal.returns
returns c =
    let items = c.self.inside.living.items in
    let more = c.count_more.new.living.items in
    let number = c.parent_number-2.result in
    let living : Living =
    record { bio = c.args.bio; children = c.count_children-children.result } in
    let parent : number ≡ parent_number c.args.bio.parent =
    rw (← c.bio.view_is) c.parent_number-2.ensures in
    let pushed = bios-pushed items more living number (λ count. count + 1)
    (search rules) in
    rw (← c.self.view_is) (record {
      items = pushed;
      room = search rules;
      first = c.count_more.ensures.first
          ∙ ap (λ xs. is_count 0 (option_map (λ (l : Living). l.children)
          (rows.joined (rows.numbered xs number)))) c.push_in_room.ensures.items
          ∙ alone-pushed items living number c.self.invariant.children
          (as_many (goal.at.returns c).After-count_children-children)
          ∙ ap (λ bios. is_alone number bios (bios_of items)) (sym pushed)
          ∙ ap (λ p. is_alone p (bios_of more) (bios_of items)) parent;
    })
