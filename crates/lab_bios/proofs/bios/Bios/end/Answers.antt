-- The bio of the number is removed, with its count; one less lives, and the bio that it was a
-- piece of has a child less.
use Rattle.lab_model.proofs.Common.{rules, ℕ, List, Option, None, refl, sym, ap, ◌∙◌}
use Rattle.lab_model.proofs.Common.{arith, ◌-◌, Bio, change_numbered}
use Rattle.lab_bios.proofs.Pushed.{alone-counted}
use Rattle.lab_bios.proofs.Living.{each-got, bio-there, counts-counted, each-changed, none-there}
use Rattle.lab_bios.proofs.Living.{bios-ended, counted-parent, living-gone, told-gone}
use Rattle.lab_bios.proofs.Living.{removed-none, tells-changed}
use Rattle.lab_bios.specs.Children.{child_count, parent_number}
use Rattle.lab_bios.specs.declared.bio.Living.{Living}
use Rattle.lab_bios.specs.Living.{bios_of, counts_of}
use Rattle.lab_bios.proofs.Numbers.{changed-none}
use Rattle.lab_bios.proofs.Sums.{child_of, summed-gone}
use Rattle.lab_bios.specs.Tally.{one_for}
use Rattle.lab_bios.proofs.bios.Bios.end.Goals as goal

-- none of the number lives, so that nothing changes
pub invariant_of-self : goal.invariant_of-self
invariant_of-self c =
    let none = sym c.remove.ensures.item ∙ c.in_err-living.was in
    let same = c.remove.ensures.gone
    ∙ removed-none c.self.inside.living.items c.args.number none in
    rw same c.self.invariant

-- and callers see nothing changed
pub returns-in_err-living-clause-gone : goal.returns-in_err-living-clause-gone
returns-in_err-living-clause-gone c =
    let items = c.self.inside.living.items in
    let none = sym c.remove.ensures.item ∙ c.in_err-living.was in
    rw (← c.self.view_is, c.remove.ensures.gone, removed-none items c.args.number none)
    (sym (changed-none (bios_of items) c.args.number (λ _. None) refl
    (none-there items c.args.number none)))

-- the bio was counted among the living ones
pub overflow_sub-self : goal.overflow_sub-self
overflow_sub-self c = search (rules, living-gone, bio-there)

-- and at its parent's number
pub count_less-was_last-requires : goal.count_less-was_last-requires
count_less-was_last-requires c =
    let parent = ap (λ (l : Living). parent_number l.bio.parent) c.living.view_is in
    counted-parent c.self.inside.living.items c.remove.new.self.items c.args.number
    c.parent_number.result c.in_ok-living.living c.self.invariant.children
    (sym c.remove.ensures.item ∙ c.in_ok-living.was) (c.parent_number.ensures ∙ parent)
    c.remove.ensures.gone

-- and at its log
pub count_out-requires : goal.count_out-requires
count_out-requires c =
    let items = c.self.inside.living.items in
    let living = c.in_ok-living.living in
    let got = bio-there items c.args.number living
    (sym c.remove.ensures.item ∙ c.in_ok-living.was) in
    let parent = ap (λ (l : Living). l.bio.parent) c.living.view_is in
    λ log.
    let sum = summed-gone (λ (b : Bio). one_for log b.parent) (bios_of items) c.args.number
    living.bio got in
    rw parent (omega (arith, c.self.invariant.tallied log, sum))

-- what is kept stays so
pub invariant_of-self-2 : goal.invariant_of-self-2
invariant_of-self-2 c =
    let items = c.self.inside.living.items in
    let n = c.args.number in
    let living = c.in_ok-living.living in
    let bio = living.bio in
    let kept = c.self.invariant in
    let bios : List (Option Bio) = bios_of items in
    let left : List (Option Bio) = change_numbered bios n (λ _. None) in
    let got = bio-there items n living (sym c.remove.ensures.item ∙ c.in_ok-living.was) in
    let parent = ap (λ (l : Living). l.bio.parent) c.living.view_is in
    let gone = c.remove.ensures.gone in
    let p = c.parent_number.result in
    let fell = c.count_less-was_last.ensures.items in
    let sum = λ (m : ℕ). summed-gone (child_of m) bios n bio got in
    rw (
      bios-ended items c.remove.new.self.items c.count_less-was_last.new.living.items n p
          gone fell,
      fell,
      counts-counted c.remove.new.self.items p (λ k. k - 1),
      gone,
      each-changed (λ (l : Living). l.children) items n (λ _. None) (λ _. None) (λ _. refl),
      c.parent_number.ensures,
      parent,
    )
    (record {
      children = tells-changed (λ k more. k - more) (λ k. omega arith) left
          (change_numbered (counts_of items) n (λ _. None)) bio.parent (λ m. child_count m bios)
          (λ m. child_count m left) (told-gone bios (counts_of items) n kept.children)
          (λ m. omega (arith, sum m));
      living = omega (arith, living-gone bios n bio c.self.inside.count kept.living got);
      parents = λ m above. omega (arith, sum m, kept.parents m above);
      tallied = λ log.
          let lost = summed-gone (λ (b : Bio). one_for log b.parent) bios n bio got in
          let own = ap (one_for log) parent in
          omega (arith, kept.tallied log, c.count_out.ensures log, lost, own);
    })

-- callers see no bio of the number any more; device, parent and stage are those that it had, and the
-- count that is left tells whether the parent has no child any more
pub returns : goal.returns
returns c =
    let items = c.self.inside.living.items in
    let left = c.count_less-was_last.new.living.items in
    let living = c.in_ok-living.living in
    let got = sym c.remove.ensures.item ∙ c.in_ok-living.was in
    let kept = invariant_of-self-2 c in
    rw (← c.self.view_is) (record {
      device = search (rules, bio-there);
      parent = search (rules, bio-there);
      stage = search (rules, bio-there);
      last = search (rules, alone-counted, each-got);
      gone = bios-ended items c.remove.new.self.items left c.args.number
          c.parent_number.result c.remove.ensures.gone c.count_less-was_last.ensures.items;
    })
