-- The count of the bio of the number is one less, and tells whether it has no child any more.
use Rattle.lab_model.proofs.Common.{rules, ◌-◌, sym, ◌∙◌}
use Rattle.lab_bios.specs.Living.{with_count}
use Rattle.lab_bios.proofs.Changed.{changed-some, copied-none, put-there, unchanged}
use Rattle.lab_bios.proofs.children.count_less.Goals as goal

-- the bio that is lent is the one there
pub returns-clause-items : goal.returns-clause-items
returns-clause-items c =
    changed-some c.args.living.now.items c.args.number (with_count (λ count. count - 1))
    c.get_mut-parent.result.now c.get_mut-parent.ensures.item

-- where none is there, none is changed
pub returns-then-is_none-clause-items : goal.returns-then-is_none-clause-items
returns-then-is_none-clause-items c =
    sym (unchanged c.args.living.now.items c.args.number (with_count (λ count. count - 1))
    (sym c.get.ensures ∙ copied-none c.get.result c.if-is_none.ensures))

-- the count that is written is the one there
pub returns-clause-last : goal.returns-clause-last
returns-clause-last c = search (rules, put-there)
