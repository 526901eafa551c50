-- The row is added to the last one, or comes behind it.
use Rattle.lab_model.proofs.Common.{◌∙◌, ◌++◌, ◌∷◌, [], ap, append_assoc, sym}
use Rattle.lab_image.proofs.Adding.{added-off, added-on}
use Rattle.lab_image.proofs.row.add_behind.Goals as goal

pub returns-then-goes_on : goal.returns-then-goes_on
returns-then-goes_on c =
    let rows = c.args.rows.now.items in
    c.in_ok-push.ensures.items ∙ ap (λ both. rows ++ both ∷ []) c.in_ok-joined_rows.ensures
    ∙ sym (added-on rows c.args.last c.args.row (sym c.goes_on.ensures ∙ c.if-goes_on.true))

pub returns : goal.returns
returns c =
    let rows = c.args.rows.now.items in
    c.in_ok-push-3.ensures.items
    ∙ ap (λ items. items ++ c.args.row ∷ []) c.in_ok-push-2.ensures.items
    ∙ append_assoc rows (c.args.last ∷ []) (c.args.row ∷ [])
    ∙ sym (added-off rows c.args.last c.args.row (sym c.goes_on.ensures ∙ c.if-goes_on.false))
