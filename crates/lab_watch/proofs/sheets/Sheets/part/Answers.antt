-- Where the number has no row, it is the part of the grid below, else that of its rows over it.
use Rattle.lab_model.proofs.Common.{◌≡◌, ◌∙◌, ap, ap₂, sym, find, None, IfOk-weaker}
use Rattle.lab_watch.specs.Grids.{with_writers_from, writers_in}
use Rattle.lab_watch.specs.Sheets.{is_sheet_of, laid_over, of_number}
use Rattle.lab_watch.proofs.Overlaid.{none-copied, none-part, rows-part}
use Rattle.lab_watch.proofs.sheets.Sheets.part.Goals as goal

pub returns-then-is_none : goal.returns-then-is_none
returns-then-is_none c =
    let sheets = c.self.inside.sheets.items in
    let number = c.args.number in
    let found : find (is_sheet_of number) sheets ≡ None =
    ap (find (is_sheet_of number)) (sym c.deref.ensures.value) ∙ sym c.sheet_of.ensures
    ∙ none-copied c.sheet_of.result c.if-is_none.ensures in
    record {
      part = c.in_ok-below.ensures.part
          ∙ none-part sheets c.self.inside.below number c.args.count found
          ∙ ap (λ grid. writers_in grid number 0 c.args.count) c.self.view_is;
    }

pub returns : goal.returns
returns c =
    let sheets = c.self.inside.sheets.items in
    let below = c.self.inside.below in
    let number = c.args.number in
    let count = c.args.count in
    let own = c.in_ok-put.ensures.put
    ∙ ap₂ (λ grid row. with_writers_from grid number 0 row) c.new-grid.ensures.nobody
    c.in_ok-below.ensures.part in
    let laid = c.in_ok-lay_down.ensures
    ∙ ap₂ (λ all grid. laid_over (of_number number all) grid) c.deref-2.ensures.value own in
    record {
      part = IfOk-weaker c.part-2.result _ _ (λ row is. is
          ∙ ap (λ grid. writers_in grid number 0 count) laid
          ∙ rows-part sheets below number count
          ∙ ap (λ grid. writers_in grid number 0 count) c.self.view_is) c.part-2.ensures.part;
    }
