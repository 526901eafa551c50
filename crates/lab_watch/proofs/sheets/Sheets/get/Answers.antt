-- The latest row with the sector says it, or the grid below.
use Rattle.lab_model.proofs.Common.{◌≡◌, ◌∙◌, ap, sym, find, Some, None, IfOk-weaker}
use Rattle.lab_watch.specs.Grids.{writer_at}
use Rattle.lab_watch.specs.Sheets.{sheet_has}
use Rattle.lab_watch.proofs.Overlaid.{get-with, get-without}
use Rattle.lab_watch.proofs.sheets.Sheets.get.Goals as goal

pub returns-in-Some : goal.returns-in-Some
returns-in-Some c =
    let sheets = c.self.inside.sheets.items in
    let number = c.args.number in
    let sector = c.args.sector in
    let found : find (sheet_has number sector) sheets ≡ Some c.in-Some.sheet.now =
    ap (find (sheet_has number sector)) (sym c.deref.ensures.value) ∙ sym c.in-Some.ensures in
    record {
      writer = IfOk-weaker c.get.result _ _ (λ writer is. is
          ∙ get-with sheets c.self.inside.below number sector c.in-Some.sheet.now found
          ∙ ap (λ grid. writer_at grid number sector) c.self.view_is) c.get.ensures.writer;
    }

pub returns-in-None : goal.returns-in-None
returns-in-None c =
    let sheets = c.self.inside.sheets.items in
    let number = c.args.number in
    let sector = c.args.sector in
    let found : find (sheet_has number sector) sheets ≡ None =
    ap (find (sheet_has number sector)) (sym c.deref.ensures.value) ∙ sym c.in-None.ensures in
    record {
      writer = c.get-in-None.ensures.writer
          ∙ get-without sheets c.self.inside.below number sector found
          ∙ ap (λ grid. writer_at grid number sector) c.self.view_is;
    }
