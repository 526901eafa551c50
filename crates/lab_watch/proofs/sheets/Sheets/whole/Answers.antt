-- The latest row has just these sectors.
use Rattle.lab_model.proofs.Common.{◌≡◌, ◌∙◌, ap, sym, arith, find, length, Some, option_copied}
use Rattle.lab_watch.specs.Grids.{writers_in}
use Rattle.lab_watch.specs.Sheets.{is_sheet_of}
use Rattle.lab_watch.proofs.Overlaid.{latest-part}
use Rattle.lab_watch.proofs.sheets.Sheets.whole.Goals as goal

pub returns-then-count-from : goal.returns-then-count-from
returns-then-count-from c =
    let sheets = c.self.inside.sheets.items in
    let number = c.args.number in
    let sheet = c.in_ok-sheet.sheet.now in
    let found : find (is_sheet_of number) sheets ≡ Some sheet =
    ap (find (is_sheet_of number)) (sym c.deref.ensures.value)
    ∙ sym c.sheet_of.ensures ∙ ap option_copied c.in_ok-sheet.was in
    let long : length sheet.row ≡ c.args.count = omega arith in
    record {
      whole = latest-part sheets c.self.inside.below number c.args.count sheet found long
          ∙ ap (λ grid. writers_in grid number 0 c.args.count) c.self.view_is;
    }
