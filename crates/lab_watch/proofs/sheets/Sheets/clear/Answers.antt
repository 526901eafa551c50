-- The rows of the number are gone, and what they had elsewhere lies below.
use Rattle.lab_model.proofs.Common.{◌∙◌, ap, ap₂, on_ok_weaker}
use Rattle.lab_watch.specs.Grids.{cleared}
use Rattle.lab_watch.specs.Sheets.{kept_down, laid_over}
use Rattle.lab_watch.proofs.Overlaid.{cleared-below}
use Rattle.lab_watch.proofs.sheets.Sheets.clear.Goals as goal

pub returns : goal.returns
returns c =
    let sheets = c.self.inside.sheets.items in
    let below = c.self.inside.below in
    let number = c.args.number in
    let first = c.args.first in
    let count = c.args.count in
    let kept = c.in_ok-keep_down.ensures
    ∙ ap (λ all. kept_down number first count all below) c.deref.ensures.value in
    record {
      cleared = on_ok_weaker c.clear.result (λ cleared_is.
          ap₂ laid_over c.take_away.ensures (cleared_is ∙ ap (λ grid. cleared grid number first count) kept)
          ∙ cleared-below sheets below number first count
          ∙ ap (λ grid. cleared grid number first count) c.self.view_is) c.clear.ensures.cleared;
    }
