-- What is put behind the rows of the number lies below; else the rows lie there too.
use Rattle.lab_model.proofs.Common.{◌≡◌, ◌∙◌, ap, ap₂, sym, on_ok_weaker, true}
use Rattle.lab_watch.specs.Grids.{with_writers_from}
use Rattle.lab_watch.specs.Sheets.{all_within, laid_over, of_number}
use Rattle.lab_watch.proofs.Overlaid.{put-behind, put-below}
use Rattle.lab_watch.proofs.sheets.Sheets.put_from.Goals as goal

pub returns-then-all_within : goal.returns-then-all_within
returns-then-all_within c =
    let sheets = c.self.inside.sheets.items in
    let below = c.self.inside.below in
    let number = c.args.number in
    let first = c.args.first in
    let row = c.args.row in
    let all : all_within number first sheets ≡ true =
    ap (all_within number first) (sym c.deref.ensures.value) ∙ sym c.all_within.ensures
    ∙ c.if-all_within.true in
    record {
      put = on_ok_weaker c.put-then-all_within.result (λ put_is. ap (laid_over sheets) put_is
          ∙ put-behind sheets below number first row all
          ∙ ap (λ grid. with_writers_from grid number first row) c.self.view_is)
          c.put-then-all_within.ensures.put;
    }

pub returns : goal.returns
returns c =
    let sheets = c.self.inside.sheets.items in
    let below = c.self.inside.below in
    let number = c.args.number in
    let first = c.args.first in
    let row = c.args.row in
    let down = c.in_ok-lay_down.ensures
    ∙ ap (λ all. laid_over (of_number number all) below) c.deref-2.ensures.value in
    record {
      put = on_ok_weaker c.put-2.result (λ put_is.
          ap₂ laid_over c.take_away.ensures
          (put_is ∙ ap (λ grid. with_writers_from grid number first row) down)
          ∙ put-below sheets below number first row
          ∙ ap (λ grid. with_writers_from grid number first row) c.self.view_is)
          c.put-2.ensures.put;
    }
