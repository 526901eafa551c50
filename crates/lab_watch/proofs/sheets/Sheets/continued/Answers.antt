-- The latest row of the number comes first, and behind it what lies below.
use Rattle.lab_model.proofs.Common.{◌≡◌, ◌∙◌, ◌++◌, ap, sym, arith, find, length, Some, true}
use Rattle.lab_watch.specs.Grids.{writers_in}
use Rattle.lab_watch.specs.Sheets.{all_within, is_sheet_of}
use Rattle.lab_watch.proofs.Overlaid.{front-part}
use Rattle.lab_watch.proofs.sheets.Sheets.continued.Goals as goal

pub returns-in_ok-followed-in-Ok : goal.returns-in_ok-followed-in-Ok
returns-in_ok-followed-in-Ok c =
    let sheets = c.self.inside.sheets.items in
    let below = c.self.inside.below in
    let number = c.args.number in
    let count = c.args.count in
    let first = c.in-Ok.first in
    let sheet = c.in-Some.sheet.now in
    let found : find (is_sheet_of number) sheets ≡ Some sheet =
    ap (find (is_sheet_of number)) (sym c.deref.ensures.value) ∙ sym c.in-Some.ensures in
    let long : length sheet.row ≡ first = omega arith in
    let all : all_within number first sheets ≡ true =
    ap (all_within number first) (sym c.deref-then-first-count.ensures.value)
    ∙ sym c.all_within.ensures ∙ c.if-all_within.true in
    c.in_ok-followed-in-Ok.ensures.followed
    ∙ ap (λ behind. sheet.row ++ behind) c.in_ok-behind-in-Ok.ensures.part
    ∙ front-part sheets below number first count sheet found long (omega arith) all
    ∙ ap (λ grid. writers_in grid number 0 count) c.self.view_is
