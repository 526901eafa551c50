use Rattle.std.proofs.Common.{◌++◌, ap, ◌∙◌}
use Rattle.lab_advice.specs.Shown.{told_text}
use Rattle.lab_advice.proofs.PlaceLemmas.{told_text-place}
use Rattle.lab_advice.specs.RemedyText.{remedy_text}
use Rattle.lab_advice.proofs.advice.advice_on.Goals as goal

-- the place's line comes first, and the remedy's follows it
pub returns : goal.returns
returns c = λ place shown.
    let more = remedy_text c.args.remedy.now in
    let found = c.place_of.result in
    c.in_ok-push_remedy.ensures ∙ ap (λ text. text ++ more) (c.in_ok-push_told.ensures.told
    ∙ ap (λ text. text ++ told_text found) c.new-text.ensures.bytes
    ∙ told_text-place found c.args.bytes.now c.args.trouble c.place_of.ensures.shows
    c.place_of.ensures.none place shown)
