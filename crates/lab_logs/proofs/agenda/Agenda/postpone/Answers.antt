-- The entry gets its moment at its place, and then goes behind those that are due before it.
use Rattle.lab_model.proofs.Common.{◌≡◌, ◌∙◌, ◌<◌, ◌∷◌, arith, get_or, length, take-append_seam}
use Rattle.lab_model.proofs.Common.{get_or_default, length-set, IsPermutation-trans}
use Rattle.std.proofs.Common.{set, IsPermutation}
use Rattle.std.proofs.lemmas.List.Sorted.{length_permutation}
use Rattle.lab_logs.specs.Agenda.{due_at}
use Rattle.lab_logs.proofs.Dues.{replaced}
use Rattle.lab_logs.proofs.agenda.Agenda.postpone.Goals as goal

-- it stands there in its own place
pub returns : goal.returns
returns c rest same =
    let items = c.self.inside.rows.items in
    let place = c.place_of-place.result in
    let due = c.args.due in
    let late = due_at c.args.moment due in
    let new = c.move_back.new.rows in
    let within : place < length items = rw c.self.view_is c.place_of-place.ensures.within in
    let there : get_or items place due ≡ due = rw c.self.view_is c.place_of-place.ensures.is in
    let entry_is : c.index_mut.result.now ≡ due =
    c.index_mut.ensures.value ∙ get_or_default items place _ due within ∙ there in
    let moved : IsPermutation (set items place late) new =
    rw (c.deref_mut.ensures.value, entry_is) at c.move_back.ensures.same in
    let same_long = length_permutation _ _ moved in
    let long : c.self.inside.rows.len ≡ length new =
    omega (arith, c.self.inside.rows.ok.0, length-set items place late) in
    rw (long, take-append_seam new _) (IsPermutation-trans (late ∷ rest) (set items place late) new
    (replaced due late rest items place (rw c.self.view_is same) within there) moved)
