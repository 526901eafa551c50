-- One sector after another is written.
use Rattle.lab_model.proofs.Common.{◌≡◌, ◌<◌, ◌*◌, length, sym, get_or, [], refl, arith, rules}
use Rattle.lab_model.proofs.Common.{get_or_from_slice_get, slice_get_read, drop_of_length-le}
use Rattle.std.proofs.Common.{append-nil}
use Rattle.lab_trace.proofs.WrittenSteps.{changes_text-none, sector-written}
use Rattle.lab_trace.proofs.written.push_changes.Goals as goal

pub loop-place-preserved : goal.loop-place-preserved
loop-place-preserved c =
    let place = c.loop-place.place in
    let first : c.in_ok-first.first ≡ place * 512 = search rules in
    let before = get_or c.args.before.now place [] in
    let old = c.index-before-place.result in
    let earlier : old ≡ before = sym (get_or_from_slice_get c.args.before.now place old []
    (slice_get_read c.args.before.now _ place old refl (omega arith) c.index-before-place.is)) in
    let inside : place < length c.args.after.now = search rules in
    let sector : c.in-Some.sector.now ≡ get_or c.args.after.now place [] = search rules in
    let text = c.loop-place.text.items in
    let next = c.push_sector.new.text.items in
    sector-written place c.args.before.now c.args.after.now text next _ (omega arith) inside
    (rw (first, earlier, sector) at c.in_ok-push_sector.ensures) c.loop-place.invariant

-- no sector is left that was there before
pub returns : goal.returns
returns c = search (rules, drop_of_length-le, append-nil)

-- no sector is left that is there now
pub returns-in_default : goal.returns-in_default
returns-in_default c = search (rules, drop_of_length-le, changes_text-none, append-nil)
