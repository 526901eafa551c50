-- One number more of the row is gone through.
use Rattle.lab_model.proofs.Common.{rules, ◌≡◌, ◌∙◌, arith, refl, None, Some, get_or, numbered}
use Rattle.lab_model.proofs.Common.{option_flatten}
use Rattle.lab_state.specs.Dependents.{told_by}
use Rattle.lab_state.specs.Index.{state_of}
use Rattle.lab_state.proofs.Deciders.{apart-on, right-on, told-goes, told-none}
use Rattle.lab_state.proofs.device_marks.mark_row.Goals.{in-Some, in_default}
use Rattle.lab_state.proofs.device_marks.mark_row.Goals as goal

-- its bio is marked as is told, or doesn't depend on the device and is marked rightly
pub loop-number-preserved : goal.loop-number-preserved
loop-number-preserved g c =
    let bios = c.args.bios.now.items in
    let s = state_of c.args.clock bios c.args.devices.now.slots in
    let row = c.row-row.result.now in
    let index = c.loop-number.number-index in
    let number = get_or row index 0 in
    let runs = c.is_running-runs.result in
    let way = c.loop-number.invariant in
    elim c.match-told_by.branch [
      | in-Some w ↦
          let told : told_by c.args.clock c.args.device runs (option_flatten (numbered bios number))
          ≡ Some w.in-Some.goes = search rules in
          let may = told-goes c.args.clock bios c.args.devices.now.slots c.args.device runs number
          w.in-Some.goes c.is_running-runs.ensures told in
          let here = w.mark_told.ensures.here ∙ may in
          rw (w.groups-is, w.marks-is, w.count-is) (record {
            right = right-on s c.loop-number.marks w.mark_told.new.marks row index number
                (omega arith) refl here w.mark_told.ensures.others way.right;
            apart = apart-on s c.loop-number.marks w.mark_told.new.marks row index number
                (omega arith) refl here w.mark_told.ensures.others c.args.device way.apart;
            grouped = w.mark_told.ensures.grouped (λ other _. way.grouped other);
            reach = w.mark_told.ensures.reach ∙ way.reach;
            few = omega arith;
          })
      | in_default w ↦
          let none : told_by c.args.clock c.args.device runs (option_flatten (numbered bios number))
          ≡ None = search rules in
          let here = way.apart number
          (told-none c.args.clock bios c.args.device runs number none) in
          rw (w.groups-is, w.marks-is, w.count-is) (record {
            right = right-on s c.loop-number.marks c.loop-number.marks row index number (omega arith)
                refl here (λ _ _. refl) way.right;
            apart = way.apart;
            grouped = way.grouped;
            reach = way.reach;
            few = omega arith;
          })
    ]
