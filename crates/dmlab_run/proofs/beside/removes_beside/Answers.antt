-- The faults of the mended bundle are others.
use Rattle.lab_model.proofs.Common.{◌∙◌, List, All, All-map, map, subst, IfOk-weaker}
use Rattle.lab_any.specs.Any.{any_meaning}
use Rattle.lab_refusal.specs.Faults.{fault_seen}
use Rattle.lab_refusal.specs.declared.fault.Fault.{Fault}
use Rattle.dmlab_run.specs.AllParts.{AreGiven, part_faults}
use Rattle.dmlab_run.specs.Tried.{IsOther}
use Rattle.dmlab_run.proofs.beside.removes_beside.Goals as goal

pub returns : goal.returns
returns c =
    let faults = c.in-Some.faults.items in
    let given = subst (λ bytes. AreGiven (part_faults any_meaning) bytes (map fault_seen faults))
    (c.as_slice.ensures.value ∙ c.in_ok-mended.ensures) (rw c.in-Some.is at c.in_ok-faults.ensures)
    in
    IfOk-weaker c.are_others.result _ _ (λ gone others yes. (
      map fault_seen faults,
      given,
      All-map (λ other. IsOther c.args.mend.now.spot (fault_seen c.args.fault.now) other) fault_seen
          faults (subst (λ (told : List Fault). All (λ other. IsOther c.args.mend.now.spot
          (fault_seen c.args.fault.now) (fault_seen other)) told) c.deref.ensures.value (others yes)),
    )) c.are_others.ensures
