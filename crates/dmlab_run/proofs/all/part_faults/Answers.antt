-- The faults are those of the bundle that the bytes are.
use Rattle.lab_model.proofs.Common.{rules, ◌≡◌, ◌∙◌, ap}
use Rattle.lab_any.specs.Any.{any_meaning}
use Rattle.lab_rulebook.specs.PartsOf.{texts_of}
use Rattle.dmlab_run.specs.AllParts.{part_faults}
use Rattle.dmlab_run.specs.Histories.{histories_in, histories_of}
use Rattle.dmlab_run.proofs.all.part_faults.Goals as goal

pub returns-in_ok-all_of-in-Ok : goal.returns-in_ok-all_of-in-Ok
returns-in_ok-all_of-in-Ok c =
    let bundle = c.in-Ok.bundle in
    let same : histories_in bundle.history ≡ histories_of c.args.bytes.now = search rules in (
      c.in-Ok.ensures.ok,
      texts_of bundle,
      search rules,
      c.in_ok-all_of-in-Ok.ensures ∙ ap (part_faults any_meaning (texts_of bundle)) same,
    )
