-- The faults are those of the bundle that the bytes are, or there are none.
use Rattle.lab_model.proofs.Common.{rules, ◌≡◌, ◌∙◌, ap, inl, inr, map, IfOk-weaker}
use Rattle.lab_any.specs.Any.{any_meaning}
use Rattle.lab_rulebook.specs.PartsOf.{texts_of}
use Rattle.lab_refusal.specs.Faults.{fault_seen}
use Rattle.dmlab_run.specs.AllParts.{other_faults}
use Rattle.dmlab_run.specs.Histories.{histories_in, histories_of}
use Rattle.dmlab_run.proofs.PartLemmas.{no-bundle}
use Rattle.dmlab_run.proofs.all.other_faults.Goals as goal

pub returns-in-Ok : goal.returns-in-Ok
returns-in-Ok c =
    let bundle = c.in-Ok.bundle in
    let same : histories_in bundle.history ≡ histories_of c.args.bytes.now = search rules in
    IfOk-weaker c.others_of.result _ _ (λ faults told. inr (
      c.in-Ok.ensures.ok,
      texts_of bundle,
      search rules,
      told ∙ ap (other_faults any_meaning (texts_of bundle)) same,
    )) c.others_of.ensures

pub returns-in-Err : goal.returns-in-Err
returns-in-Err c = IfOk-weaker c.no_others.result _ _ (λ faults none. inl (
  none.0,
  no-bundle c.args.bytes.now c.in-Err.fault none.0 none.1 c.in-Err.ensures.err,
  ap (map fault_seen) none.2,
)) c.no_others.ensures
