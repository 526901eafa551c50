-- The first fault of the bundle that the bytes are is their own.
use Rattle.lab_model.proofs.Common.{rules, ◌≡◌, ap, inr, subst}
use Rattle.std.proofs.lemmas.Result.{IfErr-weaker}
use Rattle.lab_any.specs.Any.{any_meaning}
use Rattle.lab_rulebook.specs.PartsOf.{texts_of}
use Rattle.dmlab_run.specs.Histories.{histories_in, histories_of, history_read}
use Rattle.dmlab_run.specs.Output.{IsFirst}
use Rattle.dmlab_run.proofs.judged.judged_run.Goals as goal

pub returns-in-Ok-clause-refused : goal.returns-in-Ok-clause-refused
returns-in-Ok-clause-refused c =
    let bundle = c.in-Ok.bundle in
    let same : histories_in bundle.history ≡ histories_of c.args.bytes.now = search rules in
    IfErr-weaker c.verified_run.result _ _ (λ refusal first seen is. inr (record {
      none = c.in-Ok.ensures.ok;
      texts = texts_of bundle;
      has = search rules;
      first = subst (λ read. IsFirst any_meaning (texts_of bundle) read seen)
          (ap history_read same) (first seen is);
    })) c.verified_run.ensures.refused
