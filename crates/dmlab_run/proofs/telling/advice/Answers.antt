-- The advice on the first fault, and behind it that on the others.
use Rattle.std.specs.Result.{is_ok}
use Rattle.std.specs.String.{string_bytes}
use Rattle.dmlab_run.proofs.PartLemmas.{advises-both}
use Rattle.dmlab_run.proofs.telling.advice.Goals as goal

pub returns : goal.returns
returns c = rw c.in-Some.is (advises-both c.args.bytes.now c.in-Some.trouble c.args.others.now
    (string_bytes c.advice_on_first-text.result) (string_bytes c.advice_on_others-more.result)
    (string_bytes c.push_str.new.self) (is_ok c.push_str.result) c.advice_on_first-text.ensures
    c.advice_on_others-more.ensures (rw c.deref.ensures at c.push_str.ensures.bytes))
