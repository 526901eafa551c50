-- A refusal tells advice on the bytes, and on what its text tells.
use Rattle.std.specs.String.{string_bytes}
use Rattle.dmlab_run.proofs.RunningLemmas.{IsAdvice-answer}
use Rattle.dmlab_run.proofs.telling.ended.Goals as goal

pub returns-then-answer : goal.returns-then-answer
returns-then-answer c = (
  c.if-answer.true,
  IsAdvice-answer c.args.bytes.now (string_bytes c.advice.result) c.args.answer
      c.if-answer.true (rw c.deref.ensures.value at c.advice.ensures),
)
