-- The laws hold of each meaning.
use Rattle.law_headline.proofs.CompiledScripts.{accepted-is-compiled, known-is-compiled}
use Rattle.law_headline.proofs.compiled_is_walked.Goals as goal

pub returns : goal.returns
returns g c = record {
  known = known-is-compiled g.T.Target.meaning;
  accepted = accepted-is-compiled g.T.Target.meaning;
}
