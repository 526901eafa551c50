-- Each write appends a front of the rest, and drops it from the rest.
use Rattle.std.proofs.Common.{◌++◌, take, rules}
use Rattle.std.proofs.KnownBytes.{Appends-trans}
use Rattle.dmlab_run.proofs.MovedLemmas.{split-more}
use Rattle.dmlab_run.proofs.output.write_output.Goals as goal

pub loop-rest-preserved : goal.loop-rest-preserved
loop-rest-preserved g c =
    let (done, split, gone) = c.loop-rest.invariant.written in
    let rest = c.loop-rest.rest.now in
    let n = c.in-Ok.count in
    record {
      written = (
        done ++ take n rest,
        split-more _ done rest n split,
        Appends-trans _ _ _ _ _ gone c.in-Ok.ensures.bytes,
      );
      going = search rules;
      rest = search rules;
    }
