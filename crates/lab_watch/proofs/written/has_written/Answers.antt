-- Some sector has a writer where the first of some run has one.
use Rattle.lab_model.proofs.Common.{◌∙◌, ◌<◌, ap, sym, refl, recursion_from_All, is_some}
use Rattle.lab_watch.specs.Grids.{has_written}
use Rattle.lab_watch.proofs.Rows.{any-spelled}
use Rattle.lab_watch.proofs.written.has_written.Goals as goal

pub returns : goal.returns
returns c = record {
  written = c.some_written.ensures ∙ sym (any-spelled is_some (λ writer. refl) c.runs.result.now
      (recursion_from_All (λ run. 0 < run.count) c.runs.result.now c.runs.ensures.counts))
      ∙ ap has_written (sym c.runs.ensures.spelled);
}
