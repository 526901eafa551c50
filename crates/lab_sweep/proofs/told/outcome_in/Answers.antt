-- Each figure is the laboratory's own.
use Rattle.lab_model.proofs.Common.{◌∙◌, ap, refl}
use Rattle.lab_sweep.specs.SeedLine.{eio_count}
use Rattle.lab_sweep.proofs.told.outcome_in.Goals as goal

pub returns : goal.returns
returns g c = record {
  numbered = refl;
  digested = c.in_ok-digest_of.ensures;
  failed = c.in_ok-eio.ensures ∙ ap eio_count (c.as_slice.ensures
      ∙ ap (λ state. state.logs) (c.behind-lab.view_is ∙ c.state.ensures));
  stepped = c.steps.ensures.count;
  ticked = c.clock_steps.ensures.count;
  ended = c.now.ensures.clock;
}
