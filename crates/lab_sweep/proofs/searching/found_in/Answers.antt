-- What is told is told of the scenario that was accepted.
use Rattle.lab_model.proofs.Common.{◌∙◌, [], ◌∷◌, ◌++◌, ap, ap₂}
use Rattle.lab_sweep.specs.FoundRow.{row_names}
use Rattle.lab_sweep.specs.FoundRows.{found_rows}
use Rattle.lab_sweep.specs.Totals.{totals_of}
use Rattle.lab_sweep.proofs.searching.found_in.Goals as goal

pub returns-in-Ok-clause-told : goal.returns-in-Ok-clause-told
returns-in-Ok-clause-told g c =
    let same = c.scenario.ensures.value ∙ c.in_ok-noted.ensures.paced.goes.scenario in
    record {
      noted = c.in_ok-noted.noted.items;
      finds = c.in_ok-noted.ensures.noted;
      told = c.in-Ok.ensures.text ∙ ap₂ (λ d noted. row_names ++ found_rows d c.args.seed noted)
          same c.deref.ensures.value;
      counted = c.in-Ok.ensures.totals
          ∙ ap (λ noted. totals_of (noted ∷ [])) c.deref.ensures.value;
    }
