-- What stands on the disks is what the history leaves there, from the opening on.
use Rattle.lab_model.proofs.Common.{◌∙◌, IfOk-weaker, ap, sym}
use Rattle.lab_model.specs.After.{Next}
use Rattle.lab_image.specs.Images.{blank}
use Rattle.lab_image.specs.Rows.{image_rows}
use Rattle.lab_image.specs.Stands.{disks_text, image_from}
use Rattle.lab_image.specs.Text.{rows_text}
use Rattle.lab_sweep.specs.Told.{digested_text}
use Rattle.lab_sweep.proofs.run_text.run_digested.Goals as goal

pub returns-then-disks-clause-text : goal.returns-then-disks-clause-text
returns-then-disks-clause-text g c =
    let m = g.T.Target.meaning in
    let old = c.args.lab.now in
    let new = c.disks_of_run.new.lab in
    IfOk-weaker c.disks_of_run.result _ _ (λ text told. told
    ∙ ap (λ s. rows_text (image_rows (image_from m old.scenario (Next s) blank new.history).disks
    new.state.disks)) c.requires.opening
    ∙ ap (λ scenario. disks_text m scenario new.history new.state)
    (sym c.disks_of_run.ensures.paced.goes.scenario)
    ∙ ap (λ disks. digested_text m disks new.scenario new.history new.state)
    (sym c.if-disks.true)) c.disks_of_run.ensures.told
