-- What stands on the disks in the end is what the history leaves there.
use Rattle.lab_model.proofs.Common.{◌∙◌, ap, IfOk-weaker}
use Rattle.lab_image.specs.Rows.{image_rows}
use Rattle.lab_image.specs.Text.{rows_text}
use Rattle.lab_image.proofs.Imaging.{images-all}
use Rattle.lab_image.proofs.run_image.disks_of_run.Goals as goal

pub returns-clause-told : goal.returns-clause-told
returns-clause-told g c = IfOk-weaker c.text_in.result _ _ (λ text told. told
    ∙ ap (λ image. rows_text (image_rows image.disks c.simulate_watched.new.self.state.disks))
    (images-all g.T.Target.meaning c.args.lab.now c.simulate_watched.new.self c.new-imager.result
    c.simulate_watched.new.observer c.in_ok-simulate_watched.ensures.watched c.requires
    c.new-imager.ensures)) c.text_in.ensures
