-- The events are a complete run, and what stands on the disks is what they leave there.
use Rattle.lab_image.proofs.Imaging.{disks-watched}
use Rattle.lab_image.proofs.run_image.disks_of_events.Goals as goal

pub returns-clause-told : goal.returns-clause-told
returns-clause-told g c =
    let is = c.in_ok-lab.ensures in
    disks-watched g.T.Target.meaning c.args.accepted c.in_ok-lab.lab c.args.events.now
    c.new-imager.result c.audit_watched.new.observer c.in_ok-text.text.items is.watched
    c.new-imager.ensures is.scenario is.history is.done is.running c.in_ok-text.ensures
