-- A command is done by the walk, and its table is kept with its device's.
use Rattle.lab_model.proofs.Common.{◌∙◌, [], ap, refl, IfOk-weaker}
use Rattle.lab_rulebook.specs.Standing.{with_version}
use Rattle.lab_script.specs.Image.{walk_known}
use Rattle.lab_script.specs.Task.{task_of}
use Rattle.lab_script.specs.Walk.{loads_after}
use Rattle.lab_standing.specs.Image.{devices_of, tables_of}
use Rattle.lab_standing.specs.Linked.{link_rows, with_links}
use Rattle.lab_standing.specs.Stands.{standing_of, stood}
use Rattle.lab_standing.proofs.LinkedAfter.{links-after}
use Rattle.lab_standing.proofs.StandingKept.{obeyed-stands, sound-after}
use Rattle.lab_standing.proofs.standing.Standing.obey_with.Goals as goal

-- what stands is what the walk and the versions leave
pub returns-clause-stands : goal.returns-clause-stands
unfolding stood
returns-clause-stands g c = IfOk-weaker c.obey-2.result _ _ (λ done walked sound.
    let m = g.T.Target.meaning in
    let st = c.args.self.now in
    let w = walk_known st.walk in
    let task = task_of c.args.command in
    let versions = tables_of st.versions.items in
    let kept = c.in_ok-keep_table.ensures
    ∙ ap (λ found. loads_after with_version [] versions found task c.args.table)
    c.number_for-device.ensures in
    (λ i. record (standing_of m st) {
      device_of = (walked i).device_of;
      devices = devices_of m (walked i).devices (kept i);
      versions = kept i;
    }) ∙ obeyed-stands m w versions sound.slots sound.loads (standing_of m st) task c.args.table
    c.requires refl refl refl) c.obey-2.ensures

-- and it is sound
pub returns-clause-sound : goal.returns-clause-sound
returns-clause-sound g c = IfOk-weaker c.obey-2.result _ _ (λ done walked sound.
    let m = g.T.Target.meaning in
    let st = c.args.self.now in
    let task = task_of c.args.command in
    let versions = tables_of st.versions.items in
    let all = sound-after m (walk_known st.walk) versions sound.slots sound.loads task c.args.table
    c.requires (walk_known c.obey-2.new.self) (tables_of c.keep_table.new.versions.items) walked
    (c.in_ok-keep_table.ensures
    ∙ ap (λ found. loads_after with_version [] versions found task c.args.table)
    c.number_for-device.ensures) in
    record {
      slots = all.0;
      loads = all.1;
      linked = links-after m c.number_for-device.result task c.args.table (link_rows st.ever)
          (link_rows c.obey.new.self) versions (tables_of c.keep_table.new.versions.items)
          sound.linked (c.in_ok-obey.ensures
          ∙ ap (loads_after (with_links m) [] (link_rows st.ever) c.number_for-device.result task)
          c.as_ref.ensures.value) c.in_ok-keep_table.ensures;
    }) c.obey-2.ensures
