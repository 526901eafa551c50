-- What stands at one moment of the walk through a script (this project's own).
use Rattle.lab_target.specs.Meaning.{Meaning}
use Rattle.std.specs.Prelude.{List}
use Rattle.std.specs.Global.{Vec}
use Rattle.lab_model.specs.Tables.{Table}
use Rattle.lab_model.specs.Walk.{Devices}
use Rattle.lab_rulebook.specs.Standing.{Standing as Stands}
use Rattle.lab_script.specs.declared.walk.Walk.{Walk}
use Rattle.lab_script.specs.Image.{walk_known}
use Rattle.lab_standing.specs.declared.standing.Standing.{Standing}
use Rattle.lab_standing.specs.Image.{devices_of, tables_of}

-- the devices that stand, by number, of the walk and the tables that are kept
unfoldable pub stood : {S : Type 0} → Meaning S → Walk → List (Vec (Table S)) → Devices S
stood m walk versions = devices_of m (walk_known walk).devices (tables_of versions)

-- what stands, as the definitions of what is accepted see it
abbrev pub standing_of : {S : Type 0} → Meaning S → Standing S → Stands S
standing_of m s = record {
  disks = s.disks.items;
  device_of = (walk_known s.walk).device_of;
  devices = stood m s.walk s.versions.items;
  versions = tables_of s.versions.items;
  phase = s.phase;
  logs = s.logs.items;
}
