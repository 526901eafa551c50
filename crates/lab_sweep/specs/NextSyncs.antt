-- The next sync of each device (this project's own).
use Rattle.std.specs.Prelude.{Option, nat_eq}
use Rattle.std.specs.HashMap.{get}
use Rattle.lab_sector.specs.declared.device.DevNo.{DevNo}
use Rattle.lab_sector.specs.declared.device.DevNo.TheVariants.{Ram, Dm}
use Rattle.lab_next.specs.declared.origin.Origin.{Origin}
use Rattle.lab_sweep.specs.declared.next_syncs.NextSyncs.{NextSyncs}

-- the next sync of a device, if there is one
abbrev pub next_sync : NextSyncs → DevNo → Option Origin
next_sync syncs (Ram number) = get nat_eq syncs.disks number
next_sync syncs (Dm number) = get nat_eq syncs.mapped number
