-- The files of a log, each a device (fio's manual, trace file format version 2).
use Rattle.std.specs.Prelude.{◌==◌, ◌&&◌, Bool, true, false, not, List, [], ◌∷◌, ◌++◌, Option, Some}
use Rattle.std.specs.Prelude.{filter, if◌then◌else◌}
use Rattle.std.specs.List.{list_any}
use Rattle.lab_sector.specs.declared.device.DevNo.{DevNo}
use Rattle.lab_sector.specs.declared.device.DevNo.TheVariants.{Ram, Dm}
use Rattle.lab_model.specs.declared.entry.Entry.{Entry}
use Rattle.lab_model.specs.declared.entry.Entry.TheVariants.{Add, Open, Close, Operate}

-- the files that are added, and those that are open
pub record Files : Type 0 where
  pub added : List DevNo
  pub opened : List DevNo

-- before the first line
abbrev pub no_files : Files
no_files = record { added = []; opened = [] }

-- whether two device numbers are one
abbrev pub same_device : DevNo → DevNo → Bool
same_device (Ram a) (Ram b) = a == b
same_device (Dm a) (Dm b) = a == b
same_device _ _ = false

-- whether a device is among some
abbrev pub has_device : DevNo → List DevNo → Bool
has_device device devices = list_any (same_device device) devices

-- whether a line on a device may come: what is opened is added and not open, and what is closed or
-- used is open
abbrev pub allows : Files → DevNo → Entry → Bool
allows files device Open = has_device device files.added && not (has_device device files.opened)
allows files device Close = has_device device files.opened
allows files device (Operate action span) = has_device device files.opened
allows files device _ = true

-- the files after a line, which names a device unless it waits; a second add does nothing
abbrev pub files_after : Files → Entry → Option DevNo → Files
files_after files Add (Some device) = if has_device device files.added then files
    else record files { added = files.added ++ device ∷ [] }
files_after files Open (Some device) = record files { opened = files.opened ++ device ∷ [] }
files_after files Close (Some device) =
    record files { opened = filter (λ other. not (same_device device other)) files.opened }
files_after files _ _ = files
