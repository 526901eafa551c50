-- What the device words of tables and logs say, and what they name where devices stand (dmsetup(8),
-- and the paths of fio's logs).
use Rattle.std.specs.Prelude.{ℕ, List, Option, None, codes}
use Rattle.std.specs.Option.{option_and_then, option_map, option_or}
use Rattle.lab_sector.specs.declared.device.DevNo.{DevNo}
use Rattle.lab_target.specs.DeviceWords.{name_after, number_after}
use Rattle.lab_iolog.specs.Log.{LogRow}
use Rattle.lab_model.specs.declared.entry.Entry.{Entry}
use Rattle.lab_model.specs.declared.entry.Entry.TheVariants.{Wait}
use Rattle.lab_model.specs.declared.plan.LogLine.{LogLine}
use Rattle.lab_rulebook.specs.Parts.{DeviceWord, disk, mapped, named}
use Rattle.lab_rulebook.specs.Standing.{Standing, device_meant}

-- what a path says: /dev/ramN, /dev/dm-N or /dev/mapper/NAME
abbrev pub path_word : List ℕ → Option DeviceWord
path_word word = option_or (option_map disk (number_after (codes "/dev/ram") word))
    (option_or (option_map mapped (number_after (codes "/dev/dm-") word))
    (option_map named (name_after (codes "/dev/mapper/") word)))

-- what a table's word says: a number as it is printed, or a path
abbrev pub table_word : List ℕ → Option DeviceWord
table_word word = option_or (option_map disk (number_after (codes "1:") word))
    (option_or (option_map mapped (number_after (codes "253:") word)) (path_word word))

-- the device that a path names
abbrev pub path_device : {S : Type 0} → Standing S → List ℕ → Option DevNo
path_device s word = option_and_then (device_meant s) (path_word word)

-- the device that a table's word names
abbrev pub word_device : {S : Type 0} → Standing S → List ℕ → Option DevNo
word_device s word = option_and_then (device_meant s) (table_word word)

-- what the file of a log line says; a wait has none
abbrev pub file_word : List ℕ → Entry → Option DeviceWord
file_word file (Wait time) = None
file_word file entry = path_word file

-- a log line as it is under some names: its file bound to the device that its path names; a wait
-- has none
abbrev pub line_read : (DeviceWord → Option DevNo) → LogRow → LogLine
line_read names row = record {
  number = row.number;
  device = option_and_then names (file_word row.file row.entry);
  entry = row.entry;
}
