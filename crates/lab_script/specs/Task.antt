-- The commands of a script by their words: this project's own `ram`, `sleep`, `replay` and `wait`,
-- and those of dmsetup(8), with tables under names. The bounds on numbers are this project's own.
use Rattle.std.specs.Prelude.{◌<◌, ◌≤◌, ℕ, ◌==◌, ◌&&◌, ◌||◌, not, if◌then◌else◌, List, [], ◌∷◌, Option, Some, None, codes}
use Rattle.std.specs.List.{join_with_byte}
use Rattle.std.specs.Option.{option_map, option_and_then, option_zip}
use Rattle.std.specs.Str.{bytes_eq}
use Rattle.lab_sector.specs.Span.{greatest_sector}
use Rattle.lab_text.specs.Numbers.{number_to}
use Rattle.lab_text.specs.Names.{is_name}
use Rattle.lab_text.specs.Words.{words_of}
use Rattle.lab_script.specs.declared.command.Command.{Command}
use Rattle.lab_script.specs.declared.command.Command.TheVariants as commands

-- what a command asks of a device that stands
pub data DeviceTask : Type 0 where
  -- the name of a table
  load : List ℕ → DeviceTask
  clear suspend resume remove status table : DeviceTask
  -- a sector, and the message: its words with one space between
  message : ℕ → List ℕ → DeviceTask

-- what a command asks for, without where its words lie in memory
pub data Task : Type 0 where
  ram : ℕ → ℕ → Task
  create : List ℕ → Option (List ℕ) → Task
  -- of the device of a name
  on : List ℕ → DeviceTask → Task
  sleep : ℕ → Task
  replay wait : Task

-- what a command asks for
abbrev pub task_of : Command → Task
task_of (commands.Ram number sectors) = ram number sectors
task_of (commands.Create name chosen) = create name.now (option_map (λ t. t.now) chosen)
task_of (commands.Load name chosen) = on name.now (load chosen.now)
task_of (commands.Clear name) = on name.now clear
task_of (commands.Suspend name) = on name.now suspend
task_of (commands.Resume name) = on name.now resume
task_of (commands.Remove name) = on name.now remove
task_of (commands.Message name sector text) =
    on name.now (message sector (join_with_byte 32 (words_of text.now)))
task_of (commands.Status name) = on name.now status
task_of (commands.Table name) = on name.now table
task_of (commands.Sleep time) = sleep time
task_of commands.Replay = replay
task_of commands.Wait = wait

-- the name of the device that a command is for; a create is for none yet
abbrev pub device_asked : Task → Option (List ℕ)
device_asked (on name task) = Some name
device_asked _ = None

-- the name of the table that a command asks for
abbrev pub table_asked : Task → Option (List ℕ)
table_asked (create name chosen) = chosen
table_asked (on name (load chosen)) = Some chosen
table_asked _ = None

-- the greatest time of a sleep, in microseconds
abbrev pub max_sleep : ℕ
max_sleep = 3600000000

-- within the bounds of a script: a disk's number and its 1 to 65,536 sectors, a message's sector,
-- and a sleep's time
abbrev pub IsBounded : Command → Type 0
IsBounded (commands.Ram number sectors) =
    (number ≤ 255) × (0 < sectors) × (sectors ≤ 65536)
IsBounded (commands.Message name sector text) = sector ≤ greatest_sector
IsBounded (commands.Sleep time) = time ≤ max_sleep
IsBounded _ = Unit {0}

-- what a line of one word asks for
abbrev pub bare_task : List ℕ → Option Task
bare_task verb =
    if bytes_eq verb (codes "replay") then Some replay
    else if bytes_eq verb (codes "wait") then Some wait
    else None

-- what a verb asks of the device that it is for, if it takes nothing but the device's name
abbrev pub device_task : List ℕ → Option DeviceTask
device_task verb =
    if bytes_eq verb (codes "clear") then Some clear
    else if bytes_eq verb (codes "suspend") then Some suspend
    else if bytes_eq verb (codes "resume") then Some resume
    else if bytes_eq verb (codes "remove") then Some remove
    else if bytes_eq verb (codes "status") then Some status
    else if bytes_eq verb (codes "table") then Some table
    else None

-- what a line of two words asks for
abbrev pub one_word_task : List ℕ → List ℕ → Option Task
one_word_task verb word =
    if bytes_eq verb (codes "sleep") then option_map sleep (number_to max_sleep word)
    else if is_name word then option_map (on word) (device_task verb)
    else None

-- a disk of a number of at most 255, and of 1 to 65,536 sectors
abbrev pub disk_task : List ℕ → List ℕ → Option Task
disk_task number size =
    option_and_then (λ disk. if disk.1 == 0 then None else Some (ram disk.0 disk.1))
    (option_zip (number_to 255 number) (number_to 65536 size))

-- a new device: a name and a table, or a name and `--notable` in either order
abbrev pub create_of : List ℕ → List ℕ → Option Task
create_of first second =
    if is_name first && is_name second then Some (create first (Some second))
    else if is_name first && bytes_eq second (codes "--notable") then Some (create first None)
    else if bytes_eq first (codes "--notable") && is_name second then Some (create second None)
    else None

-- what a line of three words asks for
abbrev pub two_words_task : List ℕ → List ℕ → List ℕ → Option Task
two_words_task verb first second =
    if bytes_eq verb (codes "ram") then disk_task first second
    else if bytes_eq verb (codes "create") then create_of first second
    else if not (bytes_eq verb (codes "load") || bytes_eq verb (codes "reload")) then None
    else if is_name first && is_name second then Some (on first (load second))
    else None

-- a message to a device's sector of at most 2^40, of words, which are joined by a space
-- (dmsetup(8))
abbrev pub message_task : List ℕ → List ℕ → List ℕ → List (List ℕ) → Option Task
message_task verb name place words =
    if not (bytes_eq verb (codes "message") && is_name name) then None
    else option_map (λ sector. on name (message sector (join_with_byte 32 words)))
    (number_to greatest_sector place)

-- what a line of these words asks for, if they make a command
abbrev pub task_of_words : List (List ℕ) → Option Task
task_of_words (verb ∷ []) = bare_task verb
task_of_words (verb ∷ word ∷ []) = one_word_task verb word
task_of_words (verb ∷ first ∷ second ∷ []) = two_words_task verb first second
task_of_words (verb ∷ name ∷ place ∷ text ∷ []) = message_task verb name place (text ∷ [])
task_of_words (verb ∷ name ∷ place ∷ text ∷ more ∷ []) =
    message_task verb name place (text ∷ more ∷ [])
task_of_words _ = None
