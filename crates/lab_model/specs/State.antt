-- The state of the laboratory between two events (this project's own).
use Rattle.std.specs.Prelude.{ℕ, Bool, false, List, [], ◌==◌, Option, Some, None, map, option_map, find}
use Rattle.std.specs.List.{filter_map}
use Rattle.lab_model.specs.declared.answer.Answer.{Answer}
use Rattle.lab_model.specs.declared.micro.Mode.{Mode}
use Rattle.lab_model.specs.declared.reply.Reply.{Reply}
use Rattle.lab_model.specs.Bios.{Bio}
use Rattle.lab_model.specs.Files.{Files, no_files}
use Rattle.lab_model.specs.Lists.{change_numbered, numbered}
use Rattle.lab_model.specs.Scenario.{Scenario, LogPlan}
use Rattle.lab_model.specs.declared.plan.DiskPlan.{DiskPlan}
use Rattle.lab_model.specs.Sectors.{Sectors, filled}
use Rattle.lab_model.specs.Tables.{Table}
use Rattle.std.specs.Option.{option_flatten}

-- a mapped device: its two slots for tables, and its mode
pub record Slot (L : Type 0) : Type 0 where
  pub live : Option L
  pub inactive : Option L
  pub mode : Mode

-- a memory disk: N of /dev/ramN, and its sectors
pub record Disk : Type 0 where
  pub number : ℕ
  pub sectors : Sectors

-- how far a log has come
pub record LogState : Type 0 where
  -- the lines that it has taken
  pub taken : ℕ
  -- its moment, from the replay on
  pub moment : ℕ
  pub files : Files
  pub answers : List Answer

-- where a run stands
pub record State (S : Type 0) : Type 0 where
  -- the clock, in microseconds
  pub clock : ℕ
  -- by number, counted from 1; none at a number whose bio is answered
  pub bios : List (Option Bio)
  -- by number, counted from 0; none where the device is removed
  pub devices : List (Option (Slot (Table S)))
  pub disks : List Disk
  pub logs : List LogState
  -- whether the logs have started
  pub started : Bool
  -- the micro-commands that are done, the script's moment, and what they told
  pub done : ℕ
  pub moment : ℕ
  pub replies : List Reply

-- the living bio of this number
abbrev pub bio_of : {S : Type 0} → State S → ℕ → Option Bio
bio_of s number = option_flatten (numbered s.bios number)

-- the living bios
abbrev pub living : {S : Type 0} → State S → List Bio
living s = filter_map (λ entry. entry) s.bios

-- the state with f of a living bio
abbrev pub with_bio : {S : Type 0} → State S → ℕ → (Bio → Bio) → State S
with_bio s number f = record s { bios = change_numbered s.bios number (option_map f) }

-- the sectors of the disk of this number
abbrev pub disk_of : {S : Type 0} → State S → ℕ → Option Sectors
disk_of s number =
    option_map (λ disk. disk.sectors) (find (λ disk. disk.number == number) s.disks)

-- the answers of a log; one that isn't there has none
abbrev pub answers_in : Option LogState → List Answer
answers_in None = []
answers_in (Some log) = log.answers

-- the answers so far of the log of this number
abbrev pub answers_of : {S : Type 0} → State S → ℕ → List Answer
answers_of s number = answers_in (numbered s.logs number)

-- a disk of zero bytes
abbrev pub empty_disk : DiskPlan → Disk
empty_disk plan = record { number = plan.number; sectors = filled plan.size 0 }

-- a log before its first line
abbrev pub opening_log : LogPlan → LogState
opening_log plan = record { taken = 0; moment = 0; files = no_files; answers = [] }

-- the state before the first event
abbrev pub opening : {S : Type 0} → Scenario S → State S
opening c = record {
  clock = 0;
  bios = [];
  devices = [];
  disks = map empty_disk c.disks;
  logs = map opening_log c.logs;
  started = false;
  done = 0;
  moment = 0;
  replies = [];
}
