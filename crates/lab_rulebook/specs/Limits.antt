-- How large a scenario may be (this project's own).
use Rattle.std.specs.Prelude.{ℕ, ◌≤◌, Bool, true, false, count_by, length, map, sum}
use Rattle.lab_script.specs.Task.{Task, ram, create}
use Rattle.lab_rulebook.specs.Parts.{Parts}

-- whether a command declares a disk
abbrev pub is_ram : Task → Bool
is_ram = elim [ ram number size ↦ true | _ ↦ false ]

-- whether a command creates a device
abbrev pub is_create : Task → Bool
is_create = elim [ create name chosen ↦ true | _ ↦ false ]

-- the sectors of the disk that a command declares; 0 of another
abbrev pub declared_sectors : Task → ℕ
declared_sectors = elim [ ram number size ↦ size | _ ↦ 0 ]

-- V16 isn't broken: at most 16 disks, 65,536 disk sectors in all, 32 creates, 64 tables, 64 logs
-- and 1,000 commands, where each line counts, a refused one too
pub record WithinLimits {S : Type 0} (parts : Parts S) : Type 0 where
  pub disks : count_by (λ row. is_ram row.task) parts.script ≤ 16
  pub sectors : sum (map (λ row. declared_sectors row.task) parts.script) ≤ 65536
  pub creates : count_by (λ row. is_create row.task) parts.script ≤ 32
  pub tables : length parts.tables ≤ 64
  pub logs : length parts.logs ≤ 64
  pub commands : length parts.script ≤ 1000

-- the greatest budget, and the greatest number of visited pieces
abbrev pub limit : ℕ
limit = 16777216
