-- What an event of a disk leads to.
use Rattle.lab_model.proofs.Common.{rules, ◌≡◌, ℕ, List, Some, None, Ram}
use Rattle.lab_model.proofs.Common.{Kind, Read, Write, Trim, Flush, Told, Gave, Bio, serve}
use Rattle.lab_model.specs.declared.parent.Parent.{Parent}
use Rattle.lab_model.proofs.Common.{served, change_numbered, Sectors, State, Disk, bio_of, disk_of}
use Rattle.lab_effect.specs.Served.{HasDisk, disk_sectors, disks_after, given_to}
use Rattle.lab_effect.specs.Telling.{told_bios, told_logs}
use Rattle.lab_effect.proofs.Leads.{Then, next-is, then-given, then-unless}

module _ {S : Type 0} (s : State S) (number : ℕ) (bio : Bio) where
  -- the state after a bio is answered, part by part
  abbrev pub state_after : Told → Parent → List Disk → State S
  state_after told parent disks = record s {
    bios = told_bios (change_numbered s.bios number (λ _. None)) bio told parent;
    disks = disks;
    logs = told_logs s.logs bio told parent;
  }

  module _ (disk : ℕ) where
    -- the state after the bio is served by a disk of these sectors
    abbrev pub after_serving : Sectors → Kind → State S
    after_serving sectors kind = state_after (Gave (given_to sectors bio kind)) bio.parent
        (disks_after s.disks disk bio kind)

    -- so it is served by those of its number
    served-is : (sectors : Sectors) (kind : Kind) → disk_of s disk ≡ Some sectors
        → served s number bio disk sectors kind ≡ after_serving (disk_sectors s.disks disk) kind
    served-is sectors Read is = rw is (search rules)
    served-is sectors Write is = rw is (search rules)
    served-is sectors Trim is = rw is (search rules)
    served-is sectors Flush is = search rules

    -- the disk that serves the bio is there with the bio's sectors inside, and what that leads to
    pub record Serves (next : State S) : Type 0 where
      pub has : HasDisk s.disks disk bio
      pub is : next ≡ after_serving (disk_sectors s.disks disk) bio.kind

    -- so it does, wherever the event leads
    pub serve-then : bio_of s number ≡ Some bio → bio.device ≡ Ram disk
        → Then (serve s number) Serves
    serve-then lives at = search (rules, then-given, then-unless, next-is, served-is)
