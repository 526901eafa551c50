-- The disk of a number among some.
use Rattle.lab_model.proofs.Common.{rules, ◌≡◌, ◌≢◌, ◌<◌, ℕ, arith, List, Some, None, true, false}
use Rattle.lab_model.proofs.Common.{[], ◌∷◌, length, map, refl, ap, sym, ◌∙◌, inl, inr, ◌==◌}
use Rattle.lab_model.proofs.Common.{position, slice_set, cases_eq, get_or-map, get_or-set_other}
use Rattle.lab_model.proofs.Common.{get_or_default, length-map, same_lists, position-Some}
use Rattle.lab_model.proofs.Common.{get_or-set_at, with_sectors, Sectors, Disk}
use Rattle.std.proofs.Common.{length-set}
use Rattle.std.proofs.lemmas.List.Recursion.{found_at}
use Rattle.std.proofs.Math.ListN.{get_or}
use Rattle.lab_model.specs.Given.{NumbersDiffer}
use Rattle.lab_effect.specs.Served.{disk_sectors}
use Rattle.std.specs.Prelude.{find}

-- no disk has a number that the search doesn't find
pub disk-none : (disks : List Disk) (number : ℕ) (d : Disk)
    → position (λ disk. disk.number == number) disks ≡ None
    → find (λ disk. disk.number == number) disks ≡ None
disk-none [] number d is = refl
disk-none (disk ∷ disks) number d is = search (rules, disk-none disks number d)

module _ (disks : List Disk) (number place : ℕ) (ram : Disk)
    (is : position (λ disk. disk.number == number) disks ≡ Some place)
    (value : ram ≡ get_or disks place ram) where
  -- the disk has the number, and is the first that has it
  found : (place < length disks) × ((get_or disks place ram).number == number ≡ true)
      × ((k : ℕ) → k < place → ((get_or disks k ram).number == number) ≡ false)
  found = position-Some (λ disk. disk.number == number) disks place ram is

  -- its sectors are those of the number
  pub found-sectors : disk_sectors disks number ≡ ram.sectors
  found-sectors = rw (found_at (find (λ disk. disk.number == number))
      (λ disk. disk.number == number) Some None refl (λ x xs. refl) disks place ram found.0
      found.2 found.1)
      (ap (λ (disk : Disk). disk.sectors) (sym value))

  module _ (differ : NumbersDiffer disks) where
    -- no other disk has it
    others-differ : (k : ℕ) → k < length disks → k ≢ place
        → ((get_or disks k ram).number == number) ≡ false
    others-differ k below apart = search (rules, found)

    -- where the number's disk gets other sectors, this one does
    pub found-changes : (sectors : Sectors) → map (with_sectors number sectors) disks
        ≡ slice_set disks place (record ram { sectors = sectors })
    found-changes sectors = same_lists _ _
        (length-map disks (with_sectors number sectors) ∙ sym (length-set disks place _))
        (λ k d within.
        let below : k < length disks =
        omega (arith, length-map disks (with_sectors number sectors)) in
        get_or-map (with_sectors number sectors) disks k ram d below ∙ elim (cases_eq k place) [
          | inl same ↦ rw (
            same,
            ← value,
            ap (λ (disk : Disk). disk.number == number) value ∙ found.1,
          ) (sym (get_or-set_at disks place place _ d refl found.0))
          | inr apart ↦ rw (others-differ k below apart) (get_or_default disks k ram d below
              ∙ sym (get_or-set_other disks place k _ d apart))
        ])
