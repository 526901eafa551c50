-- The opening state of a fine scenario fits.
use Rattle.lab_model.proofs.Common.{rules, ◌≡◌, ◌==◌, ℕ, List, [], ◌∷◌, length, map, option_map}
use Rattle.lab_model.proofs.Common.{length-map, length-replicate, Meaning, empty_disk, find, map-cases}
use Rattle.lab_model.specs.declared.plan.DiskPlan.{DiskPlan}
use Rattle.law_never_wrong.specs.NeverWrong.{OpeningFits}
use Rattle.law_never_wrong.proofs.DiskLemmas.{sectors_in}

-- an empty disk has the size that the scenario says
opening-disks : (number : ℕ) (disks : List DiskPlan) → option_map length (sectors_in number
    (map empty_disk disks))
    ≡ option_map (λ disk. disk.size) (find (λ disk. disk.number == number) disks)
opening-disks number [] = search rules
opening-disks number (disk ∷ disks) = search (rules, length-replicate, opening-disks number disks)

-- the opening state of a fine scenario fits
pub opening-Fits : {S : Type 0} (m : Meaning S) → OpeningFits m
opening-Fits m c fine = search (rules, length-map, map-cases, opening-disks)
