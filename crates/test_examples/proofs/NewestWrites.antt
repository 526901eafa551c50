-- Which write or trim is the newest at a sector, and which ones stand lost there.
use Rattle.test_examples.proofs.Places.{places}
use Rattle.std.specs.Prelude.{◌≡◌, [], ◌∷◌, Some, None, refl}
use Rattle.lab_model.specs.declared.entry.Action.TheVariants.{Read, Write}
use Rattle.lab_model.specs.LogEffect.{kind_of}
use Rattle.lab_watch.specs.Grids.{with_writers_from, writers_in}
use Rattle.lab_findings.specs.Issuing.{claimed_if}
use Rattle.lab_findings.specs.Settled.{claims_over, newer_if, raised_if}
use Rattle.lab_findings.specs.Watched.{Watched}
use Rattle.test_examples.specs.Findings.{sector_of}
use Rattle.test_examples.specs.Watching.{asked, fresh, knowing, line}

-- line 4 was issued by bio 1, line 5 by bio 3
abbrev two : Watched
two = knowing (knowing fresh 4 Write 1 1 None None) 5 Write 3 1 None None

-- the operation on line 5 is answered behind the one on line 4, and stands above it
answered_in_order : newer_if two.deeds 3 (Some (sector_of 1 5 0)) (Some (sector_of 1 4 0))
    ≡ Some (sector_of 1 5 0)
answered_in_order = simp places

-- where the one on line 4 is answered last the one on line 5 stays: it was issued last
answered_last : newer_if two.deeds 1 (Some (sector_of 1 4 0)) (Some (sector_of 1 5 0))
    ≡ Some (sector_of 1 5 0)
answered_last = simp places

-- where a line without a device answered a sector nothing is claimed of it
void : claims_over (sector_of 1 5 0) (None ∷ Some (sector_of 1 5 1) ∷ None ∷ [])
    ≡ Some (sector_of 1 5 0) ∷ None ∷ Some (sector_of 1 5 2) ∷ []
void = refl

-- lines 4 and 5 write sectors 1 and 2 of device 0, and the one on line 4 lost the second of them
abbrev lost : Watched
lost = record two {
  writers = record two.writers {
    drops = with_writers_from two.writers.drops 1 0 (None ∷ Some (sector_of 1 4 1) ∷ []);
  };
}

-- the one on line 4 is answered
abbrev after_one : Watched
after_one = raised_if lost 1 (line 4) (asked 4 Write 1 2) (Some (kind_of Write))

-- it is the newest at both sectors
newest : writers_in after_one.newest 1 0 4
    ≡ None ∷ Some (sector_of 1 4 0) ∷ Some (sector_of 1 4 1) ∷ None ∷ []
newest = simp places

-- it stands lost at the second of them
lapsed : writers_in after_one.lapses 1 0 4 ≡ None ∷ None ∷ Some (sector_of 1 4 1) ∷ None ∷ []
lapsed = simp places

-- then the one on line 5 is answered, which lost nothing: nothing stands lost any more
rewritten : writers_in (raised_if after_one 3 (line 5) (asked 5 Write 1 2)
    (Some (kind_of Write))).lapses
    1 0 4 ≡ None ∷ None ∷ None ∷ None ∷ []
rewritten = simp places

-- a failed operation raises nothing
failed : writers_in (raised_if lost 1 (line 4) (asked 4 Write 1 2) None).newest 1 0 4
    ≡ None ∷ None ∷ None ∷ None ∷ []
failed = simp places

-- a read that is issued now claims what is newest at its sectors
claims : writers_in (claimed_if after_one 5 (asked 6 Read 2 2)).claims 5 0 3
    ≡ Some (sector_of 1 4 1) ∷ None ∷ None ∷ []
claims = simp places
