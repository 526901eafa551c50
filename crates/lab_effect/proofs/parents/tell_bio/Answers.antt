-- The bio of the parent's number records what it is handed.
use Rattle.lab_effect.proofs.HandedLemmas.{told-by}
use Rattle.lab_effect.proofs.parents.tell_bio.Goals as goal

-- so it has recorded the answer of whichever bio hands it those sectors
pub returns-in-FromBio-clause-bios : goal.returns-in-FromBio-clause-bios
returns-in-FromBio-clause-bios g c =
    λ bio given handed. rw c.in-FromBio.is (told-by c.args.traffic.now.bios _ bio
    c.in-FromBio.number c.in-FromBio.piece c.args.failed given c.args.sectors.items
    c.record.ensures.bios (rw c.in-FromBio.is at handed))
