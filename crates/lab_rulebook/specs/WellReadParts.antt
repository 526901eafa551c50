-- What reading gives of any texts (this project's own).
use Rattle.lab_target.specs.Meaning.{Meaning}
use Rattle.lab_rulebook.specs.Read.{WellRead}
use Rattle.lab_rulebook.specs.PartsOf.{Texts, parts_of_texts}

-- the parts of texts are well read
abbrev pub PartsAreWellRead : {S : Type 0} → Meaning S → Type 0
PartsAreWellRead m = (texts : Texts) → WellRead m (parts_of_texts m texts)
