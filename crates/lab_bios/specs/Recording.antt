-- What a bio is answered (this project's own).
use Rattle.std.specs.Prelude.{Bool, true, false}
use Rattle.lab_model.specs.Answers.{Told, Failed, Gave}
use Rattle.lab_model.specs.Sectors.{Sectors}

-- the answer to a bio: that it failed, or what it gave
abbrev pub told : Bool → Sectors → Told
told true sectors = Failed
told false sectors = Gave sectors
