-- A line of groups whose devices aren't known yet. Names: drafted, and the fact.
use Rattle.std.proofs.Common.{◌≡◌, List, [], refl}
use Rattle.lab_delay.specs.Delay.{Group}
use Rattle.lab_delay.specs.Groups.{bound}
use Rattle.lab_delay.specs.Line.{drafted}
use Rattle.lab_delay.specs.declared.grouped.Grouped.{Grouped}
use Rattle.lab_delay.specs.declared.grouped.Grouped.TheVariants.{One, Two, Three}
use Rattle.lab_delay.specs.declared.line.GivenGroup.{GivenGroup}

-- the groups with some devices in their places are bound as the line's draft makes them
pub drafted-bound : (groups : Grouped GivenGroup) (target : List Group)
    → target ≡ (drafted groups).made []
    → drafted groups ≡ record { devices = (drafted groups).devices; made = bound target }
drafted-bound (One all) target is = rw is refl
drafted-bound (Two reads others) target is = rw is refl
drafted-bound (Three reads writes flushes) target is = rw is refl
