-- What is known of the operations that were issued (this project's own).
use Rattle.std.specs.Prelude.{ℕ, ◌≤◌, Bool, IfSome, Option, refl}
use Rattle.std.specs.Coded.{Coded, code_by, coded×, coded_bool, coded_option, coded_ℕ}
use Rattle.std.specs.FinMap as map
use Rattle.std.specs.HashMap.{HashMap}
use Rattle.lab_next.specs.declared.origin.Origin.{Origin}
use Rattle.lab_watch.specs.Grids.{place_cmp}
use Rattle.lab_findings.specs.declared.deed.Deed.{Deed}

-- by a log and a line of it: what is known of that operation
abbrev pub Deeds : Type 0
Deeds = map.FinMap place_cmp Deed

-- a deed is stored as pairs of its fields
abbrev pub deed_code : Coded Deed
deed_code = code_by ((ℕ × (ℕ × ℕ)) × ((Bool × ℕ) × (Option ℕ × Option ℕ)))
    (coded× (coded× coded_ℕ (coded× coded_ℕ coded_ℕ))
    (coded× (coded× coded_bool coded_ℕ) (coded× (coded_option coded_ℕ) (coded_option coded_ℕ))))
    (λ deed. (
      (deed.bio, (deed.device, deed.first)),
      ((deed.trims, deed.issued), (deed.made, deed.lost)),
    ))
    (λ all. record {
      bio = all.0.0;
      device = all.0.1.0;
      first = all.0.1.1;
      trims = all.1.0.0;
      issued = all.1.0.1;
      made = all.1.1.0;
      lost = all.1.1.1;
    })
    (λ _. refl)

-- by each log and line
abbrev pub deeds_code : Coded Deeds
deeds_code = map.code (coded× coded_ℕ coded_ℕ) deed_code

-- none was issued
abbrev pub no_deeds : Deeds
no_deeds = map.empty

-- what is known of an operation
abbrev pub deed_of : Deeds → Origin → Option Deed
deed_of deeds origin = map.get deeds (origin.log, origin.line)

-- with what is known of an operation
abbrev pub with_deed : Deeds → Origin → Deed → Deeds
with_deed deeds origin deed = map.insert deeds (origin.log, origin.line) deed

-- no operation has a bio of a greater number
abbrev pub NoneBehind : Deeds → ℕ → Type 0
NoneBehind deeds number =
    (origin : Origin) → IfSome (deed_of deeds origin) (λ deed. deed.bio ≤ number)

-- what a map by log and line has
abbrev pub deeds_in : {H : Type 0} → HashMap (ℕ × ℕ) Deed H → Deeds
deeds_in held = map.from_entries held.entries
