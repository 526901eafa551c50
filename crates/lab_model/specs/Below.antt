-- Which devices lie below which, over all tables that are ever loaded (dm-linear).
use Rattle.std.specs.Prelude.{ℕ, List, [], ◌∷◌, Contains, map}
use Rattle.std.specs.List.{filter_map, flat_map}
use Rattle.lab_sector.specs.declared.device.DevNo.{DevNo}
use Rattle.lab_sector.specs.declared.device.DevNo.TheVariants.{Dm}
use Rattle.lab_sector.specs.declared.request.Kind.{Kind}
use Rattle.lab_sector.specs.declared.request.Kind.TheVariants.{Read, Write, Trim, Flush}
use Rattle.lab_target.specs.declared.verdict.Ref.{Ref}
use Rattle.lab_target.specs.Meaning.{Meaning, Shape}
use Rattle.lab_model.specs.Tables.{Table, image}
use Rattle.lab_model.specs.Scenario.{versions_of, Scenario}

-- the kinds of requests
abbrev pub kinds : List Kind
kinds = Read ∷ Write ∷ Trim ∷ Flush ∷ []

-- the references of a shape, of all kinds
abbrev pub references_of : {S : Type 0} → Shape S → List Ref
references_of shape = filter_map shape.reference kinds

-- the devices that a table refers to
abbrev pub devices_under : {S : Type 0} → Table (Shape S) → List DevNo
devices_under table = flat_map (λ line. map (λ ref. ref.dev) (references_of line.target)) table

-- the devices that some version of a device refers to
abbrev pub ever_under : {S : Type 0} → Meaning S → List (List (Table S)) → ℕ → List DevNo
ever_under m versions device =
    flat_map (λ table. devices_under (image m table)) (versions_of versions device)

-- a chain of references leads from a mapped device down to another, where each refers to some
pub data Below (under : ℕ → List DevNo) : ℕ → ℕ → Type 0 where
  direct : {device below : ℕ} → Contains (under device) (Dm below) → Below under device below
  through : {device next below : ℕ} → Contains (under device) (Dm next)
      → Below under next below → Below under device below

-- no device lies below itself
abbrev pub HasNoCycle : {S : Type 0} → Meaning S → Scenario S → Type 0
HasNoCycle m c = (device : ℕ) → Below (ever_under m c.versions) device device → ⊥
