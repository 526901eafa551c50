-- The names in use along a script: each is of a device that stands, and no two are of one.
use Rattle.lab_model.proofs.Common.{rules, ◌≡◌, ℕ, List, Option, Some, Devices, IsThere}
use Rattle.lab_script.specs.Walk.{Names, with_name}

-- each name is of a device that stands, and two names of one device are one
pub record NamesFine {S : Type 0} (devices : Devices S) (names : Names) : Type 0 where
  pub there : (name : List ℕ) (device : ℕ) → names name ≡ Some device → IsThere devices device
  pub one : (name other : List ℕ) (device : ℕ) → names name ≡ Some device
      → names other ≡ Some device → name ≡ other

module _ {S : Type 0} (before after : Devices S) (names : Names) (fine : NamesFine before names)
    (name : List ℕ) (chosen : Option ℕ) where
  module _ (new : (device : ℕ) → chosen ≡ Some device
      → IsThere after device × (IsThere before device → ⊥)) where
    -- and all are fine where the devices of the others are still there
    pub names-renamed : ((other : List ℕ) (device : ℕ) → (name ≡ other → ⊥)
        → names other ≡ Some device → IsThere after device)
        → NamesFine after (with_name names name chosen)
    names-renamed stays = search rules
