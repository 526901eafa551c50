-- A text that was added to (this project's own).
use Rattle.std.specs.Prelude.{◌≡◌, ℕ, List, ◌++◌}

-- the new text begins with the old one
abbrev pub Extends : List ℕ → List ℕ → Type 0
Extends old new = (more : List ℕ) × (new ≡ old ++ more)
