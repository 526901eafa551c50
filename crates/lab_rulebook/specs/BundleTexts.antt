-- The texts of a bundle that was read are those of its bytes (this project's own).
use Rattle.std.specs.Prelude.{ℕ, List}
use Rattle.lab_text.specs.Bundle.{HasParts, parts_of}
use Rattle.lab_text.specs.Lines.{lines_of}
use Rattle.lab_text.specs.declared.bundle.Bundle.{Bundle}
use Rattle.lab_rulebook.specs.PartsOf.{HasTexts, texts_of}

-- a bundle with the parts of some bytes has their texts
abbrev pub BundleHasTexts : Type 0
BundleHasTexts = (bytes : List ℕ) (bundle : Bundle) → HasParts bundle (parts_of (lines_of bytes))
    → HasTexts bytes (texts_of bundle)
