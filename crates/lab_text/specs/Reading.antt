-- A bundle while it is read (this project's own).
use Rattle.std.specs.Prelude.{ℕ, ◌+◌, not, ◌||◌, if◌then◌else◌, Bool, List, [], ◌∷◌, ◌++◌, drop, codes, IsTrue}
use Rattle.std.specs.List.{prefix_len}
use Rattle.lab_text.specs.Bundle.{Line, Title, Titled, Script, is_heading, text_faults}
use Rattle.lab_text.specs.Lines.{is_skipped}
use Rattle.lab_text.specs.declared.bundle.BundleFault.TheVariants.{Stray}
use Rattle.lab_text.specs.declared.bundle.BundleFault.{BundleFault}
use Rattle.lab_text.specs.declared.heading.Heading.{Heading}
use Rattle.lab_text.specs.declared.heading.Heading.TheVariants as heading

-- what the heading opens
abbrev pub title : Heading → Title
title (heading.Table name) = Titled (codes "table") name.now
title heading.Script = Script
title (heading.Log name) = Titled (codes "log") name.now
title heading.History = Titled (codes "history") []

-- the lines from the next heading on
abbrev pub after_body : List Line → List Line
after_body lines = drop (prefix_len (λ line. not (is_heading line)) lines) lines

-- no line is left, or the first is a heading
abbrev pub BeginsPart : List Line → Type 0
BeginsPart [] = Unit {0}
BeginsPart (line ∷ lines) = IsTrue (is_heading line)

-- the faults of a line that is no heading
abbrev pub plain_faults : Bool → ℕ → Line → List BundleFault
plain_faults in_part number line =
    text_faults number line ++ (if in_part || is_skipped line then [] else Stray number ∷ [])

-- the faults of lines that are no headings, from that number on
abbrev pub body_faults : Bool → ℕ → List Line → List BundleFault
body_faults in_part number [] = []
body_faults in_part number (line ∷ lines) =
    plain_faults in_part number line ++ body_faults in_part (number + 1) lines
