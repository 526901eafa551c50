-- A bundle with a line to write in its place (this project's own).
use Rattle.std.specs.Prelude.{ℕ, ◌==◌, nat_lt, if◌then◌else◌, List, [], ◌++◌, flat_map, length}
use Rattle.std.specs.List.{enumerate_from}
use Rattle.std.specs.String.{string_bytes}
use Rattle.lab_model.specs.Report.{text_line}
use Rattle.lab_text.specs.Bundle.{Line}
use Rattle.lab_text.specs.Lines.{lines_of}
use Rattle.lab_advice.specs.declared.remedy.Mend.{Mend}
use Rattle.lab_advice.specs.declared.remedy.Spot.{Spot}
use Rattle.lab_advice.specs.declared.remedy.Spot.TheVariants.{On, Before, Blank}

-- the number of the line that a mend is for
abbrev pub spot_number : Spot → ℕ
spot_number (On number) = number
spot_number (Before number) = number
spot_number (Blank number) = number

-- what stands in the place of the line that a mend is for: before it, or in its place
abbrev pub put_text : Mend → Spot → Line → List ℕ
put_text mend (Before number) line = text_line (string_bytes mend.line) ++ text_line line
put_text mend spot line = text_line (string_bytes mend.line)

-- the line of this number, or what the mend puts in its place
abbrev pub line_mended : Mend → ℕ → Line → List ℕ
line_mended mend at line =
    if at == spot_number mend.spot then put_text mend mend.spot line else text_line line

-- the mend's line behind this many lines, if it is for none of them
abbrev pub rest_mended : Mend → ℕ → List ℕ
rest_mended mend count =
    if nat_lt count (spot_number mend.spot) then text_line (string_bytes mend.line) else []

-- the bundle's text with the mend in its place; lines are counted from 1
abbrev pub mended_text : List ℕ → Mend → List ℕ
mended_text bytes mend =
    flat_map (λ numbered. line_mended mend numbered.0 numbered.1) (enumerate_from 1 (lines_of bytes))
    ++ rest_mended mend (length (lines_of bytes))
