-- The text of a place (this project's own).
use Rattle.std.specs.Prelude.{ℕ, ◌+◌, ◌-◌, ◌/◌, ◌%◌, nat_lt, if◌then◌else◌, codes, decimal, Option, Some, None, List, [], ◌∷◌, ◌++◌, length, take}
use Rattle.std.specs.List.{flat_map}
use Rattle.lab_text.specs.Bundle.{Line, is_text_byte}
use Rattle.lab_advice.specs.declared.lines.Part.{Part}
use Rattle.lab_advice.specs.declared.lines.Part.TheVariants.{Whole, Table, Script, Log, History}
use Rattle.lab_advice.specs.declared.place.Place.{Place}

-- ---- bytes

-- the hexadecimal digit of a value below 16, a capital from 10 on
abbrev pub hex_digit : ℕ → ℕ
hex_digit value = if nat_lt value 10 then 48 + value else 65 + (value - 10)

-- the byte as it is shown: a tab and 0x20 to 0x7E as they are, another as `\xHH`
abbrev pub byte_shown : ℕ → List ℕ
byte_shown byte =
    if is_text_byte byte then byte ∷ []
    else codes "\\x" ++ hex_digit (byte / 16) ∷ hex_digit (byte % 16) ∷ []

-- the bytes as they are shown
unfoldable pub bytes_shown : List ℕ → List ℕ
bytes_shown bytes = flat_map byte_shown bytes

-- the line up to its first 200 bytes, with `..` where it has more
unfoldable pub line_shown : Line → List ℕ
line_shown line =
    bytes_shown (take 200 line) ++ (if nat_lt 200 (length line) then codes ".." else [])

-- ---- a place

-- behind the number of a line in the bundle, its number in its part
abbrev pub within_text : Part → ℕ → List ℕ
within_text Whole within = []
within_text (Table name) within =
    codes ", table " ++ line_shown name.now ++ codes " line " ++ decimal within
within_text Script within = codes ", script" ++ codes " line " ++ decimal within
within_text (Log name) within =
    codes ", log " ++ line_shown name.now ++ codes " line " ++ decimal within
within_text History within = codes ", history" ++ codes " line " ++ decimal within

-- the number of a line in the bundle
abbrev pub number_text : ℕ → List ℕ
number_text number = codes "dmlab: line " ++ decimal number ++ codes " of the bundle"

-- the line itself
abbrev pub shown_text : Line → List ℕ
shown_text line = codes ": " ++ line_shown line ++ codes "\n"

-- the line that tells a place: `dmlab: line N of the bundle, PART line L: LINE`
abbrev pub place_text : Place → List ℕ
place_text place =
    number_text place.number ++ within_text place.part place.within ++ shown_text place.line.now

-- the line that tells a place, if there is one
abbrev pub told_text : Option Place → List ℕ
told_text None = []
told_text (Some place) = place_text place
