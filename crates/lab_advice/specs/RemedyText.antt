-- The text of a remedy (this project's own).
use Rattle.std.specs.Prelude.{ℕ, codes, decimal, List, [], ◌∷◌, ◌++◌, flat_map}
use Rattle.std.specs.String.{string_bytes}
use Rattle.lab_advice.specs.declared.remedy.Mend.{Mend}
use Rattle.lab_advice.specs.declared.remedy.Remedy.{Remedy}
use Rattle.lab_advice.specs.declared.remedy.Spot.{Spot}
use Rattle.lab_advice.specs.declared.remedy.Spot.TheVariants.{On, Before, Blank}

-- where the line to write goes, or which one to leave blank
abbrev pub spot_text : Spot → List ℕ
spot_text (On number) = codes ". Write on line " ++ decimal number ++ codes ": "
spot_text (Before number) = codes ". Write before line " ++ decimal number ++ codes ": "
spot_text (Blank number) = codes ". Leave line " ++ decimal number ++ codes " blank"

-- where a line that may be meant goes
abbrev pub asked_text : Spot → List ℕ
asked_text (On number) = codes " On line " ++ decimal number ++ codes ": `"
asked_text (Before number) = codes " Before line " ++ decimal number ++ codes ": `"
asked_text (Blank number) = codes " Line " ++ decimal number ++ codes " blank: `"

-- one of the lines that may be meant
abbrev pub choice_text : Mend → List ℕ
choice_text mend = (asked_text mend.spot ++ string_bytes mend.line) ++ codes "`?"

-- what to write: nothing but a full stop, one line, or the question which of some lines is meant
abbrev pub mends_text : List Mend → List ℕ
mends_text [] = codes "."
mends_text (mend ∷ []) = spot_text mend.spot ++ string_bytes mend.line
mends_text mends = codes ". Which is meant?" ++ flat_map choice_text mends

-- the line that tells a remedy: `dmlab: WHY`, and what to write
abbrev pub remedy_text : Remedy → List ℕ
remedy_text remedy =
    codes "dmlab: " ++ string_bytes remedy.why ++ mends_text remedy.mends.items ++ codes "\n"
