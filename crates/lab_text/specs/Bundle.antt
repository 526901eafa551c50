-- The bundle of a scenario's parts (this project's own). A text is seen as its lines.
use Rattle.std.specs.Prelude.{◌≡◌, ℕ, ◌+◌, ◌&&◌, ◌||◌, not, Bool, false, ◌==◌, nat_le, nat_lt, if◌then◌else◌, codes, Option, Some, None, List, [], ◌∷◌, ◌++◌, length, filter, map, take_while}
use Rattle.std.specs.List.{list_all, list_any, filter_map, slice_get}
use Rattle.std.specs.Option.{option_map, option_to_list}
use Rattle.std.specs.Str.{bytes_eq}
use Rattle.lab_text.specs.Lines.{lines_of, is_skipped}
use Rattle.lab_text.specs.Names.{is_name}
use Rattle.lab_text.specs.Words.{words_of}
use Rattle.lab_text.specs.declared.bundle.Bundle.{Bundle}
use Rattle.lab_text.specs.declared.bundle.Part.{Part}
use Rattle.lab_text.specs.declared.bundle.BundleFault.{BundleFault}
use Rattle.lab_text.specs.declared.bundle.BundleFault.TheVariants.{TooBig, NotText, BadHeading, Twice, Stray, NoScript}

-- a line, without its newline
abbrev pub Line : Type 0
Line = List ℕ

-- what a heading opens: a part of a kind, and of a name, which is empty where the kind has none
pub data Title : Type 0 where
  Titled : (kind name : List ℕ) → Title

-- the title of a script
abbrev pub Script : Title
Script = Titled (codes "script") []

-- the two are one part of the bundle: of one kind, and of one name where it has one
abbrev pub is_same_title : Title → Title → Bool
is_same_title (Titled kind name) (Titled other own) = bytes_eq kind other && bytes_eq name own

-- ---- headings

-- the line is a heading: its first two bytes are `==`
abbrev pub is_heading : Line → Bool
is_heading (first ∷ second ∷ others) = first == 61 && second == 61
is_heading _ = false

-- what the words of a heading open, if they have one of the four forms: `== script`, `== history`,
-- `== table NAME` and `== log NAME`
abbrev pub title_of_words : List (List ℕ) → Option Title
title_of_words (mark ∷ kind ∷ []) =
    if bytes_eq mark (codes "==")
    && (bytes_eq kind (codes "script") || bytes_eq kind (codes "history"))
    then Some (Titled kind []) else None
title_of_words (mark ∷ kind ∷ name ∷ []) =
    if bytes_eq mark (codes "==") && is_name name
    && (bytes_eq kind (codes "table") || bytes_eq kind (codes "log"))
    then Some (Titled kind name) else None
title_of_words _ = None

-- what the heading opens, if it has one of the four forms
unfoldable pub title_of : Line → Option Title
title_of line = title_of_words (words_of line)

-- what the headings among the lines open
abbrev pub titles_of : List Line → List Title
titles_of lines = filter_map title_of (filter is_heading lines)

-- ---- faults, each line's in the order in which they are told

-- a tab, or 0x20 to 0x7E
abbrev pub is_text_byte : ℕ → Bool
is_text_byte byte = byte == 9 || (nat_le 32 byte && nat_le byte 126)

-- the byte may stand in a line, or is a newline, which ends one
abbrev pub is_body_byte : ℕ → Bool
is_body_byte byte = byte == 10 || is_text_byte byte

-- the line of that number has a byte that is no text
abbrev pub text_faults : ℕ → Line → List BundleFault
text_faults number line = if list_all is_text_byte line then [] else NotText number ∷ []

-- the heading of that number has none of the forms, or opens a part that was opened before
abbrev pub title_faults : List Title → ℕ → Option Title → List BundleFault
title_faults opened number None = BadHeading number ∷ []
title_faults opened number (Some title) =
    if list_any (is_same_title title) opened then Twice number ∷ [] else []

-- the faults of the line that follows those before it: bytes that are no text, those of a heading,
-- and before the first heading a line that is neither blank nor a comment
abbrev pub line_faults : List Line → Line → List BundleFault
line_faults before line =
    text_faults (length before + 1) line
    ++ (if is_heading line
    then title_faults (titles_of before) (length before + 1) (title_of line)
    else (if list_any is_heading before || is_skipped line then []
    else Stray (length before + 1) ∷ []))

-- the faults of the lines that follow those before them
unfoldable pub faults_after : List Line → List Line → List BundleFault
faults_after before [] = []
faults_after before (line ∷ lines) =
    line_faults before line ++ faults_after (before ++ line ∷ []) lines

-- ---- parts

-- the lines up to the next heading
abbrev pub body_of : List Line → List Line
body_of lines = take_while (λ line. not (is_heading line)) lines

-- the parts in their order: each has the lines after its heading, up to the next one
unfoldable pub parts_of : List Line → List (Title × List Line)
parts_of [] = []
parts_of (line ∷ lines) =
    map (λ title. (title, body_of lines)) (titles_of (line ∷ [])) ++ parts_of lines

-- a table's name and lines
abbrev pub as_table : Title × List Line → Option (List ℕ × List Line)
as_table (Titled kind name, lines) =
    if bytes_eq kind (codes "table") then Some (name, lines) else None

-- a script's lines
abbrev pub as_script : Title × List Line → Option (List Line)
as_script (title, lines) = if is_same_title Script title then Some lines else None

-- a log's name and lines
abbrev pub as_log : Title × List Line → Option (List ℕ × List Line)
as_log (Titled kind name, lines) =
    if bytes_eq kind (codes "log") then Some (name, lines) else None

-- a history's lines
abbrev pub as_history : Title × List Line → Option (List Line)
as_history (title, lines) =
    if is_same_title (Titled (codes "history") []) title then Some lines else None

-- the name and the lines of a part as it was read
abbrev pub part_of : Part → List ℕ × List Line
part_of part = (part.name.now, lines_of part.text.now)

-- the bundle has these parts, each kind's in their order
pub record HasParts (bundle : Bundle) (parts : List (Title × List Line)) : Type 0 where
  pub tables : map part_of bundle.tables.items ≡ filter_map as_table parts
  pub script : lines_of bundle.script.now ∷ [] ≡ filter_map as_script parts
  pub logs : map part_of bundle.logs.items ≡ filter_map as_log parts
  pub history : option_to_list (option_map (λ text. lines_of text.now) bundle.history)
      ≡ filter_map as_history parts

-- ---- the bundle

-- no script
abbrev pub script_faults : List (List Line) → List BundleFault
script_faults scripts = if nat_lt 0 (length scripts) then [] else NoScript ∷ []

-- more bytes than a bundle may have
abbrev pub size_faults : List ℕ → List BundleFault
size_faults bytes = if nat_lt 16777216 (length bytes) then TooBig ∷ [] else []

-- the faults of a bundle, in the order in which they are told: its size, its lines, its script
unfoldable pub bundle_faults : List ℕ → List BundleFault
bundle_faults bytes =
    size_faults bytes ++ (faults_after [] (lines_of bytes)
    ++ script_faults (filter_map as_script (parts_of (lines_of bytes))))

-- the first one, if there is one
abbrev pub first_of : List BundleFault → Option BundleFault
first_of faults = slice_get faults 0
