-- Device words: paths, and numbers as a table prints them (dmsetup(8); that N is a decimal
-- number with leading zeros
-- allowed is this project's own).
use Rattle.std.specs.Prelude.{ℕ, Bool, ◌&&◌, List, Option, Some, None, drop, length, take, if◌then◌else◌}
use Rattle.std.specs.Str.{bytes_eq}
use Rattle.lab_text.specs.Names.{is_name}
use Rattle.lab_text.specs.Numbers.{number_to}

-- whether a word begins so
abbrev pub begins : List ℕ → List ℕ → Bool
begins prefix word = bytes_eq (take (length prefix) word) prefix

-- the device number after a prefix, at most 4294967295
abbrev pub number_after : List ℕ → List ℕ → Option ℕ
number_after prefix word =
    if begins prefix word then number_to 4294967295 (drop (length prefix) word) else None

-- the name after a prefix
abbrev pub name_after : List ℕ → List ℕ → Option (List ℕ)
name_after prefix word = if begins prefix word && is_name (drop (length prefix) word)
    then Some (drop (length prefix) word) else None
