-- NAMEs, which name tables, logs and devices (this project's own).
use Rattle.std.specs.Prelude.{ℕ, Bool, ◌&&◌, ◌||◌, ◌==◌, nat_le, List, length}
use Rattle.std.specs.List.{list_all, slice_index}
use Rattle.std.specs.Char.{is_ascii_alphanumeric}

-- a letter, a digit or `_`
abbrev pub is_name_start : ℕ → Bool
is_name_start byte = is_ascii_alphanumeric byte || byte == 95

-- one of these, `.` or `-`
abbrev pub is_name_byte : ℕ → Bool
is_name_byte byte = is_name_start byte || byte == 46 || byte == 45

-- the word is a NAME: 1 to 32 of these bytes, the first one a letter, a digit or `_`; a word of no
-- byte has 0 for its first one, which is none of these
unfoldable pub is_name : List ℕ → Bool
is_name word =
    is_name_start (slice_index word 0) && nat_le (length word) 32 && list_all is_name_byte word
