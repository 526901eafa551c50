-- The options of the program's subcommands, and what is read of them (the command line is this
-- project's own).
use Rattle.std.specs.Prelude.{ℕ, List, Some, Bool, true, false, codes, if◌then◌else◌}
use Rattle.std.specs.Option.{option_map_or}
use Rattle.std.specs.Str.{bytes_eq}
use Rattle.std.specs.Str.Parse.{digits_value, without_leading_plus}
use Rattle.clap.specs.ValueTests.{is_unsigned_in}
use Rattle.clap.specs.Words.{Row, Rule, Text, new_rule, one_of}
use Rattle.clap.specs.declared.builder.action.ArgAction.TheVariants.{SetTrue}
use Rattle.clap.specs.declared.builder.value_parser.ValueParser.TheVariants.{Unsigned}

-- `--NAME N`, N a u64
abbrev pub number_rule : Text → Rule
number_rule name = record (new_rule name) {
  long = Some name;
  value_names = 1;
  parser = Some (Unsigned 0 18446744073709551615);
}

-- `--seed N`
abbrev pub seed_rule : Rule
seed_rule = number_rule (codes "seed")

-- `--first N`
abbrev pub first_rule : Rule
first_rule = number_rule (codes "first")

-- `--last N`, which is wanted
abbrev pub last_rule : Rule
last_rule = record (number_rule (codes "last")) { required = true }

-- `[FILE]`, the name of the bundle's file
abbrev pub file_rule : Rule
file_rule = new_rule (codes "FILE")

-- `--NAME`, which takes nothing
abbrev pub flag_rule : Text → Rule
flag_rule name = record (new_rule name) {
  long = Some name;
  action = Some SetTrue;
}

-- `--all`
abbrev pub all_rule : Rule
all_rule = flag_rule (codes "all")

-- `--history`
abbrev pub history_rule : Rule
history_rule = flag_rule (codes "history")

-- `--prompt`
abbrev pub prompt_rule : Rule
prompt_rule = flag_rule (codes "prompt")

-- `--by-line`
abbrev pub by_line_rule : Rule
by_line_rule = flag_rule (codes "by-line")

-- `--disks`
abbrev pub disks_rule : Rule
disks_rule = flag_rule (codes "disks")

-- the u64 that the text writes; 0 where it writes none, but such a text is a fault
abbrev pub written_number : Text → ℕ
written_number text = if is_unsigned_in 0 18446744073709551615 text
    then digits_value 10 (without_leading_plus text) else 0

-- the number that was given under this name, 0 where none was
abbrev pub number_under : Text → List Row → ℕ
number_under name rows = option_map_or written_number (one_of name rows) 0

-- the seed that was given, 0 where none was
abbrev pub seed_of : List Row → ℕ
seed_of rows = number_under (codes "seed") rows

-- whether the flag of this name was given: the parser gives it the text `true` then, and `false`
-- elsewhere (no other one, as `FlagsAreTold` says)
abbrev pub is_asked : Text → List Row → Bool
is_asked name rows = option_map_or (λ text. bytes_eq text (codes "true")) (one_of name rows) false
