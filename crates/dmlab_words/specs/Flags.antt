-- The flags of the program, and which texts they have (this project's own).
use Rattle.std.specs.Prelude.{◌≡◌, ◌⊎◌, IfSome, List, [], ◌∷◌, codes}
use Rattle.std.specs.List.{AllByRecursion}
use Rattle.clap.specs.Words.{Text, one_of, subcommand_of}
use Rattle.dmlab_words.specs.CommandLine.{dmlab_app}

-- the text of a flag
abbrev pub IsFlagText : Text → Type 0
IsFlagText text = (text ≡ codes "true") ⊎ (text ≡ codes "false")

-- this flag of the subcommand that the words name has one of these texts, if it has any
abbrev pub IsTold : List Text → Text → Type 0
IsTold words flag = IfSome (subcommand_of dmlab_app words)
    (λ met. IfSome (one_of flag met.1) IsFlagText)

-- the flags, by their names
abbrev pub flags : List Text
flags = codes "all" ∷ codes "prompt" ∷ codes "history" ∷ codes "by-line" ∷ codes "disks"
    ∷ codes "eio" ∷ codes "lost" ∷ codes "corrupt" ∷ codes "stale" ∷ codes "misplaced"
    ∷ codes "broken-sync" ∷ codes "fail" ∷ []

-- whatever the words are, it is so of each flag
abbrev pub FlagsAreTold : Type 0
FlagsAreTold = (words : List Text) → AllByRecursion (IsTold words) flags
