-- What a check of all parts writes: the line of a check, and one for each other part of the bundle
-- that can't be read (this project's own).
use Rattle.std.specs.Prelude.{◌≡◌, ◌⊎◌, ℕ, List, [], ◌∷◌, ◌++◌, Option, Some, drop}
use Rattle.std.specs.List.{filter_map}
use Rattle.lab_text.specs.Bundle.{Line, bundle_faults}
use Rattle.lab_target.specs.Meaning.{Meaning}
use Rattle.lab_model.specs.Rules.{FaultSeen}
use Rattle.lab_rulebook.specs.PartsOf.{HasTexts, Texts}
use Rattle.lab_verify.specs.ReadFaults.{fault_found, read_faults}
use Rattle.dmlab_run.specs.Histories.{histories_of, history_read}
use Rattle.dmlab_run.specs.Lines.{Output, refused_lines}
use Rattle.dmlab_run.specs.Output.{IsOutput, bundle_fault}
use Rattle.dmlab_words.specs.declared.job.Job.TheVariants.{Check}

-- the fault that reading a history finds, if it finds one
abbrev pub history_fault : List Line → Option FaultSeen
history_fault lines = fault_found (λ fault. fault) (history_read (lines ∷ []))

-- the output, and behind it the lines of these faults, in order
abbrev pub told_with : Output → List FaultSeen → Output
told_with first others =
    record first { text = first.text ++ refused_lines others; others = others }

-- the bytes are a bundle, and these are the faults that are given for its texts and its histories
abbrev pub AreGiven : (Texts → List (List Line) → List FaultSeen) → List ℕ → List FaultSeen
    → Type 0
AreGiven given bytes faults = (bundle_faults bytes ≡ []) × (texts : Texts) × HasTexts bytes texts
    × (faults ≡ given texts (histories_of bytes))

module _ {S : Type 0} (m : Meaning S) where
  -- the faults that reading finds, at most one a part: in the tables, then the script, then the
  -- logs, then the history
  abbrev pub part_faults : Texts → List (List Line) → List FaultSeen
  part_faults texts histories = read_faults m texts ++ filter_map history_fault histories

  -- the same without the first one of the texts, which a check tells; it tells none of the history
  abbrev pub other_faults : Texts → List (List Line) → List FaultSeen
  other_faults texts histories =
      drop 1 (read_faults m texts) ++ filter_map history_fault histories

  -- the faults of a bundle beside the one that a check tells; where the bytes are no bundle there are
  -- none, since its parts can't be told apart
  abbrev pub AreOthers : List ℕ → List FaultSeen → Type 0
  AreOthers bytes faults = ((seen : FaultSeen) × (bundle_fault bytes ≡ Some seen) × (faults ≡ []))
      ⊎ AreGiven other_faults bytes faults

  -- the whole output of a check of all parts on these bytes: that of a check, and the lines of the
  -- faults beside the one that it tells
  abbrev pub IsAllOutput : List ℕ → Output → Type 0
  IsAllOutput bytes told = (first : Output) × (others : List FaultSeen)
      × IsOutput m Check bytes first × AreOthers bytes others × (told ≡ told_with first others)
