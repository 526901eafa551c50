-- Two states that no run reaches, since a bio keeps its log busy and a log has no moment of its own
-- before the replay: the definitions say what they mean there too.
use Rattle.lab_model.proofs.Common.{no_files, opening, is_done, is_enabled, operation}
use Rattle.test_examples.specs.Words.{◌≡◌, true, false, [], ◌∷◌, Some, refl, Ram, Ref, Sync, Clock}
use Rattle.test_examples.specs.Words.{Scenario, State, disk}

-- disk 0 and nothing else
abbrev empty : Scenario Ref
empty = record { disks = disk 0 2 ∷ []; versions = []; micros = []; logs = [] }

-- with no script and no log all is done at once
done : is_done empty (opening empty) ≡ true
done = refl

-- a bio that lives, of no log
abbrev alone : State Ref
alone = record (opening empty) {
  bios = Some (operation 1 4 (Ram 0) Sync (record { first = 0; len = 0 })) ∷ [];
}

-- not all is done while the bio lives
not_while_a_bio_lives : is_done empty alone ≡ false
not_while_a_bio_lives = refl

-- a log with a moment, before the replay
abbrev early : State Ref
early = record (opening empty) {
  logs = record { taken = 0; moment = 5; files = no_files; answers = [] } ∷ [];
}

-- the clock doesn't go on for that moment
no_moment_before_the_replay : is_enabled empty early Clock ≡ false
no_moment_before_the_replay = refl
