-- Corrupt writes: a byte is changed on the way to the disk.
use Rattle.test_examples.proofs.Places.{places}
use Rattle.test_examples.specs.Words.{◌≡◌, ℕ, List, [], ◌∷◌, ◌++◌, Option, Some, Ram, Dm}
use Rattle.test_examples.specs.Words.{Write, Map, Serve, Finish}
use Rattle.test_examples.specs.Words.{one_row, operate, stacked}
use Rattle.test_examples.specs.Words.{controls, first_lines, Mood}
use Rattle.test_examples.specs.Words.{Spoil, moody, as_told, noted_for, everything, Corrupt}
use Rattle.test_examples.specs.Words.{Noted, sectors, wrong, by, found}

-- a write over a device over another one, of which both have a line with these moods
abbrev layered : List Mood → List Mood → Option (List Noted)
layered low top = noted_for as_told (stacked 4 (one_row 4 (moody (Ram 0) 0 low))
    (one_row 4 (moody (Dm 0) 0 top)) [] (operate Write 0 1 ∷ [])) everything
    (controls 3 ++ first_lines 1 ++ Map 1 ∷ Map 2 ∷ Serve 3 ∷ Finish 2 ∷ Finish 1 ∷ [])

-- what is noted of it, where this device did it
abbrev done_by : ℕ → Option (List Noted)
done_by device =
    Some (found Corrupt 1 4 Write (Dm 1) (sectors 0 1) (wrong 0 1) (by device 1) ∷ [])

-- the lower one did it
lower : layered (Spoil 7 ∷ []) [] ≡ done_by 0
lower = simp places

-- the upper one did it
upper : layered [] (Spoil 7 ∷ []) ≡ done_by 1
upper = simp places

-- where both change the byte the upper one's bio is the lowest that has it right
both : layered (Spoil 8 ∷ []) (Spoil 7 ∷ []) ≡ done_by 1
both = simp places
