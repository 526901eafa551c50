-- Bytes that a flakey line changes: a fixed one is counted in the piece, a random one is set after
-- it, and of two lines over one another the lower one changes its byte first.
use Rattle.lab_model.proofs.Common.{option_map, Marks}
use Rattle.test_examples.specs.Words.{String, ◌≡◌, ℕ, false, List, [], ◌∷◌, ◌++◌, Option, Some, None}
use Rattle.test_examples.specs.Words.{refl, Dm, Reads, Writes, FlakeyLine, flakey, no_features, Read}
use Rattle.test_examples.specs.Words.{Write, Entry, Event, Line, Map, Serve, Finish, Scenario, State}
use Rattle.test_examples.specs.Words.{bio_of, Table, to, row, one_row, operate, log_on, replayed}
use Rattle.test_examples.specs.Words.{stacked, controls, first_lines, entered, mapped, through}
use Rattle.test_examples.specs.Words.{reached, leads, reported, lines, counting, flaky, fixed_byte}
use Rattle.test_examples.specs.Words.{digits, runs_list, runs_text}
use Rattle.lab_flakey.specs.declared.feature.Features.{Features}
use Rattle.lab_flakey.specs.Features.{certain}

-- one device over disk 0, and a log on it
abbrev scenario : Table (FlakeyLine ℕ) → List Entry → Scenario (FlakeyLine ℕ)
scenario table entries = replayed 8 table (log_on (Dm 0) entries ∷ [])

-- `0 8 flakey /dev/ram0 0 0 1 5 corrupt_bio_byte 513 r 1 0`, and a read of two sectors
of_one_piece : reported (flakey counting)
    (scenario (one_row 8 (flaky 0 0 1 (fixed_byte 513 Reads 1))) (operate Read 0 2 ∷ []))
    (mapped ++ Serve 2 ∷ Finish 1 ∷ [])
    ≡ lines ("accepted budget=8" ∷ "log a" ∷ "4 read 512x00 1x01 511x00"
    ∷ "done steps=8 clock=0 now=0" ∷ [])
unfolding runs_list runs_text digits
of_one_piece = refl

-- the same with a line of each sector: no piece has 513 bytes
of_two_pieces : reported (flakey counting)
    (scenario (row 0 1 (flaky 0 0 1 (fixed_byte 513 Reads 1))
    ∷ row 1 1 (flaky 1 0 1 (fixed_byte 513 Reads 1)) ∷ []) (operate Read 0 2 ∷ []))
    (mapped ++ Serve 2 ∷ Serve 3 ∷ Finish 1 ∷ [])
    ≡ lines ("accepted budget=9" ∷ "log a" ∷ "4 read 1024x00" ∷ "done steps=9 clock=0 now=0" ∷ [])
unfolding runs_list runs_text digits
of_two_pieces = refl

-- a line of sector 0 that is always up, and one of these features from sector 1 on
abbrev from_sector_1 : Features → Table (FlakeyLine ℕ)
from_sector_1 features = row 0 1 (flaky 0 1 0 no_features) ∷ row 1 7 (flaky 1 0 1 features) ∷ []

-- a line that starts at sector 1, and a piece that starts at sector 3: the same byte of the piece
of_a_later_piece : reported (flakey counting)
    (scenario (from_sector_1 (fixed_byte 2 Reads 1)) (operate Read 3 2 ∷ []))
    (mapped ++ Serve 2 ∷ Finish 1 ∷ [])
    ≡ lines ("accepted budget=8" ∷ "log a" ∷ "4 read 1x00 1x01 1022x00"
    ∷ "done steps=8 clock=0 now=0" ∷ [])
unfolding runs_list runs_text digits
of_a_later_piece = refl

-- `corrupt_bio_byte 2 w 255 0` on the second line: the disk has the byte, and a read shows it
-- after the first line's sector, which has it not
of_a_write : reported (flakey counting)
    (scenario (from_sector_1 (fixed_byte 2 Writes 255))
    (operate Write 0 2 ∷ operate Read 0 2 ∷ []))
    (mapped ++ Serve 2 ∷ Serve 3 ∷ Finish 1 ∷ Line 1 ∷ Map 4 ∷ Serve 5 ∷ Serve 6 ∷ Finish 4 ∷ [])
    ≡ lines ("accepted budget=14" ∷ "log a" ∷ "4 write ok" ∷ "5 read 513x14 1xff 510x14"
    ∷ "done steps=14 clock=0 now=0" ∷ [])
unfolding runs_list runs_text digits
of_a_write = refl

-- the marks of the bio of a number
abbrev marks_on : ℕ → Option (State (FlakeyLine ℕ)) → Option Marks
marks_on number None = None
marks_on number (Some s) = option_map (λ bio. bio.marks) (bio_of s number)

-- a write's mark is in what it writes, and stands beside it: byte 1 becomes 255
written_mark : marks_on 2 (reached (flakey counting)
    (scenario (one_row 8 (flaky 0 0 1 (fixed_byte 2 Writes 255))) (operate Write 0 2 ∷ [])) mapped)
    ≡ Some (record { fixed = Some (record { place = 1; value = 255 }); random = None })
written_mark = refl

-- `0 8 flakey /dev/ram0 0 0 1` with these features, and a log of two reads
abbrev drawing : Features → Scenario (FlakeyLine ℕ)
drawing features =
    scenario (one_row 8 (flaky 0 0 1 features)) (operate Read 0 1 ∷ operate Read 3 1 ∷ [])

-- the two reads; each piece draws a chance, a place and a value of a generator whose words count
-- up
abbrev two_reads : List Event
two_reads = entered ++ through 1 ++ Line 1 ∷ through 3

-- the report of the two reads
abbrev drawn : Features → Option (List ℕ)
drawn features = reported (flakey counting) (drawing features) two_reads

-- a report where byte 1 of the first read is the drawn 2, and the second read is told so
abbrev told : String → Option (List ℕ)
told second = lines ("accepted budget=12" ∷ "log a" ∷ "4 read 1x00 1x02 510x00" ∷ second
    ∷ "done steps=12 clock=0 now=0" ∷ [])

-- words 0, 1, 2: byte 1, counted from 0, is the fixed one too, and gets the drawn value 2;
-- words 3, 4, 5: byte 4 becomes 5
drawn_after_fixed : drawn (record (fixed_byte 2 Reads 7) { random_read = Some certain })
    ≡ told "5 read 1x00 1x07 2x00 1x05 507x00"
unfolding runs_list runs_text digits
drawn_after_fixed = refl

-- with chance 1 the word 0 draws; the words 3 and 4 don't, and each of them is taken alone
drawn_by_chance : drawn (record no_features { random_read = Some 1 }) ≡ told "5 read 512x00"
unfolding runs_list runs_text digits
drawn_by_chance = refl

-- `0 4 flakey /dev/dm-0 0 0 1 5 corrupt_bio_byte 2 r 9 0`
abbrev top : FlakeyLine ℕ
top = record (flaky 0 0 1 (fixed_byte 2 Reads 9)) { reference = to (Dm 0) 0 }

-- it stands over `0 4 flakey /dev/ram0 0 0 1 5 corrupt_bio_byte NTH r 1 0`, and a sector is read
abbrev layered : ℕ → Scenario (FlakeyLine ℕ)
layered nth = stacked 4 (one_row 4 (flaky 0 0 1 (fixed_byte nth Reads 1))) (one_row 4 top) []
    (operate Read 1 1 ∷ [])

-- the read goes down through both, and the disk answers it
abbrev down : List Event
down = controls 3 ++ first_lines 1 ++ Map 1 ∷ Map 2 ∷ Serve 3 ∷ []

-- the report of that, where the lower one changes this byte
abbrev read_down : ℕ → Option (List ℕ)
read_down nth = reported (flakey counting) (layered nth) (down ++ Finish 2 ∷ Finish 1 ∷ [])

-- where the lower one changes byte 3, both bytes are changed
two_bytes : read_down 3 ≡ lines ("accepted budget=11" ∷ "log a" ∷ "4 read 1x00 1x09 1x01 509x00"
    ∷ "done steps=11 clock=0 now=0" ∷ [])
unfolding runs_list runs_text digits
two_bytes = refl

-- where it changes byte 2 too, the upper one's change stays
one_byte : read_down 2 ≡ lines ("accepted budget=11" ∷ "log a" ∷ "4 read 1x00 1x09 510x00"
    ∷ "done steps=11 clock=0 now=0" ∷ [])
unfolding runs_list runs_text digits
one_byte = refl

-- the lower bio is answered before the upper one
not_before_below : leads (flakey counting) (layered 2) (down ++ Finish 1 ∷ []) ≡ false
not_before_below = refl
