-- What the answers of functions are searched with, each ruleset by its function's name.
use Rattle.lab_queue.proofs.Flats.{flat-insert, read-length, flat-remove_row, flat-set, flat-parts}
use Rattle.lab_queue.proofs.Flats.{remove-middle}
use Rattle.lab_queue.proofs.Indexes.{index-empty}
use Rattle.lab_queue.proofs.OnceEach.{none-ranked, own-is, ranks-own}
use Rattle.lab_queue.proofs.Searches.{first-stands, first-place}
use Rattle.std.proofs.lemmas.List.{get_or_read}

-- nothing is held and nothing ranked
pub ruleset new = index-empty

-- nothing has a moment
pub ruleset no_moments = (none-ranked, own-is, ranks-own)

-- the first row has an entry
pub ruleset first = first-stands

-- the row gets it at its place, and so does the list
pub ruleset insert_within = (get_or_read, flat-insert)

-- one of the row's entries goes
pub ruleset remove = (
  read-length,
  flat-remove_row,
  get_or_read,
  flat-set,
  flat-parts,
  remove-middle,
)

-- the first entry has the first place of the whole list
pub ruleset spot_from_front = first-place
