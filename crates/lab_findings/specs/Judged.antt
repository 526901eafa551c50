-- What is wrong with an answer, and why (this project's own).
use Rattle.std.specs.Prelude.{ℕ, ◌+◌, ◌-◌, ◌==◌, ◌&&◌, nat_lt, is_some, not, map, List, [], ◌∷◌, ◌++◌}
use Rattle.std.specs.Prelude.{Option, Some, None, Bool, true, false, if◌then◌else◌, option_map}
use Rattle.std.specs.Option.{option_or, option_to_list}
use Rattle.lab_sector.specs.declared.request.Kind.{Kind}
use Rattle.lab_sector.specs.declared.request.Kind.TheVariants.{Read, Write, Trim, Flush}
use Rattle.lab_model.specs.Sectors.{Sectors}
use Rattle.lab_next.specs.declared.writer.Writer.{Writer}
use Rattle.lab_watch.specs.Grids.{Grid, writer_at, writers_in}
use Rattle.lab_findings.specs.declared.answered.Answered.{Answered}
use Rattle.lab_findings.specs.declared.culprit.Culprit.{Culprit}
use Rattle.lab_findings.specs.declared.deed.Deed.{Deed}
use Rattle.lab_findings.specs.declared.finding.Finding.{Finding}
use Rattle.lab_findings.specs.declared.finding.Finding.TheVariants.{Eio, Lost, Corrupt, Stale, Misplaced, BrokenSync}
use Rattle.lab_findings.specs.declared.found.Wrong.{Wrong}
use Rattle.lab_findings.specs.declared.noted.Noted.{Noted}
use Rattle.lab_findings.specs.declared.noted.Noted.TheVariants as noted
use Rattle.lab_findings.specs.declared.why.Why.{Why}
use Rattle.lab_findings.specs.Changes.{changed_hits}
use Rattle.lab_findings.specs.Culprits.{culprit_at}
use Rattle.lab_findings.specs.Deeds.{Deeds, deed_of}
use Rattle.lab_findings.specs.Watched.{Watched, device_reach, grid_number}
use Rattle.lab_findings.specs.Wrongs.{wrong_from}

-- which of some sectors have a writer
abbrev pub written_hits : List (Option Writer) → List Bool
written_hits row = map is_some row

-- whether an operation that is known so was answered before the bio of a number was made
abbrev pub answered_before : ℕ → Option ℕ → Bool
answered_before number None = false
answered_before number (Some made) = nat_lt made number

-- whether what an operation that is known so wrote is older than a claim: it was answered before the
-- claim's operation was issued, and not both are the zeroes of trims
abbrev pub is_older_deed : Deed → Option Deed → Bool
is_older_deed claim None = false
is_older_deed claim (Some deed) =
    answered_before claim.bio deed.made && not (claim.trims && deed.trims)

-- whether what a sector was answered is older than a claim to it: nobody's zeroes are, but not where
-- the claim's are a trim's zeroes too
abbrev pub is_older : Deeds → Deed → Option Writer → Bool
is_older deeds claim None = not claim.trims
is_older deeds claim (Some writer) = is_older_deed claim (deed_of deeds writer.origin)

-- whether it is older than the claim of an operation that is known so
abbrev pub is_older_than : Deeds → Option Writer → Option Deed → Bool
is_older_than deeds got None = false
is_older_than deeds got (Some claim) = is_older deeds claim got

-- whether a sector is stale that has this claim and was answered so
abbrev pub is_stale : Deeds → Option Writer → Option Writer → Bool
is_stale deeds None got = false
is_stale deeds (Some claim) got = is_older_than deeds got (deed_of deeds claim.origin)

-- which sectors of the read of a number, from a place on, are stale, where these are the claims from
-- there on
abbrev pub stale_hits : Deeds → Grid → ℕ → ℕ → List (Option Writer) → List Bool
stale_hits deeds reads number place [] = []
stale_hits deeds reads number place (claim ∷ claims) =
    is_stale deeds claim (writer_at reads number place)
    ∷ stale_hits deeds reads number (place + 1) claims

-- which of some sectors are stale, where these are the claims to them and who wrote what they were
-- answered
abbrev pub stale_pairs : Deeds → List (Option Writer) → List (Option Writer) → List Bool
stale_pairs deeds [] answers = []
stale_pairs deeds (claim ∷ claims) [] = []
stale_pairs deeds (claim ∷ claims) (got ∷ answers) =
    is_stale deeds claim got ∷ stale_pairs deeds claims answers

-- whether a sector of an operation that is known so stands elsewhere on this device than at a sector
abbrev pub is_elsewhere : ℕ → ℕ → ℕ → Option Deed → Bool
is_elsewhere device first sector None = false
is_elsewhere device first sector (Some deed) =
    (deed.device == device) && not (deed.first + sector == first)

-- whether what a sector of a device was answered was written under another of its sectors
abbrev pub is_misplaced : Deeds → ℕ → ℕ → Option Writer → Bool
is_misplaced deeds device first None = false
is_misplaced deeds device first (Some writer) =
    is_elsewhere device first writer.sector (deed_of deeds writer.origin)

-- which of some sectors of a device, from one on, are misplaced, that were answered so
abbrev pub misplaced_hits : Deeds → ℕ → ℕ → List (Option Writer) → List Bool
misplaced_hits deeds device first [] = []
misplaced_hits deeds device first (got ∷ others) =
    is_misplaced deeds device first got ∷ misplaced_hits deeds device (first + 1) others

-- no reason is known
abbrev pub no_reason : Why
no_reason = record { culprit = None; got = None; wanted = None }

module _ (watched : Watched) (op : Answered) where
  -- the sectors of a write or trim that lines dropped
  abbrev pub lost_wrong : Option Wrong
  lost_wrong = wrong_from op.span.first
      (written_hits (writers_in watched.writers.drops op.number 0 op.span.len))

  -- the sectors of a write that reached a disk with another byte
  abbrev pub spoiled_wrong : Option Wrong
  spoiled_wrong = wrong_from op.span.first
      (written_hits (writers_in watched.spoiled op.number 0 op.span.len))

  -- the sectors of a read that were answered another byte than was written, where these are answered
  abbrev pub corrupt_wrong : Sectors → Option Wrong
  corrupt_wrong sectors = wrong_from op.span.first (changed_hits watched.deeds
      (writers_in watched.writers.reads op.number 0 op.span.len) sectors)

  -- the sectors of a read that are stale
  abbrev pub stale_wrong : Option Wrong
  stale_wrong = wrong_from op.span.first (stale_hits watched.deeds watched.writers.reads op.number 0
      (writers_in watched.claims op.number 0 op.span.len))

  -- the sectors of a read that are misplaced
  abbrev pub misplaced_wrong : Option Wrong
  misplaced_wrong = wrong_from op.span.first (misplaced_hits watched.deeds
      (grid_number op.device) op.span.first
      (writers_in watched.writers.reads op.number 0 op.span.len))

  -- the sectors of a sync's device that stood lost when it was issued
  abbrev pub lapsed_wrong : Option Wrong
  lapsed_wrong = wrong_from 0 (written_hits (writers_in watched.claims op.number 0 device_reach))

  -- who wrote what a read is answered at a sector of it
  abbrev pub got_at : ℕ → Option Writer
  got_at sector = writer_at watched.writers.reads op.number sector

  -- who claims a sector
  abbrev pub claim_at : ℕ → Option Writer
  claim_at sector = writer_at watched.claims op.number sector

  -- which line dropped the first lost sector of the operation of a number, if it lost one
  abbrev pub dropper : ℕ → Option ℕ → Option Culprit
  dropper number None = None
  dropper number (Some sector) = culprit_at watched.culprits number sector

  -- which line dropped the first lost sector of an operation, where it is known so
  abbrev pub loser : Option Deed → Option Culprit
  loser None = None
  loser (Some deed) = dropper deed.bio deed.lost

  -- which line dropped the first lost sector of a writer's operation
  abbrev pub loser_of : Option Writer → Option Culprit
  loser_of None = None
  loser_of (Some writer) = loser (deed_of watched.deeds writer.origin)

  -- which line changed a sector on its way to a disk, where its operation is known so
  abbrev pub changer : ℕ → Option Deed → Option Culprit
  changer sector None = None
  changer sector (Some deed) = culprit_at watched.culprits deed.bio sector

  -- which line changed a writer's sector on its way to a disk
  abbrev pub changer_of : Option Writer → Option Culprit
  changer_of None = None
  changer_of (Some writer) = changer writer.sector (deed_of watched.deeds writer.origin)

  -- why a sector of a write or trim is wrong: the line that dropped or changed it
  abbrev pub why_written : ℕ → Why
  why_written sector = record {
    culprit = culprit_at watched.culprits op.number sector;
    got = None;
    wanted = None;
  }

  -- why a sector of a read is corrupt: the line that changed it on its way back, or else on its way to
  -- the disk
  abbrev pub why_corrupt : ℕ → Why
  why_corrupt sector = record {
    culprit = option_or (culprit_at watched.culprits op.number sector)
        (changer_of (got_at sector));
    got = got_at sector;
    wanted = got_at sector;
  }

  -- why a sector of a read is stale: the line that lost what should have been there
  abbrev pub why_stale : ℕ → Why
  why_stale sector = record {
    culprit = loser_of (claim_at sector);
    got = got_at sector;
    wanted = claim_at sector;
  }

  -- where a misplaced sector comes from
  abbrev pub why_misplaced : ℕ → Why
  why_misplaced sector =
      record { culprit = None; got = got_at sector; wanted = claim_at sector }

  -- why a sync is broken: the line that lost what stands lost at a sector of its device
  abbrev pub why_broken : ℕ → Why
  why_broken sector = record {
    culprit = loser_of (claim_at sector);
    got = None;
    wanted = claim_at sector;
  }

  -- when the operation was issued
  abbrev pub issued_at : Option Deed → ℕ
  issued_at None = op.moment
  issued_at (Some deed) = deed.issued

  -- what is found of the operation, of which these sectors are wrong, and why
  abbrev pub found_of : Finding → Option Wrong → Why → Noted
  found_of finding wrong why = noted.Found (record {
    finding = finding;
    origin = op.origin;
    action = op.action;
    device = op.device;
    span = op.span;
    issued = issued_at (deed_of watched.deeds op.origin);
    answered = op.moment;
    wrong = wrong;
    culprit = why.culprit;
    got = why.got;
    wanted = why.wanted;
  })

  -- what is found where some sectors are wrong, and why the first of them is, counted from here
  abbrev pub found_with : Finding → ℕ → (ℕ → Why) → Wrong → Noted
  found_with finding first why wrong =
      found_of finding (Some wrong) (why (wrong.first - first))

  -- what is found, if it is asked for and some sector is wrong
  abbrev pub found_if : Bool → Finding → ℕ → (ℕ → Why) → Option Wrong → List Noted
  found_if false finding first why wrong = []
  found_if true finding first why wrong =
      option_to_list (option_map (found_with finding first why) wrong)

  -- a failed operation
  abbrev pub eio_noted : List Noted
  eio_noted = if watched.sought.eio then found_of Eio None no_reason ∷ [] else []

  -- a write or trim that is lost
  abbrev pub lost_noted : List Noted
  lost_noted = found_if watched.sought.lost Lost op.span.first why_written lost_wrong

  -- a write that reached its disk with other bytes
  abbrev pub spoiled_noted : List Noted
  spoiled_noted =
      found_if watched.sought.corrupt Corrupt op.span.first why_written spoiled_wrong

  -- a read that is answered other bytes than were written, where these sectors are answered
  abbrev pub corrupt_noted : Sectors → List Noted
  corrupt_noted sectors = found_if watched.sought.corrupt Corrupt op.span.first why_corrupt
      (corrupt_wrong sectors)

  -- a read that is stale
  abbrev pub stale_noted : List Noted
  stale_noted = found_if watched.sought.stale Stale op.span.first why_stale stale_wrong

  -- a read that is misplaced
  abbrev pub misplaced_noted : List Noted
  misplaced_noted = found_if watched.sought.misplaced Misplaced op.span.first why_misplaced
      misplaced_wrong

  -- a sync that is broken
  abbrev pub broken_noted : List Noted
  broken_noted = found_if watched.sought.broken_sync BrokenSync 0 why_broken lapsed_wrong

  -- a sync that was answered, where lost writes are asked for
  abbrev pub synced_noted : List Noted
  synced_noted = if watched.sought.lost
      then noted.Synced (record { origin = op.origin; device = op.device }) ∷ [] else []

  -- what is noted of a read that is answered these sectors
  abbrev pub read_noted : Sectors → List Noted
  read_noted sectors = corrupt_noted sectors ++ (stale_noted ++ misplaced_noted)

  -- what is noted of an operation that is answered: of this kind, where it hasn't failed; of a read
  -- with these sectors
  abbrev pub op_noted : Sectors → Option Kind → List Noted
  op_noted sectors None = eio_noted
  op_noted sectors (Some Write) = lost_noted ++ spoiled_noted
  op_noted sectors (Some Trim) = lost_noted
  op_noted sectors (Some Read) = read_noted sectors
  op_noted sectors (Some Flush) = broken_noted ++ synced_noted
