-- What is watched once a device has cut a bio into pieces (this project's own).
use Rattle.std.specs.Prelude.{ℕ, ◌+◌, List, Option, Some, None}
use Rattle.std.specs.Prelude.{if◌then◌else◌, fold}
use Rattle.lab_sector.specs.declared.device.DevNo.{DevNo}
use Rattle.lab_sector.specs.declared.request.Kind.{Kind}
use Rattle.lab_sector.specs.declared.request.Kind.TheVariants.{Read}
use Rattle.lab_target.specs.Meaning.{Meaning}
use Rattle.lab_model.specs.Bios.{Bio}
use Rattle.lab_model.specs.State.{State, bio_of}
use Rattle.lab_next.specs.declared.own.Own.{Own}
use Rattle.lab_next.specs.declared.origin.Root.{Root}
use Rattle.lab_next.specs.Own.{own_parts}
use Rattle.lab_next.specs.Origins.{root_of}
use Rattle.lab_watch.specs.Grids.{cleared, spread, writer_from}
use Rattle.lab_watch.specs.Drops.{with_drops}
use Rattle.lab_findings.specs.Heard.{blamed}
use Rattle.lab_findings.specs.Lines.{culprit_on}
use Rattle.lab_findings.specs.Watched.{Watched, keeps_claims, keeps_drops}

-- a line without a reference answered sectors of an operation of this kind: nothing is claimed of a
-- read's, and a write's or trim's are void
abbrev pub voided : Watched → Root → Own → Kind → Watched
voided watched root own Read = record watched {
  claims = cleared watched.claims root.number (root.writer.sector + own.first) own.count;
}
voided watched root own kind = record watched {
  voids = spread watched.voids root.number (root.writer.sector + own.first) own.count
      (writer_from root.writer own.first);
}

module _ {S : Type 0} (m : Meaning S) (s : State S) (device : DevNo) (kind : Kind) where
  -- where a line that has a reference answered sectors itself it dropped them, and is blamed
  abbrev pub dropped : Root → Watched → Own → Watched
  dropped root watched own = record watched {
    culprits = blamed watched.culprits root.number (root.writer.sector + own.first)
        (culprit_on m s device own.line);
  }

  -- a line of a device answered these sectors itself
  abbrev pub owned : Root → Watched → Own → Watched
  owned root watched own = if own.hands_on
      then (if keeps_drops watched.sought then dropped root watched own else watched)
      else (if keeps_claims watched.sought then voided watched root own kind else watched)

  -- the lines answered these parts of a bio with this root themselves
  abbrev pub owned_by : Option Root → Watched → List Own → Watched
  owned_by None watched parts = watched
  owned_by (Some root) watched parts = fold (owned root) watched parts

-- a device has cut the bio of a number, before which so many bios were made
abbrev pub mapped_bio : {S : Type 0} → Meaning S → ℕ → State S → Watched → ℕ → Option Bio → Watched
mapped_bio m made s watched number None = watched
mapped_bio m made s watched number (Some bio) = owned_by m s bio.device bio.kind (root_of s number)
    (record watched {
      writers = with_drops watched.writers bio.kind (root_of s number) (own_parts m s made number);
    })
    (own_parts m s made number)

-- in the state after a device has cut the bio of a number, before which so many bios were made
abbrev pub watch_mapped : {S : Type 0} → Meaning S → ℕ → State S → ℕ → Watched → Watched
watch_mapped m made s number watched = mapped_bio m made s watched number (bio_of s number)
