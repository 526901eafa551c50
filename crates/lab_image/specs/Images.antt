-- What the disks of a run have, and what its living writes carry (this project's own).
use Rattle.std.specs.Prelude.{ℕ, suc, zero, ◌+◌, ◌-◌, Option, Some, None, length, refl}
use Rattle.std.specs.Coded.{Coded, code_by, coded×}
use Rattle.lab_sector.specs.declared.device.DevNo.{DevNo}
use Rattle.lab_sector.specs.declared.device.DevNo.TheVariants.{Ram, Dm}
use Rattle.lab_sector.specs.declared.request.Kind.{Kind}
use Rattle.lab_sector.specs.declared.request.Kind.TheVariants.{Read, Write, Trim, Flush}
use Rattle.lab_sector.specs.declared.span.Span.{Span}
use Rattle.lab_model.specs.declared.event.Event.{Event}
use Rattle.lab_model.specs.declared.event.Event.TheVariants.{Finish, Serve}
use Rattle.lab_model.specs.declared.parent.Parent.{Parent}
use Rattle.lab_model.specs.declared.parent.Parent.TheVariants.{FromBio, FromLog}
use Rattle.lab_model.specs.Bios.{Bio}
use Rattle.lab_model.specs.State.{State, bio_of}
use Rattle.lab_next.specs.Bios.{place_in}
use Rattle.lab_image.specs.Stores.{Store, bare, both_marked, erased, passed, store_code, stored}
use Rattle.lab_image.specs.Stores.{with_write}

-- what stands where
pub record Image : Type 0 where
  -- by a disk and a sector of it
  pub disks : Store
  -- by a living write and a sector of it, counted from its first: what it carries
  pub bios : Store

-- it is stored as the pair of both
abbrev pub image_code : Coded Image
image_code = code_by (Store × Store) (coded× store_code store_code)
    (λ image. (image.disks, image.bios))
    (λ pair. record { disks = pair.0; bios = pair.1 }) (λ _. refl)

-- before the first event
abbrev pub blank : Image
blank = record { disks = bare; bios = bare }

-- a write of so many sectors is answered: what it carried is forgotten
abbrev pub let_go : Image → ℕ → Kind → ℕ → Image
let_go image number Write count = record image { bios = erased image.bios number 0 count }
let_go image number _ count = image

-- a disk serves these sectors of it by the bio of a number, of this kind: a write's stand there then,
-- and where it is a trim, no write's do
abbrev pub image_served_by : Image → ℕ → Span → ℕ → Kind → Image
image_served_by image disk span number Write = record image {
  disks = stored image.bios number image.disks disk span.first span.len;
}
image_served_by image disk span number Trim =
    record image { disks = erased image.disks disk span.first span.len }
image_served_by image disk span number Read = image
image_served_by image disk span number Flush = image

-- the bio of a number is served at its device, where that is a disk
abbrev pub image_served_at : Image → ℕ → Bio → DevNo → Image
image_served_at image number bio (Ram disk) = image_served_by image disk bio.span number bio.kind
image_served_at image number bio (Dm device) = image

-- the bio of a number is served, if it lives, and answered
abbrev pub image_served : Image → ℕ → Option Bio → Image
image_served image number None = image
image_served image number (Some bio) =
    let_go (image_served_at image number bio bio.device) number bio.kind bio.span.len

-- the bio of a number is answered, if it lives
abbrev pub finished : Image → ℕ → Option Bio → Image
finished image number None = image
finished image number (Some bio) = let_go image number bio.kind bio.span.len

-- what stands where once an event's bio is served or answered, in the state in which the event comes
abbrev pub image_heard : {S : Type 0} → State S → Event → Image → Image
image_heard s (Serve number) image = image_served image number (bio_of s number)
image_heard s (Finish number) image = finished image number (bio_of s number)
image_heard s _ image = image

-- a write of so many sectors is made: a log's carries its line's data, and one for a piece of another
-- what that one carries there
abbrev pub begun_by : {S : Type 0} → State S → Store → ℕ → ℕ → Parent → Store
begun_by s bios number count (FromLog log line action) = with_write bios number count
    (record { origin = record { log = log; line = line }; sector = 0 })
begun_by s bios number count (FromBio above piece) =
    passed bios above (place_in piece (bio_of s above)) number count

-- this bio is made: if it is a write, its changed bytes are changed in what it carries
abbrev pub one_begun : {S : Type 0} → State S → ℕ → Bio → Image → Image
one_begun s number bio image = by_kind bio.kind where
  by_kind : Kind → Image
  by_kind Write = record image {
    bios = both_marked number bio.marks
        (begun_by s image.bios number bio.span.len bio.parent);
  }
  by_kind _ = image

-- the bio of a number is made, if it lives
abbrev pub if_begun : {S : Type 0} → State S → ℕ → Option Bio → Image → Image
if_begun s number None image = image
if_begun s number (Some bio) image = one_begun s number bio image

-- so many bios are made, of which the first has the number behind this one
abbrev pub all_begun : {S : Type 0} → State S → ℕ → ℕ → Image → Image
all_begun s made zero image = image
all_begun s made (suc more) image = all_begun s (made + 1) more
    (if_begun s (made + 1) (bio_of s (made + 1)) image)

-- what stands where in the state after an event, before which so many bios were made
abbrev pub image_seen : {S : Type 0} → ℕ → State S → Image → Image
image_seen made s image = all_begun s made (length s.bios - made) image

-- what stands where after an event that leads from one state to the next
abbrev pub image_next : {S : Type 0} → State S → State S → Event → Image → Image
image_next s next event image = image_seen (length s.bios) next (image_heard s event image)
