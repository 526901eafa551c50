-- What is known of the bios that an event doesn't answer stays where it is heard.
use Rattle.lab_model.proofs.Common.{◌≡◌, ◌≢◌, ℕ, Flush, Kind, Read, State, Trim, Write, inl, refl}
use Rattle.lab_model.proofs.Common.{subst, Span}
use Rattle.lab_image.specs.Images.{Image, image_heard, image_served_by, let_go}
use Rattle.law_bytes_carried.proofs.Words.{Event, Finish, Finishing, Serve, Serving}
use Rattle.law_writers.proofs.Carrying.{Stood, erased-other}

-- what is known of the bios but the one that is answered stays where the event is heard
abbrev pub HearsOf : {S : Type 0} → State S → Event → ℕ → Image → Type 0
HearsOf s event at image = (n i : ℕ) → n ≢ at
    → Stood image.bios n i (image_heard s event image).bios n i

-- where a write is answered, what it carried is forgotten, and what others carry is known on
let-go-other : (image : Image) (at : ℕ) (kind : Kind) (count n i : ℕ) → n ≢ at
    → Stood image.bios n i (let_go image at kind count).bios n i
let-go-other image at Write count n i apart = erased-other image.bios at 0 count n i (inl apart)
let-go-other image at Read count n i apart = record { writers = refl; changes = refl }
let-go-other image at Trim count n i apart = record { writers = refl; changes = refl }
let-go-other image at Flush count n i apart = record { writers = refl; changes = refl }

-- no disk changes by it
let-go-disks : (image : Image) (at : ℕ) (kind : Kind) (count : ℕ)
    → (let_go image at kind count).disks ≡ image.disks
let-go-disks image at Write count = refl
let-go-disks image at Read count = refl
let-go-disks image at Trim count = refl
let-go-disks image at Flush count = refl

-- what bios carry stays where a disk serves one
served-bios : (image : Image) (disk : ℕ) (span : Span) (at : ℕ) (kind : Kind)
    → (image_served_by image disk span at kind).bios ≡ image.bios
served-bios image disk span at Write = refl
served-bios image disk span at Read = refl
served-bios image disk span at Trim = refl
served-bios image disk span at Flush = refl

module _ {S : Type 0} {s next : State S} {at : ℕ} (image : Image) where
  -- what other bios carry stays where a disk serves one
  pub serve-hears : Serving s at next → HearsOf s (Serve at) at image
  serve-hears v n i apart =
      let served = image_served_by image v.disk v.bio.span at v.bio.kind in
      let bios = served-bios image v.disk v.bio.span at v.bio.kind in
      let stood = let-go-other served at v.bio.kind v.bio.span.len n i apart in
      rw (v.lives, v.on) (subst
      (λ bios. Stood bios n i (let_go served at v.bio.kind v.bio.span.len).bios n i) bios stood)

  -- and where one is finished
  pub finish-hears : Finishing s at next → HearsOf s (Finish at) at image
  finish-hears f n i apart =
      rw f.lives (let-go-other image at f.bio.kind f.bio.span.len n i apart)

  -- no disk changes by that
  pub finish-disks : Finishing s at next → (image_heard s (Finish at) image).disks ≡ image.disks
  finish-disks f = rw f.lives (let-go-disks image at f.bio.kind f.bio.span.len)
