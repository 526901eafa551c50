-- The bios that an event makes, one after another: each write carries what is known of it, and
-- what is known of others stays.
use Rattle.lab_model.proofs.Common.{◌≡◌, ◌≢◌, ◌∙◌, ◌+◌, ◌<◌, ◌≤◌, ℕ, suc, zero, Bio, Flush, None}
use Rattle.lab_model.proofs.Common.{None-not-Some, Option, Read, Some, Some-holds, State, Trim}
use Rattle.lab_model.proofs.Common.{Write, ap, arith, bio_of, cases_eq, inl, inr, Kind, refl}
use Rattle.lab_model.proofs.Common.{subst, sym}
use Rattle.lab_image.specs.Images.{Image, all_begun, begun_by, if_begun, one_begun}
use Rattle.lab_image.specs.Stores.{both_marked}
use Rattle.law_writers.proofs.Carrying.{Carries, Stood, carried-on}
use Rattle.law_writers.proofs.Making.{MadeBy, made-has, made-other}
use Rattle.law_writers.specs.RowsTell.{fills}

-- the writes up to a number carry what is known of them
abbrev pub UpTo : {S : Type 0} → State S → ℕ → Image → Type 0
UpTo s last image = (n : ℕ) (bio : Bio) → n ≤ last → bio_of s n ≡ Some bio → bio.kind ≡ Write
    → Carries fills image.bios n bio.sectors

-- those behind a number are made so
abbrev pub MadeBehind : {S : Type 0} → State S → ℕ → Type 0
MadeBehind s last = (n : ℕ) (bio : Bio) → last < n → bio_of s n ≡ Some bio → bio.kind ≡ Write
    → MadeBy s n bio bio.parent

module _ {S : Type 0} (s : State S) (number : ℕ) (bio : Bio) (image : Image) where
  -- what is known once it is made, where it is a write
  begun-write : bio.kind ≡ Write → (one_begun s number bio image).bios
      ≡ both_marked number bio.marks
      (begun_by s image.bios number bio.span.len bio.parent)
  begun-write is = rw is refl

  -- where it is none, nothing is known anew
  begun-none : (kind : Kind) → bio.kind ≡ kind → (kind ≡ Write → ⊥)
      → (one_begun s number bio image).bios ≡ image.bios
  begun-none Read is not = rw is refl
  begun-none Write is not = absurd (not refl)
  begun-none Trim is not = rw is refl
  begun-none Flush is not = rw is refl

  -- no disk changes by it
  begun-disks : (kind : Kind) → bio.kind ≡ kind → (one_begun s number bio image).disks ≡ image.disks
  begun-disks Read is = rw is refl
  begun-disks Write is = rw is refl
  begun-disks Trim is = rw is refl
  begun-disks Flush is = rw is refl

  -- what is known of others stays, whatever it is
  begun-other : (bio.kind ≡ Write → MadeBy s number bio bio.parent) → (other i : ℕ)
      → other ≢ number → Stood image.bios other i (one_begun s number bio image).bios other i
  begun-other made other i apart = by_kind bio.kind refl
    where
      alike : (one_begun s number bio image).bios ≡ image.bios
          → Stood image.bios other i (one_begun s number bio image).bios other i
      alike same = subst (λ later. Stood image.bios other i later other i) (sym same)
          (record { writers = refl; changes = refl })

      by_kind : (kind : Kind) → bio.kind ≡ kind
          → Stood image.bios other i (one_begun s number bio image).bios other i
      by_kind Write is = subst (λ later. Stood image.bios other i later other i)
          (sym (begun-write is))
          (made-other s number bio image bio.parent (made is) other i apart)
      by_kind Read is = alike (begun-none Read is (λ same. cc (same)))
      by_kind Trim is = alike (begun-none Trim is (λ same. cc (same)))
      by_kind Flush is = alike (begun-none Flush is (λ same. cc (same)))

module _ {S : Type 0} (s : State S) where
  -- one more is made
  one-made : (last : ℕ) (image : Image) → MadeBehind s last → UpTo s last image
      → (found : Option Bio) → bio_of s (last + 1) ≡ found
      → UpTo s (last + 1) (if_begun s (last + 1) found image)
  one-made last image made up None is n bio low lives writes =
      elim (cases_eq n (last + 1)) [
        | inl same ↦ absurd (None-not-Some (sym is ∙ ap (bio_of s) (sym same) ∙ lives))
        | inr apart ↦ up n bio (omega (arith, low, apart)) lives writes
      ]
  one-made last image made up (Some new) is n bio low lives writes =
      elim (cases_eq n (last + 1)) [
        | inl same ↦
            let one : new ≡ bio = Some-holds (sym is ∙ ap (bio_of s) (sym same) ∙ lives) in
            let kind : new.kind ≡ Write = ap (λ b. b.kind) one ∙ writes in
            let own = made-has s (last + 1) new image new.parent
            (made (last + 1) new (omega arith) is kind)
            (λ k b less there is_write. up k b (omega (arith, less)) there is_write) in
            subst (λ k. Carries fills (one_begun s (last + 1) new image).bios k bio.sectors)
            (sym same)
            (subst (λ b. Carries fills (one_begun s (last + 1) new image).bios (last + 1) b.sectors)
            one
            (subst (λ store. Carries fills store (last + 1) new.sectors)
            (sym (begun-write s (last + 1) new image kind)) own))
        | inr apart ↦ λ i bytes at. carried-on (begun-other s (last + 1) new image
            (λ kind. made (last + 1) new (omega arith) is kind) n i apart)
            (up n bio (omega (arith, low, apart)) lives writes i bytes at)
      ]

  -- so are all
  pub all-made : (count last : ℕ) (image : Image) → MadeBehind s last → UpTo s last image
      → UpTo s (last + count) (all_begun s last count image)
  all-made zero last image made up n bio low lives writes =
      up n bio (omega (arith, low)) lives writes
  all-made (suc more) last image made up n bio low lives writes =
      all-made more (last + 1) (if_begun s (last + 1) (bio_of s (last + 1)) image)
      (λ k b high. made k b (omega (arith, high)))
      (one-made last image made up (bio_of s (last + 1)) refl) n bio (omega (arith, low)) lives
      writes

  -- no disk changes by them
  pub made-disks : (count last : ℕ) (image : Image)
      → (all_begun s last count image).disks ≡ image.disks
  made-disks zero last image = refl
  made-disks (suc more) last image =
      made-disks more (last + 1) (if_begun s (last + 1) (bio_of s (last + 1)) image)
      ∙ one (bio_of s (last + 1))
    where
      one : (found : Option Bio) → (if_begun s (last + 1) found image).disks ≡ image.disks
      one None = refl
      one (Some bio) = begun-disks s (last + 1) bio image bio.kind refl
