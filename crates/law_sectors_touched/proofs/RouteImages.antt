-- Routes depend on what no event but the script's changes: the shapes of the live tables' lines.
use Rattle.lab_model.proofs.Common.{rules, Option, option_and_then, refl, ℕ, Some, suc}
use Rattle.lab_model.proofs.Common.{◌∙◌, ◌≡◌, option_map, Bio, devices_image, DevNo, Dm, image}
use Rattle.lab_model.proofs.Common.{Kind, length-map, line_at-image, Meaning, Shape, Slot, Span}
use Rattle.lab_model.proofs.Common.{State, Table, slot_at}
use Rattle.lab_model.proofs.ShapeLemmas.{of_shapes}
use Rattle.law_never_wrong.proofs.FitsKept.{slice_get-image, walk_device-image}
use Rattle.law_sectors_touched.proofs.Words.{DiskSector, partner_in, partner_of, route}
use Rattle.law_sectors_touched.proofs.Words.{route_within, routes, times}
use Rattle.law_sectors_touched.proofs.Hits.{hits, hits-same, times-routes}

-- what follows an option is the same where it follows its value alike
pub and_then-alike : {X Y : Type 0} (f g : X → Option Y) (o : Option X)
    → ((x : X) → o ≡ Some x → f x ≡ g x) → option_and_then f o ≡ option_and_then g o
and_then-alike f g o alike = search rules

-- what follows the image of an option is what follows the option
and_then-image : {X Y Z : Type 0} (h : X → Z) (f : X → Option Y) (g : Z → Option Y) (o : Option X)
    → ((x : X) → f x ≡ g (h x)) → option_and_then f o ≡ option_and_then g (option_map h o)
and_then-image h f g o alike = search rules

module _ {S : Type 0} (m : Meaning S) (kind : Kind) (sector : ℕ) where
  -- so does a table
  partner_in-image : (table : Table S)
      → partner_in m kind sector table ≡ partner_in (of_shapes S) kind sector (image m table)
  partner_in-image table = search (rules, line_at-image, slice_get-image, and_then-alike)

  -- where the image of a device sends a sector
  abbrev seen_partner : Option (Slot (Table (Shape S))) → Option (DevNo × ℕ)
  seen_partner entry = option_and_then
      (λ slot. option_and_then (partner_in (of_shapes S) kind sector) slot.live) entry

  -- a device sends it there
  partner_of-image : (s : State S) (device : ℕ) → partner_of m s kind device sector
      ≡ seen_partner (slot_at (devices_image m s.devices) device)
  partner_of-image s device = search (rules, walk_device-image, and_then-image, partner_in-image)

module _ {S : Type 0} (m : Meaning S) (s next : State S)
    (same : devices_image m next.devices ≡ devices_image m s.devices) where
  -- a device sends each sector where it did
  partner_of-same : (kind : Kind) (device sector : ℕ)
      → partner_of m next kind device sector ≡ partner_of m s kind device sector
  partner_of-same kind device sector = search (rules, partner_of-image)

  -- so chains of so many steps end where they did
  route_within-same : (steps : ℕ) (kind : Kind) (device : DevNo) (sector : ℕ)
      → route_within m next steps kind device sector ≡ route_within m s steps kind device sector
  route_within-same (suc steps) kind (Dm number) sector =
      rw (partner_of-same kind number sector) (and_then-alike _ _
      (partner_of m s kind number sector) (λ place is. route_within-same steps kind place.0
      place.1))
  route_within-same _ kind _ sector = refl

  -- so the routes are the same
  pub route-same : (kind : Kind) (device : DevNo) (sector : ℕ)
      → route m next kind device sector ≡ route m s kind device sector
  route-same kind device sector = search (rules, route_within-same, route_within, length-map)

-- how often a disk sector is the route of one of the sectors of a span
abbrev pub span_hits : {S : Type 0} → Meaning S → State S → DiskSector → Kind → DevNo → Span → ℕ
span_hits m s x kind device span = hits x (λ p. route m s kind device p) span.first span.len

-- that is how often it is among a bio's routes
pub times-span : {S : Type 0} (m : Meaning S) (s : State S) (x : DiskSector) (bio : Bio)
    → times x (routes m s bio) ≡ span_hits m s x bio.kind bio.device bio.span
times-span m s x bio = times-routes x _ 0 bio.span.len ∙ hits-same x _ _ 0 bio.span.first
    bio.span.len (search rules)

-- and it stays where the devices' images do
pub span_hits-same : {S : Type 0} (m : Meaning S) (s next : State S) (x : DiskSector) (kind : Kind)
    (device : DevNo) (span : Span) → devices_image m next.devices ≡ devices_image m s.devices
    → span_hits m next x kind device span ≡ span_hits m s x kind device span
span_hits-same m s next x kind device span same = search (rules, hits-same, route-same, route)
