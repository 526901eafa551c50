-- No chain of partners is longer than there are devices, since none lies below itself: so a route
-- is found with a step less from a device that another refers to.
use Rattle.lab_model.proofs.Common.{rules, ◌+◌, ◌<◌, [], ap, arith, eqb, false, inl, inr, length}
use Rattle.lab_model.proofs.Common.{List, ne_eqb, None, Option, option_and_then, refl, slice_get}
use Rattle.lab_model.proofs.Common.{Some, subst, suc, sym, zero, ℕ, ◌∙◌, ◌∷◌, ◌≡◌, ◌≤◌, All-In}
use Rattle.lab_model.proofs.Common.{DevNo, Dm, image, In, In-list_any, Kind, Ram, slot_at}
use Rattle.lab_model.proofs.Common.{joined-Some, length-le_from_distinct_below, line_at, Meaning}
use Rattle.lab_model.proofs.Common.{None-not-Some, option_map-holds, Ref, Scenario}
use Rattle.lab_model.proofs.Common.{slice_get_within, Slot, State, Table, version_of}
use Rattle.std.specs.List.{IsDistinct}
use Rattle.law_sectors_touched.proofs.Words.{line-kept, partner_in, partner_of, Ranked}
use Rattle.law_sectors_touched.proofs.Words.{route_within, TableLine, TablesAreVersions}
use Rattle.law_sectors_touched.proofs.RouteImages.{and_then-alike}

-- what follows an option gives something: the option holds a value
and_then-some : {X Y : Type 0} (f : X → Option Y) (o : Option X) (y : Y)
    → option_and_then f o ≡ Some y → (x : X) × (o ≡ Some x) × (f x ≡ Some y)
and_then-some f o y gives = search rules

module _ {S : Type 0} (m : Meaning S) (c : Scenario S) (r : Ranked m c) (s : State S)
    (versions : TablesAreVersions m c s) where
  -- what a line of a live table refers to ranks below its device
  pub line-falls : (device : ℕ) (slot : Slot (Table S)) (table : Table S) (number : ℕ)
      (line : TableLine S) (kind : Kind) (ref : Ref) → slot_at s.devices device ≡ Some slot
      → slot.live ≡ Some table → slice_get table number ≡ Some line
      → (m.shape line.target).reference kind ≡ Some ref → r.rank ref.dev < r.rank (Dm device)
  line-falls device slot table number line kind ref stands live at refers =
      let version = versions device slot table stands live in
      let own = option_map-holds (image m) (version_of c device version.0) (image m table)
      version.1 in
      let kept = line-kept m table own.0 own.2 number line at in
      search rules

  module _ (kind : Kind) where
    -- a device that has a partner for a sector stands, and the partner ranks below it
    partner-falls : (device sector : ℕ) (place : DevNo × ℕ) → partner_of m s kind device sector
        ≡ Some place → (device < length s.devices) × (r.rank place.0 < r.rank (Dm device))
    partner-falls device sector place gives =
        let slot = and_then-some _ (slot_at s.devices device) place gives in
        let table = and_then-some (partner_in m kind sector) slot.0.live place slot.2 in
        let number = and_then-some _ (line_at table.0 sector) place table.2 in (
          slice_get_within s.devices device (Some slot.0)
              (joined-Some (slice_get s.devices device) slot.0 slot.1),
          search (rules, None-not-Some, and_then-some, line-falls, slot.1, table.1, number.2),
        )

    -- devices that a chain has come through stand, rank above where it is, and none comes twice
    record CameThrough (above : List ℕ) (device : DevNo) : Type 0 where
      distinct : IsDistinct eqb above
      each : (a : ℕ) → In a above → (a < length s.devices) × (r.rank device < r.rank (Dm a))

    -- with a partner the chain has come through one device more
    comes-on : (above : List ℕ) (device sector : ℕ) (place : DevNo × ℕ)
        → CameThrough above (Dm device) → partner_of m s kind device sector ≡ Some place
        → CameThrough (device ∷ above) place.0
    unfolding IsDistinct
    comes-on above device sector place came gives = record {
      distinct = (
        All-In (λ other. eqb device other ≡ false) above (λ other at. ne_eqb device other (λ same.
            let rank : r.rank (Dm device) ≡ r.rank (Dm other) = ap (λ n. r.rank (Dm n)) same in
            absurd (omega (arith, (came.each other at).1, rank)))),
        came.distinct,
      );
      each = λ a at. elim at [
        | inl same ↦ subst (λ n. (n < length s.devices) × (r.rank place.0 < r.rank (Dm n))) same
            (partner-falls device sector place gives)
        | inr later ↦
            let over = came.each a later in
            (over.0, omega (arith, over.1, (partner-falls device sector place gives).1))
      ];
    }

    -- it has come through no more than there are
    came-few : (above : List ℕ) (device : DevNo) → CameThrough above device
        → length above ≤ length s.devices
    came-few above device came = length-le_from_distinct_below above
        (length s.devices) came.distinct (λ a found. (came.each a (In-list_any a above found)).0)

    -- so with steps for the others one more changes nothing
    route-steps : (steps : ℕ) (above : List ℕ) (device : DevNo) (sector : ℕ)
        → CameThrough above device → length s.devices ≤ length above + steps → route_within m s
        steps kind device sector ≡ route_within m s (suc steps) kind device sector
    route-steps zero above (Dm number) sector came enough =
        by_partner (partner_of m s kind number sector) refl
      where
        by_partner : (o : Option (DevNo × ℕ)) → partner_of m s kind number sector ≡ o
            → None ≡ option_and_then (λ place. route_within m s zero kind place.0 place.1) o
        by_partner None is = refl
        by_partner (Some place) is =
            let few = came-few (number ∷ above) place.0
            (comes-on above number sector place came is) in
            absurd (omega (arith, few, enough))
    route-steps (suc steps) above (Dm number) sector came enough =
        and_then-alike _ _ (partner_of m s kind number sector) (λ place is. route-steps steps
        (number ∷ above) place.0 place.1 (comes-on above number sector place came is)
        (omega (arith, enough)))
    route-steps _ above (Ram number) sector came enough = refl

    -- behind a device that stands and refers to another, the other's routes need a step less
    pub route-below : (over : ℕ) (device : DevNo) (steps sector : ℕ) → over < length s.devices
        → r.rank device < r.rank (Dm over) → length s.devices ≡ suc steps → route_within m s steps
        kind device sector ≡ route_within m s (length s.devices) kind device sector
    unfolding IsDistinct
    route-below over device steps sector stands less count =
        route-steps steps (over ∷ []) device sector (record {
          distinct = (tt, tt);
          each = λ a at. elim at [
            | inl same ↦ subst (λ n. (n < length s.devices)
                × (r.rank device < r.rank (Dm n))) same (stands, less)
            | inr later ↦ absurd later
          ];
        }) (omega (arith, count)) ∙ ap (λ n. route_within m s n kind device sector) (sym count)
