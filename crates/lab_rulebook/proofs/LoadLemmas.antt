-- A create, a load, a clear and a remove that break no rule lead to what they should.
use Rattle.lab_model.proofs.Common.{◌≡◌, ℕ, ◌<◌, ◌≤◌, List, [], ◌∷◌, ◌++◌, IfSome, Option, Some}
use Rattle.lab_model.proofs.Common.{None, length, slice_get, refl, sym, ap, ◌∙◌, subst, arith}
use Rattle.lab_model.proofs.Common.{unwrap_or, Meaning, created, named_version, with_inactive}
use Rattle.lab_model.proofs.Common.{change, Scenario, version_of, Table, image, size_of}
use Rattle.lab_model.proofs.Common.{TableStands, live_size, slot_at, Some-holds, None-not-Some}
use Rattle.lab_model.proofs.Common.{slice_get-map, slice_get-within, size_of-image}
use Rattle.std.specs.Option.{option_map}
use Rattle.lab_model.specs.Scenario.{HasNamed}
use Rattle.lab_script.specs.Task.{clear, create, load, remove, on}
use Rattle.lab_script.specs.Walk.{steps_of}
use Rattle.lab_rulebook.specs.Parts.{Parts}
use Rattle.lab_rulebook.specs.Standing.{Standing, obeyed, walk_of}
use Rattle.lab_rulebook.proofs.FoundLemmas.{CommandGoes, Found, Here, May, choose, find, goes-found}
use Rattle.lab_rulebook.proofs.FoundLemmas.{obeyed_by}
use Rattle.lab_rulebook.proofs.StandLemmas.{Holds, SlotFine, grows-live, holds-moves, Goes, Later}
use Rattle.lab_rulebook.proofs.StandLemmas.{step-goes}
use Rattle.lab_rulebook.proofs.MoveLemmas.{becomes-stands, changed-keeps, changed-stands}
use Rattle.lab_rulebook.proofs.MoveLemmas.{keeps-named}
use Rattle.lab_rulebook.proofs.PlaceLemmas.{change-there, not_less, push-becomes, pushed-there}
use Rattle.lab_rulebook.proofs.PlaceLemmas.{change-becomes, there-within}
use Rattle.lab_rulebook.proofs.ReferenceLemmas.{version_in}
use Rattle.lab_rulebook.proofs.SizeLemmas.{GrowsIn, table-moves}
use Rattle.lab_model.specs.declared.micro.Order.TheVariants as orders
use Rattle.lab_model.specs.declared.rule.Rule.TheVariants as told

module _ {S : Type 0} (m : Meaning S) (parts : Parts S) (s : Standing S) (c : Scenario S)
    (here : Here m parts s c) where
  -- what stands after a create
  created-goes : (name : List ℕ) (part : Option (List ℕ)) (chosen : Option (Table S))
      (version : Option ℕ)
      → IfSome (option_map (image m) chosen) (Holds m c s.devices (length s.devices))
      → named_version c (length s.devices) version ≡ chosen
      → HasNamed c (length s.devices) version
      → Goes m c s (obeyed m s (create name part) chosen)
      (orders.Create (length s.devices) version ∷ [])
  created-goes name part chosen version held is has =
      let live = option_map (image m) chosen in
      let next = s.devices ++ Some (created live) ∷ [] in
      let made = length s.devices in
      let becomes = push-becomes s.devices (Some (created live)) in
      let grown : GrowsIn (slot_at s.devices made) (Some (created live)) =
      λ old is. absurd (omega (arith, there-within s.devices made old is)) in
      step-goes m c s (obeyed m s (create name part) chosen) here.stands
      (becomes-stands m parts s c here next made _ becomes (λ used. grown)
      (λ slot is. subst (SlotFine m c next made) (Some-holds is) (record {
        live = holds-moves m c s.devices next made live (λ table stands named has.
            keeps-named m parts s c here next made _ becomes named (λ same. grown)) held;
        inactive = tt;
        longer = tt;
        rests = λ same. cc;
      }))) (orders.Create (length s.devices) version) (λ rest. (refl, has)) refl
      (ap (λ t. s.devices ++ Some (created (option_map (image m) t)) ∷ []) (sym is))

  -- the version of a create is the table that it names
  created-version : (name part : List ℕ) (table : Table S)
      → Later m c (obeyed m s (create name (Some part)) (Some table))
      → version_of c (length s.devices) 0 ≡ Some table
  created-version name part table later = later.versions (length s.devices) 0 table
      (subst (λ n. version_in (s.versions ++ (table ∷ []) ∷ []) n 0 ≡ Some table)
      (sym here.sound.lengths) (ap (λ o. slice_get (unwrap_or o []) 0)
      (pushed-there s.versions (table ∷ []))))

  -- a create that breaks no rule
  pub create-goes : (name : List ℕ) (chosen : Option (List ℕ))
      → May m parts s c (create name chosen) → CommandGoes m parts s c (create name chosen)
  create-goes name None may = created-goes name None None None tt refl tt
  create-goes name (Some part) may =
      let found = choose m parts s c here (create name (Some part)) may.free part refl in
      let version = created-version name part found.table
      (subst (λ o. Later m c (obeyed m s (create name (Some part)) o)) found.is may.next) in
      subst (λ o. Goes m c s (obeyed m s (create name (Some part)) o)
      (steps_of (walk_of s) (create name (Some part)))) (sym found.is)
      (created-goes name (Some part) (Some found.table) (Some 0) (record {
        stands = found.may_stand;
        version = (0, ap (option_map (image m)) version);
      }) version (found.table, version))

  module _ (name chosen : List ℕ) (d : Found m parts s (on name (load chosen))) (table : Table S)
      (later : Later m c (obeyed_by m s (Some d.device) (on name (load chosen)) (Some table))) where
    -- the number of a load's version
    abbrev number : ℕ
    number = unwrap_or (slice_get (walk_of s).loads d.device) 0

    -- that version is its table
    loaded-version : version_of c d.device number ≡ Some table
    loaded-version =
        let within : d.device < length s.versions =
        omega (arith, there-within s.devices d.device d.slot d.there, here.sound.lengths) in
        let (own, there) = slice_get-within s.versions d.device within in
        let count : number ≡ length own = ap (λ o. unwrap_or o 0)
        (slice_get-map length s.versions d.device ∙ ap (option_map length) there) in
        later.versions d.device number table
        (subst (λ n. version_in (change s.versions d.device (λ vs. vs ++ table ∷ [])) d.device n
        ≡ Some table) (sym count) (ap (λ o. slice_get (unwrap_or o []) (length own))
        (change-there (λ vs. vs ++ table ∷ []) s.versions d.device own there)
        ∙ pushed-there own table))

    -- a load's step
    loaded-goes : TableStands c s.devices (image m table) → live_size d.slot.live ≤ size_of table
        → Goes m c s (obeyed_by m s (Some d.device) (on name (load chosen)) (Some table))
        (orders.Load d.device number ∷ [])
    loaded-goes may_stand longer =
        let loaded = λ (o : Option (Table S)). with_inactive (option_map (image m) o) in
        let f = loaded (Some table) in
        let next = change s.devices d.device (option_map f) in
        let grows = grows-live d.slot (f d.slot) refl in
        step-goes m c s _ here.stands
        (changed-stands m parts s c here d.device d.slot d.there f grows
        (λ was. record {
          live = was.live;
          inactive = record {
            stands = table-moves c s.devices next (image m table) (λ named has. changed-keeps
                m parts s c here d.device d.slot d.there f grows named) may_stand;
            version = (number, ap (option_map (image m)) loaded-version);
          };
          longer = rw (size_of-image m table) longer;
          rests = was.rests;
        })) (orders.Load d.device number)
        (λ rest. ((d.slot, d.there), (table, loaded-version))) refl
        (ap (λ o. change s.devices d.device (option_map (loaded o))) (sym loaded-version))

  -- a load that breaks no rule
  pub load-goes : (name chosen : List ℕ) → May m parts s c (on name (load chosen))
      → CommandGoes m parts s c (on name (load chosen))
  load-goes name chosen may =
      let task = on name (load chosen) in
      let d = find m parts s c here task may.free name refl in
      let t = choose m parts s c here task may.free chosen refl in
      let longer = not_less (size_of t.table) (live_size d.slot.live) (λ less.
      may.free told.V5 (d.device, d.slot, (d.named, d.there), (t.table, t.is, less))) in
      let later = subst (λ o. Later m c (obeyed_by m s o task (Some t.table))) d.named
      (subst (λ o. Later m c (obeyed m s task o)) t.is may.next) in
      subst (λ o. Goes m c s (obeyed m s task o) (steps_of (walk_of s) task)) (sym t.is)
      (goes-found m parts s c task d (Some t.table)
      (loaded-goes name chosen d t.table later t.may_stand longer))

  -- a clear that breaks no rule
  pub clear-goes : (name : List ℕ) → May m parts s c (on name clear)
      → CommandGoes m parts s c (on name clear)
  clear-goes name may =
      let d = find m parts s c here (on name clear) may.free name refl in
      goes-found m parts s c (on name clear) d None
      (step-goes m c s _ here.stands (changed-stands m parts s c here d.device d.slot d.there
      (with_inactive None) (grows-live d.slot (with_inactive None d.slot) refl)
      (λ was. record { live = was.live; inactive = tt; longer = tt; rests = was.rests }))
      (orders.Clear d.device) (λ rest. (d.slot, d.there)) refl refl)

  -- a remove that breaks no rule: its device is used no more
  pub remove-goes : (name : List ℕ) → May m parts s c (on name remove)
      → CommandGoes m parts s c (on name remove)
  remove-goes name may =
      let d = find m parts s c here (on name remove) may.free name refl in
      goes-found m parts s c (on name remove) d None (step-goes m c s _ here.stands
      (becomes-stands m parts s c here _ d.device None
      (change-becomes s.devices d.device (λ entry. None) None refl)
      (λ used. absurd (may.free told.V8 (d.device, d.named, used)))
      (λ slot none. absurd (None-not-Some none)))
      (orders.Remove d.device) (λ rest. (d.slot, d.there)) refl refl)
