-- What is known of an operation changes once it is answered, where it stands in the map.
use Rattle.lab_model.proofs.Common.{◌≡◌, ◌≤◌, ◌∙◌, ℕ, Option, Some, refl, ap, sym, subst}
use Rattle.std.specs.Prelude.{IfSome, IsSome}
use Rattle.std.specs.HashMap.{HashMap, UpdatesBy}
use Rattle.std.specs.HashMap as hash
use Rattle.lab_next.specs.declared.origin.Origin.{Origin}
use Rattle.lab_watch.proofs.Places.{same_place}
use Rattle.lab_findings.specs.declared.deed.Deed.{Deed}
use Rattle.lab_findings.specs.Deeds.{NoneBehind, deed_of}
use Rattle.lab_findings.specs.Settled.{closed_deed}
use Rattle.lab_findings.proofs.Behind.{behind-put}
use Rattle.lab_findings.proofs.Held.{found-at, held_in, put-at}

module _ {H : Type 0} (held more : HashMap (ℕ × ℕ) Deed H) (origin : Origin) (deed : Deed)
    (made : ℕ) (lost : Option ℕ)
    (found : hash.get same_place held (origin.log, origin.line) ≡ Some deed)
    (writes : IsSome (hash.get same_place held (origin.log, origin.line))
    → UpdatesBy same_place (same_place (origin.log, origin.line)) held more
    (Some (record deed { made = Some made; lost = lost }))) where
  -- the map has it there with the new fields
  put-closed : held_in more ≡ closed_deed (held_in held) origin made lost (Some deed)
  put-closed = put-at held more (origin.log, origin.line)
      (record deed { made = Some made; lost = lost }) (writes (subst IsSome (sym found) refl))

  -- it is known so
  known : deed_of (held_in held) origin ≡ Some deed
  known = found-at held (origin.log, origin.line) ∙ found

  -- so it is answered
  pub is-closed : held_in more
      ≡ closed_deed (held_in held) origin made lost (deed_of (held_in held) origin)
  is-closed = put-closed ∙ ap (closed_deed (held_in held) origin made lost) (sym known)

  -- and its bio has the number that it had
  pub closed-behind : (latest : ℕ) → NoneBehind (held_in held) latest
      → NoneBehind (held_in more) latest
  closed-behind latest last = subst (λ deeds. NoneBehind deeds latest) (sym put-closed)
      (behind-put (held_in held) origin (record deed { made = Some made; lost = lost }) latest
      (subst (λ one. IfSome one (λ other. other.bio ≤ latest)) known (last origin)) last)
