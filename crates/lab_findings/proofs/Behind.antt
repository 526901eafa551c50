-- No operation that is known has a bio of a greater number.
use Rattle.lab_model.proofs.Common.{◌≤◌, ℕ, Bool, true, false, cond, Option, None, Some}
use Rattle.lab_model.proofs.Common.{sym, subst, arith}
use Rattle.std.specs.Prelude.{IfSome}
use Rattle.std.specs.FinMap.{get-empty}
use Rattle.lab_next.specs.declared.origin.Origin.{Origin}
use Rattle.lab_watch.proofs.Places.{same_place}
use Rattle.lab_watch.specs.Grids.{place_cmp}
use Rattle.lab_findings.specs.declared.deed.Deed.{Deed}
use Rattle.lab_findings.specs.Deeds.{Deeds, NoneBehind, deed_of, no_deeds, with_deed}
use Rattle.lab_findings.proofs.Held.{get-put}

-- one that is known so has none of a greater number
abbrev IsUpTo : ℕ → Option Deed → Type 0
IsUpTo number known = IfSome known (λ deed. deed.bio ≤ number)

-- none is known
pub none-behind : (number : ℕ) → NoneBehind no_deeds number
none-behind number origin = subst (IsUpTo number)
    (sym (get-empty place_cmp (origin.log, origin.line))) tt

-- a greater number does, too
more-up-to : (latest number : ℕ) (known : Option Deed) → latest ≤ number → IsUpTo latest known
    → IsUpTo number known
more-up-to latest number None less is = tt
more-up-to latest number (Some deed) less is = omega (arith, less, is)

pub behind-more : (deeds : Deeds) (latest number : ℕ) → latest ≤ number → NoneBehind deeds latest
    → NoneBehind deeds number
behind-more deeds latest number less last origin =
    more-up-to latest number (deed_of deeds origin) less (last origin)

-- with a deed more that has none of a greater number
either-up-to : (number : ℕ) (same : Bool) (deed : Deed) (known : Option Deed) → deed.bio ≤ number
    → IsUpTo number known → IsUpTo number (cond same (Some deed) known)
either-up-to number true deed known here others = here
either-up-to number false deed known here others = others

pub behind-put : (deeds : Deeds) (origin : Origin) (deed : Deed) (number : ℕ) → deed.bio ≤ number
    → NoneBehind deeds number → NoneBehind (with_deed deeds origin deed) number
behind-put deeds origin deed number here last other = subst (IsUpTo number)
    (sym (get-put deeds (origin.log, origin.line) deed (other.log, other.line)))
    (either-up-to number (same_place (origin.log, origin.line) (other.log, other.line)) deed
    (deed_of deeds other) here (last other))
