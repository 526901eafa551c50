-- The next state of the mapping of a bio, where it isn't wrong.
use Rattle.lab_model.proofs.Common.{rules, ◌≡◌, ℕ, true, Some, Dm, Meaning, Bio, all_judged}
use Rattle.lab_model.proofs.Common.{fits_table, judgements, map_bio, sent, pieces, live_at, State}
use Rattle.lab_model.proofs.Common.{bio_of, Table}
use Rattle.lab_effect.proofs.Leads.{Then}

module _ {S : Type 0} (m : Meaning S) (s : State S) (number device : ℕ) (bio : Bio) where
  -- the live table of the bio's device, which has the bio's sectors, has judged it
  pub record Maps (next : State S) : Type 0 where
    pub table : Table S
    pub live : live_at s.devices device ≡ Some table
    pub fits : fits_table table bio.kind bio.span ≡ true
    pub is : next ≡ sent s device number bio
        (all_judged m bio.kind s.clock table (pieces m table bio.kind bio.span))
        (judgements m bio.kind s.clock table (pieces m table bio.kind bio.span))

  -- so it has, wherever the mapping leads
  pub maps-then : bio_of s number ≡ Some bio → bio.device ≡ Dm device
      → Then (map_bio m s number) Maps
  maps-then lives on = search rules
