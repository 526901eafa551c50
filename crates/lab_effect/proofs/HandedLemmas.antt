-- What a bio hands to the bio that it is a piece of, and its place there.
use Rattle.lab_model.proofs.Common.{rules, ◌≡◌, ◌≤◌, ℕ, Bool, true, false, List, [], Option, None}
use Rattle.lab_model.proofs.Common.{length, refl, sym, ◌∙◌, IfSome, inl, inr, option_map, cases_eq}
use Rattle.lab_model.proofs.Common.{◌≢◌, Some, recorded, Bio, change_numbered, option_flatten}
use Rattle.lab_model.specs.declared.parent.Parent.{Parent}
use Rattle.lab_model.specs.declared.parent.Parent.TheVariants.{FromBio, FromLog}
use Rattle.lab_model.proofs.Common.{numbered, Sectors, marked}
use Rattle.lab_model.specs.declared.piece.Piece.{Piece}
use Rattle.lab_bios.specs.Recording.{told}
use Rattle.lab_bios.proofs.Numbers.{at-changed, at-other}
use Rattle.lab_bios.proofs.MarkLemmas.{length_marked, marked-none}
use Rattle.lab_model.specs.Given.{HasPlace}
use Rattle.lab_effect.specs.Telling.{IsHanded, told_bios}

module _ (bios : List (Option Bio)) where
  -- what a bio hands on has its place where its answer has, or more sectors
  pub handed-placed : (bio : Bio) (failed : Bool) (given sectors : Sectors) (parent : Parent)
      (count : ℕ) → length given ≤ count → IsHanded bio (told failed given) sectors parent
      → HasPlace bios count parent → HasPlace bios (length sectors) parent
  handed-placed bio true given sectors parent count few none = search rules
  handed-placed bio false given sectors (FromLog log line action) count few is = search rules
  handed-placed bio false given sectors (FromBio number piece) count few is =
      rw (is, length_marked bio.marks given) (search rules)

  -- bios that record what a bio of these marks hands on have recorded its answer
  pub told-by : (new : List (Option Bio)) (bio : Bio) (number : ℕ) (piece : Piece) (failed : Bool)
      (given sectors : Sectors)
      → ((child : Bio) (other : Sectors) → sectors ≡ marked child.marks other
      → new ≡ change_numbered bios number (option_map (recorded child piece (told failed other))))
      → IsHanded bio (told failed given) sectors (FromBio number piece)
      → new ≡ told_bios bios bio (told failed given) (FromBio number piece)
  told-by new bio number piece true given sectors records none =
      records bio [] (none ∙ sym (marked-none bio.marks))
  told-by new bio number piece false given sectors records is = records bio given is

-- where a bio is taken out, what holds of one that is still there holds as before
still-there : {X : Type 0} (P : X → Type 0) (xs : List (Option X)) (number other : ℕ)
    → IfSome (option_flatten (numbered xs other)) P
    → IfSome (option_flatten (numbered (change_numbered xs number (λ _. None)) other)) P
still-there P xs number other holds = elim (cases_eq other number)
    as (λ _. IfSome (option_flatten (numbered (change_numbered xs number (λ _. None)) other)) P) [
      | inl same ↦ rw (same, at-changed xs number (λ _. None) refl) tt
      | inr apart ↦ rw (at-other xs number other (λ _. None) apart) holds
    ]

-- the place at the parent stays where a bio is taken out
pub place_if_taken : (bios : List (Option Bio)) (number count : ℕ) (parent : Parent)
    → HasPlace bios count parent
    → HasPlace (change_numbered bios number (λ _. None)) count parent
place_if_taken bios number count parent room = search (rules, still-there)

-- where nothing is told of a bio, none lives of which anything could be said
pub nothing-told : {X Y Z : Type 0} (P : Y → Type 0) (told : Option X) (entry : Option Y)
    (f : X → Z) (g : Y → Z) → option_map f told ≡ option_map g entry
    → ((x : X) → told ≢ Some x) → IfSome entry P
nothing-told P None None f g same not = tt
nothing-told P None (Some y) f g same not = absurd (cc)
nothing-told P (Some x) entry f g same not = absurd (not x refl)
