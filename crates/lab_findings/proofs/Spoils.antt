-- What has the byte that was asked for is not spoiled.
use Rattle.lab_model.proofs.Common.{rules, ◌≡◌, ◌∙◌, ℕ, suc, zero, ◌+◌, Option, None, Some, refl, arith}
use Rattle.lab_model.proofs.Common.{true, false, replicate, ap, State, Meaning, Sectors, filled, length}
use Rattle.lab_next.specs.declared.origin.Root.{Root}
use Rattle.lab_model.specs.LogEffect.{fill_of}
use Rattle.lab_findings.specs.Changes.{is_changed}
use Rattle.lab_findings.specs.Heard.{spoiled_at, spoiled_by, spoiled_if}
use Rattle.lab_findings.specs.Watched.{Watched}
use Rattle.lab_model.proofs.Common.{IfSome, eqb, if◌then◌else◌, nat_tests, subst, sym}
use Rattle.std.specs.Option.{option_eq}

-- a sector of one byte has no other
unchanged : (count byte : ℕ) → is_changed byte (replicate count byte) ≡ false
unchanged zero byte = refl
unchanged (suc more) byte = grind (arith, unchanged more byte)

-- sectors that all have a byte, if one is known of them, have this byte where it is that one
pub same-fill : (fill : Option ℕ) (byte : ℕ) (sectors : Sectors)
    → true ≡ option_eq eqb fill (Some byte)
    → IfSome fill (λ own. sectors ≡ filled (length sectors) own)
    → sectors ≡ filled (length sectors) byte
same-fill None byte sectors same fills = search rules
same-fill (Some own) byte sectors same fills =
    let is : own ≡ byte = grind (arith, nat_tests) in
    subst (λ one. sectors ≡ filled (length sectors) one) is fills

module _ {S : Type 0} (m : Meaning S) (s : State S) (watched : Watched) (number : ℕ) (root : Root) where
  -- of sectors that all have the byte none is spoiled
  none-spoiled : (count byte place : ℕ)
      → spoiled_by m s watched number root byte place (filled count byte) ≡ watched
  none-spoiled zero byte place = refl
  none-spoiled (suc more) byte place =
      ap (λ changed. spoiled_by m s
      (if changed then spoiled_at m s watched number root byte place else watched)
      number root byte (place + 1) (filled more byte)) (unchanged 512 byte)
      ∙ none-spoiled more byte (place + 1)

  -- nor is one of a bio that writes the byte alone that was asked for
  pub nothing-spoiled : (sectors : Sectors) (byte : ℕ)
      → byte ≡ fill_of root.writer.origin.log root.writer.origin.line
      → sectors ≡ filled (length sectors) byte
      → watched ≡ spoiled_if m s watched number sectors (Some root)
  nothing-spoiled sectors byte byte-is filled-so = sym
      (ap (λ own. spoiled_by m s watched number root own 0 sectors) (sym byte-is)
      ∙ ap (λ all. spoiled_by m s watched number root byte 0 all) filled-so
      ∙ none-spoiled (length sectors) byte 0)
