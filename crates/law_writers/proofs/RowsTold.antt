-- So the rows of what stands on the disks give the bytes that the disks have, after each run.
use Rattle.lab_model.proofs.Common.{rules, ◌∙◌, ◌∷◌, [], ap}
use Rattle.lab_model.proofs.Common.{Fine, Lawful, Leads, List, Meaning, Next}
use Rattle.lab_model.proofs.Common.{None-not-Some, opening, Scenario}
use Rattle.lab_model.proofs.Common.{slice_get_within, State, subst}
use Rattle.lab_model.proofs.Common.{sym}
use Rattle.std.specs.FinMap.{get-empty}
use Rattle.lab_next.specs.declared.writer.Writer.{Writer}
use Rattle.lab_watch.specs.Grids.{place_cmp}
use Rattle.lab_image.specs.Given.{sector_bytes, zeroes}
use Rattle.lab_image.specs.Images.{Image, blank, image_next}
use Rattle.lab_image.specs.Stands.{image_from}
use Rattle.lab_image.proofs.Standing.{give-all}
use Rattle.law_never_wrong.specs.NeverWrong.{Goes}
use Rattle.law_never_wrong.proofs.Events.{events-fit}
use Rattle.law_never_wrong.proofs.Runs.{opening-Fits}
use Rattle.law_bytes_carried.proofs.Words.{Event, Fits}
use Rattle.law_writers.specs.RowsTell.{RowsTell, fills}
use Rattle.law_writers.proofs.Following.{Has, kept-has}
use Rattle.law_writers.proofs.Runs.{opening-zero}

module _ {S : Type 0} (m : Meaning S) (lawful : Lawful m) (c : Scenario S) where
  -- before the first event disks have zero bytes, and nobody is known as their writer
  opening-has : Fine m c → Has m c (opening c) blank
  opening-has fine = record {
    fits = opening-Fits m c fine;
    disks = λ disk place sectors bytes stands at.
        opening-zero disk c.disks sectors place bytes stands at
        ∙ ap (λ writer. sector_bytes fills [] writer zeroes)
        (sym (get-empty {X = Writer} place_cmp (disk, place)));
    bios = λ n bio lives. absurd (None-not-Some ((search rules) ∙ lives));
  }

  -- what is known holds on with events, one after another
  leads-has : (events : List Event) (s end : State S) (image : Image) → Has m c s image
      → Leads m c s events end → Has m c end (image_from m c (Next s) image events)
  leads-has [] s end image has leads = subst (λ at. Has m c at image) (sym leads) has
  leads-has (event ∷ events) s end image has leads =
      let fits : Fits m c leads.1 = subst (λ a. Goes a (Fits m c)) leads.2
      (events-fit m lawful c s has.fits event leads.0) in
      let later = kept-has lawful has leads.1 fits event leads.0 leads.2 in
      rw (leads.2) (leads-has events leads.1 end (image_next s leads.1 event image) later leads.3)

-- so the rows give the bytes that disks have
pub rows-told : {S : Type 0} (m : Meaning S) → Lawful m → RowsTell m
rows-told m lawful c fine events s run disk sector sectors bytes stands at =
    let image : Image = image_from m c (Next (opening c)) blank events in
    let has = leads-has m lawful c events (opening c) s blank (opening-has m lawful c fine) run in
    give-all image.disks s.disks fills disk sector sectors stands
    (slice_get_within sectors sector bytes at)
    ∙ sym (has.disks disk sector sectors bytes stands at)
