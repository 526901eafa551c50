-- The words of the crates below that more than one file of this crate, and of those above it,
-- speaks of, passed on under one name. Declares nothing.
pub use Rattle.lab_model.specs.MapEffect.{child_sectors}
pub use Rattle.lab_model.specs.State.{answers_in, answers_of}
pub use Rattle.lab_model.specs.declared.answer.Answer.{Answer}
pub use Rattle.lab_model.specs.declared.entry.Action.{Action}
pub use Rattle.lab_model.specs.declared.event.Event.{Event}
pub use Rattle.lab_model.specs.declared.event.Event.TheVariants.{Clock, Control, Finish, Line, Map}
pub use Rattle.lab_model.specs.declared.event.Event.TheVariants.{Release, Serve}
pub use Rattle.lab_model.specs.declared.piece.Piece.{Piece}
pub use Rattle.law_slots.specs.WalkIsKept.{is_control}
pub use Rattle.law_answered_once.proofs.OrderLaw.{moved}
pub use Rattle.law_answered_once.proofs.Waiting.{IsAnswered}
pub use Rattle.law_answered_once.specs.AnsweredOnce.{is_answer_to}
pub use Rattle.law_never_wrong.proofs.DiskLemmas.{length-filled, length-put, same-disk, sectors_in}
pub use Rattle.law_never_wrong.proofs.Events.{all-runs-fit}
pub use Rattle.law_never_wrong.proofs.NumberedEntries.{entry_at}
pub use Rattle.law_never_wrong.proofs.NumberedEntries.{entry-within}
pub use Rattle.law_never_wrong.specs.Fits.{Fits, FitsParent}
pub use Rattle.law_headline.specs.Routes.{descends, DiskSector, route}
pub use Rattle.law_sectors_touched.proofs.Descent.{above-of, comes-stay, is_flying, IsLogs, Passage}
pub use Rattle.law_sectors_touched.proofs.Events.{Finishing, finishing-of, Serving, serving-of}
pub use Rattle.law_sectors_touched.proofs.Judged.{born, is-judged, Judged, judged, judged-tiles}
pub use Rattle.law_sectors_touched.proofs.Judged.{judged_span, map-gives, off, sent}
pub use Rattle.law_sectors_touched.proofs.KeptBios.{came-kept, Leaves, leaves-passage, LeavesAll}
pub use Rattle.law_sectors_touched.proofs.Leaving.{answered-leaves, clock-leaves, IsTold, told-each}
pub use Rattle.law_sectors_touched.proofs.Leaving.{line-leaves, release-leaves}
pub use Rattle.law_sectors_touched.proofs.SentBios.{child-is, child-lies, child-lives, IsChild}
pub use Rattle.law_sectors_touched.proofs.SentBios.{LiesUnder, sent-cases, sent-flies, sent-on}
pub use Rattle.law_sectors_touched.proofs.SentBios.{slice_get-back}
pub use Rattle.law_sectors_touched.proofs.Tiles.{tiles-find}
