-- The words of the crates below that more than one of these files speaks of, passed on under one
-- name. Declares nothing.
pub use Rattle.lab_model.specs.declared.event.Event.{Event}
pub use Rattle.lab_model.specs.declared.event.Event.TheVariants.{Clock, Control, Finish, Line, Map}
pub use Rattle.lab_model.specs.declared.event.Event.TheVariants.{Release, Serve}
pub use Rattle.lab_model.specs.declared.piece.Piece.{Piece}
pub use Rattle.lab_model.specs.declared.table_line.TableLine.{TableLine}
pub use Rattle.law_slots.proofs.ByLine.{Then-at}
pub use Rattle.law_slots.specs.WalkIsKept.{is_control}
pub use Rattle.law_answered_once.proofs.OrderLaw.{moved}
pub use Rattle.law_within_budget.specs.PotentialFalls.{TablesAreVersions}
pub use Rattle.law_within_budget.specs.Ranked.{Ranked}
pub use Rattle.law_never_wrong.proofs.FitsKept.{line-kept}
pub use Rattle.law_never_wrong.proofs.NumberedEntries.{entry_at}
pub use Rattle.law_never_wrong.proofs.NumberedEntries.{entries-cases, entry-within}
pub use Rattle.law_never_wrong.proofs.PieceLemmas.{lies-is_piece, PieceOf}
pub use Rattle.law_never_wrong.specs.Fits.{Fits}
pub use Rattle.law_headline.specs.Routes.{descends, DiskSector, partner_in, partner_of}
pub use Rattle.law_headline.specs.Routes.{route, route_within, routes, serves, times, touched_by}
