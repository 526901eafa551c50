-- The names that most proofs above cite, passed on from one place: those of the toolchain, of
-- requests, of targets and of runs. Declares nothing.
pub use Rattle.std.specs.Bool.{Decides}
pub use Rattle.std.specs.Cmp.{both_ways, nat_cmp_total}
pub use Rattle.std.specs.FinMap.{get, get-from_entries, get-insert, same_map}
pub use Rattle.std.specs.HashMap.{HashMap, Updates}
pub use Rattle.std.specs.List.{AllByRecursion, AllPairs, cons_option, count_by, enumerate_from}
pub use Rattle.std.specs.List.{find, flat_map, list_all, list_any, onto_first, position_or_len}
pub use Rattle.std.specs.List.{range_with_len, slice_split, sum_by, swap, zip}
pub use Rattle.std.specs.List.Sorted.{IsNonDecreasing, IsPartitionPoint, IsPermutation}
pub use Rattle.std.specs.Map.{lookup}
pub use Rattle.std.specs.Option.{is_some, option_copied, option_flatten, option_or}
pub use Rattle.std.specs.Result.{result_ok, result_unwrap_or}
pub use Rattle.std.specs.Str.{bytes_eq}
pub use Rattle.std.proofs.Math.Bool.{or-false}
pub use Rattle.std.proofs.Math.ListN.{drop_of_length-le}
pub use Rattle.std.proofs.Math.Nat.{add-zero}
pub use Rattle.std.proofs.Math.Seq.{take-append_seam, take-length}
pub use Rattle.std.proofs.lemmas.Bool.{and_from, and_parts, cases_Bool, cases_eq, cases_lt}
pub use Rattle.std.proofs.lemmas.Bool.{cond_both, eqb-true, false_from_ne_true, le-leb, le-ltb}
pub use Rattle.std.proofs.lemmas.Bool.{leb-false, leb-true, lt-ltb, not-true, or_cases, or_left}
pub use Rattle.std.proofs.lemmas.Bool.{or_parts, or_right}
pub use Rattle.std.proofs.lemmas.Bool.Decides.{Decides-at, Decides-eqb, Decides-like, Decides-not}
pub use Rattle.std.proofs.lemmas.Bool.Decides.{Decides-or, nat_tests, not_from_Decides}
pub use Rattle.std.proofs.lemmas.Fmt.{decimal_nonempty}
pub use Rattle.std.proofs.lemmas.Grind.{common_steps, flat_map-append, get_or-set_at}
pub use Rattle.std.proofs.lemmas.List.{append-nil, drop_all, drop_more, get_or-map}
pub use Rattle.std.proofs.lemmas.List.{get_or-replicate, get_or-set_other, get_or_default}
pub use Rattle.std.proofs.lemmas.List.{length-map, length-replicate, length-set, length-take-le}
pub use Rattle.std.proofs.lemmas.List.{length_push, map-append, nil_from_length, same_lists}
pub use Rattle.std.proofs.lemmas.List.{take_all, take_more}
pub use Rattle.std.proofs.lemmas.List.Edits.{length-swap, map_over_more, swapped_from_swap}
pub use Rattle.std.proofs.lemmas.List.Elements.{All-append, All-cons, All-from_get_or, All-head}
pub use Rattle.std.proofs.lemmas.List.Elements.{All-map, All-nil, All-push, All-tail, All-weaker}
pub use Rattle.std.proofs.lemmas.List.Elements.{filter-append, filter_map-append}
pub use Rattle.std.proofs.lemmas.List.Elements.{recursion_from_All}
pub use Rattle.std.proofs.lemmas.List.Folds.{Any-from_list_any, list_any-append, list_any_at}
pub use Rattle.std.proofs.lemmas.List.Folds.{list_any_none}
pub use Rattle.std.proofs.lemmas.List.FromFn.{length-range_with_len}
pub use Rattle.std.proofs.lemmas.List.Quantifiers.{position-Some}
pub use Rattle.std.proofs.lemmas.List.Sorted.{Contains-permutation, IsPartitionPoint-from_clause}
pub use Rattle.std.proofs.lemmas.List.Sorted.{IsPartitionedBy-leb, IsPartitionedBy-ltb}
pub use Rattle.std.proofs.lemmas.List.Sorted.{IsPermutation-remove, IsPermutation-swap}
pub use Rattle.std.proofs.lemmas.List.Sorted.{IsPermutation-sym, IsPermutation-trans}
pub use Rattle.std.proofs.lemmas.List.Sums.{fold_more, sum_by-cons}
pub use Rattle.std.proofs.lemmas.Map.Steps.{length-le_from_distinct_below}
pub use Rattle.std.proofs.lemmas.Option.{get_or_from_slice_get, none-some, option_and_then_some}
pub use Rattle.std.proofs.lemmas.Option.{same_Some, slice_get-get_or, slice_get-map, slice_get_past}
pub use Rattle.std.proofs.lemmas.Option.{slice_get_read, slice_get_within}
pub use Rattle.std.proofs.lemmas.Result.{IfOk-weaker, err_from_is_err_and, on_ok_weaker}
pub use Rattle.std.proofs.lemmas.Simd.{map-map}
pub use Rattle.std.proofs.Common.{◌%◌, ◌&&◌, ◌*◌, ◌++◌, ◌+◌, ◌-◌, ◌/◌, ◌<◌, ◌==◌, ◌^◌, ◌||◌, ◌↔◌}
pub use Rattle.std.proofs.Common.{◌∙◌, ◌∷◌, ◌≡◌, ◌≢◌, ◌≤◌, ◌⊎◌, All, Bool, Contains, Err, Global}
pub use Rattle.std.proofs.Common.{IfNone, IfOk, IfSome, IsOk, IsSome, List, None, Ok, OnErr, OnOk}
pub use Rattle.std.proofs.Common.{Option, Result, Some, Vec, [], add-one, ap, append_assoc, ap₂}
pub use Rattle.std.proofs.Common.{arith, codes, cond, decimal, drop, eq-eqb, eqb, false, filter}
pub use Rattle.std.proofs.Common.{filter_map, fold, get_or, if◌then◌else◌, inl, inr, le_refl, leb}
pub use Rattle.std.proofs.Common.{length, length-append, length-drop, length-take, ltb-false}
pub use Rattle.std.proofs.Common.{ltb-true, map, max, min, nat_cmp, nat_eq, nat_le, nat_lt, ne_eqb}
pub use Rattle.std.proofs.Common.{not, option_and_then, option_map, position, refl, remove}
pub use Rattle.std.proofs.Common.{replicate, rules, slice_get, slice_set, subst, suc, sum, sym}
pub use Rattle.std.proofs.Common.{take, true, true≢false, unwrap_or, vec_capacity, vec_len, zero, ℕ}
pub use Rattle.std.proofs.lemmas.Fn.{filter_same}
pub use Rattle.std.proofs.lemmas.Slice.Zip.{length-zip}
pub use Rattle.std.specs.Vec.Iter.{into_iter_items}
pub use Rattle.lab_sector.specs.declared.device.DevNo.{DevNo}
pub use Rattle.lab_sector.specs.declared.device.DevNo.TheVariants.{Dm, Ram}
pub use Rattle.lab_sector.specs.declared.request.Kind.{Kind}
pub use Rattle.lab_sector.specs.declared.request.Kind.TheVariants.{Flush, Read, Trim, Write}
pub use Rattle.lab_sector.specs.declared.span.Span.{Span}
pub use Rattle.lab_sector.specs.Span.{Holds}
pub use Rattle.lab_text.proofs.LinesLemmas.{length-lines_of, lines_of-ended, lines_of-nil}
pub use Rattle.lab_text.proofs.NumbersLemmas.{number_of-within}
pub use Rattle.lab_text.proofs.WordsLemmas.{words_of-nil, words_of-word}
pub use Rattle.lab_text.specs.Bundle.{Line, first_of, part_of}
pub use Rattle.lab_text.specs.Lines.{is_blank, is_comment, is_skipped, kept_from}
pub use Rattle.lab_text.specs.Numbers.{number_to}
pub use Rattle.lab_text.specs.Words.{has_byte, is_blank_byte}
pub use Rattle.lab_text.specs.declared.bundle.BundleFault.{BundleFault}
pub use Rattle.lab_target.specs.declared.fault.TargetFault.{TargetFault}
pub use Rattle.lab_target.specs.declared.verdict.Marks.{Marks}
pub use Rattle.lab_target.specs.declared.verdict.Ref.{Ref}
pub use Rattle.lab_target.specs.declared.verdict.Verdict.{Verdict}
pub use Rattle.lab_target.specs.declared.verdict.Verdict.TheVariants.{Pass}
pub use Rattle.lab_target.specs.Laws.{Allowed, IsPiece, Lawful, PassAllowed, greatest_sector}
pub use Rattle.lab_target.specs.Laws.{shifted}
pub use Rattle.lab_target.specs.Meaning.{Meaning, Shape}
pub use Rattle.lab_target.specs.Reading.{devices_of, resolved}
pub use Rattle.lab_target.proofs.PrintedWords.{second_of_both}
pub use Rattle.lab_model.specs.After.{After, Cause, Next, Wrong, given, unless}
pub use Rattle.lab_model.specs.Answers.{Failed, Gave, Told, answered, outcome_of, recorded}
pub use Rattle.lab_model.specs.Answers.{recorded_at, told_to, with_answer, without_bio}
pub use Rattle.lab_model.specs.Below.{Below, HasNoCycle, devices_under, direct, ever_under, kinds}
pub use Rattle.lab_model.specs.Below.{references_of, through}
pub use Rattle.lab_model.specs.Bios.{Bio, Entering, Held, InFlight, Stage}
pub use Rattle.lab_model.specs.ControlEffect.{control, created, held_counts, line_text}
pub use Rattle.lab_model.specs.ControlEffect.{named_version, order_effect, starting, status_texts}
pub use Rattle.lab_model.specs.ControlEffect.{swapped, table_texts, with_inactive, with_mode}
pub use Rattle.lab_model.specs.Cost.{all_visits, beyond, budget, cost, cost_within}
pub use Rattle.lab_model.specs.Cost.{greatest, line_cost, piece_by}
pub use Rattle.lab_model.specs.Cost.{table_cost, table_visits, visits_by}
pub use Rattle.lab_model.specs.Cost.{visits_within}
pub use Rattle.lab_model.specs.CreatesInOrder.{CreatesFrom}
pub use Rattle.lab_model.specs.DiskEffect.{release, serve, served, with_disk}
pub use Rattle.lab_model.specs.DiskEffect.{with_sectors}
pub use Rattle.lab_model.specs.Effect.{IsComplete, IsRun, Leads, effect}
pub use Rattle.lab_model.specs.Fine.{BelowRuns, FilesFine, Fine, FineFrom, HasTable, InMode}
pub use Rattle.lab_model.specs.Fine.{IsThere, LineOn, LinesStand, LinesStandIn, OrderFine}
pub use Rattle.lab_model.specs.Fine.{PlaceFine, is_started, live_under, phase_after}
pub use Rattle.lab_model.specs.Guard.{bio_finishes, bio_maps, bio_may, bio_releases, bio_serves}
pub use Rattle.lab_model.specs.Guard.{control_may, due_of, flies_at, has_child, has_come}
pub use Rattle.lab_model.specs.Guard.{has_flight, has_line, is_bio, is_busy, is_done, is_enabled}
pub use Rattle.lab_model.specs.Guard.{is_log, line_may, log_ended, logs_ended, moments, runs}
pub use Rattle.lab_model.specs.Guard.{slot_runs}
pub use Rattle.lab_model.specs.Lists.{change, change_numbered, numbered}
pub use Rattle.lab_model.specs.Files.{Files, has_device, no_files, same_device}
pub use Rattle.lab_model.specs.LogEffect.{line_effect, next_line, operation, wait_of}
pub use Rattle.lab_target.specs.Types.{no_marks}
pub use Rattle.lab_model.specs.LogEffect.{with_log}
pub use Rattle.lab_model.specs.MapEffect.{Judgement, all_judged, answer_room, child_of}
pub use Rattle.lab_model.specs.MapEffect.{child_sectors, children, fails, fits_table, judgement_by}
pub use Rattle.lab_model.specs.MapEffect.{judgements, map_bio, marks_in, sent, sent_off}
pub use Rattle.lab_model.specs.MapEffect.{table_judged, with_live}
pub use Rattle.lab_model.specs.Order.{enabled_events, events_of}
pub use Rattle.lab_model.specs.Owner.{owner_of, parent_of}
pub use Rattle.lab_model.specs.Pieces.{block_at, empty_piece, grown, line_number, piece_of_one}
pub use Rattle.lab_model.specs.Pieces.{pieces, same_class, sector_pieces, with_sector}
pub use Rattle.lab_model.specs.Potential.{bio_potential, clock_steps, is_clock, log_potential}
pub use Rattle.lab_model.specs.Potential.{potential, steps}
pub use Rattle.lab_model.specs.Report.{budget_text, log_text, report, text_line}
pub use Rattle.lab_model.specs.Scenario.{LogPlan, Scenario, version_of, versions_of}
pub use Rattle.lab_model.specs.Sectors.{Sectors, filled, marked, part, put}
pub use Rattle.lab_model.specs.Sizes.{DevicesStand, Reaches, SlotStands, TableStands}
pub use Rattle.lab_model.specs.Sizes.{live_size, size_at}
pub use Rattle.lab_model.specs.Slots.{HasMode, live_at, slot_at}
pub use Rattle.lab_model.specs.State.{Disk, LogState, Slot, State, bio_of, empty_disk, opening_log}
pub use Rattle.lab_model.specs.State.{disk_of, living, opening}
pub use Rattle.lab_model.specs.Tables.{HasNoGap, Table, has_sector, image, line_at, opened, placed}
pub use Rattle.lab_model.specs.Tables.{size_of, with_target}
pub use Rattle.lab_model.specs.Walk.{Devices, devices_image, slot_image, version_image, walk}
pub use Rattle.lab_model.specs.Walk.{walk_order}
pub use Rattle.lab_model.proofs.Changes.{change-past, change-set, change_numbered-cases}
pub use Rattle.lab_model.proofs.Changes.{length-change, length-change_numbered, map-cases}
pub use Rattle.lab_model.proofs.Changes.{map-change, map-change-alone, numbered-test}
pub use Rattle.lab_model.proofs.EntryLemmas.{drop-found, option_map-holds, there-passes}
pub use Rattle.lab_model.proofs.GuardLemmas.{bio_may-gives}
pub use Rattle.lab_model.proofs.ListLemmas.{None-not-Some, Some-holds, joined-Some, of_entry}
pub use Rattle.lab_model.proofs.ListLemmas.{slice_get-append, slice_get-front, slice_get-within}
pub use Rattle.lab_model.proofs.ListLemmas.{sum-there, sum-total, take-more, total, total-append}
pub use Rattle.lab_model.proofs.ListLemmas.{total-filter_map, total-le, total-none}
pub use Rattle.lab_model.proofs.ListLemmas.{total-numbered-entry, total-numbered-same, total-there}
pub use Rattle.lab_model.proofs.Members.{All-In, Contains-In, In, In-Contains, In-append_left}
pub use Rattle.lab_model.proofs.Members.{In-append_right, In-filter_map, In-flat_map, In-kinds}
pub use Rattle.lab_model.proofs.Members.{In-list_any, In-map, In-slice_get, append-member}
pub use Rattle.lab_model.proofs.Members.{filter_map-member, map-member, member-place}
pub use Rattle.lab_model.proofs.ShapeLemmas.{line_at-image, size_of-image, table_cost-total}
