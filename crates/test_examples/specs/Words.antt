-- The words in which the examples are written, those of the crates below and those of the examples
-- alone, passed on under one name.
pub use Prim.Native.String.{String}
pub use Rattle.std.specs.Prelude.{◌≡◌, ℕ, ◌+◌, Bool, true, false, List, [], ◌∷◌, ◌++◌}
pub use Rattle.std.specs.Prelude.{Option, Some, None, replicate, map, slice_get}
pub use Rattle.std.proofs.Common.{refl}
pub use Rattle.lab_sector.specs.declared.device.DevNo.{DevNo}
pub use Rattle.lab_sector.specs.declared.device.DevNo.TheVariants.{Ram, Dm}
pub use Rattle.lab_target.specs.declared.verdict.Ref.{Ref}
pub use Rattle.lab_simple.specs.Linear.{linear}
pub use Rattle.lab_delay.specs.Delay.{delay_target}
pub use Rattle.lab_dust.specs.Dust.{DustLine, dust_target}
pub use Rattle.lab_flakey.specs.declared.feature.Direction.TheVariants.{Reads, Writes}
pub use Rattle.lab_flakey.specs.Flakey.{FlakeyLine, flakey}
pub use Rattle.lab_flakey.specs.Features.{no_features}
pub use Rattle.lab_model.specs.declared.answer.Answer.{Answer}
pub use Rattle.lab_model.specs.declared.answer.Outcome.TheVariants.{Runs}
pub use Rattle.lab_model.specs.declared.entry.Action.{Action}
pub use Rattle.lab_model.specs.declared.entry.Action.TheVariants.{Read, Write, Trim}
pub use Rattle.lab_model.specs.declared.entry.Action.TheVariants.{Sync, Datasync}
pub use Rattle.lab_model.specs.declared.entry.Entry.{Entry}
pub use Rattle.lab_model.specs.declared.entry.Entry.TheVariants.{Add, Open, Close}
pub use Rattle.lab_model.specs.declared.event.Event.{Event}
pub use Rattle.lab_model.specs.declared.event.Event.TheVariants.{Line, Map, Serve, Release, Finish}
pub use Rattle.lab_model.specs.declared.event.Event.TheVariants.{Control, Clock}
pub use Rattle.lab_model.specs.declared.micro.Micro.{Micro}
pub use Rattle.lab_model.specs.declared.micro.Order.TheVariants.{Create, Load, Clear, Begin}
pub use Rattle.lab_model.specs.declared.micro.Order.TheVariants.{Drained, Swap, Remove}
pub use Rattle.lab_model.specs.declared.micro.Order.TheVariants.{Status, Sleep, Replay, Wait}
pub use Rattle.lab_model.specs.declared.table_line.TableLine.{TableLine}
pub use Rattle.lab_model.specs.Cost.{budget}
pub use Rattle.lab_model.specs.Scenario.{Scenario, LogPlan}
pub use Rattle.lab_model.specs.declared.plan.LogLine.{LogLine}
pub use Rattle.lab_model.specs.State.{State, bio_of}
pub use Rattle.lab_model.specs.Tables.{Table}
pub use Rattle.test_examples.specs.Example.{disk, to, group, Groups, delayed, row, dust, one_row}
pub use Rattle.test_examples.specs.Example.{step, create, tell_table, message, resume}
pub use Rattle.test_examples.specs.Example.{operate, pause, lines_from, log_of, log_on}
pub use Rattle.test_examples.specs.Example.{scripted, replayed, stacked}
pub use Rattle.test_examples.specs.Histories.{controls, first_lines, entered, mapped, through}
pub use Rattle.test_examples.specs.Histories.{reached, leads, ends, reported, lines}
pub use Rattle.test_examples.specs.Histories.{answers_in, answer, run}
pub use Rattle.test_examples.specs.Simple.{Simple, Linear, Zero, Error, Delay, simple}
pub use Rattle.test_examples.specs.Flaky.{counting, flaky, fixed_byte}
pub use Rattle.test_examples.specs.Turns.{turns}
pub use Rattle.lab_findings.specs.declared.finding.Finding.TheVariants.{Lost, Corrupt}
pub use Rattle.lab_findings.specs.declared.noted.Noted.{Noted}
pub use Rattle.test_examples.specs.Moody.{Moody, Mood, Drop, Spoil, moody, nowhere, as_told}
pub use Rattle.test_examples.specs.Findings.{noted_for, everything, sectors, wrong, by}
pub use Rattle.test_examples.specs.Findings.{found}
unfoldable pub use Rattle.std.specs.Fmt.{digits}
unfoldable pub use Rattle.lab_text.specs.Runs.{runs_list, runs_text}
unfoldable pub use Rattle.lab_text.specs.Words.{words_of}
unfoldable pub use Rattle.lab_text.specs.Numbers.{number_of}
