-- The device's live table and the replies are those after the message, or both are as they were.
use Rattle.lab_model.proofs.Common.{◌≡◌, Some, ap, ap₂, sym, ◌∙◌, change, with_live, live_at}
use Rattle.lab_model.proofs.Common.{option_map}
use Rattle.lab_text.specs.Words.{words_of}
use Rattle.std.specs.Option.{option_copied_mut}
use Rattle.lab_effect.proofs.Leads.{leads}
use Rattle.lab_effect.proofs.LiveTables.{live-same, on_err-two, on_ok-two}
use Rattle.lab_effect.proofs.Messages.{message-then}
use Rattle.lab_effect.proofs.telling.message.Goals as goal

-- the line has taken the message, and its reply is told
pub returns-clause-next : goal.returns-clause-next
returns-clause-next g c =
    let live = sym c.live_mut.ensures.table ∙ ap option_copied_mut c.in-Some.is in
    rw (← c.state.view_is) (on_ok-two c.tell_line.result (λ told replied.
    leads (rw (← c.state.view_is) at c.requires) (message-then g.T.Target.meaning _
    c.args.script_line c.args.device c.args.sector (words_of c.args.text.now)
    c.in-Some.table.now c.tell_line.new.table c.tell_line.new.replies.items live told replied))
    c.tell_line.ensures.table c.tell_line.ensures.reply)

-- neither the live table nor the replies changed
pub returns-clause-err : goal.returns-clause-err
returns-clause-err g c =
    let state = c.state.inside in
    let slots = state.traffic.devices in
    let device = c.args.device in
    let table = c.in-Some.table.now in
    let live : live_at slots device ≡ Some table =
    sym c.live_mut.ensures.table ∙ ap option_copied_mut c.in-Some.is in
    rw (← c.state.view_is) (on_err-two c.tell_line.result (λ table_is replies_are.
    ap₂ (λ slots replies. record {
      clock = state.traffic.clock;
      bios = state.traffic.bios;
      devices = slots;
      disks = state.disks.items;
      logs = state.logs;
      started = state.started;
      done = state.done;
      moment = state.moment;
      replies = replies;
    }) (ap (λ last. change slots device (option_map (with_live last))) table_is
    ∙ live-same slots device table live) replies_are)
    c.tell_line.ensures.err_table c.tell_line.ensures.err_replies)
