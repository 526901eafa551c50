-- What a message to a line of a live table leads to, where it isn't wrong.
use Rattle.lab_model.proofs.Common.{◌≡◌, ℕ, List, [], ◌∷◌, ◌++◌, Some, ap₂, sym}
use Rattle.lab_model.proofs.Common.{◌∙◌, IfSome, slice_get, option_map, Meaning}
use Rattle.lab_model.proofs.Common.{live_at, change, with_live, State, slot_at}
use Rattle.lab_model.specs.declared.reply.Reply.{Reply}
use Rattle.lab_model.proofs.Common.{Table, line_at}
use Rattle.lab_model.specs.ControlEffect.{line_told, message, stepped}
use Rattle.lab_effect.specs.Replies.{reply_of}
use Rattle.lab_effect.proofs.Leads.{Then, next-is, then-given, then-unless}

module _ {S : Type 0} (m : Meaning S) (s : State S) (script_line device sector : ℕ)
    (words : List (List ℕ)) (table after : Table S) (replies : List Reply) where
  -- the state after a message to the live table
  abbrev pub after_message : State S
  after_message = record s {
    devices = change s.devices device (option_map (with_live after));
    replies = replies;
  }

  -- it leads to the state where the line has taken it and its reply is told
  pub message-then : live_at s.devices device ≡ Some table
      → IfSome (line_at table sector) (λ n. after ≡ line_told m words n table)
      → IfSome (line_at table sector) (λ n. IfSome (slice_get table n) (λ line. replies
      ≡ s.replies ++ reply_of script_line (m.reply line.target words) ∷ []))
      → Then (message m s script_line device sector words) (λ next. next ≡ stepped after_message)
  message-then live told replied = then-given _ (slot_at s.devices device) _ (λ slot there.
      let is : slot.live ≡ Some table = rw there at live in
      rw is (then-given _ (line_at table sector) _ (λ number at.
      then-given _ (slice_get table number) _ (λ line row. then-unless _ _ _
      (λ takes next leads. next-is leads ∙ ap₂ (λ last more. stepped (record s {
        devices = change s.devices device (option_map (with_live last));
        replies = more;
      })) (sym (rw at at told)) (sym (rw (at, row) at replied)))))))
