use Rattle.lab_model.proofs.Common.{◌∙◌, sym, ap, option_map, option_copied, Decides-at, image}
use Rattle.lab_text.specs.Words.{words_of}
use Rattle.lab_standing.specs.Seen.{passes}
use Rattle.lab_standing.specs.Stands.{standing_of}
use Rattle.lab_rule_checks.specs.Takes.{refuses}
use Rattle.lab_rule_checks.proofs.NameRules.{v9-Decides}
use Rattle.lab_rule_checks.proofs.rule_messages.breaks_v9.Goals as goal

-- the live table takes the message or not
pub returns-in-Some : goal.returns-in-Some
returns-in-Some g c = λ parts.
    let m = g.T.Target.meaning in
    let words = words_of c.in-Message.text.now in
    rw c.in-Message.is (Decides-at c.refuses.result _ (c.refuses.ensures
    ∙ ap (refuses (image m c.in-Some.table.now) c.in-Message.sector) c.new.ensures
    ∙ ap (λ o. passes o (λ held. refuses held c.in-Message.sector words))
    (ap (λ o. option_map (image m) (option_copied o)) (sym c.in-Some.is) ∙ c.live_of.ensures))
    (v9-Decides m parts (standing_of m c.args.standing.now) c.in-Message.name.now
    c.in-Message.sector c.in-Message.text.now))
