use Rattle.std.proofs.Common.{rules, ap, ◌∙◌, ◌++◌, ◌∷◌, [], ◌≡◌, List, arith, length, refl}
use Rattle.std.proofs.lemmas.List.Elements.{All-append, All-take, All-drop, All-push}
use Rattle.std.proofs.lemmas.List.{length_push}
use Rattle.std.proofs.lemmas.List.Edits.{length-remove}
use Rattle.lab_queue.specs.declared.ranking.Ranked.{Ranked}
use Rattle.lab_queue.proofs.Flats.{emptied}
use Rattle.lab_queue.proofs.rows.Rows.remove_row.Goals as goal

-- the row lies ready once its entry has gone
pub invariant_of-self : goal.invariant_of-self
invariant_of-self c =
    let row = rw (← c.self.view_is) at c.requires.row in
    let one = rw (← c.self.view_is) at c.requires.one in
    let rows : List (List Ranked) = c.self.inside.rows.items in
    let was = c.self.invariant in
    let is = c.in-Some.ensures.items in
    let back = c.in-Ok.ensures.items ∙ ap (λ r. c.self.inside.spares.items ++ r ∷ [])
    (emptied rows c.args.at c.in-Some.row c.remove-2.new.self row c.in-Some.ensures.value one
    c.remove-2.ensures) in
    let count = ap length is in
    let less = length-remove rows c.args.at row in
    let ready = ap length back ∙ length_push c.self.inside.spares.items [] in
    record {
      filled = rw is (search (rules, All-append, All-take, All-drop, was.filled));
      empty = rw back (All-push (λ r. r ≡ []) c.self.inside.spares.items [] was.empty refl);
      rows_fit = omega (arith, was.rows_fit, c.remove.ensures.capacity);
      spares_fit = omega (arith, was.spares_fit, c.push.ensures.capacity);
    }
