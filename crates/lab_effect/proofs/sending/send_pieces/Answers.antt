use Rattle.lab_model.proofs.Common.{rules, ◌∙◌, arith, into_iter_items}
use Rattle.lab_effect.proofs.SentPieces.{sent-bios, sent-devices, sent-failed, sent-first}
use Rattle.lab_effect.proofs.SentPieces.{sent-fits, sent-more, sent-there}
use Rattle.lab_effect.proofs.sending.send_pieces.Goals as goal

-- the device has a live table at each piece
pub send_piece-failed-requires-clause-live : goal.send_piece-failed-requires-clause-live
send_piece-failed-requires-clause-live g c = sent-there c.loop-piece.invariant.so_far

-- the piece fits its line
pub send_piece-failed-requires-clause-fits : goal.send_piece-failed-requires-clause-fits
send_piece-failed-requires-clause-fits g c =
    sent-fits c.loop-piece.invariant.so_far _ c.loop-piece-test.true

-- at first nothing is judged
pub loop-piece-init : goal.loop-piece-init
loop-piece-init g c = search (rules, sent-first)

-- one piece more is judged, and its child sent off
pub loop-piece-preserved : goal.loop-piece-preserved
loop-piece-preserved g c = record {
  so_far = sent-more c.loop-piece.invariant.so_far _ c.next_part-part.result
      (into_iter_items c.next_part-part.new.parts) c.loop-piece-test.true
      c.next_part-part.ensures.part
      (record {
        failed = c.send_piece-failed.ensures.failed;
        bios = c.send_piece-failed.ensures.bios;
        devices = c.send_piece-failed.ensures.devices;
      });
  clock = c.send_piece-failed.ensures.clock ∙ c.loop-piece.invariant.clock;
  room = omega (arith, c.send_piece-failed.ensures.room, c.loop-piece.invariant.room);
  len = c.next_part-part.ensures.len;
}

-- past the last it is known whether one fails
pub returns-clause-failed : goal.returns-clause-failed
returns-clause-failed g c = sent-failed c.loop-piece.invariant.so_far c.loop-piece-test.false

-- the children of all stand behind the bios
pub returns-clause-bios : goal.returns-clause-bios
returns-clause-bios g c = sent-bios c.loop-piece.invariant.so_far c.loop-piece-test.false

-- and the table that has judged all is live
pub returns-clause-devices : goal.returns-clause-devices
returns-clause-devices g c = sent-devices c.loop-piece.invariant.so_far c.loop-piece-test.false
