-- The pieces gone over are judged and their children sent off, and there is room for the others.
use Rattle.lab_model.proofs.Common.{◌≡◌, ◌+◌, ◌≤◌, length, into_iter_items}
use Rattle.std.specs.Vec.Iter.{into_iter_len}
use Rattle.lab_effect.proofs.SentPieces.{SentSoFar}
use Rattle.lab_effect.proofs.sending.send_pieces.Given as goal

abbrev pub invariant-loop-piece : goal.invariant-loop-piece
invariant-loop-piece g l = record {
  so_far : SentSoFar g.T.Target.meaning l.kind l.mapped.now l.mapped.number l.mapped.device
      l.fn.traffic l.pieces l.piece-index l.failed l.traffic (into_iter_items l.parts);
  clock : l.traffic.clock ≡ l.fn.traffic.clock;
  room : length l.pieces ≤ l.traffic.room + l.piece-index;
  len : into_iter_len l.parts ≡ length (into_iter_items l.parts);
}
