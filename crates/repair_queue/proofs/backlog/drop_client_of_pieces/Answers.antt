use Rattle.std.proofs.Common.{◌<◌, length, length-set, ◌∙◌, arith}
use Rattle.repair_queue.proofs.Pieces.{others_stay, client_placed}
use Rattle.repair_queue.proofs.backlog.drop_client_of_pieces.Goals as goal

pub loop-i-preserved : goal.loop-i-preserved
loop-i-preserved c =
    let old = c.args.pieces.now.items in
    let now = c.loop-i.pieces.items in
    let i = c.loop-i.i in
    let x = c.drop_client.new.self in
    let inv = c.loop-i.invariant in
    let lt : i < length old = omega (arith, inv.long, c.loop-i-test.true, c.loop-i.auto) in
    record {
      long = length-set now i x ∙ inv.long;
      others = others_stay old now i x inv.others;
      gone = client_placed c.args.client old now i c.index_mut-piece.result.now x _ lt inv.long inv.others c.index_mut-piece.ensures.value c.drop_client.ensures inv.gone;
    }
