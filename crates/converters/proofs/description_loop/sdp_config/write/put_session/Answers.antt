use Rattle.std.proofs.Common.{[], ◌∷◌, ◌++◌, codes, decimal}
use Rattle.std.proofs.lemmas.Result.{on_ok_weaker}
use Rattle.converters.proofs.description_loop.sdp_config.Joined.{one_more}
use Rattle.converters.proofs.description_loop.sdp_config.write.put_session.Goals as goal

pub returns : goal.returns
returns c =
    let old = c.args.text.now.items in
    let version = codes "v=0" in
    let origin = codes "o=- 0 0 IN IP4 127.0.0.1" in
    let name = codes "s=channel " ++ decimal c.args.id in
    let two = one_more old c.put_line.new.text.items c.put_line-2.new.text.items (version ∷ []) origin c.in_ok-put_line.ensures c.in_ok-put_line-2.ensures in
    let three = one_more old c.put_line-2.new.text.items c.put_named.new.text.items (version ∷ origin ∷ []) name two (rw c.from.ensures at c.in_ok-put_named.ensures) in
    on_ok_weaker c.put_line-3.result
    (λ last. one_more old c.put_named.new.text.items c.put_line-3.new.text.items (version ∷ origin ∷ name ∷ []) (codes "t=0 0") three last)
    c.put_line-3.ensures
