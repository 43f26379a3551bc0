-- One piece more of the list.
use Rattle.std.proofs.Common.{◌≡◌, ◌++◌, List, [], length, refl, sym, ap, ◌∙◌, subst, arith, append_assoc}
use Rattle.std.specs.Vec.Iter.{into_iter_items}
use Rattle.std.proofs.lemmas.List.{length-append}
use Rattle.std.proofs.lemmas.Result.{err_from_is_err_and}
use Rattle.rams_model.specs.declared.Event.{Event}
use Rattle.threads_loop.specs.declared.session_worker.live_writer.writer.Placed.{Placed}
use Rattle.threads_loop.specs.session_worker.live_writer.{HasWritten, HasWrittenPiece}
use Rattle.threads_loop.proofs.session_worker.live_writer.Placing.{nothing_written, writes_on, tries_on, no_front}
use Rattle.threads_loop.proofs.session_worker.live_writer.writer.write_all.Goals as goal
use Rattle.channel_book.specs.{HasAnsweredFront}

pub returns-in_err-all-clause-told : goal.returns-in_err-all-clause-told
returns-in_err-all-clause-told g c =
    let s = g.S.Shared in
    let p = err_from_is_err_and c.from_residual.result c.from_residual.ensures.1 in
    rw p.1 (no_front (s.list c.args.pass.now) c.args.events.items (s.seen c.args.pass.now))

pub loop-alloc-init : goal.loop-alloc-init
loop-alloc-init g c =
    let s = g.S.Shared in
    let list = s.list c.args.pass.now in
    let seen = s.seen c.args.pass.now in record {
      made = c.requires.made;
      settings = refl;
      list = refl;
      calls = omega (arith, c.requires.left, ap length c.into_iter-left.ensures.rest);
      written = ([], c.into_iter-left.ensures.rest, subst (λ (l : List Placed). HasWritten list c.args.config.now [] seen l seen) (sym c.in_ok-all.ensures.items) (nothing_written list c.args.config.now seen));
      size = (omega arith, omega arith);
    }

pub returns-in_err-write_piece-clause-told : goal.returns-in_err-write_piece-clause-told
returns-in_err-write_piece-clause-told g c =
    let s = g.S.Shared in
    let l = c.loop-alloc in
    let list = s.list c.args.pass.now in
    let piece = c.in_ok-piece.piece.items in
    let later = into_iter_items c.next_piece.new.left in
    let old = s.seen c.args.pass.now in
    let middle = s.seen l.pass in
    let new = s.seen c.write_piece.new.pass in
    let front = l.invariant.written.0 in
    let whole : front ++ (piece ++ later) ≡ c.args.events.items = ap (λ (es : List Event). front ++ es) c.in_ok-piece.ensures.cut ∙ l.invariant.written.1 in
    let tried = subst (λ n. HasAnsweredFront n piece middle new) l.invariant.list c.in_err-write_piece.ensures.told in
    let p = err_from_is_err_and c.from_residual-in_err-write_piece.result c.from_residual-in_err-write_piece.ensures.1 in
    rw p.1 (subst (λ (es : List Event). HasAnsweredFront list es old new) whole
    (tries_on list c.args.config.now front piece later old l.all.items middle new l.invariant.written.2 tried))

pub loop-alloc-preserved : goal.loop-alloc-preserved
loop-alloc-preserved g c =
    let s = g.S.Shared in
    let l = c.loop-alloc in
    let list = s.list c.args.pass.now in
    let piece = c.in_ok-piece.piece.items in
    let later = into_iter_items c.next_piece.new.left in
    let old = s.seen c.args.pass.now in
    let middle = s.seen l.pass in
    let new = s.seen c.write_piece.new.pass in
    let front = l.invariant.written.0 in
    let whole : front ++ (piece ++ later) ≡ c.args.events.items = ap (λ (es : List Event). front ++ es) c.in_ok-piece.ensures.cut ∙ l.invariant.written.1 in
    let told = subst (λ n. HasWrittenPiece n c.args.config.now piece middle l.all.items c.write_piece.new.all.items new) l.invariant.list c.in_ok-write_piece.ensures.told in
    record {
      made = c.in_ok-write_piece.ensures.made;
      settings = c.in_ok-write_piece.ensures.settings ∙ l.invariant.settings;
      list = c.in_ok-write_piece.ensures.list ∙ l.invariant.list;
      calls = omega (arith, l.invariant.calls, c.in_ok-write_piece.ensures.left, ap length c.in_ok-piece.ensures.cut, length-append piece later);
      written = (
        front ++ piece,
        append_assoc front piece later ∙ whole,
        writes_on list c.args.config.now front piece old l.all.items c.write_piece.new.all.items middle new l.invariant.written.2 told,
      );
      size = (omega (arith, l.invariant.size, c.min-size.ensures), omega (arith, c.min-size.ensures));
    }
