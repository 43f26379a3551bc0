use Rattle.std.proofs.Common.{rules, ◌≡◌, ℕ, List, Some, Result, IfErr, sym, subst, ◌∙◌, arith}
use Rattle.std.proofs.lemmas.Result.{err_from_is_err_and}
use Rattle.trace_loop.specs.declared.{Stop.Stop, Stop.TheVariants.Memory}
use Rattle.serve_loop.specs.{OnlyMemoryStops, StopsIn}
use Rattle.takeover.specs.standby.standby_book.{followed_text}
use Rattle.takeover.specs.takeover_loop.{FollowsWithin, HasFollowed, IsFollowing}
use Rattle.takeover.proofs.takeover_loop.Pieces.{following_begins, if_false, if_true, read_stops, within_begins}
use Rattle.takeover.proofs.takeover_loop.following.follow.Goals as goal

pub loop-init : goal.loop-init
loop-init g c =
    let r = c.args.reading.now in
    let f = following_begins (g.S.Source.left c.args.source.now) (g.K.Sink.held c.args.sink.now) r.standby r.journal r.line.items r.begun c.requires in
    record {
      unended = f.reading.unended;
      read = (f.bytes, f.reading.read);
      room = search rules;
      following = f;
      read_later = omega arith;
      write_later = omega arith;
      steady = λ all more is s h. (within_begins (g.S.Source.left c.args.source.now) (g.K.Sink.held c.args.sink.now) all more (g.K.Sink.is_steady c.args.sink.now) r.standby r.journal r.line.items r.begun c.requires is h, s);
    }

pub returns-in_err-goes_on-clause-stops : goal.returns-in_err-goes_on-clause-stops
returns-in_err-goes_on-clause-stops g c =
    let p = err_from_is_err_and c.from_residual.result c.from_residual.ensures.1 in
    let n = c.next_piece.new in
    let now = λ (stop : Stop). (all : List ℕ) → g.S.Source.left c.args.source.now ≡ Some all → StopsIn (g.K.Sink.held c.args.sink.now) (g.K.Sink.held n.sink) (followed_text all) n.reading.journal stop in
    subst (λ (r : Result (Unit {0}) Stop). IfErr r now) (sym p.1) (subst now (sym p.2) (c.in_err-goes_on.ensures.stops (g.S.Source.left c.args.source.now) (g.K.Sink.held c.args.sink.now) c.loop.invariant.following))

pub returns-in_err-goes_on-clause-cut : goal.returns-in_err-goes_on-clause-cut
returns-in_err-goes_on-clause-cut g c = λ e.
    c.in_err-goes_on.ensures.cut (g.S.Source.left c.args.source.now) (g.K.Sink.held c.args.sink.now) c.loop.invariant.following (search rules)

pub returns-in_err-goes_on-clause-steady : goal.returns-in_err-goes_on-clause-steady
returns-in_err-goes_on-clause-steady g c = λ all more is s h.
    let p = err_from_is_err_and c.from_residual.result c.from_residual.ensures.1 in
    let f = c.loop.invariant.steady all more is s h in
    let stop = c.in_err-goes_on.ensures.steady (g.S.Source.left c.args.source.now) (g.K.Sink.held c.args.sink.now) all more f.0 f.1 in
    subst (λ (r : Result (Unit {0}) Stop). OnlyMemoryStops r (g.K.Sink.is_steady c.next_piece.new.sink more)) (sym p.1) (p.2 ∙ stop)

pub returns-then-not-goes_on-clause-followed : goal.returns-then-not-goes_on-clause-followed
returns-then-not-goes_on-clause-followed g c =
    let n = c.next_piece.new in
    if_false c.in_ok-goes_on.goes_on _ (HasFollowed (g.S.Source.left c.args.source.now) (g.K.Sink.held c.args.sink.now) (g.K.Sink.held n.sink) n.reading.standby n.reading.journal n.reading.begun) c.if-not-goes_on.true
    (c.in_ok-goes_on.ensures.goes_on (g.S.Source.left c.args.source.now) (g.K.Sink.held c.args.sink.now) c.loop.invariant.following)

pub returns-then-not-goes_on-clause-steady : goal.returns-then-not-goes_on-clause-steady
returns-then-not-goes_on-clause-steady g c = λ all more is s h.
    let f = c.loop.invariant.steady all more is s h in
    if_false c.in_ok-goes_on.goes_on _ (g.K.Sink.is_steady c.next_piece.new.sink more) c.if-not-goes_on.true (c.in_ok-goes_on.ensures.steady (g.S.Source.left c.args.source.now) (g.K.Sink.held c.args.sink.now) all more f.0 f.1).1

pub loop-preserved : goal.loop-preserved
loop-preserved g c =
    let n = c.next_piece.new in
    let left = g.S.Source.left c.args.source.now in
    let held = g.K.Sink.held c.args.sink.now in
    let reads = c.loop.invariant.read_later in
    let more_reads = c.next_piece.ensures.cause.read_later in
    let writes = c.loop.invariant.write_later in
    let more_writes = c.next_piece.ensures.cause.write_later in
    let f = if_true c.in_ok-goes_on.goes_on (IsFollowing left held (g.S.Source.left n.source) (g.K.Sink.held n.sink) n.reading.standby n.reading.journal n.reading.line.items n.reading.begun) _ c.if-not-goes_on.false (c.in_ok-goes_on.ensures.goes_on left held c.loop.invariant.following) in
    record {
      unended = f.reading.unended;
      read = c.in_ok-goes_on.ensures.read;
      room = c.next_piece.ensures.room ∙ c.loop.invariant.room;
      following = f;
      read_later = omega (arith, reads, more_reads);
      write_later = omega (arith, writes, more_writes);
      steady = λ all more is s h.
          let before = c.loop.invariant.steady all more is s h in
          let after = c.in_ok-goes_on.ensures.steady left held all more before.0 before.1 in (
            if_true c.in_ok-goes_on.goes_on (FollowsWithin left held all more (g.S.Source.left n.source) (g.K.Sink.is_steady n.sink) (g.K.Sink.held n.sink) n.reading.standby n.reading.journal n.reading.line.items n.reading.begun) _ c.if-not-goes_on.false after.1,
            after.0,
          );
    }

pub returns-clause-stops : goal.returns-clause-stops
returns-clause-stops g c = λ all is. read_stops _ _ _ _ _ _ _ _ c.loop.invariant.following Memory all is
