use Rattle.std.proofs.Common.{◌+◌, [], ◌++◌, length, subst, add_assoc}
use Rattle.std.proofs.KnownBytes.{Appends-trans}
use Rattle.line_io.proofs.Passing.{Passes-all, Passes-longer, Passes-put}
use Rattle.line_io.proofs.gather.Gather.put_behind.Goals as goal

pub returns-in_err-pass-clause-prefix : goal.returns-in_err-pass-clause-prefix
returns-in_err-pass-clause-prefix g c = Passes-longer _ _ c.args.self.now c.args.piece.now c.in_err-pass.ensures.prefix

pub returns-in_err-pass-clause-steady : goal.returns-in_err-pass-clause-steady
returns-in_err-pass-clause-steady g c = λ room steady.
    let long = length c.args.piece.now in
    absurd (c.in_err-pass.ensures.steady (long + room) (subst (g.K.Sink.is_steady c.args.sink.now) (add_assoc (length c.args.self.now) long room) steady))

pub returns-in_err-put_all-clause-prefix : goal.returns-in_err-put_all-clause-prefix
returns-in_err-put_all-clause-prefix g c =
    let before = g.K.Sink.held c.args.sink.now in
    let between = g.K.Sink.held c.pass.new.sink in
    let after = g.K.Sink.held c.put_all.new.sink in
    let waiting = c.args.self.now in
    let piece = c.in_err-put_all.ensures.prefix in
    (piece.0, Passes-put before between after waiting [] c.args.piece.now piece.0 (Passes-all before between waiting c.in_ok-pass.ensures.all) piece.1)

pub returns-in_err-put_all-clause-steady : goal.returns-in_err-put_all-clause-steady
returns-in_err-put_all-clause-steady g c = λ room steady.
    let long = length c.args.piece.now in
    let now = subst (g.K.Sink.is_steady c.args.sink.now) (add_assoc (length c.args.self.now) long room) steady in
    absurd (c.in_err-put_all.ensures.steady room (c.in_ok-pass.ensures.steady (long + room) now))

pub returns-then-piece-min-clause-all : goal.returns-then-piece-min-clause-all
returns-then-piece-min-clause-all g c =
    let before = g.K.Sink.held c.args.sink.now in
    let between = g.K.Sink.held c.pass.new.sink in
    let after = g.K.Sink.held c.put_all.new.sink in
    let whole = Appends-trans before between after c.args.self.now c.args.piece.now c.in_ok-pass.ensures.all c.in_ok-put_all.ensures.all in
    rw c.clear.ensures.items (Passes-all before after (c.args.self.now ++ c.args.piece.now) whole)

pub returns-then-piece-min-clause-prefix : goal.returns-then-piece-min-clause-prefix
returns-then-piece-min-clause-prefix g c = (c.clear.new.self.items, returns-then-piece-min-clause-all g c)
