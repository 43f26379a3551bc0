use Rattle.std.proofs.Common.{ℕ, ◌^◌, map, filter, ◌∙◌, ap, arith}
use Rattle.channel_cache.specs.access_index.{leaves_room, choice_among, choice, shown}
use Rattle.channel_cache.proofs.access_index.Edge.{times_shown, choice_timed}
use Rattle.channel_cache.proofs.access_index.Rising.{rise_wider}
use Rattle.channel_cache.proofs.access_index.Standing.{choice_stands}
use Rattle.channel_cache.proofs.access_index.index.Index.choose.Goals as goal

pub choose-requires : goal.choose-requires
choose-requires c =
    let i = c.self.inside in
    rise_wider i.lo i.hi 0 i.total 0 (2 ^ 62) 0 i.total i.points.items (omega arith) c.self.invariant.small (omega arith) (omega arith) c.self.invariant.rise

pub returns-clause-value : goal.returns-clause-value
returns-clause-value c =
    let i = c.self.inside in
    c.choose.ensures ∙ (ap (λ (t : ℕ). choice_among t c.args.min_ms c.args.max_ms (filter (leaves_room c.args.room c.args.declared) (map (shown i.total) i.points.items))) c.since.ensures
    ∙ (choice_timed i.edge i.last c.args.room c.args.declared c.args.min_ms c.args.max_ms (map (shown i.total) i.points.items) (omega arith) (omega arith) (times_shown i.total i.points.items c.self.invariant.times)
    ∙ ap (λ v. choice v c.args.room c.args.declared c.args.min_ms c.args.max_ms) c.self.view_is))

pub returns-clause-stands : goal.returns-clause-stands
returns-clause-stands c = λ channel marks is_room is_declared stood.
    returns-clause-value c ∙ choice_stands c.args.self.now c.args.room c.args.declared c.args.min_ms c.args.max_ms channel marks is_room is_declared stood
