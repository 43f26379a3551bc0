use Rattle.std.proofs.Common.{◌<◌, [], ◌∷◌, ◌++◌, get_or, map, length, refl, ap, ◌∙◌, arith}
use Rattle.std.specs.Prelude.{◌==◌, if◌then◌else◌}
use Rattle.std.proofs.lemmas.List.{length-set}
use Rattle.threads_loop.proofs.Putting.{events_in, list_put}
use Rattle.threads_loop.proofs.dealing.deal.Goals as goal

pub returns-clause-dealt : goal.returns-clause-dealt
returns-clause-dealt c =
    let d = c.args.dealt.now in
    let i = c.list_of-list.result in
    let queue = c.index_mut.result.now in
    let inside : i < length d.lists.items = omega (arith, c.list_of-list.ensures.within, c.requires.lists) in
    let is = c.in_ok-push.ensures.items ∙ ap (λ v. events_in v ++ c.args.event ∷ []) c.index_mut.ensures.value in (
      omega (arith, c.if-dealt-ge-MOST_DEALT_EVENTS.false),
      record {
        config = refl;
        state = refl;
        events = refl;
        count = length-set d.lists.items i c.push.new.self;
        lists = λ list. list_put d.lists.items i queue c.push.new.self c.args.event list inside is ∙ ap (λ n. get_or (map events_in d.lists.items) list [] ++ (if n == list then c.args.event ∷ [] else [])) c.list_of-list.ensures.value;
      },
    )
