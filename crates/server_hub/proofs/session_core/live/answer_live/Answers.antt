use Rattle.std.proofs.Common.{◌<◌, ◌∙◌, arith}
use Rattle.std.proofs.lemmas.List.Elements.{All-from_get_or}
use Rattle.rams_model.specs.Service.{arrivals, history_of}
use Rattle.server_hub.proofs.session_core.Living.{small_after, live_stands}
use Rattle.server_hub.proofs.session_core.live.answer_live.Goals as goal
use Rattle.channel_parts.proofs.Staying.{few_arrive}

pub returns-clause-stands : goal.returns-clause-stands
returns-clause-stands c = λ events st.
    let bytes = c.args.bytes.now in
    let note = c.in_ok-note.note in
    let took = c.in_ok-note.ensures in
    let are = All-from_get_or (λ b. b < 256) bytes 0 (λ i within. let fits = c.type_inv.bytes i in omega arith) in
    let p = c.args.parts.now in
    let small = small_after p bytes note c.live.new.self are took.stands took.settings c.requires.few.0 c.requires.few.1 c.requires.few.2 in
    let all = live_stands p bytes note c.live.new.self are took.stands took.settings small events st in
    (c.one.ensures ∙ all.0, all.1)

pub live-requires : goal.live-requires
live-requires c =
    let p = c.args.parts.now in
    let events = c.requires.few.0 in
    record {
      arrivals = arrivals (history_of p.config events);
      stands = c.requires.few.1.packets.stands;
      few = omega (arith, few_arrive p.config events, c.requires.few.2);
    }
