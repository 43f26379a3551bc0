use Rattle.std.proofs.Common.{◌<◌, subst, arith}
use Rattle.std.specs.Prelude.{All}
use Rattle.rams_model.specs.Service.{arrivals, history_of}
use Rattle.server_hub.proofs.session_core.Living.{small_after, live_stands}
use Rattle.server_hub.proofs.session_core.live.note_live.Goals as goal
use Rattle.channel_parts.proofs.Staying.{few_arrive}

pub returns-clause-stands : goal.returns-clause-stands
returns-clause-stands c = λ events st.
    let bytes = c.args.incoming.packet in
    let note = c.live_read.result in
    let took = c.live_read.ensures in
    let are = subst (All (λ b. b < 256)) c.as_slice.ensures c.are_bytes.ensures in
    let p = c.args.parts.now in
    let small = small_after p bytes note c.live_read.new.self are took.stands took.settings c.requires.few.0 c.requires.few.1 c.requires.few.2 in
    live_stands p bytes note c.live_read.new.self are took.stands took.settings small events st

pub live_read-requires-clause-few : goal.live_read-requires-clause-few
live_read-requires-clause-few c =
    let p = c.args.parts.now in
    let events = c.requires.few.0 in
    record {
      arrivals = arrivals (history_of p.config events);
      stands = c.requires.few.1.packets.stands;
      few = omega (arith, few_arrive p.config events, c.requires.few.2);
    }
