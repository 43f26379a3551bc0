use Rattle.std.proofs.Common.{◌≡◌, ◌++◌, ◌∷◌, [], length, refl, rules}
use Rattle.ram_io.proofs.Places.{datagrams-push}
use Rattle.ram_io.proofs.mem_wire.MemWireWire.send.Goals as goal

pub returns-clause-sends : goal.returns-clause-sends
returns-clause-sends c =
    let inside = c.self.inside in
    let bytes : c.extend_from_slice.new.self.items ≡ inside.bytes.items ++ c.args.bytes.now = search rules in
    let places : c.push.new.self.items ≡ inside.places.items ++ record { to = c.args.to; port = c.args.port; start = length inside.bytes.items; len = length c.args.bytes.now } ∷ [] = search rules in
    let pushed = datagrams-push inside.places.items inside.bytes.items c.args.bytes.now c.args.to c.args.port c.self.invariant.within in
    rw (bytes, places, pushed, ← c.self.view_is) refl
