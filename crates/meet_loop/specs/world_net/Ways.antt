-- Datagrams as code has them.
use Rattle.std.specs.Prelude.{ℕ, List}
use Rattle.rams_model.specs.declared.Order.{Order}
use Rattle.rams_model.specs.Service.{Settings, client_of, datagram, sent_again}
use Rattle.meet_loop.specs.world_laws.World.{Way, posts, tells, repeats, Datagram}
use Rattle.meet_loop.specs.world_laws.{way_of}
use Rattle.rams_model.specs.Formats.{packet_at}
use Rattle.meet_loop.specs.declared.{world_net.parcel.Kind.Kind, world_net.parcel.Way.Way as Kept}
use Rattle.meet_loop.specs.declared.world_net.parcel.Kind.TheVariants.{Posted, Told, Repeated}
use Rattle.meet_loop.specs.declared.world_net.parcel.Way.TheVariants.{Posts, Tells, Repeats}

abbrev pub as_way : Kept → Way
as_way Posts = posts
as_way Tells = tells
as_way (Repeats n) = repeats n

-- the datagram of an order of a channel with these settings
abbrev pub sent_of : Settings → Order → Datagram
sent_of s o = record { id = s.channel.id; client = client_of o; way = way_of o; bytes = datagram s o }

-- why a datagram of a kind was sent, and its bytes: a retransmission's are those of the packet that it repeats
abbrev pub way_by : Kind → ℕ → Way
way_by Posted n = posts
way_by Told n = tells
way_by Repeated n = repeats n

abbrev pub bytes_by : Kind → ℕ → ℕ → List ℕ → List ℕ
bytes_by Posted payload_type sequence bytes = bytes
bytes_by Told payload_type sequence bytes = bytes
bytes_by Repeated payload_type sequence bytes = sent_again payload_type sequence (packet_at bytes)
