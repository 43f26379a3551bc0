-- The numbers of a channel line, before their ranges are known, in the parts that they are read in.
use Rattle.std.specs.Prelude.{[], ◌∷◌, Option, Some, codes}
use Rattle.rams_model.specs.declared.Channel.{Channel}
use Rattle.rams_model.specs.Texts.{TraceLine, channel_line, field, whole, access_in, ◌>>=◌, number_in, word32_in}
use Rattle.rams_model.specs.Texts.TraceLines.{Words}
use Rattle.trace_lines.specs.declared.{channel_line.Numbers.Numbers, channel_line.Names.Names, channel_line.Places.Places}
use Rattle.trace_lines.specs.declared.{channel_line.Amounts.Amounts, channel_line.Bounds.Bounds, channel_line.Keeping.Keeping}

-- their types, by names that the crates above can use
abbrev pub LineNumbers : Type 0
LineNumbers = Numbers

abbrev pub LineNames : Type 0
LineNames = Names

abbrev pub LinePlaces : Type 0
LinePlaces = Places

abbrev pub LineAmounts : Type 0
LineAmounts = Amounts

abbrev pub LineBounds : Type 0
LineBounds = Bounds

abbrev pub LineKeeping : Type 0
LineKeeping = Keeping

unfoldable pub names_in : Words → Option (Names × Words)
names_in words = do
  id ← field (codes "channel") number_in words
  ssrc ← field (codes "ssrc") word32_in id.1
  pt ← field (codes "pt") number_in ssrc.1
  rtx ← field (codes "rtx") number_in pt.1
  server ← field (codes "server") word32_in rtx.1
  seq0 ← field (codes "seq0") number_in server.1
  Some (record { id = id.0; ssrc = ssrc.0; pt = pt.0; rtx = rtx.0; server = server.0; seq0 = seq0.0 }, seq0.1)

unfoldable pub places_in : Words → Option (Places × Words)
places_in words = do
  ring ← field (codes "ring") number_in words
  window ← field (codes "window") number_in ring.1
  access ← field (codes "access") access_in window.1
  Some (record { ring = ring.0; window = window.0; access = access.0 }, access.1)

unfoldable pub amounts_in : Words → Option (Amounts × Words)
amounts_in words = do
  share ← field (codes "share") number_in words
  reserve ← field (codes "reserve") number_in share.1
  burst ← field (codes "burst") number_in reserve.1
  declared ← field (codes "declared") number_in burst.1
  minwire ← field (codes "minwire") number_in declared.1
  Some (record { share = share.0; reserve = reserve.0; burst = burst.0; declared = declared.0; minwire = minwire.0 }, minwire.1)

unfoldable pub bounds_in : Words → Option (Bounds × Words)
bounds_in words = do
  limit ← field (codes "limit") number_in words
  idle ← field (codes "idle") number_in limit.1
  clients ← field (codes "clients") number_in idle.1
  Some (record { limit = limit.0; idle = idle.0; clients = clients.0 }, clients.1)

-- what is kept, where version 2 says it
abbrev pub said_in : Words → Option Keeping
said_in words = do
  depth ← field (codes "depth") number_in words
  swell ← field (codes "swell") number_in depth.1
  whole (record { version = 2; depth = depth.0; swell = swell.0 }) swell.1

unfoldable pub keeping_in : Words → Option Keeping
keeping_in [] = Some (record { version = 1; depth = 0; swell = 0 })
keeping_in (word ∷ rest) = said_in (word ∷ rest)

-- all of them
unfoldable pub numbers_in : Words → Option Numbers
numbers_in words = do
  names ← names_in words
  places ← places_in names.1
  amounts ← amounts_in places.1
  bounds ← bounds_in amounts.1
  keeping ← keeping_in bounds.1
  Some (record { names = names.0; places = places.0; amounts = amounts.0; bounds = bounds.0; keeping = keeping })

-- the channel that they describe
abbrev pub channel_of : Numbers → Channel
channel_of n = record {
  id = n.names.id;
  ssrc = n.names.ssrc;
  pt = n.names.pt;
  rtx = n.names.rtx;
  server = n.names.server;
  seq0 = n.names.seq0;
  ring = n.places.ring;
  window = n.places.window;
  access = n.places.access;
  share = n.amounts.share;
  reserve = n.amounts.reserve;
  burst = n.amounts.burst;
  declared = n.amounts.declared;
  minwire = n.amounts.minwire;
  limit = n.bounds.limit;
  idle = n.bounds.idle;
  clients = n.bounds.clients;
  depth = n.keeping.depth;
  swell = n.keeping.swell;
}

-- the line that they are
abbrev pub line_of_numbers : Numbers → TraceLine
line_of_numbers n = channel_line n.keeping.version (channel_of n)
