-- The lines of a trace.
use Rattle.std.specs.Prelude.{ℕ, ◌^◌, Bool, ◌&&◌, ◌||◌, ◌==◌, nat_lt, nat_le, if◌then◌else◌, List, [], ◌∷◌, length, Option, Some, None, Result, Ok, Err, option_and_then, option_map, codes, bytes_eq, decimal}
use Rattle.std.specs.Int.{is_in_range}
use Rattle.rams_model.specs.declared.{channel.Access.Access, channel.Channel.Channel, fault.LineFault.LineFault, wire.TheConstants.MOST_ON_WIRE}
use Rattle.rams_model.specs.declared.channel.Access.TheVariants.{Marker, Ts}
use Rattle.rams_model.specs.declared.fault.LineFault.TheVariants.{Form, Range}
use Rattle.rams_model.specs.Service.{most_bytes, tick_in_range, channel_in_range}
use Rattle.rams_model.specs.Texts.Words.{words_of, text_of, number_in, word32_in, word32, is_hex}

pub data TraceLine : Type 0 where
  -- the version of the text, the tick in ms, and the bytes per tick of the link
  head_line : ℕ → ℕ → ℕ → TraceLine
  -- the version that it is spelled in
  channel_line : ℕ → Channel → TraceLine
  -- the channel's number, and the packet in hexadecimal digits
  live_line : ℕ → List ℕ → TraceLine
  -- the channel's number, the client, and the datagram in hexadecimal digits
  feedback_line : ℕ → ℕ → List ℕ → TraceLine
  tick_line : TraceLine
  end_line : TraceLine
  -- the channel's number, the client, and the SSRC of its new receiver
  tune_line : ℕ → ℕ → ℕ → TraceLine
  -- the number of a datagram that was sent
  give_line : ℕ → TraceLine
  -- the channel's number, the client, and the number of a packet of the multicast
  mcast_line : ℕ → ℕ → ℕ → TraceLine
  -- the channel's number, and the client whose receiver asks for what it misses
  ask_line : ℕ → ℕ → TraceLine
  -- the channel's number, and the client whose receiver leaves
  drop_line : ℕ → ℕ → TraceLine

infixl 10 ◌>>=◌
abbrev pub ◌>>=◌ : {A B : Type 0} → Option A → (A → Option B) → Option B
o >>= f = option_and_then f o

abbrev pub Words : Type 0
Words = List (List ℕ)

-- the value behind this name at the front of the words, and the words after it
abbrev pub field : {A : Type 0} → List ℕ → (List ℕ → Option A) → Words → Option (A × Words)
field name read (word ∷ value ∷ rest) = if bytes_eq word name then option_map (λ a. (a, rest)) (read value) else None
field name read _ = None

-- the value, where no words are left
abbrev pub whole : {A : Type 0} → A → Words → Option A
whole a [] = Some a
whole a (word ∷ rest) = None

-- a word that is read by itself
abbrev pub one : {A : Type 0} → (List ℕ → Option A) → Words → Option (A × Words)
one read (value ∷ rest) = option_map (λ a. (a, rest)) (read value)
one read [] = None

abbrev pub hex_in : List ℕ → Option (List ℕ)
hex_in word = if is_hex word then Some word else None

abbrev pub access_in : List ℕ → Option Access
access_in word = if bytes_eq word (codes "marker") then Some Marker else if bytes_eq word (codes "ts") then Some Ts else None

abbrev pub version_in : List ℕ → Option ℕ
version_in word = if bytes_eq word (codes "1") then Some 1 else if bytes_eq word (codes "2") then Some 2 else None

unfoldable pub head_in : Words → Option TraceLine
head_in words = do
  version ← field (codes "rams-trace") version_in words
  tick ← field (codes "tick") number_in version.1
  link ← field (codes "link") number_in tick.1
  whole (head_line version.0 tick.0 link.0) link.1

-- what a channel keeps from tick to tick, behind the fields that every version has
unfoldable pub kept_in : Channel → Words → Option TraceLine
kept_in c words = do
  depth ← field (codes "depth") number_in words
  swell ← field (codes "swell") number_in depth.1
  whole (channel_line 2 (record c { depth = depth.0; swell = swell.0 })) swell.1

-- the rest of a channel line: version 1 says nothing of what is kept, which is nothing then
abbrev pub rest_in : Channel → Words → Option TraceLine
rest_in c [] = Some (channel_line 1 c)
rest_in c (word ∷ rest) = kept_in c (word ∷ rest)

unfoldable pub channel_in : Words → Option TraceLine
channel_in words = do
  id ← field (codes "channel") number_in words
  ssrc ← field (codes "ssrc") word32_in id.1
  pt ← field (codes "pt") number_in ssrc.1
  rtx ← field (codes "rtx") number_in pt.1
  server ← field (codes "server") word32_in rtx.1
  seq0 ← field (codes "seq0") number_in server.1
  ring ← field (codes "ring") number_in seq0.1
  window ← field (codes "window") number_in ring.1
  access ← field (codes "access") access_in window.1
  share ← field (codes "share") number_in access.1
  reserve ← field (codes "reserve") number_in share.1
  burst ← field (codes "burst") number_in reserve.1
  declared ← field (codes "declared") number_in burst.1
  minwire ← field (codes "minwire") number_in declared.1
  limit ← field (codes "limit") number_in minwire.1
  idle ← field (codes "idle") number_in limit.1
  clients ← field (codes "clients") number_in idle.1
  rest_in (record {
    id = id.0;
    ssrc = ssrc.0;
    pt = pt.0;
    rtx = rtx.0;
    server = server.0;
    seq0 = seq0.0;
    ring = ring.0;
    window = window.0;
    access = access.0;
    share = share.0;
    reserve = reserve.0;
    burst = burst.0;
    declared = declared.0;
    minwire = minwire.0;
    limit = limit.0;
    idle = idle.0;
    clients = clients.0;
    depth = 0;
    swell = 0;
  }) clients.1

unfoldable pub live_in : Words → Option TraceLine
live_in words = do
  id ← field (codes "live") number_in words
  hex ← one hex_in id.1
  whole (live_line id.0 hex.0) hex.1

unfoldable pub feedback_in : Words → Option TraceLine
feedback_in words = do
  id ← field (codes "fb") number_in words
  client ← one number_in id.1
  hex ← one hex_in client.1
  whole (feedback_line id.0 client.0 hex.0) hex.1

unfoldable pub tune_in : Words → Option TraceLine
tune_in words = do
  id ← field (codes "tune") number_in words
  client ← one number_in id.1
  ssrc ← one word32_in client.1
  whole (tune_line id.0 client.0 ssrc.0) ssrc.1

unfoldable pub give_in : Words → Option TraceLine
give_in words = do
  number ← field (codes "give") number_in words
  whole (give_line number.0) number.1

unfoldable pub mcast_in : Words → Option TraceLine
mcast_in words = do
  id ← field (codes "mcast") number_in words
  client ← one number_in id.1
  n ← one number_in client.1
  whole (mcast_line id.0 client.0 n.0) n.1

unfoldable pub ask_in : Words → Option TraceLine
ask_in words = do
  id ← field (codes "ask") number_in words
  client ← one number_in id.1
  whole (ask_line id.0 client.0) client.1

unfoldable pub drop_in : Words → Option TraceLine
drop_in words = do
  id ← field (codes "drop") number_in words
  client ← one number_in id.1
  whole (drop_line id.0 client.0) client.1

-- an event of a receiver
abbrev pub receiver_in : Words → Option TraceLine
receiver_in [] = None
receiver_in (word ∷ rest) =
    if bytes_eq word (codes "tune") then tune_in (word ∷ rest)
    else if bytes_eq word (codes "give") then give_in (word ∷ rest)
    else if bytes_eq word (codes "mcast") then mcast_in (word ∷ rest)
    else if bytes_eq word (codes "ask") then ask_in (word ∷ rest)
    else if bytes_eq word (codes "drop") then drop_in (word ∷ rest)
    else None

-- the line that these words are
abbrev pub line_in : Words → Option TraceLine
line_in [] = None
line_in (word ∷ rest) =
    if bytes_eq word (codes "live") then live_in (word ∷ rest)
    else if bytes_eq word (codes "fb") then feedback_in (word ∷ rest)
    else if bytes_eq word (codes "tick") then whole tick_line rest
    else if bytes_eq word (codes "end") then whole end_line rest
    else if bytes_eq word (codes "channel") then channel_in (word ∷ rest)
    else if bytes_eq word (codes "rams-trace") then head_in (word ∷ rest)
    else receiver_in (word ∷ rest)

-- the line that the bytes are, which have at most 4,096
abbrev pub line_of : List ℕ → Option TraceLine
line_of bytes = if nat_lt 4096 (length bytes) then None else line_in (words_of bytes)

abbrev pub id_in_range : ℕ → Bool
id_in_range id = is_in_range 1 65535 id

-- a client is an IPv4 address times 65,536 plus a port
abbrev pub client_in_range : ℕ → Bool
client_in_range client = nat_lt client (2 ^ 48)

abbrev pub line_in_range : TraceLine → Bool
line_in_range (head_line version tick link) = tick_in_range tick && is_in_range MOST_ON_WIRE most_bytes link
line_in_range (channel_line version c) = channel_in_range c
line_in_range (live_line id hex) = id_in_range id
line_in_range (feedback_line id client hex) = id_in_range id && client_in_range client
line_in_range tick_line = Bool.true
line_in_range end_line = Bool.true
line_in_range (tune_line id client ssrc) = id_in_range id && client_in_range client
line_in_range (give_line number) = Bool.true
line_in_range (mcast_line id client n) = id_in_range id && client_in_range client
line_in_range (ask_line id client) = id_in_range id && client_in_range client
line_in_range (drop_line id client) = id_in_range id && client_in_range client

abbrev pub ranged : Option TraceLine → Result TraceLine LineFault
ranged None = Err Form
ranged (Some line) = if line_in_range line then Ok line else Err Range

-- the line that the bytes are, or the first fault that shows without the lines before
unfoldable pub line_at : List ℕ → Result TraceLine LineFault
line_at bytes = ranged (line_of bytes)

abbrev pub access_word : Access → List ℕ
access_word Marker = codes "marker"
access_word Ts = codes "ts"

-- the words of the fields that a version has alone
abbrev pub kept_words : ℕ → Channel → Words
kept_words version c =
    if version == 1 then [] else codes "depth" ∷ decimal c.depth ∷ codes "swell" ∷ decimal c.swell ∷ []

abbrev pub channel_words : ℕ → Channel → Words
channel_words version c =
    codes "channel" ∷ decimal c.id ∷ codes "ssrc" ∷ word32 c.ssrc ∷ codes "pt" ∷ decimal c.pt ∷ codes "rtx" ∷ decimal c.rtx
    ∷ codes "server" ∷ word32 c.server ∷ codes "seq0" ∷ decimal c.seq0 ∷ codes "ring" ∷ decimal c.ring
    ∷ codes "window" ∷ decimal c.window ∷ codes "access" ∷ access_word c.access ∷ codes "share" ∷ decimal c.share
    ∷ codes "reserve" ∷ decimal c.reserve ∷ codes "burst" ∷ decimal c.burst ∷ codes "declared" ∷ decimal c.declared
    ∷ codes "minwire" ∷ decimal c.minwire ∷ codes "limit" ∷ decimal c.limit ∷ codes "idle" ∷ decimal c.idle
    ∷ codes "clients" ∷ decimal c.clients ∷ kept_words version c

-- the words of a line
abbrev pub line_words : TraceLine → Words
line_words (head_line version tick link) =
    codes "rams-trace" ∷ decimal version ∷ codes "tick" ∷ decimal tick ∷ codes "link" ∷ decimal link ∷ []
line_words (channel_line version c) = channel_words version c
line_words (live_line id hex) = codes "live" ∷ decimal id ∷ hex ∷ []
line_words (feedback_line id client hex) = codes "fb" ∷ decimal id ∷ decimal client ∷ hex ∷ []
line_words tick_line = codes "tick" ∷ []
line_words end_line = codes "end" ∷ []
line_words (tune_line id client ssrc) = codes "tune" ∷ decimal id ∷ decimal client ∷ word32 ssrc ∷ []
line_words (give_line number) = codes "give" ∷ decimal number ∷ []
line_words (mcast_line id client n) = codes "mcast" ∷ decimal id ∷ decimal client ∷ decimal n ∷ []
line_words (ask_line id client) = codes "ask" ∷ decimal id ∷ decimal client ∷ []
line_words (drop_line id client) = codes "drop" ∷ decimal id ∷ decimal client ∷ []

-- the text of a line, without the line feed
unfoldable pub line_text : TraceLine → List ℕ
line_text line = text_of (line_words line)

-- a number of at most 15 digits
abbrev pub is_short : ℕ → Bool
is_short n = nat_lt n (10 ^ 15)

abbrev pub is_word32 : ℕ → Bool
is_word32 n = nat_lt n (2 ^ 32)

-- a version of the text
abbrev pub is_version : ℕ → Bool
is_version version = version == 1 || version == 2

-- the text of this version can say what the channel keeps from tick to tick
abbrev pub version_says : ℕ → Channel → Bool
version_says version c = version == 2 || c.depth == 0 && c.swell == 0

-- a channel whose numbers can be spelled
abbrev pub channel_has_form : Channel → Bool
channel_has_form c =
    is_short c.id && is_word32 c.ssrc && is_short c.pt && is_short c.rtx && is_word32 c.server && is_short c.seq0
    && is_short c.ring && is_short c.window && is_short c.share && is_short c.reserve && is_short c.burst
    && is_short c.declared && is_short c.minwire && is_short c.limit && is_short c.idle && is_short c.clients
    && is_short c.depth && is_short c.swell

-- a line whose words are of the form that a trace's words have
abbrev pub line_has_form : TraceLine → Bool
line_has_form (head_line version tick link) = is_version version && is_short tick && is_short link
line_has_form (channel_line version c) = is_version version && channel_has_form c && version_says version c
line_has_form (live_line id hex) = is_short id && is_hex hex
line_has_form (feedback_line id client hex) = is_short id && is_short client && is_hex hex
line_has_form tick_line = Bool.true
line_has_form end_line = Bool.true
line_has_form (tune_line id client ssrc) = is_short id && is_short client && is_word32 ssrc
line_has_form (give_line number) = is_short number
line_has_form (mcast_line id client n) = is_short id && is_short client && is_short n
line_has_form (ask_line id client) = is_short id && is_short client
line_has_form (drop_line id client) = is_short id && is_short client

-- a line that a trace may have somewhere
unfoldable pub is_spelled : TraceLine → Bool
is_spelled line = line_has_form line && line_in_range line && nat_le (length (line_text line)) 4096
