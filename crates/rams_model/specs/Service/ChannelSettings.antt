-- A channel's settings with the tick of its trace, and which of them are lawful.
use Rattle.std.specs.Prelude.{ℕ, ◌+◌, Bool, ◌&&◌, ◌==◌, not, nat_le, if◌then◌else◌, Result, Ok, Err}
use Rattle.std.specs.Int.{is_in_range}
use Rattle.rams_model.specs.declared.{channel.Channel.Channel, fault.ConfigFault.ConfigFault, wire.TheConstants.MOST_ON_WIRE}
use Rattle.rams_model.specs.declared.fault.ConfigFault.TheVariants.{Range, Rule}

pub record Settings : Type 0 where
  pub channel : Channel
  -- the length of a tick, in ms
  pub tick : ℕ

abbrev pub settings : Channel → ℕ → Settings
settings channel tick = record { channel = channel; tick = tick }

-- most bytes of a tick, in each of the settings that is such an amount
abbrev pub most_bytes : ℕ
most_bytes = 1000000000

-- the numbers that name things, and the payload types of RFC 3550
abbrev pub names_in_range : Channel → Bool
names_in_range c = is_in_range 1 65535 c.id && nat_le c.pt 127 && nat_le c.rtx 127 && nat_le c.seq0 65535

-- the amounts of bytes
abbrev pub bytes_in_range : Channel → Bool
bytes_in_range c =
    is_in_range MOST_ON_WIRE most_bytes c.share && is_in_range MOST_ON_WIRE most_bytes c.reserve && is_in_range MOST_ON_WIRE most_bytes c.burst
    && nat_le c.declared most_bytes && is_in_range 42 MOST_ON_WIRE c.minwire && nat_le c.depth most_bytes && nat_le c.swell most_bytes

-- how much is kept, and how long
abbrev pub bounds_in_range : Channel → Bool
bounds_in_range c =
    is_in_range 1 32768 c.ring && nat_le c.window 64 && is_in_range 1 1000000 c.limit && is_in_range 1 1000000 c.idle && is_in_range 1 1024 c.clients

abbrev pub channel_in_range : Channel → Bool
channel_in_range c = names_in_range c && bytes_in_range c && bounds_in_range c

abbrev pub tick_in_range : ℕ → Bool
tick_in_range tick = is_in_range 1 1000 tick

-- the settings, or why they are refused: the range first, then the first rule that is broken
unfoldable pub checked : Settings → Result Settings ConfigFault
checked s =
    let c = s.channel in
    if not (tick_in_range s.tick && channel_in_range c) then Err Range
    else if c.pt == c.rtx then Err (Rule 1)
    else if not (nat_le (c.declared + MOST_ON_WIRE) c.burst) then Err (Rule 2)
    else if not (nat_le (c.reserve + c.burst + c.depth) c.share) then Err (Rule 3)
    else Ok s
