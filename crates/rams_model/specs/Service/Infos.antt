-- What a client is told in a RAMS-I (RFC 6285, 7.3).
use Rattle.std.specs.Prelude.{ℕ, ◌+◌, ◌-◌, ◌*◌, ◌%◌, ◌^◌, min, Option, Some, None}
use Rattle.rams_model.specs.declared.{message.Info.Info, note.Cause.Cause}
use Rattle.rams_model.specs.declared.note.Cause.TheVariants.{Stopped, Lost, Limit, Bye}
use Rattle.rams_model.specs.Service.ChannelSettings.{Settings}
use Rattle.rams_model.specs.Service.Rates.{bits_of}

-- Of a burst: its first sequence number, when the client may join the multicast, how long the burst may go on, and its bits per second. Times are in ms; the field has 32 bits.
abbrev pub burst_info : Settings → ℕ → ℕ → Option ℕ → ℕ → ℕ → ℕ → Info
burst_info s msn code first ticks rate join = record {
  msn = msn;
  code = code;
  first = first;
  join_ms = Some (min (join * s.tick) (2 ^ 32 - 1));
  length_ms = Some (ticks * s.tick);
  bps = Some (bits_of rate s.tick);
}

-- of an accepted request: 200, with the sequence number of the client's next packet
abbrev pub accept_info : Settings → ℕ → ℕ → ℕ → Info
accept_info s sequence rate join = burst_info s 0 200 (Some sequence) s.channel.limit rate join

-- the message sequence number after another
abbrev pub next_msn : Info → ℕ
next_msn last = (last.msn + 1) % 256

-- of an update: 100, with the first sequence number of before and what is left of the time
abbrev pub update_info : Settings → Info → ℕ → ℕ → ℕ → Info
update_info s last ticks rate join = burst_info s (next_msn last) 100 last.first (s.channel.limit - ticks) rate join

-- a code alone
abbrev pub bare_info : ℕ → ℕ → Info
bare_info msn code = record { msn = msn; code = code; first = None; join_ms = None; length_ms = None; bps = None }

-- of a refusal
abbrev pub refuse_info : ℕ → Info
refuse_info code = bare_info 0 code

-- of the end of a burst: 201, or 502 where its next packet was lost; a client that left is told nothing
abbrev pub end_info : Info → Cause → Option Info
end_info last Stopped = Some (bare_info (next_msn last) 201)
end_info last Limit = Some (bare_info (next_msn last) 201)
end_info last Lost = Some (bare_info (next_msn last) 502)
end_info last Bye = None
