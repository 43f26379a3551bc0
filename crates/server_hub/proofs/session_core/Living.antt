-- The answer to a live packet.
use Rattle.std.proofs.Common.{◌≡◌, ℕ, ◌^◌, ◌<◌, ◌≤◌, List, [], ◌∷◌, Some, sym, ap, ◌∙◌, subst, length, arith}
use Rattle.std.specs.Prelude.{All}
use Rattle.rams_model.specs.declared.{Event.Event, Held.Held, LiveNote.LiveNote, Event.TheVariants.Live, Note.TheVariants.Live as LiveNoted}
use Rattle.rams_model.specs.Service.{answered, Settings, arrivals, hold, newest_notes, newest_orders, order_of, newest_answer, answer, history_of}
use Rattle.rams_model.specs.Packets.{Arrival, hi, stream_of}
use Rattle.rams_model.specs.Packets.Source as sources
use Rattle.channel_cache.specs.{live_note_of, arrivals_after}
use Rattle.channel_cache.specs.Seen as caches
use Rattle.channel_cache.proofs.Booked.{noted_so}
use Rattle.channel_parts.specs.declared.Parts.{Parts}
use Rattle.channel_parts.specs.{HaveLowNumbers, StandsFor}
use Rattle.channel_parts.proofs.Facts.{held_numbers_are_small, read_packets_have_low_numbers}
use Rattle.channel_parts.proofs.Staying.{live_packets_change_the_cache, few_arrive}

-- The note of the packet is the whole answer, and asks for no datagram.
live_answered : (s : Settings) (events : List Event) (bytes : List ℕ) (note : LiveNote)
    → live_note_of s (arrivals (history_of s events)) bytes ≡ Some note → answered (LiveNoted note ∷ []) [] ≡ answer s events (Live bytes)
unfolding history_of newest_notes newest_orders order_of
live_answered s events bytes note noted = ap (newest_answer s) (sym (noted_so s bytes (history_of s events) note noted).entered)

-- A cache took a packet, whatever live packets came before.
module _ (p : Parts) (bytes : List ℕ) (note : LiveNote) (cache : caches.Seen) (are : All (λ b. b < 256) bytes) (takes : (packets : List Arrival) → caches.StandsFor p.cache packets
    → (live_note_of p.cache.settings packets bytes ≡ Some note) × caches.StandsFor cache (arrivals_after p.cache.settings bytes packets)) (settings : cache.settings ≡ p.cache.settings) where
  taken : (events : List Event) → StandsFor p events
      → (live_note_of p.config (arrivals (history_of p.config events)) bytes ≡ Some note) × caches.StandsFor cache (arrivals_after p.config bytes (arrivals (history_of p.config events)))
  taken events st =
      let packets = arrivals (history_of p.config events) in
      subst (λ (s : Settings). (live_note_of s packets bytes ≡ Some note) × caches.StandsFor cache (arrivals_after s bytes packets)) st.packets.settings_are (takes packets st.packets.stands)

  -- The numbers are small as long as some events that the parts stand for are few.
  pub small_after : (events : List Event) → StandsFor p events → length events < 2 ^ 40 → hi cache.held ≤ 2 ^ 62
  unfolding history_of
  small_after events st few =
      let s = p.config in
      let old = history_of s events in
      let new = history_of s (Live bytes ∷ events) in
      let took = taken events st in
      let brought : arrivals new ≡ arrivals_after s bytes (arrivals old) = (noted_so s bytes old note took.0).arrived in
      let low = subst HaveLowNumbers (sym brought) (read_packets_have_low_numbers s bytes (arrivals old) are st.packets.low) in
      let held : cache.held ≡ hold s new =
      took.1.held
      ∙ ap (λ (t : Settings). sources.hold t.channel.window t.channel.ring (stream_of t.channel.window (arrivals_after s bytes (arrivals old)))) (settings ∙ st.packets.settings_are)
      ∙ ap (λ (l : List Arrival). sources.hold s.channel.window s.channel.ring (stream_of s.channel.window l)) (sym brought) in
      subst (λ (hs : List Held). hi hs ≤ 2 ^ 62) (sym held) (held_numbers_are_small s new low (omega (arith, few_arrive s (Live bytes ∷ events), few)))

  -- The answer is lawful, and the parts stand for the packet too.
  pub live_stands : hi cache.held ≤ 2 ^ 62 → (events : List Event) → StandsFor p events
      → (answered (LiveNoted note ∷ []) [] ≡ answer p.config events (Live bytes)) × StandsFor (record p { cache = cache }) (Live bytes ∷ events)
  live_stands small events st =
      let took = taken events st in (
        live_answered p.config events bytes note took.0,
        live_packets_change_the_cache p events bytes note cache are st (record { noted = took.0; stands = took.1; settings_are = settings ∙ st.packets.settings_are; small = small }),
      )
