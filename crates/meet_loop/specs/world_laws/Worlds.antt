-- What is true in every world.
use Rattle.std.specs.Prelude.{◌≡◌, ℕ, ◌<◌, ◌≤◌, ◌+◌, ◌^◌, List, [], ◌∷◌, length, Some, Ok, All}
use Rattle.rams_model.specs.Receiver.{Told, informs, unread, Turn, hears, delivers, presents, reception, shown, source_first}
use Rattle.rams_model.specs.Service.{Settings, checked}
use Rattle.service_laws.specs.receiver_laws.{IsMedia, Presents}
use Rattle.service_laws.specs.receiver_laws.Presenting.{WasDelivered}
use Rattle.service_laws.specs.receiver_laws.Fair.{AreFair}
use Rattle.server_hub.specs.declared.HubEvent.TheVariants as hub
use Rattle.server_hub.specs.{id_of, channel_of}
use Rattle.server_hub.specs.Served.{Served}
use Rattle.meet_loop.specs.declared.{world_laws.world.WorldEvent.WorldEvent, world_laws.world.WorldEvent.TheVariants.Hub}
use Rattle.meet_loop.specs.world_laws.World.{Listener}
use Rattle.meet_loop.specs.world_laws.Sources.{source_of}
use Rattle.meet_loop.specs.world_laws.Happening.{world_after}

-- A channel to which nothing came yet, the only one of its number, with a payload type for retransmissions (RFC 3550, 5.1).
pub record IsNew (channels : List Served) (c : Served) : Type 0 where
  pub found : channel_of (id_of c) channels ≡ Some c
  pub fresh : c.events ≡ []
  pub rtx : c.settings.channel.rtx < 128

-- what comes to the server by multicast are bytes
abbrev pub BringsBytes : WorldEvent → Type 0
BringsBytes (Hub (hub.Live id bytes)) = All (λ b. b < 256) bytes
BringsBytes _ = Unit {0}

-- what holds of a receiver and its channel, of whichever world it is
abbrev pub OfEachReceiver : (Served → Listener → Type 0) → Type 0
OfEachReceiver P =
    (channels : List Served) (events : List WorldEvent) → All (IsNew channels) channels → All BringsBytes events
    → let w = world_after channels events in All (λ l. (c : Served) × (channel_of l.id w.channels ≡ Some c) × P c l) w.listeners

-- Whatever was lost, repeated or reordered: what a receiver presented is a prefix of its channel's source from its first number on, each packet once.
abbrev pub EachReceiverPresentsAPrefix : Type 0
EachReceiverPresentsAPrefix = OfEachReceiver (λ c l. Presents (source_of c) (source_first l.turns) (reception l.turns).play (shown l.turns))

-- What was delivered without a gap from the first number up to m, each packet while there was room for it, was presented.
abbrev pub PresentsWhatIsDelivered : Listener → Type 0
PresentsWhatIsDelivered l =
    (f m : ℕ) → source_first l.turns ≡ Some f → ((x : ℕ) → f ≤ x → x < m → WasDelivered f l.turns x) → m ≤ f + length (shown l.turns)

abbrev pub EachReceiverPresentsWhatIsDelivered : Type 0
EachReceiverPresentsWhatIsDelivered = OfEachReceiver (λ c l. PresentsWhatIsDelivered l)

-- no delivery is foreign to the receiver, or bad
abbrev pub AreMedia : List Turn → Type 0
AreMedia [] = Unit {0}
AreMedia (hears told ∷ turns) = AreMedia turns
AreMedia (delivers x media ∷ turns) = IsMedia media × AreMedia turns
AreMedia (presents ∷ turns) = AreMedia turns

-- Each retransmission and each packet by multicast that was delivered is one of the channel.
abbrev pub NoMediaAreForeignOrBad : Type 0
NoMediaAreForeignOrBad = OfEachReceiver (λ c l. AreMedia l.turns)

-- Each was the source's packet of its number, and near to the one presented next.
abbrev pub EachDeliveryIsFair : Type 0
EachDeliveryIsFair = OfEachReceiver (λ c l. AreFair (source_of c) l.turns)

-- The settings of a channel are lawful, and its SSRCs have 32 bits (RFC 3550, 5.1).
pub record HasFields (s : Settings) : Type 0 where
  pub lawful : checked s ≡ Ok s
  pub media : s.channel.ssrc < 2 ^ 32
  pub server : s.channel.server < 2 ^ 32

-- a datagram of feedback was a RAMS-I for the receiver (RFC 6285, 7.3)
abbrev pub IsInfo : Told → Type 0
IsInfo (informs i) = Unit {0}
IsInfo (unread why) = ⊥

-- no RAMS-I that came to the receiver is foreign to it, or bad
abbrev pub AreInfos : List Turn → Type 0
AreInfos [] = Unit {0}
AreInfos (hears told ∷ turns) = IsInfo told × AreInfos turns
AreInfos (delivers x media ∷ turns) = AreInfos turns
AreInfos (presents ∷ turns) = AreInfos turns

-- Each RAMS-I that was delivered is one about the receiver's media source, and names a first sequence number where it tells of a burst.
abbrev pub NoInfosAreForeignOrBad : Type 0
NoInfosAreForeignOrBad = OfEachReceiver (λ c l. HasFields c.settings → AreInfos l.turns)
