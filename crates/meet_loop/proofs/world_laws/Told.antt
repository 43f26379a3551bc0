-- What is true of each receiver of a right world.
use Rattle.std.proofs.Common.{◌≡◌, List, Some}
use Rattle.std.proofs.lemmas.List.Elements.{All-weaker}
use Rattle.rams_model.specs.Receiver.{reception, shown, source_first}
use Rattle.rams_model.specs.Service.{arrivals, history_of}
use Rattle.rams_model.proofs.Growing.{source_rises}
use Rattle.service_laws.specs.receiver_laws.{Presents}
use Rattle.service_laws.specs.receiver_laws.Fair.{AreFair}
use Rattle.service_laws.proofs.receiver_laws.Delivered.{all_presented}
use Rattle.service_laws.proofs.receiver_laws.Prefixes.{prefix}
use Rattle.service_laws.proofs.receiver_laws.Standing.{stands}
use Rattle.server_hub.specs.{channel_of}
use Rattle.server_hub.specs.Served.{Served}
use Rattle.meet_loop.specs.world_laws.{Listener, source_of, OfEachReceiver, PresentsWhatIsDelivered, AreMedia, HasFields, AreInfos, world_after}
use Rattle.meet_loop.proofs.world_laws.Right.{IsRightListener}
use Rattle.meet_loop.proofs.world_laws.Happened.{every_world}

of_each : (P : Served → Listener → Type 0) → ((cs : List Served) (l : Listener) (r : IsRightListener cs l) → P r.channel l) → OfEachReceiver P
of_each P f cs events new bytes =
    let w = world_after cs events in
    All-weaker (IsRightListener w.channels) (λ l. (c : Served) × (channel_of l.id w.channels ≡ Some c) × P c l)
    (λ l r. (r.channel, r.found, f w.channels l r)) w.listeners (every_world cs events new bytes).listeners

pub prefixes : OfEachReceiver (λ c l. Presents (source_of c) (source_first l.turns) (reception l.turns).play (shown l.turns))
prefixes =
    of_each (λ c l. Presents (source_of c) (source_first l.turns) (reception l.turns).play (shown l.turns))
    (λ cs l r. let c = r.channel in
    prefix (source_of c) (source_first l.turns) (reception l.turns).play (shown l.turns) (source_rises c.settings.channel.window (arrivals (history_of c.settings c.events)))
    (stands (source_of c) l.turns r.fair))

pub delivered : OfEachReceiver (λ c l. PresentsWhatIsDelivered l)
delivered =
    of_each (λ c l. PresentsWhatIsDelivered l) (λ cs l r. λ f m first each. all_presented (source_of r.channel) l.turns f m r.fair first r.settled each)

pub fair : OfEachReceiver (λ c l. AreFair (source_of c) l.turns)
fair = of_each (λ c l. AreFair (source_of c) l.turns) (λ cs l r. r.fair)

pub media : OfEachReceiver (λ c l. AreMedia l.turns)
media = of_each (λ c l. AreMedia l.turns) (λ cs l r. r.media)

pub infos : OfEachReceiver (λ c l. HasFields c.settings → AreInfos l.turns)
infos = of_each (λ c l. HasFields c.settings → AreInfos l.turns) (λ cs l r. r.infos)
