-- What the channels of a server send together, and what the link gives them.
use Rattle.std.specs.Prelude.{◌≡◌, ◌≢◌, ℕ, ◌+◌, ◌*◌, ◌≤◌, min, List, [], ◌∷◌, map, sum_by}
use Rattle.rams_model.specs.declared.{Order.Order, Order.TheVariants.Rtx, Order.TheVariants.Info}
use Rattle.rams_model.specs.Service.{Answered, channel_left, history_of}
use Rattle.rams_model.specs.Formats.{wire_size}
use Rattle.server_hub.specs.declared.{event.At.At, event.HubEvent.HubEvent, event.HubEvent.TheVariants.Tick}
use Rattle.server_hub.specs.Served.{Served, Told, no_channel, says, told_to, answers_to_tick, after_event}
use Rattle.server_hub.specs.Seen.{shares_of}

-- the wire size of the packet that an order sends; a RAMS-I isn't counted
abbrev pub size_of : Order → ℕ
size_of (Rtx client n sequence packet) = wire_size packet
size_of (Info client info) = 0

-- what an answer sends
abbrev pub bytes_of : Answered → ℕ
bytes_of a = sum_by size_of a.orders

-- what the answers of channels send
abbrev pub bytes_of_all : List At → ℕ
bytes_of_all answers = sum_by (λ x. bytes_of x.answer) answers

-- the shares of the channels, together
abbrev pub all_shares : List Served → ℕ
all_shares channels = shares_of (map (λ c. c.settings) channels)

-- What a channel kept of its budget when an event comes: what the budget has left, at most the swell.
abbrev pub kept : Served → ℕ
kept c = min c.settings.channel.swell (channel_left c.settings (history_of c.settings c.events))

abbrev pub all_kept : List Served → ℕ
all_kept channels = sum_by kept channels

abbrev pub all_swells : List Served → ℕ
all_swells channels = sum_by (λ c. c.settings.channel.swell) channels

-- In a tick all channels together send at most what the link gives, with what they kept.
abbrev pub TicksStayWithinTheLink : Type 0
TicksStayWithinTheLink = (link : ℕ) (channels : List Served) → all_shares channels ≤ link → bytes_of_all (answers_to_tick channels) ≤ link + all_kept channels

-- What they kept is at most the swells, so they send at most what the link gives, and the swells.
abbrev pub TicksSendAtMostLinkAndSwells : Type 0
TicksSendAtMostLinkAndSwells =
    (link : ℕ) (channels : List Served) → all_shares channels ≤ link
    → (all_kept channels ≤ all_swells channels) × (bytes_of_all (answers_to_tick channels) ≤ link + all_swells channels)

-- the answers that are said
abbrev pub answers_said : Told → List At
answers_said (no_channel id) = []
answers_said (says all) = all

-- what the channels answer to an event of the server
abbrev pub answers_to : HubEvent → List Served → List At
answers_to event channels = answers_said (told_to event channels)

-- Nothing is sent but in ticks.
abbrev pub OnlyTicksSend : Type 0
OnlyTicksSend = (event : HubEvent) (channels : List Served) → event ≢ Tick → bytes_of_all (answers_to event channels) ≡ 0

-- the channels after these events of the server, the newest first
unfoldable pub after_events : List HubEvent → List Served → List Served
after_events [] channels = channels
after_events (event ∷ events) channels = after_event event (after_events events channels)

-- what they send while these come
unfoldable pub sent_over : List HubEvent → List Served → ℕ
sent_over [] channels = 0
sent_over (event ∷ events) channels = sent_over events channels + bytes_of_all (answers_to event (after_events events channels))

-- how many of these are ticks, which come to all channels at once
unfoldable pub ticks_among : List HubEvent → ℕ
ticks_among [] = 0
ticks_among (Tick ∷ events) = ticks_among events + 1
ticks_among (_ ∷ events) = ticks_among events

-- Over events that follow one another: what all channels send, with what they keep, is at most as many times what the link gives as there are ticks, with what they kept before.
abbrev pub ChannelsStayWithinTheLink : Type 0
ChannelsStayWithinTheLink =
    (link : ℕ) (channels : List Served) (events : List HubEvent) → all_shares channels ≤ link
    → sent_over events channels + all_kept (after_events events channels) ≤ ticks_among events * link + all_kept channels

-- So they send at most as many times what the link gives as there are ticks, and the swells.
abbrev pub ChannelsSendAtMostLinkAndSwells : Type 0
ChannelsSendAtMostLinkAndSwells =
    (link : ℕ) (channels : List Served) (events : List HubEvent) → all_shares channels ≤ link → sent_over events channels ≤ ticks_among events * link + all_swells channels
