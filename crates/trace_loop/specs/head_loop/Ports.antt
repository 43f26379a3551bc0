-- The ports of channels.
use Rattle.std.specs.Prelude.{◌≡◌, ℕ, ◌+◌, ◌*◌, List, slice_get, Some}
use Rattle.server_hub.specs.declared.HubEvent.{HubEvent}
use Rattle.server_hub.specs.declared.HubEvent.TheVariants.{Live, Feedback, Tick}

-- The first datagram of what the channels with these numbers answer to an event leaves from this port: the feedback port of the channel that it names, or of the first one.
abbrev pub AnswersFrom : ℕ → List ℕ → HubEvent → ℕ → Type 0
AnswersFrom live ids (Live id bytes) first = (place : ℕ) × (slice_get ids place ≡ Some id) × (first ≡ live + 1 + 2 * place)
AnswersFrom live ids (Feedback id client bytes) first = (place : ℕ) × (slice_get ids place ≡ Some id) × (first ≡ live + 1 + 2 * place)
AnswersFrom live ids Tick first = first ≡ live + 1
