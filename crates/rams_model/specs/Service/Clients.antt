-- Who is known, who has an open burst, and what the notes say of each client.
use Rattle.std.specs.Prelude.{ℕ, ◌+◌, ◌%◌, Bool, ◌==◌, not, nat_lt, if◌then◌else◌, List, [], ◌∷◌, filter, Option, Some, None}
use Rattle.std.specs.List.{list_any}
use Rattle.rams_model.specs.declared.note.Note.TheVariants.{Accept, Queued, Bye, Forgot, Burst, Repair, End}
use Rattle.rams_model.specs.Service.ChannelSettings.{Settings}
use Rattle.rams_model.specs.Service.Messages.{Message, nack, asks}
use Rattle.rams_model.specs.Service.ChannelHistory.{told, noted, History}

-- the client is one of these
abbrev pub is_among : ℕ → List ℕ → Bool
is_among k ks = list_any (λ j. j == k) ks

-- a client in its place among others, by rising number
abbrev pub placed : ℕ → List ℕ → List ℕ
placed k [] = k ∷ []
placed k (j ∷ js) = if nat_lt k j then k ∷ j ∷ js else j ∷ placed k js

-- the clients with one more, if it isn't there
abbrev pub with_client : ℕ → List ℕ → List ℕ
with_client k ks = if is_among k ks then ks else placed k ks

-- the clients without one
abbrev pub without : ℕ → List ℕ → List ℕ
without k ks = filter (λ j. not (j == k)) ks

-- The known clients, by rising number: those with an Accept or Queued after their last Bye or Forgot.
unfoldable pub known : History → List ℕ
known [] = []
known (noted (Accept client first rate join) packet ∷ history) = with_client client (known history)
known (noted (Queued client n) packet ∷ history) = with_client client (known history)
known (noted (Bye client) packet ∷ history) = without client (known history)
known (noted (Forgot client) packet ∷ history) = without client (known history)
known (_ ∷ history) = known history

-- The clients with an open burst, by rising number: those with an Accept after which no End stands.
unfoldable pub opened : History → List ℕ
opened [] = []
opened (noted (Accept client first rate join) packet ∷ history) = with_client client (opened history)
opened (noted (End client cause) packet ∷ history) = without client (opened history)
opened (_ ∷ history) = opened history

-- how many packets a client was sent since it became known
unfoldable pub sendings : ℕ → History → ℕ
sendings k [] = 0
sendings k (noted (Burst client n sequence) packet ∷ history) = if client == k then sendings k history + 1 else sendings k history
sendings k (noted (Repair client n sequence) packet ∷ history) = if client == k then sendings k history + 1 else sendings k history
sendings k (noted (Bye client) packet ∷ history) = if client == k then 0 else sendings k history
sendings k (noted (Forgot client) packet ∷ history) = if client == k then 0 else sendings k history
sendings k (_ ∷ history) = sendings k history

-- The retransmission sequence number of the packet that a client is sent next: one stream for each client (RFC 4588, 4).
abbrev pub sequence : Settings → ℕ → History → ℕ
sequence s k history = (s.channel.seq0 + sendings k history) % 65536

-- the SSRC of a message's sender
abbrev pub sender : Message → Option ℕ
sender (nack media from numbers) = Some from
sender (asks from request) = Some from
sender _ = None

-- the sender of the newest message
unfoldable pub newest_sender : History → Option ℕ
newest_sender [] = None
newest_sender (told client message ∷ history) = sender message
newest_sender (_ ∷ history) = newest_sender history

-- the first, or the other where there is none
abbrev pub or_sender : Option ℕ → Option ℕ → Option ℕ
or_sender (Some ssrc) other = Some ssrc
or_sender None other = other

-- A known client's SSRC: the sender of the RAMS-R of its last Accept, else of the NACK that made it known.
unfoldable pub ssrc : ℕ → History → Option ℕ
ssrc k [] = None
ssrc k (noted (Accept client first rate join) packet ∷ history) = if client == k then newest_sender history else ssrc k history
ssrc k (noted (Queued client n) packet ∷ history) = if client == k then or_sender (ssrc k history) (newest_sender history) else ssrc k history
ssrc k (noted (Bye client) packet ∷ history) = if client == k then None else ssrc k history
ssrc k (noted (Forgot client) packet ∷ history) = if client == k then None else ssrc k history
ssrc k (_ ∷ history) = ssrc k history
