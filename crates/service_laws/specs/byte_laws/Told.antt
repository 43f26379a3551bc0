-- What a client is told of a note: the bytes of the RAMS-I that goes out (RFC 6285, 7.3).
use Rattle.std.specs.Prelude.{◌≡◌, ℕ, ◌+◌, ◌-◌, ◌*◌, ◌/◌, ◌%◌, ◌==◌, min, if◌then◌else◌, List, [], ◌∷◌, ◌++◌, take, drop, slice_index, Option, Some, None, IfSome, Contains}
use Rattle.std.specs.Int.{w16, w32, w64, to_be_bytes}
use Rattle.rams_model.specs.declared.{Order.Order, Held.Held, Note.Note}
use Rattle.rams_model.specs.declared.Order.TheVariants as order
use Rattle.rams_model.specs.declared.Cause.TheVariants.{Stopped, Lost, Limit, Bye}
use Rattle.rams_model.specs.declared.Note.TheVariants as note
use Rattle.rams_model.specs.Service.{Settings, noted, History, sequence, Burst, open_burst, order_of, client_of, datagram, Book, IsLawful}
use Rattle.service_laws.specs.book_laws.{IsMoment, orders_in}

-- The first 16 bytes: version 2 and format 6 (0x86), transport layer feedback (205), the length in words, the SSRCs of the server and of the media source (RFC 4585, 6.1);
-- then 2 for a RAMS-I, the message sequence number, and the response.
abbrev pub front : Settings → ℕ → ℕ → ℕ → List ℕ
front s words number response =
    0x86 ∷ 205 ∷ 0 ∷ words ∷ (to_be_bytes w32 s.channel.server ++ to_be_bytes w32 s.channel.ssrc ++ (2 ∷ number ∷ to_be_bytes w16 response))

-- the message sequence number of a RAMS-I is its byte 13
abbrev pub message_number : List ℕ → ℕ
message_number bytes = slice_index bytes 13

-- the one after it
abbrev pub after : List ℕ → ℕ
after bytes = (message_number bytes + 1) % 256

-- Of a burst: TLV 32 as these eight bytes, then the ms after which the client may join (33), the ms that the burst may still last (34), and its bits per second (35).
abbrev pub of_burst : Settings → ℕ → ℕ → List ℕ → ℕ → ℕ → ℕ → List ℕ
of_burst s number response first join lasts bits =
    front s 12 number response ++ first
    ++ (33 ∷ 0 ∷ 0 ∷ 4 ∷ to_be_bytes w32 join) ++ (34 ∷ 0 ∷ 0 ∷ 4 ∷ to_be_bytes w32 lasts) ++ (35 ∷ 0 ∷ 0 ∷ 8 ∷ to_be_bytes w64 bits)

-- a response alone
abbrev pub bare : Settings → ℕ → ℕ → List ℕ
bare s number response = front s 3 number response

-- so many ticks in ms, at most what 32 bits hold
abbrev pub in_ms : Settings → ℕ → ℕ
in_ms s ticks = min (ticks * s.tick) 4294967295

-- the datagram of an order, where there is one
abbrev pub told_at : Settings → Option Order → List ℕ
told_at s None = []
told_at s (Some o) = datagram s o

-- What a client was told last of its burst: the datagram of its latest Accept or Update.
unfoldable pub last_told : Settings → ℕ → History → List ℕ
last_told s k [] = []
last_told s k (noted (note.Accept client first rate join) packet ∷ history) =
    if client == k then told_at s (order_of s history (note.Accept client first rate join) packet) else last_told s k history
last_told s k (noted (note.Update client rate join) packet ∷ history) =
    if client == k then told_at s (order_of s history (note.Update client rate join) packet) else last_told s k history
last_told s k (item ∷ history) = last_told s k history

-- the ticks that the client's open burst has lasted
abbrev pub ticks_of : Option Burst → ℕ
ticks_of None = 0
ticks_of (Some b) = b.ticks

-- the order is for this client, and its datagram is these bytes
abbrev pub Gets : Settings → ℕ → List ℕ → Option Order → Type 0
Gets s k bytes None = ⊥
Gets s k bytes (Some o) = (client_of o ≡ k) × (datagram s o ≡ bytes)

-- the order is no RAMS-I
abbrev pub IsNoInfo : Order → Type 0
IsNoInfo (order.Rtx client n sequence packet) = Unit {0}
IsNoInfo (order.Info client info) = ⊥

-- What goes out for a note, by what stood in front of it.
abbrev pub TellsSo : Settings → History → Note → Option Order → Type 0
TellsSo s before (note.Accept k first rate join) =
    Gets s k (of_burst s 0 200 (32 ∷ 0 ∷ 0 ∷ 2 ∷ (to_be_bytes w16 (sequence s k before) ++ (0 ∷ 0 ∷ []))) (in_ms s join) (s.channel.limit * s.tick) (rate * 8000 / s.tick))
TellsSo s before (note.Update k rate join) =
    Gets s k (of_burst s (after (last_told s k before)) 100 (take 8 (drop 16 (last_told s k before))) (in_ms s join) ((s.channel.limit - ticks_of (open_burst s k before)) * s.tick) (rate * 8000 / s.tick))
TellsSo s before (note.Again k) = Gets s k (last_told s k before)
TellsSo s before (note.Refuse k code) = Gets s k (bare s 0 code)
TellsSo s before (note.End k Stopped) = Gets s k (bare s (after (last_told s k before)) 201)
TellsSo s before (note.End k Limit) = Gets s k (bare s (after (last_told s k before)) 201)
TellsSo s before (note.End k Lost) = Gets s k (bare s (after (last_told s k before)) 502)
TellsSo s before (note.End k Bye) = λ o. o ≡ None
TellsSo s before _ = λ o. IfSome o IsNoInfo

-- Each note tells its client so.
abbrev pub EachNoteTellsItsClientSo : Type 0
EachNoteTellsItsClientSo =
    (s : Settings) (note : Note) (packet : Option Held) (before : History) → IsMoment s (noted note packet ∷ before) → TellsSo s before note (order_of s before note packet)

-- An order was made for a note, at a moment.
pub record WasOrdered (s : Settings) (o : Order) : Type 0 where
  pub note : Note
  pub packet : Option Held
  pub before : History
  pub moment : IsMoment s (noted note packet ∷ before)
  pub is_its : order_of s before note packet ≡ Some o

-- Each order of a lawful book is that of a note: nothing else goes out.
abbrev pub EachOrderIsThatOfANote : Type 0
EachOrderIsThatOfANote = (s : Settings) (book : Book) (o : Order) → IsLawful s book → Contains (orders_in book) o → WasOrdered s o
