-- What the definitions that compute mean, in the words of the rules.
use Rattle.std.specs.Prelude.{◌≡◌, ℕ, ◌+◌, ◌-◌, ◌%◌, ◌≤◌, min, max, Bool, ◌&&◌, ◌==◌, nat_le, if◌then◌else◌, IsTrue, IsFalse, ◌⊎◌, ◌↔◌, List, [], ◌∷◌, ◌++◌, length, take, Option, Some, None, Result, Ok, Err}
use Rattle.rams_model.specs.declared.{channel.Channel.Channel, event.Event.Event, held.Held.Held, note.Note.Note}
use Rattle.rams_model.specs.declared.note.Note.TheVariants as note
use Rattle.rams_model.specs.Service.{Settings, stop_of, tick, Item, began, noted, History, hold, known, opened, is_among, Burst, size_of, bursts, has_open, channel_left, is_pending, run, Book, IsLawful, events_of, book}
use Rattle.rams_model.specs.Packets.{lo, hi, wires, from_number, Arrival, Follows, is_consecutive, consecutive_end, awaited, is_missing, stream_of, source, is_eligible, age, is_at_most, chosen}

-- the packet is one of these
abbrev pub IsAmong : Held → List Held → Type 0
IsAmong h [] = ⊥
IsAmong h (k ∷ ks) = (k ≡ h) ⊎ IsAmong h ks

-- the numbers rise, and are at least n: each packet stands once, and in order
abbrev pub Rises : ℕ → List Held → Type 0
Rises n [] = Unit {0}
Rises n (h ∷ hs) = (n ≤ h.n) × Rises (h.n + 1) hs

-- Each packet stands once in the source list, by its number.
abbrev pub EachPacketStandsOnce : Type 0
EachPacketStandsOnce = (window : ℕ) (arrivals : List Arrival) → Rises 0 (source window (stream_of window arrivals))

-- The source list only grows, at its end.
abbrev pub TheSourceOnlyGrows : Type 0
TheSourceOnlyGrows = (window : ℕ) (a : Arrival) (arrivals : List Arrival)
    → (more : List Held) × (source window (stream_of window (a ∷ arrivals)) ≡ source window (stream_of window arrivals) ++ more)

-- The awaited number is missing, and no number from the first of the start on that is missing is below it.
abbrev pub TheAwaitedIsTheLeast : Type 0
TheAwaitedIsTheLeast = (window : ℕ) (h : Held) (hs : List Held) → Rises 0 (h ∷ hs) → let a = awaited window (h ∷ hs) in
    (h.n ≤ a) × IsTrue (is_missing window (h ∷ hs) a) × ((n : ℕ) → h.n ≤ n → IsTrue (is_missing window (h ∷ hs) n) → a ≤ n)

-- The longest end of some packets whose numbers follow one another.
pub record IsLongestEnd (hs end : List Held) : Type 0 where
  pub front : List Held
  pub splits : hs ≡ front ++ end
  pub follows : IsTrue (is_consecutive end)
  pub longest : (before other : List Held) → hs ≡ before ++ other → IsTrue (is_consecutive other) → length other ≤ length end

-- The end of the source list of which the last packets are held is the longest whose numbers follow one another.
abbrev pub TheEndIsTheLongest : Type 0
TheEndIsTheLongest = (hs : List Held) → IsLongestEnd hs (consecutive_end hs)

-- What is held are the numbers from lo up to hi, and what is held from one of them on, the numbers from it up to hi.
abbrev pub HeldPacketsFollow : Type 0
HeldPacketsFollow = (s : Settings) (history : History) → let held = hold s history in Follows (lo held) held
    × ((n : ℕ) → lo held ≤ n → n ≤ hi held → Follows n (from_number n held) × (n + length (from_number n held) ≡ hi held))

-- an end is at most the stop, where one is set
abbrev pub IsByStop : Option ℕ → ℕ → Type 0
IsByStop None end = Unit {0}
IsByStop (Some stop) end = end ≤ stop

-- The first `count` of the packets from number n on may be sent: they end by the stop, and fit into what is left.
pub record MayBeSent (stop : Option ℕ) (n left : ℕ) (packets : List Held) (count : ℕ) : Type 0 where
  pub there : count ≤ length packets
  pub stops : IsByStop stop (n + count)
  pub fits : wires (take count packets) ≤ left

-- The run is as many of the packets from the next number on as may be sent.
abbrev pub TheRunIsTheLongest : Type 0
TheRunIsTheLongest = (stop : Option ℕ) (n left : ℕ) (packets : List Held) → Follows n packets → IsByStop stop n → let r = run stop n left packets in
    (r ≡ take (length r) packets) × MayBeSent stop n left packets (length r)
    × ((count : ℕ) → MayBeSent stop n left packets count → count ≤ length r)

-- The newest of the packets that pass a test: it passes, and none that does has a greater number.
pub record IsNewest (held : List Held) (test : Held → Bool) (h : Held) : Type 0 where
  pub among : IsAmong h held
  pub passes : IsTrue (test h)
  pub newest : (k : Held) → IsAmong k held → IsTrue (test k) → k.n ≤ h.n

-- none of the packets passes the test
abbrev pub NonePasses : List Held → (Held → Bool) → Type 0
NonePasses held test = (k : Held) → IsAmong k held → IsFalse (test k)

-- a burst may begin there, and it is old enough
abbrev pub is_old_enough : Channel → List Held → ℕ → Held → Bool
is_old_enough c held least h = is_eligible c held h && nat_le least (age held h)

-- Why no access point is chosen: none is eligible (507); none of those is old enough (401); the newest that is, is too old (402).
pub data IsRefusedFor (c : Channel) (held : List Held) (least : ℕ) (most : Option ℕ) : ℕ → Type 0 where
  none : NonePasses held (is_eligible c held) → IsRefusedFor c held least most 507
  young : (k : Held) → IsAmong k held → IsTrue (is_eligible c held k) → NonePasses held (is_old_enough c held least) → IsRefusedFor c held least most 401
  old : (h : Held) → IsNewest held (is_old_enough c held least) h → IsFalse (is_at_most (age held h) most) → IsRefusedFor c held least most 402

-- A chosen access point is the newest that is old enough, and not too old; a code is true.
abbrev pub IsChoice : Channel → List Held → ℕ → Option ℕ → Result Held ℕ → Type 0
IsChoice c held least most (Ok h) = IsNewest held (is_old_enough c held least) h × IsTrue (is_at_most (age held h) most)
IsChoice c held least most (Err code) = IsRefusedFor c held least most code

-- The chosen access point is the newest that is eligible and old enough.
abbrev pub TheChosenIsTheNewest : Type 0
TheChosenIsTheNewest = (c : Channel) (held : List Held) (least : ℕ) (most : Option ℕ) → Follows (lo held) held → IsChoice c held least most (chosen c held least most)

-- A number from the first on with the low 16 bits that are named, and the least such.
pub record IsLeastNamed (first named n : ℕ) : Type 0 where
  pub from : first ≤ n
  pub low : n % 65536 ≡ named % 65536
  pub least : (m : ℕ) → first ≤ m → m % 65536 ≡ named % 65536 → n ≤ m

-- A stop is the least number from the first on that is named, or the next where that is greater or nothing is named.
abbrev pub TheStopIsTheLeast : Type 0
TheStopIsTheLeast = (first next : ℕ)
    → (stop_of first next None ≡ next)
    × ((named : ℕ) → (n : ℕ) × IsLeastNamed first named n × (stop_of first next (Some named) ≡ max next n))

-- none of the items is of the kind
abbrev pub NoneIs : (Item → Bool) → History → Type 0
NoneIs kind [] = Unit {0}
NoneIs kind (i ∷ history) = IsFalse (kind i) × NoneIs kind history

-- An item of one kind stands in the history, and none of another kind after it.
pub record StandsWithout (makes ends : Item → Bool) (history : History) : Type 0 where
  pub later : History
  pub item : Item
  pub before : History
  pub splits : history ≡ later ++ item ∷ before
  pub made : IsTrue (makes item)
  pub stays : NoneIs ends later

-- an Accept or Queued of the client
abbrev pub makes_known : ℕ → Item → Bool
makes_known k (noted (note.Accept client first rate join) packet) = client == k
makes_known k (noted (note.Queued client n) packet) = client == k
makes_known k _ = Bool.false

-- a Bye or Forgot of it
abbrev pub ends_known : ℕ → Item → Bool
ends_known k (noted (note.Bye client) packet) = client == k
ends_known k (noted (note.Forgot client) packet) = client == k
ends_known k _ = Bool.false

-- A client is known where an Accept or Queued of it stands, and no Bye or Forgot of it after that.
abbrev pub KnownIsSinceTheLastBye : Type 0
KnownIsSinceTheLastBye = (k : ℕ) (history : History) → IsTrue (is_among k (known history)) ↔ StandsWithout (makes_known k) (ends_known k) history

-- an Accept of the client
abbrev pub is_accept_of : ℕ → Item → Bool
is_accept_of k (noted (note.Accept client first rate join) packet) = client == k
is_accept_of k _ = Bool.false

-- an End of it
abbrev pub is_end_of : ℕ → Item → Bool
is_end_of k (noted (note.End client cause) packet) = client == k
is_end_of k _ = Bool.false

-- A client has an open burst where an Accept of it stands, and no End of it after that.
abbrev pub OpenIsSinceTheLastEnd : Type 0
OpenIsSinceTheLastEnd = (k : ℕ) (history : History) → IsTrue (is_among k (opened history)) ↔ StandsWithout (is_accept_of k) (is_end_of k) history

-- the Queued of this repair
abbrev pub is_queued : ℕ → ℕ → Item → Bool
is_queued k n (noted (note.Queued client m) packet) = client == k && m == n
is_queued k n _ = Bool.false

-- a Repair or Gone of it, or a Bye of its client
abbrev pub ends_pending : ℕ → ℕ → Item → Bool
ends_pending k n (noted (note.Repair client m sequence) packet) = client == k && m == n
ends_pending k n (noted (note.Gone client m) packet) = client == k && m == n
ends_pending k n (noted (note.Bye client) packet) = client == k
ends_pending k n _ = Bool.false

-- A repair is pending where its Queued stands, and no Repair or Gone of it and no Bye of its client after that.
abbrev pub PendingIsSinceTheLastRepair : Type 0
PendingIsSinceTheLastRepair = (k n : ℕ) (history : History) → IsTrue (is_pending k n history) ↔ StandsWithout (is_queued k n) (ends_pending k n) history

-- a StopAt of the client with this number
abbrev pub is_stop_at : ℕ → ℕ → Item → Bool
is_stop_at k n (noted (note.StopAt client m) packet) = client == k && m == n
is_stop_at k n _ = Bool.false

-- another StopAt, or an Accept, which begins a burst without a stop
abbrev pub ends_stop : ℕ → Item → Bool
ends_stop k (noted (note.StopAt client m) packet) = client == k
ends_stop k (noted (note.Accept client first rate join) packet) = client == k
ends_stop k _ = Bool.false

-- the stop of a client's newest burst
abbrev pub newest_stop : List Burst → Option ℕ
newest_stop [] = None
newest_stop (b ∷ bs) = b.stop

-- The stop of a client's newest burst is the number of the StopAt after its last Accept.
abbrev pub StopIsOfTheLastStopAt : Type 0
StopIsOfTheLastStopAt = (s : Settings) (k n : ℕ) (history : History) → StandsWithout (is_accept_of k) (λ i. Bool.false) history
    → (newest_stop (bursts s k history) ≡ Some n) ↔ StandsWithout (is_stop_at k n) (ends_stop k) history

-- the numbers of a client's Burst notes among these items, the newest first
abbrev pub numbers_sent : ℕ → History → List ℕ
numbers_sent k [] = []
numbers_sent k (noted (note.Burst client n sequence) packet ∷ history) = if client == k then n ∷ numbers_sent k history else numbers_sent k history
numbers_sent k (_ ∷ history) = numbers_sent k history

-- how many ticks began
abbrev pub ticks_begun : History → ℕ
ticks_begun [] = 0
ticks_begun (began tick ∷ history) = ticks_begun history + 1
ticks_begun (_ ∷ history) = ticks_begun history

-- the rate of a client's latest Update, or else this one
abbrev pub latest_rate : ℕ → ℕ → History → ℕ
latest_rate k rate [] = rate
latest_rate k rate (noted (note.Update client new join) packet ∷ history) = if client == k then new else latest_rate k rate history
latest_rate k rate (_ ∷ history) = latest_rate k rate history

-- the newest burst has these first number, rate, sent numbers and ticks
pub record IsBurst (bs : List Burst) (first rate : ℕ) (sent : List ℕ) (ticks : ℕ) : Type 0 where
  pub burst : Burst
  pub others : List Burst
  pub is_newest : bs ≡ burst ∷ others
  pub is_first : burst.first ≡ first
  pub is_rate : burst.rate ≡ rate
  pub is_sent : burst.sent ≡ sent
  pub is_ticks : burst.ticks ≡ ticks

-- A client's newest burst is what its last Accept says, with the rate of the latest Update since, the Burst notes since, and the ticks since.
abbrev pub BurstIsSinceTheLastAccept : Type 0
BurstIsSinceTheLastAccept = (s : Settings) (k first rate join : ℕ) (packet : Option Held) (later before : History) → NoneIs (is_accept_of k) later
    → IsBurst (bursts s k (later ++ noted (note.Accept k first rate join) packet ∷ before)) first (latest_rate k rate later) (numbers_sent k later) (ticks_begun later)

-- A client's open burst is its newest, where an Accept of it stands, and no End of it after that.
abbrev pub BurstIsOpenSinceTheLastEnd : Type 0
BurstIsOpenSinceTheLastEnd = (s : Settings) (k : ℕ) (history : History) → IsTrue (has_open s k history) ↔ StandsWithout (is_accept_of k) (is_end_of k) history

-- an event begins
abbrev pub is_event : Item → Bool
is_event (began heard) = Bool.true
is_event _ = Bool.false

-- a note that sends a packet
abbrev pub is_sending : Note → Bool
is_sending (note.Burst client n sequence) = Bool.true
is_sending (note.Repair client n sequence) = Bool.true
is_sending _ = Bool.false

-- a note that sends a packet to this client
abbrev pub is_sending_to : ℕ → Note → Bool
is_sending_to k (note.Burst client n sequence) = client == k
is_sending_to k (note.Repair client n sequence) = client == k
is_sending_to k _ = Bool.false

-- the wire sizes of the packets that such notes among these items send
abbrev pub sizes_sent : (Note → Bool) → History → ℕ
sizes_sent test [] = 0
sizes_sent test (noted note packet ∷ history) = if test note then sizes_sent test history + size_of packet else sizes_sent test history
sizes_sent test (_ ∷ history) = sizes_sent test history

-- In a tick the channel's budget has left what it kept and the share, less what was sent since the tick began.
abbrev pub ChannelHasLeft : Type 0
ChannelHasLeft = (s : Settings) (later before : History) → NoneIs is_event later
    → channel_left s (later ++ began tick ∷ before) ≡ (s.channel.share + min s.channel.swell (channel_left s before)) - sizes_sent is_sending later

-- what the budget of the newest burst has left
abbrev pub newest_left : List Burst → Option ℕ
newest_left [] = None
newest_left (b ∷ bs) = Some b.left

-- In a tick a burst's budget has left what it kept and the rate, less what its client was sent since the tick began.
abbrev pub BurstHasLeft : Type 0
BurstHasLeft = (s : Settings) (k : ℕ) (b : Burst) (others : List Burst) (later before : History) → bursts s k before ≡ b ∷ others
    → NoneIs is_event later → NoneIs (is_accept_of k) later
    → newest_left (bursts s k (later ++ began tick ∷ before)) ≡ Some ((b.rate + min s.channel.depth b.left) - sizes_sent (is_sending_to k) later)

-- The book of some events is lawful, and no other book of them is.
abbrev pub ExactlyOneBook : Type 0
ExactlyOneBook = (s : Settings) (events : List Event) → IsLawful s (book s events) × (events_of (book s events) ≡ events)
    × ((other : Book) → IsLawful s other → events_of other ≡ events → other ≡ book s events)
