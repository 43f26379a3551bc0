-- What each channel of a trace promises: the laws of every lawful book, said of the channel's own book and of the moments of its own history.
use Rattle.std.specs.Prelude.{◌≡◌, ◌≢◌, ℕ, ◌+◌, ◌*◌, ◌<◌, ◌≤◌, min, Bool, ◌⊎◌, IsTrue, List, [], ◌∷◌, ◌++◌, length, filter_map, Option, Some, Result, Ok, All, Contains, true, false}
use Rattle.rams_model.specs.declared.{Order.Order, Event.Event, TlvFault.TlvFault, Held.Held, Info.Info, Stop.Stop, Cause.Cause, Note.Note}
use Rattle.rams_model.specs.declared.Order.TheVariants as orders
use Rattle.rams_model.specs.declared.Event.TheVariants.{Live, Feedback, Tick}
use Rattle.rams_model.specs.declared.Cause.TheVariants as cause
use Rattle.rams_model.specs.declared.Note.TheVariants as note
use Rattle.rams_model.specs.Service.{Settings, checked, bye, nack, asks, stops, Heard, tick, began, told, noted, History, hold, Burst, next, known, is_among, open_burst, has_open, reserved, channel_left, Wanted, wanted, pending, is_busy, order_of, Entry, Book, history_of}
use Rattle.rams_model.specs.Packets.{hi}
use Rattle.rams_model.specs.Formats.{Request, Framed}
use Rattle.rams_model.specs.Laws.{source, IsQuietBurst, told_join, NoneIs, StandsWithout, is_accept_of, is_end_of, is_queued, ends_pending, is_event, is_sending, is_sending_to, sizes_sent, ticks_begun, ends_known}
use Rattle.service_laws.specs.book_laws.{LastAccept, AnsweredBy, IsTheBook, TellsTheHistory, notes_in, orders_in, notes_of, first_sendings, sending, AreNumberedFrom, IsPacketOf, is_repair_to, TellsTheFirst, BeginsAsAsked, IsOfTheSource, note_sends, order_sends, NamesWhatFollows, is_tick_start, may_be_sent, is_past_runs, BeginsWithATick, gains_in, IsOpenAtEachTick, line_of, Line, IsNumberAnswer, IsForeignNack, IsNackAnswered, AnswersStop, AnswersBye, CountsEachOnce, is_loss_of, ticks_since_told}
use Rattle.service_laws.specs.book_laws.Stops.{Stands, EndsAtItsStop, HasEnded, EndsBecause, StopsAsNamed}
use Rattle.service_laws.specs.book_laws.Refusals.{IsRequestRefused, IsStopRefused, IsByTable, IsAnsweredExactly}
use Rattle.service_laws.specs.byte_laws.{TellsSo, WasOrdered, CameAs, IsLiveAnswer, IsAnsweredWhole, IsRefusedWhole}
use Rattle.service_laws.specs.tick_laws.{HadItsTurn, IsAtItsEnd, clients_served, Fall, repairs_done, AreSomeOf, WasIdle, IsIdleAllThrough}
use Rattle.server_hub.specs.Served.{Served}
use Rattle.trace_loop.specs.trace_book.TraceText.{served_by}

-- This was the channel's history at some moment: its history is this, and what came later.
pub record WasSo (c : Served) (history : History) : Type 0 where
  pub later : History
  pub splits : history_of c.settings c.events ≡ later ++ history

-- A note was made at a moment of the channel, when these notes stood before it.
pub record WasMade (c : Served) (earlier : List Note) (made : Note) : Type 0 where
  pub packet : Option Held
  pub before : History
  pub was : WasSo c (noted made packet ∷ before)
  pub stood : notes_of before ≡ earlier

-- The channel has one lawful book of what came to it, and no other.
pub record HasOneBook (c : Served) : Type 0 where
  pub book : Book
  pub is_its : IsTheBook c.settings c.events book
  -- its notes and datagrams are those of the channel's history, in order
  pub tells : TellsTheHistory c.settings book
  -- each note in it was made at a moment, so that what follows is said of each
  pub made : (earlier later : List Note) (one : Note) → notes_in book ≡ earlier ++ (one ∷ later) → WasMade c earlier one

-- Each packet that the book sends is the retransmission of a live packet that came before, byte by byte.
pub record RetransmitsTheSource (s : Settings) (book : Book) : Type 0 where
  pub came : (later earlier : Book) (e : Entry) → book ≡ later ++ (e ∷ earlier) → All (IsOfTheSource s earlier) e.answer.orders
  -- a note that sends has one packet, and no packet is without such a note
  pub once : (later earlier : Book) (e : Entry) → book ≡ later ++ (e ∷ earlier) → filter_map note_sends e.answer.notes ≡ filter_map order_sends e.answer.orders

-- A burst is sent consecutive packets of the source, from the access point that its request has coming.
pub record SendsInOrder (s : Settings) (history : History) (client : ℕ) (a : LastAccept history client) : Type 0 where
  -- the first was the newest eligible access point that met the request
  pub begins : BeginsAsAsked s a.before client a.first
  -- they are numbered first, first + 1 and so on, without a gap
  pub numbers : AreNumberedFrom a.first (first_sendings client a.since)
  -- each is the source's packet of its number
  pub packets : All (IsPacketOf (source s history)) (first_sendings client a.since)
  -- the first has the sequence number that the Accept's RAMS-I names, and what follows has the ones after it
  pub named : NamesWhatFollows s history client a

-- A client can tell where its burst began, and is known while it has one.
pub record TellsWhereBurstsBegin (c : Served) : Type 0 where
  -- after each event the client of an open burst is known
  pub known : (later events : List Event) (client : ℕ) → c.events ≡ later ++ events → IsTrue (has_open c.settings client (history_of c.settings events))
      → IsTrue (is_among client (known (history_of c.settings events)))
  -- and who is sent a packet of a burst stayed known since the Accept
  pub stays : (client n sequence : ℕ) (packet : Option Held) (before : History) → WasSo c (noted (note.Burst client n sequence) packet ∷ before)
      → (a : LastAccept before client) → NoneIs (ends_known client) a.since
  -- each of the first 16,384 packets of a burst, before any repair, tells its first number to who has the Accept's RAMS-I
  pub first : (client n sequence : ℕ) (packet : Option Held) (before : History) → WasSo c (noted (note.Burst client n sequence) packet ∷ before)
      → (a : LastAccept before client) → length (first_sendings client a.since) < 16384 → NoneIs (is_repair_to client) a.since
      → (info : Info) → order_of c.settings a.before (note.Accept client a.first a.rate a.join) a.packet ≡ Some (orders.Info client info) → TellsTheFirst info n sequence a.first

-- What came is told truly, byte by byte.
pub record TellsWhatCame (c : Served) (book : Book) : Type 0 where
  -- a live packet is answered with one note, which says what became of it
  pub packets : (later earlier : Book) (e : Entry) (bytes : List ℕ) → book ≡ later ++ (e ∷ earlier) → e.event ≡ Live bytes → IsLiveAnswer c.settings earlier bytes e.answer
  -- of a feedback datagram just its messages are answered, in order, or it is none, which is noted
  pub datagrams : (later events : List Event) (client : ℕ) (bytes : List ℕ) → c.events ≡ later ++ (Feedback client bytes ∷ events)
      → IsAnsweredWhole c.settings events client bytes ⊎ IsRefusedWhole c.settings events client bytes

-- A burst stops where it was told to, and ends once.
pub record RespectsItsStop (s : Settings) (history : History) (client : ℕ) (a : LastAccept history client) : Type 0 where
  -- nothing is sent from the stop on
  pub below : (stop : ℕ) → Stands a.since (note.StopAt client stop) → All (λ x. x.n < stop) (first_sendings client a.since)
  -- what ended Stopped was sent whole, from its first packet up to its stop
  pub whole : Stands a.since (note.End client cause.Stopped) → EndsAtItsStop client a.first a.since
  -- it has ended or is open, and not both
  pub ends : HasEnded client a.since ⊎ IsTrue (has_open s client history)
  pub never_both : HasEnded client a.since → ¬ IsTrue (has_open s client history)
  -- it ends once, and nothing of it is sent after that
  pub over : (why : Cause) (end : Stands a.since (note.End client why))
      → (first_sendings client end.later ≡ []) × NoneIs (is_end_of client) end.later × NoneIs (is_end_of client) end.before

-- What the notes of bursts say is true.
pub record TellsBurstsTruly (c : Served) : Type 0 where
  -- a stop is the packet that the first RAMS-T of the burst named
  pub stops : (client stop : ℕ) (packet : Option Held) (before : History) → WasSo c (noted (note.StopAt client stop) packet ∷ before) → StopsAsNamed c.settings before client stop
  -- an End says why the burst ends
  pub ends : (client : ℕ) (why : Cause) (packet : Option Held) (before : History) → WasSo c (noted (note.End client why) packet ∷ before)
      → (a : LastAccept before client) × EndsBecause c.settings before client a.first a.since why
  -- a client's burst begins only when none of it is open
  pub apart : (client first rate join : ℕ) (packet : Option Held) (before : History) → WasSo c (noted (note.Accept client first rate join) packet ∷ before)
      → ¬ IsTrue (has_open c.settings client before)

-- Nothing is sent unasked.
pub record SendsWhatIsAsked (c : Served) : Type 0 where
  -- a packet of a burst goes to a client that was accepted, and whose burst hasn't ended
  pub bursts : (client n sequence : ℕ) (packet : Option Held) (before : History) → WasSo c (noted (note.Burst client n sequence) packet ∷ before)
      → StandsWithout (is_accept_of client) (is_end_of client) before
  -- a repair was queued for a NACK, and was neither sent nor given up since
  pub repairs : (client n sequence : ℕ) (packet : Option Held) (before : History) → WasSo c (noted (note.Repair client n sequence) packet ∷ before)
      → StandsWithout (is_queued client n) (ends_pending client n) before
  -- no repair goes to a client whose open burst has sent nothing yet
  pub no_repair_first : (client n sequence : ℕ) (packet : Option Held) (before : History) (b : Burst) → WasSo c (noted (note.Repair client n sequence) packet ∷ before)
      → open_burst c.settings client before ≡ Some b → b.sent ≢ []
  -- a packet that is sent was held then, under its number
  pub held : (client n sequence : ℕ) (packet : Option Held) (before : History)
      → WasSo c (noted (note.Burst client n sequence) packet ∷ before) ⊎ WasSo c (noted (note.Repair client n sequence) packet ∷ before)
      → IsPacketOf (hold c.settings before) (sending n packet)
  -- an event that is no tick sends no packet
  pub ticks : (heard : Heard) (now before : History) → WasSo c (now ++ (began heard ∷ before)) → heard ≢ tick → NoneIs is_event now → sizes_sent is_sending now ≡ 0

-- What is sent in a tick, of which this has been noted so far.
pub record IsWithinBudgets (s : Settings) (now before : History) : Type 0 where
  -- a client is sent at most its burst's rate and what the burst kept, or `burst` where it has none
  pub clients : (k : ℕ) → sizes_sent (is_sending_to k) now ≤ may_be_sent s (open_burst s k before)
  -- so a client with a burst is sent at most the rate and the depth
  pub rates : (k : ℕ) (b : Burst) → open_burst s k before ≡ Some b → sizes_sent (is_sending_to k) now ≤ b.rate + s.channel.depth
  -- all clients together are sent at most the share and what the channel kept
  pub channel : sizes_sent is_sending now ≤ s.channel.share + min s.channel.swell (channel_left s before)
  -- so at most the share and the swell
  pub most : sizes_sent is_sending now ≤ s.channel.share + s.channel.swell

-- What is sent over ticks that follow one another.
pub record IsWithinBudgetsOverTicks (s : Settings) (stretch before : History) : Type 0 where
  -- a client is sent at most what each tick gives it, and the depth
  pub clients : (k : ℕ) → sizes_sent (is_sending_to k) stretch ≤ gains_in s k stretch before + s.channel.depth
  -- so while its burst is open at one rate at most as many times the rate as there are ticks, and the depth
  pub rates : (k rate : ℕ) → IsOpenAtEachTick s k rate stretch before → sizes_sent (is_sending_to k) stretch ≤ ticks_begun stretch * rate + s.channel.depth
  -- and however its bursts change, as many times `burst`, and the depth
  pub most : (k : ℕ) → sizes_sent (is_sending_to k) stretch ≤ ticks_begun stretch * s.channel.burst + s.channel.depth
  -- all clients together are sent at most as many times the share, and the swell
  pub channel : sizes_sent is_sending stretch ≤ ticks_begun stretch * s.channel.share + s.channel.swell

-- What is sent stays within the budgets of each client and of the channel, in each tick and over ticks.
pub record KeepsBudgets (c : Served) : Type 0 where
  pub in_a_tick : (now before : History) → WasSo c (now ++ (began tick ∷ before)) → NoneIs is_tick_start now → IsWithinBudgets c.settings now before
  pub over_ticks : (stretch before : History) → WasSo c (stretch ++ before) → BeginsWithATick stretch → IsWithinBudgetsOverTicks c.settings stretch before
  -- the rates and depths of the open bursts are together at most the share
  pub bursts_fit : (history : History) → WasSo c history → reserved c.settings history ≤ c.settings.channel.share
  -- and leave the reserve to repairs, where a burst is open
  pub reserve_is_left : (history : History) (k : ℕ) → WasSo c history → IsTrue (has_open c.settings k history)
      → reserved c.settings history + c.settings.channel.reserve ≤ c.settings.channel.share
  -- a tick sends the packets of its bursts before all repairs
  pub runs_first : (client n sequence : ℕ) (packet : Option Held) (now before : History) → WasSo c (noted (note.Burst client n sequence) packet ∷ now ++ (began tick ∷ before))
      → NoneIs is_tick_start now → NoneIs is_past_runs now
  -- and none of them lacks the channel's budget: what a burst has left is at most what the channel has left
  pub covered : (k : ℕ) (b : Burst) (now before : History) → WasSo c (now ++ (began tick ∷ before)) → NoneIs is_past_runs now
      → open_burst c.settings k (now ++ (began tick ∷ before)) ≡ Some b → b.left ≤ channel_left c.settings (now ++ (began tick ∷ before))

-- Each refusal's cause was true as it was made, and no earlier line of its table was.
pub record RefusesTruly (c : Served) : Type 0 where
  -- of a RAMS-R, or of a RAMS-T that doesn't read
  pub refusals : (k code : ℕ) (packet : Option Held) (before : History) → WasSo c (noted (note.Refuse k code) packet ∷ before)
      → IsRequestRefused c.settings k before code ⊎ IsStopRefused k before code
  -- of a number that a NACK names, and so of each that is queued
  pub numbers : (one : Note) (line : Line) (packet : Option Held) (before : History) → line_of one ≡ Some line → WasSo c (noted one packet ∷ before)
      → (k : ℕ) × IsNumberAnswer c.settings k before one
  -- of a NACK of another media source
  pub foreign : (k : ℕ) (packet : Option Held) (before : History) → WasSo c (noted (note.ForeignNack k) packet ∷ before) → IsForeignNack c.settings k before

-- Each message is answered by the first line of its table that applies: a RAMS-R for which no line before the last does is accepted.
pub record AnswersByTheTable (c : Served) : Type 0 where
  pub requests : (k sender : ℕ) (request : Result Request TlvFault) (before : History) (was : WasSo c (told k (asks sender request) ∷ before))
      → IsAnsweredExactly c.settings k (told k (asks sender request) ∷ before) request was.later
  -- and nothing is accepted, changed or told again but for a request
  pub accepts : (k first rate join : ℕ) (packet : Option Held) (before : History) → WasSo c (noted (note.Accept k first rate join) packet ∷ before)
      → IsByTable c.settings k before (note.Accept k first rate join)
  pub updates : (k rate join : ℕ) (packet : Option Held) (before : History) → WasSo c (noted (note.Update k rate join) packet ∷ before)
      → IsByTable c.settings k before (note.Update k rate join)
  pub agains : (k : ℕ) (packet : Option Held) (before : History) → WasSo c (noted (note.Again k) packet ∷ before) → IsByTable c.settings k before (note.Again k)
  -- a NACK is answered number by number, in order
  pub nacks : (k media sender : ℕ) (numbers : List ℕ) (before : History) (was : WasSo c (told k (nack media sender numbers) ∷ before))
      → IsNackAnswered c.settings k media numbers (told k (nack media sender numbers) ∷ before) was.later
  -- a RAMS-T and a BYE are answered for their one cause
  pub stops : (k : ℕ) (stop : Result Stop TlvFault) (before : History) (was : WasSo c (told k (stops stop) ∷ before))
      → (notes : List Note) × AnsweredBy was.later notes × AnswersStop c.settings k (told k (stops stop) ∷ before) stop notes
  pub byes : (k : ℕ) (p : Framed) (before : History) (was : WasSo c (told k (bye p) ∷ before))
      → (notes : List Note) × AnsweredBy was.later notes × AnswersBye c.settings k (told k (bye p) ∷ before) p notes

-- A quiet burst has caught up with the source at the time that its client was told.
pub record KeepsJoinTimes (c : Served) : Type 0 where
  -- it never ends because its next packet is lost
  pub never_lost : (history : History) (k : ℕ) → WasSo c history → (accept : LastAccept history k)
      → IsQuietBurst c.settings k accept.first history → NoneIs (is_loss_of k) accept.since
  -- after each tick from that time on an open one is sent next what comes after all that is held
  pub caught_up : (later events : List Event) (k : ℕ) → c.events ≡ later ++ (Tick ∷ events) → let history = history_of c.settings (Tick ∷ events) in (accept : LastAccept history k) (b : Burst)
      → open_burst c.settings k history ≡ Some b → IsQuietBurst c.settings k accept.first history → told_join k history ≤ ticks_since_told k history
      → next b ≡ hi (hold c.settings history)

-- What each note tells its client goes out, byte by byte, and nothing else does.
pub record TellsItsClients (c : Served) (book : Book) : Type 0 where
  -- a note's RAMS-I has the code, the times and the rate of the note; a note that tells nothing has none
  pub notes : (one : Note) (packet : Option Held) (before : History) → WasSo c (noted one packet ∷ before) → TellsSo c.settings before one (order_of c.settings before one packet)
  -- whatever goes out was ordered for a note
  pub orders : (o : Order) → Contains (orders_in book) o → WasOrdered c.settings o

-- A tick sends all that it may, in order, and forgets whoever was idle for long enough.
pub record ServesEachTick (c : Served) (events : List Event) : Type 0 where
  -- a repair that still waits after it had its turn, and didn't fit
  pub waits : (w : Wanted) → Contains (pending (history_of c.settings (Tick ∷ events))) w → HadItsTurn c.settings (history_of c.settings events) (history_of c.settings (Tick ∷ events)) w
  -- the next packet of an open burst isn't held, or isn't before the stop, or didn't fit
  pub runs : (k : ℕ) (b : Burst) → open_burst c.settings k (history_of c.settings (Tick ∷ events)) ≡ Some b → IsAtItsEnd (hold c.settings (history_of c.settings events)) b
  -- bursts by rising client, and repairs in the order in which they were asked for
  pub clients : Fall (clients_served (history_of c.settings (Tick ∷ events)))
  pub repairs : AreSomeOf (repairs_done (history_of c.settings (Tick ∷ events))) (pending (history_of c.settings events))

-- What ticks give up and forget is as it should be.
pub record GivesUpTruly (c : Served) : Type 0 where
  -- a repair that is gone waited, and its packet isn't held
  pub gone : (client n : ℕ) (packet : Option Held) (before : History) → WasSo c (noted (note.Gone client n) packet ∷ before)
      → Contains (pending before) (wanted client n) × ((h : Held) → Contains (hold c.settings before) h → h.n ≡ n → ⊥)
  -- a client that is forgotten was idle for as many ticks as the settings say
  pub sooner : (k : ℕ) (packet : Option Held) (before : History) → WasSo c (noted (note.Forgot k) packet ∷ before) → WasIdle c.settings k before
  -- and one that is known between two events was so for fewer
  pub later : (after events : List Event) (k : ℕ) (stretch rest : History) → c.events ≡ after ++ events → history_of c.settings events ≡ stretch ++ rest
      → IsIdleAllThrough c.settings k stretch rest → is_busy c.settings k (history_of c.settings events) ≡ false → is_among k (known (history_of c.settings events)) ≡ true
      → ticks_begun stretch < c.settings.channel.idle

-- what came is made of bytes
abbrev pub IsOfBytes : Event → Type 0
IsOfBytes (Live bytes) = All (λ b. b < 256) bytes
IsOfBytes (Feedback client bytes) = All (λ b. b < 256) bytes
IsOfBytes Tick = Unit {0}

-- What a channel promises.
pub record KeepsPromises (c : Served) : Type 0 where
  pub settings : checked c.settings ≡ Ok c.settings
  pub book : HasOneBook c
  -- as each packet that came was made of bytes, what is sent of it is that packet, byte by byte
  pub bytes : All IsOfBytes c.events
  pub datagrams : RetransmitsTheSource c.settings book.book
  -- whoever was accepted has a last Accept, of which the next two speak
  pub accepted : (history : History) (client : ℕ) → WasSo c history → StandsWithout (is_accept_of client) (λ i. Bool.false) history → LastAccept history client
  pub bursts : (history : History) (client : ℕ) → WasSo c history → (a : LastAccept history client) → SendsInOrder c.settings history client a
  pub firsts : TellsWhereBurstsBegin c
  pub stops : (history : History) (client : ℕ) → WasSo c history → (a : LastAccept history client) → RespectsItsStop c.settings history client a
  pub ends : TellsBurstsTruly c
  pub asked : SendsWhatIsAsked c
  pub budgets : KeepsBudgets c
  pub refusals : RefusesTruly c
  pub answers : AnswersByTheTable c
  -- known clients, open bursts and pending repairs are each counted once
  pub counts : (history : History) → WasSo c history → CountsEachOnce c.settings history
  pub join_times : KeepsJoinTimes c
  -- what is held at a moment came in the channel's live packets, byte by byte
  pub held : (history : History) → WasSo c history → (h : Held) → Contains (hold c.settings history) h → CameAs c.settings c.events h
  pub came : TellsWhatCame c book.book
  pub tells : TellsItsClients c book.book
  pub ticks : (later events : List Event) → c.events ≡ later ++ (Tick ∷ events) → ServesEachTick c events
  pub given_up : GivesUpTruly c

-- Whatever came to a channel with lawful settings, it keeps its promises, if that is made of bytes.
abbrev pub ChannelsKeepTheirPromises : Type 0
ChannelsKeepTheirPromises = (c : Served) → checked c.settings ≡ Ok c.settings → All IsOfBytes c.events → KeepsPromises c

-- Whatever the trace, each channel that it is served by keeps its promises.
abbrev pub TracesAreServedLawfully : Type 0
TracesAreServedLawfully = (trace : List ℕ) → All KeepsPromises (served_by trace)
