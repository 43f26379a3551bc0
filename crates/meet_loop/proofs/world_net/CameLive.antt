-- Live packets as they came: what is kept of them is what the world's channels have.
use Rattle.std.proofs.Common.{◌≡◌, ℕ, Bool, true, false, ◌&&◌, not, cond, eqb, ltb, length, arith, List, [], ◌∷◌, Option, None, Some, option_map, Result, Ok, Err, refl, sym, ap, ◌∙◌}
use Rattle.std.proofs.lemmas.Bool.{eqb-true}
use Rattle.std.proofs.lemmas.Bool.Decides.{nat_tests}
use Rattle.rams_model.specs.declared.{Event.Event, RtpFault.RtpFault, LiveNote.LiveNote, Note.TheVariants.Live as LiveNoted}
use Rattle.rams_model.specs.declared.Channel.{Channel}
use Rattle.rams_model.specs.declared.Event.TheVariants as event
use Rattle.rams_model.specs.declared.LiveNote.TheVariants.{Took, Restart, Late, Twice, Jump, ForeignSsrc, ForeignType, TooBig, Bad}
use Rattle.rams_model.specs.Formats.{Packet, packet_at}
use Rattle.rams_model.specs.Packets.{live_note}
use Rattle.rams_model.specs.Service.{Settings, Heard, live, dropped, feedback, unframed, tick, stream, heard_of, heard_live, heard_packet, arrival, history_of, after_hearing, newest_notes}
use Rattle.server_hub.specs.declared.HubEvent.TheVariants as hub
use Rattle.server_hub.specs.{id_of, with_event, answer_to, channel_of, after_event, told_of, told_to, answers_said}
use Rattle.server_hub.specs.Served.{Served}
use Rattle.meet_loop.specs.world_laws.{takes, hears_number, as_it_came}
use Rattle.meet_loop.proofs.world_laws.Right.{found_in_map, one_event}
use Rattle.meet_loop.specs.world_net.{number_taken, number_in, taken_number, came_at, Keeps}

-- ---- one channel

-- beside what came before, a packet that was taken under a number
abbrev came_more : Option ℕ → List ℕ → ℕ → Option (List ℕ) → Option (List ℕ)
came_more None bytes n old = old
came_more (Some m) bytes n old = cond (eqb m n) (Some bytes) old

abbrev taken_by : LiveNote → Option ℕ
taken_by note = number_taken (LiveNoted note ∷ [])

taken_live : (note : LiveNote) (bytes : List ℕ) (n : ℕ) (old : Option (List ℕ)) → cond (takes n note) (Some bytes) old ≡ came_more (taken_by note) bytes n old
taken_live (Took m) bytes n old = refl
taken_live (Restart m) bytes n old = refl
taken_live Late bytes n old = refl
taken_live Twice bytes n old = refl
taken_live Jump bytes n old = refl
taken_live ForeignSsrc bytes n old = refl
taken_live ForeignType bytes n old = refl
taken_live TooBig bytes n old = refl
taken_live (Bad fault) bytes n old = refl

-- What is heard of a live packet: it is live, or dropped with a note that takes nothing.
abbrev HearsLive : Heard → Type 0
HearsLive (live a) = Unit {0}
HearsLive (dropped note) = taken_by note ≡ None
HearsLive _ = ⊥

packet_heard : (c : Channel) (r : Result Packet RtpFault) → HearsLive (heard_packet c r)
packet_heard c (Err fault) = refl
packet_heard c (Ok p) = by (eqb p.ssrc c.ssrc) (eqb p.payload_type c.pt)
  where
    by : (a b : Bool) → HearsLive (cond (not a) (dropped ForeignSsrc) (cond (not b) (dropped ForeignType) (live (arrival c p))))
    by false b = refl
    by true false = refl
    by true true = tt

live_heard : (c : Channel) (bytes : List ℕ) → HearsLive (heard_live c bytes)
live_heard c bytes = by (ltb 1470 (length bytes))
  where
    by : (b : Bool) → HearsLive (cond b (dropped TooBig) (heard_packet c (packet_at bytes)))
    by true = refl
    by false = packet_heard c (packet_at bytes)

heard_more : (s : Settings) (events : List Event) (h : Heard) (bytes : List ℕ) (n : ℕ) (old : Option (List ℕ)) → HearsLive h
    → cond (hears_number s (stream s (history_of s events)) n h) (Some bytes) old ≡ came_more (number_taken (newest_notes (after_hearing s h (history_of s events)) [])) bytes n old
unfolding after_hearing newest_notes
heard_more s events (live a) bytes n old is = taken_live (live_note s.channel.window (stream s (history_of s events)) a.sequence) bytes n old
heard_more s events (dropped note) bytes n old is = sym (ap (λ (o : Option ℕ). came_more o bytes n old) is)
heard_more s events (feedback client messages) bytes n old is = absurd is
heard_more s events (unframed client fault) bytes n old is = absurd is
heard_more s events tick bytes n old is = absurd is

-- after a live packet
one_more : (c : Served) (bytes : List ℕ) (n : ℕ) → as_it_came c.settings (event.Live bytes ∷ c.events) n
    ≡ came_more (number_taken (answer_to (event.Live bytes) c).notes) bytes n (as_it_came c.settings c.events n)
unfolding as_it_came history_of heard_of
one_more c bytes n = heard_more c.settings c.events (heard_live c.settings.channel bytes) bytes n (as_it_came c.settings c.events n) (live_heard c.settings.channel bytes)

-- ---- all channels

-- a channel that is found has its number
pub found_id : (id : ℕ) (channels : List Served) (c : Served) → channel_of id channels ≡ Some c → id_of c ≡ id
found_id id [] c e = absurd cc
found_id id (k ∷ channels) c e = by (eqb (id_of k) id) refl (found_id id channels c) e
  where
    by : (b : Bool) → eqb (id_of k) id ≡ b → (channel_of id channels ≡ Some c → id_of c ≡ id) → cond b (Some k) (channel_of id channels) ≡ Some c → id_of c ≡ id
    by true t more is = let same : k ≡ c = cc is in ap id_of (sym same) ∙ eqb-true (id_of k) id t
    by false t more is = more is

keeps_id : (id : ℕ) (e : Event) (c : Served) → id_of (one_event id e c) ≡ id_of c
keeps_id id e c = by (eqb (id_of c) id)
  where
    by : (b : Bool) → id_of (cond b (with_event e c) c) ≡ id_of c
    by true = refl
    by false = refl

both_ways : (a b : ℕ) → eqb a b ≡ eqb b a
both_ways a b = grind (arith, nat_tests)

-- what came of a channel, after an event of the channel of some number
came_after : (i id n : ℕ) (bytes : List ℕ) (o : Option Served) (taken : Option ℕ) (old new : Option (List ℕ)) → ((c : Served) → o ≡ Some c → id_of c ≡ i)
    → (eqb id i ≡ true → taken ≡ number_in (answers_said (told_of id (option_map (answer_to (event.Live bytes)) o))))
    → old ≡ came_at o n → new ≡ cond (eqb id i) (came_more taken bytes n old) old → new ≡ came_at (option_map (one_event id (event.Live bytes)) o) n
came_after i id n bytes None taken old new its is was now = now ∙ by (eqb id i) refl
  where
    by : (b : Bool) → eqb id i ≡ b → cond b (came_more taken bytes n old) old ≡ None
    by true t = ap (λ (o : Option ℕ). came_more o bytes n old) (is t) ∙ was
    by false t = was
came_after i id n bytes (Some c) taken old new its is was now = now ∙ by (eqb id i) refl
  where
    test : eqb (id_of c) id ≡ eqb id i
    test = ap (λ (k : ℕ). eqb k id) (its c refl) ∙ both_ways i id

    by : (b : Bool) → eqb id i ≡ b → cond b (came_more taken bytes n old) old ≡ came_at (Some (one_event id (event.Live bytes) c)) n
    by true t =
        ap (λ (o : Option ℕ). came_more o bytes n old) (is t)
        ∙ ap (λ (w : Option (List ℕ)). came_more (number_taken (answer_to (event.Live bytes) c).notes) bytes n w) was
        ∙ sym (one_more c bytes n)
        ∙ ap (λ (b : Bool). came_at (Some (cond b (with_event (event.Live bytes) c) c)) n) (sym (test ∙ t))
    by false t = was ∙ ap (λ (b : Bool). came_at (Some (cond b (with_event (event.Live bytes) c) c)) n) (sym (test ∙ t))

-- what is kept is as before, or has one packet more
keeps_one : (id : ℕ) (bytes : List ℕ) (taken : Option ℕ) (old new : (ℕ → ℕ → Option (List ℕ))) (i n : ℕ) → Keeps id bytes taken old new
    → new i n ≡ cond (eqb id i) (came_more taken bytes n (old i n)) (old i n)
keeps_one id bytes None old new i n k = k i n ∙ by (eqb id i)
  where
    by : (b : Bool) → old i n ≡ cond b (old i n) (old i n)
    by true = refl
    by false = refl
keeps_one id bytes (Some m) old new i n k = k i n ∙ by (eqb id i) (eqb m n)
  where
    by : (a b : Bool) → cond (a && b) (Some bytes) (old i n) ≡ cond a (cond b (Some bytes) (old i n)) (old i n)
    by true b = refl
    by false b = refl

pub live_kept : (channels : List Served) (id : ℕ) (bytes : List ℕ) (old new : (ℕ → ℕ → Option (List ℕ))) → ((i n : ℕ) → old i n ≡ came_at (channel_of i channels) n)
    → Keeps id bytes (taken_number (told_to (hub.Live id bytes) channels)) old new → (i n : ℕ) → new i n ≡ came_at (channel_of i (after_event (hub.Live id bytes) channels)) n
live_kept channels id bytes old new was keeps i n =
    came_after i id n bytes (channel_of i channels) (taken_number (told_to (hub.Live id bytes) channels)) (old i n) (new i n) (found_id i channels)
    (λ t. ap (λ (k : ℕ). number_in (answers_said (told_of id (option_map (answer_to (event.Live bytes)) (channel_of k channels))))) (eqb-true id i t)) (was i n)
    (keeps_one id bytes (taken_number (told_to (hub.Live id bytes) channels)) old new i n keeps)
    ∙ ap (λ (o : Option Served). came_at o n) (sym (found_in_map (one_event id (event.Live bytes)) (keeps_id id (event.Live bytes)) i channels))

-- other events bring no live packet
feedback_came : (id n client : ℕ) (bytes : List ℕ) (o : Option Served) → came_at (option_map (one_event id (event.Feedback client bytes)) o) n ≡ came_at o n
unfolding as_it_came
feedback_came id n client bytes None = refl
feedback_came id n client bytes (Some c) = by (eqb (id_of c) id)
  where
    by : (b : Bool) → came_at (Some (cond b (with_event (event.Feedback client bytes) c) c)) n ≡ came_at (Some c) n
    by true = refl
    by false = refl

tick_came : (n : ℕ) (o : Option Served) → came_at (option_map (with_event event.Tick) o) n ≡ came_at o n
unfolding as_it_came
tick_came n None = refl
tick_came n (Some c) = refl

pub feedback_kept : (channels : List Served) (id client : ℕ) (bytes : List ℕ) (i n : ℕ) → came_at (channel_of i channels) n ≡ came_at (channel_of i (after_event (hub.Feedback id client bytes) channels)) n
feedback_kept channels id client bytes i n =
    sym (ap (λ (o : Option Served). came_at o n) (found_in_map (one_event id (event.Feedback client bytes)) (keeps_id id (event.Feedback client bytes)) i channels)
    ∙ feedback_came id n client bytes (channel_of i channels))

pub tick_kept : (channels : List Served) (i n : ℕ) → came_at (channel_of i channels) n ≡ came_at (channel_of i (after_event hub.Tick channels)) n
tick_kept channels i n =
    sym (ap (λ (o : Option Served). came_at o n) (found_in_map (with_event event.Tick) (λ c. refl) i channels) ∙ tick_came n (channel_of i channels))
