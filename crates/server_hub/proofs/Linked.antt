-- What a channel sends and keeps with each event, and what all channels do.
use Rattle.std.proofs.Common.{◌≡◌, ◌≢◌, ℕ, ◌+◌, ◌*◌, ◌≤◌, false, cond, List, [], ◌∷◌, ◌++◌, Option, Some, None, length, map, option_map, eqb, ltb, refl, sym, ◌∙◌, ap, subst, arith}
use Rattle.std.specs.Prelude.{◌==◌, not, if◌then◌else◌, sum_by, Result, Ok, Err}
use Rattle.std.proofs.lemmas.Bool.{true≢false, cond_both}
use Rattle.std.proofs.lemmas.List.Sums.{sum_by-cons}
use Rattle.rams_model.specs.declared.{Event.Event, Channel.Channel, FrameFault.FrameFault, RtpFault.RtpFault}
use Rattle.rams_model.specs.declared.Event.TheVariants as event
use Rattle.rams_model.specs.Service.{Settings, Heard, live, dropped, tick, arrival, heard_packet, heard_feedback, heard_of, began, told, noted, History, channel_left, newest_orders, history_of}
use Rattle.rams_model.specs.declared.LiveNote.TheVariants.{TooBig, ForeignSsrc, ForeignType}
use Rattle.rams_model.specs.Formats.{Packet, packet_at, Framed, framed}
use Rattle.rams_model.specs.Laws.{NoneIs, is_event, is_sending, sizes_sent, ticks_begun}
use Rattle.rams_model.proofs.Legal.{is_tick, IsLegal}
use Rattle.rams_model.proofs.Legality.{legal_history}
use Rattle.rams_model.proofs.Adding.{adds_hearing}
use Rattle.service_laws.proofs.book_laws.Windows.{channel_within}
use Rattle.service_laws.proofs.book_laws.InTicks.{only_ticks}
use Rattle.server_hub.specs.declared.event.At.{At}
use Rattle.server_hub.specs.{id_of, with_event, answer_to, after_event_of, answer_at, answers_to_tick, after_tick, told_of, size_of, bytes_of, bytes_of_all, kept, all_kept, all_shares, answers_said}
use Rattle.server_hub.specs.Served.{Served}
use Rattle.server_hub.proofs.Ordered.{orders_bytes}

-- items without an event have no tick
no_ticks : (now : History) → NoneIs is_event now → ticks_begun now ≡ 0
no_ticks [] none = refl
no_ticks (began heard ∷ now) none = absurd (true≢false none.0)
no_ticks (told client message ∷ now) none = no_ticks now none.1
no_ticks (noted note packet ∷ now) none = no_ticks now none.1

-- what an event has a channel send, with what is left of its budget then
record Spends (s : Settings) (heard : Heard) (before after : History) (bytes : ℕ) : Type 0 where
  now : History
  is_after : after ≡ now ++ began heard ∷ before
  none : NoneIs is_event now
  legal : IsLegal s (now ++ began heard ∷ before)
  sends : bytes ≡ sizes_sent is_sending now

spends : (e : Event) (c : Served) → Spends c.settings (heard_of c.settings.channel e) (history_of c.settings c.events) (history_of c.settings (e ∷ c.events)) (bytes_of (answer_to e c))
unfolding history_of
spends e c =
    let s = c.settings in
    let heard = heard_of s.channel e in
    let before = history_of s c.events in
    let a = adds_hearing s heard before in
    let legal = subst (IsLegal s) a.splits (legal_history s (e ∷ c.events)) in
    record {
      now = a.later;
      is_after = a.splits;
      none = a.none;
      legal = legal;
      sends =
          ap (λ (h : History). sum_by size_of (newest_orders s h [])) a.splits ∙ orders_bytes s heard a.later before [] legal a.none ∙ omega arith;
    }

-- what a tick takes of the share and of what was kept
pub tick_takes : (c : Served) → bytes_of (answer_to event.Tick c) + kept (with_event event.Tick c) ≤ c.settings.channel.share + kept c
unfolding heard_of channel_left
tick_takes c =
    let s = c.settings in
    let before = history_of s c.events in
    let p = spends event.Tick c in
    let left : channel_left s (history_of s (event.Tick ∷ c.events)) ≡ channel_left s (p.now ++ began tick ∷ before) = ap (channel_left s) p.is_after in
    let none = ap (λ (k : ℕ). k * s.channel.share) (no_ticks p.now p.none) in
    let within = channel_within s p.now (began tick ∷ before) p.legal in
    omega (arith, p.sends, left, none, within)

-- other events take nothing
left_as : (s : Settings) (heard : Heard) (history : History) → is_tick heard ≡ false → channel_left s (began heard ∷ history) ≡ channel_left s history
unfolding channel_left
left_as s tick history other = absurd cc
left_as s heard history other = refl

not_tick : (heard : Heard) → is_tick heard ≡ false → heard ≢ tick
not_tick heard other same = true≢false (sym (ap is_tick same) ∙ other)

record TakesNothing (e : Event) (c : Served) : Type 0 where
  sends : bytes_of (answer_to e c) ≡ 0
  keeps : kept (with_event e c) ≤ kept c

takes_nothing : (e : Event) (c : Served) → is_tick (heard_of c.settings.channel e) ≡ false → TakesNothing e c
takes_nothing e c other =
    let s = c.settings in
    let heard = heard_of s.channel e in
    let before = history_of s c.events in
    let p = spends e c in
    let none : sizes_sent is_sending p.now ≡ 0 = only_ticks s heard p.now before p.legal (not_tick heard other) p.none in
    let left : channel_left s (history_of s (e ∷ c.events)) ≡ channel_left s (p.now ++ began heard ∷ before) = ap (channel_left s) p.is_after in
    let ticks = ap (λ (k : ℕ). k * s.channel.share) (no_ticks p.now p.none) in
    let within = channel_within s p.now (began heard ∷ before) p.legal in
    let as_was = left_as s heard before other in
    record { sends = p.sends ∙ none; keeps = omega (arith, left, ticks, within, as_was) }

-- a live packet and a feedback datagram are no ticks
packet_no_tick : (c : Channel) (r : Result Packet RtpFault) → is_tick (heard_packet c r) ≡ false
packet_no_tick c (Err fault) = refl
packet_no_tick c (Ok p) =
    cond_both (not (eqb p.ssrc c.ssrc)) (dropped ForeignSsrc) (cond (not (eqb p.payload_type c.pt)) (dropped ForeignType) (live (arrival c p))) (λ h. is_tick h ≡ false) (λ t. refl)
    (λ f. cond_both (not (eqb p.payload_type c.pt)) (dropped ForeignType) (live (arrival c p)) (λ h. is_tick h ≡ false) (λ t. refl) (λ g. refl))

pub live_no_tick : (c : Channel) (bytes : List ℕ) → is_tick (heard_of c (event.Live bytes)) ≡ false
unfolding heard_of
live_no_tick c bytes =
    cond_both (ltb 1470 (length bytes)) (dropped TooBig) (heard_packet c (packet_at bytes)) (λ h. is_tick h ≡ false) (λ t. refl) (λ f. packet_no_tick c (packet_at bytes))

framed_no_tick : (client : ℕ) (r : Result (List Framed) FrameFault) → is_tick (heard_feedback client r) ≡ false
framed_no_tick client (Err fault) = refl
framed_no_tick client (Ok packets) = refl

pub feedback_no_tick : (c : Channel) (client : ℕ) (bytes : List ℕ) → is_tick (heard_of c (event.Feedback client bytes)) ≡ false
unfolding heard_of
feedback_no_tick c client bytes = framed_no_tick client (framed bytes)

-- a tick of all channels
pub all_tick : (cs : List Served) → bytes_of_all (answers_to_tick cs) + all_kept (after_tick cs) ≤ all_shares cs + all_kept cs
all_tick [] = omega arith
all_tick (c ∷ cs) =
    omega (
      arith,
      tick_takes c,
      all_tick cs,
      sum_by-cons (λ (x : At). bytes_of x.answer) (answer_at event.Tick c) (answers_to_tick cs),
      sum_by-cons kept (with_event event.Tick c) (after_tick cs),
      sum_by-cons kept c cs,
      sum_by-cons (λ (x : Settings). x.channel.share) c.settings (map (λ x. x.settings) cs),
    )

-- an event of one channel
pub one_keeps : (id : ℕ) (e : Event) (cs : List Served) → ((c : Served) → is_tick (heard_of c.settings.channel e) ≡ false) → all_kept (after_event_of id e cs) ≤ all_kept cs
one_keeps id e [] other = omega arith
one_keeps id e (c ∷ cs) other =
    let after = if id_of c == id then with_event e c else c in
    let this : kept after ≤ kept c =
    cond_both (id_of c == id) (with_event e c) c (λ x. kept x ≤ kept c) (λ t. (takes_nothing e c (other c)).keeps) (λ f. omega arith) in
    omega (arith, this, one_keeps id e cs other, sum_by-cons kept after (after_event_of id e cs), sum_by-cons kept c cs)

pub one_sends : (id : ℕ) (e : Event) (o : Option Served) → ((c : Served) → is_tick (heard_of c.settings.channel e) ≡ false)
    → bytes_of_all (answers_said (told_of id (option_map (answer_to e) o))) ≡ 0
one_sends id e None other = refl
one_sends id e (Some c) other = let sends = (takes_nothing e c (other c)).sends in omega (arith, sends)
