-- Parts that stand for some events stand for one more, where each is what that event makes of it.
use Rattle.std.proofs.Common.{◌≡◌, ℕ, ◌+◌, ◌≤◌, not, List, ◌∷◌, length, None, refl, ap, sym, ◌∙◌, subst, arith, eqb, ltb, []}
use Rattle.std.specs.Prelude.{Result, Ok, Err}
use Rattle.std.specs.List.{AllByRecursion as Each}
use Rattle.std.proofs.lemmas.Bool.{cond_both}
use Rattle.std.proofs.lemmas.List.Elements.{All-from_recursion}
use Rattle.rams_model.specs.declared.{Channel.Channel, Event.Event, FrameFault.FrameFault, RtpFault.RtpFault, LiveNote.LiveNote}
use Rattle.rams_model.specs.declared.{LiveNote.TheVariants.TooBig, Note.TheVariants.Live as LiveNoted}
use Rattle.rams_model.specs.declared.Event.TheVariants.{Live, Feedback, Tick}
use Rattle.rams_model.specs.Service.{Settings, messages, Heard, live, dropped, feedback, unframed, tick, heard_packet, heard_live, heard_feedback, heard_of, began, noted, History, arrivals, known, opened, sendings, ssrc, bursts, Wanted, pending, quiet_ticks, reserved, channel_left, after, after_hearing, history_of}
use Rattle.rams_model.specs.Formats.{Packet, packet_at, Framed, framed}
use Rattle.channel_config.specs.{IsLawful}
use Rattle.channel_cache.specs.{arrivals_after}
use Rattle.channel_cache.specs.Seen as caches
use Rattle.channel_cache.proofs.Booked.{noted_so}
use Rattle.reckoning.specs.link_budget.{amounts}
use Rattle.client_table.specs.Clients.{Clients}
use Rattle.rams_model.proofs.Induction.{arrivals_of_event}
use Rattle.channel_parts.specs.declared.parts.Parts.{Parts}
use Rattle.channel_parts.specs.{HaveLowNumbers, IsTable, IsQueue, IsBudget, IsCache, StandsFor, GoOn, OtherEventsLeaveTheCache, LivePacketsChangeTheCache}
use Rattle.channel_parts.proofs.Knowing.{OfKnown, pending_known}
use Rattle.channel_parts.proofs.Small.{reads_low}
use Rattle.rams_model.proofs.Legality.{legal_history}

-- a tick and a datagram bring no live packet
pub arrivals_of_tick : (s : Settings) (events : List Event) → arrivals (history_of s (Tick ∷ events)) ≡ arrivals (history_of s events)
unfolding history_of after_hearing heard_of arrivals
arrivals_of_tick s events = arrivals_of_event s tick (history_of s events)

of_datagram : (s : Settings) (client : ℕ) (r : Result (List Framed) FrameFault) (history : History) → arrivals (after_hearing s (heard_feedback client r) history) ≡ arrivals history
unfolding after_hearing arrivals
of_datagram s client (Err fault) history = arrivals_of_event s (unframed client fault) history
of_datagram s client (Ok ps) history = arrivals_of_event s (feedback client (messages ps)) history

pub arrivals_of_feedback : (s : Settings) (client : ℕ) (bytes : List ℕ) (events : List Event) → arrivals (history_of s (Feedback client bytes ∷ events)) ≡ arrivals (history_of s events)
unfolding history_of heard_of
arrivals_of_feedback s client bytes events = of_datagram s client (framed bytes) (history_of s events)

-- so the cache still stands
pub cache_stays : (s : Settings) (old new : History) (cache : caches.Seen) → arrivals new ≡ arrivals old → IsCache s old cache → IsCache s new cache
cache_stays s old new cache same is = record {
  settings_are = is.settings_are;
  stands = subst (caches.StandsFor cache) (sym same) is.stands;
  low = subst HaveLowNumbers (sym same) is.low;
  small = is.small;
}

-- the pending repairs, of whom the queue speaks
pub queue_is : (s : Settings) (events : List Event) (queue : List Wanted) → IsLawful s → queue ≡ pending (history_of s events) → IsQueue (history_of s events) queue
queue_is s events queue lawful same =
    let history = history_of s events in
    record {
      pending_is = same;
      known_is = All-from_recursion (OfKnown history) queue (subst (Each (OfKnown history)) (sym same) (pending_known s history lawful.idle_least (legal_history s events)));
    }

-- After a tick or a datagram the parts stand for it too, where the table, the queue and the budget are those of the history with it, and nothing else changed.
stands_on : (p q : Parts) (event : Event) (events : List Event) → StandsFor p events → arrivals (history_of p.config (event ∷ events)) ≡ arrivals (history_of p.config events)
    → GoOn p q (history_of p.config (event ∷ events)) → StandsFor q (event ∷ events)
stands_on p q event events st same g =
    let s = p.config in
    let new = history_of s (event ∷ events) in
    let cache : IsCache s new p.cache = cache_stays s (history_of s events) new p.cache same st.packets in
    let At : Settings → Type 0 = λ c. IsLawful c × IsCache c (history_of c (event ∷ events)) q.cache × IsTable c (history_of c (event ∷ events)) q.table
    × IsQueue (history_of c (event ∷ events)) q.queue × IsBudget c (history_of c (event ∷ events)) q.budget in
    let all : At q.config = subst At (sym g.same_config) (
      st.lawful,
      subst (IsCache s new) (sym g.same_cache) cache,
      g.table,
      queue_is s (event ∷ events) q.queue st.lawful g.queue,
      g.budget,
    ) in
    record {
      lawful = all.0;
      packets = all.1;
      table = all.2;
      queue = all.3;
      budget = all.4;
    }

pub other_events_leave_the_cache : OtherEventsLeaveTheCache
other_events_leave_the_cache p q events st = (
  λ g. stands_on p q Tick events st (arrivals_of_tick p.config events) g,
  λ client bytes g. stands_on p q (Feedback client bytes) events st (arrivals_of_feedback p.config client bytes events) g,
)

-- A live packet changes nothing but what is held.
abbrev OfLive : Heard → Type 0
OfLive (live a) = Unit {0}
OfLive (dropped note) = Unit {0}
OfLive _ = ⊥

of_packet : (c : Channel) (r : Result Packet RtpFault) → OfLive (heard_packet c r)
of_packet c (Err fault) = tt
of_packet c (Ok p) =
    cond_both (not (eqb p.ssrc c.ssrc)) _ _ OfLive (λ t. tt) (λ f. cond_both (not (eqb p.payload_type c.pt)) _ _ OfLive (λ t. tt) (λ g. tt))

of_live : (c : Channel) (bytes : List ℕ) → OfLive (heard_live c bytes)
of_live c bytes = cond_both (ltb 1470 (length bytes)) (dropped TooBig) (heard_packet c (packet_at bytes)) OfLive (λ t. tt) (λ f. of_packet c (packet_at bytes))

abbrev with_live : LiveNote → Heard → History → History
with_live note heard history = noted (LiveNoted note) None ∷ began heard ∷ history

live_table : (s : Settings) (note : LiveNote) (heard : Heard) (history : History) (t : Clients) → OfLive heard → IsTable s history t → IsTable s (with_live note heard history) t
unfolding known bursts sendings ssrc pending quiet_ticks
live_table s note (live a) history t of' is = record {
  most = is.most;
  clients = is.clients;
  entries = λ k e found. let x = is.entries k e found in record { ssrc_is = x.ssrc_is; seq_is = x.seq_is; idle_is = x.idle_is; burst_is = x.burst_is };
  others = is.others;
}
live_table s note (dropped other) history t of' is = record {
  most = is.most;
  clients = is.clients;
  entries = λ k e found. let x = is.entries k e found in record { ssrc_is = x.ssrc_is; seq_is = x.seq_is; idle_is = x.idle_is; burst_is = x.burst_is };
  others = is.others;
}
live_table s note heard history t of' is = absurd of'

live_pending : (note : LiveNote) (heard : Heard) (history : History) → OfLive heard → pending (with_live note heard history) ≡ pending history
unfolding pending
live_pending note (live a) history of' = refl
live_pending note (dropped other) history of' = refl
live_pending note heard history of' = absurd of'

live_budget : (s : Settings) (note : LiveNote) (heard : Heard) (history : History) → OfLive heard
    → (reserved s (with_live note heard history) ≡ reserved s history) × (channel_left s (with_live note heard history) ≡ channel_left s history)
unfolding opened bursts channel_left
live_budget s note (live a) history of' = (refl, refl)
live_budget s note (dropped other) history of' = (refl, refl)
live_budget s note heard history of' = absurd of'

-- no more live packets come than events
few_heard : (heard : Heard) (history : History) → length (arrivals (began heard ∷ history)) ≤ length (arrivals history) + 1
unfolding arrivals
few_heard (live a) history = omega arith
few_heard (dropped note) history = omega arith
few_heard (feedback client ms) history = omega arith
few_heard (unframed client fault) history = omega arith
few_heard tick history = omega arith

pub few_arrive : (s : Settings) (events : List Event) → length (arrivals (history_of s events)) ≤ length events
unfolding history_of arrivals
few_arrive s [] = omega arith
few_arrive s (event ∷ events) =
    let heard = heard_of s.channel event in
    omega (arith, ap length (arrivals_of_event s heard (history_of s events)), few_heard heard (history_of s events), few_arrive s events)

-- So after a live packet the parts stand for it too, where the cache took it.
pub live_packets_change_the_cache : LivePacketsChangeTheCache
unfolding history_of
live_packets_change_the_cache p events bytes note cache are st taken =
    let s = p.config in
    let old = history_of s events in
    let is = noted_so s bytes old note taken.noted in
    let heard = heard_live s.channel bytes in
    let of' = of_live s.channel bytes in
    let new = with_live note heard old in
    let after' : after s (Live bytes) old ≡ new = is.entered in
    let brought : arrivals new ≡ arrivals_after s bytes (arrivals old) = ap arrivals (sym after') ∙ is.arrived in
    let At : History → Type 0 = λ h. IsCache s h cache × IsTable s h p.table × (p.queue ≡ pending h) × IsBudget s h p.budget in
    let budget = live_budget s note heard old of' in
    let all : At (after s (Live bytes) old) = subst At (sym after') (
      record {
        settings_are = taken.settings_are;
        stands = subst (caches.StandsFor cache) (sym brought) taken.stands;
        low = subst HaveLowNumbers (sym brought) (reads_low s bytes (arrivals old) are st.packets.low);
        small = taken.small;
      },
      live_table s note heard old p.table of' st.table,
      st.queue.pending_is ∙ sym (live_pending note heard old of'),
      st.budget ∙ ap (λ (n : ℕ). amounts s.channel.share s.channel.reserve s.channel.swell n (channel_left s old)) (sym budget.0)
          ∙ ap (amounts s.channel.share s.channel.reserve s.channel.swell (reserved s new)) (sym budget.1),
    ) in
    record {
      lawful = st.lawful;
      packets = all.0;
      table = all.1;
      queue = queue_is s (Live bytes ∷ events) p.queue st.lawful all.2;
      budget = all.3;
    }
