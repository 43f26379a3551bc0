-- Each packet that came in time was read of a live event of the channel, and its bytes are those that came under its number.
use Rattle.std.proofs.Common.{◌≡◌, ℕ, ◌%◌, ◌<◌, ◌≤◌, Bool, true, false, cond, ◌⊎◌, inl, inr, ⊎_elim, List, [], ◌∷◌, ◌++◌, Option, Some, refl, ap, sym, ◌∙◌, subst, arith, eqb, ltb}
use Rattle.std.specs.Prelude.{Ok, All, Contains}
use Rattle.std.specs.List.{AllByRecursion}
use Rattle.std.proofs.lemmas.Bool.{cases_Bool, cond_both, eqb-true, eq-eqb}
use Rattle.std.proofs.lemmas.List.Elements.{Contains-append_left, Contains-append_right, Contains-append_cases, Contains-push_cases}
use Rattle.rams_model.specs.declared.{Channel.Channel, Event.Event, Held.Held, LiveNote.LiveNote}
use Rattle.rams_model.specs.declared.Event.TheVariants.{Live, Feedback, Tick}
use Rattle.rams_model.specs.declared.LiveNote.TheVariants.{Took, Restart}
use Rattle.rams_model.specs.Formats.{Packet, stripped, packet_at, framed}
use Rattle.rams_model.specs.Packets.{Arrival, Stream, held_as, with_packet, live_note, stream_after, stream_of}
use Rattle.rams_model.specs.Service.{Settings, Heard, live, dropped, feedback, unframed, tick, heard_live, heard_of, began, arrivals, stream, history_of}
use Rattle.rams_model.proofs.Induction.{arrivals_of_event}
use Rattle.rams_model.proofs.PlainPackets.{below_at}
use Rattle.rams_model.proofs.Rising.{end_of}
use Rattle.rams_model.proofs.RtpPackets.{spelled_so}
use Rattle.rams_model.specs.Laws.{Rises}
use Rattle.meet_loop.specs.world_laws.{takes, hears_number, as_it_came}
use Rattle.service_laws.proofs.byte_laws.Low.{IsLow, live_note_low, high_present}
use Rattle.service_laws.proofs.book_laws.CameBefore.{all_of, not_live, WasRead, ReadSo, live_read}
use Rattle.service_laws.proofs.book_laws.Members.{of_with, is_first}
use Rattle.service_laws.proofs.byte_laws.Rising.{all_rises, stands_once}
use Rattle.service_laws.specs.byte_laws.{HasBytes}

-- the bytes that are looked up under a packet's number are those of which it was read
pub record IsKept (c : Channel) (look : ℕ → Option (List ℕ)) (h : Held) : Type 0 where
  pub bytes : List ℕ
  pub came : look h.n ≡ Some bytes
  pub small : All (λ b. b < 256) bytes
  pub packet : Packet
  pub is_read : packet_at bytes ≡ Ok packet
  pub media : packet.ssrc ≡ c.ssrc
  pub kind : packet.payload_type ≡ c.pt
  pub low : h.n % 65536 ≡ packet.sequence
  pub high : 65536 ≤ h.n
  pub is_it : h.packet ≡ stripped packet

-- ---- one packet more

has_new : (new : Held) (hs : List Held) → Contains (with_packet new hs) new
has_new new [] = is_first new []
has_new new (k ∷ ks) =
    cond_both (ltb new.n k.n) (new ∷ k ∷ ks) (k ∷ with_packet new ks) (λ l. Contains l new) (λ t. is_first new (k ∷ ks))
    (λ f. Contains-append_right (k ∷ []) (with_packet new ks) new (has_new new ks))

-- what is looked up once a packet is taken under a number
abbrev with_taken : ℕ → List ℕ → (ℕ → Option (List ℕ)) → ℕ → Option (List ℕ)
with_taken m bytes look k = cond (eqb m k) (Some bytes) (look k)

taken_kept : (c : Channel) (look : ℕ → Option (List ℕ)) (bytes : List ℕ) (a : Arrival) (m : ℕ) (all : List Held) (h : Held) → WasRead c bytes a → All (λ b. b < 256) bytes
    → m % 65536 ≡ a.sequence → 65536 ≤ m → Rises 0 all → Contains all (held_as m a) → Contains all h → IsKept c look h ⊎ (held_as m a ≡ h)
    → IsKept c (with_taken m bytes look) h
taken_kept c look bytes a m all h r small low high rises has c1 was = ⊎_elim now before (cases_Bool (eqb m h.n))
  where
    is_new : held_as m a ≡ h → IsKept c (with_taken m bytes look) h
    is_new e = subst (IsKept c (with_taken m bytes look)) e (record {
      bytes = bytes;
      came = ap (λ (b : Bool). cond b (Some bytes) (look m)) (eq-eqb m m refl);
      small = small;
      packet = r.packet;
      is_read = r.is_read;
      media = r.media;
      kind = r.kind;
      low = low ∙ ap (λ (x : Arrival). x.sequence) r.is_it;
      high = high;
      is_it = ap (λ (x : Arrival). x.packet) r.is_it;
    })

    now : eqb m h.n ≡ true → IsKept c (with_taken m bytes look) h
    now t = is_new (stands_once 0 all (held_as m a) h rises has c1 (eqb-true m h.n t))

    before : eqb m h.n ≡ false → IsKept c (with_taken m bytes look) h
    before f = ⊎_elim (λ (k : IsKept c look h). record {
      bytes = k.bytes;
      came = ap (λ (b : Bool). cond b (Some bytes) (look h.n)) f ∙ k.came;
      small = k.small;
      packet = k.packet;
      is_read = k.is_read;
      media = k.media;
      kind = k.kind;
      low = k.low;
      high = k.high;
      is_it = k.is_it;
    }) is_new was

note_kept : (c : Channel) (look : ℕ → Option (List ℕ)) (bytes : List ℕ) (st : Stream) (a : Arrival) (n : LiveNote) (h : Held) → WasRead c bytes a → All (λ b. b < 256) bytes
    → IsLow a.sequence n → Rises 0 (all_of (stream_after st a n)) → ((k : Held) → Contains (all_of st) k → IsKept c look k) → Contains (all_of (stream_after st a n)) h
    → IsKept c (λ k. cond (takes k n) (Some bytes) (look k)) h
note_kept c look bytes st a (Took m) h r small low rises old has =
    let new = held_as m a in
    taken_kept c look bytes a m (st.ended ++ with_packet new st.present) h r small low.0 low.1 rises
    (Contains-append_right st.ended (with_packet new st.present) new (has_new new st.present)) has
    (⊎_elim (λ e. inl (old h (Contains-append_left st.ended st.present h e)))
    (λ p. ⊎_elim (λ o. inl (old h (Contains-append_right st.ended st.present h o))) (λ e. inr e) (of_with new st.present h p))
    (Contains-append_cases st.ended (with_packet new st.present) h has))
note_kept c look bytes st a (Restart m) h r small low rises old has =
    let new = held_as m a in
    taken_kept c look bytes a m (all_of st ++ new ∷ []) h r small low.0 low.1 rises (Contains-append_right (all_of st) (new ∷ []) new (is_first new [])) has
    (⊎_elim (λ o. inl (old h o)) (λ e. inr e) (Contains-push_cases (all_of st) new h has))
note_kept c look bytes st a n h r small low rises old has = old h has

-- ---- all packets

-- what is looked up after an event of which this is heard
abbrev look_after : Settings → List Event → List ℕ → Heard → ℕ → Option (List ℕ)
look_after s events bytes heard n = cond (hears_number s (stream s (history_of s events)) n heard) (Some bytes) (as_it_came s events n)

heard_kept : (s : Settings) (events : List Event) (bytes : List ℕ) (heard : Heard) (h : Held) → ReadSo s.channel bytes heard → All (λ b. b < 256) bytes
    → ((k : Held) → Contains (all_of (stream s (history_of s events))) k → IsKept s.channel (as_it_came s events) k)
    → Contains (all_of (stream_of s.channel.window (arrivals (began heard ∷ history_of s events)))) h → IsKept s.channel (look_after s events bytes heard) h
unfolding arrivals stream_of
heard_kept s events bytes (live a) h r small old has =
    let came = arrivals (history_of s events) in
    let st = stream_of s.channel.window came in
    let few : a.sequence < 65536 = subst (λ (q : ℕ). q < 65536) (sym (ap (λ (x : Arrival). x.sequence) r.is_it)) (spelled_so bytes r.packet (below_at bytes small) r.is_read).0.sequence in
    let low = live_note_low s.channel.window st a.sequence few (end_of 0 st.ended st.present (all_rises s.channel.window came)) (high_present st.ended st.present (λ k d. (old k d).high)) in
    note_kept s.channel (as_it_came s events) bytes st a (live_note s.channel.window st a.sequence) h r small low (all_rises s.channel.window (a ∷ came)) old has
heard_kept s events bytes (dropped n) h r small old has = old h has
heard_kept s events bytes (feedback client messages) h r small old has = old h has
heard_kept s events bytes (unframed client fault) h r small old has = old h has
heard_kept s events bytes tick h r small old has = old h has

event_kept : (s : Settings) (event : Event) (events : List Event) (h : Held) → HasBytes event
    → ((k : Held) → Contains (all_of (stream s (history_of s events))) k → IsKept s.channel (as_it_came s events) k)
    → Contains (all_of (stream_of s.channel.window (arrivals (began (heard_of s.channel event) ∷ history_of s events)))) h → IsKept s.channel (as_it_came s (event ∷ events)) h
unfolding heard_of as_it_came arrivals
event_kept s (Live bytes) events h small old has = heard_kept s events bytes (heard_live s.channel bytes) h (live_read s.channel bytes) small old has
event_kept s (Feedback client bytes) events h small old has =
    old h (subst (λ (came : List Arrival). Contains (all_of (stream_of s.channel.window came)) h) (not_live client (framed bytes) (history_of s events)) has)
event_kept s Tick events h small old has = old h has

pub each_kept : (s : Settings) (events : List Event) → AllByRecursion HasBytes events → (h : Held) → Contains (all_of (stream s (history_of s events))) h
    → IsKept s.channel (as_it_came s events) h
unfolding history_of stream_of arrivals
each_kept s [] small h has = absurd (omega arith)
each_kept s (event ∷ events) small h has =
    event_kept s event events h small.0 (each_kept s events small.1)
    (subst (λ (came : List Arrival). Contains (all_of (stream_of s.channel.window came)) h) (arrivals_of_event s (heard_of s.channel event) (history_of s events)) has)
