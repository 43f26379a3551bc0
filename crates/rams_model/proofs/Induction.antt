-- A channel's history by induction. What holds of the empty history and is kept by each item that may come, holds of each history: a note comes only where `Allows` says so.
use Rattle.std.proofs.Common.{◌≡◌, ℕ, ◌<◌, Bool, true, false, cond, not, ◌&&◌, List, [], ◌∷◌, ◌++◌, Option, Some, None, ap, sym, ◌∙◌, subst, refl, arith, eqb}
use Rattle.std.specs.Prelude.{Ok, Err}
use Rattle.std.proofs.lemmas.Bool.{cond_both, eqb-false, true≢false}
use Rattle.rams_model.specs.declared.{event.Event.Event, held.Held.Held, note.Note.Note}
use Rattle.rams_model.specs.declared.note.Cause.TheVariants as cause
use Rattle.rams_model.specs.declared.note.Note.TheVariants as note
use Rattle.rams_model.specs.Service.{Settings, stop_of, Message, bye, nack, asks, stops, Heard, live, dropped, feedback, unframed, tick, heard_of, began, told, noted, History, arrivals, stream, known, is_among, ssrc, Burst, next, open_burst, has_open, on_stop, stop_burst, is_bye_of, after_bye, after_message, after_messages, after_tick, after_hearing, history_of}
use Rattle.rams_model.specs.Formats.{Framed}
use Rattle.rams_model.specs.Packets.{live_note}
use Rattle.rams_model.specs.Laws.{NoneIs, is_event}
use Rattle.rams_model.proofs.Legal.{is_tick, in_tick, Answers, Allows, IsLegal, legal_part}
use Rattle.rams_model.proofs.Legality.{in_tick_from_runs, legal_history}
use Rattle.rams_model.proofs.Items.{AreOfKind, is_note, Puts, message_puts}
use Rattle.rams_model.proofs.Adding.{adds_hearing, adds_messages}
use Rattle.rams_model.proofs.Stopping.{stop_from_next}

-- What each note of a kind keeps is kept by a part of an event: a message's answer, a tick or a phase of it.
module _ (kind : Note → Bool) (P : History → Type 0) (step : (n : Note) (packet : Option Held) (history : History) → kind n ≡ true → P history → P (noted n packet ∷ history)) where
  through_items : (items history : History) → AreOfKind kind items → P history → P (items ++ history)
  through_items [] history a p = p
  through_items (noted n packet ∷ items) history a p = step n packet (items ++ history) a.0 (through_items items history a.1 p)
  through_items (began heard ∷ items) history a p = absurd a
  through_items (told client message ∷ items) history a p = absurd a

  pub through : (before after : History) → Puts kind before after → P before → P after
  through before after p start = subst P (sym p.splits) (through_items p.items before p.notes start)

-- the same, where the history is known to be legal
module _ (kind : Note → Bool) (s : Settings) (P : History → Type 0)
    (step : (n : Note) (packet : Option Held) (history : History) → kind n ≡ true → Allows s history n packet → IsLegal s history → P history → P (noted n packet ∷ history)) where
  onwards_items : (items history : History) → AreOfKind kind items → IsLegal s (items ++ history) → P history → P (items ++ history)
  onwards_items [] history a l p = p
  onwards_items (noted n packet ∷ items) history a l p = step n packet (items ++ history) a.0 l.0 l.1 (onwards_items items history a.1 l.1 p)
  onwards_items (began heard ∷ items) history a l p = absurd a
  onwards_items (told client message ∷ items) history a l p = absurd a

  pub onwards : (before after : History) → Puts kind before after → IsLegal s after → P before → P after
  onwards before after p l start = subst P (sym p.splits) (onwards_items p.items before p.notes (subst (IsLegal s) p.splits l) start)

-- what stands before a part of a legal history is legal
pub legal_before : (s : Settings) (kind : Note → Bool) (before after : History) → Puts kind before after → IsLegal s after → IsLegal s before
legal_before s kind before after p l = legal_part s p.items before (subst (IsLegal s) p.splits l)

-- The notes that answer a message: what each that may come keeps is kept by the whole answer.
module _ (s : Settings) (P : History → Type 0) (client : ℕ) (message : Message)
    (step : (n : Note) (packet : Option Held) (history : History) → Allows s history n packet → Answers history client message → P history → P (noted n packet ∷ history)) where
  pub in_answer : (history : History) → IsLegal s (after_message s client message (told client message ∷ history)) → P (told client message ∷ history)
      → P (after_message s client message (told client message ∷ history))
  in_answer history l p =
      let start = told client message ∷ history in
      (onwards is_note s (λ h. Answers h client message × P h) (λ n packet h is a legal q. (q.0, step n packet h a q.0 q.1))
      start (after_message s client message start) (message_puts s client message start) l (refl, p)).1

-- no tick is under way then
pub no_tick_answers : (history : History) (client : ℕ) (message : Message) → Answers history client message → in_tick history ≡ true → ⊥
no_tick_answers [] client message a e = absurd cc
no_tick_answers (began heard ∷ history) client message a e = absurd cc
no_tick_answers (told k m ∷ history) client message a e = true≢false (sym e)
no_tick_answers (noted n packet ∷ history) client message a e = no_tick_answers history client message a e

-- the answers to NACKs and requests
abbrev is_plain : Message → Bool
is_plain (nack media sender numbers) = true
is_plain (asks sender request) = true
is_plain m = false

-- A note of an answer that stands alone: behind a StopAt and a Bye the End of the burst may stand.
abbrev pub is_alone : Note → Bool
is_alone (note.StopAt client n) = false
is_alone (note.Bye client) = false
is_alone (note.Burst client n number) = false
is_alone (note.Repair client n number) = false
is_alone (note.Gone client n) = false
is_alone (note.Forgot client) = false
is_alone n = true

-- no other message is answered
plainly : (history : History) (client other : ℕ) (m n : Message) → is_plain m ≡ true → is_plain n ≡ false → Answers history client m → Answers history other n → ⊥
plainly history client other m n t f here there = true≢false (sym t ∙ ap plain_of (sym here ∙ there) ∙ f)
  where
    plain_of : Option (ℕ × Message) → Bool
    plain_of None = false
    plain_of (Some p) = is_plain p.1

alone : (s : Settings) (history : History) (client : ℕ) (m : Message) (n : Note) (packet : Option Held) → is_plain m ≡ true → Answers history client m → Allows s history n packet → is_alone n ≡ true
alone s history client m (note.StopAt k n) packet t here a = absurd (plainly history client k m (stops (Ok a.stop)) t refl here a.is_answer)
alone s history client m (note.Bye k) packet t here a = absurd (plainly history client k m (bye a.packet) t refl here a.is_answer)
alone s history client m (note.Burst k n number) packet t here a = absurd (no_tick_answers history client m here (in_tick_from_runs history a.running))
alone s history client m (note.Repair k n number) packet t here a = absurd (no_tick_answers history client m here a.ticking)
alone s history client m (note.Gone k n) packet t here a = absurd (no_tick_answers history client m here a.ticking)
alone s history client m (note.Forgot k) packet t here a = absurd (no_tick_answers history client m here a.ticking)
alone s history client m n packet t here a = refl

-- What holds between messages alone: each note that stands alone keeps it, and so do a StopAt and a Bye, by themselves or with the End behind them.
module _ (s : Settings) (P : History → Type 0) (client : ℕ)
    (each : (n : Note) (packet : Option Held) (history : History) → is_alone n ≡ true → Allows s history n packet → P history → P (noted n packet ∷ history))
    (set : (b : Burst) (n : ℕ) (history : History) → open_burst s client history ≡ Some b → next b < n → P history → P (noted (note.StopAt client n) None ∷ history))
    (stopped : (n : ℕ) (history : History) → P history → P (noted (note.End client cause.Stopped) None ∷ noted (note.StopAt client n) None ∷ history))
    (left : (history : History) → has_open s client history ≡ false → P history → P (noted (note.Bye client) None ∷ history))
    (closed : (history : History) → P history → P (noted (note.End client cause.Bye) None ∷ noted (note.Bye client) None ∷ history)) where
  stop_answer : (named : Option ℕ) (o : Option Burst) (history : History) → open_burst s client history ≡ o → IsLegal s (stop_burst client named o history) → P history
      → P (stop_burst client named o history)
  stop_answer named None history e l p = each (note.StopIdle client) None history refl l.0 p
  stop_answer named (Some b) history e l p = at b.stop l
    where
      at : (old : Option ℕ) → IsLegal s (on_stop client b named old history) → P (on_stop client b named old history)
      at (Some stop) l = each (note.StopKept client stop) None history refl l.0 p
      at None l =
          let n = stop_of b.first (next b) named in
          cond_both (eqb n (next b)) (noted (note.End client cause.Stopped) None ∷ noted (note.StopAt client n) None ∷ history) (noted (note.StopAt client n) None ∷ history) P
          (λ t. stopped n history p) (λ f. set b n history e (omega (arith, stop_from_next b.first (next b) named, eqb-false n (next b) f)) p)

  bye_answer : (packet : Framed) (history : History) → IsLegal s (after_bye s client packet history) → P history → P (after_bye s client packet history)
  bye_answer packet history l p =
      let gone = noted (note.Bye client) None ∷ history in
      let over = noted (note.End client cause.Bye) None ∷ gone in
      let ends = has_open s client history in
      cond_both (not (is_among client (known history) && is_bye_of packet (ssrc client history))) (noted (note.ByeIdle client) None ∷ history) (cond ends over gone) (λ h. IsLegal s h → P h)
      (λ t legal. each (note.ByeIdle client) None history refl legal.0 p) (λ f legal. cond_both ends over gone P (λ t. closed history p) (λ g. left history g p)) l

  pub whole_answer : (message : Message) (history : History) → IsLegal s (after_message s client message (told client message ∷ history)) → P (told client message ∷ history)
      → P (after_message s client message (told client message ∷ history))
  whole_answer (bye packet) history l p = bye_answer packet (told client (bye packet) ∷ history) l p
  whole_answer (stops (Err fault)) history l p = each (note.Refuse client 404) None (told client (stops (Err fault)) ∷ history) refl l.0 p
  whole_answer (stops (Ok stop)) history l p =
      let asked = told client (stops (Ok stop)) ∷ history in stop_answer stop.first_multicast (open_burst s client asked) asked refl l p
  whole_answer m history l p = in_answer s P client m (λ n packet h a here q. each n packet h (alone s h client m n packet refl here a) a q) history l p

-- What each message and each note keeps is kept by a whole event, once it began.
module _ (P : History → Type 0) (tells : (client : ℕ) (message : Message) (history : History) → P history → P (told client message ∷ history))
    (notes : (n : Note) (packet : Option Held) (history : History) → P history → P (noted n packet ∷ history)) where
  each_item : (later history : History) → NoneIs is_event later → P history → P (later ++ history)
  each_item [] history none p = p
  each_item (noted n packet ∷ later) history none p = notes n packet (later ++ history) (each_item later history none.1 p)
  each_item (told client message ∷ later) history none p = tells client message (later ++ history) (each_item later history none.1 p)
  each_item (began heard ∷ later) history none p = absurd (true≢false none.0)

  pub through_event : (s : Settings) (heard : Heard) (history : History) → P (began heard ∷ history) → P (after_hearing s heard history)
  through_event s heard history p = let a = adds_hearing s heard history in subst P (sym a.splits) (each_item a.later (began heard ∷ history) a.none p)

-- What each item keeps holds of the history of any events.
module _ (s : Settings) (P : History → Type 0)
    (begins : (event : Event) (history : History) → IsLegal s history → P history → P (began (heard_of s.channel event) ∷ history))
    (tells : (client : ℕ) (message : Message) (history : History) → IsLegal s history → P history → P (told client message ∷ history))
    (notes : (n : Note) (packet : Option Held) (history : History) → Allows s history n packet → IsLegal s history → P history → P (noted n packet ∷ history)) where
  of_event : (later history : History) → NoneIs is_event later → IsLegal s (later ++ history) → P history → P (later ++ history)
  of_event [] history none l p = p
  of_event (noted n packet ∷ later) history none l p = notes n packet (later ++ history) l.0 l.1 (of_event later history none.1 l.1 p)
  of_event (told client message ∷ later) history none l p = tells client message (later ++ history) l (of_event later history none.1 l p)
  of_event (began heard ∷ later) history none l p = absurd (true≢false none.0)

  pub of_events : P [] → (events : List Event) → P (history_of s events)
  unfolding history_of
  of_events start [] = start
  of_events start (event ∷ events) =
      let before = history_of s events in
      let heard = heard_of s.channel event in
      let a = adds_hearing s heard before in
      subst P (sym a.splits)
      (of_event a.later (began heard ∷ before) a.none (subst (IsLegal s) a.splits (legal_history s (event ∷ events)))
      (begins event before (legal_history s events) (of_events start events)))

-- the note that a packet, or a datagram that doesn't frame, gets at once
abbrev pub is_at_once : Note → Bool
is_at_once (note.Live n) = true
is_at_once (note.BadFeedback client fault) = true
is_at_once _ = false

-- What holds between messages and between events alone: each message's whole answer keeps it, and each whole tick.
module _ (s : Settings) (P : History → Type 0)
    (at_once : (event : Event) (events : List Event) (n : Note) → is_tick (heard_of s.channel event) ≡ false → is_at_once n ≡ true → P (history_of s events)
    → P (noted n None ∷ began (heard_of s.channel event) ∷ history_of s events))
    (begins : (client : ℕ) (ms : List Message) (history : History) → P history → P (began (feedback client ms) ∷ history))
    (answers : (client : ℕ) (message : Message) (history : History) → IsLegal s (after_message s client message (told client message ∷ history)) → P history
    → P (after_message s client message (told client message ∷ history)))
    (ticks : (events : List Event) → IsLegal s (after_tick s (began tick ∷ history_of s events)) → P (history_of s events) → P (after_tick s (began tick ∷ history_of s events))) where
  each_message : (client : ℕ) (ms : List Message) (history : History) → IsLegal s (after_messages s client ms history) → P history → P (after_messages s client ms history)
  unfolding after_messages
  each_message client [] history l p = p
  each_message client (m ∷ ms) history l p =
      let answered = after_message s client m (told client m ∷ history) in
      let more = adds_messages s client ms answered in
      each_message client ms answered l (answers client m history (legal_part s more.later answered (subst (IsLegal s) more.splits l)) p)

  each_event : (heard : Heard) (events : List Event) → ((n : Note) → is_tick heard ≡ false → is_at_once n ≡ true → P (noted n None ∷ began heard ∷ history_of s events))
      → IsLegal s (after_hearing s heard (history_of s events)) → P (history_of s events) → P (after_hearing s heard (history_of s events))
  unfolding after_hearing
  each_event (live a) events once l p = once (note.Live (live_note s.channel.window (stream s (history_of s events)) a.sequence)) refl refl
  each_event (dropped n) events once l p = once (note.Live n) refl refl
  each_event (feedback client ms) events once l p = each_message client ms (began (feedback client ms) ∷ history_of s events) l (begins client ms (history_of s events) p)
  each_event (unframed client fault) events once l p = once (note.BadFeedback client fault) refl refl
  each_event tick events once l p = ticks events l p

  pub between : P [] → (events : List Event) → P (history_of s events)
  unfolding history_of
  between start [] = start
  between start (event ∷ events) =
      let p = between start events in each_event (heard_of s.channel event) events (λ n other is. at_once event events n other is p) (legal_history s (event ∷ events)) p

-- Only live packets bring what is held.
pub arrivals_of_part : (kind : Note → Bool) (before after : History) → Puts kind before after → arrivals after ≡ arrivals before
unfolding arrivals
arrivals_of_part kind before after p = through kind (λ h. arrivals h ≡ arrivals before) (λ n packet h is e. e) before after p refl

pub arrivals_of_event : (s : Settings) (heard : Heard) (history : History) → arrivals (after_hearing s heard history) ≡ arrivals (began heard ∷ history)
unfolding arrivals
arrivals_of_event s heard history = through_event (λ h. arrivals h ≡ arrivals (began heard ∷ history)) (λ k m h e. e) (λ n packet h e. e) s heard history refl
