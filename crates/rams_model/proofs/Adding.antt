-- What an event adds to a history: that it began, and messages and notes after that.
use Rattle.std.proofs.Common.{◌≡◌, ℕ, Bool, List, [], ◌∷◌, ◌++◌, None, refl, ap, sym, ◌∙◌, append_assoc}
use Rattle.rams_model.specs.declared.note.Note.{Note}
use Rattle.rams_model.specs.declared.note.Note.TheVariants as note
use Rattle.rams_model.specs.Service.{Settings, Message, Heard, live, dropped, feedback, unframed, tick, began, told, noted, History, stream, after_message, after_messages, after_hearing}
use Rattle.rams_model.specs.Packets.{live_note}
use Rattle.rams_model.specs.Laws.{NoneIs, is_event}
use Rattle.rams_model.proofs.Items.{AreOfKind, is_note, is_of_tick, Puts, message_puts, tick_puts}

-- One history is another and what came after it, where no event began.
pub record Adds (old new : History) : Type 0 where
  pub later : History
  pub splits : new ≡ later ++ old
  pub none : NoneIs is_event later

pub none_of_both : (later more : History) → NoneIs is_event later → NoneIs is_event more → NoneIs is_event (later ++ more)
none_of_both [] more n m = m
none_of_both (i ∷ later) more n m = (n.0, none_of_both later more n.1 m)

both : (a b c : History) → Adds a b → Adds b c → Adds a c
both a b c x y = record {
  later = y.later ++ x.later;
  splits = y.splits ∙ ap (λ (h : History). y.later ++ h) x.splits ∙ sym (append_assoc y.later x.later a);
  none = none_of_both y.later x.later y.none x.none;
}

pub no_event : (kind : Note → Bool) (items : History) → AreOfKind kind items → NoneIs is_event items
no_event kind [] n = tt
no_event kind (noted note packet ∷ items) n = (refl, no_event kind items n.1)
no_event kind (began heard ∷ items) n = absurd n
no_event kind (told client message ∷ items) n = absurd n

adds : (kind : Note → Bool) (before after : History) → Puts kind before after → Adds before after
adds kind before after p = record { later = p.items; splits = p.splits; none = no_event kind p.items p.notes }

a_note : (n : Note) (history : History) → Adds history (noted n None ∷ history)
a_note n history = record { later = noted n None ∷ []; splits = refl; none = (refl, tt) }

pub adds_messages : (s : Settings) (k : ℕ) (ms : List Message) (history : History) → Adds history (after_messages s k ms history)
unfolding after_messages
adds_messages s k [] history = record { later = []; splits = refl; none = tt }
adds_messages s k (m ∷ ms) history =
    let this = told k m ∷ history in
    let answered = after_message s k m this in
    both history this (after_messages s k ms answered) (record { later = told k m ∷ []; splits = refl; none = (refl, tt) })
    (both this answered (after_messages s k ms answered) (adds is_note this answered (message_puts s k m this)) (adds_messages s k ms answered))

-- An event adds that it began, and no other event.
pub adds_hearing : (s : Settings) (heard : Heard) (history : History) → Adds (began heard ∷ history) (after_hearing s heard history)
unfolding after_hearing
adds_hearing s (live a) history = a_note (note.Live (live_note s.channel.window (stream s history) a.sequence)) (began (live a) ∷ history)
adds_hearing s (dropped n) history = a_note (note.Live n) (began (dropped n) ∷ history)
adds_hearing s (feedback client messages) history = adds_messages s client messages (began (feedback client messages) ∷ history)
adds_hearing s (unframed client fault) history = a_note (note.BadFeedback client fault) (began (unframed client fault) ∷ history)
adds_hearing s tick history = let before = began tick ∷ history in adds is_of_tick before (after_hearing s tick history) (tick_puts s before)
