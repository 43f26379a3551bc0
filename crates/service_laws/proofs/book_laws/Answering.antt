-- Each message that was told is followed by its whole answer, and a note's message is the last that was told.
use Rattle.std.proofs.Common.{◌≡◌, ℕ, Bool, inl, inr, ◌⊎◌, ⊎_elim, List, [], ◌∷◌, ◌++◌, Option, Some, None, refl, ap, sym, ◌∙◌, subst, append_assoc}
use Rattle.rams_model.specs.declared.{Event.Event, Note.Note}
use Rattle.rams_model.specs.Service.{Settings, Message, Heard, feedback, tick, heard_of, Item, began, told, noted, History, after_message, after_tick, history_of}
use Rattle.service_laws.specs.book_laws.{AreNotes, IsAnswered, IsNoNote, BeginAnew}
use Rattle.rams_model.proofs.Legal.{Answers, newest_told}
use Rattle.rams_model.proofs.Items.{AreOfKind, is_note, is_of_tick, message_puts, tick_puts}
use Rattle.rams_model.proofs.Induction.{between}

-- the message that was told last is the one that is answered
told_last : (history : History) (k : ℕ) (m : Message) → newest_told history ≡ Some (k, m) → IsAnswered history k m
told_last [] k m e = absurd cc
told_last (began heard ∷ history) k m e = absurd cc
told_last (told client message ∷ history) k m e =
    let same : told client message ≡ told k m = ap (λ (o : Option (ℕ × Message)). item_of o) e in
    record { since = []; before = history; splits = ap (λ (i : Item). i ∷ history) same; notes = tt }
  where
    item_of : Option (ℕ × Message) → Item
    item_of None = told client message
    item_of (Some p) = told p.0 p.1
told_last (noted note packet ∷ history) k m e =
    let rest = told_last history k m e in
    record { since = noted note packet ∷ rest.since; before = rest.before; splits = ap (λ (h : History). noted note packet ∷ h) rest.splits; notes = rest.notes }

pub is_answered : (history : History) (k : ℕ) (m : Message) → Answers history k m → IsAnswered history k m
is_answered history k m e = told_last history k m e

-- where a message stands in notes, an item that is no note, and a history: it is that item, or stands in the history
record StandsIn (items : History) (e : Item) (history later : History) (i : Item) (before : History) : Type 0 where
  rest : History
  later_is : later ≡ items ++ e ∷ rest
  history_is : history ≡ rest ++ i ∷ before

record IsItem (items : History) (e : Item) (history later : History) (i : Item) (before : History) : Type 0 where
  later_is : later ≡ items
  item_is : e ≡ i
  history_is : history ≡ before

place : (items : History) (e : Item) (history later : History) (k : ℕ) (m : Message) (before : History) → AreNotes items
    → items ++ e ∷ history ≡ later ++ told k m ∷ before → IsItem items e history later (told k m) before ⊎ StandsIn items e history later (told k m) before
place [] e history [] k m before n same = inl (record { later_is = refl; item_is = cc; history_is = cc })
place [] e history (i ∷ later) k m before n same =
    let first : e ≡ i = cc in
    inr (record { rest = later; later_is = ap (λ (j : Item). j ∷ later) (sym first); history_is = cc })
place (noted note packet ∷ items) e history [] k m before n same = absurd cc
place (noted note packet ∷ items) e history (i ∷ later) k m before n same =
    let first : noted note packet ≡ i = cc in
    let others : items ++ e ∷ history ≡ later ++ told k m ∷ before = cc in
    let front : (l : History) → later ≡ l → i ∷ later ≡ noted note packet ∷ l = λ l t. ap (λ (j : Item). j ∷ later) (sym first) ∙ ap (λ (h : History). noted note packet ∷ h) t in
    ⊎_elim
    (λ (at : IsItem items e history later (told k m) before). inl (record { later_is = front items at.later_is; item_is = at.item_is; history_is = at.history_is }))
    (λ (at : StandsIn items e history later (told k m) before). inr (record { rest = at.rest; later_is = front (items ++ e ∷ at.rest) at.later_is; history_is = at.history_is }))
    (place items e history later k m before n others)
place (began heard ∷ items) e history later k m before n same = absurd n
place (told client message ∷ items) e history later k m before n same = absurd n

anew_after : (e : Item) (rest : History) → IsNoNote e → BeginAnew rest → BeginAnew (e ∷ rest)
anew_after e [] n a = n
anew_after e (i ∷ rest) n a = a

anew_more : (items : History) (e : Item) (rest : History) → BeginAnew (e ∷ rest) → BeginAnew (items ++ e ∷ rest)
anew_more [] e rest a = a
anew_more (i ∷ []) e rest a = a
anew_more (i ∷ j ∷ items) e rest a = anew_more (j ∷ items) e rest a

-- Of what came after a message, its whole answer was noted first, and then something else came.
pub record IsWhole (s : Settings) (k : ℕ) (m : Message) (before later : History) : Type 0 where
  pub after : History
  pub items : History
  pub splits : later ≡ after ++ items
  pub notes : AreNotes items
  pub anew : BeginAnew after
  pub answer : items ++ told k m ∷ before ≡ after_message s k m (told k m ∷ before)

abbrev AreWhole : Settings → History → Type 0
AreWhole s history = (k : ℕ) (m : Message) (later before : History) → history ≡ later ++ told k m ∷ before → IsWhole s k m before later

-- the history after an item, where it is a message
abbrev answered : Settings → Item → History → History
answered s (told k m) history = after_message s k m (told k m ∷ history)
answered s i history = i ∷ history

step : (s : Settings) (items : History) (e : Item) (history : History) → AreNotes items → IsNoNote e
    → ((k : ℕ) (m : Message) → e ≡ told k m → items ++ e ∷ history ≡ answered s e history) → AreWhole s history → AreWhole s (items ++ e ∷ history)
step s items e history n plain answer whole k m later before same =
    ⊎_elim
    (λ (at : IsItem items e history later (told k m) before). record {
      after = [];
      items = items;
      splits = at.later_is;
      notes = n;
      anew = tt;
      answer =
          let now : items ++ told k m ∷ history ≡ after_message s k m (told k m ∷ history) =
          subst (λ (i : Item). items ++ i ∷ history ≡ answered s i history) at.item_is (answer k m at.item_is)
          in
          subst (λ (h : History). items ++ told k m ∷ h ≡ after_message s k m (told k m ∷ h)) at.history_is now;
    })
    (λ (at : StandsIn items e history later (told k m) before).
    let w = whole k m at.rest before at.history_is in
    record {
      after = items ++ e ∷ w.after;
      items = w.items;
      splits = at.later_is ∙ ap (λ (h : History). items ++ e ∷ h) w.splits ∙ sym (append_assoc items (e ∷ w.after) w.items);
      notes = w.notes;
      anew = anew_more items e w.after (anew_after e w.after plain w.anew);
      answer = w.answer;
    })
    (place items e history later k m before n same)

-- an event with the notes that it gives at once
event_step : (s : Settings) (items : History) (heard : Heard) (history : History) → AreNotes items → AreWhole s history → AreWhole s (items ++ began heard ∷ history)
event_step s items heard history n whole = step s items (began heard) history n tt (λ k m e. absurd cc) whole

-- notes of a kind are notes
are_notes : (kind : Note → Bool) (items : History) → AreOfKind kind items → AreNotes items
are_notes kind [] a = tt
are_notes kind (noted note packet ∷ items) a = are_notes kind items a.1
are_notes kind (began heard ∷ items) a = a
are_notes kind (told client message ∷ items) a = a

message_step : (s : Settings) (k : ℕ) (m : Message) (history : History) → AreWhole s history → AreWhole s (after_message s k m (told k m ∷ history))
message_step s k m history whole =
    let p = message_puts s k m (told k m ∷ history) in
    subst (AreWhole s) (sym p.splits) (step s p.items (told k m) history (are_notes is_note p.items p.notes) tt (λ j n e. sym p.splits) whole)

tick_step : (s : Settings) (history : History) → AreWhole s history → AreWhole s (after_tick s (began tick ∷ history))
tick_step s history whole =
    let p = tick_puts s (began tick ∷ history) in subst (AreWhole s) (sym p.splits) (event_step s p.items tick history (are_notes is_of_tick p.items p.notes) whole)

none_told : (s : Settings) → AreWhole s []
none_told s k m [] before e = absurd cc
none_told s k m (i ∷ later) before e = absurd cc

-- Each message of a channel's history is followed by its whole answer.
pub are_whole : (s : Settings) (events : List Event) → AreWhole s (history_of s events)
are_whole s events =
    between s (AreWhole s) (λ event before n other at_once whole. event_step s (noted n None ∷ []) (heard_of s.channel event) (history_of s before) tt whole)
    (λ k ms history whole. event_step s [] (feedback k ms) history tt whole) (λ k m history l whole. message_step s k m history whole)
    (λ before l whole. tick_step s (history_of s before) whole) (none_told s) events
