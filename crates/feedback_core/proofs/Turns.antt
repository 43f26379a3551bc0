-- The messages of a datagram, one after another.
use Rattle.std.proofs.Common.{◌≡◌, ℕ, Bool, true, false, cond, not, ◌&&◌, ◌||◌, ◌⊎◌, ⊎_elim, List, [], ◌∷◌, ◌++◌, Option, Some, None, refl, ap, sym, ◌∙◌, subst, append-nil}
use Rattle.std.specs.Prelude.{option_map, option_to_list, filter, filter_map}
use Rattle.std.specs.List.{cons_option}
use Rattle.rams_model.specs.declared.{Order.Order, Held.Held, Info.Info, Note.Note}
use Rattle.rams_model.specs.Service.{Settings, Message, is_rams, message_of, with_one_rams, told, History, arrivals, hold, newest_sender, sender, info_order, newest_notes, newest_orders, after_message, after_messages, Wanted}
use Rattle.rams_model.specs.Formats.{Framed}
use Rattle.rams_model.specs.Packets.{Arrival, stream_of}
use Rattle.rams_model.specs.Packets.Source as sources
use Rattle.rams_model.proofs.Newest.{notes_behind, orders_behind}
use Rattle.feedback_core.specs.declared.{page.Page.Page, said.Said.Said, visitor.Visitor.Visitor}
use Rattle.feedback_core.specs.{IsVisit, IsHeard, said_notes, said_orders, IsSaid, AreNoted, or_info, IsPage, IsTurned, turn_of, due_after, answered_of}
use Rattle.feedback_core.proofs.Visiting.{told_visit}

-- the message that is told changes neither notes nor orders
page_told : (s : Settings) (k j : ℕ) (m : Message) (history : History) (page : Page) → IsPage s k history page → IsPage s k (told j m ∷ history) page
unfolding newest_notes newest_orders
page_told s k j m history page p = record { notes = p.notes; orders = p.orders }

-- either is nothing
infos_added : (k : ℕ) (said info new : Option Info) → new ≡ or_info said info → (said ≡ None) ⊎ (info ≡ None)
    → option_to_list (option_map (info_order k) info) ++ option_to_list (option_map (info_order k) said) ≡ option_to_list (option_map (info_order k) new)
infos_added k None info new e one = append-nil (option_to_list (option_map (info_order k) info)) ∙ ap (λ (o : Option Info). option_to_list (option_map (info_order k) o)) (sym e)
infos_added k (Some i) None new e one = ap (λ (o : Option Info). option_to_list (option_map (info_order k) o)) (sym e)
infos_added k (Some i) (Some j) new e one = ⊎_elim (λ a. absurd cc) (λ b. absurd cc) one

-- what is said is written
pub said_turn : (s : Settings) (m : Message) (before history lawful : History) (queue waiting : List Wanted) (v w : Visitor) (said : Said) (page new : Page) → v.client ≡ w.client
    → new.notes.items ≡ page.notes.items ++ said_notes w.client said [] → new.info ≡ or_info said.info page.info → (said.info ≡ None) ⊎ (page.info ≡ None)
    → IsTurned s before history waiting w page → IsSaid s before (told w.client m ∷ history) lawful queue v said → IsTurned s before lawful queue v new
said_turn s m before history lawful queue waiting v w said page new ke ne ie one t a =
    let p : IsPage s v.client (told w.client m ∷ history) page =
    page_told s v.client w.client m history page (subst (λ (k : ℕ). IsPage s k history page) (sym ke) t.written) in
    let k = v.client in
    let ne' : new.notes.items ≡ page.notes.items ++ said_notes k said [] = ne ∙ ap (λ (j : ℕ). page.notes.items ++ said_notes j said []) (sym ke) in
    record {
      visit = a.visit;
      written = record {
        notes = a.notes [] ∙ notes_behind (told w.client m ∷ history) (said_notes k said []) ∙ ap (λ (ns : List Note). ns ++ said_notes k said []) p.notes ∙ sym ne';
        orders = a.orders [] ∙ ap (newest_orders s (told w.client m ∷ history)) (append-nil (said_orders k said))
            ∙ orders_behind s (told w.client m ∷ history) (said_orders k said) ∙ ap (λ (os : List Order). os ++ said_orders k said) p.orders
            ∙ infos_added k said.info page.info new.info ie one;
      };
    }

-- what is noted is on the page
pub noted_turn : (s : Settings) (m : Message) (before history lawful : History) (queue waiting : List Wanted) (v w : Visitor) (page new : Page) → v.client ≡ w.client
    → new.info ≡ page.info → IsTurned s before history waiting w page
    → AreNoted s before (told w.client m ∷ history) lawful queue v page.notes.items new.notes.items → IsTurned s before lawful queue v new
noted_turn s m before history lawful queue waiting v w page new ke ie t a =
    let p : IsPage s v.client (told w.client m ∷ history) page =
    page_told s v.client w.client m history page (subst (λ (k : ℕ). IsPage s k history page) (sym ke) t.written) in
    record {
      visit = a.visit;
      written = record { notes = a.notes p.notes; orders = a.orders ∙ p.orders ∙ ap (λ (o : Option Info). option_to_list (option_map (info_order v.client) o)) (sym ie) };
    }

-- what a message is answered on
told_hold : (s : Settings) (k : ℕ) (m : Message) (history : History) (held : List Held) → hold s history ≡ held → hold s (told k m ∷ history) ≡ held
unfolding arrivals
told_hold s k m history held e = e

pub told_turn : (s : Settings) (m : Message) (before history : History) (queue : List Wanted) (v : Visitor) (page : Page) → IsTurned s before history queue v page
    → IsVisit s before (told v.client m ∷ history) v queue
told_turn s m before history queue v page t = told_visit s m before history v queue t.visit

-- no message, or one that is not answered
pub no_turn : (s : Settings) (k : ℕ) (due : Bool) (m : Option Message) (before history : History) (queue : List Wanted) (v : Visitor) (page : Page) → turn_of due m ≡ []
    → IsTurned s before history queue v page → IsTurned s before (after_messages s k (turn_of due m) history) queue v page
unfolding after_messages
no_turn s k due m before history queue v page e t =
    subst (λ (ms : List Message). IsTurned s before (after_messages s k ms history) queue v page) (sym e) t

pub one_turn : (s : Settings) (k : ℕ) (due : Bool) (m : Option Message) (x : Message) (before history : History) (queue : List Wanted) (v : Visitor) (page : Page)
    → turn_of due m ≡ x ∷ [] → IsTurned s before (after_message s k x (told k x ∷ history)) queue v page
    → IsTurned s before (after_messages s k (turn_of due m) history) queue v page
unfolding after_messages
one_turn s k due m x before history queue v page e t =
    subst (λ (ms : List Message). IsTurned s before (after_messages s k ms history) queue v page) (sym e) t

pub is_skipped : (due : Bool) (m : Message) → (not (is_rams m) || due) ≡ false → turn_of due (Some m) ≡ []
is_skipped due m f = skipped (is_rams m) due f
  where
    skipped : (rams due : Bool) → (not rams || due) ≡ false → cond (rams && not due) [] (m ∷ []) ≡ []
    skipped true true e = absurd cc
    skipped true false e = refl
    skipped false due e = absurd cc

pub is_taken : (due : Bool) (m : Message) → (not (is_rams m) || due) ≡ true → turn_of due (Some m) ≡ m ∷ []
is_taken due m t = taken (is_rams m) due t
  where
    taken : (rams due : Bool) → (not rams || due) ≡ true → cond (rams && not due) [] (m ∷ []) ≡ m ∷ []
    taken true true e = refl
    taken true false e = absurd cc
    taken false due e = refl

-- packet by packet
abbrev answered_from : Bool → List Message → List Message
answered_from true ms = with_one_rams ms
answered_from false ms = filter (λ m. not (is_rams m)) ms

same_answered : (due : Bool) (ps : List Framed) → answered_of due ps ≡ answered_from due (filter_map message_of ps)
same_answered true ps = refl
same_answered false ps = refl

with_message : (due : Bool) (m : Message) (ms : List Message) → answered_from due (m ∷ ms) ≡ turn_of due (Some m) ++ answered_from (due && not (is_rams m)) ms
with_message true m ms = by_kind (is_rams m)
  where
    by_kind : (rams : Bool) → cond rams (m ∷ filter (λ x. not (is_rams x)) ms) (m ∷ with_one_rams ms) ≡ cond (rams && not true) [] (m ∷ []) ++ answered_from (not rams) ms
    by_kind true = refl
    by_kind false = refl
with_message false m ms = by_kind (is_rams m)
  where
    by_kind : (rams : Bool) → cond (not rams) (m ∷ filter (λ x. not (is_rams x)) ms) (filter (λ x. not (is_rams x)) ms)
        ≡ cond (rams && not false) [] (m ∷ []) ++ filter (λ x. not (is_rams x)) ms
    by_kind true = refl
    by_kind false = refl

with_packet : (due : Bool) (o : Option Message) (ms : List Message) → answered_from due (cons_option o ms) ≡ turn_of due o ++ answered_from (due_after due o) ms
with_packet due None ms = refl
with_packet due (Some m) ms = with_message due m ms

pub next_packet : (due : Bool) (p : Framed) (ps : List Framed) → answered_of due (p ∷ ps) ≡ turn_of due (message_of p) ++ answered_of (due_after due (message_of p)) ps
next_packet due p ps =
    same_answered due (p ∷ ps) ∙ with_packet due (message_of p) (filter_map message_of ps)
    ∙ ap (λ (ms : List Message). turn_of due (message_of p) ++ ms) (sym (same_answered (due_after due (message_of p)) ps))

pub messages_joined : (s : Settings) (k : ℕ) (ms ns : List Message) (history : History) → after_messages s k (ms ++ ns) history ≡ after_messages s k ns (after_messages s k ms history)
unfolding after_messages
messages_joined s k [] ns history = refl
messages_joined s k (m ∷ ms) ns history = messages_joined s k ms ns (after_message s k m (told k m ∷ history))

-- who sent it
told_sender : (k : ℕ) (m : Message) (history : History) (from : Option ℕ) → sender m ≡ from → newest_sender (told k m ∷ history) ≡ from
unfolding newest_sender
told_sender k m history from e = e

pub told_heard : (s : Settings) (k : ℕ) (m : Message) (history : History) (held : List Held) (from : ℕ) → hold s history ≡ held → sender m ≡ Some from → IsHeard s held from (told k m ∷ history)
told_heard s k m history held from he e = record { held_is = told_hold s k m history held he; sender_is = told_sender k m history (Some from) e }

-- whether a RAMS message is due is not written
pub due_turn : (s : Settings) (before history : History) (queue : List Wanted) (v : Visitor) (page new : Page) (due : Bool) → new ≡ record page { is_due = due }
    → IsTurned s before history queue v page → IsTurned s before history queue v new
due_turn s before history queue v page new due e t =
    subst (λ (p : Page). IsTurned s before history queue v p) (sym e) (record { visit = t.visit; written = record { notes = t.written.notes; orders = t.written.orders } })

-- several packets
pub record IsPartway (s : Settings) (held : List Held) (k : ℕ) (before history : History) (all : List Message) (due : Bool) (left : List Framed) (queue : List Wanted) (v : Visitor)
    (page : Page) : Type 0 where
  pub middle : History
  pub turned : IsTurned s before middle queue v page
  pub held_is : hold s middle ≡ held
  pub rest : after_messages s k (answered_of due left) middle ≡ after_messages s k all history

hold_same : (s : Settings) (before history : History) (v : Visitor) (queue : List Wanted) → IsVisit s before history v queue → hold s history ≡ hold s before
hold_same s before history v queue w = ap (λ (packets : List Arrival). sources.hold s.channel.window s.channel.ring (stream_of s.channel.window packets)) w.arrivals_are

pub after_packet : (s : Settings) (held : List Held) (k client : ℕ) (before history : History) (all : List Message) (due new_due : Bool) (left rest : List Framed) (p : Framed)
    (queue later : List Wanted) (v w : Visitor) (page new : Page) (a : IsPartway s held k before history all due left queue v page) → client ≡ k → left ≡ p ∷ rest
    → new_due ≡ due_after due (message_of p) → IsTurned s before (after_messages s client (turn_of due (message_of p)) a.middle) later w new
    → IsPartway s held k before history all new_due rest later w new
after_packet s held k client before history all due new_due left rest p queue later v w page new a ke e de t =
    let turns = turn_of due (message_of p) in
    let t' = subst (λ (j : ℕ). IsTurned s before (after_messages s j turns a.middle) later w new) ke t in
    let middle = after_messages s k turns a.middle in
    record {
      middle = middle;
      turned = t';
      held_is = hold_same s before middle w later t'.visit ∙ sym (hold_same s before a.middle v queue a.turned.visit) ∙ a.held_is;
      rest = ap (λ (d : Bool). after_messages s k (answered_of d rest) middle) de
          ∙ sym (messages_joined s k turns (answered_of (due_after due (message_of p)) rest) a.middle)
          ∙ ap (λ (ms : List Message). after_messages s k ms a.middle) (sym (next_packet due p rest))
          ∙ ap (λ (ps : List Framed). after_messages s k (answered_of due ps) a.middle) (sym e) ∙ a.rest;
    }

none_answered : (due : Bool) → answered_of due [] ≡ []
none_answered true = refl
none_answered false = refl

pub at_last : (s : Settings) (held : List Held) (k : ℕ) (before history : History) (all : List Message) (due : Bool) (left : List Framed) (queue : List Wanted) (v : Visitor) (page : Page)
    → IsPartway s held k before history all due left queue v page → left ≡ [] → IsTurned s before (after_messages s k all history) queue v page
unfolding after_messages
at_last s held k before history all due left queue v page a e =
    let done : a.middle ≡ after_messages s k all history =
    ap (λ (ms : List Message). after_messages s k ms a.middle) (sym (ap (answered_of due) e ∙ none_answered due)) ∙ a.rest in
    subst (λ (h : History). IsTurned s before h queue v page) done a.turned
