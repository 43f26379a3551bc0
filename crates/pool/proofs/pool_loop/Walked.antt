-- The books of all channels, read side by side, have the text that `run` writes for their events.
use Rattle.std.proofs.Common.{◌≡◌, ◌≢◌, ℕ, suc, ◌+◌, Bool, true, false, cond, eqb, List, [], ◌∷◌, ◌++◌, map, Some, None, refl, sym, ap, subst, ◌∙◌, arith, append-nil}
use Rattle.std.specs.Prelude.{All, AllPairs, ◌||◌}
use Rattle.std.specs.List.{flat_map, list_any}
use Rattle.std.proofs.lemmas.Bool.{ne_eqb, eqb-true}
use Rattle.rams_model.specs.declared.Event.{Event}
use Rattle.rams_model.specs.declared.Event.TheVariants as event
use Rattle.rams_model.specs.Service.{Settings, answer}
use Rattle.rams_model.specs.Texts.{answer_text}
use Rattle.book_text.specs.{no_channel_line}
use Rattle.channel_book.specs.declared.Entry.{Entry}
use Rattle.channel_book.specs.{Kept, LegalFrom}
use Rattle.server_hub.specs.declared.HubEvent.{HubEvent}
use Rattle.server_hub.specs.declared.HubEvent.TheVariants.{Live, Feedback, Tick}
use Rattle.server_hub.specs.{Pairwise, id_of, with_event, channel_of, after_event_of, after_tick, after_event, events_of, ids_of}
use Rattle.server_hub.specs.Served.{Served}
use Rattle.server_hub.proofs.Changing.{first_once, rest_once}
use Rattle.trace_loop.specs.trace_book.{settings_of, channel_text, named_text, event_text}
use Rattle.trace_loop.proofs.trace_book.Served.{settings_after}
use Rattle.trace_loop.specs.journal_book.{text_for}
use Rattle.pool.specs.declared.pool_loop.routes.Route.TheVariants.{To, Everyone}
use Rattle.pool.specs.pool_loop.{route_of, kept, number_of, next_text, turned, heard_text, past, all_past, route_text, walk_text}

abbrev pub event_in : Entry → Event
event_in e = e.event

-- What is left of a channel's book, where these events are still to come: its lawful answers to those that come to it.
pub record IsPending (events : List HubEvent) (c : Served) (b : Kept) : Type 0 where
  pub settings : b.settings ≡ c.settings
  pub legal : LegalFrom c.settings c.events b.entries
  pub comes : map event_in b.entries ≡ events_of (id_of c) events

abbrev pub ArePending : List HubEvent → List Served → List Kept → Type 0
ArePending events channels books = Pairwise (IsPending events) channels books

abbrev pub StandOnce : List Served → Type 0
StandOnce cs = AllPairs (λ x y. x ≢ y) (ids_of (settings_of cs))

-- ---- one channel

-- What a book has for an event of its channel, and what it is then.
record Hears (number : ℕ) (e : Event) (events : List HubEvent) (c : Served) (b : Kept) : Type 0 where
  pub text : next_text number b ≡ channel_text number e c
  pub rest : IsPending events (with_event e c) (turned b)

hears_so : (number : ℕ) (e : Event) (events : List HubEvent) (c : Served) (s : Settings) (entries : List Entry) → s ≡ c.settings → LegalFrom c.settings c.events entries → map event_in entries ≡ e ∷ events_of (id_of c) events
    → Hears number e events c (kept s entries)
hears_so number e events c s [] same legal comes = absurd cc
hears_so number e events c s (x ∷ later) same legal comes =
    let first : x.event ≡ e = cc comes in
    let rest : map event_in later ≡ events_of (id_of c) events = cc comes in
    record {
      text = ap (λ (t : Settings). answer_text t number x.answer) same ∙ ap (answer_text c.settings number) (legal.0 ∙ ap (answer c.settings c.events) first);
      rest = record {
        settings = same;
        legal = subst (λ (y : Event). LegalFrom c.settings (y ∷ c.events) later) first legal.1;
        comes = rest;
      };
    }

-- an event that names a number
module _ (id : ℕ) (e : Event) (h : HubEvent) (events : List HubEvent) (number : ℕ) (is : (k : ℕ) → events_of k (h ∷ events) ≡ cond (eqb k id) (e ∷ events_of k events) (events_of k events)) where
  own : (c : Served) (b : Kept) → IsPending (h ∷ events) c b → eqb (id_of c) id ≡ true → Hears number e events c b
  own c b p its = hears_so number e events c b.settings b.entries p.settings p.legal (p.comes ∙ is (id_of c) ∙ ap (λ (x : Bool). cond x (e ∷ events_of (id_of c) events) (events_of (id_of c) events)) its)

  other : (c : Served) (b : Kept) → IsPending (h ∷ events) c b → eqb (id_of c) id ≡ false → IsPending events c b
  other c b p its = record { settings = p.settings; legal = p.legal; comes = p.comes ∙ is (id_of c) ∙ ap (λ (x : Bool). cond x (e ∷ events_of (id_of c) events) (events_of (id_of c) events)) its }

  same_number : (c : Served) (b : Kept) → IsPending (h ∷ events) c b → (x : Bool) → eqb (id_of c) id ≡ x → eqb (number_of b) id ≡ x
  same_number c b p x its = ap (λ (s : Settings). eqb s.channel.id id) p.settings ∙ its

  one_past : (c : Served) (b : Kept) (x : Bool) → eqb (id_of c) id ≡ x → IsPending (h ∷ events) c b → IsPending events (cond (eqb (id_of c) id) (with_event e c) c) (past (To id) b)
  one_past c b true its p =
      let mine = same_number c b p true its in
      subst (λ (x : Bool). IsPending events (cond x (with_event e c) c) (past (To id) b)) (sym its)
      (subst (λ (x : Bool). IsPending events (with_event e c) (cond x (turned b) b)) (sym mine) (own c b p its).rest)
  one_past c b false its p =
      let mine = same_number c b p false its in
      subst (λ (x : Bool). IsPending events (cond x (with_event e c) c) (past (To id) b)) (sym its)
      (subst (λ (x : Bool). IsPending events c (cond x (turned b) b)) (sym mine) (other c b p its))

  all_one_past : (cs : List Served) (bs : List Kept) → ArePending (h ∷ events) cs bs → ArePending events (after_event_of id e cs) (all_past (To id) bs)
  all_one_past [] [] p = tt
  all_one_past [] (b ∷ bs) p = absurd p
  all_one_past (c ∷ cs) [] p = absurd p
  all_one_past (c ∷ cs) (b ∷ bs) p = (one_past c b (eqb (id_of c) id) refl p.0, all_one_past cs bs p.1)

  -- no other channel has it
  record Nobody (cs : List Served) (bs : List Kept) : Type 0 where
    heard : flat_map (heard_text number (To id)) bs ≡ []
    unheard : list_any (λ b. eqb (number_of b) id) bs ≡ false
    none : channel_of id cs ≡ None

  nobody : (cs : List Served) (bs : List Kept) → ArePending (h ∷ events) cs bs → All (λ k. k ≢ id) (ids_of (settings_of cs)) → Nobody cs bs
  nobody [] [] p apart = record { heard = refl; unheard = refl; none = refl }
  nobody [] (b ∷ bs) p apart = absurd p
  nobody (c ∷ cs) [] p apart = absurd p
  nobody (c ∷ cs) (b ∷ bs) p apart =
      let its : eqb (id_of c) id ≡ false = ne_eqb (id_of c) id (apart 0 id (omega arith)) in
      let mine = same_number c b p.0 false its in
      let more = nobody cs bs p.1 (λ k d less. apart (suc k) d (omega (arith, less))) in
      record {
        heard = ap (λ (x : Bool). cond x (next_text number b) [] ++ flat_map (heard_text number (To id)) bs) mine ∙ more.heard;
        unheard = ap (λ (x : Bool). x || list_any (λ y. eqb (number_of y) id) bs) mine ∙ more.unheard;
        none = ap (λ (x : Bool). cond x (Some c) (channel_of id cs)) its ∙ more.none;
      }

  -- what stands for an event that nobody heard
  abbrev silent : Bool → List ℕ
  silent any = cond any [] (no_channel_line number id)

  one_text : (cs : List Served) (bs : List Kept) → ArePending (h ∷ events) cs bs → StandOnce cs → route_text number (To id) bs ≡ named_text number id e (channel_of id cs)
  one_text [] [] p once = append-nil (no_channel_line number id)
  one_text [] (b ∷ bs) p once = absurd p
  one_text (c ∷ cs) [] p once = absurd p
  one_text (c ∷ cs) (b ∷ bs) p once = by (eqb (id_of c) id) refl (one_text cs bs p.1 (rest_once (id_of c) (ids_of (settings_of cs)) once))
    where
      by : (x : Bool) → eqb (id_of c) id ≡ x → route_text number (To id) bs ≡ named_text number id e (channel_of id cs) → route_text number (To id) (b ∷ bs) ≡ named_text number id e (channel_of id (c ∷ cs))
      by true its later =
          let mine = same_number c b p.0 true its in
          let same : id_of c ≡ id = eqb-true (id_of c) id its in
          let rest = nobody cs bs p.1 (subst (λ (k : ℕ). All (λ y. y ≢ k) (ids_of (settings_of cs))) same (first_once (id_of c) (ids_of (settings_of cs)) once)) in
          ap (λ (x : Bool). silent (x || list_any (λ y. eqb (number_of y) id) bs) ++ (cond x (next_text number b) [] ++ flat_map (heard_text number (To id)) bs)) mine
          ∙ ap (λ (t : List ℕ). next_text number b ++ t) rest.heard ∙ append-nil (next_text number b) ∙ (own c b p.0 its).text
          ∙ sym (ap (λ (x : Bool). named_text number id e (cond x (Some c) (channel_of id cs))) its)
      by false its later =
          let mine = same_number c b p.0 false its in
          ap (λ (x : Bool). silent (x || list_any (λ y. eqb (number_of y) id) bs) ++ (cond x (next_text number b) [] ++ flat_map (heard_text number (To id)) bs)) mine ∙ later
          ∙ sym (ap (λ (x : Bool). named_text number id e (cond x (Some c) (channel_of id cs))) its)

-- ---- a tick

module _ (events : List HubEvent) (number : ℕ) where
  ticked : (c : Served) (b : Kept) → IsPending (Tick ∷ events) c b → Hears number event.Tick events c b
  unfolding events_of
  ticked c b p = hears_so number event.Tick events c b.settings b.entries p.settings p.legal p.comes

  all_ticked : (cs : List Served) (bs : List Kept) → ArePending (Tick ∷ events) cs bs → ArePending events (after_tick cs) (all_past Everyone bs)
  all_ticked [] [] p = tt
  all_ticked [] (b ∷ bs) p = absurd p
  all_ticked (c ∷ cs) [] p = absurd p
  all_ticked (c ∷ cs) (b ∷ bs) p = ((ticked c b p.0).rest, all_ticked cs bs p.1)

  tick_text : (cs : List Served) (bs : List Kept) → ArePending (Tick ∷ events) cs bs → flat_map (heard_text number Everyone) bs ≡ flat_map (channel_text number event.Tick) cs
  tick_text [] [] p = refl
  tick_text [] (b ∷ bs) p = absurd p
  tick_text (c ∷ cs) [] p = absurd p
  tick_text (c ∷ cs) (b ∷ bs) p =
      ap (λ (t : List ℕ). t ++ flat_map (heard_text number Everyone) bs) (ticked c b p.0).text ∙ ap (λ (t : List ℕ). channel_text number event.Tick c ++ t) (tick_text cs bs p.1)

-- ---- all events

-- What an event has in the books, and what they are then.
record IsWalked (e : HubEvent) (events : List HubEvent) (number : ℕ) (cs : List Served) (bs : List Kept) : Type 0 where
  text : route_text number (route_of e) bs ≡ event_text number e cs
  rest : ArePending events (after_event e cs) (all_past (route_of e) bs)

live_of : (id : ℕ) (bytes : List ℕ) (events : List HubEvent) (k : ℕ) → events_of k (Live id bytes ∷ events) ≡ cond (eqb k id) (event.Live bytes ∷ events_of k events) (events_of k events)
unfolding events_of
live_of id bytes events k = refl

feedback_of : (id client : ℕ) (bytes : List ℕ) (events : List HubEvent) (k : ℕ) → events_of k (Feedback id client bytes ∷ events) ≡ cond (eqb k id) (event.Feedback client bytes ∷ events_of k events) (events_of k events)
unfolding events_of
feedback_of id client bytes events k = refl

walked : (e : HubEvent) (events : List HubEvent) (number : ℕ) (cs : List Served) (bs : List Kept) → StandOnce cs → ArePending (e ∷ events) cs bs → IsWalked e events number cs bs
walked (Live id bytes) events number cs bs once p =
    let is = live_of id bytes events in
    record { text = one_text id (event.Live bytes) (Live id bytes) events number is cs bs p once; rest = all_one_past id (event.Live bytes) (Live id bytes) events number is cs bs p }
walked (Feedback id client bytes) events number cs bs once p =
    let is = feedback_of id client bytes events in
    record {
      text = one_text id (event.Feedback client bytes) (Feedback id client bytes) events number is cs bs p once;
      rest = all_one_past id (event.Feedback client bytes) (Feedback id client bytes) events number is cs bs p;
    }
walked Tick events number cs bs once p = record { text = tick_text events number cs bs p; rest = all_ticked events number cs bs p }

pub walk : (events : List HubEvent) (count : ℕ) (cs : List Served) (bs : List Kept) → StandOnce cs → ArePending events cs bs → walk_text (count + 1) (map route_of events) bs ≡ text_for count cs events
unfolding walk_text text_for
walk [] count cs bs once p = refl
walk (e ∷ events) count cs bs once p =
    let w = walked e events (count + 1) cs bs once p in
    let later = subst (λ (all : List Settings). AllPairs (λ x y. x ≢ y) (ids_of all)) (sym (settings_after e cs)) once in
    ap (λ (t : List ℕ). t ++ walk_text (count + 1 + 1) (map route_of events) (all_past (route_of e) bs)) w.text
    ∙ ap (λ (t : List ℕ). event_text (count + 1) e cs ++ t) (walk events (count + 1) (after_event e cs) (all_past (route_of e) bs) later w.rest)
