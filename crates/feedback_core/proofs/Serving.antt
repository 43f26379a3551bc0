-- A datagram that frames, from its beginning to its end.
use Rattle.std.proofs.Common.{◌≡◌, ℕ, ◌≤◌, Bool, true, not, List, [], ◌∷◌, length, Option, Some, None, Result, Ok, Err, refl, ap, sym, ◌∙◌, subst, arith}
use Rattle.std.specs.Prelude.{IfOk, is_some, IsSome, option_map, option_to_list}
use Rattle.std.proofs.lemmas.Bool.{or_left}
use Rattle.rams_model.specs.declared.{Event.Event, Event.TheVariants.Feedback}
use Rattle.rams_model.specs.Service.{Answered, answered, Settings, Message, History, arrivals, hold, info_order, newest_notes, newest_orders, newest_answer, after_messages, history_of, answer, Wanted}
use Rattle.rams_model.specs.Formats.{Framed, framed}
use Rattle.reckoning.specs.link_budget.Amounts.{Amounts}
use Rattle.client_table.specs.declared.Entry.{Entry}
use Rattle.client_table.specs.{entry_of, awake, changed}
use Rattle.client_table.specs.Clients.{Clients}
use Rattle.channel_parts.specs.declared.Parts.{Parts}
use Rattle.channel_parts.specs.{StandsFor}
use Rattle.channel_parts.proofs.Facts.{known_clients_are_few}
use Rattle.channel_parts.proofs.Given.{moment, held_is}
use Rattle.feedback_core.specs.declared.{page.Page.Page, visitor.Visitor.Visitor}
use Rattle.feedback_core.specs.{woken, answered_of, IsVisit, IsPage, IsTurned, Holds, ServesAt, is_full_table, has_place, with_place, with_kept, IsReady, IsSafe, AreOfOne}
use Rattle.feedback_core.proofs.Beginning.{at_datagram, visit_begun, page_begun, ready_is, safe_begun}
use Rattle.feedback_core.proofs.Places.{place_counts}
use Rattle.feedback_core.proofs.Closing.{history_framed, stands_after, stands_unasked, answer_after}

-- the client as it was received
abbrev pub received : Parts → ℕ → Visitor
received p k = record { client = k; entry = woken (entry_of p.table k); has_place = has_place p.table k; budget = p.budget }

-- the parts with its place
abbrev pub placed_parts : Parts → ℕ → Parts
placed_parts p k = record p { table = with_place p.table k p.config.channel.seq0 }

-- the parts as the datagram ends
pub parts_ended : (p new : Parts) (budget : Amounts) (left queue : List Wanted) (table kept : Clients) → new ≡ record p { budget = budget; queue = left; table = table } → left ≡ queue → table ≡ kept
    → new ≡ record p { budget = budget; queue = queue; table = kept }
parts_ended p new budget left queue table kept is same put =
    is ∙ (ap (λ (ws : List Wanted). record p { budget = budget; queue = ws; table = table }) same ∙ ap (λ (t : Clients). record p { budget = budget; queue = queue; table = t }) put)

known_place : (t : Clients) (k : ℕ) (o : Option Entry) → entry_of t k ≡ o → IsSome (woken o) → has_place t k ≡ true
known_place t k None e some = absurd cc
known_place t k (Some x) e some = or_left (is_some (entry_of t k)) (not (is_full_table t)) (ap is_some e)

pub ready_placed : (p q : Parts) (events : List Event) (k : ℕ) → StandsFor p events → q ≡ placed_parts p k → IsReady q.config q.cache
ready_placed p q events k st e = subst (λ (x : Parts). IsReady x.config x.cache) (sym e) (ready_is p events st)

pub safe_placed : (p q : Parts) (events : List Event) (k : ℕ) (v : Visitor) → StandsFor p events → q ≡ placed_parts p k → v ≡ received p k → IsSafe q.config v
safe_placed p q events k v st e ve =
    subst (λ (x : Parts). IsSafe x.config v) (sym e)
    (subst (IsSafe p.config) (sym ve) (safe_begun p events k (received p k) st refl refl (known_place p.table k (entry_of p.table k) refl)))

-- the visit as the datagram begins
turned_begun : (p : Parts) (events : List Event) (k : ℕ) (ms : List Message) (v : Visitor) (page : Page) → StandsFor p events → v ≡ received p k → page.notes.items ≡ [] → page.info ≡ None
    → IsTurned p.config (at_datagram k ms (history_of p.config events)) (at_datagram k ms (history_of p.config events)) p.queue v page
turned_begun p events k ms v page st ve ne ie =
    let history = history_of p.config events in
    let counts = place_counts p.config k history p.table st.table (known_clients_are_few p.config history (moment p.config events)) in
    record {
      visit = visit_begun p events k ms v st (ap (λ (x : Visitor). x.client) ve) (ap (λ (x : Visitor). x.entry) ve) (ap (λ (x : Visitor). x.has_place) ve ∙ counts)
          (ap (λ (x : Visitor). x.budget) ve);
      written = page_begun p.config k v.client ms history page ne ie;
    }

begun_hold : (s : Settings) (k : ℕ) (ms : List Message) (history : History) → hold s (at_datagram k ms history) ≡ hold s history
unfolding arrivals
begun_hold s k ms history = refl

-- the messages of these packets are answered
abbrev IsServed : Parts → Visitor → Visitor → List Wanted → Page → Page → List Framed → Type 0
IsServed p v w queue page new ps = ServesAt p.config (Holds p.config p.cache.held) v p.queue (λ before history. IsPage p.config v.client history page
    → IsTurned p.config before (after_messages p.config v.client (answered_of page.is_due ps) history) queue w new)

-- what was answered to the messages
pub all_turned : (p q : Parts) (events : List Event) (k : ℕ) (ps : List Framed) (due : Bool) (v w : Visitor) (queue : List Wanted) (page new : Page) → StandsFor p events → q ≡ placed_parts p k
    → v ≡ received p k → page.notes.items ≡ [] → page.info ≡ None → page.is_due ≡ true
    → IsServed q v w queue page new ps
    → (let ms = answered_of true ps in let base = at_datagram k ms (history_of p.config events) in IsTurned p.config base (after_messages p.config k ms base) queue w new)
all_turned p q events k ps due v w queue page new st e ve ne ie de turns =
    let ms = answered_of true ps in
    let base = at_datagram k ms (history_of p.config events) in
    let begun = turned_begun p events k ms v page st ve ne ie in
    let t = subst (λ (x : Parts). IsServed x v w queue page new ps) e turns base base (begun_hold p.config k ms (history_of p.config events) ∙ sym (held_is p events st)) begun.visit begun.written in
    subst (λ (j : ℕ). IsTurned p.config base (after_messages p.config j ms base) queue w new) (ap (λ (x : Visitor). x.client) ve)
    (subst (λ (d : Bool). IsTurned p.config base (after_messages p.config v.client (answered_of d ps) base) queue w new) de t)

pub served : (p q new : Parts) (events : List Event) (k : ℕ) (bytes : List ℕ) (ps : List Framed) (v w : Visitor) (queue : List Wanted) (page written : Page) (given : Answered) → StandsFor p events
    → framed bytes ≡ Ok ps → q ≡ placed_parts p k → v ≡ received p k → page.notes.items ≡ [] → page.info ≡ None → page.is_due ≡ true
    → IsServed q v w queue page written ps
    → AreOfOne v w → (IsSome w.entry → w.has_place ≡ true) → new ≡ record q { budget = w.budget; queue = queue; table = with_kept q.table k w.entry }
    → given ≡ answered written.notes.items (option_to_list (option_map (info_order k) written.info))
    → (given ≡ answer p.config events (Feedback k bytes)) × StandsFor new (Feedback k bytes ∷ events)
served p q new events k bytes ps v w queue page written given st fe e ve ne ie de turns one placed newe ge =
    let t = all_turned p q events k ps true v w queue page written st e ve ne ie de turns in
    let ke : w.client ≡ k = one.client ∙ ap (λ (x : Visitor). x.client) ve in
    let pe : w.has_place ≡ has_place p.table k = one.has_place ∙ ap (λ (x : Visitor). x.has_place) ve in
    let new' = newe ∙ ap (λ (x : Parts). record x { budget = w.budget; queue = queue; table = with_kept x.table k w.entry }) e in (
      ge ∙ answer_after p.config events k bytes ps queue w written (option_to_list (option_map (info_order k) written.info)) fe ke t refl,
      stands_after p new events k p.config.channel.seq0 bytes ps queue w written st fe ke pe placed t new',
    )

-- a datagram without a message
pub unasked : (p new : Parts) (events : List Event) (k : ℕ) (bytes : List ℕ) (ps : List Framed) (given : Answered) → StandsFor p events → framed bytes ≡ Ok ps → answered_of true ps ≡ []
    → new ≡ record p { table = changed awake p.table k } → given ≡ answered [] []
    → (given ≡ answer p.config events (Feedback k bytes)) × StandsFor new (Feedback k bytes ∷ events)
unfolding after_messages newest_notes newest_orders
unasked p new events k bytes ps given st fe none ne ge =
    let s = p.config in
    let history = history_of s events in
    let ms = answered_of true ps in
    let base = at_datagram k ms history in
    let v = received p k in
    let is : history_of s (Feedback k bytes ∷ events) ≡ base = history_framed s events k bytes ps fe ∙ ap (λ (l : List Message). after_messages s k l base) none in
    let counts = place_counts s k history p.table st.table (known_clients_are_few s history (moment s events)) in
    let w = subst (λ (h : History). IsVisit s base h v p.queue) (sym is) (visit_begun p events k ms v st refl refl counts refl) in (
      ge ∙ ap (newest_answer s) (sym is),
      stands_unasked p new events k bytes ms v st refl refl refl w ne,
    )

-- no more notes, and what is answered where there is memory
pub few_within : {F : Type 0} (r : Result Answered F) (notes orders most_notes most_orders : ℕ) → notes ≤ most_notes → orders ≤ most_orders
    → IfOk r (λ a. (length a.notes ≤ notes) × (length a.orders ≤ orders)) → IfOk r (λ a. (length a.notes ≤ most_notes) × (length a.orders ≤ most_orders))
few_within (Ok a) notes orders most_notes most_orders le lo few = (omega (arith, le, few.0), omega (arith, lo, few.1))
few_within (Err f) notes orders most_notes most_orders le lo few = tt
