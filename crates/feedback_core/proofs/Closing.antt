-- What the parts stand for as a datagram ends.
use Rattle.std.proofs.Common.{◌≡◌, ◌≢◌, ℕ, true, List, [], ◌∷◌, None, Result, Ok, Err, refl, ap, sym, ◌∙◌, subst, eqb}
use Rattle.std.specs.Prelude.{IsSome, All, option_map, option_to_list}
use Rattle.std.proofs.lemmas.Bool.{cond-false, ne_eqb}
use Rattle.rams_model.specs.declared.{Order.Order, Event.Event, FrameFault.FrameFault, Note.Note, Event.TheVariants.Feedback}
use Rattle.rams_model.specs.declared.Note.TheVariants.{BadFeedback}
use Rattle.rams_model.specs.Service.{answered, Settings, Message, messages, unframed, heard_feedback, heard_of, began, noted, History, arrivals, known, is_among, without, sendings, ssrc, bursts, Wanted, pending, quiet_ticks, channel_left, info_order, order_of, newest_notes, newest_orders, newest_answer, after_messages, after_hearing, history_of, answer}
use Rattle.rams_model.specs.Formats.{Framed, framed}
use Rattle.reckoning.specs.link_budget.Amounts.{Amounts}
use Rattle.client_table.specs.Clients.{Clients}
use Rattle.client_table.specs.{entry_of, awake, changed, changed_by}
use Rattle.channel_parts.specs.declared.Parts.{Parts}
use Rattle.channel_parts.specs.{IsTable, IsQueue, IsBudget, IsCache, StandsFor}
use Rattle.channel_parts.proofs.Facts.{events_reserve_nothing, other_notes_reserve_nothing, only_known_clients_have_bursts, repairs_are_of_known_clients}
use Rattle.channel_parts.proofs.Given.{moment}
use Rattle.channel_parts.proofs.Staying.{cache_stays}
use Rattle.feedback_core.specs.declared.{page.Page.Page, visitor.Visitor.Visitor}
use Rattle.feedback_core.specs.{woken, IsAsBefore, IsClient, IsVisit, answered_of, IsTurned, has_place, with_place, with_kept}
use Rattle.feedback_core.proofs.Beginning.{at_datagram}
use Rattle.feedback_core.proofs.Places.{OthersAreClosed, place_is, table_ended, table_woken}
use Rattle.feedback_core.proofs.Visiting.{entry_as_before}

-- the history after a datagram that frames
pub history_framed : (s : Settings) (events : List Event) (k : ℕ) (bytes : List ℕ) (ps : List Framed) → framed bytes ≡ Ok ps
    → history_of s (Feedback k bytes ∷ events) ≡ after_messages s k (answered_of true ps) (at_datagram k (answered_of true ps) (history_of s events))
unfolding history_of heard_of after_hearing messages
history_framed s events k bytes ps e = ap (λ (r : Result (List Framed) FrameFault). after_hearing s (heard_feedback k r) (history_of s events)) e

-- what is read of the others is as it was before the datagram
begun_as_before : (s : Settings) (j k : ℕ) (ms : List Message) (history after : History) → j ≢ k → IsAsBefore s j (at_datagram k ms history) after → IsAsBefore s j history after
unfolding known ssrc sendings bursts quiet_ticks pending
begun_as_before s j k ms history after ne was = record {
  known_is = was.known_is;
  ssrc_is = was.ssrc_is;
  sendings_is = was.sendings_is;
  bursts_is = was.bursts_is;
  quiet_is = was.quiet_is ∙ cond-false (eqb k j) 0 (quiet_ticks s j history) (ne_eqb k j (λ e. ne (sym e)));
  waits_is = was.waits_is;
}

begun_arrivals : (k : ℕ) (ms : List Message) (history : History) → arrivals (at_datagram k ms history) ≡ arrivals history
unfolding arrivals
begun_arrivals k ms history = refl

-- The parts after a datagram that frames, where their table is what the history says.
pub stands_visited : (p new : Parts) (events : List Event) (k : ℕ) (bytes : List ℕ) (ms : List Message) (queue : List Wanted) (v : Visitor) (table : Clients) → StandsFor p events
    → IsVisit p.config (at_datagram k ms (history_of p.config events)) (history_of p.config (Feedback k bytes ∷ events)) v queue
    → IsTable p.config (history_of p.config (Feedback k bytes ∷ events)) table
    → new ≡ record { config = p.config; cache = p.cache; budget = v.budget; queue = queue; table = table } → StandsFor new (Feedback k bytes ∷ events)
stands_visited p new events k bytes ms queue v table st w is_table ne =
    let s = p.config in
    let history = history_of s events in
    let after = history_of s (Feedback k bytes ∷ events) in
    let whole : StandsFor (record { config = p.config; cache = p.cache; budget = v.budget; queue = queue; table = table }) (Feedback k bytes ∷ events) =
    record {
      lawful = st.lawful;
      packets = cache_stays s history after p.cache (w.arrivals_are ∙ begun_arrivals k ms history) st.packets;
      table = is_table;
      queue = record {
        pending_is = w.queue_is;
        known_is = subst (All (λ w. is_among w.client (known after) ≡ true)) (sym w.queue_is) (repairs_are_of_known_clients s after st.lawful (moment s (Feedback k bytes ∷ events)));
      };
      budget = w.budget_is;
    } in
    subst (λ (x : Parts). StandsFor x (Feedback k bytes ∷ events)) (sym ne) whole

-- The parts after a datagram that frames, and its answer.
pub stands_after : (p new : Parts) (events : List Event) (k seq0 : ℕ) (bytes : List ℕ) (ps : List Framed) (queue : List Wanted) (v : Visitor) (page : Page) → StandsFor p events
    → framed bytes ≡ Ok ps → v.client ≡ k → v.has_place ≡ has_place p.table k → (IsSome v.entry → v.has_place ≡ true)
    → (let ms = answered_of true ps in let base = at_datagram k ms (history_of p.config events) in IsTurned p.config base (after_messages p.config k ms base) queue v page)
    → new ≡ record { config = p.config; cache = p.cache; budget = v.budget; queue = queue; table = with_kept (with_place p.table k seq0) k v.entry }
    → StandsFor new (Feedback k bytes ∷ events)
unfolding known
stands_after p new events k seq0 bytes ps queue v page st e ke pe placed t ne =
    let s = p.config in
    let history = history_of s events in
    let ms = answered_of true ps in
    let base = at_datagram k ms history in
    let after = history_of s (Feedback k bytes ∷ events) in
    let w : IsVisit s base after v queue = subst (λ (h : History). IsVisit s base h v queue) (sym (history_framed s events k bytes ps e)) t.visit in
    let closed : OthersAreClosed s after = λ j. only_known_clients_have_bursts s (Feedback k bytes ∷ events) st.lawful j in
    let table : IsTable s after (with_kept (with_place p.table k seq0) k v.entry) =
    table_ended s k history after p.table (with_place p.table k seq0) (has_place p.table k) v.entry st.table (place_is k seq0 history p.table st.table.clients)
    (subst (λ (j : ℕ). IsClient s j after v.entry) ke w.client_is) (λ some. sym pe ∙ placed some)
    (λ j away. begun_as_before s j k ms history after away (w.others j (λ q. away (q ∙ ke))))
    (subst (λ (j : ℕ). without j (known after) ≡ without j (known history)) ke w.rest) closed in
    stands_visited p new events k bytes ms queue v (with_kept (with_place p.table k seq0) k v.entry) st w table ne

-- The same of a datagram without a message.
pub stands_unasked : (p new : Parts) (events : List Event) (k : ℕ) (bytes : List ℕ) (ms : List Message) (v : Visitor) → StandsFor p events → v.client ≡ k
    → v.entry ≡ woken (entry_of p.table k) → v.budget ≡ p.budget
    → IsVisit p.config (at_datagram k ms (history_of p.config events)) (history_of p.config (Feedback k bytes ∷ events)) v p.queue
    → new ≡ record p { table = changed awake p.table k } → StandsFor new (Feedback k bytes ∷ events)
unfolding known
stands_unasked p new events k bytes ms v st ke ee be w ne =
    let s = p.config in
    let history = history_of s events in
    let after = history_of s (Feedback k bytes ∷ events) in
    let o = entry_of p.table k in
    let closed : OthersAreClosed s after = λ j. only_known_clients_have_bursts s (Feedback k bytes ∷ events) st.lawful j in
    let client : IsClient s k after (woken o) = subst (IsClient s k after) ee (subst (λ (j : ℕ). IsClient s j after v.entry) ke w.client_is) in
    let table : IsTable s after (changed_by awake p.table k o) =
    table_woken s k history after p.table o refl st.table client (λ j away. begun_as_before s j k ms history after away (w.others j (λ q. away (q ∙ ke))))
    (subst (λ (j : ℕ). without j (known after) ≡ without j (known history)) ke w.rest) closed in
    stands_visited p new events k bytes ms p.queue v (changed_by awake p.table k o) st w table
    (ne ∙ ap (λ (b : Amounts). record p { budget = b; table = changed_by awake p.table k o }) (sym be))

pub answer_after : (s : Settings) (events : List Event) (k : ℕ) (bytes : List ℕ) (ps : List Framed) (queue : List Wanted) (v : Visitor) (page : Page) (orders : List Order)
    → framed bytes ≡ Ok ps → v.client ≡ k
    → (let ms = answered_of true ps in let base = at_datagram k ms (history_of s events) in IsTurned s base (after_messages s k ms base) queue v page)
    → orders ≡ option_to_list (option_map (info_order k) page.info) → answered page.notes.items orders ≡ answer s events (Feedback k bytes)
answer_after s events k bytes ps queue v page orders e ke t oe =
    let ms = answered_of true ps in
    let last = after_messages s k ms (at_datagram k ms (history_of s events)) in
    let orders' : newest_orders s last [] ≡ orders = t.written.orders ∙ ap (λ (j : ℕ). option_to_list (option_map (info_order j) page.info)) ke ∙ sym oe in
    ap (λ (ns : List Note). answered ns orders) (sym t.written.notes) ∙ ap (answered (newest_notes last [])) (sym orders') ∙ ap (newest_answer s) (sym (history_framed s events k bytes ps e))

-- A datagram that doesn't frame changes nothing.
history_unframed : (s : Settings) (events : List Event) (k : ℕ) (bytes : List ℕ) (fault : FrameFault) → framed bytes ≡ Err fault
    → history_of s (Feedback k bytes ∷ events) ≡ noted (BadFeedback k fault) None ∷ began (unframed k fault) ∷ history_of s events
unfolding history_of heard_of after_hearing
history_unframed s events k bytes fault e = ap (λ (r : Result (List Framed) FrameFault). after_hearing s (heard_feedback k r) (history_of s events)) e

unframed_as_before : (s : Settings) (j k : ℕ) (fault : FrameFault) (history : History) → IsAsBefore s j history (noted (BadFeedback k fault) None ∷ began (unframed k fault) ∷ history)
unfolding known ssrc sendings bursts quiet_ticks pending
unframed_as_before s j k fault history = record { known_is = refl; ssrc_is = refl; sendings_is = refl; bursts_is = refl; quiet_is = refl; waits_is = refl }

unframed_stands : (p : Parts) (events : List Event) (k : ℕ) (fault : FrameFault) → StandsFor p events
    → (let after = noted (BadFeedback k fault) None ∷ began (unframed k fault) ∷ history_of p.config events in
    IsCache p.config after p.cache × IsTable p.config after p.table × IsQueue after p.queue × IsBudget p.config after p.budget)
unfolding arrivals known pending channel_left bursts
unframed_stands p events k fault st =
    let s = p.config in
    let history = history_of s events in
    let middle = began (unframed k fault) ∷ history in
    let after = noted (BadFeedback k fault) None ∷ middle in (
      cache_stays s history after p.cache refl st.packets,
      record {
        most = st.table.most;
        clients = st.table.clients;
        entries = λ j e found. entry_as_before s j history after e (unframed_as_before s j k fault history) (st.table.entries j e found);
        others = st.table.others;
      },
      record { pending_is = st.queue.pending_is; known_is = st.queue.known_is },
      st.budget ∙ ap (λ (n : ℕ). record p.budget { share = s.channel.share; reserve = s.channel.reserve; swell = s.channel.swell; reserved = n; left = channel_left s history })
          (sym (other_notes_reserve_nothing s (BadFeedback k fault) None middle refl ∙ events_reserve_nothing s (unframed k fault) history)),
    )

pub stands_unframed : (p : Parts) (events : List Event) (k : ℕ) (bytes : List ℕ) (fault : FrameFault) → StandsFor p events → framed bytes ≡ Err fault
    → StandsFor p (Feedback k bytes ∷ events)
stands_unframed p events k bytes fault st e =
    let s = p.config in
    let is = history_unframed s events k bytes fault e in
    let u = unframed_stands p events k fault st in
    record {
      lawful = st.lawful;
      packets = subst (λ (h : History). IsCache s h p.cache) (sym is) u.0;
      table = subst (λ (h : History). IsTable s h p.table) (sym is) u.1;
      queue = subst (λ (h : History). IsQueue h p.queue) (sym is) u.2;
      budget = subst (λ (h : History). IsBudget s h p.budget) (sym is) u.3;
    }

pub answer_unframed : (s : Settings) (events : List Event) (k : ℕ) (bytes : List ℕ) (fault : FrameFault) → framed bytes ≡ Err fault
    → answered (BadFeedback k fault ∷ []) [] ≡ answer s events (Feedback k bytes)
unfolding newest_notes newest_orders order_of
answer_unframed s events k bytes fault e = ap (newest_answer s) (sym (history_unframed s events k bytes fault e))
