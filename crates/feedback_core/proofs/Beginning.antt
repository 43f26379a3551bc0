-- What the parts say as a datagram that frames begins.
use Rattle.std.proofs.Common.{◌≡◌, ℕ, ◌+◌, ◌≤◌, true, false, List, [], ◌∷◌, length, Option, Some, None, refl, ap, sym, ◌∙◌, subst, arith, eqb, ltb}
use Rattle.std.specs.Prelude.{is_some, option_map, option_to_list, IfSome, IsSome, All}
use Rattle.std.specs.List.{list_any, AllByRecursion as Each}
use Rattle.std.proofs.lemmas.Bool.{cond-true, or_from, both_ways, eq-eqb, ne_eqb}
use Rattle.std.proofs.lemmas.List.Elements.{recursion_from_All}
use Rattle.rams_model.specs.declared.{Event.Event, Info.Info}
use Rattle.rams_model.specs.Service.{Settings, Message, feedback, began, History, known, is_among, without, sendings, ssrc, bursts, open_burst, Wanted, pending, quiet_ticks, reserved, channel_left, info_order, newest_notes, newest_orders, history_of}
use Rattle.rams_model.specs.Service.Bursts as model
use Rattle.rams_model.proofs.Holding.{ends_at, few_held}
use Rattle.reckoning.specs.link_budget.Amounts.{Amounts}
use Rattle.client_table.specs.declared.{Burst.Burst, Entry.Entry}
use Rattle.client_table.specs.{entry_of}
use Rattle.channel_parts.specs.declared.Parts.{Parts}
use Rattle.channel_parts.specs.{IsEntry, StandsFor, burst_kept, IsBurstInBounds}
use Rattle.channel_parts.proofs.Facts.{events_reserve_nothing, each_burst_is_reserved}
use Rattle.channel_parts.proofs.Given.{held_packets_are_in_order, entries_are_in_bounds}
use Rattle.channel_parts.proofs.Tables.{has_entry, entry_among}
use Rattle.feedback_core.specs.declared.{page.Page.Page, visitor.Visitor.Visitor}
use Rattle.feedback_core.specs.{open_in, open_of, woken, IsClient, IsVisit, IsReady, IsSafeBurst, IsSafe, IsPage}
use Rattle.feedback_core.proofs.Visiting.{as_itself, idle_none}
use Rattle.feedback_core.proofs.Unsent.{unnamed, unsent}

-- the history as the datagram began
abbrev pub at_datagram : ℕ → List Message → History → History
at_datagram k ms history = began (feedback k ms) ∷ history

none_of_client : (k : ℕ) (history : History) (ws : List Wanted) → is_among k (known history) ≡ false → All (λ w. is_among w.client (known history) ≡ true) ws
    → list_any (λ w. eqb w.client k) ws ≡ false
none_of_client k history ws out all = by_each ws (recursion_from_All (λ (w : Wanted). is_among w.client (known history) ≡ true) ws all)
  where
    by_each : (ws : List Wanted) → Each (λ w. is_among w.client (known history) ≡ true) ws → list_any (λ w. eqb w.client k) ws ≡ false
    by_each [] a = refl
    by_each (w ∷ ws) a =
        or_from (eqb w.client k) (list_any (λ x. eqb x.client k) ws)
        (ne_eqb w.client k (λ e. both_ways (is_among k (known history)) out (subst (λ (j : ℕ). is_among j (known history) ≡ true) e a.0))) (by_each ws a.1)

pub quiet_begun : (s : Settings) (k : ℕ) (ms : List Message) (history : History) → quiet_ticks s k (at_datagram k ms history) ≡ 0
unfolding quiet_ticks
quiet_begun s k ms history = cond-true (eqb k k) 0 (quiet_ticks s k history) (eq-eqb k k refl)

woken_entry : (s : Settings) (k : ℕ) (ms : List Message) (history : History) (e : Entry) → IsEntry s k history e → IsEntry s k (at_datagram k ms history) (record e { idle = 0 })
unfolding ssrc sendings bursts
woken_entry s k ms history e is = record {
  ssrc_is = is.ssrc_is;
  seq_is = is.seq_is;
  idle_is = λ free. sym (idle_none s k (at_datagram k ms history) (quiet_begun s k ms history));
  burst_is = is.burst_is;
}

client_begun : (p : Parts) (events : List Event) (k : ℕ) (ms : List Message) (o : Option Entry) → StandsFor p events → entry_of p.table k ≡ o
    → IsClient p.config k (at_datagram k ms (history_of p.config events)) (woken o)
unfolding known ssrc sendings bursts pending
client_begun p events k ms None st found =
    let s = p.config in
    let history = history_of s events in
    let out : is_among k (known history) ≡ false = ap (is_among k) (sym st.table.clients) ∙ sym (has_entry p.table k) ∙ ap is_some found in
    record {
      unknown = out;
      unnamed = unnamed k history out;
      unsent = unsent s events k st.lawful.idle_least out;
      closed = st.table.others k out;
      unasked = ap (λ (ws : List Wanted). list_any (λ w. eqb w.client k) ws) (sym st.queue.pending_is) ∙ none_of_client k history p.queue out st.queue.known_is;
    }
client_begun p events k ms (Some e) st found = record {
  is_known = ap (is_among k) (sym st.table.clients) ∙ entry_among p.table k e found;
  entry_is = woken_entry p.config k ms (history_of p.config events) e (st.table.entries k e found);
  awake = refl;
}

-- as the datagram begins, nothing else has changed
pub visit_begun : (p : Parts) (events : List Event) (k : ℕ) (ms : List Message) (v : Visitor) → StandsFor p events → v.client ≡ k → v.entry ≡ woken (entry_of p.table k)
    → v.has_place ≡ ltb (length (without k (known (history_of p.config events)))) p.config.channel.clients → v.budget ≡ p.budget
    → IsVisit p.config (at_datagram k ms (history_of p.config events)) (at_datagram k ms (history_of p.config events)) v p.queue
unfolding known channel_left pending
visit_begun p events k ms v st ke ee pe be =
    let s = p.config in
    let history = history_of s events in
    let base = at_datagram k ms history in
    record {
      arrivals_are = refl;
      others = λ j ne. as_itself s j base;
      rest = refl;
      client_is = subst (λ (o : Option Entry). IsClient s v.client base o) (sym ee)
          (subst (λ (j : ℕ). IsClient s j base (woken (entry_of p.table k))) (sym ke) (client_begun p events k ms (entry_of p.table k) st refl));
      quiet = subst (λ (j : ℕ). quiet_ticks s j base ≡ 0) (sym ke) (quiet_begun s k ms history);
      place_is = subst (λ (j : ℕ). v.has_place ≡ ltb (length (without j (known history))) s.channel.clients) (sym ke) pe;
      budget_is = be ∙ st.budget ∙ ap (λ (n : ℕ). record p.budget { share = s.channel.share; reserve = s.channel.reserve; swell = s.channel.swell; reserved = n; left = channel_left s history })
          (sym (events_reserve_nothing s (feedback k ms) history));
      queue_is = st.queue.pending_is;
    }

-- nothing is noted yet
pub page_begun : (s : Settings) (k j : ℕ) (ms : List Message) (history : History) (page : Page) → page.notes.items ≡ [] → page.info ≡ None → IsPage s j (at_datagram k ms history) page
unfolding newest_notes newest_orders
page_begun s k j ms history page ne ie = record { notes = sym ne; orders = ap (λ (o : Option Info). option_to_list (option_map (info_order j) o)) (sym ie) }

pub ready_is : (p : Parts) (events : List Event) → StandsFor p events → IsReady p.config p.cache
ready_is p events st =
    let order = held_packets_are_in_order p events st in
    record {
      settings_are = st.packets.settings_are;
      run = record {
        follows = order.follows;
        ends = ends_at p.cache.held order.follows;
        few = omega (arith, ap length order.same, few_held p.config (history_of p.config events), st.lawful.ring_most);
        small = order.small;
      };
    }

-- The open burst of an entry is safe.
kept_amount : (s : Settings) (k : ℕ) (history : History) (b : Burst) (o : Option model.Burst) → open_burst s k history ≡ o → Some b ≡ option_map (burst_kept s) o
    → b.rate + s.channel.depth ≤ reserved s history
kept_amount s k history b None oe e = absurd cc
kept_amount s k history b (Some m) oe e =
    let same : b ≡ burst_kept s m = cc in
    let amount = each_burst_is_reserved s k m history oe in
    subst (λ (x : Burst). x.rate + s.channel.depth ≤ reserved s history) (sym same) amount

burst_safe : (p : Parts) (events : List Event) (k : ℕ) (e : Entry) (b : Burst) (budget : Amounts) → StandsFor p events → entry_of p.table k ≡ Some e → budget ≡ p.budget
    → e.burst ≡ Some b → IsSafeBurst p.config budget (record { entry = record e { idle = 0 }; burst = b })
burst_safe p events k e b budget st found be eb =
    let s = p.config in
    let history = history_of s events in
    let bounds = subst (λ (x : Option Burst). IfSome x (IsBurstInBounds s p.cache.held)) eb (entries_are_in_bounds p events st k e found).burst in
    let small = (held_packets_are_in_order p events st).small in
    let amount = kept_amount s k history b (open_burst s k history) refl (sym eb ∙ (st.table.entries k e found).burst_is) in
    let is : budget.reserved ≡ reserved s history = ap (λ (a : Amounts). a.reserved) (be ∙ st.budget) in
    record {
      first = omega (arith, bounds.first_most, bounds.next_most, small);
      rate = omega (arith, bounds.rate_most, st.lawful.burst_most);
      reserved = omega (arith, amount, is);
      ticks = omega (arith, bounds.ticks_most);
    }

safe_open : (p : Parts) (events : List Event) (k : ℕ) (e : Entry) (budget : Amounts) → StandsFor p events → entry_of p.table k ≡ Some e → budget ≡ p.budget
    → (b : Option Burst) → e.burst ≡ b → IfSome (open_in (record e { idle = 0 }) b) (IsSafeBurst p.config budget)
safe_open p events k e budget st found be None eb = tt
safe_open p events k e budget st found be (Some b) eb = burst_safe p events k e b budget st found be eb

safe_of : (p : Parts) (events : List Event) (k : ℕ) (o : Option Entry) (budget : Amounts) → StandsFor p events → entry_of p.table k ≡ o → budget ≡ p.budget
    → IfSome (open_of (woken o)) (IsSafeBurst p.config budget)
safe_of p events k None budget st found be = tt
safe_of p events k (Some e) budget st found be = safe_open p events k e budget st found be e.burst refl

pub safe_begun : (p : Parts) (events : List Event) (k : ℕ) (v : Visitor) → StandsFor p events → v.entry ≡ woken (entry_of p.table k) → v.budget ≡ p.budget
    → (IsSome v.entry → v.has_place ≡ true) → IsSafe p.config v
safe_begun p events k v st ee be placed = record {
  placed = placed;
  burst = subst (λ (o : Option Entry). IfSome (open_of o) (IsSafeBurst p.config v.budget)) (sym ee) (safe_of p events k (entry_of p.table k) v.budget st refl be);
}
