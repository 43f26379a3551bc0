-- What parts are that stand for some events.
use Rattle.std.proofs.Common.{◌≡◌, ℕ, ◌<◌, Bool, true, false, List, [], ◌∷◌, Option, Some, None, refl, ap, sym, ◌∙◌, subst, arith, eqb}
use Rattle.std.specs.Prelude.{filter, option_map, IfSome}
use Rattle.std.specs.Ordering.{nat_cmp}
use Rattle.std.specs.List.{sum_by, AllByRecursion as Each}
use Rattle.std.specs.Map.{keys_of, lookup}
use Rattle.std.specs.BTreeMap.{is_at}
use Rattle.std.proofs.lemmas.Bool.{cond_both, cond-true, cond-false, both_ways, eq-eqb, ne_eqb}
use Rattle.std.proofs.lemmas.List.Elements.{All-from_recursion}
use Rattle.std.proofs.lemmas.List.Sums.{sum_by-cons}
use Rattle.rams_model.specs.declared.{Event.Event, Held.Held}
use Rattle.rams_model.specs.Service.{Settings, History, arrivals, hold, known, is_among, open_burst, has_open, most_of, reserved, history_of}
use Rattle.rams_model.specs.Packets.{lo, Follows, stream_of}
use Rattle.rams_model.specs.Packets.Source as sources
use Rattle.rams_model.specs.Service.Bursts as model
use Rattle.rams_model.proofs.Holding.{held_follow}
use Rattle.client_table.specs.declared.{Burst.Burst, Entry.Entry}
use Rattle.client_table.specs.{clients_of}
use Rattle.service_laws.specs.book_laws.{IsMoment}
use Rattle.rams_model.proofs.Legality.{legal_history}
use Rattle.channel_parts.specs.declared.parts.Parts.{Parts}
use Rattle.channel_parts.specs.{IsWithinBounds, burst_kept, IsEntry, IsTable, StandsFor, IsBurstInBounds, amount_of, HeldPacketsAreInOrder, KnownClientsHaveEntries, EntriesAreOfTheirClients, EntriesAreInBounds, ReservedIsOfTheEntries}
use Rattle.channel_parts.proofs.Ordered.{Rise, known_rise, not_below}
use Rattle.channel_parts.proofs.Opening.{none_of, opened_filter}
use Rattle.rams_model.proofs.OpenBurst.{holds_of}
use Rattle.channel_parts.proofs.Bounding.{bounded}
use Rattle.channel_parts.proofs.Lasting.{ticks_left}
use Rattle.service_laws.proofs.tick_laws.Idling.{idle_less}
use Rattle.channel_parts.proofs.Tables.{at_is, has_entry, entry_among}

-- the history of some events is a moment
pub moment : (s : Settings) (events : List Event) → IsMoment s (history_of s events)
moment s events = record { events = events; later = []; splits = refl }

-- what is held
pub held_is : (p : Parts) (events : List Event) → StandsFor p events → p.cache.held ≡ hold p.config (history_of p.config events)
held_is p events st =
    st.packets.stands.held
    ∙ ap (λ (s : Settings). sources.hold s.channel.window s.channel.ring (stream_of s.channel.window (arrivals (history_of p.config events)))) st.packets.settings_are

pub held_packets_are_in_order : HeldPacketsAreInOrder
held_packets_are_in_order p events st =
    let same = held_is p events st in
    let history = history_of p.config events in
    record {
      same = same;
      follows = subst (λ (hs : List Held). Follows (lo hs) hs) (sym same) (held_follow p.config history);
      small = st.packets.small;
    }

-- the entries
pub known_clients_have_entries : KnownClientsHaveEntries
known_clients_have_entries p events st k = has_entry p.table k ∙ ap (is_among k) st.table.clients

-- each entry is found under its client, where the clients rise
each_found : (P : ℕ → Entry → Type 0) (es : List (ℕ × Entry)) → Rise (keys_of es) → ((k : ℕ) (e : Entry) → lookup (is_at (nat_cmp k)) es ≡ Some e → P k e) → Each (λ x. P x.0 x.1) es
each_found P [] r f = tt
each_found P (x ∷ es) r f = (
  f x.0 x.1 (cond-true (is_at (nat_cmp x.0) x.0) (Some x.1) (lookup (is_at (nat_cmp x.0)) es) (at_is x.0 x.0 ∙ eq-eqb x.0 x.0 refl)),
  each_found P es r.1 (λ k e found.
      let among = entry_among (record { most = 0; known = es }) k e found in
      let away : eqb x.0 k ≡ false =
      ne_eqb x.0 k (λ same. both_ways (is_among k (keys_of es)) (subst (λ (i : ℕ). is_among i (keys_of es) ≡ false) same (not_below x.0 (keys_of es) r.0)) among) in
      f k e (cond-false (is_at (nat_cmp k) x.0) (Some x.1) (lookup (is_at (nat_cmp k)) es) (at_is k x.0 ∙ away) ∙ found)),
)

pub clients_rise : (s : Settings) (history : History) (p : Parts) → IsTable s history p.table → Rise (clients_of p.table)
clients_rise s history p t = subst Rise (sym t.clients) (known_rise history)

each_entry : (p : Parts) (events : List Event) → StandsFor p events → Each (λ e. IsEntry p.config e.0 (history_of p.config events) e.1) p.table.known
each_entry p events st =
    let history = history_of p.config events in
    each_found (λ k e. IsEntry p.config k history e) p.table.known (clients_rise p.config history p st.table) st.table.entries

pub entries_are_of_their_clients : EntriesAreOfTheirClients
entries_are_of_their_clients p events st = All-from_recursion (λ (e : ℕ × Entry). IsEntry p.config e.0 (history_of p.config events) e.1) p.table.known (each_entry p events st)

-- their bounds
burst_in_bounds : (s : Settings) (held : List Held) (o : Option model.Burst) → ((b : model.Burst) → o ≡ Some b → IsWithinBounds s held b × (b.ticks < s.channel.limit))
    → IfSome (option_map (burst_kept s) o) (IsBurstInBounds s held)
burst_in_bounds s held None f = tt
burst_in_bounds s held (Some b) f =
    let w = f b refl in
    record {
      first_most = omega arith;
      next_most = w.0.by_held;
      rate_least = w.0.rate_least;
      rate_most = w.0.rate_most;
      ticks_most = w.1;
      kept_most = omega arith;
    }

pub entries_are_in_bounds : EntriesAreInBounds
entries_are_in_bounds p events st k e found =
    let s = p.config in
    let history = history_of s events in
    let is = st.table.entries k e found in
    let is_known : is_among k (known history) ≡ true = sym (ap (is_among k) st.table.clients) ∙ entry_among p.table k e found in
    let bounds = burst_in_bounds s (hold s history) (open_burst s k history)
    (λ b o. (holds_of (IsWithinBounds s (hold s history)) (open_burst s k history) b (bounded s k history (legal_history s events)) o, ticks_left s k b events st.lawful.limit_least o)) in
    record {
      seq_most = omega (arith, is.seq_is);
      idle_most = λ free. omega (arith, is.idle_is free, idle_less s k events st.lawful.idle_least is_known);
      burst = subst (λ (o : Option Burst). IfSome o (IsBurstInBounds s p.cache.held)) (sym is.burst_is)
          (subst (λ (hs : List Held). IfSome (option_map (burst_kept s) (open_burst s k history)) (IsBurstInBounds s hs)) (sym (held_is p events st)) bounds);
    }

-- what they reserve
same_amount : (s : Settings) (o : Option model.Burst) → amount_of s (option_map (burst_kept s) o) ≡ most_of s o
same_amount s None = refl
same_amount s (Some b) = refl

sum_of_entries : (s : Settings) (history : History) (es : List (ℕ × Entry)) → Each (λ e. IsEntry s e.0 history e.1) es
    → sum_by (λ e. amount_of s e.1.burst) es ≡ sum_by (λ k. most_of s (open_burst s k history)) (keys_of es)
sum_of_entries s history [] all = refl
sum_of_entries s history (e ∷ es) all =
    let f : ℕ × Entry → ℕ = λ x. amount_of s x.1.burst in
    let g : ℕ → ℕ = λ k. most_of s (open_burst s k history) in
    let here : f e ≡ g e.0 = ap (amount_of s) all.0.burst_is ∙ same_amount s (open_burst s e.0 history) in
    omega (arith, sum_by-cons f e es, sum_by-cons g e.0 (keys_of es), here, sum_of_entries s history es all.1)

sum_passed : (f : ℕ → ℕ) (test : ℕ → Bool) (ks : List ℕ) → ((k : ℕ) → test k ≡ false → f k ≡ 0) → sum_by f (filter test ks) ≡ sum_by f ks
sum_passed f test [] zeros = refl
sum_passed f test (k ∷ ks) zeros =
    cond_both (test k) (k ∷ filter test ks) (filter test ks) (λ l. sum_by f l ≡ sum_by f (k ∷ ks))
    (λ t. omega (arith, sum_by-cons f k ks, sum_by-cons f k (filter test ks), sum_passed f test ks zeros))
    (λ n. omega (arith, sum_by-cons f k ks, zeros k n, sum_passed f test ks zeros))

pub reserved_is_of_the_entries : ReservedIsOfTheEntries
reserved_is_of_the_entries p events st =
    let s = p.config in
    let history = history_of s events in
    let f : ℕ → ℕ = λ k. most_of s (open_burst s k history) in
    let test : ℕ → Bool = λ k. has_open s k history in
    let has : p.budget.reserved ≡ reserved s history = ap (λ b. b.reserved) st.budget in
    has
    ∙ ap (sum_by f) (opened_filter s events st.lawful.idle_least)
    ∙ sum_passed f test (known history) (λ k closed. ap (most_of s) (none_of (open_burst s k history) closed))
    ∙ ap (sum_by f) (sym st.table.clients)
    ∙ sym (sum_of_entries s history p.table.known (each_entry p events st))
