-- The books that a pool's lanes leave, as the books of a trace's channels.
use Rattle.std.proofs.Common.{◌≡◌, ℕ, zero, suc, ◌+◌, ◌<◌, ◌≤◌, Bool, true, false, cond, eqb, List, [], ◌∷◌, ◌++◌, map, length, get_or, reverse, filter, Option, Some, None, refl, sym, ap, subst, ◌∙◌, arith, append_assoc, append-nil}
use Rattle.std.specs.Prelude.{All, filter_map}
use Rattle.std.specs.List.{cons_option, AllByRecursion as Each}
use Rattle.std.proofs.lemmas.List.{reverse-append, reverse-reverse, length-append, length-reverse, map-append}
use Rattle.std.proofs.lemmas.List.Elements.{All-from_recursion, filter-append}
use Rattle.rams_model.specs.declared.Event.{Event}
use Rattle.rams_model.specs.declared.Event.TheVariants as event
use Rattle.rams_model.specs.Service.{Settings, Answered, answer, book, wire_sizes}
use Rattle.rams_model.proofs.OneBook.{is_lawful}
use Rattle.service_laws.specs.book_laws.{notes_in, orders_in, note_sends, order_sends, EachSendingIsOrderedOnce}
use Rattle.channel_book.specs.declared.Entry.{Entry}
use Rattle.channel_book.specs.{Kept, LegalFrom, IsLegal, events_behind}
use Rattle.server_hub.specs.declared.HubEvent.{HubEvent}
use Rattle.server_hub.specs.declared.HubEvent.TheVariants.{Live, Feedback, Tick}
use Rattle.server_hub.specs.{Pairwise, served, id_of, after_event, events_of, ticks_among}
use Rattle.server_hub.specs.Served.{Served}
use Rattle.trace_loop.specs.trace_book.trace_serving.{events_text, after_all}
use Rattle.trace_loop.specs.trace_book.{run, new_channels, event_text}
use Rattle.trace_loop.specs.journal_book.{text_for}
use Rattle.pool.specs.declared.{link_pool.claim.Claim.Claim, pool_run.lane.Lane.Lane, pool_loop.dealing.Coming.Coming}
use Rattle.pool.specs.declared.pool_loop.routes.Route.{Route}
use Rattle.pool.specs.link_pool.{bytes_of, claims_of}
use Rattle.pool.specs.pool_run.{sizes_of, IsFresh, IsBookOf, AreBooks, ClaimsAreSizes}
use Rattle.rams_model.proofs.WireSizes.{sizes_append}
use Rattle.pool.specs.pool_loop.{route_of, is_for_all, served_so, all_served, HaveAtMost, numbers_of, ClaimsOf, IsLaneOf}
use Rattle.pool.proofs.pool_loop.Walked.{event_in, IsPending, ArePending}
use Rattle.trace_loop.specs.journal_book.{behind}
use Rattle.trace_loop.proofs.journal_book.Served.{one_behind}

-- ---- pairs

pair_by_place : {A B : Type 0} (R : A → B → Type 0) (xs : List A) (ys : List B) → length ys ≡ length xs → ((i : ℕ) (d : A) (e : B) → i < length xs → R (get_or xs i d) (get_or ys i e)) → Pairwise R xs ys
pair_by_place R [] [] many each = tt
pair_by_place R [] (y ∷ ys) many each = absurd (omega (arith, many))
pair_by_place R (x ∷ xs) [] many each = absurd (omega (arith, many))
pair_by_place R (x ∷ xs) (y ∷ ys) many each = (each 0 x y (omega arith), pair_by_place R xs ys (omega (arith, many)) (λ i d e less. each (suc i) d e (omega (arith, less))))

-- The book is that of a channel to which these events came.
abbrev pub IsBookFor : Coming → Kept → Type 0
IsBookFor c b = IsBookOf c.config c.events.items b

book_for : (c : Coming) (lane : Lane) (b : Kept) → IsLaneOf c lane → IsBookOf lane.core.settings lane.events.items b → IsBookFor c b
book_for c lane b l is = record { settings = is.settings ∙ l.settings; events_are = is.events_are ∙ l.events; legal = subst (λ (s : Settings). IsLegal s b.entries) l.settings is.legal }

books_for : (cs : List Coming) (lanes : List Lane) (bs : List Kept) → Pairwise IsLaneOf cs lanes → Pairwise (λ (lane : Lane) (b : Kept). IsBookOf lane.core.settings lane.events.items b) lanes bs → Pairwise IsBookFor cs bs
books_for [] [] bs p q = by bs q
  where
    by : (bs : List Kept) → Pairwise (λ (lane : Lane) (b : Kept). IsBookOf lane.core.settings lane.events.items b) [] bs → Pairwise IsBookFor [] bs
    by [] q = tt
    by (b ∷ bs) q = absurd q
books_for [] (l ∷ lanes) bs p q = absurd p
books_for (c ∷ cs) [] bs p q = absurd p
books_for (c ∷ cs) (l ∷ lanes) [] p q = absurd q
books_for (c ∷ cs) (l ∷ lanes) (b ∷ bs) p q = (book_for c l b p.0 q.0, books_for cs lanes bs p.1 q.1)

pub books_are : (cs : List Coming) (lanes : List Lane) (bs : List Kept) → Pairwise IsLaneOf cs lanes → AreBooks lanes bs → Pairwise IsBookFor cs bs
books_are cs lanes bs p are = books_for cs lanes bs p (pair_by_place (λ (lane : Lane) (b : Kept). IsBookOf lane.core.settings lane.events.items b) lanes bs are.0 are.1)

-- ---- the lanes are fresh

lanes_fresh : (most : ℕ) (cs : List Coming) (lanes : List Lane) → Pairwise IsLaneOf cs lanes → HaveAtMost most (all_served cs) → most ≤ 200000 → Each IsFresh lanes
lanes_fresh most [] [] p short few = tt
lanes_fresh most [] (l ∷ lanes) p short few = absurd p
lanes_fresh most (c ∷ cs) [] p short few = absurd p
lanes_fresh most (c ∷ cs) (l ∷ lanes) p short few = (
  record { stands = p.0.stands; few = omega (arith, ap length p.0.events, short.0, length-reverse c.events.items, few) },
  lanes_fresh most cs lanes p.1 short.1 few,
)

pub all_fresh : (most : ℕ) (cs : List Coming) (lanes : List Lane) (channels : List Served) → Pairwise IsLaneOf cs lanes → channels ≡ all_served cs → HaveAtMost most channels → most ≤ 200000 → All IsFresh lanes
all_fresh most cs lanes channels p are short few = All-from_recursion IsFresh lanes (lanes_fresh most cs lanes p (subst (HaveAtMost most) are short) few)

-- ---- which events come to a channel, the oldest first

events_in_turn : (id : ℕ) (xs ys : List HubEvent) → events_of id (xs ++ ys) ≡ events_of id xs ++ events_of id ys
unfolding events_of
events_in_turn id [] ys = refl
events_in_turn id (Live other bytes ∷ xs) ys = by (eqb id other) (events_in_turn id xs ys)
  where
    by : (b : Bool) → events_of id (xs ++ ys) ≡ events_of id xs ++ events_of id ys
        → cond b (event.Live bytes ∷ events_of id (xs ++ ys)) (events_of id (xs ++ ys)) ≡ cond b (event.Live bytes ∷ events_of id xs) (events_of id xs) ++ events_of id ys
    by true e = ap (λ (l : List Event). event.Live bytes ∷ l) e
    by false e = e
events_in_turn id (Feedback other client bytes ∷ xs) ys = by (eqb id other) (events_in_turn id xs ys)
  where
    by : (b : Bool) → events_of id (xs ++ ys) ≡ events_of id xs ++ events_of id ys
        → cond b (event.Feedback client bytes ∷ events_of id (xs ++ ys)) (events_of id (xs ++ ys)) ≡ cond b (event.Feedback client bytes ∷ events_of id xs) (events_of id xs) ++ events_of id ys
    by true e = ap (λ (l : List Event). event.Feedback client bytes ∷ l) e
    by false e = e
events_in_turn id (Tick ∷ xs) ys = ap (λ (l : List Event). event.Tick ∷ l) (events_in_turn id xs ys)

-- of one event none or one comes
one_at_most : (id : ℕ) (e : HubEvent) → reverse (events_of id (e ∷ [])) ≡ events_of id (e ∷ [])
unfolding events_of
one_at_most id (Live other bytes) = by (eqb id other)
  where
    by : (b : Bool) → reverse (cond b (event.Live bytes ∷ []) []) ≡ cond b (event.Live bytes ∷ []) []
    by true = refl
    by false = refl
one_at_most id (Feedback other client bytes) = by (eqb id other)
  where
    by : (b : Bool) → reverse (cond b (event.Feedback client bytes ∷ []) []) ≡ cond b (event.Feedback client bytes ∷ []) []
    by true = refl
    by false = refl
one_at_most id Tick = refl

none_of_none : (id : ℕ) → events_of id [] ≡ []
unfolding events_of
none_of_none id = refl

events_turned : (id : ℕ) (came : List HubEvent) → events_of id (reverse came) ≡ reverse (events_of id came)
events_turned id [] = none_of_none id ∙ sym (ap reverse (none_of_none id))
events_turned id (e ∷ came) =
    ap (events_of id) (reverse-append (e ∷ []) came) ∙ events_in_turn id (reverse came) (e ∷ []) ∙ ap (λ (l : List Event). l ++ events_of id (e ∷ [])) (events_turned id came)
    ∙ ap (λ (l : List Event). reverse (events_of id came) ++ l) (sym (one_at_most id e)) ∙ sym (reverse-append (events_of id (e ∷ [])) (events_of id came))
    ∙ ap reverse (sym (events_in_turn id (e ∷ []) came))

pending_one : (came : List HubEvent) (c : Coming) (b : Kept) → IsBookFor c b → (served_so c).events ≡ events_of (id_of (served_so c)) came → IsPending (reverse came) (served c.config []) b
pending_one came c b is got = record {
  settings = is.settings;
  legal = is.legal;
  comes = is.events_are ∙ sym (reverse-reverse c.events.items) ∙ ap reverse got ∙ sym (events_turned c.config.channel.id came);
}

pub are_pending : (came : List HubEvent) (cs : List Coming) (bs : List Kept) → Pairwise IsBookFor cs bs → Each (λ (c : Served). c.events ≡ events_of (id_of c) came) (all_served cs) → ArePending (reverse came) (new_channels (all_served cs)) bs
are_pending came [] [] p got = tt
are_pending came [] (b ∷ bs) p got = absurd p
are_pending came (c ∷ cs) [] p got = absurd p
are_pending came (c ∷ cs) (b ∷ bs) p got = (pending_one came c b p.0 got.0, are_pending came cs bs p.1 got.1)

-- ---- the text of events that came, from the oldest on

behind_is : (came : List HubEvent) (cs : List Served) → behind (reverse came) cs ≡ after_all run came cs
unfolding behind after_all
behind_is [] cs = refl
behind_is (e ∷ came) cs = ap (λ (l : List HubEvent). behind l cs) (reverse-append (e ∷ []) came) ∙ one_behind (reverse came) e cs ∙ ap (after_event e) (behind_is came cs)

text_snoc : (count : ℕ) (cs : List Served) (xs : List HubEvent) (e : HubEvent) → text_for count cs (xs ++ e ∷ []) ≡ text_for count cs xs ++ event_text (count + length xs + 1) e (behind xs cs)
unfolding text_for behind
text_snoc count cs [] e = append-nil (event_text (count + 1) e cs) ∙ ap (λ (n : ℕ). event_text n e cs) (omega arith)
text_snoc count cs (x ∷ xs) e =
    let n : count + 1 + length xs + 1 ≡ count + length (x ∷ xs) + 1 = omega arith in
    ap (λ (t : List ℕ). event_text (count + 1) x cs ++ t) (text_snoc (count + 1) (after_event x cs) xs e ∙ ap (λ (k : ℕ). text_for (count + 1) (after_event x cs) xs ++ event_text k e (behind xs (after_event x cs))) n)
    ∙ sym (append_assoc (event_text (count + 1) x cs) (text_for (count + 1) (after_event x cs) xs) (event_text (count + length (x ∷ xs) + 1) e (behind xs (after_event x cs))))

text_more : (count : ℕ) (cs : List Served) (came : List HubEvent) (e : HubEvent)
    → text_for count cs (reverse came ++ e ∷ []) ≡ text_for count cs (reverse came) ++ event_text (count + length came + 1) e (after_all run came cs)
text_more count cs came e =
    text_snoc count cs (reverse came) e ∙ ap (λ (n : ℕ). text_for count cs (reverse came) ++ event_text (count + n + 1) e (behind (reverse came) cs)) (length-reverse came)
    ∙ ap (λ (l : List Served). text_for count cs (reverse came) ++ event_text (count + length came + 1) e l) (behind_is came cs)

none_for : (cs : List Served) → text_for 0 cs [] ≡ []
unfolding text_for
none_for cs = refl

pub text_in_turn : (came : List HubEvent) (cs : List Served) → events_text run came cs ≡ text_for 0 cs (reverse came)
unfolding events_text
text_in_turn [] cs = sym (none_for cs)
text_in_turn (e ∷ came) cs =
    let n : length came + 1 ≡ 0 + length came + 1 = omega arith in
    ap (λ (t : List ℕ). t ++ event_text (length came + 1) e (after_all run came cs)) (text_in_turn came cs) ∙ ap (λ (k : ℕ). text_for 0 cs (reverse came) ++ event_text k e (after_all run came cs)) n
    ∙ sym (text_more 0 cs came e) ∙ ap (text_for 0 cs) (sym (reverse-append (e ∷ []) came))

-- ---- the ticks

abbrev ticks_in : List Route → ℕ
ticks_in routes = length (filter is_for_all routes)

ticks_turned : (xs ys : List Route) → ticks_in (xs ++ ys) ≡ ticks_in xs + ticks_in ys
ticks_turned xs ys = ap length (filter-append is_for_all xs ys) ∙ length-append (filter is_for_all xs) (filter is_for_all ys)

and_none : (n : ℕ) → n ≡ n + 0
and_none n = omega arith

one_tick : (e : HubEvent) (came : List HubEvent) → ticks_among (e ∷ came) ≡ ticks_among came + ticks_in (route_of e ∷ [])
unfolding ticks_among
one_tick (Live id bytes) came = and_none (ticks_among came)
one_tick (Feedback id client bytes) came = and_none (ticks_among came)
one_tick Tick came = refl

no_tick : ticks_among [] ≡ 0
unfolding ticks_among
no_tick = refl

pub ticks_are : (came : List HubEvent) → length (filter is_for_all (map route_of (reverse came))) ≡ ticks_among came
ticks_are [] = sym no_tick
ticks_are (e ∷ came) =
    ap (λ (l : List HubEvent). ticks_in (map route_of l)) (reverse-append (e ∷ []) came) ∙ ap ticks_in (map-append route_of (reverse came) (e ∷ []))
    ∙ ticks_turned (map route_of (reverse came)) (route_of e ∷ []) ∙ ap (λ (n : ℕ). n + ticks_in (route_of e ∷ [])) (ticks_are came) ∙ sym (one_tick e came)

-- no more of them than all
pub few_ticks : (routes : List Route) → ticks_in routes ≤ length routes
few_ticks [] = omega arith
few_ticks (r ∷ routes) = by (is_for_all r) (few_ticks routes)
  where
    by : (b : Bool) → ticks_in routes ≤ length routes → length (cond b (r ∷ filter is_for_all routes) (filter is_for_all routes)) ≤ length (r ∷ routes)
    by true few = omega (arith, few)
    by false few = omega (arith, few)

-- ---- the claims

orders_behind : (s : Settings) (before : List Event) (entries : List Entry) → LegalFrom s before entries → wire_sizes (orders_in (book s (events_behind before entries))) ≡ wire_sizes (orders_in (book s before)) ++ sizes_of entries
unfolding book
orders_behind s before [] legal = sym (append-nil (wire_sizes (orders_in (book s before))))
orders_behind s before (e ∷ later) legal =
    orders_behind s (e.event ∷ before) later legal.1 ∙ ap (λ (l : List ℕ). l ++ sizes_of later) (sizes_append (orders_in (book s before)) (answer s before e.event).orders)
    ∙ ap (λ (a : Answered). (wire_sizes (orders_in (book s before)) ++ wire_sizes a.orders) ++ sizes_of later) (sym legal.0) ∙ append_assoc (wire_sizes (orders_in (book s before))) (wire_sizes e.answer.orders) (sizes_of later)

behind_turned : (before : List Event) (entries : List Entry) → events_behind before entries ≡ reverse (map event_in entries) ++ before
behind_turned before [] = refl
behind_turned before (e ∷ later) =
    behind_turned (e.event ∷ before) later ∙ sym (append_assoc (reverse (map event_in later)) (e.event ∷ []) before) ∙ ap (λ (l : List Event). l ++ before) (sym (reverse-append (e.event ∷ []) (map event_in later)))

none_in_book : (s : Settings) → wire_sizes (orders_in (book s [])) ≡ []
unfolding book
none_in_book s = refl

sizes_so : (c : Coming) (b : Kept) → IsBookFor c b → sizes_of b.entries ≡ wire_sizes (orders_in (book c.config (reverse c.events.items)))
sizes_so c b is =
    ap (λ (l : List ℕ). l ++ sizes_of b.entries) (sym (none_in_book c.config)) ∙ sym (orders_behind c.config [] b.entries is.legal)
    ∙ ap (λ (es : List Event). wire_sizes (orders_in (book c.config es))) (behind_turned [] b.entries ∙ append-nil (reverse (map event_in b.entries)) ∙ ap reverse is.events_are)

filter_map-append : {A B : Type 0} (f : A → Option B) (xs ys : List A) → filter_map f (xs ++ ys) ≡ filter_map f xs ++ filter_map f ys
filter_map-append f [] ys = refl
filter_map-append {A} {B} f (x ∷ xs) ys = by (f x) (filter_map-append f xs ys)
  where
    by : (o : Option B) → filter_map f (xs ++ ys) ≡ filter_map f xs ++ filter_map f ys → cons_option o (filter_map f (xs ++ ys)) ≡ cons_option o (filter_map f xs) ++ filter_map f ys
    by None e = e
    by (Some y) e = ap (λ (l : List B). y ∷ l) e

of_notes : EachSendingIsOrderedOnce → (s : Settings) (events : List Event) → filter_map note_sends (notes_in (book s events)) ≡ filter_map order_sends (orders_in (book s events))
unfolding book
of_notes once s [] = refl
of_notes once s (e ∷ events) =
    let a = answer s events e in
    filter_map-append note_sends (notes_in (book s events)) a.notes ∙ ap (λ l. l ++ filter_map note_sends a.notes) (of_notes once s events)
    ∙ ap (λ l. filter_map order_sends (orders_in (book s events)) ++ l) (once s (record { event = e; answer = a }) (book s events) (is_lawful s (e ∷ events)))
    ∙ sym (filter_map-append order_sends (orders_in (book s events)) a.orders)

-- the claims of the channel at a place
claims_at : EachSendingIsOrderedOnce → (cs : List Coming) (bs : List Kept) (claims : ℕ → List Claim) → Pairwise IsBookFor cs bs → ((i : ℕ) (d : Kept) → i < length bs → map bytes_of (claims i) ≡ sizes_of (get_or bs i d).entries)
    → (i : ℕ) (d : Served) → i < length (all_served cs) → ClaimsOf (get_or (all_served cs) i d) (claims i)
claims_at once [] bs claims p are i d less = absurd (omega (arith, less))
claims_at once (c ∷ cs) [] claims p are i d less = absurd p
claims_at once (c ∷ cs) (b ∷ bs) claims p are zero d less = record { sizes_are = are 0 b (omega arith) ∙ sizes_so c b p.0; of_notes = of_notes once c.config (reverse c.events.items) }
claims_at once (c ∷ cs) (b ∷ bs) claims p are (suc i) d less = claims_at once cs bs (λ k. claims (suc k)) p.1 (λ k e short. are (suc k) e (omega (arith, short))) i d (omega (arith, less))

pub claims_own : EachSendingIsOrderedOnce → (cs : List Coming) (bs : List Kept) (claims : List Claim) → Pairwise IsBookFor cs bs → ClaimsAreSizes bs claims
    → (i : ℕ) (d : Served) → i < length (all_served cs) → ClaimsOf (get_or (all_served cs) i d) (claims_of i claims)
claims_own once cs bs claims p are = claims_at once cs bs (λ i. claims_of i claims) p are

-- ---- the numbers of the channels

pub numbers_are : (cs : List Coming) (bs : List Kept) → Pairwise IsBookFor cs bs → numbers_of bs ≡ map id_of (all_served cs)
numbers_are [] [] p = refl
numbers_are [] (b ∷ bs) p = absurd p
numbers_are (c ∷ cs) [] p = absurd p
numbers_are (c ∷ cs) (b ∷ bs) p = ap (λ (s : Settings). s.channel.id ∷ numbers_of bs) p.0.settings ∙ ap (λ (l : List ℕ). c.config.channel.id ∷ l) (numbers_are cs bs p.1)
