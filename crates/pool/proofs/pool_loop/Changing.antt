-- What an event makes of the channels, as they are kept.
use Rattle.std.proofs.Common.{◌≡◌, ◌≢◌, ℕ, ◌+◌, ◌<◌, ◌≤◌, Bool, true, false, cond, eqb, List, [], ◌∷◌, ◌++◌, map, length, get_or, set, reverse, Option, Some, None, refl, sym, ap, subst, ◌∙◌, arith}
use Rattle.std.specs.Prelude.{All, AllPairs, IfNone, IsSomeAnd, slice_get, option_map}
use Rattle.std.specs.List.{AllByRecursion as Each}
use Rattle.std.proofs.lemmas.List.{map-set, reverse-append, length-map, get_or-map}
use Rattle.std.proofs.lemmas.List.Elements.{All-from_recursion, recursion_from_All}
use Rattle.std.proofs.lemmas.Option.{slice_get-map, slice_get_within, get_or_from_slice_get}
use Rattle.rams_model.specs.declared.Event.{Event}
use Rattle.rams_model.specs.declared.Event.TheVariants as event
use Rattle.rams_model.specs.Service.{Settings}
use Rattle.server_hub.specs.declared.HubEvent.{HubEvent}
use Rattle.server_hub.specs.declared.HubEvent.TheVariants.{Live, Feedback, Tick}
use Rattle.server_hub.specs.{served, id_of, with_event, after_event_of, after_tick, after_event, ids_of}
use Rattle.server_hub.specs.Served.{Served}
use Rattle.server_hub.proofs.Changing.{untouched, changed}
use Rattle.trace_loop.specs.trace_book.{settings_of}
use Rattle.pool.specs.declared.pool_loop.dealing.Coming.{Coming}
use Rattle.pool.specs.pool_loop.{served_so, all_served, HaveAtMost}
use Rattle.pool.proofs.pool_loop.Halves.{Half, half_more}

-- the numbers of the channels
pub same_numbers : (cs : List Served) → ids_of (settings_of cs) ≡ map id_of cs
same_numbers [] = refl
same_numbers (c ∷ cs) = ap (λ (l : List ℕ). id_of c ∷ l) (same_numbers cs)

-- ---- one event more

-- a channel with one event more at its end
pub one_more : (c new : Coming) (e : Event) → new.config ≡ c.config → new.events.items ≡ c.events.items ++ e ∷ [] → served_so new ≡ with_event e (served_so c)
one_more c new e config events =
    let turned : reverse new.events.items ≡ e ∷ reverse c.events.items = ap reverse events ∙ reverse-append c.events.items (e ∷ []) in
    ap (λ (s : Settings). served s (reverse new.events.items)) config ∙ ap (served c.config) turned

-- what there is
found : {A : Type 0} (o : Option A) (P : A → Type 0) → IsSomeAnd o P → (x : A) × (o ≡ Some x) × P x
found {A} None P p = absurd p
found {A} (Some x) P p = (x, refl, p)

-- a place where there is one is a place
pub is_place : {A : Type 0} (xs : List A) (place : ℕ) (P : A → Type 0) → IsSomeAnd (slice_get xs place) P → place < length xs
is_place {A} xs place P there = let f = found (slice_get xs place) P there in slice_get_within xs place f.0 f.1

-- there is none
pub none_of : {A : Type 0} (o : Option A) (P : Type 0) → IfNone o P → ((x : A) → o ≡ Some x → ⊥) → P
none_of {A} None P p never = p
none_of {A} (Some x) P p never = absurd (never x refl)

-- the channel at this place has the number
pub comes_to_one : (cs : List Coming) (place id : ℕ) (c new : Coming) (e : Event) → IsSomeAnd (slice_get cs place) (λ x. x.config.channel.id ≡ id) → c ≡ get_or cs place c → new.config ≡ c.config
    → new.events.items ≡ c.events.items ++ e ∷ [] → AllPairs (λ x y. x ≢ y) (map id_of (all_served cs)) → all_served (set cs place new) ≡ after_event_of id e (all_served cs)
comes_to_one cs place id c new e there at config events once =
    let f = found (slice_get cs place) (λ (x : Coming). x.config.channel.id ≡ id) there in
    let same : c ≡ f.0 = at ∙ get_or_from_slice_get cs place f.0 c f.1 in
    let its : id_of (served_so c) ≡ id = ap (λ (x : Coming). x.config.channel.id) same ∙ f.2 in
    let served_there : slice_get (all_served cs) place ≡ Some (served_so c) = slice_get-map served_so cs place ∙ ap (option_map served_so) (f.1 ∙ ap Some (sym same)) in
    map-set served_so cs place new ∙ ap (set (all_served cs) place) (one_more c new e config events) ∙ sym (changed id e (all_served cs) place (served_so c) served_there its once).1

-- none has it
none_named : (id : ℕ) (cs : List Coming) → Each (λ (c : Coming). c.config.channel.id ≢ id) cs → Each (λ (k : ℕ). k ≢ id) (map id_of (all_served cs))
none_named id [] none = tt
none_named id (c ∷ cs) none = (none.0, none_named id cs none.1)

pub comes_to_none : (cs : List Coming) (id : ℕ) (e : Event) → All (λ c. c.config.channel.id ≢ id) cs → all_served cs ≡ after_event_of id e (all_served cs)
comes_to_none cs id e none =
    let each = none_named id cs (recursion_from_All (λ (c : Coming). c.config.channel.id ≢ id) cs none) in
    sym (untouched id e (all_served cs) (All-from_recursion (λ (k : ℕ). k ≢ id) (map id_of (all_served cs)) each)).1

-- a tick comes to the channel at this place
pub ticks_one : (old : List Served) (cs : List Coming) (place : ℕ) (c new : Coming) → Half (with_event event.Tick) old (all_served cs) place → place < length cs → c ≡ get_or cs place c → new.config ≡ c.config
    → new.events.items ≡ c.events.items ++ event.Tick ∷ [] → Half (with_event event.Tick) old (all_served (set cs place new)) (place + 1)
ticks_one old cs place c new h less at config events =
    let many : place < length (all_served cs) = omega (arith, less, length-map cs served_so) in
    let own : served_so new ≡ with_event event.Tick (get_or (all_served cs) place (served_so c)) =
    one_more c new event.Tick config events ∙ ap (λ (x : Coming). with_event event.Tick (served_so x)) at ∙ ap (with_event event.Tick) (sym (get_or-map served_so cs place c (served_so c) less)) in
    subst (λ (l : List Served). Half (with_event event.Tick) old l (place + 1)) (sym (map-set served_so cs place new)) (half_more (with_event event.Tick) old (all_served cs) place (served_so c) (served_so new) h many own)

-- ---- no channel has more events than came

few_one : (b : Bool) (most : ℕ) (e : Event) (c : Served) → length c.events ≤ most → length (cond b (with_event e c) c).events ≤ most + 1
few_one true most e c few = omega (arith, few)
few_one false most e c few = omega (arith, few)

few_of : (id most : ℕ) (e : Event) (cs : List Served) → HaveAtMost most cs → HaveAtMost (most + 1) (after_event_of id e cs)
few_of id most e [] few = tt
few_of id most e (c ∷ cs) few = (few_one (eqb (id_of c) id) most e c few.0, few_of id most e cs few.1)

few_tick : (most : ℕ) (cs : List Served) → HaveAtMost most cs → HaveAtMost (most + 1) (after_tick cs)
few_tick most [] few = tt
few_tick most (c ∷ cs) few = (few_one true most event.Tick c few.0, few_tick most cs few.1)

pub few_after : (e : HubEvent) (most : ℕ) (cs : List Served) → HaveAtMost most cs → HaveAtMost (most + 1) (after_event e cs)
few_after (Live id bytes) most cs few = few_of id most (event.Live bytes) cs few
few_after (Feedback id client bytes) most cs few = few_of id most (event.Feedback client bytes) cs few
few_after Tick most cs few = few_tick most cs few

pub few_opened : (most : ℕ) (s : Settings) (cs : List Served) → HaveAtMost most cs → HaveAtMost most (cs ++ served s [] ∷ [])
few_opened most s [] few = (omega arith, tt)
few_opened most s (c ∷ cs) few = (few.0, few_opened most s cs few.1)
