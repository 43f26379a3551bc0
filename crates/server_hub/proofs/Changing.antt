-- An event changes the channel of its number, and no other.
use Rattle.std.proofs.Common.{◌≡◌, ◌≢◌, ℕ, zero, suc, ◌+◌, ◌≤◌, true, false, cond, List, [], ◌∷◌, Option, Some, None, get_or, set, map, option_map, refl, sym, ◌∙◌, ap, subst, arith, eqb}
use Rattle.std.specs.Prelude.{All, AllPairs, slice_get}
use Rattle.std.proofs.lemmas.Bool.{eq-eqb, ne_eqb}
use Rattle.std.proofs.lemmas.List.Elements.{All-cons, All-set}
use Rattle.std.proofs.Math.Seq.{map-set_same}
use Rattle.std.proofs.lemmas.Option.{slice_get-map, slice_get_within, get_or_from_slice_get}
use Rattle.rams_model.specs.declared.{Event.Event, Event.TheVariants.Tick}
use Rattle.rams_model.specs.Service.{Answered, Settings}
use Rattle.server_hub.specs.session_core.Seen as cores
use Rattle.server_hub.specs.declared.event.At.{At}
use Rattle.server_hub.specs.{served, id_of, with_event, answer_to, channel_of, answer_of, after_event_of, answer_at, answers_to_tick, after_tick, all_settings, ids_of, Serves, AllServe, StepsAt, AllTick}
use Rattle.server_hub.specs.Steps.{Steps}
use Rattle.server_hub.specs.Served.{Served}
use Rattle.server_hub.proofs.Pairing.{partner, pair_set}

-- numbers of a list that each stand once
pub rest_once : (x : ℕ) (xs : List ℕ) → AllPairs (λ a b. a ≢ b) (x ∷ xs) → AllPairs (λ a b. a ≢ b) xs
rest_once x xs once = λ i j d less short. once (suc i) (suc j) d (omega (arith, less)) (omega (arith, short))

pub first_once : (x : ℕ) (xs : List ℕ) → AllPairs (λ a b. a ≢ b) (x ∷ xs) → All (λ b. b ≢ x) xs
first_once x xs once = λ k d short same. once 0 (suc k) d (omega arith) (omega (arith, short)) (sym same)

pub later_differs : (x : ℕ) (xs : List ℕ) (place y : ℕ) → AllPairs (λ a b. a ≢ b) (x ∷ xs) → slice_get xs place ≡ Some y → y ≢ x
later_differs x xs place y once is =
    subst (λ k. k ≢ x) (get_or_from_slice_get xs place y y is) (first_once x xs once place y (slice_get_within xs place y is))

-- the settings of cores are those of their channels, and so are the numbers
pub same_settings : (vs : List cores.Seen) (cs : List Served) → AllServe vs cs → all_settings vs ≡ map (λ c. c.settings) cs
same_settings [] [] s = refl
same_settings [] (c ∷ cs) s = absurd s
same_settings (v ∷ vs) [] s = absurd s
same_settings (v ∷ vs) (c ∷ cs) s = cc (s.0.settings, same_settings vs cs s.1)

pub same_ids : (vs : List cores.Seen) (cs : List Served) → AllServe vs cs → ids_of (all_settings vs) ≡ map id_of cs
same_ids [] [] s = refl
same_ids [] (c ∷ cs) s = absurd s
same_ids (v ∷ vs) [] s = absurd s
same_ids (v ∷ vs) (c ∷ cs) s = cc (ap (λ (x : Settings). x.channel.id) s.0.settings, same_ids vs cs s.1)

-- no channel has the number
pub untouched : (id : ℕ) (e : Event) (cs : List Served) → All (λ k. k ≢ id) (map id_of cs) → (channel_of id cs ≡ None) × (after_event_of id e cs ≡ cs)
untouched id e [] none = (refl, refl)
untouched id e (c ∷ cs) none =
    let other : eqb (id_of c) id ≡ false = ne_eqb (id_of c) id (none 0 id (omega arith)) in
    let more = untouched id e cs (λ k d less. none (suc k) d (omega (arith, less))) in
    (ap (λ b. cond b (Some c) (channel_of id cs)) other ∙ more.0, ap (λ b. cond b (with_event e c) c ∷ after_event_of id e cs) other ∙ ap (λ (l : List Served). c ∷ l) more.1)

-- one has it
pub changed : (id : ℕ) (e : Event) (cs : List Served) (place : ℕ) (c : Served) → slice_get cs place ≡ Some c → id_of c ≡ id → AllPairs (λ a b. a ≢ b) (map id_of cs)
    → (channel_of id cs ≡ Some c) × (after_event_of id e cs ≡ set cs place (with_event e c))
changed id e [] place c is its once = absurd cc
changed id e (b ∷ cs) zero c is its once =
    let same : b ≡ c = cc is in
    let has : eqb (id_of b) id ≡ true = eq-eqb (id_of b) id (ap id_of same ∙ its) in
    let more = untouched id e cs (λ k d less. subst (λ n. get_or (map id_of cs) k d ≢ n) (ap id_of same ∙ its) (first_once (id_of b) (map id_of cs) once k d less)) in (
      ap (λ x. cond x (Some b) (channel_of id cs)) has ∙ ap Some same,
      ap (λ x. cond x (with_event e b) b ∷ after_event_of id e cs) has ∙ cc (more.1, same),
    )
changed id e (b ∷ cs) (suc place) c is its once =
    let other : eqb (id_of b) id ≡ false =
    ne_eqb (id_of b) id (λ same. later_differs (id_of b) (map id_of cs) place (id_of c) once (slice_get-map id_of cs place ∙ ap (option_map id_of) is) (its ∙ sym same)) in
    let more = changed id e cs place c is its (rest_once (id_of b) (map id_of cs) once) in
    (ap (λ x. cond x (Some b) (channel_of id cs)) other ∙ more.0, ap (λ x. cond x (with_event e b) b ∷ after_event_of id e cs) other ∙ ap (λ (l : List Served). b ∷ l) more.1)

-- The channels keep their settings, and each core stands for at most one more event.
pub record Keep (old new : List cores.Seen) : Type 0 where
  pub settings : all_settings new ≡ all_settings old
  pub fewer : (most : ℕ) → All (λ core. cores.StandsForFewer core most) old → All (λ core. cores.StandsForFewer core (most + 1)) new

-- a core stands for fewer than more events too
pub fewer_still : (v : cores.Seen) (m n : ℕ) → m ≤ n → cores.StandsForFewer v m → cores.StandsForFewer v n
fewer_still v m n less f = (f.0, f.1, omega (arith, f.2, less))

-- an event is one more
one_more : (e : Event) (v w : cores.Seen) (a : Answered) → Steps e v w a → (most : ℕ) → cores.StandsForFewer v most → cores.StandsForFewer w (most + 1)
one_more e v w a steps most f =
    let after = (steps.stands (served v.settings f.0) (record { settings = refl; stands = f.1 })).1 in
    (e ∷ f.0, after.stands, omega (arith, f.2))

-- What an event of one channel makes of the cores, by the number of its channel.
pub record StepsOf (e : Event) (id : ℕ) (old new : List cores.Seen) (a : Option Answered) : Type 0 where
  pub stands : (cs : List Served) → AllServe old cs → (a ≡ answer_of id e cs) × AllServe new (after_event_of id e cs)
  pub keep : Keep old new

-- no core has it
pub steps_of_none : (e : Event) (id : ℕ) (cores' : List cores.Seen) → All (λ k. k ≢ id) (ids_of (all_settings cores')) → StepsOf e id cores' cores' None
steps_of_none e id vs none = record {
  stands = λ cs s.
      let without = untouched id e cs (subst (All (λ k. k ≢ id)) (same_ids vs cs s) none) in
      (sym (ap (option_map (answer_to e)) without.0), subst (AllServe vs) (sym without.1) s);
  keep = record { settings = refl; fewer = λ most each k d less. fewer_still (get_or vs k d) most (most + 1) (omega arith) (each k d less) };
}

-- the core at this place has it
pub steps_of_one : (e : Event) (id place : ℕ) (old new : List cores.Seen) (a : Answered) → StepsAt e place old new a → slice_get (ids_of (all_settings old)) place ≡ Some id
    → AllPairs (λ a b. a ≢ b) (ids_of (all_settings old)) → StepsOf e id old new (Some a)
steps_of_one e id place old new a steps is once = record {
  stands = λ cs s.
      let p = partner Serves old cs place steps.core s steps.is_there in
      let named : slice_get (ids_of (all_settings old)) place ≡ Some steps.core.settings.channel.id =
      slice_get-map (λ (x : Settings). x.channel.id) (all_settings old) place
      ∙ ap (option_map (λ (x : Settings). x.channel.id)) (slice_get-map (λ (v : cores.Seen). v.settings) old place ∙ ap (option_map (λ (v : cores.Seen). v.settings)) steps.is_there) in
      let its : id_of p.other ≡ id = ap (λ (x : Settings). x.channel.id) (sym p.goes.settings) ∙ cc (named, is) in
      let one = changed id e cs place p.other p.is_there its (subst (AllPairs (λ a b. a ≢ b)) (same_ids old cs s) once) in
      let after = steps.steps.stands p.other p.goes in (
        ap Some after.0 ∙ sym (ap (option_map (answer_to e)) one.0),
        subst (λ (l : List cores.Seen). AllServe l (after_event_of id e cs)) (sym steps.changed)
            (subst (λ (l : List Served). AllServe (set old place steps.later) l) (sym one.1) (pair_set Serves old cs place steps.later (with_event e p.other) s after.1)),
      );
  keep = record {
    settings =
        ap all_settings steps.changed
        ∙ map-set_same (λ (v : cores.Seen). v.settings) old place steps.later steps.core
        (steps.steps.settings ∙ ap (λ (v : cores.Seen). v.settings) (sym (get_or_from_slice_get old place steps.core steps.core steps.is_there)));
    fewer = λ most each.
        let core : cores.StandsForFewer steps.core most =
        subst (λ (v : cores.Seen). cores.StandsForFewer v most) (get_or_from_slice_get old place steps.core steps.core steps.is_there) (each place steps.core (slice_get_within old place steps.core steps.is_there)) in
        subst (All (λ (v : cores.Seen). cores.StandsForFewer v (most + 1))) (sym steps.changed)
        (All-set (λ (v : cores.Seen). cores.StandsForFewer v (most + 1)) old place steps.later (one_more e steps.core steps.later a steps.steps most core)
        (λ k d less. fewer_still (get_or old k d) most (most + 1) (omega arith) (each k d less)));
  };
}

-- a tick of all cores
pub record TicksAll (old new : List cores.Seen) (answers : List At) : Type 0 where
  pub stands : (cs : List Served) → AllServe old cs → (answers ≡ answers_to_tick cs) × AllServe new (after_tick cs)
  pub keep : Keep old new

-- an answer by its two fields
at_is : (a : At) (id : ℕ) (x : Answered) → a.id ≡ id → a.answer ≡ x → a ≡ record { id = id; answer = x }
at_is a id x i e =
    let named : ℕ → At = λ k. record { id = k; answer = a.answer } in
    let told : Answered → At = λ y. record { id = id; answer = y } in
    ap named i ∙ ap told e

ticks_stand : (vs ws : List cores.Seen) (all : List At) → AllTick vs ws all → (cs : List Served) → AllServe vs cs → (all ≡ answers_to_tick cs) × AllServe ws (after_tick cs)
ticks_stand [] [] [] t [] s = (refl, tt)
ticks_stand [] [] [] t (c ∷ cs) s = absurd s
ticks_stand (v ∷ vs) (w ∷ ws) (a ∷ all) t [] s = absurd s
ticks_stand (v ∷ vs) (w ∷ ws) (a ∷ all) t (c ∷ cs) s =
    let after = t.0.steps.stands c s.0 in
    let more = ticks_stand vs ws all t.1 cs s.1 in
    let one : a ≡ answer_at Tick c = at_is a (id_of c) (answer_to Tick c) (t.0.id ∙ ap (λ (x : Settings). x.channel.id) s.0.settings) after.0 in
    (cc (one, more.0), (after.1, more.1))
ticks_stand vs ws all t cs s = absurd t

ticks_settings : (vs ws : List cores.Seen) (all : List At) → AllTick vs ws all → all_settings ws ≡ all_settings vs
ticks_settings [] [] [] t = refl
ticks_settings (v ∷ vs) (w ∷ ws) (a ∷ all) t = cc (t.0.steps.settings, ticks_settings vs ws all t.1)
ticks_settings vs ws all t = absurd t

ticks_fewer : (vs ws : List cores.Seen) (all : List At) → AllTick vs ws all → (most : ℕ) → All (λ core. cores.StandsForFewer core most) vs → All (λ core. cores.StandsForFewer core (most + 1)) ws
ticks_fewer [] [] [] t most each = λ k d less. absurd (omega (arith, less))
ticks_fewer (v ∷ vs) (w ∷ ws) (a ∷ all) t most each =
    All-cons (λ core. cores.StandsForFewer core (most + 1)) w ws (one_more Tick v w a.answer t.0.steps most (each 0 v (omega arith)))
    (ticks_fewer vs ws all t.1 most (λ k d less. each (suc k) d (omega (arith, less))))
ticks_fewer vs ws all t most each = absurd t

pub ticks_all : (old new : List cores.Seen) (answers : List At) → AllTick old new answers → TicksAll old new answers
ticks_all old new answers t = record {
  stands = ticks_stand old new answers t;
  keep = record { settings = ticks_settings old new answers t; fewer = ticks_fewer old new answers t };
}
