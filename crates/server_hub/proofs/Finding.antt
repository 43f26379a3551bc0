-- The channel of a number.
use Rattle.std.proofs.Common.{◌≡◌, ◌≢◌, ℕ, zero, suc, Bool, true, false, cond, List, [], ◌∷◌, Option, Some, None, map, option_map, refl, sym, ◌∙◌, ap, subst, arith, eqb}
use Rattle.std.specs.Prelude.{All, AllPairs, find, option_and_then, slice_get, ◌||◌}
use Rattle.std.proofs.lemmas.Bool.{eq-eqb, ne_eqb}
use Rattle.rams_model.specs.declared.{Event.Event, Held.Held}
use Rattle.rams_model.specs.Service.{Settings, hold, history_of}
use Rattle.rams_model.specs.Packets.{hi}
use Rattle.channel_cache.specs.packet_ring.{packet_of}
use Rattle.server_hub.specs.session_core.Seen as cores
use Rattle.server_hub.specs.{id_of, channel_of, hi_of, held_of, ids_of, has_id, Serves}
use Rattle.server_hub.specs.Served.{Served}
use Rattle.server_hub.proofs.Changing.{later_differs, rest_once}

-- the settings with this number
abbrev pub with_id : ℕ → List Settings → Option Settings
with_id id all = find (λ s. eqb s.channel.id id) all

-- none has it
pub none_has : (id : ℕ) (all : List Settings) → All (λ k. k ≢ id) (ids_of all) → (with_id id all ≡ None) × (has_id id all ≡ false)
none_has id [] none = (refl, refl)
none_has id (s ∷ all) none =
    let other : eqb s.channel.id id ≡ false = ne_eqb s.channel.id id (none 0 id (omega arith)) in
    let more = none_has id all (λ k d less. none (suc k) d (omega (arith, less))) in
    (ap (λ b. cond b (Some s) (with_id id all)) other ∙ more.0, ap (λ b. b || has_id id all) other ∙ more.1)

-- one has it
pub one_has : (id : ℕ) (all : List Settings) (place : ℕ) → slice_get (ids_of all) place ≡ Some id → AllPairs (λ a b. a ≢ b) (ids_of all)
    → (with_id id all ≡ slice_get all place) × (has_id id all ≡ true)
one_has id [] place is once = absurd cc
one_has id (s ∷ all) zero is once =
    let has : eqb s.channel.id id ≡ true = eq-eqb s.channel.id id (cc is) in
    (ap (λ b. cond b (Some s) (with_id id all)) has, ap (λ b. b || has_id id all) has)
one_has id (s ∷ all) (suc place) is once =
    let other : eqb s.channel.id id ≡ false = ne_eqb s.channel.id id (λ same. later_differs s.channel.id (ids_of all) place id once is (sym same)) in
    let more = one_has id all place is (rest_once s.channel.id (ids_of all) once) in
    (ap (λ b. cond b (Some s) (with_id id all)) other ∙ more.0, ap (λ b. b || has_id id all) other ∙ more.1)

found_first : (b : Bool) (c : Served) (s : Option Settings) (o : Option Served) → s ≡ option_map (λ x. x.settings) o → cond b (Some c.settings) s ≡ option_map (λ x. x.settings) (cond b (Some c) o)
found_first true c s o is = refl
found_first false c s o is = is

-- the settings of the channel with this number
pub settings_found : (id : ℕ) (cs : List Served) → with_id id (map (λ c. c.settings) cs) ≡ option_map (λ c. c.settings) (channel_of id cs)
settings_found id [] = refl
settings_found id (c ∷ cs) = found_first (eqb (id_of c) id) c (with_id id (map (λ x. x.settings) cs)) (channel_of id cs) (settings_found id cs)

-- the channel of this number, which a core stands for
pub record Found (id : ℕ) (core : cores.Seen) (cs : List Served) : Type 0 where
  pub channel : Served
  pub is_there : channel_of id cs ≡ Some channel
  pub serves : Serves core channel

-- what a core says of its held packets is so of that channel
pub hi_found : (id : ℕ) (core other : cores.Seen) (cs : List Served) (n : ℕ) → Found id other cs → core ≡ other
    → ((events : List Event) → cores.StandsFor core events → n ≡ hi (hold core.settings (history_of core.settings events))) → Some n ≡ option_map hi_of (channel_of id cs)
hi_found id core other cs n f same says =
    let serves : Serves core f.channel = subst (λ (v : cores.Seen). Serves v f.channel) (sym same) f.serves in
    let events = f.channel.events in
    ap Some (says events serves.stands ∙ ap (λ (s : Settings). hi (hold s (history_of s events))) serves.settings) ∙ sym (ap (option_map hi_of) f.is_there)

pub held_found : (id n : ℕ) (core other : cores.Seen) (cs : List Served) (o : Option Held) → Found id other cs → core ≡ other
    → ((events : List Event) → cores.StandsFor core events → o ≡ packet_of n (hold core.settings (history_of core.settings events))) → o ≡ option_and_then (held_of n) (channel_of id cs)
held_found id n core other cs o f same says =
    let serves : Serves core f.channel = subst (λ (v : cores.Seen). Serves v f.channel) (sym same) f.serves in
    let events = f.channel.events in
    says events serves.stands ∙ ap (λ (s : Settings). packet_of n (hold s (history_of s events))) serves.settings ∙ sym (ap (option_and_then (held_of n)) f.is_there)
