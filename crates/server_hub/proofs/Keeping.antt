-- What is true of a hub stays true.
use Rattle.std.proofs.Common.{◌≡◌, ◌≢◌, ℕ, ◌+◌, ◌<◌, true, false, List, ◌++◌, Some, None, length, take, drop, get_or, refl, sym, ◌∙◌, ap, subst, arith}
use Rattle.std.specs.Prelude.{All, AllPairs, map, option_map, slice_get}
use Rattle.std.proofs.Math.Seq.{take-append_seam}
use Rattle.std.proofs.lemmas.List.{length-map}
use Rattle.std.proofs.lemmas.Option.{slice_get_within, slice_get-map, slice_get-get_or}
use Rattle.rams_model.specs.declared.{Event.Event, Event.TheVariants.Tick}
use Rattle.rams_model.specs.Service.{Answered}
use Rattle.server_hub.specs.session_core.Seen as cores
use Rattle.server_hub.specs.declared.event.At.{At}
use Rattle.server_hub.specs.{id_of, channel_of, AreFields, FitLink, KeepsSettings, Serves, AllServe, all_settings, ids_of, shares_of, settings_of, has_id, StepsAt, AllTick}
use Rattle.server_hub.specs.Served.{Served}
use Rattle.server_hub.specs.Seen.{Seen}
use Rattle.server_hub.proofs.Changing.{same_settings, same_ids, changed, untouched, fewer_still, Keep, StepsOf, steps_of_one, steps_of_none, TicksAll, ticks_all}
use Rattle.server_hub.proofs.Finding.{with_id, one_has, none_has, settings_found, Found}
use Rattle.server_hub.proofs.Pairing.{partner}

-- all cores were written over
pub written : (len : ℕ) (channels old : List cores.Seen) → len ≡ length channels → take len (channels ++ drop (length channels) old) ≡ channels
written len channels old is = ap (λ n. take n (channels ++ drop (length channels) old)) is ∙ take-append_seam channels (drop (length channels) old)

-- as long as the hub counts few events, each of its cores stands for few
pub all_few : (calls n : ℕ) (all : List cores.Seen) → All (λ core. cores.StandsForFewer core (calls + 1)) all → calls < n → All (λ core. cores.StandsForFewer core n) all
all_few calls n all counted less = λ k d within. fewer_still (get_or all k d) (calls + 1) n (omega (arith, less)) (counted k d within)

-- the hub after an event
abbrev pub stepped : Seen → List cores.Seen → Seen
stepped v channels = record v { calls = v.calls + 1; channels = channels }

pub kept : (ids : List ℕ) (room claimed : ℕ) (v : Seen) (channels : List cores.Seen) → AreFields ids room claimed v → Keep v.channels channels → AreFields ids room claimed (stepped v channels)
kept ids room claimed v channels f k = record {
  lawful = record {
    tick_least = f.lawful.tick_least;
    tick_most = f.lawful.tick_most;
    link_least = f.lawful.link_least;
    link_most = f.lawful.link_most;
    channels = subst (FitLink v.tick v.link) (sym k.settings) f.lawful.channels;
    counted = k.fewer (v.calls + 1) f.lawful.counted;
  };
  ids_are = f.ids_are ∙ ap ids_of (sym k.settings);
  room_is = f.room_is;
  claimed_is = f.claimed_is ∙ ap shares_of (sym k.settings);
}

pub settings_kept : (v : Seen) (channels : List cores.Seen) → Keep v.channels channels → KeepsSettings v (stepped v channels)
settings_kept v channels k = record { tick = refl; link = refl; settings = k.settings }

-- A tick of the cores of a hub.
pub ticked : (source old new : List cores.Seen) (answers : List At) → source ≡ old → AllTick source new answers → TicksAll old new answers
ticked source old new answers same t = ticks_all old new answers (subst (λ (l : List cores.Seen). AllTick l new answers) same t)

-- the settings of the cores are those of the channels
pub settings_served : (id : ℕ) (vs : List cores.Seen) (cs : List Served) → AllServe vs cs → with_id id (all_settings vs) ≡ option_map (λ c. c.settings) (channel_of id cs)
settings_served id vs cs s = ap (with_id id) (same_settings vs cs s) ∙ settings_found id cs

-- An event of the channel whose number stands at this place.
module _ (ids : List ℕ) (room claimed : ℕ) (v : Seen) (f : AreFields ids room claimed v) (names : List ℕ) (same : names ≡ ids) (id : ℕ) where
  -- the numbers of the channels
  names_are : names ≡ ids_of (settings_of v)
  names_are = same ∙ f.ids_are

  pub place_within : (place : ℕ) → slice_get names place ≡ Some id → place < length v.channels
  place_within place is =
      omega (arith, slice_get_within names place id is, ap length names_are, length-map (settings_of v) (λ s. s.channel.id), length-map v.channels (λ core. core.settings))

  pub one_steps : (e : Event) (place : ℕ) (source new : List cores.Seen) (a : Answered) → slice_get names place ≡ Some id → source ≡ v.channels → StepsAt e place source new a
      → StepsOf e id v.channels new (Some a)
  one_steps e place source new a is are steps =
      steps_of_one e id place v.channels new a (subst (λ (l : List cores.Seen). StepsAt e place l new a) are steps) (subst (λ (l : List ℕ). slice_get l place ≡ Some id) names_are is)
      f.lawful.channels.once

  pub one_is : (place : ℕ) → slice_get names place ≡ Some id → (with_id id (settings_of v) ≡ slice_get (settings_of v) place) × (has_id id (settings_of v) ≡ true)
  one_is place is = one_has id (settings_of v) place (subst (λ (l : List ℕ). slice_get l place ≡ Some id) names_are is) f.lawful.channels.once

  pub none_steps : (e : Event) → All (λ k. k ≢ id) names → StepsOf e id v.channels v.channels None
  none_steps e none = steps_of_none e id v.channels (subst (All (λ k. k ≢ id)) names_are none)

  pub none_is : All (λ k. k ≢ id) names → (with_id id (settings_of v) ≡ None) × (has_id id (settings_of v) ≡ false)
  none_is none = none_has id (settings_of v) (subst (All (λ k. k ≢ id)) names_are none)

  -- the core at that place has the settings, and stands for the channel
  pub found_settings : (place : ℕ) (d : cores.Seen) → slice_get names place ≡ Some id → with_id id (settings_of v) ≡ Some (get_or v.channels place d).settings
  found_settings place d is =
      (one_is place is).0 ∙ slice_get-map (λ (c : cores.Seen). c.settings) v.channels place ∙ ap (option_map (λ (c : cores.Seen). c.settings)) (slice_get-get_or v.channels place d (place_within place is))

  pub found_channel : (place : ℕ) (d : cores.Seen) → slice_get names place ≡ Some id → (cs : List Served) → AllServe v.channels cs → Found id (get_or v.channels place d) cs
  found_channel place d is cs s =
      let core = slice_get-get_or v.channels place d (place_within place is) in
      let p = partner Serves v.channels cs place (get_or v.channels place d) s core in
      let named : slice_get (map id_of cs) place ≡ Some id = subst (λ (l : List ℕ). slice_get l place ≡ Some id) (names_are ∙ same_ids v.channels cs s) is in
      let its : id_of p.other ≡ id = cc (named, slice_get-map id_of cs place ∙ ap (option_map id_of) p.is_there) in
      let one = changed id Tick cs place p.other p.is_there its (subst (AllPairs (λ a b. a ≢ b)) (same_ids v.channels cs s) f.lawful.channels.once) in
      record { channel = p.other; is_there = one.0; serves = p.goes }

  pub none_found : All (λ k. k ≢ id) names → (cs : List Served) → AllServe v.channels cs → channel_of id cs ≡ None
  none_found none cs s = (untouched id Tick cs (subst (All (λ k. k ≢ id)) (names_are ∙ same_ids v.channels cs s) none)).0
