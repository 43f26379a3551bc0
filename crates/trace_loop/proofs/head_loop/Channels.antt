-- Channels by their places.
use Rattle.std.proofs.Common.{◌≡◌, ℕ, zero, suc, List, [], ◌∷◌, ◌++◌, map, length, Some, refl, ap, ◌∙◌}
use Rattle.std.specs.Prelude.{slice_get}
use Rattle.rams_model.specs.Service.{Settings}
use Rattle.server_hub.specs.{Serves, StandsFor, settings_of, id_of, Pairwise}
use Rattle.server_hub.specs.Seen.{Seen}
use Rattle.server_hub.specs.Served.{Served}
use Rattle.trace_loop.specs.trace_book.Stages.{settings_of as settings_all}
use Rattle.trace_loop.specs.head_loop.{numbers}

-- a hub has the settings of the channels that it stands for
pairs_settled : {A : Type 0} (f : A → Settings) (R : A → Served → Type 0) → ((v : A) (c : Served) → R v c → f v ≡ c.settings) → (vs : List A) (channels : List Served)
    → Pairwise R vs channels → map f vs ≡ settings_all channels
pairs_settled f R same [] [] all = refl
pairs_settled f R same [] (c ∷ channels) all = absurd all
pairs_settled f R same (v ∷ vs) [] all = absurd all
pairs_settled f R same (v ∷ vs) (c ∷ channels) all = ap (λ s. s ∷ map f vs) (same v c all.0) ∙ ap (λ l. c.settings ∷ l) (pairs_settled f R same vs channels all.1)

pub settings_stand : (v : Seen) (channels : List Served) → StandsFor v channels → settings_of v ≡ settings_all channels
settings_stand v channels stands = pairs_settled (λ core. core.settings) Serves (λ core c serves. serves.settings) v.channels channels stands

-- one channel more has its number last
pub numbers_append : (channels : List Served) (c : Served) → numbers (channels ++ c ∷ []) ≡ numbers channels ++ c.settings.channel.id ∷ []
numbers_append [] c = refl
numbers_append (b ∷ channels) c = ap (λ l. b.settings.channel.id ∷ l) (numbers_append channels c)

pub numbers_length : (channels : List Served) → length (numbers channels) ≡ length channels
numbers_length [] = refl
numbers_length (c ∷ channels) = ap suc (numbers_length channels)

-- the channel at its place, behind those before it
pub id_there : (before rest : List Served) (c : Served) → slice_get (numbers (before ++ c ∷ rest)) (length before) ≡ Some (id_of c)
id_there [] rest c = refl
id_there (b ∷ before) rest c = id_there before rest c

pub settings_there : (before rest : List Served) (c : Served) → slice_get (settings_all (before ++ c ∷ rest)) (length before) ≡ Some c.settings
settings_there [] rest c = refl
settings_there (b ∷ before) rest c = settings_there before rest c

-- the channel at a place, by its number
pub at_place : (channels : List Served) (place id : ℕ) → slice_get (numbers channels) place ≡ Some id → (c : Served) × (slice_get channels place ≡ Some c) × (id_of c ≡ id)
at_place [] place id is = absurd cc
at_place (c ∷ channels) zero id is = (c, refl, cc is)
at_place (c ∷ channels) (suc place) id is = at_place channels place id is
