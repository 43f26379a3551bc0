-- Channels to which nothing came.
use Rattle.std.proofs.Common.{◌≡◌, ℕ, Bool, true, false, cond, eqb, List, [], ◌∷◌, ◌++◌, None, Some, refl, sym, ap}
use Rattle.std.specs.Prelude.{All}
use Rattle.std.proofs.lemmas.List.Elements.{All-head, All-tail}
use Rattle.rams_model.specs.declared.Event.{Event}
use Rattle.rams_model.specs.Service.{Settings}
use Rattle.server_hub.specs.{id_of, channel_of, served}
use Rattle.server_hub.specs.Served.{Served}
use Rattle.meet_loop.specs.world_laws.{as_it_came}
use Rattle.meet_loop.specs.world_net.{came_at, place_of}

fresh_came : (c : Served) (n : ℕ) → c.events ≡ [] → None ≡ as_it_came c.settings c.events n
unfolding as_it_came
fresh_came c n e = sym (ap (λ (l : List Event). as_it_came c.settings l n) e)

pub new_came : (channels : List Served) (id n : ℕ) → All (λ c. c.events ≡ []) channels → None ≡ came_at (channel_of id channels) n
new_came [] id n fresh = refl
new_came (c ∷ channels) id n fresh = by (new_came channels id n (All-tail (λ (x : Served). x.events ≡ []) c channels fresh)) (eqb (id_of c) id)
  where
    by : None ≡ came_at (channel_of id channels) n → (b : Bool) → None ≡ came_at (cond b (Some c) (channel_of id channels)) n
    by more true = fresh_came c n (All-head (λ (x : Served). x.events ≡ []) c channels fresh)
    by more false = more

-- one more of them
pub added_came : (channels : List Served) (s : Settings) (id n : ℕ) → came_at (channel_of id channels) n ≡ came_at (channel_of id (channels ++ served s [] ∷ [])) n
added_came [] s id n = by (eqb s.channel.id id)
  where
    by : (b : Bool) → None ≡ came_at (cond b (Some (served s [])) None) n
    by true = fresh_came (served s []) n refl
    by false = refl
added_came (c ∷ channels) s id n = by (added_came channels s id n) (eqb (id_of c) id)
  where
    by : came_at (channel_of id channels) n ≡ came_at (channel_of id (channels ++ served s [] ∷ [])) n → (b : Bool)
        → came_at (cond b (Some c) (channel_of id channels)) n ≡ came_at (cond b (Some c) (channel_of id (channels ++ served s [] ∷ []))) n
    by more true = refl
    by more false = more

-- where nobody was tuned
pub no_place : (id client : ℕ) → None ≡ place_of id client []
unfolding place_of
no_place id client = refl
