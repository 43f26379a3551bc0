-- What hangs on the settings of channels doesn't change as events come.
use Rattle.std.proofs.Common.{◌≡◌, ℕ, ◌+◌, List, [], ◌∷◌, refl, ap, sym, ◌∙◌}
use Rattle.std.specs.Prelude.{sum_by}
use Rattle.std.proofs.lemmas.List.Sums.{sum_by-cons}
use Rattle.rams_model.specs.Service.{Settings}
use Rattle.server_hub.specs.declared.HubEvent.{HubEvent}
use Rattle.server_hub.specs.{all_swells, after_events}
use Rattle.server_hub.specs.Served.{Served}
use Rattle.trace_loop.specs.trace_book.{settings_of, new_channels}
use Rattle.trace_loop.proofs.trace_book.Served.{settings_over}

pub settings_new : (cs : List Served) → settings_of (new_channels cs) ≡ settings_of cs
settings_new [] = refl
settings_new (c ∷ cs) = ap (λ (l : List Settings). c.settings ∷ l) (settings_new cs)

swells_in : (cs : List Served) → all_swells cs ≡ sum_by (λ s. s.channel.swell) (settings_of cs)
swells_in [] = refl
swells_in (c ∷ cs) =
    sum_by-cons (λ (x : Served). x.settings.channel.swell) c cs ∙ ap (λ (n : ℕ). c.settings.channel.swell + n) (swells_in cs)
    ∙ sym (sum_by-cons (λ (s : Settings). s.channel.swell) c.settings (settings_of cs))

pub swells_over : (events : List HubEvent) (cs : List Served) → all_swells (after_events events cs) ≡ all_swells cs
swells_over events cs =
    swells_in (after_events events cs) ∙ ap (λ (all : List Settings). sum_by (λ s. s.channel.swell) all) (settings_over events cs) ∙ sym (swells_in cs)
