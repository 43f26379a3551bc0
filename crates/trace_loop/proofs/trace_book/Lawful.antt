-- The channels of a trace have lawful settings.
use Rattle.std.proofs.Common.{◌≡◌, ℕ, ◌≤◌, true, not, ◌&&◌, List, [], ◌∷◌, Option, Some, None, sym, subst}
use Rattle.std.specs.Prelude.{All, Result, Ok, Err}
use Rattle.std.proofs.lemmas.Bool.{cond_both, and_parts, not-false, leb-true}
use Rattle.std.proofs.lemmas.List.Elements.{All-nil, All-cons, All-head, All-tail}
use Rattle.rams_model.specs.declared.{ConfigFault.ConfigFault, ConfigFault.TheVariants.Range}
use Rattle.rams_model.specs.Service.{Settings, tick_in_range, names_in_range, bytes_in_range, bounds_in_range, channel_in_range, checked}
use Rattle.rams_model.specs.Texts.{Head}
use Rattle.server_hub.specs.Served.{Served}
use Rattle.trace_loop.specs.trace_book.trace_serving.{AreLawful, Stand, IsServedSo}
use Rattle.trace_loop.specs.trace_book.{run, served_by, settings_of}
use Rattle.trace_loop.proofs.trace_book.Served.{all_are}

-- lawful settings are in their ranges
pub lawful_range : (s : Settings) → AreLawful s → channel_in_range s.channel ≡ true
unfolding checked
lawful_range s lawful =
    let ranged = tick_in_range s.tick && channel_in_range s.channel in
    cond_both (not ranged) (Err Range) _ (λ (o : Result Settings ConfigFault). o ≡ Ok s → channel_in_range s.channel ≡ true) (λ t q. absurd cc)
    (λ f q. (and_parts (tick_in_range s.tick) (channel_in_range s.channel) (not-false ranged f)).1) lawful

-- so a client is forgotten after a tick at least
pub idle_least : (s : Settings) → AreLawful s → 1 ≤ s.channel.idle
idle_least s lawful =
    let bounds = (and_parts (names_in_range s.channel && bytes_in_range s.channel) (bounds_in_range s.channel) (lawful_range s lawful)).1 in
    let idle = (and_parts _ _ (and_parts _ _ bounds).0).1 in
    leb-true _ _ (and_parts _ _ idle).0

-- what holds of the settings holds of the channels
pub of_settings : (P : Settings → Type 0) (cs : List Served) → All P (settings_of cs) → All (λ c. P c.settings) cs
of_settings P [] a = All-nil (λ c. P c.settings)
of_settings P (c ∷ cs) a =
    All-cons (λ c. P c.settings) c cs (All-head P c.settings (settings_of cs) a) (of_settings P cs (All-tail P c.settings (settings_of cs) a))

-- channels that stand under a head line
pub lawful_all : (o : Option Head) (all : List Settings) → Stand o all → All AreLawful all
lawful_all None all stand = subst (All AreLawful) (sym stand) (All-nil AreLawful)
lawful_all (Some head) all stand = stand.lawful

pub channels_lawful : (trace : List ℕ) (so : IsServedSo run trace) → All (λ c. AreLawful c.settings) (served_by trace)
channels_lawful trace so = of_settings AreLawful (served_by trace) (subst (All AreLawful) (sym (all_are trace so)) (lawful_all _ so.all so.stand))
