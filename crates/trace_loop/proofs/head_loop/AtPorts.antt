-- Which channel a port is of.
use Rattle.std.proofs.Common.{◌≡◌, ℕ, ◌+◌, ◌*◌, ◌<◌, ◌≤◌, zero, suc, List, [], ◌∷◌, length, None, Some, sym, ap, ◌∙◌, arith}
use Rattle.std.proofs.lemmas.List.{length-map}
use Rattle.std.specs.Prelude.{slice_get}
use Rattle.rams_model.specs.Service.{Settings}
use Rattle.server_hub.specs.declared.HubEvent.TheVariants.{Live, Feedback}
use Rattle.server_hub.specs.Served.{Served}
use Rattle.trace_loop.specs.trace_book.Stages.{settings_of}
use Rattle.trace_loop.specs.journal_book.{heard_from}
use Rattle.trace_loop.proofs.journal_book.Heard.{ports_are_heard, other_ports_are_not}
use Rattle.trace_loop.specs.head_loop.{numbers}
use Rattle.trace_loop.proofs.head_loop.Channels.{at_place}

pub live_is_heard : (live place sender port id : ℕ) (channels : List Served) (bytes : List ℕ) → slice_get (numbers channels) place ≡ Some id → port ≡ live + 2 * place
    → Some (Live id bytes) ≡ heard_from live channels sender port bytes
live_is_heard live place sender port id channels bytes there is =
    let at = at_place channels place id there in
    ap (λ i. Some (Live i bytes)) (sym at.2) ∙ sym (ap (λ p. heard_from live channels sender p bytes) is ∙ (ports_are_heard live place sender channels at.0 bytes at.1).0)

pub feedback_is_heard : (live place sender port id : ℕ) (channels : List Served) (bytes : List ℕ) → slice_get (numbers channels) place ≡ Some id → port ≡ live + 2 * place + 1
    → Some (Feedback id sender bytes) ≡ heard_from live channels sender port bytes
feedback_is_heard live place sender port id channels bytes there is =
    let at = at_place channels place id there in
    ap (λ i. Some (Feedback i sender bytes)) (sym at.2) ∙ sym (ap (λ p. heard_from live channels sender p bytes) is ∙ (ports_are_heard live place sender channels at.0 bytes at.1).1)

pub below_is_none : (live sender port : ℕ) (channels : List Served) (bytes : List ℕ) → port < live → None ≡ heard_from live channels sender port bytes
below_is_none live sender port channels bytes low = sym ((other_ports_are_not live port sender channels bytes).0 low)

-- no channel has a place past the last one
past_the_last : (xs : List ℕ) (place : ℕ) → slice_get xs place ≡ None → length xs ≤ place
past_the_last [] place e = omega arith
past_the_last (x ∷ xs) zero e = absurd cc
past_the_last (x ∷ xs) (suc place) e = let rest = past_the_last xs place e in omega arith

pub above_is_none : (live place sender port : ℕ) (channels : List Served) (bytes : List ℕ) → slice_get (numbers channels) place ≡ None → live + 2 * place ≤ port
    → None ≡ heard_from live channels sender port bytes
above_is_none live place sender port channels bytes none is =
    let past = past_the_last (numbers channels) place none in
    let settings = length-map channels (λ (c : Served). c.settings) in
    let ids = length-map (settings_of channels) (λ (s : Settings). s.channel.id) in
    let above : live + 2 * length channels ≤ port = omega arith in
    sym ((other_ports_are_not live port sender channels bytes).1 above)
