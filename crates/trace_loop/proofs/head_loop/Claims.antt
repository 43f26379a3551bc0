-- A hub, and what the lines of a trace keep of its channels.
use Rattle.std.proofs.Common.{◌≡◌, ℕ, ◌+◌, ◌||◌, Bool, false, true, not, ◌&&◌, List, [], ◌∷◌, map, length, None, refl, sym, ap, ◌∙◌, eqb, ltb, leb}
use Rattle.std.specs.Prelude.{sum_by}
use Rattle.std.specs.List.{list_any}
use Rattle.std.proofs.lemmas.Bool.{lt-ltb, le-leb}
use Rattle.std.proofs.lemmas.List.{length-map}
use Rattle.rams_model.specs.declared.Channel.{Channel}
use Rattle.rams_model.specs.Service.{Settings, settings}
use Rattle.rams_model.specs.Texts.{Claim, Head, Reached, has_channel}
use Rattle.server_hub.specs.declared.HubEvent.{HubEvent}
use Rattle.server_hub.specs.{settings_of as hub_settings, has_id, shares_of, refused, after_event}
use Rattle.server_hub.specs.Seen.{Seen}
use Rattle.server_hub.specs.Served.{Served}
use Rattle.trace_loop.proofs.trace_book.Served.{settings_after}
use Rattle.trace_loop.proofs.trace_book.trace_serving.Judged.{IsJoined}
use Rattle.trace_loop.proofs.trace_book.trace_serving.Steps.{shares_are}
use Rattle.trace_loop.specs.trace_book.trace_serving.{claim_of as claim_in}
use Rattle.trace_loop.specs.trace_book.Stages.{settings_of}
use Rattle.trace_loop.specs.head_loop.{claim_of}

-- the lines keep of a channel what its settings say
pub claims_are : (channels : List Served) → map claim_of channels ≡ map claim_in (settings_of channels)
claims_are [] = refl
claims_are (c ∷ channels) = ap (λ (l : List Claim). claim_of c ∷ l) (claims_are channels)

-- an event changes no channel's number and share
pub claims_kept : (e : HubEvent) (channels : List Served) → map claim_of (after_event e channels) ≡ map claim_of channels
claims_kept e channels = claims_are (after_event e channels) ∙ ap (map claim_in) (settings_after e channels) ∙ sym (claims_are channels)

-- without channels, no channel line came
pub no_channel : (r : Reached) (channels : List Served) → r.channels ≡ map claim_of channels → channels ≡ [] → has_channel r ≡ false
no_channel r channels claims none = ap (λ (l : List Claim). ltb 0 (length l)) (claims ∙ ap (map claim_of) none)

-- a head line comes behind no other
pub none_before : (ended head : Bool) → (not ended && not head) ≡ true → head ≡ false
none_before true head h = absurd cc
none_before false true h = absurd cc
none_before false false h = refl

has_claimed : (id : ℕ) (all : List Settings) → has_id id all ≡ list_any (λ k. eqb k.id id) (map claim_in all)
has_claimed id [] = refl
has_claimed id (s ∷ all) = ap (λ b. eqb s.channel.id id || b) (has_claimed id all)

-- How many channels a hub has, their numbers and their shares are those that the lines kept.
module _ (v : Seen) (r : Reached) (all : List Settings) (claims : r.channels ≡ map claim_in all) (is : hub_settings v ≡ all) where
  pub few_claimed : length v.channels ≡ length r.channels
  few_claimed = sym (length-map v.channels (λ core. core.settings)) ∙ ap length is ∙ sym (length-map all claim_in) ∙ ap length (sym claims)

  pub ids_claimed : (id : ℕ) → has_id id (hub_settings v) ≡ list_any (λ k. eqb k.id id) r.channels
  ids_claimed id = ap (has_id id) is ∙ has_claimed id all ∙ ap (list_any (λ k. eqb k.id id)) (sym claims)

  pub shares_claimed : shares_of (hub_settings v) ≡ sum_by (λ k. k.share) r.channels
  shares_claimed = ap shares_of is ∙ sym (shares_are all) ∙ ap (sum_by (λ k. k.share)) (sym claims)

  -- a channel whose line may come can be added
  pub fits : (later : Reached) (head : Head) (c : Channel) → IsJoined r head c later → v.link ≡ head.link → refused v (settings c v.tick) ≡ None
  fits later head c j link =
      let few : ltb (length v.channels) 64 ≡ true = ap (λ n. ltb n 64) few_claimed ∙ lt-ltb (length r.channels) 64 j.few in
      let new : has_id c.id (hub_settings v) ≡ false = ids_claimed c.id ∙ j.new in
      let room : leb (shares_of (hub_settings v) + c.share) v.link ≡ true =
      ap (λ n. leb (n + c.share) v.link) shares_claimed ∙ ap (leb (sum_by (λ k. k.share) r.channels + c.share)) link ∙ le-leb (sum_by (λ k. k.share) r.channels + c.share) head.link j.fits in
      rw (few, new, room) refl
