-- Which channel an event comes to, and what is sent and written of its answer.
use Rattle.std.proofs.Common.{◌≡◌, ◌≢◌, ℕ, zero, suc, ◌+◌, ◌*◌, Bool, true, false, cond, eqb, List, [], ◌∷◌, ◌++◌, get_or, Option, Some, None, option_map, refl, sym, ap, subst, ◌∙◌, arith, append-nil, append_assoc, length}
use Rattle.std.specs.Prelude.{All, slice_get, flat_map}
use Rattle.std.proofs.lemmas.Bool.{eq-eqb, ne_eqb, eqb-true}
use Rattle.std.proofs.lemmas.Option.{slice_get-map}
use Rattle.rams_model.specs.declared.Event.{Event}
use Rattle.rams_model.specs.declared.Event.TheVariants as event
use Rattle.rams_model.specs.Service.{Settings}
use Rattle.ram_io.specs.{Outgoing}
use Rattle.server_hub.specs.declared.HubEvent.{HubEvent}
use Rattle.server_hub.specs.declared.HubEvent.TheVariants.{Live, Feedback, Tick}
use Rattle.server_hub.specs.Served.{Served}
use Rattle.server_hub.specs.{id_of, answer_to, channel_of}
use Rattle.server_hub.proofs.Changing.{rest_once, first_once, later_differs}
use Rattle.trace_loop.specs.trace_book.{settings_of, named_text, channel_text}
use Rattle.trace_loop.specs.head_loop.{numbers}
use Rattle.trace_loop.specs.journal_book.{own_event, answer_datagrams, own_datagrams, datagrams_of, AreApart, own_text, own_texts, absent_text, OneAnswers, ChannelsAnswerInOrder, RunsWriteOfThem}

-- An event of one channel: it comes to each channel of this number.
module _ (id : ℕ) (e : Event) where
  -- as that channel has it
  abbrev own : Served → Option Event
  own c = cond (eqb (id_of c) id) (Some e) None

  none_sends : (port : ℕ) (event : HubEvent) (channels : List Served) → ((c : Served) → own_event event c ≡ own c) → All (λ k. k ≢ id) (numbers channels) → datagrams_of port event channels ≡ []
  none_sends port event [] is none = refl
  none_sends port event (c ∷ channels) is none =
      let other : eqb (id_of c) id ≡ false = ne_eqb (id_of c) id (none 0 id (omega arith)) in
      let nothing : own_event event c ≡ None = is c ∙ ap (λ b. cond b (Some e) None) other in
      ap (λ (o : Option Event). own_datagrams port o c ++ datagrams_of (port + 2) event channels) nothing
      ∙ none_sends (port + 2) event channels is (λ k d less. none (suc k) d (omega (arith, less)))

  one_sends : (port at place : ℕ) (event : HubEvent) (channels : List Served) (c : Served) → ((b : Served) → own_event event b ≡ own b) → slice_get channels place ≡ Some c → id_of c ≡ id
      → AreApart channels → at ≡ port + 2 * place → datagrams_of port event channels ≡ answer_datagrams at c.settings (answer_to e c)
  one_sends port at place event [] c is there its apart port_is = absurd cc
  one_sends port at zero event (b ∷ channels) c is there its apart port_is =
      let same : b ≡ c = cc there in
      let has : eqb (id_of b) id ≡ true = eq-eqb (id_of b) id (ap id_of same ∙ its) in
      let comes : own_event event b ≡ Some e = is b ∙ ap (λ t. cond t (Some e) None) has in
      let others : All (λ k. k ≢ id) (numbers channels) =
      λ k d less. subst (λ n. get_or (numbers channels) k d ≢ n) (ap id_of same ∙ its) (first_once (id_of b) (numbers channels) apart k d less) in
      let here : port ≡ at = omega arith in
      ap (λ (o : Option Event). own_datagrams port o b ++ datagrams_of (port + 2) event channels) comes
      ∙ ap (λ (os : List Outgoing). answer_datagrams port b.settings (answer_to e b) ++ os) (none_sends (port + 2) event channels is others)
      ∙ append-nil (answer_datagrams port b.settings (answer_to e b))
      ∙ ap (λ (x : Served). answer_datagrams port x.settings (answer_to e x)) same ∙ ap (λ p. answer_datagrams p c.settings (answer_to e c)) here
  one_sends port at (suc place) event (b ∷ channels) c is there its apart port_is =
      let number : slice_get (numbers channels) place ≡ Some (id_of c) =
      slice_get-map (λ (s : Settings). s.channel.id) (settings_of channels) place
      ∙ ap (option_map (λ (s : Settings). s.channel.id)) (slice_get-map (λ (x : Served). x.settings) channels place ∙ ap (option_map (λ (x : Served). x.settings)) there) in
      let other : eqb (id_of b) id ≡ false = ne_eqb (id_of b) id (λ same. later_differs (id_of b) (numbers channels) place (id_of c) apart number (its ∙ sym same)) in
      let passes_by : own_event event b ≡ None = is b ∙ ap (λ t. cond t (Some e) None) other in
      ap (λ (o : Option Event). own_datagrams port o b ++ datagrams_of (port + 2) event channels) passes_by
      ∙ one_sends (port + 2) at place event channels c is there its (rest_once (id_of b) (numbers channels) apart) (omega arith)

  -- the lines of the channels that it comes to
  abbrev own_lines : ℕ → List Served → List ℕ
  own_lines number channels = flat_map (λ c. own_text number (own c) c) channels

  none_writes : (number : ℕ) (channels : List Served) → All (λ k. k ≢ id) (numbers channels) → own_lines number channels ≡ []
  none_writes number [] none = refl
  none_writes number (c ∷ channels) none =
      let other : eqb (id_of c) id ≡ false = ne_eqb (id_of c) id (none 0 id (omega arith)) in
      ap (λ t. own_text number (cond t (Some e) None) c ++ own_lines number channels) other ∙ none_writes number channels (λ k d less. none (suc k) d (omega (arith, less)))

  -- the first of some channels, which has the number or not
  writes_first : (number : ℕ) (c : Served) (found : Option Served) (more : List ℕ) (t : Bool) → (t ≡ true → more ≡ []) → (t ≡ false → named_text number id e found ≡ more ++ absent_text number id found)
      → named_text number id e (cond t (Some c) found) ≡ (own_text number (cond t (Some e) None) c ++ more) ++ absent_text number id (cond t (Some c) found)
  writes_first number c found more true none others =
      sym (append-nil (channel_text number e c ++ more) ∙ (ap (λ (bs : List ℕ). channel_text number e c ++ bs) (none refl) ∙ append-nil (channel_text number e c)))
  writes_first number c found more false none others = others refl

  one_writes : (number : ℕ) (channels : List Served) → AreApart channels → named_text number id e (channel_of id channels) ≡ own_lines number channels ++ absent_text number id (channel_of id channels)
  one_writes number [] apart = refl
  one_writes number (c ∷ channels) apart =
      let rest = one_writes number channels (rest_once (id_of c) (numbers channels) apart) in
      writes_first number c (channel_of id channels) (own_lines number channels) (eqb (id_of c) id)
      (λ has. none_writes number channels (λ k d less. subst (λ n. get_or (numbers channels) k d ≢ n) (eqb-true (id_of c) id has) (first_once (id_of c) (numbers channels) apart k d less)))
      (λ other. rest)

pub one_answers : OneAnswers
one_answers port place client channels c bytes apart there = (
  one_sends (id_of c) (event.Live bytes) port (port + 2 * place) place (Live (id_of c) bytes) channels c (λ b. refl) there refl apart refl,
  one_sends (id_of c) (event.Feedback client bytes) port (port + 2 * place) place (Feedback (id_of c) client bytes) channels c (λ b. refl) there refl apart refl,
)

pub runs_write_of_them : RunsWriteOfThem
runs_write_of_them number (Live id bytes) channels apart = one_writes id (event.Live bytes) number channels apart
runs_write_of_them number (Feedback id client bytes) channels apart = one_writes id (event.Feedback client bytes) number channels apart
runs_write_of_them number Tick channels apart = sym (append-nil (own_texts number Tick channels))

pub answer_in_order : ChannelsAnswerInOrder
answer_in_order port event [] more = ap (λ p. datagrams_of p event more) (let same : port ≡ port + 0 = omega arith in same)
answer_in_order port event (c ∷ channels) more =
    let sent = own_datagrams port (own_event event c) c in
    let behind : port + 2 + 2 * length channels ≡ port + 2 * suc (length channels) = omega arith in
    ap (λ (os : List Outgoing). sent ++ os) (answer_in_order (port + 2) event channels more)
    ∙ sym (append_assoc sent (datagrams_of (port + 2) event channels) (datagrams_of (port + 2 + 2 * length channels) event more))
    ∙ ap (λ p. (sent ++ datagrams_of (port + 2) event channels) ++ datagrams_of p event more) behind
