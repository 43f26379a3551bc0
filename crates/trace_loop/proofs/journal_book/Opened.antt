-- The channels that a head opens, as a trace is served by them.
use Rattle.std.proofs.Common.{◌≡◌, ◌≢◌, ℕ, List, [], ◌∷◌, length, Option, Some, None, refl, sym, ap, subst, ◌∙◌, arith}
use Rattle.std.specs.Prelude.{All, AllPairs, Result, Ok, Err, true, not, ◌&&◌, ◌≤◌, nat_le, suc}
use Rattle.std.specs.Int.{is_in_range}
use Rattle.std.proofs.lemmas.Bool.{and_parts, cond_both, not-false}
use Rattle.std.proofs.lemmas.Bool.Decides.{nat_tests}
use Rattle.std.proofs.lemmas.List.Elements.{All-nil, All-cons}
use Rattle.rams_model.specs.declared.{ConfigFault.ConfigFault, ConfigFault.TheVariants.Range}
use Rattle.rams_model.specs.Service.{Settings, names_in_range, bytes_in_range, bounds_in_range, channel_in_range, tick_in_range, checked}
use Rattle.rams_model.specs.Texts.{Head}
use Rattle.server_hub.specs.declared.HubEvent.{HubEvent}
use Rattle.server_hub.specs.{id_of, ids_of, after_events}
use Rattle.server_hub.specs.Served.{Served}
use Rattle.trace_loop.specs.trace_book.trace_serving.{last_stage, AreLawful}
use Rattle.trace_loop.specs.trace_book.{run, served_by, settings_of, new_channels, came, IsServed, KeepsTheLink}
use Rattle.trace_loop.specs.journal_book.{journal_of, behind, IsNumber, HasLine, AreApart, IsJournal, Opens}
use Rattle.trace_loop.proofs.trace_book.Links.{settings_new}
use Rattle.trace_loop.proofs.journal_book.Served.{journals_are_served}

no_events : (events : List HubEvent) → 0 ≡ length events → events ≡ []
no_events [] e = refl
no_events (e ∷ events) h = absurd cc

-- a head alone
pub new_channels_are : (head : List ℕ) (channels : List Served) → Opens head channels → IsServed (journal_of head []) → channels ≡ new_channels channels
unfolding behind after_events
new_channels_are head channels opens is =
    let alone = journals_are_served head channels [] (record { opens = opens; lines = All-nil HasLine; few = omega arith }) in
    let none = no_events (came (journal_of head [])) (sym alone.1 ∙ is.count) in
    let idle : served_by (journal_of head []) ≡ new_channels (served_by (journal_of head [])) =
    is.after ∙ ap (λ (es : List HubEvent). after_events es (new_channels (served_by (journal_of head [])))) none in
    subst (λ (cs : List Served). cs ≡ new_channels cs) alone.0 idle

none_apart : AreApart []
none_apart = λ i j d less short. absurd (omega arith)

-- the settings of a channel that pass have a number in range
in_range : (id : ℕ) → is_in_range 1 65535 id ≡ true → IsNumber id
in_range id h = record { least = low id h; most = high id h }
  where
    low : (n : ℕ) → is_in_range 1 65535 n ≡ true → 1 ≤ n
    low n e = grind (arith, nat_tests)

    high : (n : ℕ) → is_in_range 1 65535 n ≡ true → n ≤ 65535
    high n e = grind (arith, nat_tests)

lawful_number : (s : Settings) → AreLawful s → IsNumber s.channel.id
unfolding checked
lawful_number s lawful =
    let c = s.channel in
    let ranged = tick_in_range s.tick && channel_in_range c in
    cond_both (not ranged) (Err Range) _ (λ (o : Result Settings ConfigFault). o ≡ Ok s → IsNumber c.id) (λ t q. absurd cc)
    (λ f q.
    let both = and_parts (tick_in_range s.tick) (channel_in_range c) (not-false ranged f) in
    let names = and_parts (names_in_range c && bytes_in_range c) (bounds_in_range c) both.1 in
    let first = and_parts (names_in_range c) (bytes_in_range c) names.0 in
    let seq0 = and_parts (is_in_range 1 65535 c.id && nat_le c.pt 127 && nat_le c.rtx 127) (nat_le c.seq0 65535) first.0 in
    let rtx = and_parts (is_in_range 1 65535 c.id && nat_le c.pt 127) (nat_le c.rtx 127) seq0.0 in
    let pt = and_parts (is_in_range 1 65535 c.id) (nat_le c.pt 127) rtx.0 in
    in_range c.id pt.0) lawful

all_numbered : (channels : List Served) → All AreLawful (settings_of (new_channels channels)) → All (λ c. IsNumber (id_of c)) channels
all_numbered [] lawful = All-nil (λ c. IsNumber (id_of c))
all_numbered (c ∷ channels) lawful =
    All-cons (λ x. IsNumber (id_of x)) c channels (lawful_number c.settings (lawful 0 c.settings (omega arith)))
    (all_numbered channels (λ k d less. lawful (suc k) d (omega (arith, less))))

-- What holds of the channels of every trace.
pub record IsFit (channels : List Served) : Type 0 where
  pub numbered : All (λ c. IsNumber (id_of c)) channels
  pub apart : AreApart channels

trace_fits : (trace : List ℕ) → KeepsTheLink trace → IsFit (served_by trace)
trace_fits trace keeps = by (last_stage run trace).reached.head refl
  where
    by : (o : Option Head) → (last_stage run trace).reached.head ≡ o → IsFit (served_by trace)
    by None e = subst IsFit (sym (keeps.headless e)) (record { numbered = All-nil (λ c. IsNumber (id_of c)); apart = none_apart })
    by (Some head) e =
        let within = keeps.link head e in
        record {
          numbered = all_numbered (served_by trace) within.lawful;
          apart = subst (λ (all : List Settings). AllPairs (λ x y. x ≢ y) (ids_of all)) (settings_new (served_by trace)) within.fit.once;
        }

pub journal_fits : (head : List ℕ) (channels : List Served) (events : List HubEvent) → IsJournal head channels events → KeepsTheLink (journal_of head events) → IsFit (behind events channels)
journal_fits head channels events is keeps = subst IsFit (journals_are_served head channels events is).0 (trace_fits (journal_of head events) keeps)
