-- A channel more, or why there isn't.
use Rattle.std.proofs.Common.{◌≡◌, ◌≢◌, ℕ, ◌+◌, ◌-◌, ◌<◌, ◌≤◌, Bool, true, false, not, cond, List, [], ◌∷◌, ◌++◌, Option, Some, None, length, refl, sym, ◌∙◌, ap, subst, arith, eqb, ltb, leb}
use Rattle.std.specs.Prelude.{All, AllPairs, ◌||◌, IfSome, Result, Err}
use Rattle.std.specs.List.{list_any}
use Rattle.std.proofs.lemmas.Bool.{lt-ltb, le-leb, lt-leb}
use Rattle.std.proofs.lemmas.List.Elements.{All-append, All-cons}
use Rattle.std.proofs.lemmas.List.{length-append, length-map, map-append}
use Rattle.std.proofs.lemmas.List.Quantifiers.{all_pairs_push}
use Rattle.std.proofs.lemmas.List.Sums.{sum_by_push}
use Rattle.rams_model.specs.declared.Channel.{Channel}
use Rattle.rams_model.specs.Service.{Settings}
use Rattle.server_hub.specs.session_core.Seen as cores
use Rattle.server_hub.specs.declared.event.AddFault.{AddFault}
use Rattle.server_hub.specs.{served, AreFields, FitLink, Serves, AllServe, all_settings, ids_of, shares_of, settings_of, has_id, refused}
use Rattle.server_hub.specs.declared.event.AddFault.TheVariants.{Full, Twice, Link}
use Rattle.server_hub.specs.Served.{Served}
use Rattle.server_hub.specs.Seen.{Seen}
use Rattle.server_hub.proofs.Pairing.{pair_more}
use Rattle.server_hub.proofs.Passing.{in_none}

-- the test of all numbers
pub has_is : (id : ℕ) (all : List Settings) → list_any (λ k. eqb k id) (ids_of all) ≡ has_id id all
has_is id [] = refl
has_is id (s ∷ all) = ap (λ b. eqb s.channel.id id || b) (has_is id all)

-- the first of the three faults
faults : Bool → Bool → Bool → Option AddFault
faults few twice fits = cond (not few) (Some Full) (cond twice (Some Twice) (cond (not fits) (Some Link) None))

of_faults : (v : Seen) (s : Settings) (few twice fits : Bool) → ltb (length v.channels) 64 ≡ few → has_id s.channel.id (settings_of v) ≡ twice
    → leb (shares_of (settings_of v) + s.channel.share) v.link ≡ fits → refused v s ≡ faults few twice fits
unfolding faults
of_faults v s few twice fits a b c = rw (a, b, c) refl

-- the fault that the hub answers, where there is one
pub is_fault : (r : Result (Unit {0}) AddFault) (o : Option AddFault) (fault : AddFault) → o ≡ Some fault → r ≡ Err fault → IfSome o (λ x. r ≡ Err x)
is_fault r o fault is e = subst (λ (p : Option AddFault). IfSome p (λ x. r ≡ Err x)) (sym is) e

pub no_fault : (r : Result (Unit {0}) AddFault) (o : Option AddFault) → o ≡ None → IfSome o (λ x. r ≡ Err x)
no_fault r o is = subst (λ (p : Option AddFault). IfSome p (λ x. r ≡ Err x)) (sym is) tt

-- the settings of one core more
pub settings_more : (channels : List cores.Seen) (core : cores.Seen) → all_settings (channels ++ core ∷ []) ≡ all_settings channels ++ core.settings ∷ []
settings_more channels core = map-append (λ (x : cores.Seen). x.settings) channels (core ∷ [])

-- where there is room for a channel more, there is room for its number
pub number_fits : (ids : List ℕ) (room claimed : ℕ) (v : Seen) → AreFields ids room claimed v → length v.channels < 64 → length ids < room
number_fits ids room claimed v f few =
    let all = length-map v.channels (λ core. core.settings) in
    let names = ap length f.ids_are ∙ length-map (settings_of v) (λ (s : Settings). s.channel.id) in
    omega (arith, f.room_is, all, names)

-- one channel more still fits the link
pub fit_more : (tick link : ℕ) (all : List Settings) (s : Settings) → FitLink tick link all → length all < 64 → All (λ k. k ≢ s.channel.id) (ids_of all)
    → shares_of all + s.channel.share ≤ link → s.tick ≡ tick → FitLink tick link (all ++ s ∷ [])
fit_more tick link all s f few new fits same = record {
  few = omega (arith, length-append all (s ∷ []));
  once =
      subst (AllPairs (λ a b. a ≢ b)) (sym (map-append (λ (x : Settings). x.channel.id) all (s ∷ [])))
      (all_pairs_push (λ a b. a ≢ b) (ids_of all) s.channel.id f.once new);
  shares = omega (arith, sum_by_push (λ (x : Settings). x.channel.share) all s);
  ticks = All-append (λ (x : Settings). x.tick ≡ tick) all (s ∷ []) f.ticks (All-cons (λ (x : Settings). x.tick ≡ tick) s [] same (λ k d less. absurd (omega (arith, less))));
}

-- A hub and its fields, and the settings of a channel that is to be added.
module _ (ids : List ℕ) (room claimed : ℕ) (v : Seen) (f : AreFields ids room claimed v) (hub : Seen) (hub_is : v ≡ hub) (names : List ℕ) (names_are : names ≡ ids) (s : Settings) (c : Channel) (c_is : c ≡ s.channel) where
  -- what was found among the numbers
  found : (b : Bool) → b ≡ list_any (λ k. eqb k c.id) names → has_id s.channel.id (settings_of v) ≡ b
  found b is =
      sym (has_is s.channel.id (settings_of v)) ∙ ap (list_any (λ k. eqb k s.channel.id)) (sym (names_are ∙ f.ids_are))
      ∙ sym (is ∙ ap (λ (x : Channel). list_any (λ k. eqb k x.id) names) c_is)

  of_hub : (o : Option AddFault) → refused v s ≡ o → refused hub s ≡ o
  of_hub o is = ap (λ (x : Seen). refused x s) (sym hub_is) ∙ is

  share_is : c.share ≡ s.channel.share
  share_is = ap (λ (x : Channel). x.share) c_is

  pub is_twice : length v.channels < 64 → true ≡ list_any (λ k. eqb k c.id) names → refused hub s ≡ Some Twice
  unfolding faults
  is_twice few twice =
      of_hub (Some Twice) (of_faults v s true true (leb (shares_of (settings_of v) + s.channel.share) v.link) (lt-ltb (length v.channels) 64 few) (found true twice) refl)

  pub exceeds_link : length v.channels < 64 → false ≡ list_any (λ k. eqb k c.id) names → v.link - claimed < c.share → refused hub s ≡ Some Link
  unfolding faults
  exceeds_link few new more =
      of_hub (Some Link)
      (of_faults v s true false false (lt-ltb (length v.channels) 64 few) (found false new)
      (lt-leb (shares_of (settings_of v) + s.channel.share) v.link (omega (arith, f.claimed_is, share_is))))

  pub is_added : length v.channels < 64 → false ≡ list_any (λ k. eqb k c.id) names → c.share ≤ v.link - claimed → refused hub s ≡ None
  unfolding faults
  is_added few new fits =
      of_hub None
      (of_faults v s true false true (lt-ltb (length v.channels) 64 few) (found false new)
      (le-leb (shares_of (settings_of v) + s.channel.share) v.link (omega (arith, f.claimed_is, f.lawful.channels.shares, share_is))))

  pub added : (core : cores.Seen) → core.settings ≡ s → cores.StandsFor core [] → length v.channels < 64 → false ≡ list_any (λ k. eqb k c.id) names → c.share ≤ v.link - claimed
      → s.tick ≡ hub.tick → (later : ℕ) → room ≤ later → AreFields (ids ++ c.id ∷ []) later (claimed + c.share) (record v { channels = v.channels ++ core ∷ [] })
  added core settings stands few new fits tick later grows =
      let all : all_settings (v.channels ++ core ∷ []) ≡ settings_of v ++ s ∷ [] = settings_more v.channels core ∙ ap (λ (x : Settings). settings_of v ++ x ∷ []) settings in
      let other : All (λ k. k ≢ s.channel.id) (ids_of (settings_of v)) =
      in_none s.channel.id (ids_of (settings_of v)) (has_is s.channel.id (settings_of v) ∙ found false new) in
      record {
        lawful = record {
          tick_least = f.lawful.tick_least;
          tick_most = f.lawful.tick_most;
          link_least = f.lawful.link_least;
          link_most = f.lawful.link_most;
          channels = subst (FitLink v.tick v.link) (sym all)
              (fit_more v.tick v.link (settings_of v) s f.lawful.channels (omega (arith, length-map v.channels (λ core. core.settings))) other
              (omega (arith, f.claimed_is, f.lawful.channels.shares, share_is)) (tick ∙ ap (λ (x : Seen). x.tick) (sym hub_is)));
          counted = All-append (λ (x : cores.Seen). cores.StandsForFewer x (v.calls + 1)) v.channels (core ∷ []) f.lawful.counted
              (All-cons (λ (x : cores.Seen). cores.StandsForFewer x (v.calls + 1)) core [] ([], stands, omega arith) (λ k d less. absurd (omega (arith, less))));
        };
        ids_are =
            ap (λ (x : Channel). ids ++ x.id ∷ []) c_is ∙ ap (λ (l : List ℕ). l ++ s.channel.id ∷ []) f.ids_are
            ∙ sym (map-append (λ (x : Settings). x.channel.id) (settings_of v) (s ∷ [])) ∙ ap ids_of (sym all);
        room_is = omega (arith, f.room_is, grows);
        claimed_is =
            ap (λ (n : ℕ). claimed + n) share_is ∙ ap (λ (n : ℕ). n + s.channel.share) f.claimed_is
            ∙ sym (sum_by_push (λ (x : Settings). x.channel.share) (settings_of v) s) ∙ ap shares_of (sym all);
      }

-- a core that stands for nothing yet serves a channel that had no event
pub one_more_serves : (vs : List cores.Seen) (cs : List Served) (core : cores.Seen) (s : Settings) → AllServe vs cs → core.settings ≡ s → cores.StandsFor core [] → AllServe (vs ++ core ∷ []) (cs ++ served s [] ∷ [])
one_more_serves vs cs core s all settings stands = pair_more Serves vs cs core (served s []) all (record { settings = settings; stands = stands })
