-- What is known of a line that is accepted, and of a channel that is added.
use Rattle.std.proofs.Common.{◌≡◌, ◌<◌, ◌≤◌, ltb, ◌+◌, ◌++◌, ◌∷◌, [], sum_by, Bool, true, false, not, ◌&&◌, ◌==◌, if◌then◌else◌, length, Option, Some, None, Result, Ok, Err, refl, sym}
use Rattle.std.specs.Prelude.{is_ok, nat_le}
use Rattle.std.proofs.lemmas.Bool.{ltb-true}
use Rattle.std.specs.List.{list_any}
use Rattle.rams_model.specs.declared.{Channel.Channel, ConfigFault.ConfigFault, LineFault.LineFault}
use Rattle.rams_model.specs.declared.LineFault.TheVariants.{Order, Range, Twice, Rule}
use Rattle.rams_model.specs.Service.{Settings, settings, checked}
use Rattle.rams_model.specs.Texts.{TraceLine, Head, Reached, joined, line_in_range, line_is_served, may_come, with_channel, with_line, accepted}
use Rattle.trace_text.proofs.Checks.{checked_share}

tests : (m g s : Bool) (w : Result Reached LineFault)
    → (let x : Result Reached LineFault = if not m then Err Order else if not (g && s) then Err Range else w in is_ok x ≡ true → (g ≡ true) × (x ≡ w))
tests true true true w h = (refl, refl)
tests true true false w h = absurd cc
tests true false s w h = absurd cc
tests false g s w h = absurd cc

-- an accepted line is in range, and goes on as its kind does
pub accepted_ranges : (r : Reached) (l : TraceLine) → is_ok (accepted r l) ≡ true → line_in_range l ≡ true
unfolding accepted
accepted_ranges r l h = (tests (may_come r l) (line_in_range l) (line_is_served r l) (with_line r l) h).0

pub accepted_does : (r : Reached) (l : TraceLine) → is_ok (accepted r l) ≡ true → accepted r l ≡ with_line r l
unfolding accepted
accepted_does r l h = (tests (may_come r l) (line_in_range l) (line_is_served r l) (with_line r l) h).1

-- A channel is added.
record Joins (r : Reached) (c : Channel) (x : Result Reached LineFault) : Type 0 where
  few : length r.channels < 64
  small : c.share ≤ 1000000000
  gives : x ≡ Ok (record r { channels = r.channels ++ (record { id = c.id; share = c.share } ∷ []) })

joins : (r : Reached) (o : Option Head) (c : Channel) → is_ok (with_channel r o c) ≡ true → Joins r c (with_channel r o c)
joins r None c h = absurd cc
joins r (Some head) c h = by (list_any (λ k. k.id == c.id) r.channels) (checked (settings c head.tick)) refl h
  where
    fits : (t few : Bool) (later : Reached) → (let x : Result Reached LineFault = if not t then Err (Rule 4) else if not few then Err (Rule 5) else Ok later in is_ok x ≡ true → (few ≡ true) × (x ≡ Ok later))
    fits true true later h = (refl, refl)
    fits true false later h = absurd cc
    fits false few later h = absurd cc

    by : (twice : Bool) (o : Result Settings ConfigFault) → checked (settings c head.tick) ≡ o
        → (let x : Result Reached LineFault = if twice then Err Twice else joined r head c o in is_ok x ≡ true → Joins r c x)
    by true o is h = absurd cc
    by false (Err fault) is h = absurd cc
    by false (Ok s) is h =
        let f = fits (nat_le (sum_by (λ k. k.share) r.channels + c.share) head.link) (ltb (length r.channels) 64) _ h in record {
          few = ltb-true (length r.channels) 64 f.0;
          small = checked_share (settings c head.tick) s (sym is);
          gives = f.1;
        }

pub joins_few : (r : Reached) (o : Option Head) (c : Channel) → is_ok (with_channel r o c) ≡ true → length r.channels < 64
joins_few r o c h = (joins r o c h).few

pub joins_small : (r : Reached) (o : Option Head) (c : Channel) → is_ok (with_channel r o c) ≡ true → c.share ≤ 1000000000
joins_small r o c h = (joins r o c h).small

pub joins_gives : (r : Reached) (o : Option Head) (c : Channel) → is_ok (with_channel r o c) ≡ true
    → with_channel r o c ≡ Ok (record r { channels = r.channels ++ (record { id = c.id; share = c.share } ∷ []) })
joins_gives r o c h = (joins r o c h).gives
