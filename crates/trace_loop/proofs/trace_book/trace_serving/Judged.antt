-- What is so of a line that is judged well.
use Rattle.std.proofs.Common.{◌≡◌, ℕ, ◌+◌, ◌<◌, ◌≤◌, true, false, not, ◌&&◌, cond, List, [], ◌∷◌, ◌++◌, Option, Some, None, refl, ap, subst, eqb, leb, ltb, length}
use Rattle.std.specs.Prelude.{Result, Ok, Err, sum_by}
use Rattle.std.specs.List.{list_any}
use Rattle.std.proofs.lemmas.Bool.{cond_both, and_parts, not-false, leb-true, ltb-true}
use Rattle.rams_model.specs.declared.{Channel.Channel, ConfigFault.ConfigFault, LineFault.LineFault}
use Rattle.rams_model.specs.declared.ConfigFault.TheVariants as config
use Rattle.rams_model.specs.declared.LineFault.TheVariants.{Order, Range, Twice, Rule}
use Rattle.rams_model.specs.Service.{Settings, settings, tick_in_range, channel_in_range, checked}
use Rattle.rams_model.specs.Texts.{TraceLine, line_in_range, line_of, Reached, Head, Claim, may_come, line_is_served, joined, with_channel, with_line, accepted, with_reached, judged_line, judged}

-- The line may come, its numbers are in range, and it gives this.
pub record IsAccepted (r : Reached) (line : TraceLine) (later : Reached) : Type 0 where
  pub may : may_come r line ≡ true
  pub in_range : line_in_range line ≡ true
  pub gives : with_line r line ≡ Ok later

pub accepted_so : (r : Reached) (line : TraceLine) (later : Reached) → accepted r line ≡ Ok later → IsAccepted r line later
unfolding accepted
accepted_so r line later e =
    let P : Result Reached LineFault → Type 0 = λ o. o ≡ Ok later → IsAccepted r line later in
    let ranged = line_in_range line && line_is_served r line in
    cond_both (not (may_come r line)) (Err Order) (cond (not ranged) (Err Range) (with_line r line)) P (λ t q. absurd cc)
    (λ f. cond_both (not ranged) (Err Range) (with_line r line) P (λ t q. absurd cc)
    (λ g q. record { may = not-false (may_come r line) f; in_range = (and_parts (line_in_range line) (line_is_served r line) (not-false ranged g)).0; gives = q })) e

-- The bytes are this line, and it is accepted.
pub record IsJudged (r : Reached) (bytes : List ℕ) (line : TraceLine) (later : Reached) : Type 0 where
  pub reads : line_of bytes ≡ Some line
  pub accepts : IsAccepted r line later

reached_so : (r : Reached) (read line : TraceLine) (later : Reached) (o : Result Reached LineFault) → accepted r read ≡ o → with_reached read o ≡ Ok (line, later)
    → (read ≡ line) × IsAccepted r line later
reached_so r read line later (Err fault) is e = absurd cc
reached_so r read line later (Ok reached) is e =
    let pair : (read, reached) ≡ (line, later) = cc in
    let same = ap (λ (p : TraceLine × Reached). p.0) pair in
    (same, subst (λ (p : TraceLine × Reached). IsAccepted r p.0 p.1) pair (accepted_so r read reached is))

line_so : (r : Reached) (o : Option TraceLine) (line : TraceLine) (later : Reached) → judged_line r o ≡ Ok (line, later) → (o ≡ Some line) × IsAccepted r line later
line_so r None line later e = absurd cc
line_so r (Some read) line later e = let both = reached_so r read line later (accepted r read) refl e in (ap Some both.0, both.1)

pub judged_so : (r : Reached) (bytes : List ℕ) (line : TraceLine) (later : Reached) → judged r bytes ≡ Ok (line, later) → IsJudged r bytes line later
unfolding judged
judged_so r bytes line later e = let both = line_so r (line_of bytes) line later e in record { reads = both.0; accepts = both.1 }

-- settings that pass are themselves
pub checked_is : (s t : Settings) → checked s ≡ Ok t → checked s ≡ Ok s
unfolding checked
checked_is s t e =
    let c = s.channel in
    let P : Result Settings ConfigFault → Type 0 = λ o. o ≡ Ok t → o ≡ Ok s in
    let third = cond (not (leb (c.reserve + c.burst + c.depth) c.share)) (Err (config.Rule 3)) (Ok s) in
    let second = cond (not (leb (c.declared + 1500) c.burst)) (Err (config.Rule 2)) third in
    let first = cond (eqb c.pt c.rtx) (Err (config.Rule 1)) second in
    cond_both (not (tick_in_range s.tick && channel_in_range c)) (Err config.Range) first P (λ t q. absurd cc)
    (λ f. cond_both (eqb c.pt c.rtx) (Err (config.Rule 1)) second P (λ t q. absurd cc)
    (λ f. cond_both (not (leb (c.declared + 1500) c.burst)) (Err (config.Rule 2)) third P (λ t q. absurd cc)
    (λ f. cond_both (not (leb (c.reserve + c.burst + c.depth) c.share)) (Err (config.Rule 3)) (Ok s) P (λ t q. absurd cc) (λ f q. refl)))) e

abbrev pub claim : Channel → Claim
claim c = record { id = c.id; share = c.share }

-- Why a channel is taken under a head line, and what its line gives.
pub record IsJoined (r : Reached) (head : Head) (c : Channel) (later : Reached) : Type 0 where
  pub new : list_any (λ k. eqb k.id c.id) r.channels ≡ false
  pub lawful : checked (settings c head.tick) ≡ Ok (settings c head.tick)
  pub fits : sum_by (λ k. k.share) r.channels + c.share ≤ head.link
  pub few : length r.channels < 64
  pub gives : record r { channels = r.channels ++ claim c ∷ [] } ≡ later

joined_so : (r : Reached) (head : Head) (c : Channel) (later : Reached) → list_any (λ k. eqb k.id c.id) r.channels ≡ false → (o : Result Settings ConfigFault) → checked (settings c head.tick) ≡ o
    → joined r head c o ≡ Ok later → IsJoined r head c later
joined_so r head c later new (Err fault) is e = absurd cc
joined_so r head c later new (Ok s) is e =
    let P : Result Reached LineFault → Type 0 = λ o. o ≡ Ok later → IsJoined r head c later in
    let fits = leb (sum_by (λ k. k.share) r.channels + c.share) head.link in
    let few = ltb (length r.channels) 64 in
    let gives = Ok (record r { channels = r.channels ++ claim c ∷ [] }) in
    cond_both (not fits) (Err (Rule 4)) (cond (not few) (Err (Rule 5)) gives) P (λ t q. absurd cc)
    (λ f. cond_both (not few) (Err (Rule 5)) gives P (λ t q. absurd cc)
    (λ g q. record {
      new = new;
      lawful = checked_is (settings c head.tick) s is;
      fits = leb-true (sum_by (λ k. k.share) r.channels + c.share) head.link (not-false fits f);
      few = ltb-true (length r.channels) 64 (not-false few g);
      gives = cc q;
    })) e

-- a channel line is taken under a head line
pub channel_so : (r : Reached) (o : Option Head) (c : Channel) (later : Reached) → with_channel r o c ≡ Ok later → (head : Head) × (o ≡ Some head) × IsJoined r head c later
channel_so r None c later e = absurd cc
channel_so r (Some head) c later e =
    let twice = list_any (λ k. eqb k.id c.id) r.channels in
    let rest = joined r head c (checked (settings c head.tick)) in
    (head, refl, cond_both twice (Err Twice) rest (λ q. q ≡ Ok later → IsJoined r head c later) (λ t q. absurd cc) (λ f q. joined_so r head c later f (checked (settings c head.tick)) refl q) e)
