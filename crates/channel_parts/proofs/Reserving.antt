-- What notes do to what the open bursts reserve together.
use Rattle.std.proofs.Common.{◌≡◌, ℕ, ◌+◌, ◌-◌, ◌≤◌, Bool, true, false, cond, not, ⊎_elim, List, [], ◌∷◌, Option, Some, None, refl, ap, sym, ◌∙◌, subst, arith, eqb}
use Rattle.std.specs.List.{sum_by}
use Rattle.std.proofs.lemmas.Bool.{cond_both, cond-false, or_left, or_right, or_cases, or_parts, both_ways, not-true, not-false, eqb-true, eq-eqb, ne_eqb}
use Rattle.std.proofs.lemmas.List.Sums.{sum_by-cons}
use Rattle.rams_model.specs.declared.{Held.Held, Cause.Cause, Note.Note}
use Rattle.rams_model.specs.declared.Note.TheVariants as note
use Rattle.rams_model.specs.Service.{Settings, Heard, tick, began, told, noted, History, opened, is_among, placed, with_client, without, Burst, after_note, newest_changed, size_of, bursts, in_tick, if_open, newest_open, open_burst, most_of, reserved, channel_left}
use Rattle.rams_model.proofs.Legal.{IsLegal}
use Rattle.rams_model.proofs.ListFacts.{apart}
use Rattle.service_laws.proofs.book_laws.Sums.{sum_placed, one_changed, part_of_sum}
use Rattle.service_laws.proofs.book_laws.BurstAmounts.{open_among, closed_among, most_begun, most_changed, of_others}
use Rattle.service_laws.proofs.book_laws.Reserved.{times-opened, fits}
use Rattle.channel_parts.specs.{is_of_reserved}
use Rattle.channel_parts.proofs.Ordered.{Rise, opened_rise, not_below}

-- a client's burst in the sum
abbrev most_at : Settings → History → ℕ → ℕ
most_at s history k = most_of s (open_burst s k history)

-- the same parts give the same sum
same_sum : (f g : ℕ → ℕ) (ks : List ℕ) → ((j : ℕ) → is_among j ks ≡ true → f j ≡ g j) → sum_by f ks ≡ sum_by g ks
same_sum f g [] same = refl
same_sum f g (k ∷ ks) same =
    omega (arith, sum_by-cons f k ks, sum_by-cons g k ks, same k (or_left (eqb k k) (is_among k ks) (eq-eqb k k refl)), same_sum f g ks (λ j t. same j (or_right (eqb k j) (is_among j ks) t)))

-- a client that is among some where another is not
others : (j k : ℕ) (ks : List ℕ) → is_among k ks ≡ false → is_among j ks ≡ true → eqb k j ≡ false
others j k ks out e = ne_eqb k j (λ same. both_ways (is_among j ks) (subst (λ (i : ℕ). is_among i ks ≡ false) same out) e)

-- a burst begins
pub accept_reserves : (s : Settings) (k first rate join : ℕ) (packet : Option Held) (history : History) → open_burst s k history ≡ None
    → reserved s (noted (note.Accept k first rate join) packet ∷ history) ≡ reserved s history + (rate + s.channel.depth)
unfolding opened
accept_reserves s k first rate join packet history none =
    let later = noted (note.Accept k first rate join) packet ∷ history in
    let ks = opened history in
    let out = closed_among s k history none in
    let f = most_at s later in
    let in_place : with_client k ks ≡ placed k ks = cond-false (is_among k ks) ks (placed k ks) out in
    let same = same_sum f (most_at s history) ks (λ j e. ap (most_of s) (of_others s j (note.Accept k first rate join) packet history (others j k ks out e))) in
    omega (arith, ap (sum_by f) in_place, sum_placed f k ks, most_begun s k first rate join packet history, same)

-- what an open burst reserves is a part of it
pub burst_reserved : (s : Settings) (k : ℕ) (b : Burst) (history : History) → open_burst s k history ≡ Some b → b.rate + s.channel.depth ≤ reserved s history
burst_reserved s k b history is = omega (arith, part_of_sum (most_at s history) k (opened history) (open_among s k history b is), ap (most_of s) is)

-- its rate is changed
pub update_reserves : (s : Settings) (k rate join : ℕ) (packet : Option Held) (history : History) (b : Burst) → open_burst s k history ≡ Some b
    → reserved s (noted (note.Update k rate join) packet ∷ history) ≡ reserved s history - b.rate + rate
unfolding opened
update_reserves s k rate join packet history b is =
    let f = most_at s (noted (note.Update k rate join) packet ∷ history) in
    let g = most_at s history in
    let ks = opened history in
    let among = open_among s k history b is in
    let once = times-opened k history in
    let same : (j : ℕ) → eqb j k ≡ false → f j ≡ g j = λ j away. ap (most_of s) (of_others s j (note.Update k rate join) packet history (apart j k away)) in
    let most = one_changed f g k ks once among (λ j away. omega (arith, same j away)) in
    let least = one_changed g f k ks once among (λ j away. omega (arith, same j away)) in
    omega (arith, most, least, ap (most_of s) is, most_changed s k rate join packet history b is, burst_reserved s k b history is)

-- a sum without a client
sum_none : (f : ℕ → ℕ) (k : ℕ) (ks : List ℕ) → is_among k ks ≡ false → sum_by f (without k ks) ≡ sum_by f ks
sum_none f k [] out = refl
sum_none f k (j ∷ js) out =
    let parts = or_parts (eqb j k) (is_among k js) out in
    cond_both (not (eqb j k)) (j ∷ without k js) (without k js) (λ l. sum_by f l ≡ sum_by f (j ∷ js))
    (λ t. omega (arith, sum_by-cons f j js, sum_by-cons f j (without k js), sum_none f k js parts.1))
    (λ n. absurd (both_ways (eqb j k) parts.0 (not-false (eqb j k) n)))

sum_out : (f : ℕ → ℕ) (k : ℕ) (ks : List ℕ) → Rise ks → is_among k ks ≡ true → sum_by f (without k ks) + f k ≡ sum_by f ks
sum_out f k [] r e = absurd cc
sum_out f k (j ∷ js) r e =
    cond_both (not (eqb j k)) (j ∷ without k js) (without k js) (λ l. sum_by f l + f k ≡ sum_by f (j ∷ js))
    (λ t. let rest = ⊎_elim (λ here. absurd (both_ways (eqb j k) (not-true (eqb j k) t) here)) (λ later. later) (or_cases (eqb j k) (is_among k js) e) in
    omega (arith, sum_by-cons f j js, sum_by-cons f j (without k js), sum_out f k js r.1 rest))
    (λ n. let same : j ≡ k = eqb-true j k (not-false (eqb j k) n) in
    let out = subst (λ (i : ℕ). is_among i js ≡ false) same (not_below j js r.0) in
    omega (arith, sum_by-cons f j js, sum_none f k js out, ap f same))

-- who is left without a client
pub among_rest : (j k : ℕ) (ks : List ℕ) → is_among j (without k ks) ≡ true → eqb k j ≡ false
among_rest j k [] e = absurd cc
among_rest j k (i ∷ is) e =
    cond_both (not (eqb i k)) (i ∷ without k is) (without k is) (λ l. is_among j l ≡ true → eqb k j ≡ false)
    (λ t q. ⊎_elim (λ here. apart j k (subst (λ (m : ℕ). eqb m k ≡ false) (eqb-true i j here) (not-true (eqb i k) t))) (λ later. among_rest j k is later)
    (or_cases (eqb i j) (is_among j (without k is)) q))
    (λ n q. among_rest j k is q) e

-- it ends
pub end_releases : (s : Settings) (k : ℕ) (why : Cause) (packet : Option Held) (history : History) (b : Burst) → open_burst s k history ≡ Some b
    → reserved s (noted (note.End k why) packet ∷ history) ≡ reserved s history - (b.rate + s.channel.depth)
unfolding opened
end_releases s k why packet history b is =
    let f = most_at s (noted (note.End k why) packet ∷ history) in
    let g = most_at s history in
    let ks = opened history in
    let same = same_sum f g (without k ks) (λ j e. ap (most_of s) (of_others s j (note.End k why) packet history (among_rest j k ks e))) in
    omega (arith, same, sum_out g k ks (opened_rise history) (open_among s k history b is), ap (most_of s) is)

-- other notes change no rate
at_same : (s : Settings) (c : Bool) (change : Burst → Burst) (bs : List Burst) → ((b : Burst) → (change b).ended ≡ b.ended) → ((b : Burst) → (change b).rate ≡ b.rate)
    → most_of s (newest_open (cond c (newest_changed change bs) bs)) ≡ most_of s (newest_open bs)
at_same s false change bs e r = refl
at_same s true change [] e r = refl
at_same s true change (b ∷ bs) e r = ap (λ (x : Option Cause). most_of s (if_open x (change b))) (e b) ∙ at b.ended
  where
    at : (x : Option Cause) → most_of s (if_open x (change b)) ≡ most_of s (if_open x b)
    at None = ap (λ (n : ℕ). n + s.channel.depth) (r b)
    at (Some why) = refl

same_most : (s : Settings) (j : ℕ) (n : Note) (packet : Option Held) (history : History) → is_of_reserved n ≡ false → most_at s (noted n packet ∷ history) j ≡ most_at s history j
unfolding bursts
same_most s j (note.Accept client first rate join) packet history e = absurd cc
same_most s j (note.Update client rate join) packet history e = absurd cc
same_most s j (note.End client why) packet history e = absurd cc
same_most s j (note.StopAt client m) packet history e = at_same s (eqb client j) (after_note s (note.StopAt client m) (size_of packet)) (bursts s j history) (λ b. refl) (λ b. refl)
same_most s j (note.Burst client m q) packet history e = at_same s (eqb client j) (after_note s (note.Burst client m q) (size_of packet)) (bursts s j history) (λ b. refl) (λ b. refl)
same_most s j (note.Repair client m q) packet history e = at_same s (eqb client j) (after_note s (note.Repair client m q) (size_of packet)) (bursts s j history) (λ b. refl) (λ b. refl)
same_most s j n packet history e = refl

same_opened : (n : Note) (packet : Option Held) (history : History) → is_of_reserved n ≡ false → opened (noted n packet ∷ history) ≡ opened history
unfolding opened
same_opened (note.Accept client first rate join) packet history e = absurd cc
same_opened (note.End client why) packet history e = absurd cc
same_opened n packet history e = refl

pub note_reserves_nothing : (s : Settings) (n : Note) (packet : Option Held) (history : History) → is_of_reserved n ≡ false → reserved s (noted n packet ∷ history) ≡ reserved s history
note_reserves_nothing s n packet history e =
    ap (sum_by (most_at s (noted n packet ∷ history))) (same_opened n packet history e)
    ∙ same_sum (most_at s (noted n packet ∷ history)) (most_at s history) (opened history) (λ j t. same_most s j n packet history e)

pub event_reserves_nothing : (s : Settings) (heard : Heard) (history : History) → reserved s (began heard ∷ history) ≡ reserved s history
unfolding opened bursts
event_reserves_nothing s tick history =
    same_sum (most_at s (began tick ∷ history)) (most_at s history) (opened history) (λ j t. at_same s true (in_tick s) (bursts s j history) (λ b. refl) (λ b. refl))
event_reserves_nothing s heard history = refl

-- where no burst is open nothing is reserved, and else the reserve is left
left_to : (s : Settings) (history : History) (ks : List ℕ) → opened history ≡ ks → s.channel.reserve ≤ s.channel.share
    → ((k : ℕ) → is_among k (opened history) ≡ true → reserved s history + s.channel.reserve ≤ s.channel.share) → reserved s history + s.channel.reserve ≤ s.channel.share
left_to s history [] e le within = omega (arith, ap (sum_by (most_at s history)) e, le)
left_to s history (k ∷ ks) e le within =
    within k (subst (λ (l : List ℕ). is_among k l ≡ true) (sym e) (or_left (eqb k k) (is_among k ks) (eq-eqb k k refl)))

pub leaves_reserve : (s : Settings) (history : History) → s.channel.reserve ≤ s.channel.share → IsLegal s history → reserved s history + s.channel.reserve ≤ s.channel.share
leaves_reserve s history le l = left_to s history (opened history) refl le (fits s history l)

-- what the channel has left
pub left_within : (s : Settings) (history : History) → channel_left s history ≤ s.channel.share + s.channel.swell
unfolding channel_left
left_within s [] = omega arith
left_within s (began tick ∷ history) = omega arith
left_within s (began heard ∷ history) = left_within s history
left_within s (told client message ∷ history) = left_within s history
left_within s (noted (note.Burst client n q) packet ∷ history) = omega (arith, left_within s history)
left_within s (noted (note.Repair client n q) packet ∷ history) = omega (arith, left_within s history)
left_within s (noted note packet ∷ history) = left_within s history
