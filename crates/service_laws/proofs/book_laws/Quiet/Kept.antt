-- At every moment an open burst that is quiet is near, and none that was quiet is lost.
use Rattle.std.proofs.Common.{◌≡◌, ℕ, zero, suc, ◌+◌, ◌<◌, ◌≤◌, inl, inr, true, not, List, [], ◌∷◌, ◌++◌, length, drop, Option, Some, None, refl, ap, sym, ◌∙◌, subst, arith, eqb, ltb, leb}
use Rattle.std.proofs.lemmas.List.{length-drop, length-append}
use Rattle.std.proofs.lemmas.List.Elements.{filter-append}
use Rattle.std.proofs.lemmas.List.Sums.{sum_by-append}
use Rattle.std.proofs.lemmas.Bool.{cond_both, lt-ltb, ltb-true, and_parts, not-true, both_ways, or_left, or_right, eq-eqb}
use Rattle.rams_model.specs.declared.{Held.Held, Cause.Cause}
use Rattle.rams_model.specs.Service.{Settings, live, began, History, arrivals, hold, Burst, next, kept, in_tick, bursts, if_open, newest_open, run, is_lost, after_tick}
use Rattle.rams_model.specs.Packets.{hi, wires, from_number, Arrival, Follows, has_number, stream_of}
use Rattle.rams_model.specs.Packets.Source as sources
use Rattle.rams_model.proofs.Growing.{source_grows}
use Rattle.rams_model.specs.Laws.{source, moments, AreAtLeast, JoinsSlowly, IsQuiet, told_join}
use Rattle.rams_model.proofs.Holding.{drop_at_least}
use Rattle.rams_model.proofs.Legal.{IsLegal}
use Rattle.rams_model.proofs.Running.{wires-cons}
use Rattle.service_laws.specs.book_laws.{ticks_since_told}
use Rattle.service_laws.proofs.book_laws.Quiet.Packets.{follows_drop, follows_front, held_later, held_to, count_fits}
use Rattle.service_laws.proofs.book_laws.Quiet.Sizes.{AreSized, sized_filter, sized_source, at_most, at_least_one, ArriveSmall}
use Rattle.service_laws.proofs.book_laws.Quiet.Near.{Near, wires_now, next_near}
use Rattle.service_laws.proofs.book_laws.Quiet.States.{Quietly, Keeps, Good, has_sent, open_is}
use Rattle.service_laws.proofs.book_laws.Quiet.Grown.{grown, some_moment}
use Rattle.service_laws.proofs.book_laws.Quiet.Turns.{Opened, base, run_in, served, with_left, IsClosed, Repaired, IsRepaired, ticked, ticked_shut}

-- What is known of an open burst that is quiet: its packets as the last moment had them and those that have joined since.
pub record Known (s : Settings) (k : ℕ) (history : History) (b : Burst) : Type 0 where
  pub packets : List Held
  pub joined : List Held
  pub both : from_number b.first (source s history) ≡ packets ++ joined
  pub follows : Follows b.first (packets ++ joined)
  pub sized : AreSized (packets ++ joined)
  pub joins : wires joined ≤ s.channel.declared
  pub near : Near s b (told_join k history) (ticks_since_told k history) packets
  -- the ring has room for what is behind
  pub room : length (drop (length b.sent) (packets ++ joined)) ≤ s.channel.ring

fewer_from : (n : ℕ) (hs : List Held) → wires (from_number n hs) ≤ wires hs
fewer_from n [] = omega arith
fewer_from n (h ∷ hs) =
    let rest = fewer_from n hs in
    let sum = wires-cons h hs in
    cond_both (leb n h.n) (h ∷ from_number n hs) (from_number n hs) (λ l. wires l ≤ wires (h ∷ hs)) (λ t. let less = wires-cons h (from_number n hs) in omega (arith, rest, sum, less))
    (λ f. omega (arith, rest, sum))

pub drop_sized : (u : ℕ) (hs : List Held) → AreSized hs → AreSized (drop u hs)
drop_sized zero hs a = a
drop_sized (suc u) [] a = tt
drop_sized (suc u) (h ∷ hs) a = drop_sized u hs a.1

pub known_of : (s : Settings) (k : ℕ) (history : History) (b : Burst) (m : History) (ms : List History) → ArriveSmall (arrivals history) → moments k history ≡ m ∷ ms → Quietly s b.first m ms (source s history)
    → Near s b (told_join k history) (ticks_since_told k history) (from_number b.first (source s m)) → Known s k history b
known_of s k history b m ms small marks quiet near =
    let g = grown s k history m ms marks in
    let both = ap (from_number b.first) g.1 ∙ filter-append (λ h. leb b.first h.n) (source s m) g.0 in
    let sum = ap wires g.1 ∙ sum_by-append (λ (h : Held). h.wire) (source s m) g.0 in
    let fewer = fewer_from b.first g.0 in
    let packets = from_number b.first (source s m) in
    let joined = from_number b.first g.0 in
    let sized = subst AreSized both (sized_filter (λ h. leb b.first h.n) (source s history) (sized_source s.channel.window (arrivals history) small)) in
    let joins : wires joined ≤ s.channel.declared = omega (arith, sum, fewer, quiet.joins) in
    let now = wires_now (length b.sent) packets joined near.reaches in
    let least = subst (AreAtLeast s.channel.minwire) both quiet.sizes in
    record {
      packets = packets;
      joined = joined;
      both = both;
      follows = subst (Follows b.first) both quiet.follows;
      sized = sized;
      joins = joins;
      near = near;
      room = count_fits s.channel.minwire s.channel.ring (drop (length b.sent) (packets ++ joined)) (at_least_one (drop (length b.sent) (packets ++ joined)) (drop_sized (length b.sent) (packets ++ joined) sized))
          (drop_at_least s.channel.minwire (length b.sent) (packets ++ joined) least) (omega (arith, now, near.room, joins));
    }

-- What is held from the next packet on is what the source has from there on.
pub known_held : (s : Settings) (k : ℕ) (history : History) (b : Burst) (q : Known s k history b) → from_number (next b) (hold s history) ≡ drop (length b.sent) (q.packets ++ q.joined)
known_held s k history b q =
    held_later s history b.first (length b.sent) (subst (Follows b.first) (sym q.both) q.follows) (subst (λ (l : List Held). length (drop (length b.sent) l) ≤ s.channel.ring) (sym q.both) q.room)
    ∙ ap (λ (l : List Held). drop (length b.sent) l) q.both

-- and it ends where the source does
known_hi : (s : Settings) (k : ℕ) (history : History) (b : Burst) (q : Known s k history b) → hi (hold s history) ≡ b.first + length (q.packets ++ q.joined)
known_hi s k history b q =
    let size = length-append q.packets q.joined in
    let both = ap (λ (l : List Held). length l) q.both in
    held_to s history b.first (subst (Follows b.first) (sym q.both) q.follows) (omega (arith, both, size, q.near.some)) q.near.has_ring
    ∙ ap (λ (n : ℕ). b.first + n) both

-- a number among the packets
first_is : (n : ℕ) (g : Held) (gs hs : List Held) → from_number n hs ≡ g ∷ gs → g.n ≡ n → has_number n hs ≡ true
first_is n g gs [] e same = absurd cc
first_is n g gs (h ∷ hs) e same =
    cond_both (leb n h.n) (h ∷ from_number n hs) (from_number n hs) (λ l. l ≡ g ∷ gs → has_number n (h ∷ hs) ≡ true)
    (λ t e2. let head : h ≡ g = cc in or_left (eqb h.n n) (has_number n hs) (eq-eqb h.n n (ap (λ (x : Held). x.n) head ∙ same)))
    (λ f e2. or_right (eqb h.n n) (has_number n hs) (first_is n g gs hs e2 same)) e

-- So the next packet is held, or is the one after all that are held.
known_unlost : (s : Settings) (k : ℕ) (history : History) (b : Burst) → Known s k history b → is_lost (next b) (hold s history) ≡ true → ⊥
known_unlost s k history b q t =
    at (drop (length b.sent) (q.packets ++ q.joined)) refl
  where
    at : (rest : List Held) → drop (length b.sent) (q.packets ++ q.joined) ≡ rest → ⊥
    at [] e =
        let size = length-drop (length b.sent) (q.packets ++ q.joined) in
        let none = ap (λ (l : List Held). length l) e in
        let end = known_hi s k history b q in
        let below = ltb-true (next b) (hi (hold s history)) (and_parts (not (has_number (next b) (hold s history))) (ltb (next b) (hi (hold s history))) t).1 in
        omega (arith, size, none, end, below)
    at (g ∷ gs) e =
        let follow : Follows (next b) (g ∷ gs) = subst (λ (l : List Held). Follows (b.first + length b.sent) l) e (follows_drop b.first (length b.sent) (q.packets ++ q.joined) q.follows) in
        let there = first_is (next b) g gs (hold s history) (known_held s k history b q ∙ e) follow.0 in
        both_ways (has_number (next b) (hold s history)) (not-true (has_number (next b) (hold s history)) (and_parts (not (has_number (next b) (hold s history))) (ltb (next b) (hi (hold s history))) t).0) there

-- What quietness says as a tick begins.
quietly_of : (s : Settings) (k first : ℕ) (before m : History) (ms : List History) → moments k before ≡ m ∷ ms → IsQuiet s k first (base before) → Quietly s first m ms (source s before)
unfolding arrivals moments
quietly_of s k first before m ms marks q =
    let joins : JoinsSlowly s (before ∷ m ∷ ms) = subst (λ (l : List History). JoinsSlowly s (before ∷ l)) marks q.joins in
    record { follows = q.follows; sizes = q.sizes; joins = joins.0; before = joins.1 }

known_at : (s : Settings) (k : ℕ) (before : History) (b : Burst) (others : List Burst) → ArriveSmall (arrivals before) → Keeps s k before → bursts s k before ≡ b ∷ others → b.ended ≡ None
    → IsQuiet s k b.first (base before) → Known s k before b
known_at s k before b others small keeps is_newest is_open quiet =
    let some = some_moment s k before b others is_newest in
    let q = quietly_of s k b.first before some.0 some.1 some.2 quiet in
    known_of s k before b some.0 some.1 small some.2 q (keeps b others some.0 some.1 is_newest is_open some.2 q)

opened_at : (s : Settings) (k : ℕ) (before : History) (b : Burst) (others : List Burst) → ArriveSmall (arrivals before) → Keeps s k before → bursts s k before ≡ b ∷ others → b.ended ≡ None
    → Opened s k before
unfolding arrivals
opened_at s k before b others small keeps is_newest is_open = record {
  burst = b;
  others = others;
  is_newest = is_newest;
  is_open = is_open;
  quiet = λ t quiet. known_unlost s k before b (known_at s k before b others small keeps is_newest is_open quiet) t;
}

-- An open burst that is quiet as a tick begins is nearer after it.
nearer : (s : Settings) (k : ℕ) (before : History) (o : Opened s k before) (later : History) → Known s k before o.burst → (r : Repaired s k before o later)
    → Near s (with_left (served s before o.burst) r.left) (told_join k before) (ticks_since_told k before + 1) (from_number o.burst.first (source s before))
unfolding arrivals
nearer s k before o later q r =
    let b = o.burst in
    let sent = has_sent (in_tick s b) (run_in s before b) in
    let now = known_held s k before b q in
    let end = known_hi s k before b q in
    let all = q.packets ++ q.joined in
    subst (Near s (with_left (served s before b) r.left) (told_join k before) (ticks_since_told k before + 1)) (sym q.both)
    (next_near s b (with_left (served s before b) r.left) (told_join k before) (ticks_since_told k before) q.packets q.joined q.near q.follows
    (at_most (drop (length b.sent) all) (drop_sized (length b.sent) all q.sized)) q.joins
    (record {
      r = run_in s before b;
      is_run = ap (run b.stop (next b) (b.rate + kept s b)) now;
      same_first = sent.same_first;
      same_rate = sent.same_rate;
      same_stop = sent.same_stop;
      more_sent = sent.more_sent;
      unstopped = r.unstopped;
      within = omega (arith, r.is_left);
      leaves = λ lt.
          let some = some_length (drop (length (run_in s before b)) (drop (length b.sent) all)) lt in
          let one = length-drop (length (run_in s before b)) (drop (length b.sent) all) in
          let two = length-drop (length b.sent) all in
          r.leaves (lt-ltb (next (served s before b)) (hi (hold s before)) (omega (arith, some, one, two, end, sent.same_first, sent.more_sent)));
    }))
  where
    some_length : (hs : List Held) → 0 < wires hs → 0 < length hs
    some_length [] lt = lt
    some_length (h ∷ hs) lt = omega arith

pub same_head : {A : Type 0} (x y : A) (xs ys : List A) → x ∷ xs ≡ y ∷ ys → x ≡ y
same_head x y xs ys e = cc

same_tail : {A : Type 0} (x y : A) (xs ys : List A) → x ∷ xs ≡ y ∷ ys → xs ≡ ys
same_tail x y xs ys e = cc

-- Where none is open there is nothing to keep.
pub keeps_shut : (s : Settings) (k : ℕ) (history : History) → IsClosed s k history → Keeps s k history
keeps_shut s k history closed b others m ms is_newest is_open marks quiet =
    let none : newest_open (bursts s k history) ≡ Some b = open_is (bursts s k history) b others is_newest is_open in absurd cc

-- the burst that a tick leaves open
tick_near : (s : Settings) (k : ℕ) (before : History) (o : Opened s k before) (later : History) → ArriveSmall (arrivals before) → Keeps s k before
    → (r : Repaired s k before o later) → let b = with_left (served s before o.burst) r.left in Quietly s b.first before (moments k before) (source s later)
    → Near s b (told_join k later) (ticks_since_told k later) (from_number b.first (source s before))
unfolding arrivals moments told_join ticks_since_told
tick_near s k before o later small keeps r quiet =
    let b = with_left (served s before o.burst) r.left in
    let same_first = (has_sent (in_tick s o.burst) (run_in s before o.burst)).same_first in
    let same : source s later ≡ source s before = ap (λ (arrived : List Arrival). sources.source s.channel.window (stream_of s.channel.window arrived)) r.state.same_arrivals in
    let quiet_now : IsQuiet s k o.burst.first (base before) = record {
      follows = subst (λ (n : ℕ). Follows n (from_number n (source s before))) same_first (subst (λ (l : List Held). Follows b.first (from_number b.first l)) same quiet.follows);
      sizes = subst (λ (n : ℕ). AreAtLeast s.channel.minwire (from_number n (source s before))) same_first
          (subst (λ (l : List Held). AreAtLeast s.channel.minwire (from_number b.first l)) same quiet.sizes);
      joins = quiet.before;
    } in
    let q = known_at s k before o.burst o.others small keeps o.is_newest o.is_open quiet_now in
    subst (λ (n : ℕ). Near s b (told_join k later) (ticks_since_told k later) (from_number n (source s before))) (sym same_first)
    (subst (λ (n : ℕ). Near s b n (ticks_since_told k later) (from_number o.burst.first (source s before))) (sym r.state.same_told)
    (subst (λ (n : ℕ). Near s b (told_join k before) n (from_number o.burst.first (source s before))) (sym r.state.same_since) (nearer s k before o later q r)))

keeps_repaired : (s : Settings) (k : ℕ) (before : History) (o : Opened s k before) (later : History) → ArriveSmall (arrivals before) → Keeps s k before
    → Repaired s k before o later → Keeps s k later
unfolding moments
keeps_repaired s k before o later small keeps r b others m ms is_newest is_open marks quiet =
    let own = with_left (served s before o.burst) r.left in
    let burst : own ≡ b = same_head own b o.others others (sym r.state.are_bursts ∙ is_newest) in
    let moments_are : before ∷ moments k before ≡ m ∷ ms = sym r.state.same_moments ∙ marks in
    let moment : before ≡ m = same_head before m (moments k before) ms moments_are in
    let others_are : moments k before ≡ ms = same_tail before m (moments k before) ms moments_are in
    subst (λ (x : Burst). Quietly s x.first m ms (source s later) → Near s x (told_join k later) (ticks_since_told k later) (from_number x.first (source s m))) burst
    (subst (λ (n : History). Quietly s own.first n ms (source s later) → Near s own (told_join k later) (ticks_since_told k later) (from_number own.first (source s n))) moment
    (subst (λ (l : List History). Quietly s own.first before l (source s later) → Near s own (told_join k later) (ticks_since_told k later) (from_number own.first (source s before))) others_are
    (λ q. tick_near s k before o later small keeps r q))) quiet

-- A tick keeps it so.
pub good_tick : (s : Settings) (k : ℕ) (before : History) → ArriveSmall (arrivals before) → IsLegal s (after_tick s (base before)) → Good s k before → Good s k (after_tick s (base before))
good_tick s k before small l good = at (bursts s k before) refl
  where
    shut : IsClosed s k before → Good s k (after_tick s (base before))
    shut closed =
        let done = ticked_shut s k before l closed good.sound in
        record { keeps = keeps_shut s k (after_tick s (base before)) done.1; sound = done.0 }

    open_one : (o : Opened s k before) → IsRepaired s k before o (after_tick s (base before)) → Good s k (after_tick s (base before))
    open_one o (sound, inl closed) = record { keeps = keeps_shut s k (after_tick s (base before)) closed; sound = sound }
    open_one o (sound, inr r) = record { keeps = keeps_repaired s k before o (after_tick s (base before)) small good.keeps r; sound = sound }

    burst : (b : Burst) (others : List Burst) → bursts s k before ≡ b ∷ others → (ended : Option Cause) → b.ended ≡ ended → Good s k (after_tick s (base before))
    burst b others e (Some why) f = shut (ap newest_open e ∙ ap (λ (x : Option Cause). if_open x b) f)
    burst b others e None f = let o = opened_at s k before b others small good.keeps e f in open_one o (ticked s k before o l good.sound)

    at : (bs : List Burst) → bursts s k before ≡ bs → Good s k (after_tick s (base before))
    at [] e = shut (ap newest_open e)
    at (b ∷ others) e = burst b others e b.ended refl

-- A live packet keeps it so: the source was quiet where a longer one is.
pub front_follows : (first : ℕ) (hs ks : List Held) → Follows first (from_number first (hs ++ ks)) → Follows first (from_number first hs)
front_follows first hs ks f =
    follows_front first (from_number first hs) (from_number first ks) (subst (Follows first) (filter-append (λ h. leb first h.n) hs ks) f)

at_least_front : (size : ℕ) (hs ks : List Held) → AreAtLeast size (hs ++ ks) → AreAtLeast size hs
at_least_front size [] ks a = tt
at_least_front size (h ∷ hs) ks a = (a.0, at_least_front size hs ks a.1)

pub front_sizes : (size first : ℕ) (hs ks : List Held) → AreAtLeast size (from_number first (hs ++ ks)) → AreAtLeast size (from_number first hs)
front_sizes size first hs ks a =
    at_least_front size (from_number first hs) (from_number first ks) (subst (AreAtLeast size) (filter-append (λ h. leb first h.n) hs ks) a)

quiet_front : (s : Settings) (first : ℕ) (m : History) (ms : List History) (packets more : List Held) → Quietly s first m ms (packets ++ more) → Quietly s first m ms packets
quiet_front s first m ms packets more q =
    let sum = sum_by-append (λ (h : Held). h.wire) packets more in
    record {
      follows = front_follows first packets more q.follows;
      sizes = front_sizes s.channel.minwire first packets more q.sizes;
      joins = omega (arith, q.joins, sum);
      before = q.before;
    }

pub good_live : (s : Settings) (k : ℕ) (a : Arrival) (history : History) → Good s k history → Good s k (began (live a) ∷ history)
unfolding bursts moments told_join ticks_since_told arrivals
good_live s k a history good =
    let grows = source_grows s.channel.window a (arrivals history) in
    record {
      keeps = λ b others m ms is_newest is_open marks quiet. good.keeps b others m ms is_newest is_open marks (quiet_front s b.first m ms (source s history) grows.0 (subst (Quietly s b.first m ms) grows.1 quiet));
      sound = good.sound;
    }

-- What is held from the next packet on is no less than what the last moment had from there on.
pub no_less : (s : Settings) (k : ℕ) (history : History) (b : Burst) (m : History) (ms : List History) → moments k history ≡ m ∷ ms → Known s k history b
    → length b.sent ≤ length (from_number b.first (source s m))
    → wires (drop (length b.sent) (from_number b.first (source s m))) ≤ wires (from_number (next b) (hold s history))
no_less s k history b m ms marks q reaches =
    let g = grown s k history m ms marks in
    let both = ap (from_number b.first) g.1 ∙ filter-append (λ h. leb b.first h.n) (source s m) g.0 in
    let now = wires_now (length b.sent) (from_number b.first (source s m)) (from_number b.first g.0) reaches in
    let held = ap wires (known_held s k history b q) in
    let same = ap (λ (l : List Held). wires (drop (length b.sent) l)) (sym q.both ∙ both) in
    omega (arith, now, held, same)
