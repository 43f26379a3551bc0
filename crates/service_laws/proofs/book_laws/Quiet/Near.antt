-- How near a quiet burst has come to the end of the source, and that a tick brings it nearer.
use Rattle.std.proofs.Common.{◌≡◌, ℕ, zero, suc, ◌+◌, ◌-◌, ◌*◌, ◌<◌, ◌≤◌, ◌⊎◌, inl, inr, min, false, List, [], ◌∷◌, ◌++◌, length, drop, Option, refl, ap, ap₂, sym, ◌∙◌, subst, arith, suc-mul}
use Rattle.std.proofs.lemmas.List.{length-drop, length-append, drop-append-le}
use Rattle.std.proofs.lemmas.List.Sums.{sum_by-append}
use Rattle.rams_model.specs.declared.{Held.Held, Note.TheVariants.Update, Note.TheVariants.StopAt}
use Rattle.rams_model.specs.Service.{Settings, join_ticks, Burst, next, kept, begun, after_note, run, is_stop}
use Rattle.rams_model.specs.Packets.{wires, Follows}
use Rattle.rams_model.specs.Laws.{ComesNearer, IsByStop}
use Rattle.reckoning.specs.burst_plan.{gain, AreAtMost}
use Rattle.reckoning.specs.burst_plan.QuietTicks as plain
use Rattle.reckoning.proofs.burst_plan.JoinTimes.{least_join}
use Rattle.reckoning.proofs.burst_plan.Running.{quiet_tick}
use Rattle.rams_model.proofs.Running.{longest_run}
use Rattle.service_laws.proofs.book_laws.Quiet.Packets.{follows_drop}

-- So many bytes are behind, and so many kept, that nothing is behind after so many steps: they gain what is behind, or, from the first step on, what is behind beyond what is kept.
abbrev pub Nears : ℕ → ℕ → ℕ → ℕ → Type 0
Nears gain steps behind kept = (behind ≡ 0) ⊎ ((behind ≤ steps * gain) ⊎ ((kept < behind) × (behind ≤ steps * gain + kept)))

last_step : (gain : ℕ) (p q : ℕ × ℕ) → Nears gain 0 p.0 p.1 → ComesNearer gain p q → q.0 ≡ 0
last_step gain p q near (inl z) = z
last_step gain p q (inl none) (inr n) = omega (arith, n.0, none)
last_step gain p q (inr (inl le)) (inr n) = omega (arith, n.0, le)
last_step gain p q (inr (inr far)) (inr n) = absurd (omega (arith, far.0, far.1))

one_step : (gain steps : ℕ) (p q : ℕ × ℕ) → Nears gain (suc steps) p.0 p.1 → ComesNearer gain p q → Nears gain steps q.0 q.1
one_step gain steps p q near (inl z) = inl z
one_step gain steps p q (inl none) (inr n) = inl (omega (arith, n.0, none))
one_step gain steps p q (inr (inl le)) (inr n) = let more = suc-mul steps gain in inr (inr (n.1, omega (arith, n.2, le, more)))
one_step gain steps p q (inr (inr far)) (inr n) = let more = suc-mul steps gain in inr (inr (n.1, omega (arith, n.2, far.1, more)))

step_nears : (gain told since : ℕ) (p q : ℕ × ℕ) → Nears gain (told - since) p.0 p.1 → ComesNearer gain p q → Nears gain (told - (since + 1)) q.0 q.1
step_nears gain told since p q near nearer = at (told - since) refl
  where
    at : (steps : ℕ) → told - since ≡ steps → Nears gain (told - (since + 1)) q.0 q.1
    at zero e = inl (last_step gain p q (subst (λ (n : ℕ). Nears gain n p.0 p.1) e near) nearer)
    at (suc steps) e =
        let less : steps ≡ told - (since + 1) = omega (arith, e) in
        subst (λ (n : ℕ). Nears gain n q.0 q.1) less (one_step gain steps p q (subst (λ (n : ℕ). Nears gain n p.0 p.1) e near) nearer)

pub nears_none : (gain behind kept : ℕ) → Nears gain 0 behind kept → behind ≡ 0
nears_none gain behind kept (inl none) = none
nears_none gain behind kept (inr (inl le)) = omega (arith, le)
nears_none gain behind kept (inr (inr far)) = absurd (omega (arith, far.0, far.1))

-- How near a burst has come, with the packets from its first on as they stood in the source at its Accept or as the last tick began, and the join time that its client was told so many ticks ago.
pub record Near (s : Settings) (b : Burst) (told since : ℕ) (packets : List Held) : Type 0 where
  pub has_ring : 0 < s.channel.ring
  pub some : 0 < length packets
  pub reaches : length b.sent ≤ length packets
  pub by_stop : IsByStop b.stop (next b)
  pub suffices : s.channel.declared + 1500 ≤ b.rate
  pub room : wires (drop (length b.sent) packets) + s.channel.declared ≤ s.channel.ring * s.channel.minwire
  pub nears : Nears (gain b.rate s.channel.declared s.channel.depth) (told - since) (wires (drop (length b.sent) packets)) (kept s b)

-- the packets as they stand with those that have joined since
pub behind_now : (u : ℕ) (old joined : List Held) → u ≤ length old → drop u (old ++ joined) ≡ drop u old ++ joined
behind_now u old joined le = drop-append-le u old joined le

pub wires_now : (u : ℕ) (old joined : List Held) → u ≤ length old → wires (drop u (old ++ joined)) ≡ wires (drop u old) + wires joined
wires_now u old joined le = ap wires (behind_now u old joined le) ∙ sum_by-append (λ (h : Held). h.wire) (drop u old) joined

-- What a tick does to a burst that is open after it: it sends the run, and repairs leave something.
pub record Ticks (s : Settings) (old after : Burst) (behind : List Held) : Type 0 where
  pub r : List Held
  pub is_run : r ≡ run old.stop (next old) (old.rate + kept s old) behind
  pub same_first : after.first ≡ old.first
  pub same_rate : after.rate ≡ old.rate
  pub same_stop : after.stop ≡ old.stop
  pub more_sent : length after.sent ≡ length old.sent + length r
  pub unstopped : is_stop after.stop (next after) ≡ false
  pub within : after.left ≤ old.rate + kept s old - wires r
  pub leaves : 0 < wires (drop (length r) behind) → min s.channel.depth (old.rate + kept s old - wires r) ≤ after.left

drop_none : (n : ℕ) → drop {A = Held} n [] ≡ []
drop_none zero = refl
drop_none (suc n) = refl

drop_twice : (u v : ℕ) (hs : List Held) → drop v (drop u hs) ≡ drop (u + v) hs
drop_twice zero v hs = ap (λ (n : ℕ). drop n hs) (omega arith)
drop_twice (suc u) v [] = drop_none v ∙ sym (drop_none (suc u + v))
drop_twice (suc u) v (h ∷ hs) = let e : suc (u + v) ≡ suc u + v = omega arith in drop_twice u v hs ∙ ap (λ (n : ℕ). drop n (h ∷ hs)) e

-- A quiet tick brings it nearer.
pub next_near : (s : Settings) (old after : Burst) (told since : ℕ) (packets joined : List Held) → Near s old told since packets
    → Follows old.first (packets ++ joined) → AreAtMost 1500 (drop (length old.sent) (packets ++ joined)) → wires joined ≤ s.channel.declared
    → Ticks s old after (drop (length old.sent) (packets ++ joined)) → Near s after told (since + 1) (packets ++ joined)
next_near s old after told since packets joined near follows sizes joins t =
    let u = length old.sent in
    let now = drop u (packets ++ joined) in
    let split = behind_now u packets joined near.reaches in
    let from : plain.Burst = record { rate = old.rate; depth = s.channel.depth; next = next old; kept = kept s old; packets = drop u packets } in
    let tick : plain.Tick = record { stop = old.stop; joined = joined; left = after.left } in
    let run_now : plain.sent from tick ≡ t.r = ap (λ (l : List Held). run old.stop (next old) (old.rate + kept s old) l) (sym split) ∙ sym t.is_run in
    let left_now : plain.unsent from tick ≡ drop (length t.r) now = ap₂ (λ (n : ℕ) (l : List Held). drop n l) (ap (λ (l : List Held). length l) run_now) (sym split) in
    let count = ap (λ (l : List Held). length l) run_now in
    let sum = ap wires run_now in
    let rest = ap wires left_now in
    let end : next after ≡ next old + length (plain.sent from tick) = omega (arith, t.same_first, t.more_sent, count) in
    let follow : Follows (next old) (drop u packets ++ joined) = subst (λ (l : List Held). Follows (next old) l) split (follows_drop old.first u (packets ++ joined) follows) in
    let longest = (longest_run old.stop (next old) (old.rate + kept s old) (drop u packets ++ joined) follow near.by_stop).1 in
    let nearer = quiet_tick s.channel.declared from tick (record { suffices = near.suffices; keeps = omega arith })
    (record {
      follows = follow;
      sizes = subst (AreAtMost 1500) split sizes;
      joins = joins;
      stops = near.by_stop;
      is_open = subst (λ (n : ℕ). is_stop old.stop n ≡ false) end (subst (λ (o : Option ℕ). is_stop o (next after) ≡ false) t.same_stop t.unstopped);
      within = omega (arith, t.within, sum);
      leaves = λ lt. let more = t.leaves (omega (arith, lt, rest)) in omega (arith, more, sum);
    }) in
    let after_end : wires (drop (length after.sent) (packets ++ joined)) ≡ wires (plain.unsent from tick) =
    ap (λ (n : ℕ). wires (drop n (packets ++ joined))) t.more_sent ∙ (sym (ap wires (drop_twice u (length t.r) (packets ++ joined))) ∙ sym rest) in
    let all = length-append packets joined in
    let size = length-drop u (packets ++ joined) in
    let parts = ap (λ (l : List Held). length l) split in
    record {
      has_ring = near.has_ring;
      some = omega (arith, near.some, all);
      reaches = omega (arith, longest.there, t.more_sent, count, size, parts, near.reaches, all);
      by_stop = subst (λ (o : Option ℕ). IsByStop o (next after)) (sym t.same_stop) (subst (IsByStop old.stop) (sym end) longest.stops);
      suffices = omega (arith, near.suffices, t.same_rate);
      room = stays after_end nearer;
      nears = subst (λ (n : ℕ). Nears (gain after.rate s.channel.declared s.channel.depth) (told - (since + 1)) n (kept s after)) (sym after_end)
          (subst (λ (rate : ℕ). Nears (gain rate s.channel.declared s.channel.depth) (told - (since + 1)) (wires (plain.unsent from tick)) (kept s after)) (sym t.same_rate)
          (step_nears (gain old.rate s.channel.declared s.channel.depth) told since (plain.pair from) (plain.pair (plain.after from tick)) near.nears nearer));
    }
  where
    stays : {q : ℕ × ℕ} → wires (drop (length after.sent) (packets ++ joined)) ≡ q.0 → ComesNearer (gain old.rate s.channel.declared s.channel.depth) (wires (drop (length old.sent) packets), kept s old) q
        → wires (drop (length after.sent) (packets ++ joined)) + s.channel.declared ≤ s.channel.ring * s.channel.minwire
    stays e (inl z) = omega (arith, e, z, near.room)
    stays e (inr n) = omega (arith, e, n.0, near.room)

-- A burst that begins is near as its client is told.
pub begun_near : (s : Settings) (first rate join sequence : ℕ) (packets : List Held) → 0 < s.channel.ring → 0 < length packets → s.channel.declared + 1500 ≤ rate
    → wires packets + s.channel.declared ≤ s.channel.ring * s.channel.minwire → join ≡ join_ticks (wires packets) rate s.channel.declared s.channel.depth
    → Near s (begun s first rate join sequence) join 0 packets
begun_near s first rate join sequence packets has_ring some suffices room is_join =
    let enough = (least_join (wires packets) rate s.channel.declared s.channel.depth suffices).enough in
    let steps : join_ticks (wires packets) rate s.channel.declared s.channel.depth ≡ join - 0 = omega (arith, is_join) in
    record {
      has_ring = has_ring;
      some = some;
      reaches = omega arith;
      by_stop = tt;
      suffices = suffices;
      room = room;
      nears = inr (inl (subst (λ (n : ℕ). wires packets ≤ n * gain rate s.channel.declared s.channel.depth) steps enough));
    }

-- A burst that gets another rate is near as its client is told, where no less is behind its next packet now than as the last tick began.
pub updated_near : (s : Settings) (b : Burst) (k rate join told since behind : ℕ) (packets : List Held) → Near s b told since packets → s.channel.declared + 1500 ≤ rate
    → wires (drop (length b.sent) packets) ≤ behind → join ≡ join_ticks behind rate s.channel.declared s.channel.depth
    → Near s (after_note s (Update k rate join) 0 b) join 0 packets
updated_near s b k rate join told since behind packets near suffices no_less is_join =
    let enough = (least_join behind rate s.channel.declared s.channel.depth suffices).enough in
    let steps : join_ticks behind rate s.channel.declared s.channel.depth ≡ join - 0 = omega (arith, is_join) in
    let now = subst (λ (n : ℕ). behind ≤ n * gain rate s.channel.declared s.channel.depth) steps enough in
    record {
      has_ring = near.has_ring;
      some = near.some;
      reaches = near.reaches;
      by_stop = near.by_stop;
      suffices = suffices;
      room = near.room;
      nears = inr (inl (omega (arith, now, no_less)));
    }

-- A stop changes nothing of that.
pub stopped_near : (s : Settings) (b : Burst) (k n told since : ℕ) (packets : List Held) → Near s b told since packets → next b ≤ n
    → Near s (after_note s (StopAt k n) 0 b) told since packets
stopped_near s b k n told since packets near le = record {
  has_ring = near.has_ring;
  some = near.some;
  reaches = near.reaches;
  by_stop = le;
  suffices = near.suffices;
  room = near.room;
  nears = near.nears;
}
