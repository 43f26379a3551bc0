-- The packets from a number on, in the source list and in what is held of it.
use Rattle.std.proofs.Common.{◌≡◌, ℕ, zero, suc, ◌+◌, ◌-◌, ◌*◌, ◌<◌, ◌≤◌, Bool, true, false, cond, inr, ⊎_elim, List, [], ◌∷◌, ◌++◌, length, take, drop, refl, ap, sym, ◌∙◌, subst, arith, suc-mul, eqb, leb}
use Rattle.std.proofs.lemmas.List.{take-append-drop, length-drop, length-append}
use Rattle.std.proofs.Math.Nat.{lt_of_mul-lt-mul_right}
use Rattle.std.proofs.lemmas.Bool.{cond_both, cond-false, leb-true, leb-false, eq-eqb, and_from}
use Rattle.rams_model.specs.declared.Held.{Held}
use Rattle.rams_model.specs.Service.{Settings, History, arrivals, hold}
use Rattle.rams_model.specs.Packets.{hi, wires, from_number, Follows, is_consecutive, consecutive_end}
use Rattle.rams_model.specs.Packets.Source as sources
use Rattle.rams_model.specs.Laws.{source, AreAtLeast, Rises, IsAmong}
use Rattle.rams_model.proofs.Rising.{hi_of_end, at_least, from_all}
use Rattle.rams_model.proofs.Growing.{source_rises}
use Rattle.rams_model.proofs.Holding.{rises_from, longest_end}
use Rattle.rams_model.proofs.Holding as holding
use Rattle.rams_model.proofs.Running.{wires-cons}

-- packets whose numbers follow one another
pub follows_front : (n : ℕ) (hs ks : List Held) → Follows n (hs ++ ks) → Follows n hs
follows_front n [] ks f = tt
follows_front n (h ∷ hs) ks f = (f.0, follows_front (n + 1) hs ks f.1)

pub follows_drop : (n u : ℕ) (hs : List Held) → Follows n hs → Follows (n + u) (drop u hs)
follows_drop n zero hs f = subst (λ (m : ℕ). Follows m hs) (omega arith) f
follows_drop n (suc u) [] f = tt
follows_drop n (suc u) (h ∷ hs) f = subst (λ (m : ℕ). Follows m (drop u hs)) (omega arith) (follows_drop (n + 1) u hs f.1)

consecutive : (n : ℕ) (hs : List Held) → Follows n hs → is_consecutive hs ≡ true
consecutive n [] f = refl
consecutive n (h ∷ []) f = refl
consecutive n (h ∷ k ∷ hs) f = and_from (eqb k.n (h.n + 1)) (is_consecutive (k ∷ hs)) (eq-eqb k.n (h.n + 1) (f.1.0 ∙ ap (λ (m : ℕ). m + 1) (sym f.0))) (consecutive (n + 1) (k ∷ hs) f.1)

pub hi_is : (n : ℕ) (hs : List Held) → Follows n hs → 0 < length hs → hi hs ≡ n + length hs
hi_is n [] f lt = absurd (omega arith)
hi_is n (h ∷ hs) f lt = holding.hi_is n h hs f

-- the end of the interval is that of any end
pub hi_end : (front end : List Held) → 0 < length end → hi (front ++ end) ≡ hi end
hi_end front [] lt = absurd (omega arith)
hi_end front (h ∷ hs) lt = hi_of_end front h hs

from_follows : (n u : ℕ) (hs : List Held) → Follows n hs → from_number (n + u) hs ≡ drop u hs
from_follows n zero hs f = from_all (n + 0) n hs (omega arith) (rises_from n hs f)
from_follows n (suc u) [] f = refl
from_follows n (suc u) (h ∷ hs) f =
    cond-false (leb (n + suc u) h.n) (h ∷ from_number (n + suc u) hs) (from_number (n + suc u) hs) (above (leb (n + suc u) h.n) (λ t. omega (arith, f.0, leb-true (n + suc u) h.n t)))
    ∙ (ap (λ (m : ℕ). from_number m hs) (omega arith) ∙ from_follows (n + 1) u hs f.1)
  where
    above : (b : Bool) → (b ≡ true → ⊥) → b ≡ false
    above true g = absurd (g refl)
    above false g = refl

from_twice : (n m : ℕ) (hs : List Held) → n ≤ m → from_number m (from_number n hs) ≡ from_number m hs
from_twice n m [] le = refl
from_twice n m (h ∷ hs) le =
    cond_both (leb n h.n) (h ∷ from_number n hs) (from_number n hs) (λ l. from_number m l ≡ from_number m (h ∷ hs))
    (λ t. ap (λ (l : List Held). cond (leb m h.n) (h ∷ l) l) (from_twice n m hs le))
    (λ f. from_twice n m hs le ∙ sym (cond-false (leb m h.n) (h ∷ from_number m hs) (from_number m hs) (lower f (leb m h.n) (λ t. leb-true m h.n t))))
  where
    lower : leb n h.n ≡ false → (b : Bool) → (b ≡ true → m ≤ h.n) → b ≡ false
    lower f true g = let lt = leb-false n h.n f in absurd (omega (arith, le, lt, g refl))
    lower f false g = refl

-- those from a later number on are the end of those from a number on, where these follow one another
pub from_later : (n u : ℕ) (hs : List Held) → Follows n (from_number n hs) → from_number (n + u) hs ≡ drop u (from_number n hs)
from_later n u hs f = sym (from_twice n (n + u) hs (omega arith)) ∙ from_follows n u (from_number n hs) f

-- those from a number on are an end
front_of : (n m : ℕ) (hs : List Held) → Rises m hs → (front : List Held) × (hs ≡ front ++ from_number n hs)
front_of n m [] r = ([], refl)
front_of n m (h ∷ hs) r =
    cond_both (leb n h.n) (h ∷ from_number n hs) (from_number n hs) (λ l. (front : List Held) × (h ∷ hs ≡ front ++ l))
    (λ t. ([], ap (λ (l : List Held). h ∷ l) (sym (from_all n (h.n + 1) hs (omega (arith, leb-true n h.n t)) r.1))))
    (λ f. let rest = front_of n (h.n + 1) hs r.1 in (h ∷ rest.0, ap (λ (l : List Held). h ∷ l) rest.1))

-- an end that is long enough has the same from a number on
same_in_end : (n m : ℕ) (front end : List Held) → Rises m (front ++ end) → length (from_number n (front ++ end)) ≤ length end
    → from_number n (front ++ end) ≡ from_number n end
same_in_end n m [] end r le = refl
same_in_end n m (h ∷ front) end r le =
    cond_both (leb n h.n) (h ∷ from_number n (front ++ end)) (from_number n (front ++ end)) (λ l. length l ≤ length end → l ≡ from_number n end)
    (λ t more.
    let all = from_all n (h.n + 1) (front ++ end) (omega (arith, leb-true n h.n t)) r.1 in
    let size = ap (λ (l : List Held). length l) all in
    let sum = length-append front end in
    absurd (omega (arith, more, size, sum)))
    (λ f less. same_in_end n (h.n + 1) front end r.1 less) le

-- the same of a list that is known to be a front and an end
same_in : (n : ℕ) (hs front end : List Held) → hs ≡ front ++ end → Rises 0 hs → length (from_number n hs) ≤ length end → from_number n hs ≡ from_number n end
same_in n hs front end e r le =
    subst (λ (l : List Held). Rises 0 l → length (from_number n l) ≤ length end → from_number n l ≡ from_number n end) (sym e) (λ q l. same_in_end n 0 front end q l) r le

-- What is held is an end of the source list.
held_end : (ring : ℕ) (hs : List Held) → (front : List Held) × (hs ≡ front ++ drop (length (consecutive_end hs) - ring) (consecutive_end hs))
held_end ring hs =
    let l = longest_end hs in
    let d = length (consecutive_end hs) - ring in (
      l.front ++ take d (consecutive_end hs),
      l.splits ∙ (ap (λ (k : List Held). l.front ++ k) (sym (take-append-drop d (consecutive_end hs))) ∙ assoc l.front (take d (consecutive_end hs)) (drop d (consecutive_end hs))),
    )
  where
    assoc : (a b c : List Held) → a ++ (b ++ c) ≡ (a ++ b) ++ c
    assoc [] b c = refl
    assoc (x ∷ a) b c = ap (λ (l : List Held). x ∷ l) (assoc a b c)

pub hold_is_end : (s : Settings) (history : History) → (front : List Held) × (source s history ≡ front ++ hold s history)
unfolding sources.hold
hold_is_end s history = held_end s.channel.ring (source s history)

-- From a burst's first on nothing is missing: the longest end whose numbers follow one another has all from there on.
in_longest : (first : ℕ) (hs : List Held) → Rises 0 hs → Follows first (from_number first hs) → length (from_number first hs) ≤ length (consecutive_end hs)
in_longest first hs r f =
    let front = front_of first 0 hs r in
    (longest_end hs).longest front.0 (from_number first hs) front.1 (consecutive first (from_number first hs) f)

-- So of a later number on the same is held as stands in the source, where the ring has room for that many.
held_from_later : (ring first u : ℕ) (hs : List Held) → Rises 0 hs → Follows first (from_number first hs) → length (drop u (from_number first hs)) ≤ ring
    → from_number (first + u) (drop (length (consecutive_end hs) - ring) (consecutive_end hs)) ≡ drop u (from_number first hs)
held_from_later ring first u hs r f le =
    let later = from_later first u hs f in
    let end = held_end ring hs in
    let all = in_longest first hs r f in
    let size = length-drop u (from_number first hs) in
    let room = length-drop (length (consecutive_end hs) - ring) (consecutive_end hs) in
    let same = ap (λ (l : List Held). length l) later in
    sym (same_in (first + u) hs end.0 (drop (length (consecutive_end hs) - ring) (consecutive_end hs)) end.1 r (omega (arith, le, all, size, room, same))) ∙ later

pub held_later : (s : Settings) (history : History) (first u : ℕ) → Follows first (from_number first (source s history))
    → length (drop u (from_number first (source s history))) ≤ s.channel.ring
    → from_number (first + u) (hold s history) ≡ drop u (from_number first (source s history))
unfolding sources.hold
held_later s history first u f le = held_from_later s.channel.ring first u (source s history) (source_rises s.channel.window (arrivals history)) f le

-- and what is held ends where the source does
held_ends : (ring first : ℕ) (hs : List Held) → Rises 0 hs → Follows first (from_number first hs) → 0 < length (from_number first hs) → 0 < ring
    → hi (drop (length (consecutive_end hs) - ring) (consecutive_end hs)) ≡ first + length (from_number first hs)
held_ends ring first hs r f some room =
    let end = held_end ring hs in
    let front = front_of first 0 hs r in
    let all = in_longest first hs r f in
    let size = length-drop (length (consecutive_end hs) - ring) (consecutive_end hs) in
    sym (hi_end end.0 (drop (length (consecutive_end hs) - ring) (consecutive_end hs)) (omega (arith, size, all, some, room)))
    ∙ (sym (ap hi end.1) ∙ (ap hi front.1 ∙ (hi_end front.0 (from_number first hs) some ∙ hi_is first (from_number first hs) f some)))

pub held_to : (s : Settings) (history : History) (first : ℕ) → Follows first (from_number first (source s history)) → 0 < length (from_number first (source s history)) → 0 < s.channel.ring
    → hi (hold s history) ≡ first + length (from_number first (source s history))
unfolding sources.hold
held_to s history first f some room = held_ends s.channel.ring first (source s history) (source_rises s.channel.window (arrivals history)) f some room

among_end : (h : Held) (front end : List Held) → IsAmong h end → IsAmong h (front ++ end)
among_end h [] end a = a
among_end h (x ∷ front) end a = inr (among_end h front end a)

from_held : (m : ℕ) (h : Held) (front end : List Held) → Rises m (front ++ end) → IsAmong h end → from_number h.n (front ++ end) ≡ from_number h.n end
from_held m h [] end r a = refl
from_held m h (x ∷ front) end r a =
    let lt = at_least (x.n + 1) h (front ++ end) r.1 (among_end h front end a) in
    cond_both (leb h.n x.n) (x ∷ from_number h.n (front ++ end)) (from_number h.n (front ++ end)) (λ l. l ≡ from_number h.n end)
    (λ t. absurd (omega (arith, lt, leb-true h.n x.n t))) (λ f. from_held (x.n + 1) h front end r.1 a)

pub held_itself : (s : Settings) (history : History) (h : Held) → IsAmong h (hold s history) → from_number h.n (source s history) ≡ from_number h.n (hold s history)
held_itself s history h a =
    let end = hold_is_end s history in
    subst (λ (l : List Held). Rises 0 l → from_number h.n l ≡ from_number h.n (hold s history)) (sym end.1) (λ r. from_held 0 h end.0 (hold s history) r a)
    (source_rises s.channel.window (arrivals history))

-- and stands there itself
pub there_itself : (h : Held) (hs : List Held) → IsAmong h hs → 0 < length (from_number h.n hs)
there_itself h [] a = absurd a
there_itself h (k ∷ ks) a =
    cond_both (leb h.n k.n) (k ∷ from_number h.n ks) (from_number h.n ks) (λ l. 0 < length l) (λ t. omega arith)
    (λ f. ⊎_elim (λ (same : k ≡ h). absurd (omega (arith, leb-false h.n k.n f, ap (λ (x : Held). x.n) same))) (λ later. there_itself h ks later) a)

-- where any is held the ring has room
there : (h : Held) (hs : List Held) → IsAmong h hs → 0 < length hs
there h [] a = absurd a
there h (k ∷ ks) a = omega arith

pub ring_some : (s : Settings) (history : History) (h : Held) → IsAmong h (hold s history) → 0 < s.channel.ring
unfolding sources.hold
ring_some s history h a =
    let all = consecutive_end (source s history) in
    let some = there h (hold s history) a in
    let size = length-drop (length all - s.channel.ring) all in
    omega (arith, some, size)

-- Packets of at least a size are no more than fit.
times_size : (size : ℕ) (hs : List Held) → AreAtLeast size hs → length hs * size ≤ wires hs
times_size size [] a = omega arith
times_size size (h ∷ hs) a =
    let rest = times_size size hs a.1 in
    let more = suc-mul (length hs) size in
    let sum = wires-cons h hs in
    omega (arith, rest, more, sum, a.0)

pub no_fewer : (hs : List Held) → AreAtLeast 1 hs → length hs ≤ wires hs
no_fewer hs a = let times = times_size 1 hs a in omega (arith, times)

pub count_fits : (size most : ℕ) (hs : List Held) → AreAtLeast 1 hs → AreAtLeast size hs → wires hs ≤ most * size → length hs ≤ most
count_fits zero most hs one a le = let count = no_fewer hs one in omega (arith, count, le)
count_fits (suc size) most hs one a le =
    let times = times_size (suc size) hs a in
    let more = suc-mul most (suc size) in
    let less : length hs * suc size < suc most * suc size = omega (arith, times, le, more) in
    let count = lt_of_mul-lt-mul_right (suc size) {m = length hs} {n = suc most} less in
    omega (arith, count)
