-- What a client's repairs may take, and what the channel has left, in the words of the laws: what each tick gives, less what was sent in it.
use Rattle.std.proofs.Common.{◌≡◌, ℕ, ◌+◌, ◌<◌, inl, inr, Bool, true, false, cond, List, [], ◌∷◌, ◌++◌, Option, Some, None, option_map, refl, ap, ◌∙◌, arith, eqb, ltb}
use Rattle.std.specs.Prelude.{min}
use Rattle.std.proofs.lemmas.Bool.{cond_both, ltb-true, true≢false}
use Rattle.rams_model.specs.declared.{Held.Held, Note.Note}
use Rattle.rams_model.specs.declared.Note.TheVariants as note
use Rattle.rams_model.specs.Packets.{hi}
use Rattle.rams_model.specs.Service.{Settings, tick, began, told, noted, History, as_tick_began, Burst, next, size_of, in_tick, bursts, open_burst, is_burst_of, is_repair_of, sent_now, budget_of, cap, run_left, kept_from_repairs, may_take, channel_left}
use Rattle.rams_model.specs.Laws.{NoneIs, is_event, is_sending, is_sending_to, sizes_sent}
use Rattle.rams_model.proofs.Budgets.{channel_has_left}
use Rattle.rams_model.proofs.OpenBurst.{changed_open}
use Rattle.service_laws.specs.book_laws.{may_be_sent}
use Rattle.service_laws.specs.tick_laws.{MayKeep}

-- ---- what was sent in the tick

sent_so : (test : Note → Bool) (now before : History) → NoneIs is_event now → sent_now test (now ++ began tick ∷ before) ≡ sizes_sent test now
unfolding sent_now
sent_so test [] before none = refl
sent_so test (began heard ∷ now) before none = absurd (true≢false none.0)
sent_so test (told client message ∷ now) before none = sent_so test now before none.1
sent_so test (noted n packet ∷ now) before none = ap (λ (sum : ℕ). cond (test n) (sum + size_of packet) sum) (sent_so test now before none.1)

parts : (k : ℕ) (now : History) → sizes_sent (is_burst_of k) now + sizes_sent (is_repair_of k) now ≡ sizes_sent (is_sending_to k) now
parts k [] = refl
parts k (began heard ∷ now) = parts k now
parts k (told client message ∷ now) = parts k now
parts k (noted (note.Burst client n q) packet ∷ now) = first_more (eqb client k) (sizes_sent (is_burst_of k) now) (sizes_sent (is_repair_of k) now) (size_of packet) _ (parts k now)
  where
    first_more : (c : Bool) (a b size sum : ℕ) → a + b ≡ sum → cond c (a + size) a + b ≡ cond c (sum + size) sum
    first_more true a b size sum e = omega arith
    first_more false a b size sum e = e
parts k (noted (note.Repair client n q) packet ∷ now) = second_more (eqb client k) (sizes_sent (is_burst_of k) now) (sizes_sent (is_repair_of k) now) (size_of packet) _ (parts k now)
  where
    second_more : (c : Bool) (a b size sum : ℕ) → a + b ≡ sum → a + cond c (b + size) b ≡ cond c (sum + size) sum
    second_more true a b size sum e = omega arith
    second_more false a b size sum e = e
parts k (noted n packet ∷ now) = parts k now

-- ---- what the tick gives

tick_began : (now before : History) → NoneIs is_event now → as_tick_began (now ++ began tick ∷ before) ≡ began tick ∷ before
unfolding as_tick_began
tick_began [] before none = refl
tick_began (began heard ∷ now) before none = absurd (true≢false none.0)
tick_began (told client message ∷ now) before none = tick_began now before none.1
tick_began (noted n packet ∷ now) before none = tick_began now before none.1

given : (s : Settings) (k : ℕ) (before : History) → budget_of s (open_burst s k (began tick ∷ before)) ≡ may_be_sent s (open_burst s k before)
unfolding bursts
given s k before = ap (budget_of s) (changed_open (in_tick s) (λ b. refl) (bursts s k before)) ∙ by_open (open_burst s k before)
  where
    by_open : (o : Option Burst) → budget_of s (option_map (in_tick s) o) ≡ may_be_sent s o
    by_open None = refl
    by_open (Some b) = refl

pub may_keep : (s : Settings) (held : List Held) (history : History) (k left : ℕ) → MayKeep s held history k (kept_from_repairs s held left (open_burst s k history))
may_keep s held history k left = by_open (open_burst s k history) refl
  where
    by_open : (o : Option Burst) → open_burst s k history ≡ o → MayKeep s held history k (kept_from_repairs s held left o)
    by_open None e = inl refl
    by_open (Some b) e =
        cond_both (ltb (next b) (hi held)) (min s.channel.depth left) 0 (MayKeep s held history k) (λ t. inr (b, e, ltb-true (next b) (hi held) t, omega arith)) (λ f. inl refl)

-- a packet that a client's repairs might not take
pub too_large_for_client : (s : Settings) (held : List Held) (k wire : ℕ) (now before : History) → NoneIs is_event now
    → may_take s held k (now ++ began tick ∷ before) < wire
    → let history = now ++ began tick ∷ before in
    may_be_sent s (open_burst s k before) < wire + sizes_sent (is_sending_to k) now + kept_from_repairs s held (run_left s k history) (open_burst s k history)
too_large_for_client s held k wire now before none lt =
    let history = now ++ began tick ∷ before in
    let whole : cap s k history ≡ may_be_sent s (open_burst s k before) = ap (λ (h : History). budget_of s (open_burst s k h)) (tick_began now before none) ∙ given s k before in
    let runs = sent_so (is_burst_of k) now before none in
    let repairs = sent_so (is_repair_of k) now before none in
    let both = parts k now in
    omega (arith, lt, whole, runs, repairs, both)

-- or that the channel had not left
pub too_large_for_channel : (s : Settings) (wire : ℕ) (now before : History) → NoneIs is_event now → channel_left s (now ++ began tick ∷ before) < wire
    → s.channel.share + min s.channel.swell (channel_left s before) < wire + sizes_sent is_sending now
too_large_for_channel s wire now before none lt = let left = channel_has_left s now before none in omega (arith, lt, left)
