-- Where the items are packets, the definitions of items and of packets say the same.
use Rattle.std.proofs.Common.{◌≡◌, ℕ, zero, suc, ◌+◌, ◌-◌, ◌≤◌, Bool, true, false, ◌==◌, ◌||◌, ◌&&◌, not, nat_lt, nat_le, if◌then◌else◌, List, [], ◌∷◌, filter, refl, ◌∙◌, ap, arith}
use Rattle.std.proofs.lemmas.Bool.Decides.{nat_tests}
use Rattle.rams_model.specs.declared.{Held.Held, LiveNote.TheVariants.Took}
use Rattle.rams_model.specs.declared.LiveNote.TheVariants as notes
use Rattle.rams_model.specs.Packets.{lo, hi, least, with_packet}
use Rattle.rams_model.specs.Packets.Source as sources
use Rattle.rams_model.proofs.Waiting.{least_from_start}
use Rattle.channel_cache.specs.declared.reorder_window.window.Came.TheVariants.{Kept, Late, Twice}
use Rattle.channel_cache.specs.reorder_window.{Start, has_number, with_item, last_number, is_missing, awaited, items_of, start_of, note_of, AwaitedAreThose, NotesAreThose, StartsGrowAlike, NoneIsBelowTheFirst, ReleasedAreThose}
use Rattle.channel_cache.proofs.reorder_window.Searches.{least-is}
use Rattle.channel_cache.proofs.reorder_window.Standing.{missing_is}

pub has_same : (n : ℕ) (hs : List Held) → has_number n (items_of hs) ≡ sources.has_number n hs
has_same n [] = refl
has_same n (h ∷ hs) = ap (λ b. (h.n == n) || b) (has_same n hs)

-- the greatest number is one below the end of the interval
pub last_same : (h : Held) (hs : List Held) → last_number h.n (items_of hs) + 1 ≡ hi (h ∷ hs)
unfolding hi
last_same h [] = refl
last_same h (k ∷ ks) = last_same k ks

-- two tests with the same answers have the same least number
pub least_step : (n : ℕ) (a b : Bool) (m k : ℕ) → a ≡ b → m ≡ k → (if a then n else m) ≡ (if b then n else k)
least_step n true true m k same rest = refl
least_step n true false m k same rest = cc
least_step n false true m k same rest = cc
least_step n false false m k same rest = rest

pub least_same : (f g : ℕ → Bool) (n count : ℕ) → ((k : ℕ) → f k ≡ g k) → least f n count ≡ least g n count
least_same f g n zero same = refl
least_same f g n (suc count) same = least_step n (f n) (g n) (least f (n + 1) count) (least g (n + 1) count) (same n) (least_same f g (n + 1) count same)

pub missing_same : (window : ℕ) (h : Held) (hs : List Held) (k : ℕ) → is_missing window (start_of (h ∷ hs)) k ≡ sources.is_missing window (h ∷ hs) k
missing_same window h hs k =
    let low : last_number h.n (items_of hs) - window ≡ hi (h ∷ hs) - 1 - window = omega (arith, last_same h hs) in
    ap (λ b. not b && nat_le (last_number h.n (items_of hs) - window) k) (has_same k (h ∷ hs)) ∙ ap (λ n. not (sources.has_number k (h ∷ hs)) && nat_le n k) low

pub awaited_same : AwaitedAreThose
unfolding awaited sources.awaited hi
awaited_same window [] =
    least-is (is_missing {T = Held} window (record { first = 0; items = [] })) 0 (0 + 1 - 0) 0 (omega arith) (omega arith) (λ k up down. absurd (omega arith)) (missing_is false (0 - window) 0 refl (omega arith))
awaited_same window (h ∷ hs) =
    least_same (is_missing window (start_of (h ∷ hs))) (sources.is_missing window (h ∷ hs)) h.n (last_number h.n (items_of hs) + 1 - h.n) (missing_same window h hs)
    ∙ ap (λ end. least (sources.is_missing window (h ∷ hs)) h.n (end - h.n)) (last_same h hs)

-- the answers
pub note_step : (n : ℕ) (late known late' known' : Bool) → late ≡ late' → known ≡ known' → note_of n (if late then Late else if known then Twice else Kept) ≡ (if late' then notes.Late else if known' then notes.Twice else Took n)
note_step n true known true known' same rest = refl
note_step n true known false known' same rest = cc
note_step n false known true known' same rest = cc
note_step n false true false true same rest = refl
note_step n false true false false same rest = cc
note_step n false false false true same rest = cc
note_step n false false false false same rest = refl

pub notes_same : NotesAreThose
notes_same window present n =
    note_step n (nat_lt n (awaited window (start_of present))) (has_number n (items_of present)) (nat_lt n (sources.awaited window present)) (sources.has_number n present)
    (ap (λ a. nat_lt n a) (awaited_same window present)) (has_same n present)

-- one more
pub more_step : (new h : Held) (hs : List Held) (b : Bool) → items_of (with_packet new hs) ≡ with_item new.n new (items_of hs) → items_of (if b then new ∷ h ∷ hs else h ∷ with_packet new hs) ≡ (if b then (new.n, new) ∷ (h.n, h) ∷ items_of hs else (h.n, h) ∷ with_item new.n new (items_of hs))
more_step new h hs true is = refl
more_step new h hs false is = ap (λ es. (h.n, h) ∷ es) is

pub more_same : (new : Held) (hs : List Held) → items_of (with_packet new hs) ≡ with_item new.n new (items_of hs)
more_same new [] = refl
more_same new (h ∷ hs) = more_step new h hs (nat_lt new.n h.n) (more_same new hs)

pub first_step : (new h : Held) (hs : List Held) (b : Bool) → b ≡ false → lo (if b then new ∷ h ∷ hs else h ∷ with_packet new hs) ≡ h.n
first_step new h hs true isnt = cc
first_step new h hs false isnt = refl

pub grows_same : StartsGrowAlike
grows_same h hs new from =
    let first : lo (with_packet new (h ∷ hs)) ≡ h.n = first_step new h hs (nat_lt new.n h.n) (grind (arith, nat_tests)) in
    let start : ℕ → List (ℕ × Held) → Start Held = λ n items. record { first = n; items = items } in
    ap (λ n. start n (items_of (with_packet new (h ∷ hs)))) first ∙ ap (λ items. start h.n items) (more_same new (h ∷ hs))

-- none below the first
pub not_late : (n : ℕ) (late known : Bool) → (if late then notes.Late else if known then notes.Twice else Took n) ≡ Took n → late ≡ false
not_late n true known is = cc
not_late n false known is = refl

pub from_same : NoneIsBelowTheFirst
unfolding sources.awaited
from_same window [] n is = omega arith
from_same window (h ∷ hs) n is =
    let late : nat_lt n (sources.awaited window (h ∷ hs)) ≡ false = not_late n (nat_lt n (sources.awaited window (h ∷ hs))) (sources.has_number n (h ∷ hs)) is in
    let due : sources.awaited window (h ∷ hs) ≤ n = grind (arith, nat_tests) in
    omega (arith, due, least_from_start (sources.is_missing window (h ∷ hs)) h.n (hi (h ∷ hs) - h.n))

-- what is released
pub low_step : (a : ℕ) (h : Held) (hs : List Held) (b : Bool) → filter (λ e. nat_lt e.0 a) (items_of hs) ≡ items_of (filter (λ k. nat_lt k.n a) hs)
    → (if b then (h.n, h) ∷ filter (λ e. nat_lt e.0 a) (items_of hs) else filter (λ e. nat_lt e.0 a) (items_of hs)) ≡ items_of (if b then h ∷ filter (λ k. nat_lt k.n a) hs else filter (λ k. nat_lt k.n a) hs)
low_step a h hs true is = ap (λ es. (h.n, h) ∷ es) is
low_step a h hs false is = is

pub low_same : (a : ℕ) (hs : List Held) → filter (λ e. nat_lt e.0 a) (items_of hs) ≡ items_of (filter (λ h. nat_lt h.n a) hs)
low_same a [] = refl
low_same a (h ∷ hs) = low_step a h hs (nat_lt h.n a) (low_same a hs)

pub released_same : ReleasedAreThose
released_same window present = ap (λ a. filter (λ (e : ℕ × Held). nat_lt e.0 a) (items_of present)) (awaited_same window present) ∙ low_same (sources.awaited window present) present
