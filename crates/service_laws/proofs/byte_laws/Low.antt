-- A number that a packet is taken under has the 16 bits of its sequence number, and is at least 65,536.
use Rattle.std.proofs.Common.{◌≡◌, ℕ, ◌+◌, ◌-◌, ◌<◌, ◌≤◌, ◌%◌, cond, List, [], ◌∷◌, ◌++◌, Option, refl, arith, ltb}
use Rattle.std.specs.Prelude.{Contains}
use Rattle.std.proofs.lemmas.Bool.{cond_both, ltb-true, ltb-false}
use Rattle.std.proofs.lemmas.List.Elements.{Contains-append_right}
use Rattle.rams_model.specs.declared.{Held.Held, LiveNote.LiveNote}
use Rattle.rams_model.specs.declared.LiveNote.TheVariants.{Took, Restart, Late, Twice}
use Rattle.rams_model.specs.Packets.{hi, ahead, is_kept, Numbered, forward, backward, restart, jump, after_greatest, numbered, Stream, has_number, awaited, in_time, note_of, live_note}
use Rattle.rams_model.specs.Laws.{Rises}
use Rattle.rams_model.proofs.Rising.{below_hi}
use Rattle.rams_model.proofs.Waiting.{from_first}
use Rattle.service_laws.proofs.book_laws.Members.{is_first}

-- so it is, where the packet is taken
abbrev pub IsLow : ℕ → LiveNote → Type 0
IsLow q (Took n) = (n % 65536 ≡ q) × (65536 ≤ n)
IsLow q (Restart n) = (n % 65536 ≡ q) × (65536 ≤ n)
IsLow q _ = Unit {0}

in_time_low : (window : ℕ) (present : List Held) (q n : ℕ) → n % 65536 ≡ q → 65536 ≤ awaited window present → IsLow q (in_time window present n)
in_time_low window present q n low high =
    cond_both (ltb n (awaited window present)) Late (cond (has_number n present) Twice (Took n)) (IsLow q) (λ t. tt)
    (λ f. let le = ltb-false n (awaited window present) f in
    let far : 65536 ≤ n = omega (arith, le, high) in cond_both (has_number n present) Twice (Took n) (IsLow q) (λ t. tt) (λ e. (low, far)))

after_low : (window : ℕ) (present : List Held) (kept : Option ℕ) (q g u : ℕ) → q < 65536 → 65536 ≤ g → u ≡ ahead q g → 65536 ≤ awaited window present
    → IsLow q (note_of window present (after_greatest g kept q u))
after_low window present kept q g u small high is waits =
    let P : Numbered → Type 0 = λ n. IsLow q (note_of window present n) in
    cond_both (ltb u 3000) (forward (g + u)) (cond (ltb 65436 u) (backward (g - (65536 - u))) (cond (is_kept kept q) (restart (g + u)) jump)) P
    (λ t. in_time_low window present q (g + u) (omega (arith, small, is)) waits)
    (λ f. cond_both (ltb 65436 u) (backward (g - (65536 - u))) (cond (is_kept kept q) (restart (g + u)) jump) P
    (λ t. in_time_low window present q (g - (65536 - u)) (omega (arith, small, high, is, ltb-true 65436 u t)) waits)
    (λ f2. cond_both (is_kept kept q) (restart (g + u)) jump P (λ t. (omega (arith, small, is), omega (arith, high))) (λ f3. tt)))

-- the first of the start, if there is one, is at least 65,536
abbrev pub IsHigh : List Held → Type 0
IsHigh [] = Unit {0}
IsHigh (h ∷ hs) = 65536 ≤ h.n

pub high_present : (ended present : List Held) → ((k : Held) → Contains (ended ++ present) k → 65536 ≤ k.n) → IsHigh present
high_present ended [] f = tt
high_present ended (h ∷ hs) f = f h (Contains-append_right ended (h ∷ hs) h (is_first h hs))

note_low : (window : ℕ) (present : List Held) (kept : Option ℕ) (q : ℕ) → q < 65536 → Rises 0 present → IsHigh present
    → IsLow q (live_note window (record { ended = []; present = present; kept = kept }) q)
unfolding live_note numbered
note_low window [] kept q small r high = (omega (arith, small), omega arith)
note_low window (h ∷ hs) kept q small r high =
    let lt = below_hi 0 h hs r in
    after_low window (h ∷ hs) kept q (hi (h ∷ hs) - 1) (ahead q (hi (h ∷ hs) - 1)) small (omega (arith, lt, high)) refl (omega (arith, high, from_first window h hs))

pub live_note_low : (window : ℕ) (s : Stream) (q : ℕ) → q < 65536 → Rises 0 s.present → IsHigh s.present → IsLow q (live_note window s q)
unfolding live_note
live_note_low window s q small r high = note_low window s.present s.kept q small r high
