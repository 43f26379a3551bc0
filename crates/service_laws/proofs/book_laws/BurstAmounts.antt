-- How notes change what is read off the open bursts.
use Rattle.std.proofs.Common.{◌≡◌, ℕ, ◌+◌, ◌-◌, ◌≤◌, Bool, true, false, cond, List, [], ◌∷◌, Option, Some, None, refl, ap, ◌∙◌, arith, eqb}
use Rattle.std.specs.Prelude.{is_some}
use Rattle.std.proofs.lemmas.Bool.{cond_both, cond-true, cond-false, eq-eqb}
use Rattle.rams_model.specs.declared.{Held.Held, Cause.Cause, Note.Note}
use Rattle.rams_model.specs.declared.Note.TheVariants as note
use Rattle.rams_model.specs.Service.{Settings, tick, began, noted, History, opened, is_among, sequence, Burst, begun, in_tick, after_note, newest_changed, bursts_after, size_of, bursts, is_of, if_open, newest_open, open_burst, most_of}
use Rattle.rams_model.specs.Laws.{is_sending_to}
use Rattle.rams_model.proofs.LastAccept.{opened_open}
use Rattle.service_laws.specs.book_laws.{left_of}

pub open_among : (s : Settings) (k : ℕ) (history : History) (b : Burst) → open_burst s k history ≡ Some b → is_among k (opened history) ≡ true
open_among s k history b e = opened_open s k history ∙ ap is_some e

pub closed_among : (s : Settings) (k : ℕ) (history : History) → open_burst s k history ≡ None → is_among k (opened history) ≡ false
closed_among s k history e = opened_open s k history ∙ ap is_some e

-- a change of the newest burst, where its end stays as it is
pub at_end : (F : Option Burst → ℕ) (b c : Burst) → F (Some c) ≤ F (Some b) → (e : Option Cause) → F (if_open e c) ≤ F (if_open e b)
at_end F b c le None = le
at_end F b c le (Some cause) = omega arith

pub at_newest : (F : Option Burst → ℕ) (change : Burst → Burst) → ((b : Burst) → F (newest_open (change b ∷ [])) ≤ F (newest_open (b ∷ []))) → (c : Bool) (bs : List Burst)
    → F (newest_open (cond c (newest_changed change bs) bs)) ≤ F (newest_open bs)
at_newest F change le false bs = omega arith
at_newest F change le true [] = omega arith
at_newest F change le true (b ∷ bs) = le b

-- a note that sends, stops or ends
abbrev pub lowers : Note → Bool
lowers (note.Accept client first rate join) = false
lowers (note.Update client rate join) = false
lowers note = true

-- An amount that these notes don't raise in a burst, and of which a client without one has the least, falls with each of them.
pub falls : (s : Settings) (F : Option Burst → ℕ) → ((o : Option Burst) → F None ≤ F o) → (k : ℕ) (note : Note) (packet : Option Held) (history : History) → lowers note ≡ true
    → ((b : Burst) → F (Some (after_note s note (size_of packet) b)) ≤ F (Some b)) → F (open_burst s k (noted note packet ∷ history)) ≤ F (open_burst s k history)
unfolding bursts
falls s F none k (note.Accept client first rate join) packet history l le = absurd cc
falls s F none k (note.Update client rate join) packet history l le = absurd cc
falls s F none k (note.StopAt client n) packet history l le =
    at_newest F (after_note s (note.StopAt client n) (size_of packet)) (λ b. at_end F b (after_note s (note.StopAt client n) (size_of packet) b) (le b) b.ended)
    (eqb client k) (bursts s k history)
falls s F none k (note.Burst client n q) packet history l le =
    at_newest F (after_note s (note.Burst client n q) (size_of packet)) (λ b. at_end F b (after_note s (note.Burst client n q) (size_of packet) b) (le b) b.ended)
    (eqb client k) (bursts s k history)
falls s F none k (note.Repair client n q) packet history l le =
    at_newest F (after_note s (note.Repair client n q) (size_of packet)) (λ b. at_end F b (after_note s (note.Repair client n q) (size_of packet) b) (le b) b.ended)
    (eqb client k) (bursts s k history)
falls s F none k (note.End client cause) packet history l le =
    at_newest F (after_note s (note.End client cause) (size_of packet)) (λ b. none (newest_open (b ∷ []))) (eqb client k) (bursts s k history)
falls s F none k note packet history l le = omega arith

-- what a burst's budget has left
left-none : (o : Option Burst) → left_of None ≤ left_of o
left-none o = omega arith

pub left_falls : (s : Settings) (k : ℕ) (note : Note) (packet : Option Held) (history : History) → left_of (open_burst s k (noted note packet ∷ history)) ≤ left_of (open_burst s k history)
unfolding bursts
left_falls s k (note.Accept client first rate join) packet history =
    cond_both (eqb client k) (begun s first rate join (sequence s k history) ∷ bursts s k history) (bursts s k history)
    (λ l. left_of (newest_open l) ≤ left_of (open_burst s k history)) (λ t. omega arith) (λ f. omega arith)
left_falls s k (note.Update client rate join) packet history =
    at_newest left_of (after_note s (note.Update client rate join) (size_of packet))
    (λ b. at_end left_of b (after_note s (note.Update client rate join) (size_of packet) b) (omega arith) b.ended) (eqb client k) (bursts s k history)
left_falls s k note packet history = falls s left_of left-none k note packet history refl (λ b. omega arith)

less_left : (size : ℕ) (b c : Burst) → c.left ≡ b.left - size → (e : Option Cause) → left_of (if_open e c) ≡ left_of (if_open e b) - size
less_left size b c less None = less
less_left size b c less (Some cause) = omega arith

taken : (change : Burst → Burst) (size : ℕ) → ((b : Burst) → left_of (newest_open (change b ∷ [])) ≡ left_of (newest_open (b ∷ [])) - size) → (c : Bool) → c ≡ true → (bs : List Burst)
    → left_of (newest_open (cond c (newest_changed change bs) bs)) ≡ left_of (newest_open bs) - size
taken change size less false t bs = absurd cc
taken change size less true t [] = omega arith
taken change size less true t (b ∷ bs) = less b

-- a packet that its client is sent
pub left_taken : (s : Settings) (k : ℕ) (note : Note) (packet : Option Held) (history : History) → is_sending_to k note ≡ true
    → left_of (open_burst s k (noted note packet ∷ history)) ≡ left_of (open_burst s k history) - size_of packet
unfolding bursts
left_taken s k (note.Burst client n q) packet history t =
    taken (after_note s (note.Burst client n q) (size_of packet)) (size_of packet) (λ b. less_left (size_of packet) b (after_note s (note.Burst client n q) (size_of packet) b) refl b.ended)
    (eqb client k) t (bursts s k history)
left_taken s k (note.Repair client n q) packet history t =
    taken (after_note s (note.Repair client n q) (size_of packet)) (size_of packet) (λ b. less_left (size_of packet) b (after_note s (note.Repair client n q) (size_of packet) b) refl b.ended)
    (eqb client k) t (bursts s k history)
left_taken s k note packet history t = absurd cc

-- what bursts may be sent in a tick at most
most-none : (s : Settings) (o : Option Burst) → most_of s None ≤ most_of s o
most-none s o = omega arith

pub most_falls : (s : Settings) (k : ℕ) (note : Note) (packet : Option Held) (history : History) → lowers note ≡ true
    → most_of s (open_burst s k (noted note packet ∷ history)) ≤ most_of s (open_burst s k history)
most_falls s k (note.Accept client first rate join) packet history l = absurd cc
most_falls s k (note.Update client rate join) packet history l = absurd cc
most_falls s k note packet history l = falls s (most_of s) (most-none s) k note packet history l (λ b. omega arith)

-- a burst that begins, or whose rate is changed
pub most_begun : (s : Settings) (k first rate join : ℕ) (packet : Option Held) (history : History)
    → most_of s (open_burst s k (noted (note.Accept k first rate join) packet ∷ history)) ≡ rate + s.channel.depth
unfolding bursts
most_begun s k first rate join packet history =
    ap (λ (l : List Burst). most_of s (newest_open l)) (cond-true (eqb k k) (begun s first rate join (sequence s k history) ∷ bursts s k history) (bursts s k history) (eq-eqb k k refl))

at_rate : (s : Settings) (b c o : Burst) (e : Option Cause) → if_open e b ≡ Some o → most_of s (if_open e c) ≡ c.rate + s.channel.depth
at_rate s b c o None is = refl
at_rate s b c o (Some cause) is = absurd cc

changed_rate : (s : Settings) (change : Burst → Burst) (rate : ℕ) (o : Burst) → ((b : Burst) → (change b).rate ≡ rate) → ((b : Burst) → (change b).ended ≡ b.ended) → (c : Bool) → c ≡ true → (bs : List Burst)
    → newest_open bs ≡ Some o → most_of s (newest_open (cond c (newest_changed change bs) bs)) ≡ rate + s.channel.depth
changed_rate s change rate o r e false t bs is = absurd cc
changed_rate s change rate o r e true t [] is = absurd cc
changed_rate s change rate o r e true t (b ∷ bs) is =
    ap (λ (end : Option Cause). most_of s (if_open end (change b))) (e b) ∙ at_rate s b (change b) o b.ended is ∙ ap (λ (n : ℕ). n + s.channel.depth) (r b)

pub most_changed : (s : Settings) (k rate join : ℕ) (packet : Option Held) (history : History) (b : Burst) → open_burst s k history ≡ Some b
    → most_of s (open_burst s k (noted (note.Update k rate join) packet ∷ history)) ≡ rate + s.channel.depth
unfolding bursts
most_changed s k rate join packet history b is =
    changed_rate s (after_note s (note.Update k rate join) (size_of packet)) rate b (λ x. refl) (λ x. refl) (eqb k k) (eq-eqb k k refl) (bursts s k history) is

-- another client's note
pub of_others : (s : Settings) (j : ℕ) (note : Note) (packet : Option Held) (history : History) → is_of j note ≡ false → open_burst s j (noted note packet ∷ history) ≡ open_burst s j history
unfolding bursts
of_others s j note packet history f =
    ap newest_open (cond-false (is_of j note) (bursts_after s note (sequence s j history) (size_of packet) (bursts s j history)) (bursts s j history) f)

-- a tick adds the rate to what was kept
at_tick : (s : Settings) (bs : List Burst) → most_of s (newest_open (newest_changed (in_tick s) bs)) ≤ most_of s (newest_open bs)
at_tick s [] = omega arith
at_tick s (b ∷ bs) = at_end (most_of s) b (in_tick s b) (omega arith) b.ended

pub most_at_tick : (s : Settings) (k : ℕ) (history : History) → most_of s (open_burst s k (began tick ∷ history)) ≤ most_of s (open_burst s k history)
unfolding bursts
most_at_tick s k history = at_tick s (bursts s k history)

within_most : (s : Settings) (bs : List Burst) → left_of (newest_open (newest_changed (in_tick s) bs)) ≤ most_of s (newest_open bs)
within_most s [] = omega arith
within_most s (b ∷ bs) = at b.ended
  where
    at : (e : Option Cause) → left_of (if_open e (in_tick s b)) ≤ most_of s (if_open e b)
    at None = omega arith
    at (Some cause) = omega arith

pub left_at_tick : (s : Settings) (k : ℕ) (history : History) → left_of (open_burst s k (began tick ∷ history)) ≤ most_of s (open_burst s k history)
unfolding bursts
left_at_tick s k history = within_most s (bursts s k history)
