-- A client's open burst after a note and after a tick began, and what is true of it, item by item.
use Rattle.std.proofs.Common.{◌≡◌, ℕ, Bool, true, false, cond, List, [], ◌∷◌, Option, Some, None, option_map, refl, ap, sym, ◌∙◌, subst, eqb}
use Rattle.std.proofs.lemmas.Bool.{cond_both, cond-true, cond-false, eqb-true, eq-eqb}
use Rattle.rams_model.specs.declared.{held.Held.Held, note.Cause.Cause, note.Note.Note}
use Rattle.rams_model.specs.declared.note.Note.TheVariants as note
use Rattle.rams_model.specs.Service.{Settings, tick, began, noted, History, sequence, Burst, begun, is_of, in_tick, after_note, bursts_after, newest_changed, size_of, bursts, if_open, newest_open, open_burst}

map_open : (o : Option Cause) (change : Burst → Burst) (b : Burst) → if_open o (change b) ≡ option_map change (if_open o b)
map_open None change b = refl
map_open (Some why) change b = refl

-- A change that ends no burst changes the open one.
pub changed_open : (change : Burst → Burst) → ((b : Burst) → (change b).ended ≡ b.ended) → (bs : List Burst) → newest_open (newest_changed change bs) ≡ option_map change (newest_open bs)
changed_open change same [] = refl
changed_open change same (b ∷ bs) = ap (λ (o : Option Cause). if_open o (change b)) (same b) ∙ map_open b.ended change b

own_changed : (k : ℕ) (change : Burst → Burst) → ((b : Burst) → (change b).ended ≡ b.ended) → (bs : List Burst) (b : Burst) → newest_open bs ≡ Some b
    → newest_open (cond (eqb k k) (newest_changed change bs) bs) ≡ Some (change b)
own_changed k change same bs b e =
    ap newest_open (cond-true (eqb k k) (newest_changed change bs) bs (eq-eqb k k refl)) ∙ changed_open change same bs ∙ ap (option_map change) e

pub open_sent : (s : Settings) (k n number : ℕ) (h : Held) (history : History) (b : Burst) → open_burst s k history ≡ Some b
    → open_burst s k (noted (note.Burst k n number) (Some h) ∷ history) ≡ Some (after_note s (note.Burst k n number) h.wire b)
unfolding bursts
open_sent s k n number h history b e = own_changed k (after_note s (note.Burst k n number) h.wire) (λ c. refl) (bursts s k history) b e

pub open_stopped : (s : Settings) (k n : ℕ) (history : History) (b : Burst) → open_burst s k history ≡ Some b
    → open_burst s k (noted (note.StopAt k n) None ∷ history) ≡ Some (record b { stop = Some n })
unfolding bursts
open_stopped s k n history b e = own_changed k (after_note s (note.StopAt k n) 0) (λ c. refl) (bursts s k history) b e

pub open_updated : (s : Settings) (k rate join : ℕ) (history : History) (b : Burst) → open_burst s k history ≡ Some b
    → open_burst s k (noted (note.Update k rate join) None ∷ history) ≡ Some (after_note s (note.Update k rate join) 0 b)
unfolding bursts
open_updated s k rate join history b e = own_changed k (after_note s (note.Update k rate join) 0) (λ c. refl) (bursts s k history) b e

-- A note that isn't of the client's bursts leaves them.
pub other_bursts : (s : Settings) (k : ℕ) (n : Note) (packet : Option Held) (history : History) → is_of k n ≡ false → bursts s k (noted n packet ∷ history) ≡ bursts s k history
unfolding bursts
other_bursts s k n packet history other =
    cond-false (is_of k n) (bursts_after s n (sequence s k history) (size_of packet) (bursts s k history)) (bursts s k history) other

-- it is true of a burst, where one is open
abbrev pub Holds : (Burst → Type 0) → Option Burst → Type 0
Holds Q None = Unit {0}
Holds Q (Some b) = Q b

pub holds_of : (Q : Burst → Type 0) (o : Option Burst) (b : Burst) → Holds Q o → o ≡ Some b → Q b
holds_of Q o b h e = subst (Holds Q) e h

at_newest : (Q : Burst → Type 0) (change : Burst → Burst) (bs : List Burst) → ((b : Burst) → (change b).ended ≡ b.ended)
    → ((b : Burst) → newest_open bs ≡ Some b → Q (change b)) → Holds Q (newest_open (newest_changed change bs))
at_newest Q change bs same f = subst (Holds Q) (sym (changed_open change same bs)) (each (newest_open bs) f)
  where
    each : (o : Option Burst) → ((b : Burst) → o ≡ Some b → Q (change b)) → Holds Q (option_map change o)
    each None g = tt
    each (Some b) g = g b refl

at_own : (c : Bool) (Q : Burst → Type 0) (change : Burst → Burst) (bs : List Burst) → ((b : Burst) → (change b).ended ≡ b.ended)
    → (c ≡ true → (b : Burst) → newest_open bs ≡ Some b → Q b → Q (change b)) → Holds Q (newest_open bs) → Holds Q (newest_open (cond c (newest_changed change bs) bs))
at_own true Q change bs same f h = at_newest Q change bs same (λ b is. f refl b is (holds_of Q (newest_open bs) b h is))
at_own false Q change bs same f h = h

-- an open burst that ends isn't open
pub end_closes : (s : Settings) (k : ℕ) (why : Cause) (packet : Option Held) (history : History) → open_burst s k (noted (note.End k why) packet ∷ history) ≡ None
unfolding bursts
end_closes s k why packet history =
    let change = after_note s (note.End k why) (size_of packet) in
    ap newest_open (cond-true (eqb k k) (newest_changed change (bursts s k history)) (bursts s k history) (eq-eqb k k refl)) ∙ over (bursts s k history)
  where
    over : (bs : List Burst) → newest_open (newest_changed (after_note s (note.End k why) (size_of packet)) bs) ≡ None
    over [] = refl
    over (b ∷ bs) = refl

-- It goes on being true where each note of the client keeps it, and one that begins a burst makes it true.
pub record Keeps (s : Settings) (k : ℕ) (Q : Burst → Type 0) (n : Note) (packet : Option Held) (history : History) : Type 0 where
  pub begins : (first rate join : ℕ) → n ≡ note.Accept k first rate join → Q (begun s first rate join (sequence s k history))
  pub changes : (b : Burst) → is_of k n ≡ true → open_burst s k history ≡ Some b → Q b → Q (after_note s n (size_of packet) b)

at_accept : (s : Settings) (k client first rate join : ℕ) (Q : Burst → Type 0) (packet : Option Held) (history : History)
    → Keeps s k Q (note.Accept client first rate join) packet history → Holds Q (open_burst s k history)
    → Holds Q (open_burst s k (noted (note.Accept client first rate join) packet ∷ history))
unfolding bursts
at_accept s k client first rate join Q packet history keeps h =
    cond_both (eqb client k) (begun s first rate join (sequence s k history) ∷ bursts s k history) (bursts s k history) (λ bs. Holds Q (newest_open bs))
    (λ t. keeps.begins first rate join (ap (λ (c : ℕ). note.Accept c first rate join) (eqb-true client k t))) (λ f. h)

pub at_end_note : (s : Settings) (k client : ℕ) (why : Cause) (Q : Burst → Type 0) (packet : Option Held) (history : History) → (eqb client k ≡ false → Holds Q (open_burst s k history))
    → Holds Q (open_burst s k (noted (note.End client why) packet ∷ history))
unfolding bursts
at_end_note s k client why Q packet history h =
    cond_both (eqb client k) (newest_changed (after_note s (note.End client why) (size_of packet)) (bursts s k history)) (bursts s k history) (λ bs. Holds Q (newest_open bs))
    (λ t. over (bursts s k history)) h
  where
    over : (bs : List Burst) → Holds Q (newest_open (newest_changed (after_note s (note.End client why) (size_of packet)) bs))
    over [] = tt
    over (b ∷ bs) = tt

pub at_note : (s : Settings) (k : ℕ) (Q : Burst → Type 0) (n : Note) (packet : Option Held) (history : History) → Keeps s k Q n packet history → Holds Q (open_burst s k history)
    → Holds Q (open_burst s k (noted n packet ∷ history))
unfolding bursts
at_note s k Q (note.Accept client first rate join) packet history keeps h = at_accept s k client first rate join Q packet history keeps h
at_note s k Q (note.Update client rate join) packet history keeps h =
    at_own (eqb client k) Q (after_note s (note.Update client rate join) (size_of packet)) (bursts s k history) (λ b. refl) (λ t b. keeps.changes b t) h
at_note s k Q (note.StopAt client n) packet history keeps h =
    at_own (eqb client k) Q (after_note s (note.StopAt client n) (size_of packet)) (bursts s k history) (λ b. refl) (λ t b. keeps.changes b t) h
at_note s k Q (note.Burst client n q) packet history keeps h =
    at_own (eqb client k) Q (after_note s (note.Burst client n q) (size_of packet)) (bursts s k history) (λ b. refl) (λ t b. keeps.changes b t) h
at_note s k Q (note.Repair client n q) packet history keeps h =
    at_own (eqb client k) Q (after_note s (note.Repair client n q) (size_of packet)) (bursts s k history) (λ b. refl) (λ t b. keeps.changes b t) h
at_note s k Q (note.End client why) packet history keeps h = at_end_note s k client why Q packet history (λ f. h)
at_note s k Q n packet history keeps h = h

pub at_tick : (s : Settings) (k : ℕ) (P Q : Burst → Type 0) (history : History) → ((b : Burst) → P b → Q (in_tick s b)) → Holds P (open_burst s k history)
    → Holds Q (open_burst s k (began tick ∷ history))
unfolding bursts
at_tick s k P Q history f h =
    at_newest Q (in_tick s) (bursts s k history) (λ b. refl) (λ b is. f b (holds_of P (open_burst s k history) b h is))
