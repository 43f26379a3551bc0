-- The stop of a client's newest burst is that of the last StopAt.
use Rattle.std.proofs.Common.{◌≡◌, ℕ, Bool, true, false, cond, not, ◌&&◌, ◌||◌, ◌↔◌, List, [], ◌∷◌, Option, Some, None, refl, ap, sym, ◌∙◌, eqb}
use Rattle.std.proofs.lemmas.Bool.{cond_both, eqb-true, eq-eqb, true≢false}
use Rattle.rams_model.specs.declared.note.Note.{Note}
use Rattle.rams_model.specs.declared.note.Note.TheVariants as note
use Rattle.rams_model.specs.Service.{Settings, tick, began, told, noted, History, sequence, Burst, begun, in_tick, after_note, newest_changed, size_of, bursts}
use Rattle.rams_model.specs.Laws.{StandsWithout, is_accept_of, is_stop_at, ends_stop, newest_stop}
use Rattle.rams_model.proofs.Since.{stands, stands_from, stands_to}

abbrev is_this : ℕ → Option ℕ → Bool
is_this n None = false
is_this n (Some m) = eqb m n

abbrev is_any : List Burst → Bool
is_any [] = false
is_any (b ∷ bs) = true

-- the newest burst, if there is one, has this stop
abbrev stops_so : ℕ → List Burst → Bool
stops_so n bs = is_this n (newest_stop bs)

-- the newest burst has this stop where it is so
abbrev IsSo : ℕ → Bool → List Burst → Type 0
IsSo n so bs = stops_so n bs ≡ (is_any bs && so)

-- a change that leaves the stop as it is
unmoved : (change : Burst → Burst) → ((b : Burst) → (change b).stop ≡ b.stop) → (n : ℕ) (so : Bool) (bs : List Burst) → IsSo n so bs → IsSo n so (newest_changed change bs)
unmoved change same n so [] is = is
unmoved change same n so (b ∷ bs) is = ap (is_this n) (same b) ∙ is

-- an Accept begins a burst without a stop
no_stop : (n : ℕ) (so c : Bool) → c ≡ true → false ≡ (not c && so)
no_stop n so c t = ap (λ (b : Bool). not b && so) (sym t)

-- a StopAt sets one
new_stop : (n m : ℕ) (so c : Bool) → c ≡ true → (bs : List Burst) → IsSo n ((c && eqb m n) || (not c && so)) (newest_changed (λ b. record b { stop = Some m }) bs)
new_stop n m so c t [] = refl
new_stop n m so c t (b ∷ bs) = or_false (eqb m n) ∙ ap (λ (d : Bool). (d && eqb m n) || (not d && so)) (sym t)
  where
    or_false : (b : Bool) → b ≡ (b || false)
    or_false true = refl
    or_false false = refl

-- an item of another client
others : (n : ℕ) (x so c : Bool) (bs : List Burst) → c ≡ false → IsSo n so bs → IsSo n ((c && x) || (not c && so)) bs
others n x so c bs f is = is ∙ ap (λ (d : Bool). is_any bs && ((d && x) || (not d && so))) (sym f)

-- a note that changes the client's newest burst, but not its stop
other_note : (s : Settings) (k n who size : ℕ) (note : Note) (so : Bool) (bs : List Burst) → ((b : Burst) → (after_note s note size b).stop ≡ b.stop) → IsSo n so bs
    → IsSo n so (cond (eqb who k) (newest_changed (after_note s note size) bs) bs)
other_note s k n who size note so bs same is =
    cond_both (eqb who k) (newest_changed (after_note s note size) bs) bs (IsSo n so) (λ t. unmoved (after_note s note size) same n so bs is) (λ f. is)

stop_stands : (s : Settings) (k n : ℕ) (history : History) → IsSo n (stands (is_stop_at k n) (ends_stop k) history) (bursts s k history)
unfolding stands bursts
stop_stands s k n [] = refl
stop_stands s k n (began tick ∷ history) =
    unmoved (in_tick s) (λ b. refl) n (stands (is_stop_at k n) (ends_stop k) history) (bursts s k history) (stop_stands s k n history)
stop_stands s k n (began heard ∷ history) = stop_stands s k n history
stop_stands s k n (told client message ∷ history) = stop_stands s k n history
stop_stands s k n (noted (note.Accept client first rate join) packet ∷ history) =
    let so = stands (is_stop_at k n) (ends_stop k) history in
    cond_both (eqb client k) (begun s first rate join (sequence s k history) ∷ bursts s k history) (bursts s k history) (IsSo n (not (eqb client k) && so))
    (λ t. no_stop n so (eqb client k) t)
    (λ f. stop_stands s k n history ∙ ap (λ (d : Bool). is_any (bursts s k history) && (not d && so)) (sym f))
stop_stands s k n (noted (note.StopAt client m) packet ∷ history) =
    let so = stands (is_stop_at k n) (ends_stop k) history in
    cond_both (eqb client k) (newest_changed (λ b. record b { stop = Some m }) (bursts s k history)) (bursts s k history)
    (IsSo n ((eqb client k && eqb m n) || (not (eqb client k) && so))) (λ t. new_stop n m so (eqb client k) t (bursts s k history))
    (λ f. others n (eqb m n) so (eqb client k) (bursts s k history) f (stop_stands s k n history))
stop_stands s k n (noted (note.Update client rate join) packet ∷ history) =
    other_note s k n client (size_of packet) (note.Update client rate join) (stands (is_stop_at k n) (ends_stop k) history) (bursts s k history) (λ b. refl) (stop_stands s k n history)
stop_stands s k n (noted (note.Burst client m sequence) packet ∷ history) =
    other_note s k n client (size_of packet) (note.Burst client m sequence) (stands (is_stop_at k n) (ends_stop k) history) (bursts s k history) (λ b. refl) (stop_stands s k n history)
stop_stands s k n (noted (note.Repair client m sequence) packet ∷ history) =
    other_note s k n client (size_of packet) (note.Repair client m sequence) (stands (is_stop_at k n) (ends_stop k) history) (bursts s k history) (λ b. refl) (stop_stands s k n history)
stop_stands s k n (noted (note.End client cause) packet ∷ history) =
    other_note s k n client (size_of packet) (note.End client cause) (stands (is_stop_at k n) (ends_stop k) history) (bursts s k history) (λ b. refl) (stop_stands s k n history)
stop_stands s k n (noted note packet ∷ history) = stop_stands s k n history

-- a client with an Accept has a burst
any_after : (change : Burst → Burst) (so : Bool) (bs : List Burst) → is_any bs ≡ so → is_any (newest_changed change bs) ≡ so
any_after change so [] e = e
any_after change so (b ∷ bs) e = e

any_note : (s : Settings) (k who size : ℕ) (note : Note) (so : Bool) (bs : List Burst) → is_any bs ≡ so → is_any (cond (eqb who k) (newest_changed (after_note s note size) bs) bs) ≡ so
any_note s k who size note so bs e =
    cond_both (eqb who k) (newest_changed (after_note s note size) bs) bs (λ l. is_any l ≡ so) (λ t. any_after (after_note s note size) so bs e) (λ f. e)

abbrev accepted : ℕ → History → Bool
accepted k history = stands (is_accept_of k) (λ i. false) history

any_stands : (s : Settings) (k : ℕ) (history : History) → is_any (bursts s k history) ≡ accepted k history
unfolding stands bursts
any_stands s k [] = refl
any_stands s k (began tick ∷ history) = any_after (in_tick s) (accepted k history) (bursts s k history) (any_stands s k history)
any_stands s k (began heard ∷ history) = any_stands s k history
any_stands s k (told client message ∷ history) = any_stands s k history
any_stands s k (noted (note.Accept client first rate join) packet ∷ history) =
    cond_both (eqb client k) (begun s first rate join (sequence s k history) ∷ bursts s k history) (bursts s k history) (λ l. is_any l ≡ (eqb client k || accepted k history))
    (λ t. ap (λ (d : Bool). d || accepted k history) (sym t)) (λ f. any_stands s k history ∙ ap (λ (d : Bool). d || accepted k history) (sym f))
any_stands s k (noted (note.StopAt client m) packet ∷ history) =
    any_note s k client (size_of packet) (note.StopAt client m) (accepted k history) (bursts s k history) (any_stands s k history)
any_stands s k (noted (note.Update client rate join) packet ∷ history) =
    any_note s k client (size_of packet) (note.Update client rate join) (accepted k history) (bursts s k history) (any_stands s k history)
any_stands s k (noted (note.Burst client m sequence) packet ∷ history) =
    any_note s k client (size_of packet) (note.Burst client m sequence) (accepted k history) (bursts s k history) (any_stands s k history)
any_stands s k (noted (note.Repair client m sequence) packet ∷ history) =
    any_note s k client (size_of packet) (note.Repair client m sequence) (accepted k history) (bursts s k history) (any_stands s k history)
any_stands s k (noted (note.End client cause) packet ∷ history) =
    any_note s k client (size_of packet) (note.End client cause) (accepted k history) (bursts s k history) (any_stands s k history)
any_stands s k (noted note packet ∷ history) = any_stands s k history

-- a stop is this number
this_stop : (n : ℕ) (o : Option ℕ) → is_this n o ≡ true → o ≡ Some n
this_stop n None e = absurd (true≢false (sym e))
this_stop n (Some m) e = ap (λ (j : ℕ). Some j) (eqb-true m n e)

pub last_stop : (s : Settings) (k n : ℕ) (history : History) → StandsWithout (is_accept_of k) (λ i. false) history
    → (newest_stop (bursts s k history) ≡ Some n) ↔ StandsWithout (is_stop_at k n) (ends_stop k) history
last_stop s k n history accept =
    let any = any_stands s k history ∙ stands_to (is_accept_of k) (λ i. false) history accept in
    let so = stands (is_stop_at k n) (ends_stop k) history in
    let same : stops_so n (bursts s k history) ≡ so = stop_stands s k n history ∙ ap (λ (b : Bool). b && so) any in (
      λ e. stands_from (is_stop_at k n) (ends_stop k) history (sym same ∙ ap (is_this n) e ∙ eq-eqb n n refl),
      λ w. this_stop n (newest_stop (bursts s k history)) (same ∙ stands_to (is_stop_at k n) (ends_stop k) history w),
    )
