-- What a client is sent after its last Accept has the sequence numbers from the one on that the Accept named.
use Rattle.std.proofs.Common.{◌≡◌, ℕ, ◌+◌, ◌%◌, Bool, true, false, cond, List, [], ◌∷◌, ◌++◌, length, Option, Some, None, refl, ap, sym, ◌∙◌, subst, arith, eqb, append_assoc, length-append}
use Rattle.std.proofs.lemmas.Bool.{cond_both, cond-true, cond-false, both_ways, eqb-true, eq-eqb}
use Rattle.rams_model.specs.declared.{Held.Held, Cause.Cause}
use Rattle.rams_model.specs.declared.Note.TheVariants as note
use Rattle.rams_model.specs.Service.{Settings, tick, began, told, noted, History, sendings, sequence, Burst, begun, in_tick, after_note, newest_changed, size_of, bursts, if_open, newest_open}
use Rattle.rams_model.specs.Laws.{NoneIs, is_accept_of, ends_known, numbers_sent}
use Rattle.rams_model.proofs.LastAccept.{last_accept}
use Rattle.service_laws.specs.book_laws.{is_burst_of, numbers_to, AreSequencedFrom, FirstSendingHas}
use Rattle.rams_model.proofs.Legal.{IsLegal, legal_part}
use Rattle.rams_model.proofs.Since.{none_older}
use Rattle.service_laws.proofs.book_laws.FreshBursts.{Numbered, numbered_part}

-- the client of the newest burst was told this number
abbrev Tells : ℕ → List Burst → Type 0
Tells number [] = ⊥
Tells number (b ∷ bs) = b.last.first ≡ Some number

still_tells : (number : ℕ) (c : Bool) (change : Burst → Burst) → ((b : Burst) → (change b).last.first ≡ b.last.first) → (bs : List Burst) → Tells number bs
    → Tells number (cond c (newest_changed change bs) bs)
still_tells number false change same bs t = t
still_tells number true change same [] t = absurd t
still_tells number true change same (b ∷ bs) t = same b ∙ t

changed_tells : (number : ℕ) (change : Burst → Burst) → ((b : Burst) → (change b).last.first ≡ b.last.first) → (bs : List Burst) → Tells number bs → Tells number (newest_changed change bs)
changed_tells number change same [] t = absurd t
changed_tells number change same (b ∷ bs) t = same b ∙ t

pub tells_since : (s : Settings) (k first rate join : ℕ) (packet : Option Held) (later before : History) → NoneIs (is_accept_of k) later
    → Tells (sequence s k before) (bursts s k (later ++ noted (note.Accept k first rate join) packet ∷ before))
unfolding bursts
tells_since s k first rate join packet [] before none =
    subst (Tells (sequence s k before)) (sym (cond-true (eqb k k) (begun s first rate join (sequence s k before) ∷ bursts s k before) (bursts s k before) (eq-eqb k k refl))) refl
tells_since s k first rate join packet (began tick ∷ later) before none =
    changed_tells (sequence s k before) (in_tick s) (λ b. refl) (bursts s k (later ++ noted (note.Accept k first rate join) packet ∷ before))
    (tells_since s k first rate join packet later before none.1)
tells_since s k first rate join packet (began heard ∷ later) before none = tells_since s k first rate join packet later before none.1
tells_since s k first rate join packet (told client message ∷ later) before none = tells_since s k first rate join packet later before none.1
tells_since s k first rate join packet (noted (note.Accept client f r j) p ∷ later) before none =
    let history = later ++ noted (note.Accept k first rate join) packet ∷ before in
    cond_both (eqb client k) (begun s f r j (sequence s k history) ∷ bursts s k history) (bursts s k history) (Tells (sequence s k before))
    (λ t. absurd (both_ways (eqb client k) none.0 t)) (λ g. tells_since s k first rate join packet later before none.1)
tells_since s k first rate join packet (noted (note.Update client new j) p ∷ later) before none =
    still_tells (sequence s k before) (eqb client k) (after_note s (note.Update client new j) (size_of p)) (λ b. refl)
    (bursts s k (later ++ noted (note.Accept k first rate join) packet ∷ before)) (tells_since s k first rate join packet later before none.1)
tells_since s k first rate join packet (noted (note.StopAt client n) p ∷ later) before none =
    still_tells (sequence s k before) (eqb client k) (after_note s (note.StopAt client n) (size_of p)) (λ b. refl)
    (bursts s k (later ++ noted (note.Accept k first rate join) packet ∷ before)) (tells_since s k first rate join packet later before none.1)
tells_since s k first rate join packet (noted (note.Burst client n q) p ∷ later) before none =
    still_tells (sequence s k before) (eqb client k) (after_note s (note.Burst client n q) (size_of p)) (λ b. refl)
    (bursts s k (later ++ noted (note.Accept k first rate join) packet ∷ before)) (tells_since s k first rate join packet later before none.1)
tells_since s k first rate join packet (noted (note.Repair client n q) p ∷ later) before none =
    still_tells (sequence s k before) (eqb client k) (after_note s (note.Repair client n q) (size_of p)) (λ b. refl)
    (bursts s k (later ++ noted (note.Accept k first rate join) packet ∷ before)) (tells_since s k first rate join packet later before none.1)
tells_since s k first rate join packet (noted (note.End client why) p ∷ later) before none =
    still_tells (sequence s k before) (eqb client k) (after_note s (note.End client why) (size_of p)) (λ b. refl)
    (bursts s k (later ++ noted (note.Accept k first rate join) packet ∷ before)) (tells_since s k first rate join packet later before none.1)
tells_since s k first rate join packet (noted note p ∷ later) before none = tells_since s k first rate join packet later before none.1

-- nothing was sent of a burst since its Accept
none_sent : (k : ℕ) (later : History) → NoneIs (is_burst_of k) later → numbers_sent k later ≡ []
none_sent k [] none = refl
none_sent k (noted (note.Burst client n q) p ∷ later) none =
    cond_both (eqb client k) (n ∷ numbers_sent k later) (numbers_sent k later) (λ l. l ≡ []) (λ t. absurd (both_ways (eqb client k) none.0 t)) (λ f. none_sent k later none.1)
none_sent k (began heard ∷ later) none = none_sent k later none.1
none_sent k (told client message ∷ later) none = none_sent k later none.1
none_sent k (noted note p ∷ later) none = none_sent k later none.1

-- the open burst is the newest
newest_is : (bs : List Burst) (burst b : Burst) (others : List Burst) → bs ≡ burst ∷ others → newest_open bs ≡ Some b → burst ≡ b
newest_is bs burst b others e o = at burst.ended (sym (ap newest_open e) ∙ o)
  where
    at : (ended : Option Cause) → if_open ended burst ≡ Some b → burst ≡ b
    at None o = cc
    at (Some why) o = absurd cc

pub first_sending : (s : Settings) (k first rate join : ℕ) (packet : Option Held) (since before : History) → NoneIs (is_accept_of k) since
    → IsLegal s (since ++ noted (note.Accept k first rate join) packet ∷ before) → Numbered s k (since ++ noted (note.Accept k first rate join) packet ∷ before)
    → FirstSendingHas k since (sequence s k before)
first_sending s k first rate join packet since before none l numbered n number sent newer older e unsent =
    let accept = noted (note.Accept k first rate join) packet in
    let burst = noted (note.Burst k n number) sent in
    let splits : since ++ accept ∷ before ≡ newer ++ burst ∷ (older ++ accept ∷ before) =
    ap (λ (h : History). h ++ accept ∷ before) e ∙ append_assoc newer (burst ∷ older) (accept ∷ before)
    in
    let sends = (legal_part s newer (burst ∷ (older ++ accept ∷ before)) (subst (IsLegal s) splits l)).0 in
    let mine = numbered_part s k newer (burst ∷ (older ++ accept ∷ before)) (subst (Numbered s k) splits numbered) in
    let later : NoneIs (is_accept_of k) older = (none_older (is_accept_of k) newer (burst ∷ older) (subst (NoneIs (is_accept_of k)) e none)).1 in
    let is = last_accept s k first rate join packet older before later in
    let same = newest_is (bursts s k (older ++ accept ∷ before)) is.burst sends.opened.burst is.others is.is_newest sends.opened.is_open in
    let none_of_it : sends.opened.burst.sent ≡ [] = ap (λ (b : Burst). b.sent) (sym same) ∙ is.is_sent ∙ none_sent k older unsent in
    let named : sends.opened.burst.last.first ≡ Some number = mine.0 sends.opened.burst refl sends.opened.is_open none_of_it in
    let accepted : is.burst.last.first ≡ Some (sequence s k before) = subst (Tells (sequence s k before)) is.is_newest (tells_since s k first rate join packet older before later) in
    one_number number (sequence s k before) (sym named ∙ sym (ap (λ (b : Burst). b.last.first) same) ∙ accepted)
  where
    one_number : (a b : ℕ) → Some a ≡ Some b → a ≡ b
    one_number a b e = cc

-- the numbers go on
next_one : (x : ℕ) (numbers : List ℕ) (n : ℕ) → n ≡ (x + length numbers) % 65536 → AreSequencedFrom (x % 65536) numbers → AreSequencedFrom (x % 65536) (numbers ++ n ∷ [])
next_one x [] n e a = (omega (arith, e), tt)
next_one x (m ∷ numbers) n e a =
    let up : (x % 65536 + 1) % 65536 ≡ (x + 1) % 65536 = omega arith in (
      a.0,
      subst (λ (y : ℕ). AreSequencedFrom y (numbers ++ n ∷ [])) (sym up)
          (next_one (x + 1) numbers n (omega (arith, e)) (subst (λ (y : ℕ). AreSequencedFrom y numbers) up a.1)),
    )

-- How many packets a client was sent since its Accept, and their numbers.
pub record Counts (s : Settings) (k : ℕ) (since history before : History) : Type 0 where
  pub counted : sendings k history ≡ sendings k before + length (numbers_to k since)
  pub sequenced : AreSequencedFrom (sequence s k before) (numbers_to k since)

one_sent : (s : Settings) (k n : ℕ) (since history before : History) → Counts s k since history before → n ≡ sequence s k history
    → (sendings k history + 1 ≡ sendings k before + length (numbers_to k since ++ n ∷ [])) × AreSequencedFrom (sequence s k before) (numbers_to k since ++ n ∷ [])
one_sent s k n since history before c e = (
  omega (arith, c.counted, length-append (numbers_to k since) (n ∷ [])),
  next_one (s.channel.seq0 + sendings k before) (numbers_to k since) n (omega (arith, e, c.counted)) c.sequenced,
)

sent_or_not : (s : Settings) (k client n : ℕ) (since history before : History) → Counts s k since history before → (client ≡ k → n ≡ sequence s k history)
    → (cond (eqb client k) (sendings k history + 1) (sendings k history) ≡ sendings k before + length (cond (eqb client k) (numbers_to k since ++ n ∷ []) (numbers_to k since)))
    × AreSequencedFrom (sequence s k before) (cond (eqb client k) (numbers_to k since ++ n ∷ []) (numbers_to k since))
sent_or_not s k client n since history before c e = at (eqb client k) refl
  where
    at : (t : Bool) → eqb client k ≡ t
        → (cond t (sendings k history + 1) (sendings k history) ≡ sendings k before + length (cond t (numbers_to k since ++ n ∷ []) (numbers_to k since)))
        × AreSequencedFrom (sequence s k before) (cond t (numbers_to k since ++ n ∷ []) (numbers_to k since))
    at true t = one_sent s k n since history before c (e (eqb-true client k t))
    at false t = (c.counted, c.sequenced)

pub counts : (s : Settings) (k first rate join : ℕ) (packet : Option Held) (since before : History) → NoneIs (ends_known k) since
    → IsLegal s (since ++ noted (note.Accept k first rate join) packet ∷ before) → Counts s k since (since ++ noted (note.Accept k first rate join) packet ∷ before) before
unfolding sendings
counts s k first rate join packet [] before none l = record { counted = omega arith; sequenced = tt }
counts s k first rate join packet (began heard ∷ since) before none l =
    let c = counts s k first rate join packet since before none.1 l in record { counted = c.counted; sequenced = c.sequenced }
counts s k first rate join packet (told client message ∷ since) before none l =
    let c = counts s k first rate join packet since before none.1 l in record { counted = c.counted; sequenced = c.sequenced }
counts s k first rate join packet (noted (note.Burst client n number) p ∷ since) before none l =
    let history = since ++ noted (note.Accept k first rate join) packet ∷ before in
    let m = sent_or_not s k client number since history before (counts s k first rate join packet since before none.1 l.1) (λ same. subst (λ (j : ℕ). number ≡ sequence s j history) same l.0.number_is) in
    record { counted = m.0; sequenced = m.1 }
counts s k first rate join packet (noted (note.Repair client n number) p ∷ since) before none l =
    let history = since ++ noted (note.Accept k first rate join) packet ∷ before in
    let m = sent_or_not s k client number since history before (counts s k first rate join packet since before none.1 l.1) (λ same. subst (λ (j : ℕ). number ≡ sequence s j history) same l.0.number_is) in
    record { counted = m.0; sequenced = m.1 }
counts s k first rate join packet (noted (note.Bye client) p ∷ since) before none l =
    let history = since ++ noted (note.Accept k first rate join) packet ∷ before in
    let c = counts s k first rate join packet since before none.1 l.1 in
    record { counted = cond-false (eqb client k) 0 (sendings k history) none.0 ∙ c.counted; sequenced = c.sequenced }
counts s k first rate join packet (noted (note.Forgot client) p ∷ since) before none l =
    let history = since ++ noted (note.Accept k first rate join) packet ∷ before in
    let c = counts s k first rate join packet since before none.1 l.1 in
    record { counted = cond-false (eqb client k) 0 (sendings k history) none.0 ∙ c.counted; sequenced = c.sequenced }
counts s k first rate join packet (noted note p ∷ since) before none l =
    let c = counts s k first rate join packet since before none.1 l.1 in record { counted = c.counted; sequenced = c.sequenced }
