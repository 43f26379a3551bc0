-- What is true of a burst since its Accept: of what was sent, of its stop, and of its end.
use Rattle.std.proofs.Common.{◌≡◌, ℕ, zero, suc, add-zero, ◌+◌, Bool, true, false, cond, List, [], ◌∷◌, ◌++◌, length, Option, Some, None, refl, ap, sym, ◌∙◌, subst, arith, eqb}
use Rattle.std.specs.List.{range_with_len}
use Rattle.std.proofs.lemmas.Bool.{both_ways, cond-true, eqb-true, eq-eqb}
use Rattle.std.proofs.lemmas.List.{map-append, length_push}
use Rattle.rams_model.specs.declared.{Held.Held, Cause.Cause}
use Rattle.rams_model.specs.declared.Cause.TheVariants as cause
use Rattle.rams_model.specs.declared.Note.TheVariants as note
use Rattle.rams_model.specs.Service.{Settings, tick, began, told, noted, History, sequence, Burst, next, begun, in_tick, after_note, newest_changed, size_of, bursts, if_open, newest_open, is_before}
use Rattle.rams_model.specs.Laws.{NoneIs, is_accept_of, IsByStop}
use Rattle.service_laws.specs.book_laws.{Sending, sending, first_sendings, AreNumberedFrom}
use Rattle.rams_model.proofs.Legal.{IsLegal, Sends, Stops, Ends, EndsFor}
use Rattle.rams_model.proofs.Stopping.{stop_from_next}
use Rattle.rams_model.proofs.Running.{after_before}

-- the number of the newest StopAt of the client
unfoldable pub stop_since : ℕ → History → Option ℕ
stop_since k [] = None
stop_since k (noted (note.StopAt client n) packet ∷ history) = cond (eqb client k) (Some n) (stop_since k history)
stop_since k (_ ∷ history) = stop_since k history

-- the cause of the newest End of it
unfoldable pub end_since : ℕ → History → Option Cause
end_since k [] = None
end_since k (noted (note.End client why) packet ∷ history) = cond (eqb client k) (Some why) (end_since k history)
end_since k (_ ∷ history) = end_since k history

-- by cases of a test, which may stand at many places
pub by_test : (c : Bool) (P : Bool → Type 0) → (c ≡ true → P true) → (c ≡ false → P false) → P c
by_test true P t f = t refl
by_test false P t f = f refl

-- the newest of a client's bursts, as it is told since its Accept
pub record IsNewestOf (bs : List Burst) (first count : ℕ) (stop : Option ℕ) (ended : Option Cause) : Type 0 where
  pub burst : Burst
  pub others : List Burst
  pub is_newest : bs ≡ burst ∷ others
  pub first_is : burst.first ≡ first
  pub count_is : length burst.sent ≡ count
  pub stop_is : burst.stop ≡ stop
  pub ended_is : burst.ended ≡ ended

-- a change of the burst
changed : (change : Burst → Burst) (first count count' : ℕ) (stop stop' : Option ℕ) (ended ended' : Option Cause)
    → ((b : Burst) → (change b).first ≡ b.first) → ((b : Burst) → length b.sent ≡ count → length (change b).sent ≡ count')
    → ((b : Burst) → b.stop ≡ stop → (change b).stop ≡ stop') → ((b : Burst) → b.ended ≡ ended → (change b).ended ≡ ended')
    → (bs : List Burst) → IsNewestOf bs first count stop ended → IsNewestOf (newest_changed change bs) first count' stop' ended'
changed change first count count' stop stop' ended ended' f c t e bs is = record {
  burst = change is.burst;
  others = is.others;
  is_newest = ap (newest_changed change) is.is_newest;
  first_is = f is.burst ∙ is.first_is;
  count_is = c is.burst is.count_is;
  stop_is = t is.burst is.stop_is;
  ended_is = e is.burst is.ended_is;
}

-- one that leaves all that is told
other : (c : Bool) (change : Burst → Burst) (first count : ℕ) (stop : Option ℕ) (ended : Option Cause)
    → ((b : Burst) → (change b).first ≡ b.first) → ((b : Burst) → (change b).sent ≡ b.sent)
    → ((b : Burst) → (change b).stop ≡ b.stop) → ((b : Burst) → (change b).ended ≡ b.ended)
    → (bs : List Burst) → IsNewestOf bs first count stop ended → IsNewestOf (cond c (newest_changed change bs) bs) first count stop ended
other true change first count stop ended f c t e bs is =
    changed change first count count stop stop ended ended f (λ b h. ap (λ (ns : List ℕ). length ns) (c b) ∙ h) (λ b h. t b ∙ h) (λ b h. e b ∙ h) bs is
other false change first count stop ended f c t e bs is = is

-- A client's newest burst is what is told since its last Accept.
pub newest_since : (s : Settings) (k first rate join : ℕ) (packet : Option Held) (since before : History) → NoneIs (is_accept_of k) since
    → IsNewestOf (bursts s k (since ++ noted (note.Accept k first rate join) packet ∷ before)) first (length (first_sendings k since)) (stop_since k since) (end_since k since)
unfolding bursts first_sendings stop_since end_since
newest_since s k first rate join packet [] before none = record {
  burst = begun s first rate join (sequence s k before);
  others = bursts s k before;
  is_newest = cond-true (eqb k k) (begun s first rate join (sequence s k before) ∷ bursts s k before) (bursts s k before) (eq-eqb k k refl);
  first_is = refl;
  count_is = refl;
  stop_is = refl;
  ended_is = refl;
}
newest_since s k first rate join packet (began tick ∷ since) before none =
    other true (in_tick s) first (length (first_sendings k since)) (stop_since k since) (end_since k since) (λ b. refl) (λ b. refl) (λ b. refl) (λ b. refl)
    (bursts s k (since ++ noted (note.Accept k first rate join) packet ∷ before)) (newest_since s k first rate join packet since before none.1)
newest_since s k first rate join packet (began heard ∷ since) before none = newest_since s k first rate join packet since before none.1
newest_since s k first rate join packet (told client message ∷ since) before none = newest_since s k first rate join packet since before none.1
newest_since s k first rate join packet (noted (note.Accept client f r j) p ∷ since) before none =
    let rest = newest_since s k first rate join packet since before none.1 in
    let whole = since ++ noted (note.Accept k first rate join) packet ∷ before in
    by_test (eqb client k)
    (λ c. IsNewestOf (cond c (begun s f r j (sequence s k whole) ∷ bursts s k whole) (bursts s k whole)) first (length (first_sendings k since)) (stop_since k since) (end_since k since))
    (λ t. absurd (both_ways (eqb client k) none.0 t)) (λ g. rest)
newest_since s k first rate join packet (noted (note.Update client new j) p ∷ since) before none =
    other (eqb client k) (after_note s (note.Update client new j) (size_of p)) first (length (first_sendings k since)) (stop_since k since) (end_since k since)
    (λ b. refl) (λ b. refl) (λ b. refl) (λ b. refl)
    (bursts s k (since ++ noted (note.Accept k first rate join) packet ∷ before)) (newest_since s k first rate join packet since before none.1)
newest_since s k first rate join packet (noted (note.Repair client n q) p ∷ since) before none =
    other (eqb client k) (after_note s (note.Repair client n q) (size_of p)) first (length (first_sendings k since)) (stop_since k since) (end_since k since)
    (λ b. refl) (λ b. refl) (λ b. refl) (λ b. refl)
    (bursts s k (since ++ noted (note.Accept k first rate join) packet ∷ before)) (newest_since s k first rate join packet since before none.1)
newest_since s k first rate join packet (noted (note.Burst client n q) p ∷ since) before none =
    let rest = newest_since s k first rate join packet since before none.1 in
    let bs = bursts s k (since ++ noted (note.Accept k first rate join) packet ∷ before) in
    let sent = first_sendings k since in
    by_test (eqb client k)
    (λ c. IsNewestOf (cond c (newest_changed (after_note s (note.Burst client n q) (size_of p)) bs) bs) first (length (cond c (sent ++ sending n p ∷ []) sent))
    (stop_since k since) (end_since k since))
    (λ t. changed (after_note s (note.Burst client n q) (size_of p)) first (length sent) (length (sent ++ sending n p ∷ []))
    (stop_since k since) (stop_since k since) (end_since k since) (end_since k since)
    (λ b. refl) (λ b h. omega (arith, h, length_push sent (sending n p))) (λ b h. h) (λ b h. h) bs rest)
    (λ g. rest)
newest_since s k first rate join packet (noted (note.StopAt client n) p ∷ since) before none =
    let rest = newest_since s k first rate join packet since before none.1 in
    let bs = bursts s k (since ++ noted (note.Accept k first rate join) packet ∷ before) in
    by_test (eqb client k)
    (λ c. IsNewestOf (cond c (newest_changed (after_note s (note.StopAt client n) (size_of p)) bs) bs) first (length (first_sendings k since))
    (cond c (Some n) (stop_since k since)) (end_since k since))
    (λ t. changed (after_note s (note.StopAt client n) (size_of p)) first (length (first_sendings k since)) (length (first_sendings k since))
    (stop_since k since) (Some n) (end_since k since) (end_since k since) (λ b. refl) (λ b h. h) (λ b h. refl) (λ b h. h) bs rest)
    (λ g. rest)
newest_since s k first rate join packet (noted (note.End client why) p ∷ since) before none =
    let rest = newest_since s k first rate join packet since before none.1 in
    let bs = bursts s k (since ++ noted (note.Accept k first rate join) packet ∷ before) in
    by_test (eqb client k)
    (λ c. IsNewestOf (cond c (newest_changed (after_note s (note.End client why) (size_of p)) bs) bs) first (length (first_sendings k since))
    (stop_since k since) (cond c (Some why) (end_since k since)))
    (λ t. changed (after_note s (note.End client why) (size_of p)) first (length (first_sendings k since)) (length (first_sendings k since))
    (stop_since k since) (stop_since k since) (end_since k since) (Some why) (λ b. refl) (λ b h. h) (λ b h. h) (λ b h. refl) bs rest)
    (λ g. rest)
newest_since s k first rate join packet (noted n p ∷ since) before none = newest_since s k first rate join packet since before none.1

-- an open burst, as it is told since its Accept
pub record IsOpenOf (b : Burst) (first count : ℕ) (stop : Option ℕ) (ended : Option Cause) : Type 0 where
  pub first_is : b.first ≡ first
  pub count_is : length b.sent ≡ count
  pub stop_is : b.stop ≡ stop
  pub not_ended : ended ≡ None

pub open_of : (bs : List Burst) (b : Burst) (first count : ℕ) (stop : Option ℕ) (ended : Option Cause) → newest_open bs ≡ Some b → IsNewestOf bs first count stop ended
    → IsOpenOf b first count stop ended
open_of bs b first count stop ended e is = at is.burst.ended refl (ap newest_open (sym is.is_newest) ∙ e)
  where
    at : (o : Option Cause) → is.burst.ended ≡ o → if_open o is.burst ≡ Some b → IsOpenOf b first count stop ended
    at None none o =
        let this : is.burst ≡ b = cc in
        subst (λ (c : Burst). IsOpenOf c first count stop ended) this
        (record { first_is = is.first_is; count_is = is.count_is; stop_is = is.stop_is; not_ended = sym is.ended_is ∙ none })
    at (Some why) none o = absurd cc

-- what is true of what was sent, of the stop and of the end
pub record IsFair (first : ℕ) (sent : List Sending) (stop : Option ℕ) (ended : Option Cause) : Type 0 where
  pub numbered : AreNumberedFrom first sent
  pub below : IsByStop stop (first + length sent)
  pub whole : ended ≡ Some cause.Stopped → stop ≡ Some (first + length sent)

-- one more number at the end
range_push : (a n : ℕ) → range_with_len a (suc n) ≡ range_with_len a n ++ (a + n) ∷ []
range_push a zero = rw add-zero refl
range_push a (suc n) = ap (λ (xs : List ℕ). a ∷ xs) (range_push (a + 1) n ∙ ap (λ (k : ℕ). range_with_len (a + 1) n ++ k ∷ []) (omega arith))

numbered_push : (first n : ℕ) (packet : Option Held) (sent : List Sending) → AreNumberedFrom first sent → n ≡ first + length sent → AreNumberedFrom first (sent ++ sending n packet ∷ [])
numbered_push first n packet sent e is =
    let x = sending n packet in
    let long : suc (length sent) ≡ length (sent ++ x ∷ []) = omega (arith, length_push sent x) in
    map-append (λ (y : Sending). y.n) sent (x ∷ [])
    ∙ ap (λ (xs : List ℕ). xs ++ n ∷ []) e
    ∙ ap (λ (m : ℕ). range_with_len first (length sent) ++ m ∷ []) is
    ∙ sym (range_push first (length sent))
    ∙ ap (range_with_len first) long

fair_sent : (s : Settings) (k first n number : ℕ) (packet : Option Held) (history : History) (sent : List Sending) (stop : Option ℕ) (ended : Option Cause)
    → IsNewestOf (bursts s k history) first (length sent) stop ended → Sends s history k n number packet → IsFair first sent stop ended
    → IsFair first (sent ++ sending n packet ∷ []) stop ended
fair_sent s k first n number packet history sent stop ended newest a f =
    let o = open_of (bursts s k history) a.opened.burst first (length sent) stop ended a.opened.is_open newest in
    let is : n ≡ first + length sent = omega (arith, a.n_is, o.first_is, o.count_is) in
    let more : n + 1 ≡ first + length (sent ++ sending n packet ∷ []) = omega (arith, is, length_push sent (sending n packet)) in
    record {
      numbered = numbered_push first n packet sent f.numbered is;
      below = subst (IsByStop stop) more (after_before stop n (subst (λ (t : Option ℕ). is_before t n ≡ true) o.stop_is a.before));
      whole = λ e. absurd (not_both ended o.not_ended e);
    }
  where
    not_both : (ended : Option Cause) → ended ≡ None → ended ≡ Some cause.Stopped → ⊥
    not_both ended none e = let both : None ≡ Some cause.Stopped = sym none ∙ e in cc

fair_stop : (s : Settings) (k first n : ℕ) (history : History) (sent : List Sending) (stop : Option ℕ) (ended : Option Cause)
    → IsNewestOf (bursts s k history) first (length sent) stop ended → Stops s history k n → IsFair first sent stop ended → IsFair first sent (Some n) ended
fair_stop s k first n history sent stop ended newest a f =
    let b = a.opened.burst in
    let o = open_of (bursts s k history) b first (length sent) stop ended a.opened.is_open newest in
    record {
      numbered = f.numbered;
      below = omega (arith, a.n_is, o.first_is, o.count_is, stop_from_next b.first (next b) a.stop.first_multicast);
      whole = λ (e : ended ≡ Some cause.Stopped). let both : None ≡ Some cause.Stopped = sym o.not_ended ∙ e in absurd cc;
    }

fair_end : (s : Settings) (k first : ℕ) (why : Cause) (history : History) (sent : List Sending) (stop : Option ℕ) (ended : Option Cause)
    → IsNewestOf (bursts s k history) first (length sent) stop ended → Ends s history k why → IsFair first sent stop ended → IsFair first sent stop (Some why)
fair_end s k first why history sent stop ended newest a f = record { numbered = f.numbered; below = f.below; whole = λ e. whole why (some_same why cause.Stopped e) a.ends }
  where
    some_same : (x y : Cause) → Some x ≡ Some y → x ≡ y
    some_same x y e = cc

    whole : (c : Cause) → c ≡ cause.Stopped → EndsFor s history k a.opened.burst c → stop ≡ Some (first + length sent)
    whole c e for =
        let b = a.opened.burst in
        let o = open_of (bursts s k history) b first (length sent) stop ended a.opened.is_open newest in
        let at : b.stop ≡ Some (next b) = subst (EndsFor s history k b) e for in
        sym o.stop_is ∙ at ∙ ap (λ (m : ℕ). Some m) (omega (arith, o.first_is, o.count_is))

-- So each burst is, at every moment.
pub fair_since : (s : Settings) (k first rate join : ℕ) (packet : Option Held) (since before : History) → NoneIs (is_accept_of k) since
    → IsLegal s (since ++ noted (note.Accept k first rate join) packet ∷ before) → IsFair first (first_sendings k since) (stop_since k since) (end_since k since)
unfolding first_sendings stop_since end_since
fair_since s k first rate join packet [] before none l = record { numbered = refl; below = tt; whole = λ e. absurd cc }
fair_since s k first rate join packet (began heard ∷ since) before none l = fair_since s k first rate join packet since before none.1 l
fair_since s k first rate join packet (told client message ∷ since) before none l = fair_since s k first rate join packet since before none.1 l
fair_since s k first rate join packet (noted (note.Burst client n q) p ∷ since) before none l =
    let whole = since ++ noted (note.Accept k first rate join) packet ∷ before in
    let rest = fair_since s k first rate join packet since before none.1 l.1 in
    let sent = first_sendings k since in
    by_test (eqb client k) (λ c. IsFair first (cond c (sent ++ sending n p ∷ []) sent) (stop_since k since) (end_since k since))
    (λ t. fair_sent s k first n q p whole sent (stop_since k since) (end_since k since) (newest_since s k first rate join packet since before none.1)
    (subst (λ (j : ℕ). Sends s whole j n q p) (eqb-true client k t) l.0) rest)
    (λ g. rest)
fair_since s k first rate join packet (noted (note.StopAt client n) p ∷ since) before none l =
    let whole = since ++ noted (note.Accept k first rate join) packet ∷ before in
    let rest = fair_since s k first rate join packet since before none.1 l.1 in
    by_test (eqb client k) (λ c. IsFair first (first_sendings k since) (cond c (Some n) (stop_since k since)) (end_since k since))
    (λ t. fair_stop s k first n whole (first_sendings k since) (stop_since k since) (end_since k since) (newest_since s k first rate join packet since before none.1)
    (subst (λ (j : ℕ). Stops s whole j n) (eqb-true client k t) l.0) rest)
    (λ g. rest)
fair_since s k first rate join packet (noted (note.End client why) p ∷ since) before none l =
    let whole = since ++ noted (note.Accept k first rate join) packet ∷ before in
    let rest = fair_since s k first rate join packet since before none.1 l.1 in
    by_test (eqb client k) (λ c. IsFair first (first_sendings k since) (stop_since k since) (cond c (Some why) (end_since k since)))
    (λ t. fair_end s k first why whole (first_sendings k since) (stop_since k since) (end_since k since) (newest_since s k first rate join packet since before none.1)
    (subst (λ (j : ℕ). Ends s whole j why) (eqb-true client k t) l.0) rest)
    (λ g. rest)
fair_since s k first rate join packet (noted n p ∷ since) before none l = fair_since s k first rate join packet since before none.1 l.1
