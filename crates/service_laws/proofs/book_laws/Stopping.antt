-- Stops and ends of bursts, as they stand in the history.
use Rattle.std.proofs.Common.{◌≡◌, ℕ, suc, ◌+◌, ◌-◌, ◌<◌, ◌≤◌, ◌≢◌, Bool, true, false, cond, not, ◌&&◌, ◌||◌, ◌⊎◌, inl, inr, ⊎_elim, List, [], ◌∷◌, ◌++◌, length, Option, Some, None, refl, ap, ap₂, sym, ◌∙◌, subst, arith, append_assoc, eqb}
use Rattle.std.specs.Prelude.{is_some, Ok, All}
use Rattle.std.specs.List.{range_with_len}
use Rattle.std.proofs.lemmas.Bool.{both_ways, cond-true, cond-false, or_from, and_right, cond_both, eqb-true, eq-eqb, true≢false}
use Rattle.std.proofs.lemmas.List.Elements.{All-nil, All-cons, All-weaker}
use Rattle.rams_model.specs.declared.{Held.Held, Cause.Cause, Note.Note}
use Rattle.rams_model.specs.declared.Cause.TheVariants as cause
use Rattle.rams_model.specs.declared.Note.TheVariants as note
use Rattle.rams_model.specs.Service.{Settings, stop_of, stops, Item, began, told, noted, History, Burst, next, bursts, if_open, newest_open, open_burst, has_open}
use Rattle.rams_model.specs.Packets.{least_from}
use Rattle.rams_model.specs.Laws.{NoneIs, is_accept_of, is_end_of, IsByStop}
use Rattle.rams_model.proofs.Since.{stands, stands_from, stands_to, none_older}
use Rattle.rams_model.proofs.LastAccept.{open_stands, open_step}
use Rattle.rams_model.proofs.Stopping.{least_named}
use Rattle.service_laws.specs.book_laws.{LastAccept, Sending, sending, first_sendings, AreNumberedFrom}
use Rattle.service_laws.specs.book_laws.Stops.{Stands, next_number, EndsAtItsStop, HasEnded, IsStopFor, is_any_stop, StopsAsNamed}
use Rattle.rams_model.proofs.Legal.{IsLegal, legal_part, Sends, Stops, Ends}
use Rattle.service_laws.proofs.book_laws.Answering.{is_answered}
use Rattle.service_laws.proofs.book_laws.SinceAccept.{stop_since, end_since, by_test, IsNewestOf, newest_since, IsOpenOf, open_of, IsFair}

-- a note that stands in a history is its newest item, or stands before that
stands_cases : (i : Item) (history : History) (n : Note) (packet : Option Held) (later before : History) → i ∷ history ≡ later ++ noted n packet ∷ before
    → (i ≡ noted n packet) ⊎ Stands history n
stands_cases i history n packet [] before e = inl (cc)
stands_cases i history n packet (j ∷ later) before e = let rest : history ≡ later ++ noted n packet ∷ before = cc in
    inr (record { packet = packet; later = later; before = before; splits = rest })

pub newest_or_before : (i : Item) (history : History) (n : Note) (w : Stands (i ∷ history) n) → (i ≡ noted n w.packet) ⊎ Stands history n
newest_or_before i history n w = stands_cases i history n w.packet w.later w.before w.splits

pub stands_before : (i : Item) (history : History) (n : Note) → Stands history n → Stands (i ∷ history) n
stands_before i history n w = record { packet = w.packet; later = i ∷ w.later; before = w.before; splits = ap (λ (h : History). i ∷ h) w.splits }

stands_newest : (history : History) (m n : Note) (packet : Option Held) → m ≡ n → Stands (noted m packet ∷ history) n
stands_newest history m n packet e = record { packet = packet; later = []; before = history; splits = ap (λ (x : Note). noted x packet ∷ history) e }

-- the newest stop and the newest end stand in the history
pub stop_stands : (k n : ℕ) (since : History) → stop_since k since ≡ Some n → Stands since (note.StopAt k n)
unfolding stop_since
stop_stands k n [] e = absurd cc
stop_stands k n (began heard ∷ since) e = stands_before (began heard) since (note.StopAt k n) (stop_stands k n since e)
stop_stands k n (told client message ∷ since) e = stands_before (told client message) since (note.StopAt k n) (stop_stands k n since e)
stop_stands k n (noted (note.StopAt client m) p ∷ since) e =
    cond_both (eqb client k) (Some m) (stop_since k since) (λ o. o ≡ Some n → Stands (noted (note.StopAt client m) p ∷ since) (note.StopAt k n))
    (λ t q. let this : client ≡ k = eqb-true client k t in let same : m ≡ n = cc in stands_newest since (note.StopAt client m) (note.StopAt k n) p cc)
    (λ f q. stands_before (noted (note.StopAt client m) p) since (note.StopAt k n) (stop_stands k n since q)) e
stop_stands k n (noted m p ∷ since) e = stands_before (noted m p) since (note.StopAt k n) (stop_stands k n since e)

pub end_stands : (k : ℕ) (why : Cause) (since : History) → end_since k since ≡ Some why → Stands since (note.End k why)
unfolding end_since
end_stands k why [] e = absurd cc
end_stands k why (began heard ∷ since) e = stands_before (began heard) since (note.End k why) (end_stands k why since e)
end_stands k why (told client message ∷ since) e = stands_before (told client message) since (note.End k why) (end_stands k why since e)
end_stands k why (noted (note.End client c) p ∷ since) e =
    cond_both (eqb client k) (Some c) (end_since k since) (λ o. o ≡ Some why → Stands (noted (note.End client c) p ∷ since) (note.End k why))
    (λ t q. let this : client ≡ k = eqb-true client k t in let same : c ≡ why = cc in stands_newest since (note.End client c) (note.End k why) p cc)
    (λ f q. stands_before (noted (note.End client c) p) since (note.End k why) (end_stands k why since q)) e
end_stands k why (noted m p ∷ since) e = stands_before (noted m p) since (note.End k why) (end_stands k why since e)

-- where there is none, none stands
pub none_stops : (k : ℕ) (since : History) → stop_since k since ≡ None → NoneIs (is_any_stop k) since
unfolding stop_since
none_stops k [] e = tt
none_stops k (began heard ∷ since) e = (refl, none_stops k since e)
none_stops k (told client message ∷ since) e = (refl, none_stops k since e)
none_stops k (noted (note.StopAt client m) p ∷ since) e =
    cond_both (eqb client k) (Some m) (stop_since k since) (λ o. o ≡ None → NoneIs (is_any_stop k) (noted (note.StopAt client m) p ∷ since)) (λ t q. absurd cc)
    (λ f q. (f, none_stops k since q)) e
none_stops k (noted m p ∷ since) e = (refl, none_stops k since e)

pub none_ends : (k : ℕ) (since : History) → end_since k since ≡ None → NoneIs (is_end_of k) since
unfolding end_since
none_ends k [] e = tt
none_ends k (began heard ∷ since) e = (refl, none_ends k since e)
none_ends k (told client message ∷ since) e = (refl, none_ends k since e)
none_ends k (noted (note.End client c) p ∷ since) e =
    cond_both (eqb client k) (Some c) (end_since k since) (λ o. o ≡ None → NoneIs (is_end_of k) (noted (note.End client c) p ∷ since)) (λ t q. absurd cc)
    (λ f q. (f, none_ends k since q)) e
none_ends k (noted m p ∷ since) e = (refl, none_ends k since e)

-- a stop that stands is the one that the burst has: it was set once
stop_kept : (s : Settings) (k first count n m : ℕ) (stop : Option ℕ) (ended : Option Cause) (history : History) → IsNewestOf (bursts s k history) first count stop ended
    → Stops s history k m → stop ≡ Some n → ⊥
stop_kept s k first count n m stop ended history newest a e =
    let o = open_of (bursts s k history) a.opened.burst first count stop ended a.opened.is_open newest in
    let both : None ≡ Some n = sym a.unset ∙ o.stop_is ∙ e in
    cc

pub stop_is_one : (s : Settings) (k first rate join n : ℕ) (packet : Option Held) (since before : History) → NoneIs (is_accept_of k) since
    → IsLegal s (since ++ noted (note.Accept k first rate join) packet ∷ before) → Stands since (note.StopAt k n) → stop_since k since ≡ Some n
unfolding stop_since
stop_is_one s k first rate join n packet [] before none l w = absurd (nowhere w.later w.splits)
  where
    nowhere : (later : History) → [] ≡ later ++ noted (note.StopAt k n) w.packet ∷ w.before → ⊥
    nowhere [] e = cc
    nowhere (i ∷ later) e = cc
stop_is_one s k first rate join n packet (began heard ∷ since) before none l w =
    ⊎_elim (λ e. absurd cc) (λ v. stop_is_one s k first rate join n packet since before none.1 l v) (newest_or_before (began heard) since (note.StopAt k n) w)
stop_is_one s k first rate join n packet (told client message ∷ since) before none l w =
    ⊎_elim (λ e. absurd cc) (λ v. stop_is_one s k first rate join n packet since before none.1 l v) (newest_or_before (told client message) since (note.StopAt k n) w)
stop_is_one s k first rate join n packet (noted (note.StopAt client m) p ∷ since) before none l w =
    let whole = since ++ noted (note.Accept k first rate join) packet ∷ before in
    let rest : Stands since (note.StopAt k n) → stop_since k since ≡ Some n = λ v. stop_is_one s k first rate join n packet since before none.1 l.1 v in
    let newest = newest_since s k first rate join packet since before none.1 in
    ⊎_elim
    (λ e. let this : client ≡ k = cc in let same : m ≡ n = cc in
    by_test (eqb client k) (λ c. c ≡ true → cond c (Some m) (stop_since k since) ≡ Some n) (λ t q. ap (λ (x : ℕ). Some x) same) (λ f q. absurd (true≢false (sym q))) (eq-eqb client k this))
    (λ v. by_test (eqb client k) (λ c. cond c (Some m) (stop_since k since) ≡ Some n)
    (λ t. absurd (stop_kept s k first (length (first_sendings k since)) n m (stop_since k since) (end_since k since) whole newest
    (subst (λ (j : ℕ). Stops s whole j m) (eqb-true client k t) l.0) (rest v)))
    (λ f. rest v))
    (newest_or_before (noted (note.StopAt client m) p) since (note.StopAt k n) w)
stop_is_one s k first rate join n packet (noted m p ∷ since) before none l w =
    ⊎_elim (λ e. absurd cc) (λ v. stop_is_one s k first rate join n packet since before none.1 l.1 v) (newest_or_before (noted m p) since (note.StopAt k n) w)

-- whether a client has an open burst, item by item
-- nothing is open where none was and none is accepted
stays_closed : (s : Settings) (k : ℕ) (i : Item) (history : History) → is_accept_of k i ≡ false → has_open s k history ≡ false → has_open s k (i ∷ history) ≡ false
stays_closed s k i history none closed =
    open_step s k i history ∙ or_from (is_accept_of k i) (not (is_end_of k i) && has_open s k history) none (and_right (not (is_end_of k i)) (has_open s k history) closed)

closed_not_open : (s : Settings) (k : ℕ) (history : History) (b : Burst) → has_open s k history ≡ false → open_burst s k history ≡ Some b → ⊥
closed_not_open s k history b closed e = both_ways (has_open s k history) closed (ap (λ (o : Option Burst). is_some o) e)

-- what follows while nothing is open: no packet of a burst, and no End
pub record IsClosed (s : Settings) (k : ℕ) (later history : History) : Type 0 where
  pub closed : has_open s k (later ++ history) ≡ false
  pub none_sent : first_sendings k later ≡ []
  pub none_ends : NoneIs (is_end_of k) later

pub closed_later : (s : Settings) (k : ℕ) (later history : History) → has_open s k history ≡ false → NoneIs (is_accept_of k) later → IsLegal s (later ++ history)
    → IsClosed s k later history
unfolding first_sendings
closed_later s k [] history closed none l = record { closed = closed; none_sent = refl; none_ends = tt }
closed_later s k (began heard ∷ later) history closed none l =
    let rest = closed_later s k later history closed none.1 l in
    record { closed = stays_closed s k (began heard) (later ++ history) none.0 rest.closed; none_sent = rest.none_sent; none_ends = (refl, rest.none_ends) }
closed_later s k (told client message ∷ later) history closed none l =
    let rest = closed_later s k later history closed none.1 l in
    record { closed = stays_closed s k (told client message) (later ++ history) none.0 rest.closed; none_sent = rest.none_sent; none_ends = (refl, rest.none_ends) }
closed_later s k (noted (note.Burst client n q) p ∷ later) history closed none l =
    let rest = closed_later s k later history closed none.1 l.1 in
    let a : Sends s (later ++ history) client n q p = l.0 in
    let other : eqb client k ≡ false = by_test (eqb client k) (λ c. eqb client k ≡ c → c ≡ false)
    (λ t e. absurd (closed_not_open s k (later ++ history) a.opened.burst rest.closed
    (subst (λ (j : ℕ). open_burst s j (later ++ history) ≡ Some a.opened.burst) (eqb-true client k t) a.opened.is_open)))
    (λ f e. refl) refl in
    record {
      closed = stays_closed s k (noted (note.Burst client n q) p) (later ++ history) none.0 rest.closed;
      none_sent = cond-false (eqb client k) (first_sendings k later ++ sending n p ∷ []) (first_sendings k later) other ∙ rest.none_sent;
      none_ends = (refl, rest.none_ends);
    }
closed_later s k (noted (note.End client why) p ∷ later) history closed none l =
    let rest = closed_later s k later history closed none.1 l.1 in
    let a : Ends s (later ++ history) client why = l.0 in
    let other : eqb client k ≡ false = by_test (eqb client k) (λ c. eqb client k ≡ c → c ≡ false)
    (λ t e. absurd (closed_not_open s k (later ++ history) a.opened.burst rest.closed
    (subst (λ (j : ℕ). open_burst s j (later ++ history) ≡ Some a.opened.burst) (eqb-true client k t) a.opened.is_open)))
    (λ f e. refl) refl in
    record {
      closed = stays_closed s k (noted (note.End client why) p) (later ++ history) none.0 rest.closed;
      none_sent = rest.none_sent;
      none_ends = (other, rest.none_ends);
    }
closed_later s k (noted n p ∷ later) history closed none l =
    let rest = closed_later s k later history closed none.1 l.1 in
    record { closed = stays_closed s k (noted n p) (later ++ history) none.0 rest.closed; none_sent = rest.none_sent; none_ends = (refl, rest.none_ends) }

-- an End of the client ends its burst
ended_closed : (s : Settings) (k : ℕ) (why : Cause) (packet : Option Held) (history : History) → has_open s k (noted (note.End k why) packet ∷ history) ≡ false
ended_closed s k why packet history =
    open_step s k (noted (note.End k why) packet) history ∙ ap (λ (b : Bool). not b && has_open s k history) (eq-eqb k k refl)

-- none of a kind stands in the parts of a list where none stands in the whole
pub none_in_front : (kind : Item → Bool) (later history : History) → NoneIs kind (later ++ history) → NoneIs kind later
none_in_front kind [] history none = tt
none_in_front kind (i ∷ later) history none = (none.0, none_in_front kind later history none.1)

-- A burst ends once, and nothing of it is sent after that.
pub over : (s : Settings) (k first rate join : ℕ) (packet : Option Held) (since before : History) → NoneIs (is_accept_of k) since
    → IsLegal s (since ++ noted (note.Accept k first rate join) packet ∷ before) → (why : Cause) (end : Stands since (note.End k why))
    → (first_sendings k end.later ≡ []) × NoneIs (is_end_of k) end.later × NoneIs (is_end_of k) end.before
over s k first rate join packet since before none l why end =
    let accept = noted (note.Accept k first rate join) packet in
    let rest = noted (note.End k why) end.packet ∷ end.before in
    let parts : since ++ accept ∷ before ≡ end.later ++ (rest ++ accept ∷ before) =
    ap (λ (h : History). h ++ accept ∷ before) end.splits ∙ append_assoc end.later rest (accept ∷ before) in
    let legal : IsLegal s (end.later ++ (rest ++ accept ∷ before)) = subst (IsLegal s) parts l in
    let quiet : NoneIs (is_accept_of k) (end.later ++ rest) = subst (NoneIs (is_accept_of k)) end.splits none in
    let closed = closed_later s k end.later (rest ++ accept ∷ before) (ended_closed s k why end.packet (end.before ++ accept ∷ before))
    (none_in_front (is_accept_of k) end.later rest quiet) legal in
    let own : IsLegal s (rest ++ accept ∷ before) = legal_part s end.later (rest ++ accept ∷ before) legal in
    let a : Ends s (end.before ++ accept ∷ before) k why = own.0 in
    let newest = newest_since s k first rate join packet end.before before (none_older (is_accept_of k) end.later rest quiet).1 in
    let o = open_of (bursts s k (end.before ++ accept ∷ before)) a.opened.burst first (length (first_sendings k end.before)) (stop_since k end.before) (end_since k end.before)
    a.opened.is_open newest in
    (closed.none_sent, closed.none_ends, none_ends k end.before o.not_ended)

-- an End that stands is the only one, and the burst isn't open
pub end_is_one : (k : ℕ) (why : Cause) (since : History) → Stands since (note.End k why) → end_since k since ≢ None
unfolding end_since
end_is_one k why [] w e = nowhere w.later w.splits
  where
    nowhere : (later : History) → [] ≡ later ++ noted (note.End k why) w.packet ∷ w.before → ⊥
    nowhere [] e = cc
    nowhere (i ∷ later) e = cc
end_is_one k why (began heard ∷ since) w e = ⊎_elim (λ q. absurd cc) (λ v. end_is_one k why since v e) (newest_or_before (began heard) since (note.End k why) w)
end_is_one k why (told client message ∷ since) w e = ⊎_elim (λ q. absurd cc) (λ v. end_is_one k why since v e) (newest_or_before (told client message) since (note.End k why) w)
end_is_one k why (noted (note.End client c) p ∷ since) w e =
    by_test (eqb client k) (λ b. eqb client k ≡ b → cond b (Some c) (end_since k since) ≡ None → ⊥) (λ t q g. cc)
    (λ f q g. ⊎_elim (λ h. let this : client ≡ k = cc in both_ways (eqb client k) q (eq-eqb client k this)) (λ v. end_is_one k why since v g)
    (newest_or_before (noted (note.End client c) p) since (note.End k why) w)) refl e
end_is_one k why (noted n p ∷ since) w e = ⊎_elim (λ q. absurd cc) (λ v. end_is_one k why since v e) (newest_or_before (noted n p) since (note.End k why) w)

-- Each burst has ended or is open.
pub ended_or_open : (s : Settings) (k first rate join : ℕ) (packet : Option Held) (since before : History) → NoneIs (is_accept_of k) since
    → let whole = since ++ noted (note.Accept k first rate join) packet ∷ before in
    (HasEnded k since ⊎ (has_open s k whole ≡ true)) × (HasEnded k since → has_open s k whole ≡ true → ⊥)
ended_or_open s k first rate join packet since before none = (at (end_since k since) refl, λ e o. not_both e (has_burst (open_burst s k whole) refl o))
  where
    whole : History
    whole = since ++ noted (note.Accept k first rate join) packet ∷ before

    newest : IsNewestOf (bursts s k whole) first (length (first_sendings k since)) (stop_since k since) (end_since k since)
    newest = newest_since s k first rate join packet since before none

    at : (o : Option Cause) → end_since k since ≡ o → HasEnded k since ⊎ (has_open s k whole ≡ true)
    at None e =
        let open_one : newest_open (bursts s k whole) ≡ Some newest.burst =
        ap newest_open newest.is_newest ∙ ap (λ (c : Option Cause). if_open c newest.burst) (newest.ended_is ∙ e) in
        inr (ap (λ (b : Option Burst). is_some b) open_one)
    at (Some why) e = inl (record { cause = why; end = end_stands k why since e })

    has_burst : (o : Option Burst) → open_burst s k whole ≡ o → is_some o ≡ true → (b : Burst) × (open_burst s k whole ≡ Some b)
    has_burst None e t = absurd (true≢false (sym t))
    has_burst (Some b) e t = (b, e)

    not_both : HasEnded k since → (b : Burst) × (open_burst s k whole ≡ Some b) → ⊥
    not_both e b =
        end_is_one k e.cause since e.end
        (open_of (bursts s k whole) b.0 first (length (first_sendings k since)) (stop_since k since) (end_since k since) b.1 newest).not_ended

-- numbers in order are below their end
numbered_below : (first : ℕ) (sent : List Sending) → AreNumberedFrom first sent → All (λ x. x.n < first + length sent) sent
numbered_below first [] e = All-nil (λ (x : Sending). x.n < first + 0)
numbered_below first (x ∷ xs) e =
    let here : x.n ≡ first = cc in
    let rest : AreNumberedFrom (first + 1) xs = cc in
    All-cons (λ (y : Sending). y.n < first + suc (length xs)) x xs (omega (arith, here))
    (All-weaker (λ (y : Sending). y.n < first + 1 + length xs) (λ (y : Sending). y.n < first + suc (length xs)) (λ y lt. omega (arith, lt)) xs (numbered_below (first + 1) xs rest))

pub respected : (first stop : ℕ) (sent : List Sending) (o : Option ℕ) (ended : Option Cause) → IsFair first sent o ended → o ≡ Some stop → All (λ x. x.n < stop) sent
respected first stop sent o ended f e =
    let le : first + length sent ≤ stop = subst (λ (p : Option ℕ). IsByStop p (first + length sent)) e f.below in
    All-weaker (λ (x : Sending). x.n < first + length sent) (λ (x : Sending). x.n < stop) (λ x lt. omega (arith, lt, le)) sent (numbered_below first sent f.numbered)

-- where a burst ended Stopped, all up to the stop was sent
pub whole_sent : (k first : ℕ) (since : History) → IsFair first (first_sendings k since) (stop_since k since) (end_since k since) → end_since k since ≡ Some cause.Stopped
    → EndsAtItsStop k first since
whole_sent k first since f e =
    let sent = first_sendings k since in
    let end = first + length sent in
    let many : length sent ≡ end - first = omega arith in
    record {
      stop = end;
      was_set = stop_stands k end since (f.whole e);
      sent = (omega arith, f.numbered ∙ ap (range_with_len first) many);
    }

-- the newest End is the one after which none stands
last_end : (k : ℕ) (why : Cause) (packet : Option Held) (later before : History) → NoneIs (is_end_of k) later
    → end_since k (later ++ noted (note.End k why) packet ∷ before) ≡ Some why
unfolding end_since
last_end k why packet [] before none = cond-true (eqb k k) (Some why) (end_since k before) (eq-eqb k k refl)
last_end k why packet (began heard ∷ later) before none = last_end k why packet later before none.1
last_end k why packet (told client message ∷ later) before none = last_end k why packet later before none.1
last_end k why packet (noted (note.End client c) p ∷ later) before none =
    cond-false (eqb client k) (Some c) (end_since k (later ++ noted (note.End k why) packet ∷ before)) none.0 ∙ last_end k why packet later before none.1
last_end k why packet (noted n p ∷ later) before none = last_end k why packet later before none.1

pub end_is : (s : Settings) (k first rate join : ℕ) (packet : Option Held) (since before : History) → NoneIs (is_accept_of k) since
    → IsLegal s (since ++ noted (note.Accept k first rate join) packet ∷ before) → (why : Cause) → Stands since (note.End k why) → end_since k since ≡ Some why
end_is s k first rate join packet since before none l why end =
    ap (end_since k) end.splits ∙ last_end k why end.packet end.later end.before (over s k first rate join packet since before none l why end).1

-- the last Accept, where there is one
earlier_accept : (k : ℕ) (i : Item) (history : History) → is_accept_of k i ≡ false → LastAccept history k → LastAccept (i ∷ history) k
earlier_accept k i history none a = record {
  first = a.first;
  rate = a.rate;
  join = a.join;
  packet = a.packet;
  since = i ∷ a.since;
  before = a.before;
  splits = ap (λ (h : History). i ∷ h) a.splits;
  last = (none, a.last);
}

pub last_accept_of : (k : ℕ) (history : History) → stands (is_accept_of k) (λ i. false) history ≡ true → LastAccept history k
unfolding stands
last_accept_of k [] e = absurd (true≢false (sym e))
last_accept_of k (noted (note.Accept client first rate join) p ∷ history) e =
    by_test (eqb client k) (λ c. eqb client k ≡ c → (c || stands (is_accept_of k) (λ i. false) history) ≡ true → LastAccept (noted (note.Accept client first rate join) p ∷ history) k)
    (λ t q g. record {
      first = first;
      rate = rate;
      join = join;
      packet = p;
      since = [];
      before = history;
      splits = ap (λ (j : ℕ). noted (note.Accept j first rate join) p ∷ history) (eqb-true client k q);
      last = tt;
    })
    (λ f q g. earlier_accept k (noted (note.Accept client first rate join) p) history q (last_accept_of k history g)) refl e
last_accept_of k (i ∷ history) e = earlier_accept k i history refl (last_accept_of k history e)

-- what a RAMS-T means is what its StopAt says
pub stop_for : (first next : ℕ) (named : Option ℕ) → IsStopFor first next named (stop_of first next named)
stop_for first next None = refl
stop_for first next (Some named) = (least_from first named, least_named first named, refl)

none_false : (history : History) → NoneIs (λ i. false) history
none_false [] = tt
none_false (i ∷ history) = (refl, none_false history)

-- the last Accept of an open burst
pub accept_of_open : (s : Settings) (k : ℕ) (history : History) (b : Burst) → open_burst s k history ≡ Some b → LastAccept history k
accept_of_open s k history b e =
    let w = stands_from (is_accept_of k) (is_end_of k) history (sym (open_stands s k history) ∙ ap (λ (o : Option Burst). is_some o) e) in
    last_accept_of k history
    (stands_to (is_accept_of k) (λ i. false) history
    (record { later = w.later; item = w.item; before = w.before; splits = w.splits; made = w.made; stays = none_false w.later }))

-- the open burst, as it is told since its Accept
abbrev pub IsOpenSince : Burst → ℕ → ℕ → History → Type 0
IsOpenSince b k first since = IsOpenOf b first (length (first_sendings k since)) (stop_since k since) (end_since k since)

pub open_since : (s : Settings) (k : ℕ) (history : History) (b : Burst) (a : LastAccept history k) → open_burst s k history ≡ Some b → IsOpenSince b k a.first a.since
open_since s k history b a e =
    let whole = a.since ++ noted (note.Accept k a.first a.rate a.join) a.packet ∷ a.before in
    open_of (bursts s k whole) b a.first (length (first_sendings k a.since)) (stop_since k a.since) (end_since k a.since)
    (subst (λ (h : History). open_burst s k h ≡ Some b) a.splits e)
    (newest_since s k a.first a.rate a.join a.packet a.since a.before a.last)

pub stops_as_named : (s : Settings) (k stop : ℕ) (history : History) → Stops s history k stop → StopsAsNamed s history k stop
stops_as_named s k stop history a =
    let b = a.opened.burst in
    let accept = accept_of_open s k history b a.opened.is_open in
    let o = open_since s k history b accept a.opened.is_open in
    let same : stop_of accept.first (next_number k accept.first accept.since) a.stop.first_multicast ≡ stop =
    ap₂ (λ (f : ℕ) (n : ℕ). stop_of f n a.stop.first_multicast) (sym o.first_is) (omega (arith, o.first_is, o.count_is)) ∙ sym a.n_is in
    record {
      message = a.stop;
      asked = is_answered history k (stops (Ok a.stop)) a.is_answer;
      accept = accept;
      open_still = none_ends k accept.since o.not_ended;
      unset = none_stops k accept.since (sym o.stop_is ∙ a.unset);
      named = subst (IsStopFor accept.first (next_number k accept.first accept.since) a.stop.first_multicast) same
          (stop_for accept.first (next_number k accept.first accept.since) a.stop.first_multicast);
    }
