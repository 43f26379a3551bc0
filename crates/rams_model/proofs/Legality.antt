-- Each note of a channel's history was allowed by what stands in front of it.
use Rattle.std.proofs.Common.{◌≡◌, ℕ, ◌+◌, ◌-◌, ◌≤◌, Bool, true, false, cond, not, ◌&&◌, inl, inr, ⊎_elim, List, [], ◌∷◌, ◌++◌, length, Option, Some, None, refl, ap, ap₂, sym, ◌∙◌, subst, arith, eqb, leb, ltb}
use Rattle.std.specs.Prelude.{◌==◌, filter, find, is_some, Result, Ok, Err, Contains}
use Rattle.std.specs.List.{list_any, AllByRecursion as Each}
use Rattle.std.proofs.lemmas.Bool.{cond_both, and_parts, and_from, or_parts, or_from, or_left, or_right, or_cases, not-true, not-false, not_from_false, eqb-true, eq-eqb, leb-true, true≢false}
use Rattle.std.proofs.lemmas.List.Elements.{All-contains_itself, recursion_from_All, Contains-append_right}
use Rattle.rams_model.specs.declared.{event.Event.Event, fault.TlvFault.TlvFault, held.Held.Held, message.Stop.Stop, note.Note.Note}
use Rattle.rams_model.specs.declared.note.Cause.TheVariants as cause
use Rattle.rams_model.specs.declared.note.Note.TheVariants as note
use Rattle.rams_model.specs.Service.{Settings, stop_of, Message, bye, nack, asks, stops, Heard, live, dropped, feedback, unframed, tick, heard_of, began, told, noted, History, arrivals, hold, known, opened, is_among, placed, with_client, sequence, ssrc, Burst, next, after_note, bursts, open_burst, has_open, Wanted, wanted, is_wanted, pending, is_pending, pending_of, idle, channel_left, may_take, reserved, asked_rate, is_slow, is_too_much, is_full, begins, changes, on_burst, on_request, verdict, is_before, is_early, Room, room, held_answer, number_answer, after_numbers, after_nack, stop_set, on_stop, stop_burst, after_stop, is_bye_of, after_bye, after_message, after_messages, run, send, is_lost, is_stop, after_run, run_sent, burst_served, all_served, repaired, all_repaired, all_forgotten, bursts_served, repairs_sent, after_tick, after_hearing, history_of}
use Rattle.rams_model.specs.Formats.{Request, names, Framed}
use Rattle.rams_model.specs.Packets.{from_number}
use Rattle.rams_model.specs.Laws.{makes_known, ends_known, is_queued, ends_pending}
use Rattle.rams_model.proofs.Since.{stands, known_stands, pending_stands}
use Rattle.rams_model.proofs.OpenBurst.{open_sent, open_stopped}
use Rattle.rams_model.proofs.Legal.{Answers, in_tick, in_runs, is_of_runs, IsVerdict, IsNumberAnswer, Allows, IsLegal}
use Rattle.rams_model.proofs.ListFacts.{each_weaker, apart}

-- a note that answers a request of the client
abbrev IsOfRequest : ℕ → Note → Type 0
IsOfRequest k (note.Accept client first rate join) = client ≡ k
IsOfRequest k (note.Update client rate join) = client ≡ k
IsOfRequest k (note.Again client) = client ≡ k
IsOfRequest k (note.Refuse client code) = client ≡ k
IsOfRequest k _ = ⊥

begins_is : (s : Settings) (held : List Held) (k rate : ℕ) (history : History) (o : Result Held ℕ) → IsOfRequest k (begins s held k rate history o)
begins_is s held k rate history (Err code) = refl
begins_is s held k rate history (Ok h) =
    cond_both (is_slow s rate) _ _ (IsOfRequest k) (λ t. refl)
    (λ f. cond_both (is_too_much s (reserved s history + rate + s.channel.depth)) _ _ (IsOfRequest k) (λ t. refl) (λ g. refl))

changes_is : (s : Settings) (held : List Held) (k rate : ℕ) (history : History) (b : Burst) → IsOfRequest k (changes s held k rate history b)
changes_is s held k rate history b =
    cond_both (is_slow s rate) _ _ (IsOfRequest k) (λ t. refl)
    (λ f. cond_both (is_too_much s (reserved s history - b.rate + rate)) _ _ (IsOfRequest k) (λ t. refl) (λ g. refl))

on_burst_is : (s : Settings) (held : List Held) (k rate : ℕ) (history : History) (b : Burst) (bps : Option ℕ) → IsOfRequest k (on_burst s held k rate history b bps)
on_burst_is s held k rate history b None = refl
on_burst_is s held k rate history b (Some bps) = cond_both (eqb rate b.rate) _ _ (IsOfRequest k) (λ t. refl) (λ f. changes_is s held k rate history b)

on_request_is : (s : Settings) (held : List Held) (k : ℕ) (r : Request) (history : History) (o : Option Burst) → IsOfRequest k (on_request s held k r history o)
on_request_is s held k r history (Some b) = on_burst_is s held k (asked_rate s r) history b r.bps
on_request_is s held k r history None = cond_both (is_full s k history) _ _ (IsOfRequest k) (λ t. refl) (λ f. begins_is s held k (asked_rate s r) history _)

verdict_is : (s : Settings) (k : ℕ) (history : History) (request : Result Request TlvFault) → IsOfRequest k (verdict s k history request)
unfolding verdict
verdict_is s k history (Err fault) = refl
verdict_is s k history (Ok r) =
    cond_both r.preamble _ _ (IsOfRequest k) (λ t. refl)
    (λ f. cond_both (not (names r s.channel.ssrc)) _ _ (IsOfRequest k) (λ t. refl)
    (λ g. on_request_is s (hold s history) k r history (open_burst s k history)))

is_verdict : (s : Settings) (history : History) (k client sender : ℕ) (request : Result Request TlvFault) (n : Note) → Answers history k (asks sender request) → client ≡ k
    → verdict s k history request ≡ n → IsVerdict s history client n
is_verdict s history k client sender request n a e v =
    subst (λ (c : ℕ). IsVerdict s history c n) (sym e) (record { sender = sender; request = request; is_answer = a; is_verdict = v })

request_allowed : (s : Settings) (history : History) (k sender : ℕ) (request : Result Request TlvFault) → Answers history k (asks sender request)
    → (n : Note) → IsOfRequest k n → verdict s k history request ≡ n → Allows s history n None
request_allowed s history k sender request a (note.Accept client first rate join) e v = is_verdict s history k client sender request (note.Accept client first rate join) a e v
request_allowed s history k sender request a (note.Update client rate join) e v = is_verdict s history k client sender request (note.Update client rate join) a e v
request_allowed s history k sender request a (note.Again client) e v = is_verdict s history k client sender request (note.Again client) a e v
request_allowed s history k sender request a (note.Refuse client code) e v = inl (is_verdict s history k client sender request (note.Refuse client code) a e v)
request_allowed s history k sender request a n e v = absurd e

-- a note that answers a number of a NACK of the client
abbrev IsOfNumber : ℕ → Note → Type 0
IsOfNumber k (note.Queued client n) = client ≡ k
IsOfNumber k (note.Already client n) = client ≡ k
IsOfNumber k (note.Unheld client n) = client ≡ k
IsOfNumber k (note.Early client n) = client ≡ k
IsOfNumber k (note.TableFull client n) = client ≡ k
IsOfNumber k (note.ClientFull client n) = client ≡ k
IsOfNumber k (note.QueueFull client n) = client ≡ k
IsOfNumber k _ = ⊥

held_answer_is : (most : Room) (s : Settings) (k : ℕ) (history : History) (low : ℕ) (o : Option Held) → IsOfNumber k (held_answer most s k history low o)
held_answer_is most s k history low None = refl
held_answer_is most s k history low (Some h) =
    cond_both (is_early (open_burst s k history) h.n) _ _ (IsOfNumber k) (λ t. refl)
    (λ f. cond_both (is_pending k h.n history) _ _ (IsOfNumber k) (λ t. refl)
    (λ g. cond_both (is_full s k history) _ _ (IsOfNumber k) (λ t. refl)
    (λ i. cond_both (leb most.of_client (length (pending_of k history))) _ _ (IsOfNumber k) (λ t. refl)
    (λ j. cond_both (leb most.in_all (length (pending history))) _ _ (IsOfNumber k) (λ t. refl) (λ l. refl)))))

number_answer_is : (most : Room) (s : Settings) (held : List Held) (k : ℕ) (history : History) (low : ℕ) → IsOfNumber k (number_answer most s held k history low)
unfolding number_answer
number_answer_is most s held k history low = held_answer_is most s k history low _

is_number_answer : (s : Settings) (history : History) (k client sender low : ℕ) (numbers : List ℕ) (n : Note) → Answers history k (nack s.channel.ssrc sender numbers) → Contains numbers low
    → client ≡ k → number_answer room s (hold s history) k history low ≡ n → IsNumberAnswer s history client n
is_number_answer s history k client sender low numbers n a i e v =
    subst (λ (c : ℕ). IsNumberAnswer s history c n) (sym e)
    (record { sender = sender; numbers = numbers; low = low; is_answer = a; among = i; is_number = v })

number_allowed : (s : Settings) (history : History) (k sender low : ℕ) (numbers : List ℕ) → Answers history k (nack s.channel.ssrc sender numbers) → Contains numbers low
    → (n : Note) → IsOfNumber k n → number_answer room s (hold s history) k history low ≡ n → Allows s history n None
number_allowed s history k sender low numbers a i (note.Queued client n) e v = is_number_answer s history k client sender low numbers (note.Queued client n) a i e v
number_allowed s history k sender low numbers a i (note.Already client n) e v = is_number_answer s history k client sender low numbers (note.Already client n) a i e v
number_allowed s history k sender low numbers a i (note.Unheld client n) e v = is_number_answer s history k client sender low numbers (note.Unheld client n) a i e v
number_allowed s history k sender low numbers a i (note.Early client n) e v = is_number_answer s history k client sender low numbers (note.Early client n) a i e v
number_allowed s history k sender low numbers a i (note.TableFull client n) e v = is_number_answer s history k client sender low numbers (note.TableFull client n) a i e v
number_allowed s history k sender low numbers a i (note.ClientFull client n) e v = is_number_answer s history k client sender low numbers (note.ClientFull client n) a i e v
number_allowed s history k sender low numbers a i (note.QueueFull client n) e v = is_number_answer s history k client sender low numbers (note.QueueFull client n) a i e v
number_allowed s history k sender low numbers a i n e v = absurd e

-- the numbers of a NACK, one after another
legal_numbers : (s : Settings) (held : List Held) (k sender : ℕ) (numbers lows : List ℕ) (history : History) → Answers history k (nack s.channel.ssrc sender numbers)
    → hold s history ≡ held → Each (Contains numbers) lows → IsLegal s history → IsLegal s (after_numbers s held k lows history)
unfolding after_numbers arrivals
legal_numbers s held k sender numbers [] history a same i l = l
legal_numbers s held k sender numbers (low ∷ lows) history a same i l =
    let n = number_answer room s held k history low in
    let allowed : Allows s history n None =
    number_allowed s history k sender low numbers a i.0 n (number_answer_is room s held k history low) (ap (λ (hs : List Held). number_answer room s hs k history low) same) in
    legal_numbers s held k sender numbers lows (noted n None ∷ history) a same i.1 (allowed, l)

legal_nack : (s : Settings) (k media sender : ℕ) (lows : List ℕ) (history : History) → Answers history k (nack media sender lows) → IsLegal s history
    → IsLegal s (after_nack s k media lows history)
legal_nack s k media sender lows history a l =
    cond_both (eqb media s.channel.ssrc) (after_numbers s (hold s history) k lows history) (noted (note.ForeignNack k) None ∷ history) (IsLegal s)
    (λ t. legal_numbers s (hold s history) k sender lows lows history
    (subst (λ (m : ℕ). Answers history k (nack m sender lows)) (eqb-true media s.channel.ssrc t) a) refl
    (recursion_from_All (Contains lows) lows (All-contains_itself lows)) l)
    (λ f. (record { media = media; sender = sender; numbers = lows; is_answer = a; foreign = f }, l))

-- the answer to a RAMS-T
legal_set : (s : Settings) (k : ℕ) (b : Burst) (stop : Stop) (history : History) (n : ℕ) → open_burst s k history ≡ Some b → b.stop ≡ None → Answers history k (stops (Ok stop))
    → n ≡ stop_of b.first (next b) stop.first_multicast → IsLegal s history → IsLegal s (stop_set k (next b) n history)
legal_set s k b stop history n e none a is l =
    let set : IsLegal s (noted (note.StopAt k n) None ∷ history) = (record { opened = record { burst = b; is_open = e }; unset = none; stop = stop; is_answer = a; n_is = is }, l) in
    cond_both (eqb n (next b)) (noted (note.End k cause.Stopped) None ∷ noted (note.StopAt k n) None ∷ history) (noted (note.StopAt k n) None ∷ history) (IsLegal s)
    (λ t. (record { opened = record { burst = record b { stop = Some n }; is_open = open_stopped s k n history b e }; ends = ap (λ (m : ℕ). Some m) (eqb-true n (next b) t) }, set))
    (λ f. set)

legal_on_stop : (s : Settings) (k : ℕ) (b : Burst) (stop : Stop) (o : Option ℕ) (history : History) → open_burst s k history ≡ Some b → b.stop ≡ o
    → Answers history k (stops (Ok stop)) → IsLegal s history → IsLegal s (on_stop k b stop.first_multicast o history)
legal_on_stop s k b stop None history e is a l = legal_set s k b stop history (stop_of b.first (next b) stop.first_multicast) e is a refl l
legal_on_stop s k b stop (Some n) history e is a l = (record { opened = record { burst = b; is_open = e }; is_set = is; stop = stop; is_answer = a }, l)

legal_stop_burst : (s : Settings) (k : ℕ) (stop : Stop) (o : Option Burst) (history : History) → open_burst s k history ≡ o → Answers history k (stops (Ok stop)) → IsLegal s history
    → IsLegal s (stop_burst k stop.first_multicast o history)
legal_stop_burst s k stop None history e a l = (record { none = e; stop = stop; is_answer = a }, l)
legal_stop_burst s k stop (Some b) history e a l = legal_on_stop s k b stop b.stop history e refl a l

legal_stop : (s : Settings) (k : ℕ) (stop : Result Stop TlvFault) (history : History) → Answers history k (stops stop) → IsLegal s history → IsLegal s (after_stop s k stop history)
legal_stop s k (Err fault) history a l = (inr (record { fault = fault; is_answer = a; code_is = refl }), l)
legal_stop s k (Ok stop) history a l = legal_stop_burst s k stop (open_burst s k history) history refl a l

-- where there is a value, it is some
pub some_of : {A : Type 0} (o : Option A) → is_some o ≡ true → (x : A) × (o ≡ Some x)
some_of None e = absurd (true≢false (sym e))
some_of (Some x) e = (x, refl)

-- the answer to a BYE
legal_bye : (s : Settings) (k : ℕ) (p : Framed) (history : History) → Answers history k (bye p) → IsLegal s history → IsLegal s (after_bye s k p history)
unfolding bursts
legal_bye s k p history a l =
    let test = is_among k (known history) && is_bye_of p (ssrc k history) in
    cond_both (not test) (noted (note.ByeIdle k) None ∷ history)
    (cond (has_open s k history) (noted (note.End k cause.Bye) None ∷ noted (note.Bye k) None ∷ history) (noted (note.Bye k) None ∷ history)) (IsLegal s)
    (λ t. (record { packet = p; is_answer = a; is_known = not-true test t }, l))
    (λ f.
    let left : IsLegal s (noted (note.Bye k) None ∷ history) = (record { packet = p; is_answer = a; is_known = not-false test f }, l) in
    cond_both (has_open s k history) (noted (note.End k cause.Bye) None ∷ noted (note.Bye k) None ∷ history) (noted (note.Bye k) None ∷ history) (IsLegal s)
    (λ o. let b = some_of (open_burst s k history) o in (record { opened = record { burst = b.0; is_open = b.1 }; ends = (history, None, refl) }, left))
    (λ g. left))

legal_message : (s : Settings) (k : ℕ) (m : Message) (history : History) → Answers history k m → IsLegal s history → IsLegal s (after_message s k m history)
legal_message s k (bye p) history a l = legal_bye s k p history a l
legal_message s k (nack media sender lows) history a l = legal_nack s k media sender lows history a l
legal_message s k (asks sender request) history a l =
    (request_allowed s history k sender request a (verdict s k history request) (verdict_is s k history request) refl, l)
legal_message s k (stops stop) history a l = legal_stop s k stop history a l

legal_messages : (s : Settings) (k : ℕ) (ms : List Message) (history : History) → IsLegal s history → IsLegal s (after_messages s k ms history)
unfolding after_messages
legal_messages s k [] history l = l
legal_messages s k (m ∷ ms) history l = legal_messages s k ms (after_message s k m (told k m ∷ history)) (legal_message s k m (told k m ∷ history) refl l)

-- what holds of some things holds of those that pass a test, and what follows from it holds too
pub each_passed : {A : Type 0} (P : A → Type 0) (test : A → Bool) (xs : List A) → Each P xs → Each P (filter test xs)
each_passed P test [] a = a
each_passed P test (x ∷ xs) a = cond_both (test x) (x ∷ filter test xs) (filter test xs) (Each P) (λ t. (a.0, each_passed P test xs a.1)) (λ f. each_passed P test xs a.1)

-- the runs of a tick so far
record Running (s : Settings) (held : List Held) (history : History) : Type 0 where
  legal : IsLegal s history
  same : hold s history ≡ held
  runs : in_runs history ≡ true

running_sent : (s : Settings) (held : List Held) (k : ℕ) (due : List Held) (b : Burst) (history : History) → open_burst s k history ≡ Some b → Each (Contains held) due
    → Running s held history → Running s held (send s k (run b.stop (next b) b.left due) history)
unfolding run send arrivals
running_sent s held k [] b history e i r = r
running_sent s held k (h ∷ due) b history e i r =
    cond_both (eqb h.n (next b) && is_before b.stop (next b) && leb h.wire b.left) (h ∷ run b.stop (next b + 1) (b.left - h.wire) due) []
    (λ hs. Running s held (send s k hs history))
    (λ t.
    let outer = and_parts (eqb h.n (next b) && is_before b.stop (next b)) (leb h.wire b.left) t in
    let inner = and_parts (eqb h.n (next b)) (is_before b.stop (next b)) outer.0 in
    let here = eqb-true h.n (next b) inner.0 in
    let number = sequence s k history in
    let c = after_note s (note.Burst k h.n number) h.wire b in
    let more : next c ≡ next b + 1 = omega arith in
    let later = noted (note.Burst k h.n number) (Some h) ∷ history in
    let legal : IsLegal s later = (
      record {
        opened = record { burst = b; is_open = e };
        n_is = here;
        number_is = refl;
        before = ap (is_before b.stop) here ∙ inner.1;
        h = h;
        packet_is = refl;
        h_is = refl;
        held = subst (λ (hs : List Held). Contains hs h) (sym r.same) i.0;
        fits = leb-true h.wire b.left outer.1;
        running = r.runs;
      },
      r.legal,
    ) in
    subst (λ (n : ℕ). Running s held (send s k (run b.stop n (b.left - h.wire) due) later)) more
    (running_sent s held k due c later (open_sent s k h.n number h history b e) i.1 (record { legal = legal; same = r.same; runs = r.runs })))
    (λ f. r)

pub stops_here : (o : Option ℕ) (n : ℕ) → is_stop o n ≡ true → o ≡ Some n
stops_here None n e = absurd (true≢false (sym e))
stops_here (Some stop) n e = ap (λ (m : ℕ). Some m) (sym (eqb-true n stop e))

running_ended : (s : Settings) (held : List Held) (k : ℕ) (o : Option Burst) (history : History) → open_burst s k history ≡ o → Running s held history
    → Running s held (after_run s k o history)
unfolding arrivals
running_ended s held k None history e r = r
running_ended s held k (Some b) history e r =
    cond_both (is_stop b.stop (next b)) (noted (note.End k cause.Stopped) None ∷ history)
    (cond (eqb b.ticks s.channel.limit) (noted (note.End k cause.Limit) None ∷ history) history) (Running s held)
    (λ t. record { legal = (record { opened = record { burst = b; is_open = e }; ends = stops_here b.stop (next b) t }, r.legal); same = r.same; runs = r.runs })
    (λ f. cond_both (eqb b.ticks s.channel.limit) (noted (note.End k cause.Limit) None ∷ history) history (Running s held)
    (λ t. record { legal = (record { opened = record { burst = b; is_open = e }; ends = (eqb-true b.ticks s.channel.limit t, r.runs) }, r.legal); same = r.same; runs = r.runs })
    (λ g. r))

running_served : (s : Settings) (held : List Held) (k : ℕ) (o : Option Burst) (history : History) → open_burst s k history ≡ o → Running s held history
    → Running s held (burst_served s held k o history)
unfolding arrivals
running_served s held k None history e r = r
running_served s held k (Some b) history e r =
    let sent = send s k (run b.stop (next b) b.left (from_number (next b) held)) history in
    cond_both (is_lost (next b) held) (noted (note.End k cause.Lost) None ∷ history) (run_sent s k sent) (Running s held)
    (λ t. record {
      legal = (record { opened = record { burst = b; is_open = e }; ends = (ap (is_lost (next b)) r.same ∙ t, r.runs) }, r.legal);
      same = r.same;
      runs = r.runs;
    })
    (λ f. running_ended s held k (open_burst s k sent) sent refl
    (running_sent s held k (from_number (next b) held) b history e
    (each_passed (Contains held) (λ h. leb (next b) h.n) held (recursion_from_All (Contains held) held (All-contains_itself held))) r))

all_running : (s : Settings) (held : List Held) (ks : List ℕ) (history : History) → Running s held history → Running s held (all_served s held ks history)
unfolding all_served
all_running s held [] history r = r
all_running s held (k ∷ ks) history r =
    all_running s held ks (burst_served s held k (open_burst s k history) history) (running_served s held k (open_burst s k history) history refl r)

pub in_tick_from_runs : (history : History) → in_runs history ≡ true → in_tick history ≡ true
in_tick_from_runs [] e = absurd (true≢false (sym e))
in_tick_from_runs (began heard ∷ history) e = e
in_tick_from_runs (told client message ∷ history) e = absurd (true≢false (sym e))
in_tick_from_runs (noted note packet ∷ history) e =
    cond_both (is_of_runs note) (in_runs history) false (λ b. b ≡ true → in_tick history ≡ true) (λ t. in_tick_from_runs history) (λ f g. absurd (true≢false (sym g))) e

-- each thing stands once, where `same` says which are the same
abbrev pub EachOnce : {A : Type 0} → (A → A → Bool) → List A → Type 0
EachOnce same [] = Unit {0}
EachOnce same (x ∷ xs) = (list_any (same x) xs ≡ false) × EachOnce same xs

none_passed : {A : Type 0} (p test : A → Bool) (xs : List A) → list_any p xs ≡ false → list_any p (filter test xs) ≡ false
none_passed p test [] e = e
none_passed p test (x ∷ xs) e =
    let parts = or_parts (p x) (list_any p xs) e in
    cond_both (test x) (x ∷ filter test xs) (filter test xs) (λ l. list_any p l ≡ false)
    (λ t. or_from (p x) (list_any p (filter test xs)) parts.0 (none_passed p test xs parts.1)) (λ f. none_passed p test xs parts.1)

once_passed : {A : Type 0} (same : A → A → Bool) (test : A → Bool) (xs : List A) → EachOnce same xs → EachOnce same (filter test xs)
once_passed same test [] o = o
once_passed same test (x ∷ xs) o =
    cond_both (test x) (x ∷ filter test xs) (filter test xs) (EachOnce same)
    (λ t. (none_passed (same x) test xs o.0, once_passed same test xs o.1)) (λ f. once_passed same test xs o.1)

none_last : {A : Type 0} (p : A → Bool) (xs : List A) (x : A) → list_any p xs ≡ false → p x ≡ false → list_any p (xs ++ x ∷ []) ≡ false
none_last p [] x e f = or_from (p x) false f refl
none_last p (y ∷ ys) x e f =
    let parts = or_parts (p y) (list_any p ys) e in or_from (p y) (list_any p (ys ++ x ∷ [])) parts.0 (none_last p ys x parts.1 f)

once_last : {A : Type 0} (same : A → A → Bool) (xs : List A) (x : A) → EachOnce same xs → list_any (λ y. same y x) xs ≡ false → EachOnce same (xs ++ x ∷ [])
once_last same [] x o e = (refl, tt)
once_last same (y ∷ ys) x o e =
    let parts = or_parts (same y x) (list_any (λ z. same z x) ys) e in (none_last (same y) ys x o.0 parts.0, once_last same ys x o.1 parts.1)

-- each thing is one of them
pub each_is_one : {A : Type 0} (same : A → A → Bool) → ((x : A) → same x x ≡ true) → (xs : List A) → Each (λ x. list_any (λ y. same y x) xs ≡ true) xs
each_is_one same self [] = tt
each_is_one same self (x ∷ xs) = (
  or_left (same x x) (list_any (λ y. same y x) xs) (self x),
  each_weaker (λ z. list_any (λ y. same y z) xs ≡ true) (λ z. list_any (λ y. same y z) (x ∷ xs) ≡ true)
      (λ z a. or_right (same x z) (list_any (λ y. same y z) xs) a) xs (each_is_one same self xs),
)

-- what holds of each thing but those that a test tells apart goes on to hold where nothing is the same as x
pub each_other : {A : Type 0} (p : A → Bool) (P Q : A → Type 0) → ((y : A) → p y ≡ false → P y → Q y) → (xs : List A) → list_any p xs ≡ false → Each P xs → Each Q xs
each_other p P Q f [] e a = tt
each_other p P Q f (x ∷ xs) e a = let parts = or_parts (p x) (list_any p xs) e in (f x parts.0 a.0, each_other p P Q f xs parts.1 a.1)

-- repairs of one number for one client
abbrev pub same_repair : Wanted → Wanted → Bool
same_repair w x = w.client == x.client && w.n == x.n

itself : (w : Wanted) → same_repair w w ≡ true
itself w = and_from (eqb w.client w.client) (eqb w.n w.n) (eq-eqb w.client w.client refl) (eq-eqb w.n w.n refl)

-- a number is queued where it doesn't wait yet
unqueued : (most : Room) (s : Settings) (k n : ℕ) (history : History) (low : ℕ) (o : Option Held) → held_answer most s k history low o ≡ note.Queued k n
    → is_pending k n history ≡ false
unqueued most s k n history low None e = absurd cc
unqueued most s k n history low (Some h) e =
    let P : Note → Type 0 = λ a. a ≡ note.Queued k n → is_pending k n history ≡ false in
    cond_both (is_early (open_burst s k history) h.n) _ _ P (λ t q. absurd cc)
    (λ f. cond_both (is_pending k h.n history) _ _ P (λ t q. absurd cc)
    (λ g. cond_both (is_full s k history) _ _ P (λ t q. absurd cc)
    (λ i. cond_both (leb most.of_client (length (pending_of k history))) _ _ P (λ t q. absurd cc)
    (λ j. cond_both (leb most.in_all (length (pending history))) _ _ P (λ t q. absurd cc)
    (λ l q. let is : h.n ≡ n = cc in subst (λ (m : ℕ). is_pending k m history ≡ false) is g))))) e

queued_once : (s : Settings) (k n : ℕ) (history : History) → IsNumberAnswer s history k (note.Queued k n) → is_pending k n history ≡ false
unfolding number_answer
queued_once s k n history a = unqueued room s k n history a.low _ a.is_number

-- No repair waits twice.
pub pending_once : (s : Settings) (history : History) → IsLegal s history → EachOnce same_repair (pending history)
unfolding pending
pending_once s [] l = tt
pending_once s (began heard ∷ history) l = pending_once s history l
pending_once s (told client message ∷ history) l = pending_once s history l
pending_once s (noted (note.Queued client n) packet ∷ history) l =
    once_last same_repair (pending history) (wanted client n) (pending_once s history l.1) (queued_once s client n history l.0)
pending_once s (noted (note.Repair client n number) packet ∷ history) l = once_passed same_repair (λ w. not (is_wanted client n w)) (pending history) (pending_once s history l.1)
pending_once s (noted (note.Gone client n) packet ∷ history) l = once_passed same_repair (λ w. not (is_wanted client n w)) (pending history) (pending_once s history l.1)
pending_once s (noted (note.Bye client) packet ∷ history) l = once_passed same_repair (λ w. not (eqb w.client client)) (pending history) (pending_once s history l.1)
pending_once s (noted note packet ∷ history) l = pending_once s history l.1

-- a repair that waits is one of those that do
pub pending_contains : (k n : ℕ) (ws : List Wanted) → list_any (is_wanted k n) ws ≡ true → Contains ws (wanted k n)
pending_contains k n [] e = absurd (true≢false (sym e))
pending_contains k n (w ∷ ws) e =
    ⊎_elim
    (λ t. let parts = and_parts (eqb w.client k) (eqb w.n n) t in (0, omega arith, ap₂ wanted (eqb-true w.client k parts.0) (eqb-true w.n n parts.1)))
    (λ t. Contains-append_right (w ∷ []) ws (wanted k n) (pending_contains k n ws t))
    (or_cases (is_wanted k n w) (list_any (is_wanted k n) ws) e)

-- what is found is one of them, and passes
pub found : {A : Type 0} (test : A → Bool) (xs : List A) (x : A) → find test xs ≡ Some x → Contains xs x × (test x ≡ true)
found test [] x e = absurd cc
found test (y ∷ ys) x e =
    cond_both (test y) (Some y) (find test ys) (λ o. o ≡ Some x → Contains (y ∷ ys) x × (test x ≡ true))
    (λ t q. let this : y ≡ x = cc in ((0, omega arith, this), ap test (sym this) ∙ t))
    (λ f q. let rest = found test ys x q in (Contains-append_right (y ∷ []) ys x rest.0, rest.1)) e

-- a tick so far
record Ticking (s : Settings) (held : List Held) (history : History) : Type 0 where
  legal : IsLegal s history
  same : hold s history ≡ held
  ticks : in_tick history ≡ true

-- what still waits after another repair was sent or is gone
abbrev Waits : History → Wanted → Type 0
Waits history w = is_pending w.client w.n history ≡ true

waits_sent : (w x : Wanted) (number : ℕ) (packet : Option Held) (history : History) → same_repair w x ≡ false → Waits history x
    → Waits (noted (note.Repair w.client w.n number) packet ∷ history) x
unfolding stands
waits_sent w x number packet history other e =
    pending_stands x.client x.n (noted (note.Repair w.client w.n number) packet ∷ history)
    ∙ and_from (not (same_repair w x)) (stands (is_queued x.client x.n) (ends_pending x.client x.n) history) (not_from_false (same_repair w x) other)
    (sym (pending_stands x.client x.n history) ∙ e)

waits_gone : (w x : Wanted) (packet : Option Held) (history : History) → same_repair w x ≡ false → Waits history x → Waits (noted (note.Gone w.client w.n) packet ∷ history) x
unfolding stands
waits_gone w x packet history other e =
    pending_stands x.client x.n (noted (note.Gone w.client w.n) packet ∷ history)
    ∙ and_from (not (same_repair w x)) (stands (is_queued x.client x.n) (ends_pending x.client x.n) history) (not_from_false (same_repair w x) other)
    (sym (pending_stands x.client x.n history) ∙ e)

abbrev Repairing : Settings → List Held → List Wanted → History → Type 0
Repairing s held ws history = Ticking s held history × Each (Waits history) ws

repairing : (s : Settings) (held : List Held) (w : Wanted) (ws : List Wanted) (o : Option Held) (history : History) → find (λ h. h.n == w.n) held ≡ o
    → list_any (same_repair w) ws ≡ false → Waits history w → Repairing s held ws history → Repairing s held ws (repaired s held w o history)
unfolding arrivals
repairing s held w ws None history e others waits r =
    let t = r.0 in (
      record {
        legal = (
          record {
            waits = pending_contains w.client w.n (pending history) waits;
            unheld = ap (find (λ h. h.n == w.n)) t.same ∙ e;
            ticking = t.ticks;
          },
          t.legal,
        );
        same = t.same;
        ticks = t.ticks;
      },
      each_other (same_repair w) (Waits history) (Waits (noted (note.Gone w.client w.n) None ∷ history)) (λ x f p. waits_gone w x None history f p) ws others r.1,
    )
repairing s held w ws (Some h) history e others waits r =
    let t = r.0 in
    let number = sequence s w.client history in
    let later = noted (note.Repair w.client w.n number) (Some h) ∷ history in
    cond_both (leb h.wire (may_take s held w.client history) && leb h.wire (channel_left s history)) later history (Repairing s held ws)
    (λ fits.
    let parts = and_parts (leb h.wire (may_take s held w.client history)) (leb h.wire (channel_left s history)) fits in
    let is = found (λ x. eqb x.n w.n) held h e in (
      record {
        legal = (
          record {
            waits = pending_contains w.client w.n (pending history) waits;
            number_is = refl;
            h = h;
            packet_is = refl;
            h_is = eqb-true h.n w.n is.1;
            held = subst (λ (hs : List Held). Contains hs h) (sym t.same) is.0;
            fits = subst (λ (hs : List Held). h.wire ≤ may_take s hs w.client history) (sym t.same) (leb-true h.wire (may_take s held w.client history) parts.0);
            fits_channel = leb-true h.wire (channel_left s history) parts.1;
            ticking = t.ticks;
          },
          t.legal,
        );
        same = t.same;
        ticks = t.ticks;
      },
      each_other (same_repair w) (Waits history) (Waits later) (λ x f p. waits_sent w x number (Some h) history f p) ws others r.1,
    ))
    (λ f. r)

all_repairing : (s : Settings) (held : List Held) (ws : List Wanted) (history : History) → EachOnce same_repair ws → Repairing s held ws history
    → Ticking s held (all_repaired s held ws history)
unfolding all_repaired
all_repairing s held [] history o r = r.0
all_repairing s held (w ∷ ws) history o r =
    all_repairing s held ws (repaired s held w (find (λ h. h.n == w.n) held) history) o.1
    (repairing s held w ws (find (λ h. h.n == w.n) held) history refl o.0 r.1.0 (r.0, r.1.1))

-- each client is known once
none_sym : (k : ℕ) (ks : List ℕ) → list_any (λ j. eqb j k) ks ≡ false → list_any (eqb k) ks ≡ false
none_sym k [] e = e
none_sym k (j ∷ js) e =
    let parts = or_parts (eqb j k) (is_among k js) e in or_from (eqb k j) (list_any (eqb k) js) (apart j k parts.0) (none_sym k js parts.1)

none_placed : (i k : ℕ) (ks : List ℕ) → eqb i k ≡ false → list_any (eqb i) ks ≡ false → list_any (eqb i) (placed k ks) ≡ false
none_placed i k [] e f = or_from (eqb i k) false e refl
none_placed i k (j ∷ js) e f =
    let parts = or_parts (eqb i j) (list_any (eqb i) js) f in
    cond_both (ltb k j) (k ∷ j ∷ js) (j ∷ placed k js) (λ l. list_any (eqb i) l ≡ false) (λ t. or_from (eqb i k) (list_any (eqb i) (j ∷ js)) e f)
    (λ g. or_from (eqb i j) (list_any (eqb i) (placed k js)) parts.0 (none_placed i k js e parts.1))

once_placed : (k : ℕ) (ks : List ℕ) → is_among k ks ≡ false → EachOnce eqb ks → EachOnce eqb (placed k ks)
once_placed k [] e o = (refl, tt)
once_placed k (j ∷ js) e o =
    let parts = or_parts (eqb j k) (is_among k js) e in
    cond_both (ltb k j) (k ∷ j ∷ js) (j ∷ placed k js) (EachOnce eqb) (λ t. (none_sym k (j ∷ js) e, o))
    (λ f. (none_placed j k js parts.0 o.0, once_placed k js parts.1 o.1))

once_with : (k : ℕ) (ks : List ℕ) → EachOnce eqb ks → EachOnce eqb (with_client k ks)
once_with k ks o = cond_both (is_among k ks) ks (placed k ks) (EachOnce eqb) (λ t. o) (λ f. once_placed k ks f o)

-- No client stands twice among the known ones.
pub known_once : (history : History) → EachOnce eqb (known history)
unfolding known
known_once [] = tt
known_once (began heard ∷ history) = known_once history
known_once (told client message ∷ history) = known_once history
known_once (noted (note.Accept client first rate join) packet ∷ history) = once_with client (known history) (known_once history)
known_once (noted (note.Queued client n) packet ∷ history) = once_with client (known history) (known_once history)
known_once (noted (note.Bye client) packet ∷ history) = once_passed eqb (λ j. not (eqb j client)) (known history) (known_once history)
known_once (noted (note.Forgot client) packet ∷ history) = once_passed eqb (λ j. not (eqb j client)) (known history) (known_once history)
known_once (noted note packet ∷ history) = known_once history

-- No client stands twice among those with an open burst.
pub opened_once : (history : History) → EachOnce eqb (opened history)
unfolding opened
opened_once [] = tt
opened_once (began heard ∷ history) = opened_once history
opened_once (told client message ∷ history) = opened_once history
opened_once (noted (note.Accept client first rate join) packet ∷ history) = once_with client (opened history) (opened_once history)
opened_once (noted (note.End client why) packet ∷ history) = once_passed eqb (λ j. not (eqb j client)) (opened history) (opened_once history)
opened_once (noted note packet ∷ history) = opened_once history

abbrev IsKnown : History → ℕ → Type 0
IsKnown history k = is_among k (known history) ≡ true

known_still : (k j : ℕ) (packet : Option Held) (history : History) → eqb k j ≡ false → IsKnown history j → IsKnown (noted (note.Forgot k) packet ∷ history) j
unfolding stands
known_still k j packet history other e =
    known_stands j (noted (note.Forgot k) packet ∷ history)
    ∙ and_from (not (eqb k j)) (stands (makes_known j) (ends_known j) history) (not_from_false (eqb k j) other) (sym (known_stands j history) ∙ e)

record Forgetting (s : Settings) (ks : List ℕ) (history : History) : Type 0 where
  legal : IsLegal s history
  ticks : in_tick history ≡ true
  are_known : Each (IsKnown history) ks

legal_forgotten : (s : Settings) (ks : List ℕ) (history : History) → EachOnce eqb ks → Forgetting s ks history → IsLegal s (all_forgotten s ks history)
unfolding all_forgotten
legal_forgotten s [] history o f = f.legal
legal_forgotten s (k ∷ ks) history o f =
    let later = noted (note.Forgot k) None ∷ history in
    legal_forgotten s ks (cond (eqb (idle s k history) s.channel.idle) later history) o.1
    (cond_both (eqb (idle s k history) s.channel.idle) later history (Forgetting s ks)
    (λ t. record {
      legal = (record { is_known = f.are_known.0; is_idle = eqb-true (idle s k history) s.channel.idle t; ticking = f.ticks }, f.legal);
      ticks = f.ticks;
      are_known = each_other (eqb k) (IsKnown history) (IsKnown later) (λ j e known. known_still k j None history e known) ks o.0 f.are_known.1;
    })
    (λ g. record { legal = f.legal; ticks = f.ticks; are_known = f.are_known.1 }))

legal_tick : (s : Settings) (history : History) → IsLegal s history → in_runs history ≡ true → IsLegal s (after_tick s history)
unfolding after_tick
legal_tick s history l e =
    let runs = all_running s (hold s history) (opened history) history (record { legal = l; same = refl; runs = e }) in
    let served = bursts_served s history in
    let repairs = all_repairing s (hold s served) (pending served) served (pending_once s served runs.legal)
    (record { legal = runs.legal; same = refl; ticks = in_tick_from_runs served runs.runs }, each_is_one same_repair itself (pending served)) in
    let sent = repairs_sent s served in
    legal_forgotten s (known sent) sent (known_once sent)
    (record { legal = repairs.legal; ticks = repairs.ticks; are_known = each_is_one eqb (λ k. eq-eqb k k refl) (known sent) })

legal_hearing : (s : Settings) (heard : Heard) (history : History) → IsLegal s history → IsLegal s (after_hearing s heard history)
unfolding after_hearing
legal_hearing s (live a) history l = (tt, l)
legal_hearing s (dropped note) history l = (tt, l)
legal_hearing s (feedback client messages) history l = legal_messages s client messages (began (feedback client messages) ∷ history) l
legal_hearing s (unframed client fault) history l = (tt, l)
legal_hearing s tick history l = legal_tick s (began tick ∷ history) l refl

-- Each note of the history of some events was allowed.
pub legal_history : (s : Settings) (events : List Event) → IsLegal s (history_of s events)
unfolding history_of
legal_history s [] = tt
legal_history s (event ∷ events) = legal_hearing s (heard_of s.channel event) (history_of s events) (legal_history s events)
