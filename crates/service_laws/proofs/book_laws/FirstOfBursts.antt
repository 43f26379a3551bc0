-- A packet of a burst tells the burst's first number to who was told of the burst.
use Rattle.std.proofs.Common.{◌≡◌, ℕ, ◌+◌, ◌-◌, ◌%◌, ◌<◌, ◌≤◌, Bool, true, false, cond, List, [], ◌∷◌, ◌++◌, length, Option, Some, None, option_map, refl, ap, sym, ◌∙◌, subst, arith, eqb, ltb}
use Rattle.std.specs.Option.{option_or}
use Rattle.std.proofs.lemmas.Bool.{cond-false, lt-ltb}
use Rattle.std.proofs.lemmas.List.{length_push}
use Rattle.rams_model.specs.declared.Order.TheVariants as orders
use Rattle.rams_model.specs.declared.{Held.Held, Info.Info}
use Rattle.rams_model.specs.declared.Note.TheVariants as note
use Rattle.rams_model.specs.Packets.{ahead}
use Rattle.rams_model.specs.Receiver.{distance_from, first_number, first_by, again, reception, source_first}
use Rattle.rams_model.specs.Service.{Settings, began, told, noted, History, sequence, bursts, accept_info, order_of}
use Rattle.rams_model.specs.Laws.{NoneIs}
use Rattle.rams_model.proofs.Legal.{IsLegal, Sends}
use Rattle.service_laws.specs.book_laws.{IsMoment, LastAccept, sending, first_sendings, numbers_to, is_repair_to, TellsTheFirst}
use Rattle.service_laws.proofs.book_laws.KnownClients.{stayed_known}
use Rattle.service_laws.proofs.book_laws.Moments.{legal_moment}
use Rattle.service_laws.proofs.book_laws.Sequences.{counts}
use Rattle.service_laws.proofs.book_laws.SinceAccept.{newest_since, open_of, stop_since, end_since}

-- where nothing was repaired all that was sent are first sendings
as_many : (k : ℕ) (since : History) → NoneIs (is_repair_to k) since → length (numbers_to k since) ≡ length (first_sendings k since)
unfolding first_sendings
as_many k [] none = refl
as_many k (began heard ∷ since) none = as_many k since none.1
as_many k (told client message ∷ since) none = as_many k since none.1
as_many k (noted (note.Burst client n number) packet ∷ since) none = by_case (eqb client k) (as_many k since none.1)
  where
    by_case : (c : Bool) → length (numbers_to k since) ≡ length (first_sendings k since)
        → length (cond c (numbers_to k since ++ number ∷ []) (numbers_to k since)) ≡ length (cond c (first_sendings k since ++ sending n packet ∷ []) (first_sendings k since))
    by_case true rest = omega (arith, rest, length_push (numbers_to k since) number, length_push (first_sendings k since) (sending n packet))
    by_case false rest = rest
as_many k (noted (note.Repair client n number) packet ∷ since) none =
    ap (λ (l : List ℕ). length l) (cond-false (eqb client k) (numbers_to k since ++ number ∷ []) (numbers_to k since) none.0) ∙ as_many k since none.1
as_many k (noted n packet ∷ since) none = as_many k since none.1

-- how far the sequence number is ahead of the one that was named
away : (named number d : ℕ) → named < 65536 → d < 16384 → number ≡ (named + d) % 65536 → distance_from (Some named) number ≡ Some d
away named number d few near is =
    let at : ahead number named ≡ d = omega (arith, few, near, is) in
    ap (λ (u : ℕ). cond (ltb u 16384) (Some u) None) at ∙ ap (λ (b : Bool). cond b (Some d) None) (lt-ltb d 16384 near)

-- a packet so far ahead of the burst's first
tells_first : (info : Info) (named n number first d : ℕ) → info.first ≡ Some named → named < 65536 → d < 16384 → n ≡ first + d → number ≡ (named + d) % 65536
    → TellsTheFirst info n number first
unfolding source_first
tells_first info named n number first d is few near at ahead_is =
    let far = away named number d few near ahead_is in
    let off : d ≡ n - first = omega (arith, at) in
    let back : n - d ≡ first = omega (arith, at) in
    let own : ahead (n % 65536) d ≡ first % 65536 = omega (arith, at, near) in
    record {
      named = named;
      is_named = is;
      from = omega (arith, at);
      near = omega (arith, at, near);
      ahead = ahead_is ∙ ap (λ (u : ℕ). (named + u) % 65536) off;
      found = λ turns packet none told.
          ap (λ (o : Option ℕ). option_or o (first_by n (again number (n % 65536) packet) (reception turns))) none
          ∙ (ap (λ (o : Option ℕ). option_map (λ u. n - u) (distance_from o number)) (told ∙ is) ∙ (ap (option_map (λ u. n - u)) far ∙ ap (λ (u : ℕ). Some u) back));
      own =
          ap (λ (o : Option ℕ). first_number o number (n % 65536)) is
          ∙ (ap (option_map (λ u. 65536 + ahead (n % 65536) u)) far ∙ ap (λ (u : ℕ). Some (65536 + u)) own);
    }

info_named : (s : Settings) (k number rate join : ℕ) (info : Info) → Some (orders.Info k (accept_info s number rate join)) ≡ Some (orders.Info k info) → info.first ≡ Some number
info_named s k number rate join info e = let same : accept_info s number rate join ≡ info = cc in ap (λ (i : Info). i.first) (sym same)

pub first_of_burst : (s : Settings) (k n number : ℕ) (packet : Option Held) (before : History) → 1 ≤ s.channel.idle → IsMoment s (noted (note.Burst k n number) packet ∷ before)
    → (a : LastAccept before k) → length (first_sendings k a.since) < 16384 → NoneIs (is_repair_to k) a.since
    → (info : Info) → order_of s a.before (note.Accept k a.first a.rate a.join) a.packet ≡ Some (orders.Info k info) → TellsTheFirst info n number a.first
unfolding order_of
first_of_burst s k n number packet before least m a few none info e =
    let legal = legal_moment s (noted (note.Burst k n number) packet ∷ before) m in
    let whole : History = a.since ++ noted (note.Accept k a.first a.rate a.join) a.packet ∷ a.before in
    let sends : Sends s whole k n number packet = subst (λ (h : History). Sends s h k n number packet) a.splits legal.0 in
    let newest = newest_since s k a.first a.rate a.join a.packet a.since a.before a.last in
    let o = open_of (bursts s k whole) sends.opened.burst a.first (length (first_sendings k a.since)) (stop_since k a.since) (end_since k a.since) sends.opened.is_open newest in
    let known = stayed_known s k n number packet before least m a in
    let c = counts s k a.first a.rate a.join a.packet a.since a.before known (subst (IsLegal s) a.splits legal.1) in
    let count = length (first_sendings k a.since) in
    let n_is : n ≡ a.first + count = omega (arith, sends.n_is, o.first_is, o.count_is) in
    let number_is : number ≡ (sequence s k a.before + count) % 65536 = omega (arith, sends.number_is, c.counted, as_many k a.since none) in
    tells_first info (sequence s k a.before) n number a.first count (info_named s k (sequence s k a.before) a.rate a.join info e) (omega arith) few n_is number_is
