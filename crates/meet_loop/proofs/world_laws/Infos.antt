-- Each RAMS-I that a channel sends fits its bytes, and names a first sequence number where it tells of a burst.
use Rattle.std.proofs.Common.{◌≡◌, ℕ, ◌-◌, ◌*◌, ◌<◌, ◌≤◌, Bool, true, false, not, ⊎_elim, List, [], ◌∷◌, ◌++◌, Option, Some, None, refl, ap, sym, ◌∙◌, subst, arith}
use Rattle.std.specs.Prelude.{◌&&◌, is_some, Result, Ok, Err, All, option_to_list}
use Rattle.std.proofs.lemmas.Bool.{cond_both, and_parts, not-false, leb-true}
use Rattle.std.proofs.lemmas.List.Elements.{All-nil, All-cons}
use Rattle.std.proofs.Math.Nat.{mul-le-mul, div-le_self}
use Rattle.rams_model.specs.declared.{Order.Order, Event.Event, ConfigFault.ConfigFault, ConfigFault.TheVariants.Range, Held.Held}
use Rattle.rams_model.specs.declared.{Info.Info, Cause.Cause, Note.Note}
use Rattle.rams_model.specs.declared.Order.TheVariants as order
use Rattle.rams_model.specs.declared.Cause.TheVariants as cause
use Rattle.rams_model.specs.declared.Note.TheVariants as note
use Rattle.rams_model.specs.Formats.{FitsIn, FitsInfo}
use Rattle.rams_model.specs.Receiver.{tells_of_burst}
use Rattle.rams_model.specs.Service.{Settings, tick_in_range, names_in_range, bytes_in_range, bounds_in_range, channel_in_range, checked, burst_info, update_info, bare_info, next_msn, packet_order, again_order, update_order, end_order, tick, began, told, noted, History, sequence, Burst, bursts, open_burst, order_of, newest_orders, history_of, answer}
use Rattle.rams_model.proofs.Granting.{accept_grants, update_grants}
use Rattle.rams_model.proofs.Legal.{Allows, IsLegal}
use Rattle.rams_model.proofs.Legality.{legal_history}
use Rattle.rams_model.proofs.OpenBurst.{Holds, at_note, at_tick}
use Rattle.service_laws.specs.book_laws.Refusals.{Line, unread, preamble, foreign, again, slow_update, large_update, update, full, no_start, young, old, slow, large, accept, code_of, IsRequestRefused, IsStopRefused}
use Rattle.service_laws.proofs.book_laws.RequestAnswers.{refused_truly}
use Rattle.meet_loop.specs.world_laws.{HasFields}

-- ---- settings in their ranges

record Bounds (s : Settings) : Type 0 where
  tick : s.tick ≤ 1000
  limit : s.channel.limit ≤ 1000000
  burst : s.channel.burst ≤ 1000000000

bounds : (s : Settings) → checked s ≡ Ok s → Bounds s
unfolding checked
bounds s lawful =
    let c = s.channel in
    let ranged = tick_in_range s.tick && channel_in_range c in
    cond_both (not ranged) (Err Range) _ (λ (o : Result Settings ConfigFault). o ≡ Ok s → Bounds s) (λ t q. absurd cc)
    (λ f q.
    let both = and_parts (tick_in_range s.tick) (channel_in_range c) (not-false ranged f) in
    let parts = and_parts (names_in_range c && bytes_in_range c) (bounds_in_range c) both.1 in
    let amounts = (and_parts (names_in_range c) (bytes_in_range c) parts.0).1 in
    let upto_burst = (and_parts _ _ (and_parts _ _ (and_parts _ _ (and_parts _ _ amounts).0).0).0).0 in
    let upto_limit = (and_parts _ _ (and_parts _ _ parts.1).0).0 in
    record {
      tick = leb-true _ _ (and_parts _ _ both.0).1;
      limit = leb-true _ _ (and_parts _ _ (and_parts _ _ upto_limit).1).1;
      burst = leb-true _ _ (and_parts _ _ (and_parts _ _ upto_burst).1).1;
    }) lawful

-- ---- a RAMS-I that a receiver takes up

-- it fits, and names a number where it tells of a burst
pub record IsSound (i : Info) : Type 0 where
  pub fits : FitsInfo i
  pub named : (tells_of_burst i && not (is_some i.first)) ≡ false

-- it fits, and names a number
record IsNamed (i : Info) : Type 0 where
  fits : FitsInfo i
  number : ℕ
  named : i.first ≡ Some number

named_sound : (i : Info) → IsNamed i → IsSound i
named_sound i n = record { fits = n.fits; named = ap (λ (o : Option ℕ). tells_of_burst i && not (is_some o)) n.named ∙ no (tells_of_burst i) }
  where
    no : (b : Bool) → (b && false) ≡ false
    no true = refl
    no false = refl

-- one that tells of a burst within the settings' bounds
of_burst_named : (s : Settings) → Bounds s → (msn code x ticks rate join : ℕ) → code < 65536 → x < 65536 → ticks ≤ s.channel.limit → rate ≤ s.channel.burst
    → IsNamed (burst_info s msn code (Some x) ticks rate join)
of_burst_named s b msn code x ticks rate join low few lasts le =
    let time = mul-le-mul {n₁ = ticks} {m₁ = s.tick} {n₂ = 1000000} {m₂ = 1000} (omega (arith, lasts, b.limit)) b.tick in
    let bits = div-le_self (rate * 8000) s.tick in
    record {
      fits = record {
        code = omega (arith, low);
        first = omega (arith, few);
        join_ms = omega arith;
        length_ms = omega (arith, time);
        bps = omega (arith, bits, le, b.burst);
      };
      number = x;
      named = refl;
    }

again_named : (s : Settings) → Bounds s → (last : Info) (ticks rate join : ℕ) → rate ≤ s.channel.burst → IsNamed last → IsNamed (update_info s last ticks rate join)
again_named s b last ticks rate join le n = by_first last.first n.named n.fits.first
  where
    by_first : (o : Option ℕ) → o ≡ Some n.number → FitsIn 16 o → IsNamed (update_info s (record last { first = o }) ticks rate join)
    by_first None e f = cc
    by_first (Some x) e f = of_burst_named s b (next_msn last) 100 x (s.channel.limit - ticks) rate join (omega arith) (omega (arith, f)) (omega arith) le

bare_fits : (msn code : ℕ) → code < 65536 → FitsInfo (bare_info msn code)
bare_fits msn code low = record { code = omega (arith, low); first = tt; join_ms = tt; length_ms = tt; bps = tt }

-- ---- what the open burst's client was told last

abbrev LastNamed : Settings → ℕ → History → Type 0
LastNamed s k history = Holds (λ b. IsNamed b.last) (open_burst s k history)

last_note : (s : Settings) (b : Bounds s) (k : ℕ) (n : Note) (packet : Option Held) (history : History) → Allows s history n packet → LastNamed s k history → LastNamed s k (noted n packet ∷ history)
last_note s b k (note.Accept client first rate join) packet history a h =
    let g = (accept_grants s history client first rate join a).2 in
    at_note s k (λ c. IsNamed c.last) (note.Accept client first rate join) packet history
    (record {
      begins = λ f r j e. let same : rate ≡ r = cc in of_burst_named s b 0 200 (sequence s k history) s.channel.limit r j (omega arith) (omega arith) (omega arith) (omega (arith, same, g.within));
      changes = λ c own is t. t;
    }) h
last_note s b k (note.Update client rate join) packet history a h =
    let g = update_grants s history client rate join a in
    at_note s k (λ c. IsNamed c.last) (note.Update client rate join) packet history
    (record { begins = λ f r j e. cc; changes = λ c own is t. again_named s b c.last c.ticks rate join g.within t }) h
last_note s b k n packet history a h =
    at_note s k (λ c. IsNamed c.last) n packet history (record { begins = λ f r j e. cc; changes = λ c own is t. t }) h

last_named : (s : Settings) → Bounds s → (k : ℕ) (history : History) → IsLegal s history → LastNamed s k history
unfolding bursts
last_named s b k [] l = tt
last_named s b k (began tick ∷ history) l = at_tick s k (λ c. IsNamed c.last) (λ c. IsNamed c.last) history (λ c t. t) (last_named s b k history l)
last_named s b k (noted n packet ∷ history) l = last_note s b k n packet history l.0 (last_named s b k history l.1)
last_named s b k (item ∷ history) l = last_named s b k history l

-- ---- orders

abbrev pub IsSoundOrder : Order → Type 0
IsSoundOrder (order.Rtx client n sequence packet) = Unit {0}
IsSoundOrder (order.Info client info) = IsSound info

abbrev MayBeSound : Option Order → Type 0
MayBeSound None = Unit {0}
MayBeSound (Some o) = IsSoundOrder o

-- a code that tells of no burst
record IsPlain (code : ℕ) : Type 0 where
  low : code < 65536
  plain : (tells_of_burst (bare_info 0 code) && true) ≡ false

is_plain : (code : ℕ) → code < 65536 → (tells_of_burst (bare_info 0 code) && true) ≡ false → IsPlain code
is_plain code low plain = record { low = low; plain = plain }

same_plain : (one code : ℕ) → Some one ≡ Some code → IsPlain one → IsPlain code
same_plain one code e p = let same : one ≡ code = cc in subst IsPlain same p

line_plain : (line : Line) (code : ℕ) → code_of line ≡ Some code → IsPlain code
line_plain unread code e = same_plain 400 code e (is_plain 400 (omega arith) refl)
line_plain preamble code e = same_plain 512 code e (is_plain 512 (omega arith) refl)
line_plain foreign code e = same_plain 509 code e (is_plain 509 (omega arith) refl)
line_plain slow_update code e = same_plain 403 code e (is_plain 403 (omega arith) refl)
line_plain large_update code e = same_plain 501 code e (is_plain 501 (omega arith) refl)
line_plain full code e = same_plain 503 code e (is_plain 503 (omega arith) refl)
line_plain no_start code e = same_plain 507 code e (is_plain 507 (omega arith) refl)
line_plain young code e = same_plain 401 code e (is_plain 401 (omega arith) refl)
line_plain old code e = same_plain 402 code e (is_plain 402 (omega arith) refl)
line_plain slow code e = same_plain 403 code e (is_plain 403 (omega arith) refl)
line_plain large code e = same_plain 501 code e (is_plain 501 (omega arith) refl)
line_plain again code e = cc
line_plain update code e = cc
line_plain accept code e = cc

plain_sound : (msn code : ℕ) → IsPlain code → IsSound (bare_info msn code)
plain_sound msn code p = record { fits = bare_fits msn code p.low; named = p.plain }

refuse_sound : (s : Settings) (history : History) (k code : ℕ) (packet : Option Held) → Allows s history (note.Refuse k code) packet → IsSound (bare_info 0 code)
refuse_sound s history k code packet a =
    ⊎_elim (λ (r : IsRequestRefused s k history code). plain_sound 0 code (line_plain r.cause.line code r.cause.is_code))
    (λ (r : IsStopRefused k history code). plain_sound 0 code (subst IsPlain (sym r.is_code) (is_plain 404 (omega arith) refl)))
    (refused_truly s k code history a)

last_sound : (o : Option Burst) → Holds (λ b. IsNamed b.last) o → (k : ℕ) → MayBeSound (again_order k o)
last_sound None h k = tt
last_sound (Some b) h k = named_sound b.last h

update_sound : (s : Settings) → Bounds s → (k rate join : ℕ) → rate ≤ s.channel.burst → (o : Option Burst) → Holds (λ b. IsNamed b.last) o → MayBeSound (update_order s k rate join o)
update_sound s b k rate join le None h = tt
update_sound s b k rate join le (Some c) h = named_sound (update_info s c.last c.ticks rate join) (again_named s b c.last c.ticks rate join le h)

end_sound : (k : ℕ) (why : Cause) (o : Option Burst) → MayBeSound (end_order k why o)
end_sound k why None = tt
end_sound k cause.Stopped (Some b) = plain_sound (next_msn b.last) 201 (is_plain 201 (omega arith) refl)
end_sound k cause.Limit (Some b) = plain_sound (next_msn b.last) 201 (is_plain 201 (omega arith) refl)
end_sound k cause.Lost (Some b) = plain_sound (next_msn b.last) 502 (is_plain 502 (omega arith) refl)
end_sound k cause.Bye (Some b) = tt

packet_sound : (k n q : ℕ) (packet : Option Held) → MayBeSound (packet_order k n q packet)
packet_sound k n q None = tt
packet_sound k n q (Some h) = tt

order_sound : (s : Settings) → Bounds s → (history : History) (n : Note) (packet : Option Held) → Allows s history n packet → IsLegal s history → MayBeSound (order_of s history n packet)
unfolding order_of
order_sound s b history (note.Accept k first rate join) packet a l =
    let g = (accept_grants s history k first rate join a).2 in
    named_sound _ (of_burst_named s b 0 200 (sequence s k history) s.channel.limit rate join (omega arith) (omega arith) (omega arith) g.within)
order_sound s b history (note.Update k rate join) packet a l =
    let g = update_grants s history k rate join a in update_sound s b k rate join g.within (open_burst s k history) (last_named s b k history l)
order_sound s b history (note.Again k) packet a l = last_sound (open_burst s k history) (last_named s b k history l) k
order_sound s b history (note.Refuse k code) packet a l = refuse_sound s history k code packet a
order_sound s b history (note.End k why) packet a l = end_sound k why (open_burst s k history)
order_sound s b history (note.Burst k n q) packet a l = packet_sound k n q packet
order_sound s b history (note.Repair k n q) packet a l = packet_sound k n q packet
order_sound s b history n packet a l = tt

in_front : (o : Option Order) (later : List Order) → MayBeSound o → All IsSoundOrder later → All IsSoundOrder (option_to_list o ++ later)
in_front None later i a = a
in_front (Some o) later i a = All-cons IsSoundOrder o later i a

orders_sound : (s : Settings) → Bounds s → (history : History) (later : List Order) → IsLegal s history → All IsSoundOrder later → All IsSoundOrder (newest_orders s history later)
unfolding newest_orders
orders_sound s b [] later l a = a
orders_sound s b (began heard ∷ history) later l a = a
orders_sound s b (told client message ∷ history) later l a = orders_sound s b history later l a
orders_sound s b (noted n packet ∷ history) later l a =
    let o = order_of s history n packet in
    orders_sound s b history (option_to_list o ++ later) l.1 (in_front o later (order_sound s b history n packet l.0 l.1) a)

pub answer_sound : (s : Settings) → HasFields s → (events : List Event) (event : Event) → All IsSoundOrder (answer s events event).orders
answer_sound s f events event =
    let history = history_of s (event ∷ events) in orders_sound s (bounds s f.lawful) history [] (legal_history s (event ∷ events)) (All-nil IsSoundOrder)
