-- What a client was told last of its open burst is what the burst keeps of it, and its bytes.
use Rattle.std.proofs.Common.{◌≡◌, ℕ, ◌-◌, ◌*◌, ◌/◌, Bool, true, false, cond, List, [], ◌∷◌, ◌++◌, take, drop, Option, Some, None, option_map, refl, ap, sym, ◌∙◌, subst, eqb}
use Rattle.std.proofs.lemmas.Bool.{eqb-true}
use Rattle.std.specs.Int.{w16, to_be_bytes}
use Rattle.rams_model.specs.declared.{Held.Held, Info.Info, Note.Note}
use Rattle.rams_model.specs.declared.Order.TheVariants as order
use Rattle.rams_model.specs.declared.Note.TheVariants as note
use Rattle.rams_model.specs.Formats.{rams_info}
use Rattle.rams_model.specs.Service.{Settings, burst_info, accept_info, update_info, next_msn, tick, began, noted, History, sequence, Burst, begun, after_note, newest_changed, size_of, bursts, newest_open, open_burst, order_of, datagram}
use Rattle.rams_model.proofs.OpenBurst.{changed_open, Holds, at_note, at_tick}
use Rattle.service_laws.specs.byte_laws.{after, of_burst, in_ms, told_at, last_told}

-- the bytes of a RAMS-I
abbrev pub info_bytes : Settings → Info → List ℕ
info_bytes s i = rams_info s.channel.server s.channel.ssrc i

-- TLV 32 with a number
abbrev pub first_of : ℕ → List ℕ
first_of x = 32 ∷ 0 ∷ 0 ∷ 2 ∷ (to_be_bytes w16 x ++ (0 ∷ 0 ∷ []))

-- a burst's last RAMS-I has these bytes, and names a first number
pub record IsTold (s : Settings) (bytes : List ℕ) (b : Burst) : Type 0 where
  pub is_last : info_bytes s b.last ≡ bytes
  pub number : ℕ
  pub named : b.last.first ≡ Some number

-- where it names a number, TLV 32 is its first
pub first_tlv_is : (s : Settings) (i : Info) (x : ℕ) → i.first ≡ Some x → take 8 (drop 16 (info_bytes s i)) ≡ first_of x
unfolding rams_info
first_tlv_is s i x e = by_first i.first e
  where
    by_first : (o : Option ℕ) → o ≡ Some x → take 8 (drop 16 (info_bytes s (record i { first = o }))) ≡ first_of x
    by_first None e1 = cc
    by_first (Some y) e1 = let same : y ≡ x = cc in ap (λ (n : ℕ). first_of n) same

-- ---- the open burst was told so

abbrev WasTold : Settings → ℕ → History → Type 0
WasTold s k history = Holds (IsTold s (last_told s k history)) (open_burst s k history)

begins_told : (s : Settings) (bytes : List ℕ) (first rate join number : ℕ) → info_bytes s (accept_info s number rate join) ≡ bytes → IsTold s bytes (begun s first rate join number)
begins_told s bytes first rate join number e = record { is_last = e; number = number; named = refl }

told_accept : (s : Settings) (k client first rate join : ℕ) (packet : Option Held) (history : History) → WasTold s k history
    → WasTold s k (noted (note.Accept client first rate join) packet ∷ history)
unfolding bursts last_told order_of datagram
told_accept s k client first rate join packet history h = by_case (eqb client k) refl
  where
    by_case : (c : Bool) → eqb client k ≡ c
        → Holds (IsTold s (cond c (info_bytes s (accept_info s (sequence s client history) rate join)) (last_told s k history)))
        (newest_open (cond c (begun s first rate join (sequence s k history) ∷ bursts s k history) (bursts s k history)))
    by_case true t =
        subst (λ (j : ℕ). IsTold s (info_bytes s (accept_info s (sequence s j history) rate join)) (begun s first rate join (sequence s k history))) (sym (eqb-true client k t))
        (begins_told s _ first rate join (sequence s k history) refl)
    by_case false f = h

told_update : (s : Settings) (k client rate join : ℕ) (packet : Option Held) (history : History) → WasTold s k history → WasTold s k (noted (note.Update client rate join) packet ∷ history)
unfolding bursts last_told order_of datagram
told_update s k client rate join packet history h = by_case (eqb client k) refl
  where
    change : Burst → Burst
    change = after_note s (note.Update client rate join) (size_of packet)

    of_open : (bytes : List ℕ) (o : Option Burst) → Holds (IsTold s bytes) o
        → Holds (IsTold s (told_at s (option_map (λ b. order.Info k (update_info s b.last b.ticks rate join)) o))) (option_map change o)
    of_open bytes None t = tt
    of_open bytes (Some b) t = record { is_last = refl; number = t.number; named = t.named }

    by_case : (c : Bool) → eqb client k ≡ c
        → Holds (IsTold s (cond c (told_at s (order_of s history (note.Update client rate join) packet)) (last_told s k history)))
        (newest_open (cond c (newest_changed change (bursts s k history)) (bursts s k history)))
    by_case true t =
        subst (λ (j : ℕ). Holds (IsTold s (told_at s (option_map (λ b. order.Info j (update_info s b.last b.ticks rate join)) (open_burst s j history)))) (newest_open (newest_changed change (bursts s k history))))
        (sym (eqb-true client k t))
        (subst (Holds _) (sym (changed_open change (λ b. refl) (bursts s k history))) (of_open (last_told s k history) (open_burst s k history) h))
    by_case false f = h

told_note : (s : Settings) (k : ℕ) (n : Note) (packet : Option Held) (history : History) → WasTold s k history → WasTold s k (noted n packet ∷ history)
unfolding last_told
told_note s k (note.Accept client first rate join) packet history h = told_accept s k client first rate join packet history h
told_note s k (note.Update client rate join) packet history h = told_update s k client rate join packet history h
told_note s k n packet history h =
    at_note s k (IsTold s (last_told s k history)) n packet history (record { begins = λ first rate join e. cc; changes = λ b own is t. record { is_last = t.is_last; number = t.number; named = t.named } }) h

-- What a client was told last is what its open burst keeps.
pub was_told : (s : Settings) (k : ℕ) (history : History) → WasTold s k history
unfolding bursts last_told
was_told s k [] = tt
was_told s k (began tick ∷ history) =
    at_tick s k (IsTold s (last_told s k history)) (IsTold s (last_told s k history)) history (λ b t. record { is_last = t.is_last; number = t.number; named = t.named }) (was_told s k history)
was_told s k (noted n packet ∷ history) = told_note s k n packet history (was_told s k history)
was_told s k (item ∷ history) = was_told s k history

-- ---- the bytes of what follows

abbrev pub ticks_left : Settings → ℕ → ℕ
ticks_left s ticks = s.channel.limit - ticks

burst_bytes : (s : Settings) (number response : ℕ) (o : Option ℕ) (x ticks rate join : ℕ) → o ≡ Some x
    → info_bytes s (burst_info s number response o ticks rate join) ≡ of_burst s number response (first_of x) (in_ms s join) (ticks * s.tick) (rate * 8000 / s.tick)
unfolding rams_info
burst_bytes s number response None x ticks rate join e = cc
burst_bytes s number response (Some y) x ticks rate join e =
    let same : y ≡ x = cc in ap (λ (n : ℕ). of_burst s number response (first_of n) (in_ms s join) (ticks * s.tick) (rate * 8000 / s.tick)) same

-- the bytes of an update
pub update_bytes : (s : Settings) (b : Burst) (bytes : List ℕ) (ticks rate join : ℕ) → IsTold s bytes b
    → info_bytes s (update_info s b.last ticks rate join)
    ≡ of_burst s (after bytes) 100 (take 8 (drop 16 bytes)) (in_ms s join) (ticks_left s ticks * s.tick) (rate * 8000 / s.tick)
unfolding rams_info
update_bytes s b bytes ticks rate join t =
    burst_bytes s (next_msn b.last) 100 b.last.first t.number (ticks_left s ticks) rate join t.named
    ∙ subst (λ (l : List ℕ). of_burst s (next_msn b.last) 100 (first_of t.number) (in_ms s join) (ticks_left s ticks * s.tick) (rate * 8000 / s.tick)
    ≡ of_burst s (after l) 100 (take 8 (drop 16 l)) (in_ms s join) (ticks_left s ticks * s.tick) (rate * 8000 / s.tick)) t.is_last
    (ap (λ (f : List ℕ). of_burst s (next_msn b.last) 100 f (in_ms s join) (ticks_left s ticks * s.tick) (rate * 8000 / s.tick)) (sym (first_tlv_is s b.last t.number t.named)))
