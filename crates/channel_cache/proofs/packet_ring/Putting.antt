-- What a buffer of packets shows, and how it shows one more.
use Rattle.std.proofs.Common.{◌≡◌, ◌≤◌, ◌≢◌, if◌then◌else◌, List, [], ◌∷◌, ◌++◌, length, slice_get, Option, None, refl, sym, ap, ◌∙◌, eqb, ltb}
use Rattle.std.proofs.lemmas.Bool.{cond-true, cond-false, eq-eqb, ne_eqb, lt-ltb}
use Rattle.circular_buffer.specs.Buffer.{Buffer, buffer, keep_last}
use Rattle.rams_model.specs.declared.Held.{Held}
use Rattle.rams_model.specs.Packets.{hi, last_of}
use Rattle.channel_cache.specs.packet_ring.{pushed, let_go}
use Rattle.channel_cache.specs.packet_ring.Seen.{Seen}
use Rattle.channel_cache.proofs.packet_ring.Ends.{last_of_one}

abbrev pub shown : Buffer Held → Seen
shown b = record { capacity = b.capacity; held = b.items }

-- the buffer with one more packet behind the others
abbrev pub with_one : Buffer Held → Held → Buffer Held
with_one b h = buffer (keep_last b.capacity (b.items ++ h ∷ [])) b.capacity

pub put_behind : (v : Seen) (h : Held) (before after : Buffer Held) → h.n ≡ hi v.held → shown before ≡ v → after ≡ with_one before h → shown after ≡ pushed v h
put_behind v h before after next shows put =
    ap shown put ∙ (ap (λ (w : Seen). record { capacity = w.capacity; held = last_of w.capacity (w.held ++ h ∷ []) }) shows
    ∙ ap (λ (l : List Held). record v { held = l }) (sym (cond-true (eqb h.n (hi v.held)) (last_of v.capacity (v.held ++ h ∷ [])) (h ∷ []) (eq-eqb h.n (hi v.held) next))))

pub put_alone : (v : Seen) (h : Held) (before after : Buffer Held) → 1 ≤ v.capacity → h.n ≢ hi v.held → before ≡ buffer [] v.capacity → after ≡ with_one before h → shown after ≡ pushed v h
put_alone v h before after room other cleared put =
    ap shown put ∙ (ap (λ (b : Buffer Held). shown (with_one b h)) cleared
    ∙ ap (λ (l : List Held). record v { held = l }) (last_of_one v.capacity h room ∙ sym (cond-false (eqb h.n (hi v.held)) (last_of v.capacity (v.held ++ h ∷ [])) (h ∷ []) (ne_eqb h.n (hi v.held) other))))

-- ---- what the buffer hands out for one more packet
abbrev pub handed : Buffer Held → Held → Option Held
handed b h = if ltb (length b.items) b.capacity then None else slice_get (b.items ++ h ∷ []) 0

-- it is the oldest
oldest : (v : Seen) (h : Held) → 1 ≤ v.capacity → handed (buffer v.held v.capacity) h ≡ (if ltb (length v.held) v.capacity then None else slice_get v.held 0)
oldest v h room = at v.held
  where
    at : (hs : List Held) → handed (buffer hs v.capacity) h ≡ (if ltb (length hs) v.capacity then None else slice_get hs 0)
    at [] = let roomy = lt-ltb 0 v.capacity room in
        cond-true (ltb 0 v.capacity) None (slice_get (h ∷ []) 0) roomy ∙ sym (cond-true (ltb 0 v.capacity) None (slice_get [] 0) roomy)
    at (k ∷ hs) = refl

pub handed_behind : (v : Seen) (h : Held) (before : Buffer Held) → 1 ≤ v.capacity → h.n ≡ hi v.held → shown before ≡ v → handed before h ≡ let_go v h
handed_behind v h before room next shows =
    ap (λ (w : Seen). handed (buffer w.held w.capacity) h) shows ∙ (oldest v h room
    ∙ sym (cond-true (eqb h.n (hi v.held)) (if ltb (length v.held) v.capacity then None else slice_get v.held 0) None (eq-eqb h.n (hi v.held) next)))

pub handed_alone : (v : Seen) (h : Held) (before : Buffer Held) → 1 ≤ v.capacity → h.n ≢ hi v.held → before ≡ buffer [] v.capacity → handed before h ≡ let_go v h
handed_alone v h before room other cleared =
    ap (λ (b : Buffer Held). handed b h) cleared ∙ (cond-true (ltb 0 v.capacity) None (slice_get (h ∷ []) 0) (lt-ltb 0 v.capacity room)
    ∙ sym (cond-false (eqb h.n (hi v.held)) (if ltb (length v.held) v.capacity then None else slice_get v.held 0) None (ne_eqb h.n (hi v.held) other)))
