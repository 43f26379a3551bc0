-- What a receiver posts is made of bytes.
use Rattle.std.proofs.Common.{◌≡◌, ℕ, zero, suc, ◌+◌, ◌-◌, ◌^◌, ◌/◌, ◌%◌, ◌<◌, ◌&&◌, Bool, true, false, List, [], ◌∷◌, ◌++◌, map, length, take, replicate, Option, Some, None, refl, arith, w16, w32, nat_lt, nat_le, codes}
use Rattle.std.specs.Prelude.{All, option_to_list, option_map}
use Rattle.std.specs.Int.{byte_at, bytes_high_first, to_be_bytes}
use Rattle.std.proofs.lemmas.Bool.{cond_both, and_parts, ltb-true}
use Rattle.std.proofs.lemmas.List.Elements.{All-nil, All-cons, All-append}
use Rattle.rams_model.specs.declared.{Stop.Stop, Tuned.Tuned}
use Rattle.rams_model.specs.Formats.{Request, rr_packet, sdes_packet, bye_packet, transport_feedback, distance, words_from, nack_words, nack_packet, tlv, request_fci, stop_fci, rams_request, rams_stop}
use Rattle.rams_model.specs.Receiver.{Playing, Reception, compound, request_datagram, join_datagram, nack_datagram, bye_datagram, missing, most_named, nack_of, join_again, asked_in_play, asked_since, asked}

abbrev pub AreBytes : List ℕ → Type 0
AreBytes bytes = All (λ b. b < 256) bytes

none : AreBytes []
none = All-nil (λ b. b < 256)

one : (b : ℕ) (bytes : List ℕ) → b < 256 → AreBytes bytes → AreBytes (b ∷ bytes)
one b bytes less rest = All-cons (λ x. x < 256) b bytes less rest

both : (xs ys : List ℕ) → AreBytes xs → AreBytes ys → AreBytes (xs ++ ys)
both xs ys a b = All-append (λ x. x < 256) xs ys a b

byte_is : (i n : ℕ) → byte_at i n < 256
byte_is zero n = omega arith
byte_is (suc i) n = omega arith

of_number : (k n : ℕ) → AreBytes (bytes_high_first k n)
of_number zero n = none
of_number (suc k) n = one (byte_at k n) (bytes_high_first k n) (byte_is k n) (of_number k n)

short : (n : ℕ) → AreBytes (to_be_bytes w16 n)
short n = of_number 2 n

long : (n : ℕ) → AreBytes (to_be_bytes w32 n)
long n = of_number 4 n

-- an RTCP packet without padding
packet_is : (first kind words : ℕ) (body : List ℕ) → first < 256 → kind < 256 → AreBytes body → AreBytes (first ∷ kind ∷ (to_be_bytes w16 words ++ body))
packet_is first kind words body a b c =
    one first (kind ∷ (to_be_bytes w16 words ++ body)) a (one kind (to_be_bytes w16 words ++ body) b (both (to_be_bytes w16 words) body (short words) c))

feedback_is : (format sender media : ℕ) (fci : List ℕ) → format < 32 → AreBytes fci → AreBytes (transport_feedback format sender media fci)
feedback_is format sender media fci less is =
    packet_is (128 + format) 205 (2 + length fci / 4) (to_be_bytes w32 sender ++ to_be_bytes w32 media ++ fci) (omega (arith, less)) (omega arith)
    (both (to_be_bytes w32 sender) (to_be_bytes w32 media ++ fci) (long sender) (both (to_be_bytes w32 media) fci (long media) is))

zeros_are : (n : ℕ) → AreBytes (replicate n 0)
zeros_are zero = none
zeros_are (suc n) = one 0 (replicate n 0) (omega arith) (zeros_are n)

tlv_is : (kind : ℕ) (value : List ℕ) → kind < 256 → AreBytes value → AreBytes (tlv kind value)
tlv_is kind value less is =
    packet_is kind 0 (length value) (value ++ replicate (3 - (length value + 3) % 4) 0) less (omega arith)
    (both value (replicate (3 - (length value + 3) % 4) 0) is (zeros_are (3 - (length value + 3) % 4)))

-- a message's first word
message_is : (sfmt : ℕ) (rest : List ℕ) → sfmt < 256 → AreBytes rest → AreBytes (sfmt ∷ 0 ∷ 0 ∷ 0 ∷ rest)
message_is sfmt rest less is = one sfmt (0 ∷ 0 ∷ 0 ∷ rest) less (one 0 (0 ∷ 0 ∷ rest) (omega arith) (one 0 (0 ∷ rest) (omega arith) (one 0 rest (omega arith) is)))

words_are : (pid blp last : ℕ) (numbers : List ℕ) → AreBytes (words_from pid blp last numbers)
unfolding words_from
words_are pid blp last [] = both (to_be_bytes w16 pid) (to_be_bytes w16 blp) (short pid) (short blp)
words_are pid blp last (n ∷ ns) =
    cond_both (nat_lt last (distance pid n) && nat_le (distance pid n) 16) (words_from pid (blp + 2 ^ (distance pid n - 1)) (distance pid n) ns)
    (to_be_bytes w16 pid ++ to_be_bytes w16 blp ++ words_from n 0 0 ns) AreBytes (λ t. words_are pid (blp + 2 ^ (distance pid n - 1)) (distance pid n) ns)
    (λ f. both (to_be_bytes w16 pid) (to_be_bytes w16 blp ++ words_from n 0 0 ns) (short pid) (both (to_be_bytes w16 blp) (words_from n 0 0 ns) (short blp) (words_are n 0 0 ns)))

-- bytes that can be looked at
abbrev are_small : List ℕ → Bool
are_small [] = true
are_small (b ∷ bytes) = nat_lt b 256 && are_small bytes

small_are : (bytes : List ℕ) → are_small bytes ≡ true → AreBytes bytes
small_are [] e = none
small_are (b ∷ bytes) e = let parts = and_parts (nat_lt b 256) (are_small bytes) e in one b bytes (ltb-true b 256 parts.0) (small_are bytes parts.1)

-- each datagram of a receiver
compound_is : (t : Tuned) (message : List ℕ) → AreBytes message → AreBytes (compound t message)
compound_is t message is =
    let name = 1 ∷ 3 ∷ codes "stb" ++ 0 ∷ 0 ∷ 0 ∷ [] in
    let report = to_be_bytes w32 t.ssrc in
    both (rr_packet t.ssrc) (sdes_packet t.ssrc ++ message) (packet_is 128 201 1 (report ++ []) (omega arith) (omega arith) (both report [] (long t.ssrc) none))
    (both (sdes_packet t.ssrc) message
    (packet_is 129 202 3 ((report ++ name) ++ []) (omega arith) (omega arith) (both (report ++ name) [] (both report name (long t.ssrc) (small_are name refl)) none)) is)

abbrev any_source : Request
any_source = record { ssrcs = Some []; min_ms = None; max_ms = None; bps = None; preamble = false }

pub request_is : (t : Tuned) → AreBytes (request_datagram t)
unfolding rams_request
request_is t = compound_is t (rams_request t.ssrc t.media any_source) (feedback_is 6 t.ssrc t.media (request_fci any_source) (omega arith) (small_are (request_fci any_source) refl))

pub join_is : (t : Tuned) (n : ℕ) → AreBytes (join_datagram t n)
unfolding rams_stop
join_is t n =
    let stop : Stop = record { first_multicast = Some (n % 2 ^ 32) } in
    let value = to_be_bytes w32 (n % 2 ^ 32) in
    compound_is t (rams_stop t.ssrc t.media stop)
    (feedback_is 6 t.ssrc t.media (stop_fci stop) (omega arith) (message_is 3 (tlv 61 value) (omega arith) (tlv_is 61 value (omega arith) (long (n % 2 ^ 32)))))

named_are : (numbers : List ℕ) → AreBytes (nack_words numbers)
named_are [] = none
named_are (n ∷ ns) = words_are n 0 0 ns

pub bye_is : (t : Tuned) → AreBytes (bye_datagram t)
bye_is t = let name = to_be_bytes w32 t.ssrc in compound_is t (bye_packet t.ssrc) (packet_is 129 203 1 (name ++ []) (omega arith) (omega arith) (both name [] (long t.ssrc) none))

-- and so all that it asks with
abbrev pub AllBytes : List (List ℕ) → Type 0
AllBytes all = All AreBytes all

nothing : AllBytes []
nothing = All-nil AreBytes

alone : (bytes : List ℕ) → AreBytes bytes → AllBytes (bytes ∷ [])
alone bytes is = All-cons AreBytes bytes [] is nothing

nack_is : (t : Tuned) (numbers : List ℕ) → AllBytes (nack_of t numbers)
nack_is t [] = nothing
nack_is t (n ∷ ns) = alone (nack_datagram t (n ∷ ns)) (compound_is t (nack_packet t.ssrc t.media (map (λ m. m % 65536) (n ∷ ns))) (feedback_is 1 t.ssrc t.media (nack_words (map (λ m. m % 65536) (n ∷ ns))) (omega arith) (named_are (map (λ m. m % 65536) (n ∷ ns)))))

again_is : (t : Tuned) (ended : Bool) (o : Option ℕ) → AllBytes (join_again t ended o)
again_is t ended None = nothing
again_is t true (Some n) = nothing
again_is t false (Some n) = alone (join_datagram t n) (join_is t n)

play_is : (t : Tuned) (ended : Bool) (o : Option Playing) → AllBytes (asked_in_play t ended o)
play_is t ended None = nothing
play_is t ended (Some p) =
    All-append AreBytes (join_again t ended p.joined) (nack_of t (take most_named (missing p))) (again_is t ended p.joined) (nack_is t (take most_named (missing p)))

since_is : (t : Tuned) (ended : Bool) (play : Option Playing) (named : Option ℕ) → AllBytes (asked_since t ended play named)
since_is t ended play None = alone (request_datagram t) (request_is t)
since_is t ended play (Some named) = play_is t ended play

pub asked_is : (t : Tuned) (r : Reception) → AllBytes (asked t r)
asked_is t r = since_is t r.ended r.play r.named

pub joined_is : (t : Tuned) (o : Option ℕ) → AllBytes (option_to_list (option_map (join_datagram t) o))
joined_is t None = nothing
joined_is t (Some n) = alone (join_datagram t n) (join_is t n)

pub requested_is : (t : Tuned) → AllBytes (request_datagram t ∷ [])
requested_is t = alone (request_datagram t) (request_is t)

pub left_is : (t : Tuned) → AllBytes (bye_datagram t ∷ [])
left_is t = alone (bye_datagram t) (bye_is t)
