-- Whether there are so many bytes.
use Rattle.std.proofs.Common.{◌≡◌, ℕ, ◌<◌, ◌≤◌, Bool, true, false, MatchBool, List, ◌++◌, length, take, drop, Option, None, Some, Result, Ok, Err, IfOk, refl, sym, ap, subst, ◌∙◌}
use Rattle.std.specs.Io.KnownBytes.{IsAtEnd, Keeps, prepend_known}
use Rattle.std.proofs.lemmas.List.{take-append-le, drop-append-le}
use Rattle.converters.specs.declared.capture_loop.pcap_trace.head.CaptureFault.{CaptureFault}
use Rattle.converters.specs.declared.capture_loop.pcap_trace.head.CaptureFault.TheVariants.{Short}
use Rattle.converters.specs.declared.{capture_loop.pcap_trace.head.Endian.Endian, capture_loop.pcap_trace.header.Record.Record}
use Rattle.converters.specs.declared.capture_loop.records.Next.{Next}
use Rattle.converters.specs.capture_loop.pcap_trace.{head_at, record_at}
use Rattle.ram_io.specs.declared.Failed.{Failed}
use Rattle.converters.specs.declared.capture_loop.records.Next.TheVariants as next
use Rattle.converters.specs.capture_loop.{BeginsWith, HasOrder, IsNext, IsNextWithin, most_records, order_in}
use Rattle.converters.proofs.capture_loop.Cutting.{short_head, told_at_end}

pub when_full : (full : Bool) (P Q : Type 0) → MatchBool full P Q → full ≡ true → P
when_full true P Q h is = h
when_full false P Q h is = cc

pub when_not : (full : Bool) (P Q : Type 0) → MatchBool full P Q → full ≡ false → Q
when_not true P Q h is = cc
when_not false P Q h is = h

-- the header stands in front still
pub header_grows : (e : Endian) (old new : List ℕ) (header : Record) → record_at e (take 16 old) ≡ Ok header → 16 ≤ length old → BeginsWith old new → record_at e (take 16 new) ≡ Ok header
header_grows e old new header reads there g = ap (λ (l : List ℕ). record_at e (take 16 l)) g.whole ∙ (ap (record_at e) (take-append-le 16 old g.more there) ∙ reads)

pub most_records_is : most_records ≡ 10000000
unfolding most_records
most_records_is = refl

pub next_is_within : (e : Endian) (count : ℕ) (kept : List ℕ) (left : Option (List ℕ)) (r : Result Next Failed) → count < most_records → IfOk r (IsNext e kept left) → IfOk r (IsNextWithin e count kept left)
next_is_within e count kept left (Err f) within is = tt
next_is_within e count kept left (Ok (next.Whole header)) within is = (within, is)
next_is_within e count kept left (Ok next.Ended) within is = is
next_is_within e count kept left (Ok (next.Broken fault)) within is = (within, is)
next_is_within e count kept left (Ok next.TooMany) within is = absurd is

-- the head of a file, where there are too few bytes for one
pub short_order : (before : Option (List ℕ)) (kept : List ℕ) (left : Option (List ℕ)) → Keeps before (prepend_known kept left) → length kept < 24 → IsAtEnd left → HasOrder before (prepend_known kept left) (Err Short)
short_order None kept left same short end = tt
short_order (Some xs) kept None same short end = same
short_order (Some xs) kept (Some l) same short end =
    let all = told_at_end (λ (k : List ℕ). order_in k ≡ Err Short) kept (Some l) end (short_head kept short) in
    (subst (λ (k : List ℕ). order_in k ≡ Err Short) same all, tt)

-- and where there are enough
pub order_there : (before : Option (List ℕ)) (kept now : List ℕ) (left : Option (List ℕ)) (order : Result Endian CaptureFault) → Keeps before (prepend_known kept left) → 24 ≤ length kept → order ≡ head_at (take 24 kept) → now ≡ drop 24 kept
    → HasOrder before (prepend_known now left) order
order_there None kept now left order same there is rest = tt
order_there (Some xs) kept now None order same there is rest = same
order_there (Some xs) kept now (Some l) order same there is rest = (
  ap order_in (sym same) ∙ (ap head_at (take-append-le 24 kept l there) ∙ sym is),
  on_any order (ap (λ (k : List ℕ). k ++ l) rest ∙ (sym (drop-append-le 24 kept l there) ∙ ap (drop 24) same)),
)
  where
    on_any : (o : Result Endian CaptureFault) → now ++ l ≡ drop 24 xs → IfOk o (λ e. now ++ l ≡ drop 24 xs)
    on_any (Ok e) p = p
    on_any (Err fault) p = tt
