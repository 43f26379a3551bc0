-- How bytes are cut into records.
use Rattle.std.proofs.Common.{◌≡◌, ℕ, zero, suc, ◌+◌, ◌<◌, ◌≤◌, nat_lt, true, false, List, [], ◌∷◌, ◌++◌, length, take, drop, Option, None, Some, Result, Ok, Err, refl, sym, ap, subst, ◌∙◌, arith, append-nil, length-append, length-take, length-drop}
use Rattle.std.specs.Io.KnownBytes.{IsAtEnd, prepend_known}
use Rattle.std.proofs.Math.Seq.{drop-append_seam}
use Rattle.std.proofs.lemmas.Bool.Decides.{nat_tests}
use Rattle.std.proofs.lemmas.List.{take-append-le, drop-append-le}
use Rattle.converters.specs.declared.capture_loop.pcap_trace.head.CaptureFault.{CaptureFault}
use Rattle.converters.specs.declared.capture_loop.pcap_trace.head.CaptureFault.TheVariants.{Cut, Short}
use Rattle.converters.specs.declared.{capture_loop.pcap_trace.head.Endian.Endian, capture_loop.pcap_trace.header.Record.Record}
use Rattle.converters.specs.capture_loop.pcap_trace.{head_at, record_at}
use Rattle.trace_loop.specs.{IfTold}
use Rattle.converters.specs.capture_loop.{Captured, Records, whole, broken, too_many, captured_in, cut_by, record_in, ended_by, with_first, records_in, order_in}

is_below : (a b : ℕ) → a < b → nat_lt a b ≡ true
is_below a b h = grind (arith, nat_tests)

not_below : (a b : ℕ) → b ≤ a → nat_lt a b ≡ false
not_below a b h = grind (arith, nat_tests)

-- a whole record in front
pub whole_record : (e : Endian) (front zs : List ℕ) (header : Record) → record_at e (take 16 front) ≡ Ok header → length front ≡ 16 + header.len → record_in e (front ++ zs) ≡ Ok (captured_in front header, zs)
unfolding record_in
whole_record e front zs header reads size =
    let short : 16 ≤ length front = omega (arith, size) in
    let head : record_at e (take 16 (front ++ zs)) ≡ Ok header = ap (record_at e) (take-append-le 16 front zs short) ∙ reads in
    let enough : nat_lt (length (front ++ zs)) (16 + header.len) ≡ false = not_below (length (front ++ zs)) (16 + header.len) (omega (arith, size, length-append front zs)) in
    let bytes : drop 16 (front ++ zs) ≡ drop 16 front ++ zs = drop-append-le 16 front zs short in
    let frame : take header.len (drop 16 (front ++ zs)) ≡ take header.len (drop 16 front) =
    ap (take header.len) bytes ∙ take-append-le header.len (drop 16 front) zs (omega (arith, size, length-drop 16 front)) in
    let rest : drop (16 + header.len) (front ++ zs) ≡ zs = ap (λ n. drop n (front ++ zs)) (sym size) ∙ drop-append_seam front zs in
    ap (cut_by (front ++ zs)) head ∙ rw enough (ap (λ (f : List ℕ). Ok (record { ms = header.ms; frame = f }, drop (16 + header.len) (front ++ zs))) frame ∙ ap (λ (r : List ℕ). Ok (captured_in front header, r)) rest)

-- a header that has a fault
pub broken_header : (e : Endian) (bytes : List ℕ) (fault : CaptureFault) → record_at e (take 16 bytes) ≡ Err fault → record_in e bytes ≡ Err fault
unfolding record_in
broken_header e bytes fault reads = ap (cut_by bytes) reads

no_header : (e : Endian) (bytes : List ℕ) → length bytes < 16 → record_at e bytes ≡ Err Cut
unfolding record_at
no_header e bytes short = rw (is_below (length bytes) 16 short) refl

-- too few bytes for a header, and for a record
pub short_header : (e : Endian) (bytes : List ℕ) → length bytes < 16 → record_in e bytes ≡ Err Cut
short_header e bytes short = broken_header e bytes Cut (no_header e (take 16 bytes) (omega (arith, length-take 16 bytes)))

pub short_record : (e : Endian) (bytes : List ℕ) (header : Record) → record_at e (take 16 bytes) ≡ Ok header → length bytes < 16 + header.len → record_in e bytes ≡ Err Cut
unfolding record_in
short_record e bytes header reads short = ap (cut_by bytes) reads ∙ rw (is_below (length bytes) (16 + header.len) short) refl

-- what holds of the bytes that are kept, where the source has no more
pub told_at_end : (P : List ℕ → Type 0) (kept : List ℕ) (left : Option (List ℕ)) → IsAtEnd left → P kept → IfTold (prepend_known kept left) P
told_at_end P kept None end p = tt
told_at_end P kept (Some xs) end p = subst P (sym (ap (λ (l : List ℕ). kept ++ l) end ∙ append-nil kept)) p

-- a header's fault, whatever follows
pub told_broken : (e : Endian) (kept : List ℕ) (left : Option (List ℕ)) (fault : CaptureFault) → 16 ≤ length kept → record_at e (take 16 kept) ≡ Err fault
    → IfTold (prepend_known kept left) (λ xs. record_in e xs ≡ Err fault)
told_broken e kept None fault short reads = tt
told_broken e kept (Some xs) fault short reads = broken_header e (kept ++ xs) fault (ap (record_at e) (take-append-le 16 kept xs short) ∙ reads)

-- the head of a file, of which there are too few bytes
pub short_head : (bytes : List ℕ) → length bytes < 24 → order_in bytes ≡ Err Short
unfolding head_at
short_head bytes short = rw (is_below (length (take 24 bytes)) 24 (omega (arith, length-take 24 bytes))) refl

-- the records of some bytes, by what stands in front
pub records_past : (most : ℕ) (e : Endian) (xs zs : List ℕ) (c : Captured) → 0 < length xs → record_in e xs ≡ Ok (c, zs)
    → records_in (suc most) e xs ≡ record { all = c ∷ (records_in most e zs).all; end = (records_in most e zs).end }
unfolding records_in
records_past most e [] zs c some is = absurd (omega arith)
records_past most e (b ∷ xs) zs c some is = ap (λ (r : Result (Captured × List ℕ) CaptureFault). with_first r (records_in most e)) is

pub records_broken : (most : ℕ) (e : Endian) (xs : List ℕ) (fault : CaptureFault) → 0 < length xs → record_in e xs ≡ Err fault → records_in (suc most) e xs ≡ ended_by (broken fault)
unfolding records_in
records_broken most e [] fault some is = absurd (omega arith)
records_broken most e (b ∷ xs) fault some is = ap (λ (r : Result (Captured × List ℕ) CaptureFault). with_first r (records_in most e)) is

pub records_none : (most : ℕ) (e : Endian) → records_in most e [] ≡ ended_by whole
unfolding records_in
records_none zero e = refl
records_none (suc most) e = refl

pub records_too_many : (e : Endian) (xs : List ℕ) → 0 < length xs → records_in 0 e xs ≡ ended_by too_many
unfolding records_in
records_too_many e [] some = absurd (omega arith)
records_too_many e (b ∷ xs) some = refl

-- none is whole
pub records_unread : (most : ℕ) (e : Endian) (kept : List ℕ) → record_in e kept ≡ Err Cut → (records_in most e kept).all ≡ []
records_unread most e [] is = ap (λ (r : Records). r.all) (records_none most e)
records_unread zero e (b ∷ kept) is = ap (λ (r : Records). r.all) (records_too_many e (b ∷ kept) (omega arith))
records_unread (suc most) e (b ∷ kept) is = ap (λ (r : Records). r.all) (records_broken most e (b ∷ kept) Cut (omega arith) is)
