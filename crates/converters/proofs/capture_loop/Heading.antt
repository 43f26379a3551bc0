-- The head of a file, and the records behind it.
use Rattle.std.proofs.Common.{◌≡◌, ℕ, ◌+◌, ◌≤◌, List, [], ◌++◌, length, drop, take, Option, None, Some, Result, Ok, Err, sym, ap, subst, ◌∙◌, arith, append-nil, length-append, append_assoc, take-append-drop, take-take, length-take, inl, inr}
use Rattle.std.specs.Prelude.{MatchResult}
use Rattle.std.specs.Io.KnownBytes.{Keeps, prepend_known}
use Rattle.std.proofs.Math.Seq.{drop-append_seam}
use Rattle.std.proofs.lemmas.List.{take-append-le}
use Rattle.std.proofs.lemmas.Result.{IfErr-weaker}
use Rattle.line_io.specs.Passes.{Passes}
use Rattle.line_io.proofs.Passing.{Passes-none}
use Rattle.converters.specs.declared.capture_loop.pcap_trace.head.CaptureFault.{CaptureFault}
use Rattle.converters.specs.declared.capture_loop.pcap_trace.head.CaptureFault.TheVariants.{Short}
use Rattle.converters.specs.declared.{capture_loop.pcap_trace.head.Endian.Endian, capture_loop.last.End.End}
use Rattle.converters.specs.declared.capture_loop.last.End.TheVariants.{Refused}
use Rattle.converters.specs.capture_loop.pcap_trace.{Elapsed, head_at}
use Rattle.server_hub.specs.declared.HubEvent.{HubEvent}
use Rattle.server_hub.specs.Served.{Served}
use Rattle.trace_loop.specs.trace_book.trace_serving.{Outcome}
use Rattle.trace_loop.specs.declared.Stop.{Stop}
use Rattle.trace_loop.specs.declared.Stop.TheVariants.{Memory, Read, Write, Wire}
use Rattle.trace_loop.specs.{IfBothTold, IfTold, IsStop, IsStopped, StopsIn}
use Rattle.trace_loop.proofs.Reading.{rose_since}
use Rattle.trace_loop.specs.journal_book.{event_lines}
use Rattle.converters.specs.capture_loop.{AreWritten, ComesTo, HasLinesOf, HasOrder, file_events, file_text, last, new_clock, order_in, records_events, records_outcome, text_by_order, events_by}
use Rattle.converters.proofs.capture_loop.Cutting.{short_head}
use Rattle.converters.proofs.capture_loop.Limits.{fits_or_not}

stop_later : (before read reads write writes : ℕ) (stop : Stop) → before ≤ read → IsStop read reads write writes stop → IsStop before reads write writes stop
stop_later before read reads write writes Memory less stops = tt
stop_later before read reads write writes Read less stops = rose_since before read reads less stops
stop_later before read reads write writes Write less stops = stops
stop_later before read reads write writes Wire less stops = stops

pub stopped_later : {T : Type 0} (before read reads write writes : ℕ) (r : Result T Stop) → before ≤ read → IsStopped read reads write writes r → IsStopped before reads write writes r
stopped_later {T} before read reads write writes r less s = record {
  read_later = let after = s.read_later in omega arith;
  write_later = s.write_later;
  cause = IfErr-weaker r _ _ (λ stop h. stop_later before read reads write writes stop less h) s.cause;
}

module _ (port : ℕ) (channels : List Served) (clock : Elapsed) where
  refused_text : (xs : List ℕ) (fault : CaptureFault) → order_in xs ≡ Err fault → file_text port channels clock xs ≡ last (Refused 0 fault)
  refused_text xs fault is = ap (text_by_order port channels clock xs) is

  -- the head has a fault
  pub order_refuses : (a : Option (List ℕ)) (waits : List ℕ) (fault : CaptureFault) (left leaves : Option (List ℕ)) → HasOrder left leaves (Err fault)
      → IfTold left (λ xs. ComesTo a a waits waits (file_text port channels clock xs) (Refused 0 fault))
  order_refuses a waits fault None leaves order = tt
  order_refuses a waits fault (Some xs) None order = absurd order
  order_refuses a waits fault (Some xs) (Some ys) order =
      ([], refused_text xs fault order.0, subst (λ (t : List ℕ). Passes a a t waits) (sym (append-nil waits)) (Passes-none a waits))

  pub order_refuses_steadily : (steady : ℕ → Type 0) (waits : List ℕ) (fault : CaptureFault) (left leaves : Option (List ℕ)) → HasOrder left leaves (Err fault)
      → IfTold left (λ xs. (room : ℕ) → steady (length (waits ++ (file_text port channels clock xs).text) + room) → steady (length waits + length (last (Refused 0 fault)).text + room))
  order_refuses_steadily steady waits fault None leaves order = tt
  order_refuses_steadily steady waits fault (Some xs) None order = absurd order
  order_refuses_steadily steady waits fault (Some xs) (Some ys) order = λ room h.
      let text = (last (Refused 0 fault)).text in
      let size = ap (λ (o : Outcome). length o.text) (refused_text xs fault order.0) in
      let same : length (waits ++ (file_text port channels clock xs).text) + room ≡ length waits + length text + room = omega (arith, size, length-append waits (file_text port channels clock xs).text) in
      subst steady same h

  -- the source fails in front of its end
  pub order_reads : (a : Option (List ℕ)) (waits : List ℕ) (left : Option (List ℕ)) (kept : List ℕ) (later : Option (List ℕ)) → Keeps left (prepend_known kept later) → order_in kept ≡ Err Short
      → IfBothTold left later (HasLinesOf (file_events port channels clock) a a waits waits)
  order_reads a waits None kept later same short = tt
  order_reads a waits (Some xs) kept None same short = same
  order_reads a waits (Some xs) kept (Some l) same short =
      let none : file_events port channels clock kept ≡ [] = ap (events_by port channels clock kept) short in (
        kept,
        sym same,
        subst (λ (es : List HubEvent). Passes a a (waits ++ event_lines es) waits) (sym none) (subst (λ (t : List ℕ). Passes a a t waits) (sym (append-nil waits)) (Passes-none a waits)),
      )

-- a head without fault is whole
is_whole : (xs : List ℕ) (e : Endian) → order_in xs ≡ Ok e → length (take 24 xs) ≡ 24
is_whole xs e is = elim (fits_or_not 24 (length xs)) as (λ _. length (take 24 xs) ≡ 24) [
  | inl fits ↦ omega (arith, length-take 24 xs, fits)
  | inr short ↦ let no : ◌≡◌ {A = Result Endian CaptureFault} (Err Short) (Ok e) = sym (short_head xs short) ∙ is in absurd cc
]

enough_taken : (xs part : List ℕ) (e : Endian) → order_in xs ≡ Ok e → order_in (take 24 xs ++ part) ≡ Ok e
enough_taken xs part e is =
    let size = is_whole xs e is in
    ap head_at (take-append-le 24 (take 24 xs) part (omega (arith, size)) ∙ take-take 24 24 xs (omega arith)) ∙ is

behind_front : (xs part : List ℕ) (e : Endian) → order_in xs ≡ Ok e → part ≡ drop 24 (take 24 xs ++ part)
behind_front xs part e is = sym (ap (λ n. drop n (take 24 xs ++ part)) (sym (is_whole xs e is)) ∙ drop-append_seam (take 24 xs) part)

-- The head has none, and records stand behind it.
module _ (port : ℕ) (channels : List Served) (tick : ℕ) (e : Endian) where
  text_there : (xs ys : List ℕ) → order_in xs ≡ Ok e → ys ≡ drop 24 xs → file_text port channels (new_clock tick) xs ≡ records_outcome port channels tick e ys
  text_there xs ys is rest = ap (text_by_order port channels (new_clock tick) xs) is ∙ ap (records_outcome port channels tick e) (sym rest)

  events_there : (xs ys : List ℕ) → order_in xs ≡ Ok e → ys ≡ drop 24 xs → file_events port channels (new_clock tick) xs ≡ records_events port channels tick e ys
  events_there xs ys is rest = ap (events_by port channels (new_clock tick) xs) is ∙ ap (records_events port channels tick e) (sym rest)

  -- what is so of the text of the records is so of the file's
  behind : (left leaves : Option (List ℕ)) (P : Outcome → Type 0) → HasOrder left leaves (Ok e) → IfTold leaves (λ ys. P (records_outcome port channels tick e ys)) → IfTold left (λ xs. P (file_text port channels (new_clock tick) xs))
  behind None leaves P order p = tt
  behind (Some xs) None P order p = absurd order
  behind (Some xs) (Some ys) P order p = subst P (sym (text_there xs ys order.0 order.1)) p

  pub order_ends : (a b : Option (List ℕ)) (waited waits : List ℕ) (end : End) (left leaves : Option (List ℕ)) → HasOrder left leaves (Ok e) → IfTold leaves (λ ys. ComesTo a b waited waits (records_outcome port channels tick e ys) end)
      → IfTold left (λ xs. ComesTo a b waited waits (file_text port channels (new_clock tick) xs) end)
  order_ends a b waited waits end left leaves order p = behind left leaves (λ (o : Outcome). ComesTo a b waited waits o end) order p

  pub order_stops : (a b : Option (List ℕ)) (waited waits : List ℕ) (stop : Stop) (left leaves : Option (List ℕ)) → HasOrder left leaves (Ok e) → IfTold leaves (λ ys. StopsIn a b (waited ++ (records_outcome port channels tick e ys).text) waits stop)
      → IfTold left (λ xs. StopsIn a b (waited ++ (file_text port channels (new_clock tick) xs).text) waits stop)
  order_stops a b waited waits stop left leaves order p = behind left leaves (λ (o : Outcome). StopsIn a b (waited ++ o.text) waits stop) order p

  pub order_steady : (steady_then steady : ℕ → Type 0) (waited waits : List ℕ) (r : Result End Stop) (left leaves : Option (List ℕ)) → HasOrder left leaves (Ok e)
      → IfTold leaves (λ ys. (room : ℕ) → steady_then (length (waited ++ (records_outcome port channels tick e ys).text) + room) → MatchResult r (λ end. steady (length waits + length (last end).text + room)) (λ stop. stop ≡ Memory))
      → IfTold left (λ xs. (room : ℕ) → steady_then (length (waited ++ (file_text port channels (new_clock tick) xs).text) + room) → MatchResult r (λ end. steady (length waits + length (last end).text + room)) (λ stop. stop ≡ Memory))
  order_steady steady_then steady waited waits r left leaves order p =
      behind left leaves (λ (o : Outcome). (room : ℕ) → steady_then (length (waited ++ o.text) + room) → MatchResult r (λ end. steady (length waits + length (last end).text + room)) (λ stop. stop ≡ Memory)) order p

  pub order_writes : (left leaves : Option (List ℕ)) → HasOrder left leaves (Ok e) → IfTold leaves (λ ys. AreWritten (records_events port channels tick e ys) (records_outcome port channels tick e ys))
      → IfTold left (λ xs. AreWritten (file_events port channels (new_clock tick) xs) (file_text port channels (new_clock tick) xs))
  order_writes None leaves order p = tt
  order_writes (Some xs) None order p = absurd order
  order_writes (Some xs) (Some ys) order p =
      subst (λ (o : Outcome). AreWritten (file_events port channels (new_clock tick) xs) o) (sym (text_there xs ys order.0 order.1))
      (subst (λ (es : List HubEvent). AreWritten es (records_outcome port channels tick e ys)) (sym (events_there xs ys order.0 order.1)) p)

  -- of the file's bytes, the head's and some of the records' were taken
  pub order_taken : (a b : Option (List ℕ)) (waited waits : List ℕ) (left leaves later : Option (List ℕ)) → HasOrder left leaves (Ok e) → IfBothTold leaves later (HasLinesOf (records_events port channels tick e) a b waited waits)
      → IfBothTold left later (HasLinesOf (file_events port channels (new_clock tick)) a b waited waits)
  order_taken a b waited waits None leaves later order p = tt
  order_taken a b waited waits (Some xs) None later order p = absurd order
  order_taken a b waited waits (Some xs) (Some ys) None order p = absurd p
  order_taken a b waited waits (Some xs) (Some ys) (Some l) order p =
      let front = take 24 xs in
      let is : order_in (front ++ p.0) ≡ Ok e = enough_taken xs p.0 e order.0 in
      let rest : p.0 ≡ drop 24 (front ++ p.0) = behind_front xs p.0 e order.0 in (
        front ++ p.0,
        sym (take-append-drop 24 xs) ∙ (ap (λ (t : List ℕ). front ++ t) (sym order.1 ∙ p.1) ∙ sym (append_assoc front p.0 l)),
        subst (λ (es : List HubEvent). Passes a b (waited ++ event_lines es) waits) (sym (events_there (front ++ p.0) p.0 is rest)) p.2,
      )
