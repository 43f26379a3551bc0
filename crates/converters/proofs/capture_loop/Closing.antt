-- How the parts of a text go on, and how it ends.
use Rattle.std.proofs.Common.{◌≡◌, ℕ, List, [], ◌++◌, Option, None, Some, Result, Ok, Err, IfOk, IfErr, OnOk, refl, sym, ap, subst, ◌∙◌, arith, append_assoc}
use Rattle.std.specs.Io.KnownBytes.{Appends}
use Rattle.line_io.specs.Passes.{Passes}
use Rattle.line_io.proofs.Passing.{Passes-more, Passes-put, Passes-then}
use Rattle.rams_model.specs.declared.{Status.Status, Status.TheVariants.Done}
use Rattle.server_hub.specs.declared.HubEvent.{HubEvent}
use Rattle.trace_loop.specs.journal_book.{event_lines}
use Rattle.trace_loop.specs.trace_book.trace_serving.{Outcome, after_text}
use Rattle.trace_loop.specs.declared.Stop.{Stop}
use Rattle.trace_loop.specs.declared.Stop.TheVariants.{Memory, Read, Write, Wire}
use Rattle.std.specs.Prelude.{◌≤◌, MatchResult}
use Rattle.trace_loop.specs.{EndsAs, Ends, IfBothTold, IsStop, IsStoppedByWrite, IsWriteStop, StopsIn}
use Rattle.converters.specs.declared.{capture_loop.pcap_trace.head.CaptureFault.CaptureFault, capture_loop.last.End.End}
use Rattle.trace_loop.proofs.Reading.{passes_whole}
use Rattle.trace_loop.proofs.Stopping.{err_so, write_since}
use Rattle.converters.specs.declared.capture_loop.last.End.TheVariants.{Whole, Refused, TooLong}
use Rattle.converters.specs.capture_loop.{ComesTo, HasLinesOf, last}

pub both_told : (old new : Option (List ℕ)) (P Q : List ℕ → List ℕ → Type 0) → ((xs ys : List ℕ) → P xs ys → Q xs ys) → IfBothTold old new P → IfBothTold old new Q
both_told None new P Q gives p = tt
both_told (Some xs) None P Q gives p = p
both_told (Some xs) (Some ys) P Q gives p = gives xs ys p

-- the sink stops a call, and not the source
pub never_read : {T : Type 0} (before now : ℕ) (r : Result T Stop) → IsStoppedByWrite before now r → r ≡ Err Read → ⊥
never_read {T} before now r stops is = by r stops.cause is
  where
    by : (q : Result T Stop) → IfErr q (IsWriteStop before now) → q ≡ Err Read → ⊥
    by (Ok t) cause e = cc
    by (Err Memory) cause e = cc
    by (Err Read) cause e = cause
    by (Err Write) cause e = cc
    by (Err Wire) cause e = cc

-- a text stops behind another, and in front of another
pub stops_behind : (a b c : Option (List ℕ)) (text waiting piece waits : List ℕ) (stop : Stop) → Passes a b text waiting → StopsIn b c (waiting ++ piece) waits stop → StopsIn a c (text ++ piece) waits stop
stops_behind a b c text waiting piece waits Memory p q = (q.0, Passes-put a b c text waiting piece (waits ++ q.0) p q.1)
stops_behind a b c text waiting piece waits Read p q = (q.0, Passes-put a b c text waiting piece (waits ++ q.0) p q.1)
stops_behind a b c text waiting piece waits Write p q = (q.0, Passes-put a b c text waiting piece q.0 p q.1)
stops_behind a b c text waiting piece waits Wire p q = (q.0, Passes-put a b c text waiting piece (waits ++ q.0) p q.1)

pub stops_before_more : (a b : Option (List ℕ)) (text waits more : List ℕ) (stop : Stop) → StopsIn a b text waits stop → StopsIn a b (text ++ more) waits stop
stops_before_more a b text waits more Memory p = (p.0 ++ more, subst (Passes a b (text ++ more)) (append_assoc waits p.0 more) (Passes-more a b text (waits ++ p.0) more p.1))
stops_before_more a b text waits more Read p = (p.0 ++ more, subst (Passes a b (text ++ more)) (append_assoc waits p.0 more) (Passes-more a b text (waits ++ p.0) more p.1))
stops_before_more a b text waits more Write p = (p.0 ++ more, Passes-more a b text p.0 more p.1)
stops_before_more a b text waits more Wire p = (p.0 ++ more, subst (Passes a b (text ++ more)) (append_assoc waits p.0 more) (Passes-more a b text (waits ++ p.0) more p.1))

-- only a file without fault is done
pub done_is_whole : (end : End) → (last end).status ≡ Done → end ≡ Whole
done_is_whole Whole e = refl
done_is_whole (Refused number fault) e = cc
done_is_whole TooLong e = cc

module _ (a b c : Option (List ℕ)) (waited waits left : List ℕ) (o : Outcome) (end : End) where
  -- the last line goes behind the text of the records
  pub last_goes : (status : Status) → ComesTo a b waited waits o end → Passes b c (waits ++ (last end).text) left → status ≡ (last end).status → Ends a c waited left o status
  last_goes status come p is = (
    is ∙ sym (ap (λ (x : Outcome). x.status) come.1),
    subst (λ (t : List ℕ). Passes a c t left) (append_assoc waited come.0 (last end).text ∙ ap (λ (x : Outcome). waited ++ x.text) (sym come.1)) (Passes-put a b c (waited ++ come.0) waits (last end).text left come.2 p),
  )

  pub last_stops : (stop : Stop) → ComesTo a b waited waits o end → StopsIn b c (waits ++ (last end).text) left stop → StopsIn a c (waited ++ o.text) left stop
  last_stops stop come p =
      subst (λ (t : List ℕ). StopsIn a c t left stop) (append_assoc waited come.0 (last end).text ∙ ap (λ (x : Outcome). waited ++ x.text) (sym come.1)) (stops_behind a b c (waited ++ come.0) waits (last end).text left stop come.2 p)

module _ (a b c : Option (List ℕ)) (waited text waits left : List ℕ) (p : Passes a b (waited ++ text) waits) where
  -- what follows goes behind a text
  pub ends_behind : (o : Outcome) (status : Status) → Ends b c waits left o status → Ends a c waited left (after_text text o) status
  ends_behind o status e = (e.0, subst (λ (t : List ℕ). Passes a c t left) (append_assoc waited text o.text) (Passes-put a b c (waited ++ text) waits o.text left p e.1))

  pub stops_behind_text : (o : Outcome) (stop : Stop) → StopsIn b c (waits ++ o.text) left stop → StopsIn a c (waited ++ (after_text text o).text) left stop
  stops_behind_text o stop q = subst (λ (t : List ℕ). StopsIn a c t left stop) (append_assoc waited text o.text) (stops_behind a b c (waited ++ text) waits o.text left stop p q)

  pub lines_behind : (events : List ℕ → List HubEvent) (xs ys : List ℕ) → HasLinesOf events b c waits left xs ys → HasLinesOf events a c (waited ++ text) left xs ys
  lines_behind events xs ys h = (h.0, h.1, Passes-put a b c (waited ++ text) waits (event_lines (events h.0)) left p h.2)

module _ (a d e : Option (List ℕ)) (waits : List ℕ) (o : Outcome) (ended : Result Status Stop) where
  -- what waits goes at the end
  pub ended_whole : (result : Result Status Stop) (before now : ℕ) → EndsAs before now ended result → IfOk ended (Ends a d [] waits o) → OnOk result (Passes d e waits [])
      → IfOk result (λ status. (status ≡ o.status) × Appends a e o.text)
  ended_whole result before now ends text all = by ended result ends text all
    where
      by : (was now_is : Result Status Stop) → EndsAs before now was now_is → IfOk was (Ends a d [] waits o) → OnOk now_is (Passes d e waits []) → IfOk now_is (λ status. (status ≡ o.status) × Appends a e o.text)
      by was (Err stop) ends t all = tt
      by (Ok old) (Ok status) ends t all = (ends ∙ t.0, passes_whole a e o.text (Passes-then a d e o.text waits [] t.1 all))
      by (Err stop) (Ok status) ends t all = cc

  pub ended_front : IfOk ended (Ends a d [] waits o) → IfErr ended (StopsIn a d o.text waits) → (ended ≡ Err Write → e ≡ d) → (rest : List ℕ) → Passes d e waits rest → (left : List ℕ) × Passes a e o.text left
  ended_front text front untouched rest p = by ended refl text front
    where
      by : (was : Result Status Stop) → was ≡ ended → IfOk was (Ends a d [] waits o) → IfErr was (StopsIn a d o.text waits) → (left : List ℕ) × Passes a e o.text left
      by (Ok status) same t f = (rest, Passes-then a d e o.text waits rest t.1 p)
      by (Err Memory) same t f = (rest ++ f.0, Passes-then a d e o.text _ _ f.1 (Passes-more d e waits rest f.0 p))
      by (Err Read) same t f = (rest ++ f.0, Passes-then a d e o.text _ _ f.1 (Passes-more d e waits rest f.0 p))
      by (Err Wire) same t f = (rest ++ f.0, Passes-then a d e o.text _ _ f.1 (Passes-more d e waits rest f.0 p))
      by (Err Write) same t f = (f.0, subst (λ (x : Option (List ℕ)). Passes a x o.text f.0) (sym (untouched (sym same))) f.1)

-- a call that was done at its close was done before
pub done_before : (before now : ℕ) (ended result : Result Status Stop) → EndsAs before now ended result → result ≡ Ok Done → ended ≡ Ok Done
done_before before now (Ok old) (Ok status) ends e = let same : status ≡ Done = cc in ap Ok (sym ends ∙ same)
done_before before now (Ok old) (Err stop) ends e = cc
done_before before now (Err stop) result ends e = let no : Err stop ≡ Ok Done = sym ends ∙ e in absurd cc

-- what waited went too
pub lines_gone : (a d e : Option (List ℕ)) (waited waits : List ℕ) (events : List ℕ → List HubEvent) (xs ys : List ℕ) → HasLinesOf events a d waited waits xs ys → Passes d e waits [] → HasLinesOf events a e waited [] xs ys
lines_gone a d e waited waits events xs ys h p = (h.0, h.1, Passes-then a d e (waited ++ event_lines (events h.0)) waits [] h.2 p)

pub err_since : {T : Type 0} (before mid now : ℕ) (r : Result T Stop) (stop was : Stop) → r ≡ Err stop → stop ≡ was → before ≤ mid → mid ≤ now → IsWriteStop mid now was → IsStoppedByWrite before now r
err_since {T} before mid now r stop was is same less after stops = record { later = omega arith; cause = err_so r stop was (IsWriteStop before now) is same (write_since before mid now was less stops) }

-- an error is no value
pub never_ok : {T E : Type 0} (x : E) (y : T) → ◌≡◌ {A = Result T E} (Err x) (Ok y) → ⊥
never_ok {T} {E} x y e = cc

pub never_err : {T E : Type 0} (x : E) (y : T) → ◌≡◌ {A = Result T E} (Ok y) (Err x) → ⊥
never_err {T} {E} x y e = cc

pub other_end : (end : End) → (end ≡ Whole → ⊥) → ◌≡◌ {A = Result End Stop} (Ok end) (Ok Whole) → ⊥
other_end end other e = let same : end ≡ Whole = cc in other same

pub not_refused : (number : ℕ) (fault : CaptureFault) → Refused number fault ≡ Whole → ⊥
not_refused number fault e = cc

pub not_too_long : TooLong ≡ Whole → ⊥
not_too_long e = cc

pub memory_not_read : {T : Type 0} → ◌≡◌ {A = Result T Stop} (Err Memory) (Err Read) → ⊥
memory_not_read {T} e = cc

-- a stop of the sink is one of the source or the sink
pub write_stops_so : (read reads write writes : ℕ) (stop : Stop) → IsWriteStop write writes stop → IsStop read reads write writes stop
write_stops_so read reads write writes Memory stops = tt
write_stops_so read reads write writes Read stops = absurd stops
write_stops_so read reads write writes Write stops = stops
write_stops_so read reads write writes Wire stops = stops

pub match_err : {T : Type 0} (r : Result T Stop) (stop was : Stop) (P : T → Type 0) → r ≡ Err stop → stop ≡ was → was ≡ Memory → MatchResult r P (λ s. s ≡ Memory)
match_err {T} r stop was P is same memory = subst (λ (q : Result T Stop). MatchResult q P (λ s. s ≡ Memory)) (sym is) (same ∙ memory)

-- the same of a call that gives its stop on
pub not_by_sink : {T : Type 0} (before now : ℕ) (r : Result T Stop) (stop was : Stop) → r ≡ Err stop → stop ≡ was → IsWriteStop before now was → r ≡ Err Read → ⊥
not_by_sink {T} before now r stop was is same stops e = by was stops (let read : ◌≡◌ {A = Result T Stop} (Err stop) (Err Read) = sym is ∙ e in let so : stop ≡ Read = cc in sym same ∙ so)
  where
    by : (s : Stop) → IsWriteStop before now s → s ≡ Read → ⊥
    by Memory h q = cc
    by Read h q = h
    by Write h q = cc
    by Wire h q = cc
