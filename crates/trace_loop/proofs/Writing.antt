-- The steps of writing a text, piece by piece.
use Rattle.std.proofs.Common.{◌≡◌, ℕ, ◌+◌, ◌≤◌, List, [], ◌++◌, length, Option, refl, sym, ap, ◌∙◌, subst, append_assoc, append-nil, length-append, arith}
use Rattle.line_io.specs.Passes.{Passes}
use Rattle.line_io.proofs.Passing.{Passes-none, Passes-put, Passes-more}
use Rattle.trace_loop.specs.declared.{stop.Stop.Stop, turn.Turn.Turn}
use Rattle.trace_loop.specs.{StopsIn, last_line, written}
use Rattle.trace_loop.specs.declared.turn.Turn.TheVariants.{GoesOn, Said, Refused, TooLong, Done}
use Rattle.trace_loop.specs.declared.stop.Stop.TheVariants.{Memory, Read, Write, Wire}

-- the call stops where the rest waits, or would
pub stops_before : (a b : Option (List ℕ)) (text waits more : List ℕ) (stop : Stop) → Passes a b text (waits ++ more) → StopsIn a b text waits stop
stops_before a b text waits more Memory p = (more, p)
stops_before a b text waits more Read p = (more, p)
stops_before a b text waits more Write p = (waits ++ more, p)
stops_before a b text waits more Wire p = (more, p)

-- nothing is written yet
pub unwritten : (a : Option (List ℕ)) (waits text : List ℕ) (stop : Stop) → StopsIn a a (waits ++ text) waits stop
unwritten a waits text stop = stops_before a a (waits ++ text) waits text stop (Passes-none a (waits ++ text))

-- While a text is written: what the sink held and holds, how often it had failed and has, what waits, and what is still to be written; the sink takes the rest where it took all.
pub record IsWriting (a b : Option (List ℕ)) (before now : ℕ) (steady_then steady : ℕ → Type 0) (whole waiting later : List ℕ) : Type 0 where
  pub written : List ℕ
  pub passes : Passes a b written waiting
  pub joins : whole ≡ written ++ later
  pub faults : before ≤ now
  pub steadily : (room : ℕ) → steady_then (length whole + room) → steady (length waiting + length later + room)

module _ (a b : Option (List ℕ)) (before now : ℕ) (steady_then steady : ℕ → Type 0) where
  pub writing_begins : (waiting text : List ℕ) → a ≡ b → before ≡ now → ((n : ℕ) → steady_then n → steady n) → IsWriting a b before now steady_then steady (waiting ++ text) waiting text
  writing_begins waiting text same never goes = record {
    written = waiting;
    passes = subst (λ (o : Option (List ℕ)). Passes a o waiting waiting) same (Passes-none a waiting);
    joins = refl;
    faults = omega arith;
    steadily = λ room s. subst steady (ap (λ n. n + room) (length-append waiting text)) (goes (length (waiting ++ text) + room) s);
  }

  -- there is room for the next piece
  pub writing_has_room : (whole waiting later piece rest : List ℕ) → IsWriting a b before now steady_then steady whole waiting later → later ≡ piece ++ rest
      → (room : ℕ) → steady_then (length whole + room) → steady (length waiting + length piece + (length rest + room))
  writing_has_room whole waiting later piece rest w e room s =
      let lengths : length later ≡ length piece + length rest = ap length e ∙ length-append piece rest in
      let order : length waiting + length later + room ≡ length waiting + length piece + (length rest + room) = omega arith in
      subst steady order (w.steadily room s)

  -- one piece more
  pub writing_goes_on : (c : Option (List ℕ)) (later_now : ℕ) (steady_now : ℕ → Type 0) (whole waiting later piece rest waits : List ℕ)
      → IsWriting a b before now steady_then steady whole waiting later → later ≡ piece ++ rest → Passes b c (waiting ++ piece) waits → now ≤ later_now
      → ((room : ℕ) → steady (length waiting + length piece + room) → steady_now (length waits + room)) → IsWriting a c before later_now steady_then steady_now whole waits rest
  writing_goes_on c later_now steady_now whole waiting later piece rest waits w e p faults goes =
      let f = w.faults in
      record {
        written = w.written ++ piece;
        passes = Passes-put a b c w.written waiting piece waits w.passes p;
        joins = w.joins ∙ ap (λ (l : List ℕ). w.written ++ l) e ∙ sym (append_assoc w.written piece rest);
        faults = omega arith;
        steadily = λ room s.
            let after : length waits + (length rest + room) ≡ length waits + length rest + room = omega arith in
            subst steady_now after (goes (length rest + room) (writing_has_room whole waiting later piece rest w e room s));
      }

  -- a part of one piece more
  pub writing_stops : (c : Option (List ℕ)) (whole waiting later piece rest waits : List ℕ) (stop : Stop) → IsWriting a b before now steady_then steady whole waiting later → later ≡ piece ++ rest
      → StopsIn b c (waiting ++ piece) waits stop → StopsIn a c whole waits stop
  writing_stops c whole waiting later piece rest waits stop w e p =
      let same : (w.written ++ piece) ++ rest ≡ whole = append_assoc w.written piece rest ∙ ap (λ (l : List ℕ). w.written ++ l) (sym e) ∙ sym w.joins in
      let put = λ (left : List ℕ) (q : Passes b c (waiting ++ piece) left). Passes-more a c (w.written ++ piece) left rest (Passes-put a b c w.written waiting piece left w.passes q) in
      subst (λ (l : List ℕ). StopsIn a c l waits stop) same (by_stop stop p put)
    where
      by_stop : {text : List ℕ} (s : Stop) → StopsIn b c (waiting ++ piece) waits s → ((left : List ℕ) → Passes b c (waiting ++ piece) left → Passes a c text (left ++ rest)) → StopsIn a c text waits s
      by_stop {text} Memory p put = (p.0 ++ rest, subst (λ (l : List ℕ). Passes a c text l) (append_assoc waits p.0 rest) (put (waits ++ p.0) p.1))
      by_stop {text} Read p put = (p.0 ++ rest, subst (λ (l : List ℕ). Passes a c text l) (append_assoc waits p.0 rest) (put (waits ++ p.0) p.1))
      by_stop {text} Write p put = (p.0 ++ rest, put p.0 p.1)
      by_stop {text} Wire p put = (p.0 ++ rest, subst (λ (l : List ℕ). Passes a c text l) (append_assoc waits p.0 rest) (put (waits ++ p.0) p.1))

  -- nothing more is written
  pub writing_breaks : (whole waiting later : List ℕ) (stop : Stop) → IsWriting a b before now steady_then steady whole waiting later → StopsIn a b whole waiting stop
  writing_breaks whole waiting later stop w = stops_before a b whole waiting later stop (subst (λ (l : List ℕ). Passes a b l (waiting ++ later)) (sym w.joins) (Passes-more a b w.written waiting later w.passes))

  -- nothing is left to be written
  pub writing_ends : (whole waiting later : List ℕ) → IsWriting a b before now steady_then steady whole waiting later → later ≡ [] → Passes a b whole waiting
  writing_ends whole waiting later w e =
      subst (λ (l : List ℕ). Passes a b l waiting) (sym (w.joins ∙ ap (λ (l : List ℕ). w.written ++ l) e ∙ append-nil w.written)) w.passes

  pub writing_ends_steadily : (whole waiting later : List ℕ) → IsWriting a b before now steady_then steady whole waiting later → later ≡ [] → (room : ℕ) → steady_then (length whole + room) → steady (length waiting + room)
  writing_ends_steadily whole waiting later w e room s =
      let none : length later ≡ 0 = ap length e in
      let same : length waiting + length later + room ≡ length waiting + room = omega arith in
      subst steady same (w.steadily room s)

-- what is written for a turn that answers nothing
pub written_last : {A : Type 0} (lines : A → List ℕ) (number : ℕ) (t : Turn A) → ((a : A) → t ≡ Said a → ⊥) → last_line number t ≡ written lines number t
written_last lines number (Said a) none = absurd (none a refl)
written_last lines number GoesOn none = refl
written_last lines number (Refused fault) none = refl
written_last lines number TooLong none = refl
written_last lines number (Done events) none = refl
