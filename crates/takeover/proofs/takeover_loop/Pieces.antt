-- How a journal is followed, piece by piece of its source.
use Rattle.std.proofs.Common.{◌≡◌, ℕ, ◌+◌, Bool, true, false, List, [], ◌++◌, length, take, codes, Option, None, Some, Result, Err, refl, sym, ap, subst, ◌∙◌, arith, append-nil}
use Rattle.std.specs.Prelude.{MatchBool, MatchResult}
use Rattle.std.specs.Io.KnownBytes.{Appends, Consumes, IsAtEnd, Keeps}
use Rattle.std.proofs.KnownBytes.{Consumes-kept, Consumes-nil, Consumes-trans}
use Rattle.std.specs.List.{flat_map}
use Rattle.rams_model.specs.Texts.{whole_lines}
use Rattle.line_io.specs.Passes.{Passes}
use Rattle.line_io.proofs.Passing.{Passes-none, Passes-then}
use Rattle.trace_loop.specs.trace_book.trace_serving.{Outcome}
use Rattle.trace_loop.specs.declared.{Stop.Stop, Stop.TheVariants.Memory}
use Rattle.trace_loop.proofs.Reading.{passes_whole}
use Rattle.serve_loop.specs.{IfBothTold, StopsIn}
use Rattle.takeover.specs.declared.standby.fault.FeedFault.{FeedFault}
use Rattle.takeover.specs.declared.standby.fault.FeedFault.TheVariants.{Line, TooLong, NoMemory}
use Rattle.takeover.specs.standby.{Halted, HasReadSome, Seen, end_from, end_of, rest_of, whole_text}
use Rattle.takeover.proofs.standby.Ending.{stays_ended}
use Rattle.takeover.specs.standby.standby_book.{followed_text}
use Rattle.takeover.specs.takeover_loop.{FollowsWithin, HasFollowed, HoldsItsLines, IsFollowing, IsFresh, IsOver, IsReading, has_lines, left_text}
use Rattle.takeover.proofs.takeover_loop.Lines.{StopsIn-more, followed_grows, followed_whole, over_more, reading_none, reading_over, size_grows, stops_still}

pub nothing_ends : end_of [] ≡ None
unfolding end_from whole_lines rest_of
nothing_ends = refl

pub no_text : whole_text [] ≡ []
unfolding whole_lines
no_text = refl

pub no_rest : rest_of [] ≡ []
unfolding rest_of
no_rest = refl

pub no_lines : has_lines [] ≡ false
unfolding whole_lines
no_lines = refl

pub never : (o : Outcome) → None ≡ Some o → ⊥
never o e = cc

pub unhalted : (ended : Bool) (fault : Option FeedFault) → Halted ended fault None → (ended ≡ false) × (fault ≡ None)
unhalted false None h = (refl, refl)
unhalted true None h = absurd (never _ h.1)
unhalted ended (Some (Line number fault)) h = absurd (never _ h)
unhalted ended (Some TooLong) h = absurd (never _ h)
unhalted ended (Some NoMemory) h = absurd h

-- nothing was read
abbrev pub following_begins : (left held : Option (List ℕ)) (v : Seen) (waits line : List ℕ) (begun : Bool) → IsFresh v waits line begun → IsFollowing left held left held v waits line begun
following_begins left held v waits line begun f =
    let halted = subst (Halted v.ended v.fault) nothing_ends f.read.halted in
    let both = unhalted v.ended v.fault halted in
    record {
      bytes = [];
      taken = Consumes-nil left;
      reading = record {
        read = f.read;
        unended = both.0;
        unrefused = both.1;
        lines = record {
          text = subst (λ (t : List ℕ). Passes held held t waits) (sym no_text) (subst (Passes held held []) (sym f.waiting) (Passes-none held []));
          line_is = f.kept ∙ sym no_rest;
          begun_is = f.unbegun ∙ sym no_lines;
        };
      };
      gone = f.waiting;
    }

pub within_begins : (left held : Option (List ℕ)) (all : List ℕ) (more : ℕ) (sink : ℕ → Type 0) (v : Seen) (waits line : List ℕ) (begun : Bool) → IsFresh v waits line begun → left ≡ Some all → sink (length (followed_text all) + more)
    → FollowsWithin left held all more left sink held v waits line begun
within_begins left held all more sink v waits line begun f is h =
    let none = ap length (followed_whole [] nothing_ends ∙ no_text) in
    let size : length (followed_text all) + more ≡ left_text all [] + more = omega (arith, none) in
    record { following = following_begins left held v waits line begun f; told = is; room = subst sink size h }

told_rest : (o : Option (List ℕ)) (bs all : List ℕ) → Consumes (Some all) o bs → (ys : List ℕ) × (o ≡ Some ys) × (all ≡ bs ++ ys)
told_rest None bs all h = absurd h
told_rest (Some ys) bs all h = (ys, refl, h)

at_end : (o : Option (List ℕ)) (ys : List ℕ) → o ≡ Some ys → IsAtEnd o → ys ≡ []
at_end o ys is end = subst IsAtEnd is end

-- what waits goes to the sink
pub reading_flushed : (held holds later : Option (List ℕ)) (v : Seen) (waits left line : List ℕ) (begun : Bool) (bytes : List ℕ) → IsReading held holds v waits line begun bytes → Passes holds later waits left → IsReading held later v left line begun bytes
reading_flushed held holds later v waits left line begun bytes r p = record {
  read = r.read;
  unended = r.unended;
  unrefused = r.unrefused;
  lines = record { text = Passes-then held holds later (whole_text bytes) waits left r.lines.text p; line_is = r.lines.line_is; begun_is = r.lines.begun_is };
}

pub over_flushed : (held holds later : Option (List ℕ)) (v : Seen) (waits left : List ℕ) (begun : Bool) (bytes : List ℕ) → IsOver held holds v waits begun bytes × (end_of bytes ≡ None → ⊥) → Passes holds later waits left
    → IsOver held later v left begun bytes × (end_of bytes ≡ None → ⊥)
over_flushed held holds later v waits left begun bytes o p = (record { read = o.0.read; text = Passes-then held holds later (followed_text bytes) waits left o.0.text p; begun_is = o.0.begun_is }, o.1)

-- behind the end of a journal nothing is followed
pub ends_same : (bytes more : List ℕ) → (end_of bytes ≡ None → ⊥) → length (followed_text (bytes ++ more)) ≡ length (followed_text bytes)
ends_same bytes more ended = by (end_of bytes) refl
  where
    by : (o : Option Outcome) → end_of bytes ≡ o → length (followed_text (bytes ++ more)) ≡ length (followed_text bytes)
    by None is = absurd (ended is)
    by (Some o) is = ap (λ (ls : List (List ℕ)). length (flat_map (λ (line : List ℕ). line ++ codes "\n") ls)) (stays_ended bytes more o is).takes

module _ (left_then held left holds : Option (List ℕ)) (v : Seen) (waits line : List ℕ) (begun : Bool) (f : IsFollowing left_then held left holds v waits line begun) where
  -- the bytes so far, a piece, and what is left
  parts : (leaves : Option (List ℕ)) (piece all : List ℕ) → Consumes left leaves piece → left_then ≡ Some all → (ys : List ℕ) × (leaves ≡ Some ys) × (all ≡ (f.bytes ++ piece) ++ ys)
  parts leaves piece all p is = told_rest leaves (f.bytes ++ piece) all (subst (λ (o : Option (List ℕ)). Consumes o leaves (f.bytes ++ piece)) is (Consumes-trans left_then left leaves f.bytes piece f.taken p))

  at_end_whole : (leaves : Option (List ℕ)) → Consumes left leaves [] → IsAtEnd leaves → (all : List ℕ) → left_then ≡ Some all → all ≡ f.bytes
  at_end_whole leaves p end all is =
      let q = parts leaves [] all p is in
      q.2 ∙ ap (λ (l : List ℕ). (f.bytes ++ []) ++ l) (at_end leaves q.0 q.1 end) ∙ append-nil (f.bytes ++ []) ∙ append-nil f.bytes

  -- the source is at its end
  pub followed_at_end : (leaves : Option (List ℕ)) → Consumes left leaves [] → IsAtEnd leaves → HasFollowed left_then held holds v waits begun
  followed_at_end leaves p end = record {
    some = (f.bytes, f.reading.read);
    told = λ all is. subst (IsOver held holds v waits begun) (sym (at_end_whole leaves p end all is)) (reading_over held holds v waits line begun f.bytes f.reading);
    gone = f.gone;
  }

  pub room_at_end : (leaves : Option (List ℕ)) (sink : ℕ → Type 0) (all : List ℕ) (more : ℕ) → Consumes left leaves [] → IsAtEnd leaves → left_then ≡ Some all → sink (left_text all f.bytes + more) → sink more
  room_at_end leaves sink all more p end is h =
      let none = ap (λ (l : List ℕ). length (followed_text l)) (at_end_whole leaves p end all is) in
      let size : left_text all f.bytes + more ≡ more = omega (arith, none) in
      subst sink size h

  module _ (leaves : Option (List ℕ)) (piece : List ℕ) (p : Consumes left leaves piece) where
    -- the room for what is left is that for the piece, and for what is left then
    pub room_parts : (sink : ℕ → Type 0) (all : List ℕ) (more : ℕ) → left_then ≡ Some all → sink (left_text all f.bytes + more) → sink (left_text (f.bytes ++ piece) f.bytes + (left_text all (f.bytes ++ piece) + more))
    room_parts sink all more is h =
        let q = parts leaves piece all p is in
        let first = size_grows f.bytes piece in
        let whole = size_grows (f.bytes ++ piece) q.0 in
        let same = ap (λ (l : List ℕ). length (followed_text l)) q.2 in
        let size : left_text all f.bytes + more ≡ left_text (f.bytes ++ piece) f.bytes + (left_text all (f.bytes ++ piece) + more) = omega (arith, first, whole, same) in
        subst sink size h

    -- none is left where the piece ends the journal
    pub room_over : (sink : ℕ → Type 0) (all : List ℕ) (more : ℕ) → left_then ≡ Some all → (end_of (f.bytes ++ piece) ≡ None → ⊥) → sink (left_text all (f.bytes ++ piece) + more) → sink more
    room_over sink all more is ended h =
        let q = parts leaves piece all p is in
        let same = ap (λ (l : List ℕ). length (followed_text l)) q.2 ∙ ends_same (f.bytes ++ piece) q.0 ended in
        let size : left_text all (f.bytes ++ piece) + more ≡ more = omega (arith, same) in
        subst sink size h

    module _ (holding : Option (List ℕ)) (w : Seen) (waiting kept : List ℕ) (began : Bool) where
      -- a piece ends the journal
      pub followed_by : IsOver held holding w waiting began (f.bytes ++ piece) × (end_of (f.bytes ++ piece) ≡ None → ⊥) → waiting ≡ [] → HasReadSome w → HasFollowed left_then held holding w waiting began
      followed_by over none some = record {
        some = some;
        told = λ all is. let q = parts leaves piece all p is in subst (IsOver held holding w waiting began) (sym q.2) (over_more held holding w waiting began (f.bytes ++ piece) q.0 over).0;
        gone = none;
      }

      -- the journal goes on behind it
      abbrev pub follows_on : IsReading held holding w waiting kept began (f.bytes ++ piece) → waiting ≡ [] → IsFollowing left_then held leaves holding w waiting kept began
      follows_on reading none = record { bytes = f.bytes ++ piece; taken = Consumes-trans left_then left leaves f.bytes piece f.taken p; reading = reading; gone = none }

      -- something stopped it in this piece
      pub piece_stops : (stop : Stop) → StopsIn held holding (followed_text (f.bytes ++ piece)) waiting stop → (all : List ℕ) → left_then ≡ Some all → StopsIn held holding (followed_text all) waiting stop
      piece_stops stop s all is =
          let q = parts leaves piece all p is in
          let g = followed_grows (f.bytes ++ piece) q.0 in
          subst (λ (t : List ℕ). StopsIn held holding t waiting stop) (sym (ap followed_text q.2 ∙ g.1)) (StopsIn-more held holding (followed_text (f.bytes ++ piece)) g.0 waiting stop s)

    -- what waited goes to the sink
    pub next_goes : (goes : Bool) (mid later : Option (List ℕ)) (w : Seen) (waiting still kept : List ℕ) (began : Bool)
        → MatchBool goes (IsReading held mid w waiting kept began (f.bytes ++ piece)) (IsOver held mid w waiting began (f.bytes ++ piece) × (end_of (f.bytes ++ piece) ≡ None → ⊥)) → Passes mid later waiting still → still ≡ [] → HasReadSome w
        → MatchBool goes (IsFollowing left_then held leaves later w still kept began) (HasFollowed left_then held later w still began)
    next_goes true mid later w waiting still kept began r q none some = follows_on later w still kept began (reading_flushed held mid later w waiting still kept began (f.bytes ++ piece) r q) none
    next_goes false mid later w waiting still kept began r q none some = followed_by later w still kept began (over_flushed held mid later w waiting still began (f.bytes ++ piece) r q) none some

    pub next_room : (goes : Bool) (mid later : Option (List ℕ)) (sink : ℕ → Type 0) (all : List ℕ) (more : ℕ) (w : Seen) (waiting still kept : List ℕ) (began : Bool)
        → MatchBool goes (IsReading held mid w waiting kept began (f.bytes ++ piece)) (IsOver held mid w waiting began (f.bytes ++ piece) × (end_of (f.bytes ++ piece) ≡ None → ⊥)) → Passes mid later waiting still → still ≡ [] → left_then ≡ Some all
        → sink (left_text all (f.bytes ++ piece) + more) → MatchBool goes (FollowsWithin left_then held all more leaves sink later w still kept began) (sink more)
    next_room true mid later sink all more w waiting still kept began r q none is h =
        record { following = follows_on later w still kept began (reading_flushed held mid later w waiting still kept began (f.bytes ++ piece) r q) none; told = is; room = h }
    next_room false mid later sink all more w waiting still kept began r q none is h = room_over sink all more is r.1 h

    -- what went of the lines so far
    pub piece_text : (goes : Bool) (mid : Option (List ℕ)) (w : Seen) (waiting kept : List ℕ) (began : Bool)
        → MatchBool goes (IsReading held mid w waiting kept began (f.bytes ++ piece)) (IsOver held mid w waiting began (f.bytes ++ piece) × (end_of (f.bytes ++ piece) ≡ None → ⊥)) → Passes held mid (followed_text (f.bytes ++ piece)) waiting
    piece_text true mid w waiting kept began r =
        subst (λ (t : List ℕ). Passes held mid t waiting) (sym (followed_whole (f.bytes ++ piece) (reading_none held mid w waiting kept began (f.bytes ++ piece) r))) r.lines.text
    piece_text false mid w waiting kept began r = r.0.text

  -- the source fails
  pub read_stops : (stop : Stop) (all : List ℕ) → left_then ≡ Some all → StopsIn held holds (followed_text all) waits stop
  read_stops stop all is =
      let q = told_rest left f.bytes all (subst (λ (o : Option (List ℕ)). Consumes o left f.bytes) is f.taken) in
      let g = followed_grows f.bytes q.0 in
      let text = subst (λ (t : List ℕ). Passes held holds t waits) (sym (followed_whole f.bytes (reading_none held holds v waits line begun f.bytes f.reading))) f.reading.lines.text in
      subst (λ (t : List ℕ). StopsIn held holds t waits stop) (sym (ap followed_text q.2 ∙ g.1)) (StopsIn-more held holds (followed_text f.bytes) g.0 waits stop (stops_still held holds (followed_text f.bytes) waits stop text))

  -- then the sink holds the whole lines of what was taken
  pub read_cut : (leaves : Option (List ℕ)) → Keeps left leaves → IfBothTold left_then leaves (HoldsItsLines held holds)
  read_cut leaves same = by left_then leaves (Consumes-kept left_then left leaves f.bytes f.taken same)
    where
      text : Appends held holds (whole_text f.bytes)
      text = passes_whole held holds (whole_text f.bytes) (subst (Passes held holds (whole_text f.bytes)) f.gone f.reading.lines.text)

      by : (a b : Option (List ℕ)) → Consumes a b f.bytes → IfBothTold a b (HoldsItsLines held holds)
      by None b h = tt
      by (Some all) None h = h
      by (Some all) (Some ys) h = record { taken = f.bytes; whole = h; text = text }

-- room where nothing waits
pub none_waits : (sink : ℕ → Type 0) (waits : List ℕ) (first rest : ℕ) → waits ≡ [] → sink (first + rest) → sink (length waits + first + rest)
none_waits sink waits first rest none h =
    let zero = ap length none in
    let size : first + rest ≡ length waits + first + rest = omega (arith, zero) in
    subst sink size h

-- no byte was given
pub consumes_none : (a b : Option (List ℕ)) (n : ℕ) (buf : List ℕ) → n ≡ 0 → Consumes a b (take n buf) → Consumes a b []
consumes_none a b n buf none h = subst (λ (k : ℕ). Consumes a b (take k buf)) none h

-- the one or the other
pub if_true : (t : Bool) (P Q : Type 0) → t ≡ true → MatchBool t P Q → P
if_true t P Q is h = subst (λ (x : Bool). MatchBool x P Q) is h

pub if_false : (t : Bool) (P Q : Type 0) → t ≡ false → MatchBool t P Q → Q
if_false t P Q is h = subst (λ (x : Bool). MatchBool x P Q) is h

-- only want of memory stopped it
pub err_memory : {T : Type 0} (r : Result T Stop) (P : T → Type 0) (stop : Stop) → r ≡ Err stop → stop ≡ Memory → MatchResult r P (λ s. s ≡ Memory)
err_memory r P stop is memory = subst (λ (x : Result _ Stop). MatchResult x P (λ s. s ≡ Memory)) (sym is) memory
