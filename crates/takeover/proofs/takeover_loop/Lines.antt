-- How the lines of a journal are kept, piece by piece.
use Rattle.std.proofs.Common.{◌≡◌, ℕ, zero, suc, ◌+◌, ◌-◌, ◌<◌, ◌≤◌, ◌==◌, ltb, Bool, true, false, List, [], ◌∷◌, ◌++◌, length, get_or, codes, Option, None, Some, inl, inr, refl, sym, ap, subst, ◌∙◌, arith, length-append, append_assoc, append-nil}
use Rattle.std.specs.List.{flat_map}
use Rattle.std.proofs.lemmas.Bool.{lt-ltb}
use Rattle.std.proofs.lemmas.List.{get_or_at}
use Rattle.std.proofs.lemmas.List.Concat.{flat_map-append}
use Rattle.rams_model.specs.Texts.{whole_lines}
use Rattle.line_io.specs.{HasNoFeed}
use Rattle.line_io.specs.Passes.{Passes}
use Rattle.line_io.proofs.Passing.{Passes-more, Passes-then}
use Rattle.trace_loop.specs.trace_book.trace_serving.{Outcome}
use Rattle.trace_loop.specs.declared.Stop.{Stop}
use Rattle.trace_loop.specs.declared.Stop.TheVariants.{Memory, Read, Write, Wire}
use Rattle.serve_loop.specs.{StopsIn}
use Rattle.takeover.specs.standby.{HasRead, Seen, end_of, lines_followed, rest_of, whole_text}
use Rattle.takeover.proofs.standby.Ending.{all_followed, followed_more, line_unfollowed, part_unfollowed, read_still, stays_ended}
use Rattle.takeover.proofs.standby.Pieces.{IsFirst, no_line_more, nothing_left, one_line_more, rest_longer}
use Rattle.takeover.proofs.standby.Reading.{none_yet}
use Rattle.takeover.specs.standby.standby_book.{followed_text}
use Rattle.takeover.specs.takeover_loop.{IsOver, IsReading, KeepsLines, has_lines, is_fed, left_text}

-- the last byte of what has no line feed, and of what ends with one
unfed_at : (xs : List ℕ) (k : ℕ) → HasNoFeed xs → (get_or xs k 0 == 10) ≡ false
unfed_at [] k clean = refl
unfed_at (x ∷ xs) zero clean = clean.0
unfed_at (x ∷ xs) (suc k) clean = unfed_at xs k clean.1

pub unfed : (xs : List ℕ) → HasNoFeed xs → is_fed xs ≡ false
unfed xs clean = unfed_at xs (length xs - 1) clean

pub fed : (front : List ℕ) → is_fed (front ++ 10 ∷ []) ≡ true
fed front =
    let place : length front ≡ length (front ++ 10 ∷ []) - 1 = omega (arith, length-append front (10 ∷ [])) in
    ap (λ n. n == 10) (get_or_at front 10 [] 0 (length (front ++ 10 ∷ []) - 1) place)

-- what a part of a piece is, by its last byte
pub unfed_clean : (part : List ℕ) → IsFirst part → is_fed part ≡ false → HasNoFeed part
unfed_clean part (inl clean) unfed_is = clean
unfed_clean part (inr is) unfed_is = let fed_is = ap is_fed is.2 ∙ fed is.0 in absurd cc

pub fed_line : (part : List ℕ) → IsFirst part → is_fed part ≡ true → (front : List ℕ) × HasNoFeed front × (part ≡ front ++ 10 ∷ [])
fed_line part (inl clean) fed_is = let unfed_is = unfed part clean in absurd cc
fed_line part (inr is) fed_is = is

text_same : (bytes part : List ℕ) → HasNoFeed part → whole_text (bytes ++ part) ≡ whole_text bytes
text_same bytes part clean = ap (flat_map (λ (line : List ℕ). line ++ codes "\n")) (no_line_more bytes part clean)

text_more : (bytes part front : List ℕ) → HasNoFeed front → part ≡ front ++ 10 ∷ [] → whole_text (bytes ++ part) ≡ whole_text bytes ++ (rest_of bytes ++ part)
text_more bytes part front clean is =
    let line = rest_of bytes ++ front in
    ap (λ (l : List ℕ). whole_text (bytes ++ l)) is
    ∙ ap (flat_map (λ (line : List ℕ). line ++ codes "\n")) (one_line_more bytes front clean)
    ∙ flat_map-append (λ (line : List ℕ). line ++ codes "\n") (whole_lines bytes) (line ∷ [])
    ∙ ap (λ (l : List ℕ). whole_text bytes ++ l) (append-nil (line ++ 10 ∷ []) ∙ append_assoc (rest_of bytes) front (10 ∷ []) ∙ ap (λ (l : List ℕ). rest_of bytes ++ l) (sym is))

pub text_grows : (bytes part : List ℕ) → IsFirst part → (more : List ℕ) × (whole_text (bytes ++ part) ≡ whole_text bytes ++ more)
text_grows bytes part (inl clean) = ([], text_same bytes part clean ∙ sym (append-nil (whole_text bytes)))
text_grows bytes part (inr is) = (rest_of bytes ++ part, text_more bytes part is.0 is.1 is.2)

-- more of a line that isn't whole
pub kept_part : (held holds : Option (List ℕ)) (waits line : List ℕ) (begun : Bool) (bytes part : List ℕ) → HasNoFeed part → KeepsLines held holds waits line begun bytes
    → KeepsLines held holds waits (line ++ part) begun (bytes ++ part)
kept_part held holds waits line begun bytes part clean k = record {
  text = subst (λ (t : List ℕ). Passes held holds t waits) (sym (text_same bytes part clean)) k.text;
  line_is = ap (λ (l : List ℕ). l ++ part) k.line_is ∙ sym (rest_longer bytes part clean);
  begun_is = k.begun_is ∙ ap (λ (ls : List (List ℕ)). ltb 0 (length ls)) (sym (no_line_more bytes part clean));
}

-- the line that is whole with this part
pub kept_line : (held holds later : Option (List ℕ)) (waits line left : List ℕ) (begun : Bool) (bytes part front : List ℕ) → HasNoFeed front → part ≡ front ++ 10 ∷ [] → KeepsLines held holds waits line begun bytes
    → Passes holds later (waits ++ (line ++ part)) left → KeepsLines held later left [] true (bytes ++ part)
kept_line held holds later waits line left begun bytes part front clean is k p = record {
  text =
      let whole = subst (λ (l : List ℕ). Passes holds later (waits ++ (l ++ part)) left) k.line_is p in
      subst (λ (t : List ℕ). Passes held later t left) (sym (text_more bytes part front clean is))
      (Passes-then held holds later (whole_text bytes ++ (rest_of bytes ++ part)) (waits ++ (rest_of bytes ++ part)) left (Passes-more held holds (whole_text bytes) waits (rest_of bytes ++ part) k.text) whole);
  line_is = sym (ap (λ (l : List ℕ). rest_of (bytes ++ l)) is ∙ nothing_left bytes front clean);
  begun_is =
      let size = length-append (whole_lines bytes) ((rest_of bytes ++ front) ∷ []) in
      let some : 0 < length (whole_lines bytes ++ (rest_of bytes ++ front) ∷ []) = omega (arith, size) in
      sym (ap (λ (l : List ℕ). has_lines (bytes ++ l)) is ∙ ap (λ (ls : List (List ℕ)). ltb 0 (length ls)) (one_line_more bytes front clean) ∙ lt-ltb 0 (length (whole_lines bytes ++ (rest_of bytes ++ front) ∷ [])) some);
}

-- a text goes on behind what stopped
pub StopsIn-more : (a b : Option (List ℕ)) (text more waits : List ℕ) (stop : Stop) → StopsIn a b text waits stop → StopsIn a b (text ++ more) waits stop
StopsIn-more a b text more waits Memory s = (s.0 ++ more, subst (λ (l : List ℕ). Passes a b (text ++ more) l) (append_assoc waits s.0 more) (Passes-more a b text (waits ++ s.0) more s.1))
StopsIn-more a b text more waits Read s = (s.0 ++ more, subst (λ (l : List ℕ). Passes a b (text ++ more) l) (append_assoc waits s.0 more) (Passes-more a b text (waits ++ s.0) more s.1))
StopsIn-more a b text more waits Write s = (s.0 ++ more, Passes-more a b text s.0 more s.1)
StopsIn-more a b text more waits Wire s = (s.0 ++ more, subst (λ (l : List ℕ). Passes a b (text ++ more) l) (append_assoc waits s.0 more) (Passes-more a b text (waits ++ s.0) more s.1))

-- nothing more goes
pub stops_still : (a b : Option (List ℕ)) (text waits : List ℕ) (stop : Stop) → Passes a b text waits → StopsIn a b text waits stop
stops_still a b text waits Memory p = ([], subst (λ (l : List ℕ). Passes a b text l) (sym (append-nil waits)) p)
stops_still a b text waits Read p = ([], subst (λ (l : List ℕ). Passes a b text l) (sym (append-nil waits)) p)
stops_still a b text waits Write p = (waits, p)
stops_still a b text waits Wire p = ([], subst (λ (l : List ℕ). Passes a b text l) (sym (append-nil waits)) p)

pub kept_stops : (held holds : Option (List ℕ)) (waits line : List ℕ) (begun : Bool) (bytes part : List ℕ) (stop : Stop) → IsFirst part → KeepsLines held holds waits line begun bytes → StopsIn held holds (whole_text (bytes ++ part)) waits stop
kept_stops held holds waits line begun bytes part stop first k =
    let more = text_grows bytes part first in
    subst (λ (t : List ℕ). StopsIn held holds t waits stop) (sym more.1) (StopsIn-more held holds (whole_text bytes) more.0 waits stop (stops_still held holds (whole_text bytes) waits stop k.text))

pub line_stops : (held holds later : Option (List ℕ)) (waits line left : List ℕ) (begun : Bool) (bytes part front : List ℕ) (stop : Stop) → HasNoFeed front → part ≡ front ++ 10 ∷ [] → KeepsLines held holds waits line begun bytes
    → StopsIn holds later (waits ++ (line ++ part)) left stop → StopsIn held later (whole_text (bytes ++ part)) left stop
line_stops held holds later waits line left begun bytes part front stop clean is k s =
    let whole = subst (λ (l : List ℕ). StopsIn holds later (waits ++ (l ++ part)) left stop) k.line_is s in
    subst (λ (t : List ℕ). StopsIn held later t left stop) (sym (text_more bytes part front clean is)) (by stop whole)
  where
    before : Passes held holds (whole_text bytes ++ (rest_of bytes ++ part)) (waits ++ (rest_of bytes ++ part))
    before = Passes-more held holds (whole_text bytes) waits (rest_of bytes ++ part) k.text

    then : (rest : List ℕ) → Passes holds later (waits ++ (rest_of bytes ++ part)) rest → Passes held later (whole_text bytes ++ (rest_of bytes ++ part)) rest
    then rest p = Passes-then held holds later (whole_text bytes ++ (rest_of bytes ++ part)) (waits ++ (rest_of bytes ++ part)) rest before p

    by : (x : Stop) → StopsIn holds later (waits ++ (rest_of bytes ++ part)) left x → StopsIn held later (whole_text bytes ++ (rest_of bytes ++ part)) left x
    by Memory q = (q.0, then (left ++ q.0) q.1)
    by Read q = (q.0, then (left ++ q.0) q.1)
    by Write q = (q.0, then q.0 q.1)
    by Wire q = (q.0, then (left ++ q.0) q.1)

-- the room for a part that makes no line, and for one that does
pub part_room : (sink : ℕ → Type 0) (waits bytes part : List ℕ) (room : ℕ) → HasNoFeed part → sink (length waits + (length (whole_text (bytes ++ part)) - length (whole_text bytes)) + room) → sink (length waits + room)
part_room sink waits bytes part room clean h =
    let same = ap length (text_same bytes part clean) in
    let size : length waits + (length (whole_text (bytes ++ part)) - length (whole_text bytes)) + room ≡ length waits + room = omega (arith, same) in
    subst sink size h

pub line_room : (sink : ℕ → Type 0) (held holds : Option (List ℕ)) (waits line : List ℕ) (begun : Bool) (bytes part front : List ℕ) (room : ℕ) → HasNoFeed front → part ≡ front ++ 10 ∷ [] → KeepsLines held holds waits line begun bytes
    → sink (length waits + (length (whole_text (bytes ++ part)) - length (whole_text bytes)) + room) → sink (length waits + length (line ++ part) + room)
line_room sink held holds waits line begun bytes part front room clean is k h =
    let all = ap length (text_more bytes part front clean is) ∙ length-append (whole_text bytes) (rest_of bytes ++ part) in
    let same = ap (λ (l : List ℕ). length (l ++ part)) k.line_is in
    let size : length waits + (length (whole_text (bytes ++ part)) - length (whole_text bytes)) + room ≡ length waits + length (line ++ part) + room = omega (arith, all, same) in
    subst sink size h

-- where nothing ended a journal all of its whole lines are followed
pub followed_whole : (bytes : List ℕ) → end_of bytes ≡ None → followed_text bytes ≡ whole_text bytes
followed_whole bytes none = ap (flat_map (λ (line : List ℕ). line ++ codes "\n")) (all_followed bytes none)

unfollowed : (bytes part : List ℕ) (o : Outcome) → IsFirst part → end_of bytes ≡ None → end_of (bytes ++ part) ≡ Some o → lines_followed (bytes ++ part) ≡ whole_lines bytes
unfollowed bytes part o (inl clean) none ends = part_unfollowed bytes part none clean
unfollowed bytes part o (inr is) none ends =
    let there = ap (λ (l : List ℕ). end_of (bytes ++ l)) (sym is.2) ∙ ends in
    ap (λ (l : List ℕ). lines_followed (bytes ++ l)) is.2 ∙ line_unfollowed bytes is.0 o none is.1 there

-- a part that ends the journal adds no line
pub unfollowed_text : (bytes part : List ℕ) (o : Outcome) → IsFirst part → end_of bytes ≡ None → end_of (bytes ++ part) ≡ Some o → followed_text (bytes ++ part) ≡ whole_text bytes
unfollowed_text bytes part o first none ends = ap (flat_map (λ (line : List ℕ). line ++ codes "\n")) (unfollowed bytes part o first none ends)

-- what is followed of more bytes begins with what is followed of the first
pub followed_grows : (bytes more : List ℕ) → (rest : List ℕ) × (followed_text (bytes ++ more) ≡ followed_text bytes ++ rest)
followed_grows bytes more = by (end_of bytes) refl
  where
    by : (o : Option Outcome) → end_of bytes ≡ o → (rest : List ℕ) × (followed_text (bytes ++ more) ≡ followed_text bytes ++ rest)
    by (Some o) is =
        let same = (stays_ended bytes more o is).takes in
        ([], ap (flat_map (λ (line : List ℕ). line ++ codes "\n")) same ∙ sym (append-nil (followed_text bytes)))
    by None is =
        let others = followed_more bytes is more in (
          flat_map (λ (line : List ℕ). line ++ codes "\n") others.0,
          ap (flat_map (λ (line : List ℕ). line ++ codes "\n")) others.1 ∙ flat_map-append (λ (line : List ℕ). line ++ codes "\n") (whole_lines bytes) others.0
              ∙ ap (λ (t : List ℕ). t ++ flat_map (λ (line : List ℕ). line ++ codes "\n") others.0) (sym (followed_whole bytes is)),
        )

pub size_grows : (bytes more : List ℕ) → length (followed_text bytes) ≤ length (followed_text (bytes ++ more))
size_grows bytes more = let g = followed_grows bytes more in omega (arith, ap length g.1 ∙ length-append (followed_text bytes) g.0)

-- nothing has ended a journal that is read on
pub reading_none : (held holds : Option (List ℕ)) (v : Seen) (waits line : List ℕ) (begun : Bool) (bytes : List ℕ) → IsReading held holds v waits line begun bytes → end_of bytes ≡ None
reading_none held holds v waits line begun bytes r = none_yet v.ended v.fault (end_of bytes) r.read.halted r.unended r.unrefused

-- the input ends
pub reading_over : (held holds : Option (List ℕ)) (v : Seen) (waits line : List ℕ) (begun : Bool) (bytes : List ℕ) → IsReading held holds v waits line begun bytes → IsOver held holds v waits begun bytes
reading_over held holds v waits line begun bytes r =
    let none = reading_none held holds v waits line begun bytes r in
    record {
      read = r.read;
      text = subst (λ (t : List ℕ). Passes held holds t waits) (sym (followed_whole bytes none)) r.lines.text;
      begun_is = λ e. r.lines.begun_is;
    }

-- a part of the journal ends it
pub part_over : (held holds : Option (List ℕ)) (v w : Seen) (waits line : List ℕ) (begun : Bool) (bytes part : List ℕ) (o : Outcome) → IsFirst part → IsReading held holds v waits line begun bytes → HasRead w (bytes ++ part)
    → end_of (bytes ++ part) ≡ Some o → IsOver held holds w waits begun (bytes ++ part) × (end_of (bytes ++ part) ≡ None → ⊥)
part_over held holds v w waits line begun bytes part o first r read ends = (
  record {
    read = read;
    text = subst (λ (t : List ℕ). Passes held holds t waits) (sym (unfollowed_text bytes part o first (reading_none held holds v waits line begun bytes r) ends)) r.lines.text;
    begun_is = λ e. absurd (never (sym ends ∙ e));
  },
  λ e. never (sym ends ∙ e),
)
  where
    never : Some o ≡ None → ⊥
    never e = cc

-- and so do more bytes behind it
pub over_more : (held holds : Option (List ℕ)) (v : Seen) (waits : List ℕ) (begun : Bool) (bytes more : List ℕ) → IsOver held holds v waits begun bytes × (end_of bytes ≡ None → ⊥)
    → IsOver held holds v waits begun (bytes ++ more) × (end_of (bytes ++ more) ≡ None → ⊥)
over_more held holds v waits begun bytes more over = by (end_of bytes) refl
  where
    never : (o : Outcome) → Some o ≡ None → ⊥
    never o e = cc

    by : (o : Option Outcome) → end_of bytes ≡ o → IsOver held holds v waits begun (bytes ++ more) × (end_of (bytes ++ more) ≡ None → ⊥)
    by None is = absurd (over.1 is)
    by (Some o) is =
        let s = stays_ended bytes more o is in (
          record {
            read = read_still v bytes more o over.0.read is;
            text = subst (λ (t : List ℕ). Passes held holds t waits) (sym (ap (flat_map (λ (line : List ℕ). line ++ codes "\n")) s.takes)) over.0.text;
            begun_is = λ e. absurd (never o (sym s.end ∙ e));
          },
          λ e. never o (sym s.end ∙ e),
        )

-- where a part ends the journal no room is needed for it
pub over_room : (sink : ℕ → Type 0) (waits bytes part : List ℕ) (o : Outcome) (room : ℕ) → IsFirst part → end_of bytes ≡ None → end_of (bytes ++ part) ≡ Some o → sink (length waits + left_text (bytes ++ part) bytes + room) → sink (length waits + room)
over_room sink waits bytes part o room first none ends h =
    let same = ap length (unfollowed_text bytes part o first none ends ∙ sym (followed_whole bytes none)) in
    let size : length waits + left_text (bytes ++ part) bytes + room ≡ length waits + room = omega (arith, same) in
    subst sink size h

-- where it goes on
pub on_room : (sink : ℕ → Type 0) (waits bytes part : List ℕ) (room : ℕ) → end_of bytes ≡ None → end_of (bytes ++ part) ≡ None → sink (length waits + left_text (bytes ++ part) bytes + room)
    → sink (length waits + (length (whole_text (bytes ++ part)) - length (whole_text bytes)) + room)
on_room sink waits bytes part room none on h =
    let first = ap length (followed_whole bytes none) in
    let both = ap length (followed_whole (bytes ++ part) on) in
    let size : length waits + left_text (bytes ++ part) bytes + room ≡ length waits + (length (whole_text (bytes ++ part)) - length (whole_text bytes)) + room = omega (arith, first, both) in
    subst sink size h

-- a part of the journal goes on
pub reading_on : (held holds : Option (List ℕ)) (v : Seen) (waits line : List ℕ) (begun : Bool) (bytes part first : List ℕ) → part ≡ first → HasRead v (bytes ++ first) → v.ended ≡ false → v.fault ≡ None → KeepsLines held holds waits line begun (bytes ++ part)
    → IsReading held holds v waits line begun (bytes ++ first)
reading_on held holds v waits line begun bytes part first is read unended unrefused lines =
    record { read = read; unended = unended; unrefused = unrefused; lines = subst (λ (l : List ℕ). KeepsLines held holds waits line begun (bytes ++ l)) is lines }

pub on_none : (v : Seen) (bytes : List ℕ) → HasRead v bytes → v.ended ≡ false → v.fault ≡ None → end_of bytes ≡ None
on_none v bytes read unended unrefused = none_yet v.ended v.fault (end_of bytes) read.halted unended unrefused

-- something stopped it there
pub on_stops : (held holds : Option (List ℕ)) (waits : List ℕ) (bytes part first : List ℕ) (stop : Stop) → part ≡ first → end_of (bytes ++ first) ≡ None → StopsIn held holds (whole_text (bytes ++ part)) waits stop → StopsIn held holds (followed_text (bytes ++ first)) waits stop
on_stops held holds waits bytes part first stop is none s =
    subst (λ (t : List ℕ). StopsIn held holds t waits stop) (ap (λ (l : List ℕ). whole_text (bytes ++ l)) is ∙ sym (followed_whole (bytes ++ first) none)) s

-- nothing of a part went
pub part_still : (held holds : Option (List ℕ)) (v : Seen) (waits line : List ℕ) (begun : Bool) (bytes part : List ℕ) (stop : Stop) → IsReading held holds v waits line begun bytes → StopsIn held holds (followed_text (bytes ++ part)) waits stop
part_still held holds v waits line begun bytes part stop r =
    let none = reading_none held holds v waits line begun bytes r in
    let g = followed_grows bytes part in
    let text = subst (λ (t : List ℕ). Passes held holds t waits) (sym (followed_whole bytes none)) r.lines.text in
    subst (λ (t : List ℕ). StopsIn held holds t waits stop) (sym g.1) (StopsIn-more held holds (followed_text bytes) g.0 waits stop (stops_still held holds (followed_text bytes) waits stop text))

pub keep_room : (sink : ℕ → Type 0) (waits bytes part first : List ℕ) (room : ℕ) → part ≡ first → end_of bytes ≡ None → end_of (bytes ++ first) ≡ None → sink (length waits + left_text (bytes ++ first) bytes + room)
    → sink (length waits + (length (whole_text (bytes ++ part)) - length (whole_text bytes)) + room)
keep_room sink waits bytes part first room is none on h =
    subst (λ (l : List ℕ). sink (length waits + (length (whole_text (bytes ++ l)) - length (whole_text bytes)) + room)) (sym is) (on_room sink waits bytes first room none on h)
