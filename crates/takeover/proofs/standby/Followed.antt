-- The whole lines of some bytes are a trace.
use Rattle.std.proofs.Common.{◌≡◌, ℕ, Bool, true, false, List, [], ◌∷◌, ◌++◌, length, reverse, refl, sym, ap, ◌∙◌, append_assoc}
use Rattle.std.specs.Prelude.{codes, filter_map, if◌then◌else◌, ◌==◌}
use Rattle.std.specs.List.{flat_map}
use Rattle.std.proofs.lemmas.List.{length-reverse}
use Rattle.rams_model.specs.Texts.{lines_of, whole_lines, into_first}
use Rattle.line_io.specs.{HasNoFeed}
use Rattle.line_io.proofs.LineFeeds.{lines_of-cut}
use Rattle.server_hub.specs.declared.HubEvent.{HubEvent}
use Rattle.server_hub.specs.{after_events}
use Rattle.server_hub.specs.Served.{Served}
use Rattle.trace_loop.specs.trace_book.trace_serving.{Stage, opening, stage_from, taken_from, event_at, last_stage}
use Rattle.trace_loop.specs.trace_book.{run, IsServed, came, taken, new_channels, served_by}
use Rattle.takeover.specs.standby.{whole_text, stage_of, lines_followed, followed, IsFollowed}

-- none of these lines has a line feed
abbrev pub AreClean : List (List ℕ) → Type 0
AreClean [] = Unit {0}
AreClean (line ∷ lines) = HasNoFeed line × AreClean lines

clean_first : (b : ℕ) (lines : List (List ℕ)) → (b == 10) ≡ false → AreClean lines → AreClean (into_first b lines)
clean_first b [] is all = tt
clean_first b (line ∷ lines) is all = ((is, all.0), all.1)

pub lines_clean : (bytes : List ℕ) → AreClean (whole_lines bytes)
unfolding whole_lines
lines_clean [] = tt
lines_clean (b ∷ bytes) = by (b == 10) refl (lines_clean bytes)
  where
    by : (t : Bool) → (b == 10) ≡ t → AreClean (whole_lines bytes) → AreClean (if t then [] ∷ whole_lines bytes else into_first b (whole_lines bytes))
    by true is rest = (tt, rest)
    by false is rest = clean_first b (whole_lines bytes) is rest

joined_lines : (lines : List (List ℕ)) → AreClean lines → lines_of (flat_map (λ line. line ++ codes "\n") lines) ≡ lines
unfolding lines_of
joined_lines [] all = refl
joined_lines (line ∷ lines) all =
    let rest = flat_map (λ l. l ++ codes "\n") lines in
    ap lines_of (append_assoc line (codes "\n") rest) ∙ lines_of-cut line rest all.0 ∙ ap (λ (ls : List (List ℕ)). line ∷ ls) (joined_lines lines all.1)

pub text_lines : (bytes : List ℕ) → lines_of (whole_text bytes) ≡ whole_lines bytes
text_lines bytes = joined_lines (whole_lines bytes) (lines_clean bytes)

pub is_followed : (bytes : List ℕ) → IsServed (whole_text bytes) → IsFollowed bytes
is_followed bytes s =
    let lines = text_lines bytes in
    let stage : last_stage run (whole_text bytes) ≡ stage_of bytes = ap (stage_from run (opening run) 1) lines in
    let takes : taken (whole_text bytes) ≡ lines_followed bytes = ap (taken_from run (opening run) 1) lines in
    let events : came (whole_text bytes) ≡ reverse (followed bytes) = ap (λ (ls : List (List ℕ)). reverse (filter_map (event_at run) ls)) takes in
    let state : served_by (whole_text bytes) ≡ (stage_of bytes).state = ap (λ (x : Stage (List Served)). x.state) stage in
    record {
      trace = stage;
      lines = takes;
      events = events;
      channels =
          sym state ∙ s.after ∙ ap (λ (cs : List Served). after_events (came (whole_text bytes)) (new_channels cs)) state
          ∙ ap (λ (es : List HubEvent). after_events es (new_channels (stage_of bytes).state)) events;
      count = ap (λ (x : Stage (List Served)). x.events) (sym stage) ∙ s.count ∙ ap length events ∙ length-reverse (followed bytes);
    }
