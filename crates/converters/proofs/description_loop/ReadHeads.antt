-- What is so of a head that was read.
use Rattle.std.proofs.Common.{◌≡◌, ℕ, ◌≤◌, arith, Bool, true, false, ◌==◌, if◌then◌else◌, List, [], ◌∷◌, Some, Result, Ok, Err, refl, sym, ap, ◌∙◌, subst}
use Rattle.std.specs.Prelude.{sum_by}
use Rattle.std.proofs.lemmas.Bool.{and_parts, eqb-true}
use Rattle.rams_model.specs.declared.{Channel.Channel, LineFault.LineFault, Mode.TheVariants.Describe}
use Rattle.rams_model.specs.Service.{settings}
use Rattle.rams_model.specs.Texts.{TraceLine, head_line, channel_line, live_line, feedback_line, tick_line, end_line, tune_line, give_line, mcast_line, ask_line, drop_line, onto_first, lines_of, line_in_range, line_text, line_has_form, Head, Reached, nothing_reached, tick_of, version_of, kind_may_come, kind_of, has_version, may_come}
use Rattle.trace_text.proofs.Spelling.{is_text}
use Rattle.trace_loop.proofs.trace_book.trace_serving.Judged.{IsJudged, IsJoined, judged_so, channel_so}
use Rattle.trace_loop.proofs.journal_book.Heads.{text_is}
use Rattle.channel_config.specs.{IsLawful}
use Rattle.channel_config.proofs.Laws.{IsLawful-from_checked}
use Rattle.converters.specs.description_loop.{Heading, says, behind_line, first_judged, next_judged, by_judging, behind_second, behind_first, behind_none, head_of, HeadsAreThreeLines}

-- ---- the lines that were read

-- How the three lines were judged.
pub record IsReadHead (bytes : List ℕ) (h : Heading) : Type 0 where
  pub tick : ℕ
  pub spelled : ℕ
  pub r : Reached
  pub q : Reached
  pub p : Reached
  pub first : next_judged (nothing_reached Describe) bytes ≡ Ok (head_line h.version tick h.link, r)
  pub second : next_judged r (behind_line bytes) ≡ Ok (channel_line spelled h.settings.channel, q)
  pub third : next_judged q (behind_line (behind_line bytes)) ≡ Ok (end_line, p)
  pub ticks : h.settings.tick ≡ tick_of q.head

same_heading : (g h : Heading) → says g ≡ says h → g ≡ h
same_heading g h e = cc

third_is : (bytes : List ℕ) (g h : Heading) (q : Reached) (o : Result (TraceLine × Reached) LineFault) → next_judged q bytes ≡ o → by_judging (behind_second g) 3 o ≡ says h
    → (g ≡ h) × (p : Reached) × (next_judged q bytes ≡ Ok (end_line, p))
third_is bytes g h q (Err fault) is e = absurd cc
third_is bytes g h q (Ok read) is e = by read.0 is e
  where
    by : (line : TraceLine) → next_judged q bytes ≡ Ok (line, read.1) → behind_second g line read.1 ≡ says h → (g ≡ h) × (p : Reached) × (next_judged q bytes ≡ Ok (end_line, p))
    by (head_line version tick link) is e = absurd cc
    by (channel_line version c) is e = absurd cc
    by (live_line id hex) is e = absurd cc
    by (feedback_line id client hex) is e = absurd cc
    by tick_line is e = absurd cc
    by end_line is e = (same_heading g h e, read.1, is)
    by (tune_line id client ssrc) is e = absurd cc
    by (give_line number) is e = absurd cc
    by (mcast_line id client n) is e = absurd cc
    by (ask_line id client) is e = absurd cc
    by (drop_line id client) is e = absurd cc

-- How the second and the third were judged.
record IsReadChannel (version link : ℕ) (r : Reached) (bytes : List ℕ) (h : Heading) : Type 0 where
  spelled : ℕ
  q : Reached
  p : Reached
  versions : h.version ≡ version
  links : h.link ≡ link
  second : next_judged r bytes ≡ Ok (channel_line spelled h.settings.channel, q)
  third : next_judged q (behind_line bytes) ≡ Ok (end_line, p)
  ticks : h.settings.tick ≡ tick_of q.head

second_is : (version link : ℕ) (r : Reached) (bytes : List ℕ) (h : Heading) (o : Result (TraceLine × Reached) LineFault) → next_judged r bytes ≡ o → by_judging (behind_first version link (behind_line bytes)) 2 o ≡ says h
    → IsReadChannel version link r bytes h
second_is version link r bytes h (Err fault) is e = absurd cc
second_is version link r bytes h (Ok read) is e = by read.0 is e
  where
    by : (line : TraceLine) → next_judged r bytes ≡ Ok (line, read.1) → behind_first version link (behind_line bytes) line read.1 ≡ says h → IsReadChannel version link r bytes h
    by (head_line v tick l) is e = absurd cc
    by (channel_line spelled c) is e =
        let q = read.1 in
        let g : Heading = record { version = version; link = link; settings = settings c (tick_of q.head) } in
        let end = third_is (behind_line bytes) g h q (next_judged q (behind_line bytes)) refl e in
        record {
          spelled = spelled;
          q = q;
          p = end.1;
          versions = sym (ap (λ (x : Heading). x.version) end.0);
          links = sym (ap (λ (x : Heading). x.link) end.0);
          second = is ∙ ap (λ (x : Heading). Ok (channel_line spelled x.settings.channel, q)) end.0;
          third = end.2;
          ticks = sym (ap (λ (x : Heading). x.settings.tick) end.0);
        }
    by (live_line id hex) is e = absurd cc
    by (feedback_line id client hex) is e = absurd cc
    by tick_line is e = absurd cc
    by end_line is e = absurd cc
    by (tune_line id client ssrc) is e = absurd cc
    by (give_line number) is e = absurd cc
    by (mcast_line id client n) is e = absurd cc
    by (ask_line id client) is e = absurd cc
    by (drop_line id client) is e = absurd cc

first_is : (bytes : List ℕ) (h : Heading) (o : Result (TraceLine × Reached) LineFault) → next_judged (nothing_reached Describe) bytes ≡ o → by_judging (behind_none (behind_line bytes)) 1 o ≡ says h → IsReadHead bytes h
first_is bytes h (Err fault) is e = absurd cc
first_is bytes h (Ok read) is e = by read.0 is e
  where
    by : (line : TraceLine) → next_judged (nothing_reached Describe) bytes ≡ Ok (line, read.1) → behind_none (behind_line bytes) line read.1 ≡ says h → IsReadHead bytes h
    by (head_line version tick link) is e =
        let rest = second_is version link read.1 (behind_line bytes) h (next_judged read.1 (behind_line bytes)) refl e in
        record {
          tick = tick;
          spelled = rest.spelled;
          r = read.1;
          q = rest.q;
          p = rest.p;
          first = is ∙ ap (λ (v : ℕ). Ok (head_line v tick link, read.1)) (sym rest.versions) ∙ ap (λ (l : ℕ). Ok (head_line h.version tick l, read.1)) (sym rest.links);
          second = rest.second;
          third = rest.third;
          ticks = rest.ticks;
        }
    by (channel_line version c) is e = absurd cc
    by (live_line id hex) is e = absurd cc
    by (feedback_line id client hex) is e = absurd cc
    by tick_line is e = absurd cc
    by end_line is e = absurd cc
    by (tune_line id client ssrc) is e = absurd cc
    by (give_line number) is e = absurd cc
    by (mcast_line id client n) is e = absurd cc
    by (ask_line id client) is e = absurd cc
    by (drop_line id client) is e = absurd cc

read_head : (bytes : List ℕ) (h : Heading) → head_of bytes ≡ says h → IsReadHead bytes h
unfolding head_of
read_head bytes h e = first_is bytes h (next_judged (nothing_reached Describe) bytes) refl e

-- ---- a line and what stands behind it

abbrev rest_of : List (List ℕ) → List (List ℕ)
rest_of [] = []
rest_of (line ∷ lines) = lines

rest_onto : (b : ℕ) (lines : List (List ℕ)) → rest_of (onto_first b lines) ≡ rest_of lines
rest_onto b [] = refl
rest_onto b (line ∷ lines) = refl

-- the lines behind the first are those of the bytes behind it
behind_lines : (bytes : List ℕ) → rest_of (lines_of bytes) ≡ lines_of (behind_line bytes)
unfolding lines_of behind_line
behind_lines [] = refl
behind_lines (b ∷ bytes) = by (b == 10) (rest_onto b (lines_of bytes) ∙ behind_lines bytes)
  where
    by : (t : Bool) → rest_of (onto_first b (lines_of bytes)) ≡ lines_of (behind_line bytes)
        → rest_of (if t then [] ∷ lines_of bytes else onto_first b (lines_of bytes)) ≡ lines_of (if t then bytes else behind_line bytes)
    by true h = refl
    by false h = h

-- The first line is the text of this one, which is judged so.
pub record IsFirst (r : Reached) (bytes : List ℕ) (line : TraceLine) (later : Reached) : Type 0 where
  pub lines : lines_of bytes ≡ line_text line ∷ lines_of (behind_line bytes)
  pub form : line_has_form line ≡ true
  pub judged_as : IsJudged r (line_text line) line later

pub first_so : (r : Reached) (bytes : List ℕ) (line : TraceLine) (later : Reached) → next_judged r bytes ≡ Ok (line, later) → IsFirst r bytes line later
unfolding next_judged
first_so r bytes line later e = by (lines_of bytes) refl e
  where
    by : (ls : List (List ℕ)) → lines_of bytes ≡ ls → first_judged r ls ≡ Ok (line, later) → IsFirst r bytes line later
    by [] is e = absurd cc
    by (front ∷ more) is e =
        let j = judged_so r front line later e in
        let text = text_is front line j.reads j.accepts.in_range in
        let behind : more ≡ lines_of (behind_line bytes) = sym (ap rest_of is) ∙ behind_lines bytes in
        record {
          lines = is ∙ ap (λ (ls : List (List ℕ)). front ∷ ls) behind ∙ ap (λ (l : List ℕ). l ∷ lines_of (behind_line bytes)) (sym text);
          form = (is_text front line j.reads).has_form;
          judged_as = subst (λ (l : List ℕ). IsJudged r l line later) (sym text) j;
        }

-- ---- what they reach

-- a channel line that may come is of the version of the head line
version_is : (r : Reached) (version : ℕ) (c : Channel) → may_come r (channel_line version c) ≡ true → version_of r.head ≡ version
version_is r version c may =
    let parts = and_parts (kind_may_come r (kind_of (channel_line version c))) (has_version r (channel_line version c)) may in
    eqb-true (version_of r.head) version parts.1

-- A head that was read, line by line: it fits its link, and its lines can be spelled.
pub record IsLawfulHead (bytes : List ℕ) (h : Heading) : Type 0 where
  pub more : List (List ℕ)
  pub lines : lines_of bytes ≡ line_text (head_line h.version h.settings.tick h.link) ∷ line_text (channel_line h.version h.settings.channel) ∷ line_text end_line ∷ more
  pub lawful : IsLawful h.settings
  pub fits : h.settings.channel.share ≤ h.link
  pub head_form : line_has_form (head_line h.version h.settings.tick h.link) ≡ true
  pub head_range : line_in_range (head_line h.version h.settings.tick h.link) ≡ true
  pub channel_form : line_has_form (channel_line h.version h.settings.channel) ≡ true

ok_same : (a b : Reached) → ◌≡◌ {A = Result Reached LineFault} (Ok a) (Ok b) → a ≡ b
ok_same a b e = cc

some_same : (a b : Head) → Some a ≡ Some b → a ≡ b
some_same a b e = cc

lawful_from : (bytes : List ℕ) (h : Heading) → IsReadHead bytes h → IsLawfulHead bytes h
lawful_from bytes h x =
    let c = h.settings.channel in
    let bare = nothing_reached Describe in
    let head : Head = record { version = h.version; tick = x.tick; link = h.link } in
    let one = first_so bare bytes (head_line h.version x.tick h.link) x.r x.first in
    let two = first_so x.r (behind_line bytes) (channel_line x.spelled c) x.q x.second in
    let three = first_so x.q (behind_line (behind_line bytes)) end_line x.p x.third in
    let at : x.r ≡ record bare { head = Some head } = sym (ok_same (record bare { head = Some head }) x.r one.judged_as.accepts.gives) in
    let taken = channel_so x.r x.r.head c x.q two.judged_as.accepts.gives in
    let same : taken.0 ≡ head = some_same taken.0 head (sym taken.1 ∙ ap (λ (r : Reached). r.head) at) in
    let joins : IsJoined x.r head c x.q = subst (λ (g : Head). IsJoined x.r g c x.q) same taken.2 in
    let under : x.q.head ≡ Some head = sym (ap (λ (r : Reached). r.head) joins.gives) ∙ ap (λ (r : Reached). r.head) at in
    let tick : x.tick ≡ h.settings.tick = sym (x.ticks ∙ ap tick_of under) in
    let version : x.spelled ≡ h.version = sym (version_is x.r x.spelled c two.judged_as.accepts.may) ∙ ap (λ (r : Reached). version_of r.head) at in
    let none : sum_by (λ k. k.share) x.r.channels ≡ 0 = ap (λ (r : Reached). sum_by (λ k. k.share) r.channels) at in
    let fits = joins.fits in
    record {
      more = lines_of (behind_line (behind_line (behind_line bytes)));
      lines =
          one.lines
          ∙ ap (λ (ls : List (List ℕ)). line_text (head_line h.version x.tick h.link) ∷ ls) (two.lines ∙ ap (λ (ls : List (List ℕ)). line_text (channel_line x.spelled c) ∷ ls) three.lines)
          ∙ ap (λ (t : ℕ). line_text (head_line h.version t h.link) ∷ line_text (channel_line x.spelled c) ∷ line_text end_line ∷ lines_of (behind_line (behind_line (behind_line bytes)))) tick
          ∙ ap (λ (v : ℕ). line_text (head_line h.version h.settings.tick h.link) ∷ line_text (channel_line v c) ∷ line_text end_line ∷ lines_of (behind_line (behind_line (behind_line bytes)))) version;
      lawful = subst (λ (t : ℕ). IsLawful (settings c t)) tick (IsLawful-from_checked (settings c x.tick) joins.lawful);
      fits = omega (arith, fits, none);
      head_form = subst (λ (t : ℕ). line_has_form (head_line h.version t h.link) ≡ true) tick one.form;
      head_range = subst (λ (t : ℕ). line_in_range (head_line h.version t h.link) ≡ true) tick one.judged_as.accepts.in_range;
      channel_form = subst (λ (v : ℕ). line_has_form (channel_line v c) ≡ true) version two.form;
    }

pub lawful_head : (bytes : List ℕ) (h : Heading) → head_of bytes ≡ says h → IsLawfulHead bytes h
lawful_head bytes h e = lawful_from bytes h (read_head bytes h e)

pub three_lines : HeadsAreThreeLines
three_lines bytes h e = let is = lawful_head bytes h e in record { more = is.more; lines = is.lines; lawful = is.lawful }
