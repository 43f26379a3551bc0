-- How a line is judged from its reading, its words and what came before.
use Rattle.std.proofs.Common.{◌≡◌, ℕ, Bool, true, false, not, ◌&&◌, ◌==◌, if◌then◌else◌, List, Option, Some, None, is_some, is_ok, Result, Ok, Err, refl, sym, ap, subst, ◌∙◌, inl, inr}
use Rattle.std.proofs.lemmas.Bool.{and_parts}
use Rattle.std.specs.List.{list_any}
use Rattle.std.specs.Result.{IfErr, IfOk, OnOk}
use Rattle.rams_model.specs.declared.{Channel.Channel, ConfigFault.ConfigFault, LineFault.LineFault}
use Rattle.rams_model.specs.declared.LineFault.TheVariants.{Form, Order, Range, Twice, Rule}
use Rattle.rams_model.specs.declared.LineKind.TheVariants as kind
use Rattle.rams_model.specs.Service.{Settings, settings, channel_in_range, checked}
use Rattle.rams_model.specs.Texts.{Head, joined, with_channel, front, TraceLine, head_line, channel_line, live_line, feedback_line, tick_line, end_line, tune_line, give_line, mcast_line, ask_line, drop_line, line_of, line_words, channel_words, line_in_range, line_has_form, is_version, Reached, version_of, version_spelled, kind_named, kind_may_come, named_may_come, may_come, expected, line_is_served, with_line, accepted, with_reached, judged_line, judged, tick_of}
use Rattle.trace_lines.specs.declared.Line.{Line}
use Rattle.trace_lines.specs.declared.Line.TheVariants as line
use Rattle.trace_lines.specs.{shown, is_ranged, Unread, HasDigits}
use Rattle.trace_text.specs.declared.judged.Judged.{Judged}
use Rattle.trace_text.specs.{told, judged_as, IsJudged, IsSettled, by_rules, with_settled, with_ranged}
use Rattle.trace_text.proofs.Spelling.{is_text}
use Rattle.trace_lines.proofs.Steps.{two_versions}

-- a channel line has as many words as its version says
version_is : (v : ℕ) (c : Channel) → is_version v ≡ true → version_spelled (channel_words v c) ≡ v
version_is v c h = elim (two_versions v h) [
  | inl e ↦ subst (λ (x : ℕ). version_spelled (channel_words x c) ≡ x) (sym e) refl
  | inr e ↦ subst (λ (x : ℕ). version_spelled (channel_words x c) ≡ x) (sym e) refl
]

-- the words of a line tell whether it may come
words_tell : (r : Reached) (l : TraceLine) → line_has_form l ≡ true → named_may_come r (kind_named (front (line_words l))) (line_words l) ≡ may_come r l
words_tell r (head_line version tick link) h = refl
words_tell r (channel_line version c) h =
    let form = and_parts _ _ h in
    let is = and_parts (is_version version) _ form.0 in
    ap (λ v. kind_may_come r kind.Channel && version_of r.head == v) (version_is version c is.0)
words_tell r (live_line id hex) h = refl
words_tell r (feedback_line id client hex) h = refl
words_tell r tick_line h = refl
words_tell r end_line h = refl
words_tell r (tune_line id client ssrc) h = refl
words_tell r (give_line number) h = refl
words_tell r (mcast_line id client n) h = refl
words_tell r (ask_line id client) h = refl
words_tell r (drop_line id client) h = refl

pub expected_is : (r : Reached) (bytes : List ℕ) (l : TraceLine) → line_of bytes ≡ Some l → expected r bytes ≡ may_come r l
unfolding expected
expected_is r bytes l h =
    let is = is_text bytes l h in
    ap (λ ws. named_may_come r (kind_named (front ws)) ws) is.words ∙ words_tell r l is.has_form

-- what is accepted is told as it was read
told_as : (tick : ℕ) (l : Line) → told (judged_as tick l) ≡ shown l
told_as tick (line.Head version t link) = refl
told_as tick (line.Channel version c) = refl
told_as tick (line.Live id hex) = refl
told_as tick (line.Feedback id client hex) = refl
told_as tick line.Tick = refl
told_as tick line.End = refl
told_as tick (line.Tune id client ssrc) = refl
told_as tick (line.Give number) = refl
told_as tick (line.Mcast id client n) = refl
told_as tick (line.Ask id client) = refl
told_as tick (line.Drop id client) = refl

settled_as : (tick : ℕ) (l : Line) → HasDigits l → IsSettled tick (judged_as tick l)
settled_as tick (line.Head version t link) h = (tt, h)
settled_as tick (line.Channel version c) h = refl
settled_as tick (line.Live id hex) h = (tt, h)
settled_as tick (line.Feedback id client hex) h = (tt, h)
settled_as tick line.Tick h = (tt, h)
settled_as tick line.End h = (tt, h)
settled_as tick (line.Tune id client ssrc) h = (tt, h)
settled_as tick (line.Give number) h = (tt, h)
settled_as tick (line.Mcast id client n) h = (tt, h)
settled_as tick (line.Ask id client) h = (tt, h)
settled_as tick (line.Drop id client) h = (tt, h)

pub is_settled : (tick : ℕ) (l : Line) (j : Judged) → HasDigits l → j ≡ judged_as tick l → IsSettled tick j
is_settled tick l j h is = subst (IsSettled tick) (sym is) (settled_as tick l h)

-- a line that is read is judged as it is accepted
judged_read : (r : Reached) (bytes : List ℕ) (l : TraceLine) → line_of bytes ≡ Some l → judged r bytes ≡ with_reached l (accepted r l)
unfolding judged
judged_read r bytes l h = ap (judged_line r) h

pub judged_ok : (r now : Reached) (bytes : List ℕ) (tick : ℕ) (l : Line) (j : Judged) → line_of bytes ≡ Some (shown l) → accepted r (shown l) ≡ Ok now → j ≡ judged_as tick l → judged r bytes ≡ Ok (told j, now)
judged_ok r now bytes tick l j h k is =
    judged_read r bytes (shown l) h ∙ ap (with_reached (shown l)) k ∙ ap (λ (t : TraceLine). Ok (t, now)) (sym (ap told is ∙ told_as tick l))

pub judges : (r : Reached) (bytes : List ℕ) (tick : ℕ) (l : Line) (result : Result Judged LineFault) → line_of bytes ≡ Some (shown l) → OnOk result (is_ok (accepted r (shown l)) ≡ true)
    → IfOk result (λ j. j ≡ judged_as tick l) → IfOk result (IsJudged r bytes)
judges r bytes tick l (Err fault) h ok is = tt
judges r bytes tick l (Ok j) h ok is = by (accepted r (shown l)) refl ok
  where
    told_is : told j ≡ shown l
    told_is = ap told is ∙ told_as tick l

    by : (x : Result Reached LineFault) → accepted r (shown l) ≡ x → is_ok x ≡ true → IsJudged r bytes j
    by (Err fault) e ok = absurd cc
    by (Ok later) e ok = record { later = later; accepts = ap (accepted r) told_is ∙ e; judges = judged_ok r later bytes tick l j h e is }

pub judged_refused : (r : Reached) (bytes : List ℕ) (l : TraceLine) (fault : LineFault) → line_of bytes ≡ Some l → accepted r l ≡ Err fault → judged r bytes ≡ Err fault
judged_refused r bytes l fault h k = judged_read r bytes l h ∙ ap (with_reached l) k

pub refusals : (r : Reached) (bytes : List ℕ) (l : TraceLine) (result : Result Judged LineFault) → line_of bytes ≡ Some l → IfErr result (λ fault. accepted r l ≡ Err fault)
    → IfErr result (λ fault. judged r bytes ≡ Err fault)
refusals r bytes l (Ok j) h refused = tt
refusals r bytes l (Err fault) h refused = judged_refused r bytes l fault h refused

-- a line out of range
out_of_range : (r : Reached) (l : TraceLine) → line_in_range l ≡ false → accepted r l ≡ (if may_come r l then Err Range else Err Order)
unfolding accepted
out_of_range r l h = by (may_come r l) (line_in_range l) h
  where
    by : (m t : Bool) → t ≡ false
        → (let x : Result Reached LineFault = if not m then Err Order else if not (t && line_is_served r l) then Err Range else with_line r l in x) ≡ (if m then Err Range else Err Order)
    by true true h = absurd cc
    by true false h = refl
    by false t h = refl

-- it is in order where its words say so
range_judged : (r : Reached) (o : Option TraceLine) (m : Bool) → ((l : TraceLine) → o ≡ Some l → m ≡ may_come r l) → is_ranged o ≡ false → judged_line r o ≡ (if m then Err Range else Err Order)
range_judged r None m may h = absurd cc
range_judged r (Some l) m may h =
    ap (with_reached l) (out_of_range r l h ∙ ap (λ t. if t then Err Range else Err Order) (sym (may l refl))) ∙ refused m
  where
    refused : (t : Bool) → (let x : Result Reached LineFault = if t then Err Range else Err Order in with_reached l x) ≡ (if t then Err Range else Err Order)
    refused true = refl
    refused false = refl

of_range : (r : Reached) (bytes : List ℕ) → is_ranged (line_of bytes) ≡ false → judged r bytes ≡ (if expected r bytes then Err Range else Err Order)
unfolding judged
of_range r bytes h = range_judged r (line_of bytes) (expected r bytes) (expected_is r bytes) h

-- a line that isn't read, and may come where its range is wrong
pub judged_fault : (r : Reached) (bytes : List ℕ) (fault : LineFault) → Unread fault (line_of bytes) → (fault ≡ Range → expected r bytes ≡ true) → judged r bytes ≡ Err fault
unfolding judged
judged_fault r bytes Form h may = ap (judged_line r) h
judged_fault r bytes Range h may = of_range r bytes h ∙ ap (λ t. if t then Err Range else Err Order) (may refl)
judged_fault r bytes Order h may = absurd h
judged_fault r bytes Twice h may = absurd h
judged_fault r bytes (Rule k) h may = absurd h

-- a line out of its range that may not come
pub judged_order : (r : Reached) (bytes : List ℕ) → Unread Range (line_of bytes) → expected r bytes ≡ false → judged r bytes ≡ Err Order
judged_order r bytes h may = of_range r bytes h ∙ ap (λ t. if t then Err Range else Err Order) may

-- a channel line that may come behind a head
pub channel_accepted : (r : Reached) (version : ℕ) (c : Channel) → may_come r (channel_line version c) ≡ true → accepted r (channel_line version c) ≡ with_ranged r r.head c
unfolding accepted
channel_accepted r version c may =
    tests (may_come r (channel_line version c)) (channel_in_range c) (with_channel r r.head c) may
    ∙ by r.head (and_parts _ _ (and_parts _ _ (and_parts _ _ (and_parts _ _ may).0).1).0).0
  where
    tests : (m g : Bool) (w : Result Reached LineFault) → m ≡ true
        → (let x : Result Reached LineFault = if not m then Err Order else if not (g && true) then Err Range else w in x) ≡ (if not g then Err Range else w)
    tests true true w h = refl
    tests true false w h = refl
    tests false g w h = absurd cc

    settles : (head : Head) (g twice : Bool) (o : Result Settings ConfigFault)
        → (if not g then Err Range else if twice then Err Twice else joined r head c o) ≡ with_settled r head c (if not g then Err Range else if twice then Err Twice else by_rules o)
    settles head false twice o = refl
    settles head true true o = refl
    settles head true false (Ok s) = refl
    settles head true false (Err fault) = refl

    by : (o : Option Head) → is_some o ≡ true → (if not (channel_in_range c) then Err Range else with_channel r o c) ≡ with_ranged r o c
    by None h = absurd cc
    by (Some head) h = settles head (channel_in_range c) (list_any (λ k. k.id == c.id) r.channels) (checked (settings c head.tick))

-- what was judged is settled as that which it is
pub settled : (r : Reached) (j k : Judged) → j ≡ k → IsSettled (tick_of r.head) j → IsSettled (tick_of r.head) k
settled r j k is = subst (IsSettled (tick_of r.head)) is
