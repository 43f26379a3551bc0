-- How the three lines of a head are read, one after another.
use Rattle.std.proofs.Common.{◌≡◌, ℕ, List, Option, None, Some, Result, refl, sym, ap, ◌∙◌}
use Rattle.rams_model.specs.declared.{LineFault.LineFault, LineFault.TheVariants.Order, Mode.TheVariants.Describe}
use Rattle.rams_model.specs.Service.{Settings, settings}
use Rattle.rams_model.specs.Texts.{TraceLine, head_line, channel_line, live_line, feedback_line, tick_line, end_line, tune_line, give_line, mcast_line, ask_line, drop_line, Reached, nothing_reached}
use Rattle.trace_loop.specs.{IfBothTold}
use Rattle.converters.specs.declared.description_loop.said.Said.{Said}
use Rattle.converters.specs.declared.description_loop.said.Head.TheVariants.{Lawful, Unlawful}
use Rattle.converters.specs.declared.description_loop.said.Said.TheVariants as said
use Rattle.converters.specs.declared.description_loop.said.Heading as code
use Rattle.converters.specs.description_loop.{Heading, says, refuses, behind_line, next_judged, by_judging, behind_second, behind_first, behind_none, head_of, IsOfNoHead, SaysOf, IsNext, said_fault, said_by, HasRead}

-- ---- a line that may not stand where it does

other_first : (bytes : List ℕ) (line : TraceLine) (r : Reached) → IsOfNoHead line → behind_none bytes line r ≡ refuses 1 Order
other_first bytes (head_line version tick link) r is = absurd is
other_first bytes (channel_line version c) r is = refl
other_first bytes (live_line id hex) r is = refl
other_first bytes (feedback_line id client hex) r is = refl
other_first bytes tick_line r is = refl
other_first bytes end_line r is = refl
other_first bytes (tune_line id client ssrc) r is = refl
other_first bytes (give_line number) r is = refl
other_first bytes (mcast_line id client n) r is = refl
other_first bytes (ask_line id client) r is = refl
other_first bytes (drop_line id client) r is = refl

other_second : (version link : ℕ) (bytes : List ℕ) (line : TraceLine) (r : Reached) → IsOfNoHead line → behind_first version link bytes line r ≡ refuses 2 Order
other_second version link bytes (head_line v tick l) r is = refl
other_second version link bytes (channel_line v c) r is = absurd is
other_second version link bytes (live_line id hex) r is = refl
other_second version link bytes (feedback_line id client hex) r is = refl
other_second version link bytes tick_line r is = refl
other_second version link bytes end_line r is = refl
other_second version link bytes (tune_line id client ssrc) r is = refl
other_second version link bytes (give_line number) r is = refl
other_second version link bytes (mcast_line id client n) r is = refl
other_second version link bytes (ask_line id client) r is = refl
other_second version link bytes (drop_line id client) r is = refl

other_third : (h : Heading) (line : TraceLine) (r : Reached) → IsOfNoHead line → behind_second h line r ≡ refuses 3 Order
other_third h (head_line v tick l) r is = refl
other_third h (channel_line v c) r is = refl
other_third h (live_line id hex) r is = refl
other_third h (feedback_line id client hex) r is = refl
other_third h tick_line r is = refl
other_third h end_line r is = absurd is
other_third h (tune_line id client ssrc) r is = refl
other_third h (give_line number) r is = refl
other_third h (mcast_line id client n) r is = refl
other_third h (ask_line id client) r is = refl
other_third h (drop_line id client) r is = refl

refused_first : (xs : List ℕ) (now : Reached) (s : Said) → SaysOf (next_judged (nothing_reached Describe) xs) now s → ((version link : ℕ) → s ≡ said.Head version link → ⊥) → head_of xs ≡ refuses 1 (said_fault s)
unfolding head_of
refused_first xs now (said.Head version link) is never = absurd (never version link refl)
refused_first xs now (said.Channel config) is never = ap (by_judging (behind_none (behind_line xs)) 1) is.1
refused_first xs now said.End is never = ap (by_judging (behind_none (behind_line xs)) 1) is
refused_first xs now said.Other is never = ap (by_judging (behind_none (behind_line xs)) 1) is.1 ∙ other_first (behind_line xs) is.0 now is.2
refused_first xs now (said.Refused fault) is never = ap (by_judging (behind_none (behind_line xs)) 1) is

refused_second : (version link : ℕ) (bytes : List ℕ) (o : Result (TraceLine × Reached) LineFault) (now : Reached) (s : Said) → SaysOf o now s → ((config : Settings) → s ≡ said.Channel config → ⊥)
    → by_judging (behind_first version link bytes) 2 o ≡ refuses 2 (said_fault s)
refused_second version link bytes o now (said.Head v l) is never = ap (by_judging (behind_first version link bytes) 2) is.1
refused_second version link bytes o now (said.Channel config) is never = absurd (never config refl)
refused_second version link bytes o now said.End is never = ap (by_judging (behind_first version link bytes) 2) is
refused_second version link bytes o now said.Other is never = ap (by_judging (behind_first version link bytes) 2) is.1 ∙ other_second version link bytes is.0 now is.2
refused_second version link bytes o now (said.Refused fault) is never = ap (by_judging (behind_first version link bytes) 2) is

refused_third : (h : Heading) (o : Result (TraceLine × Reached) LineFault) (now : Reached) (s : Said) → SaysOf o now s → (s ≡ said.End → ⊥) → by_judging (behind_second h) 3 o ≡ refuses 3 (said_fault s)
refused_third h o now (said.Head v l) is never = ap (by_judging (behind_second h) 3) is.1
refused_third h o now (said.Channel config) is never = ap (by_judging (behind_second h) 3) is.1
refused_third h o now said.End is never = absurd (never refl)
refused_third h o now said.Other is never = ap (by_judging (behind_second h) 3) is.1 ∙ other_third h is.0 now is.2
refused_third h o now (said.Refused fault) is never = ap (by_judging (behind_second h) 3) is

-- ---- lines that may

-- the first line is a head line, in front of ys
goes_first : (xs ys : List ℕ) (now : Reached) (version link : ℕ) → IsNext (nothing_reached Describe) now (said.Head version link) xs ys → head_of xs ≡ by_judging (behind_first version link (behind_line ys)) 2 (next_judged now ys)
unfolding head_of
goes_first xs ys now version link is =
    ap (by_judging (behind_none (behind_line xs)) 1) is.0.1 ∙ ap (λ (bs : List ℕ). by_judging (behind_first version link (behind_line bs)) 2 (next_judged now bs)) (sym is.1)

-- the second one is a channel line, in front of zs
goes_second : (version link : ℕ) (r now : Reached) (config : Settings) (ys zs : List ℕ) → IsNext r now (said.Channel config) ys zs
    → by_judging (behind_first version link (behind_line ys)) 2 (next_judged r ys) ≡ by_judging (behind_second (record { version = version; link = link; settings = config })) 3 (next_judged now zs)
goes_second version link r now config ys zs is =
    ap (by_judging (behind_first version link (behind_line ys)) 2) is.0.1
    ∙ ap (λ (tick : ℕ). by_judging (behind_second (record { version = version; link = link; settings = settings config.channel tick })) 3 (next_judged now (behind_line ys))) (sym is.0.2)
    ∙ ap (λ (bs : List ℕ). by_judging (behind_second (record { version = version; link = link; settings = config })) 3 (next_judged now bs)) (sym is.1)

goes_third : (h : Heading) (o : Result (TraceLine × Reached) LineFault) (now : Reached) → SaysOf o now said.End → by_judging (behind_second h) 3 o ≡ says h
goes_third h o now is = ap (by_judging (behind_second h) 3) is

-- ---- what is told

pub reads_no_first : (a b : Option (List ℕ)) (now : Reached) (s : Said) → IfBothTold a b (IsNext (nothing_reached Describe) now s) → ((version link : ℕ) → s ≡ said.Head version link → ⊥)
    → IfBothTold a b (HasRead (Unlawful 1 (said_fault s)))
reads_no_first None b now s first never = tt
reads_no_first (Some xs) None now s first never = first
reads_no_first (Some xs) (Some ys) now s first never = refused_first xs now s first.0 never

pub reads_no_second : (a b c : Option (List ℕ)) (r now : Reached) (version link : ℕ) (s : Said) → IfBothTold a b (IsNext (nothing_reached Describe) r (said.Head version link)) → IfBothTold b c (IsNext r now s)
    → ((config : Settings) → s ≡ said.Channel config → ⊥) → IfBothTold a c (HasRead (Unlawful 2 (said_fault s)))
reads_no_second None b c r now version link s first second never = tt
reads_no_second (Some xs) None c r now version link s first second never = absurd first
reads_no_second (Some xs) (Some ys) None r now version link s first second never = second
reads_no_second (Some xs) (Some ys) (Some zs) r now version link s first second never =
    goes_first xs ys r version link first ∙ refused_second version link (behind_line ys) (next_judged r ys) now s second.0 never

pub reads_no_third : (a b c d : Option (List ℕ)) (r q now : Reached) (version link : ℕ) (config : Settings) (s : Said) → IfBothTold a b (IsNext (nothing_reached Describe) r (said.Head version link))
    → IfBothTold b c (IsNext r q (said.Channel config)) → IfBothTold c d (IsNext q now s) → (s ≡ said.End → ⊥) → IfBothTold a d (HasRead (Unlawful 3 (said_fault s)))
reads_no_third None b c d r q now version link config s first second third never = tt
reads_no_third (Some xs) None c d r q now version link config s first second third never = absurd first
reads_no_third (Some xs) (Some ys) None d r q now version link config s first second third never = absurd second
reads_no_third (Some xs) (Some ys) (Some zs) None r q now version link config s first second third never = third
reads_no_third (Some xs) (Some ys) (Some zs) (Some ws) r q now version link config s first second third never =
    goes_first xs ys r version link first ∙ goes_second version link r q config ys zs second ∙ refused_third _ (next_judged q zs) now s third.0 never

pub reads_head : (a b c d : Option (List ℕ)) (r q now : Reached) (h : code.Heading) → IfBothTold a b (IsNext (nothing_reached Describe) r (said.Head h.version h.link))
    → IfBothTold b c (IsNext r q (said.Channel h.config)) → IfBothTold c d (IsNext q now said.End) → IfBothTold a d (HasRead (Lawful h))
reads_head None b c d r q now h first second third = tt
reads_head (Some xs) None c d r q now h first second third = absurd first
reads_head (Some xs) (Some ys) None d r q now h first second third = absurd second
reads_head (Some xs) (Some ys) (Some zs) None r q now h first second third = third
reads_head (Some xs) (Some ys) (Some zs) (Some ws) r q now h first second third = (
  goes_first xs ys r h.version h.link first ∙ goes_second h.version h.link r q h.config ys zs second ∙ goes_third (said_by h) (next_judged q zs) now third.0,
  third.1 ∙ ap behind_line (second.1 ∙ ap behind_line first.1),
)
