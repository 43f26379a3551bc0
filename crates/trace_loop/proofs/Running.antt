-- The steps of a run: a line is taken, and what it is answered with is written.
use Rattle.std.proofs.Common.{◌≡◌, ℕ, ◌+◌, ◌≤◌, List, [], ◌++◌, length, Option, None, Some, MatchOption, refl, sym, ap, ◌∙◌, subst, append-nil, arith}
use Rattle.std.specs.Io.KnownBytes.{Keeps, prepend_known}
use Rattle.line_io.specs.{HasNoFeed}
use Rattle.line_io.specs.Passes.{Passes}
use Rattle.rams_model.specs.declared.Status.{Status}
use Rattle.rams_model.specs.Texts.{lines_of}
use Rattle.trace_loop.specs.trace_book.trace_serving.{Serving, Stage, Turn, Outcome, opening, after_text, after_turn, text_from}
use Rattle.trace_loop.specs.declared.stop.Stop.{Stop}
use Rattle.trace_loop.specs.{StopsIn, IfTold, IfBothTold, GoesOnAfter, EndsIn, IsFirstTurn, Ends, HasLinesText}
use Rattle.trace_loop.proofs.Reading.{HasRead, reading_begins, reading_goes_on, reading_stops}
use Rattle.trace_loop.proofs.Writing.{IsWriting, unwritten, writing_begins, writing_has_room, writing_goes_on, writing_stops, writing_breaks, writing_ends}

-- what follows from what is told
pub told_gives : (o : Option (List ℕ)) (P Q : List ℕ → Type 0) → ((xs : List ℕ) → P xs → Q xs) → IfTold o P → IfTold o Q
told_gives None P Q gives p = tt
told_gives (Some xs) P Q gives p = gives xs p

module _ {State Event : Type 0} (s : Serving State Event) where
  module _ (stage : Stage State) (number : ℕ) (xs : List ℕ) (at : Stage State → Type 0) (how : Option Status) (said rest : List ℕ) where
    -- the outcome of the lines, where the first of them goes on
    outcome_goes_on : (piece : List ℕ) (g : GoesOnAfter s stage number xs at piece rest)
        → text_from s stage number (lines_of xs) ≡ after_text piece (text_from s g.later (number + 1) (lines_of rest))
    unfolding text_from
    outcome_goes_on piece g =
        ap (text_from s stage number) g.lines ∙ ap (λ (was : Turn State). after_turn was (λ later. text_from s later (number + 1) (lines_of rest))) g.does

    -- what the first turn writes is a front of the outcome's text
    first_turn_has_front : IsFirstTurn s stage number xs at how said rest → (more : List ℕ) × ((text_from s stage number (lines_of xs)).text ≡ said ++ more)
    first_turn_has_front first = by_ending how first
      where
        by_ending : (e : Option Status) → MatchOption e (GoesOnAfter s stage number xs at said rest) (EndsIn (text_from s stage number (lines_of xs)) said)
            → (more : List ℕ) × ((text_from s stage number (lines_of xs)).text ≡ said ++ more)
        by_ending None g = ((text_from s g.later (number + 1) (lines_of rest)).text, ap (λ (x : Outcome). x.text) (outcome_goes_on said g))
        by_ending (Some status) ends = ([], ends.1 ∙ sym (append-nil said))

    -- where the first turn goes on
    first_turn_goes_on : IsFirstTurn s stage number xs at how said rest → how ≡ None → GoesOnAfter s stage number xs at said rest
    first_turn_goes_on first none =
        subst (λ (e : Option Status). MatchOption e (GoesOnAfter s stage number xs at said rest) (EndsIn (text_from s stage number (lines_of xs)) said)) none first

    -- where the first turn ends the run
    first_turn_ends : (status : Status) → IsFirstTurn s stage number xs at how said rest → how ≡ Some status → EndsIn (text_from s stage number (lines_of xs)) said status
    first_turn_ends status first some =
        subst (λ (e : Option Status). MatchOption e (GoesOnAfter s stage number xs at said rest) (EndsIn (text_from s stage number (lines_of xs)) said)) some first

  -- the outcome of a trace's lines
  abbrev pub outcome : List ℕ → Outcome
  outcome xs = text_from s (opening s) 1 (lines_of xs)

  -- What holds before a line: the stage, what is written, and how the run will end.
  pub record IsRunning (a b : Option (List ℕ)) (before now : ℕ) (steady_then steady : ℕ → Type 0) (begun waiting : List ℕ) (at : Stage State → Type 0) (number : ℕ) (xs ys : List ℕ) : Type 0 where
    pub stage : Stage State
    pub stands : at stage
    pub writing : IsWriting a b before now steady_then steady (begun ++ (outcome xs).text) waiting (text_from s stage number (lines_of ys)).text
    pub status : (outcome xs).status ≡ (text_from s stage number (lines_of ys)).status
    pub reading : HasRead s a b begun waiting stage number xs ys

  -- nothing is written
  pub unstarted : (a : Option (List ℕ)) (begun : List ℕ) (left : Option (List ℕ)) (stop : Stop) → IfTold left (λ xs. StopsIn a a (begun ++ (outcome xs).text) begun stop)
  unstarted a begun None stop = tt
  unstarted a begun (Some xs) stop = unwritten a begun (outcome xs).text stop

  -- the next turn, from whatever stage stands there
  abbrev pub TakesTurn : (Stage State → Type 0) → (Stage State → Type 0) → ℕ → Option Status → List ℕ → Option (List ℕ) → Option (List ℕ) → Type 0
  TakesTurn at now_at number how said left leaves =
      (stage : Stage State) → at stage → IfBothTold left leaves (λ xs ys. IsFirstTurn s stage number xs now_at how said ys)

  -- what is left is told where what was left was
  told_by : (at now_at : Stage State → Type 0) (number : ℕ) (how : Option Status) (said ys : List ℕ) (leaves : Option (List ℕ)) (stage : Stage State)
      → TakesTurn at now_at number how said (Some ys) leaves → at stage
      → (zs : List ℕ) × (leaves ≡ Some zs) × IsFirstTurn s stage number ys now_at how said zs
  told_by at now_at number how said ys None stage turn stands = absurd (turn stage stands)
  told_by at now_at number how said ys (Some zs) stage turn stands = (zs, refl, turn stage stands)

  module _ (a b : Option (List ℕ)) (before now : ℕ) (steady_then steady : ℕ → Type 0) (begun waiting : List ℕ) (at : Stage State → Type 0) where
    -- nothing is read or written yet
    pub running_begins : (o : Option (List ℕ)) (kept : List ℕ) → kept ≡ [] → a ≡ b → before ≡ now → ((n : ℕ) → steady_then n → steady n) → begun ≡ waiting → at (opening s)
        → IfBothTold o (prepend_known kept o) (IsRunning a b before now steady_then steady begun waiting at 1)
    running_begins None kept none same never goes waits stands = tt
    running_begins (Some xs) kept none same never goes waits stands =
        let w = subst (λ (l : List ℕ). IsWriting a b before now steady_then steady (begun ++ (outcome xs).text) l (outcome xs).text) waits (writing_begins a b before now steady_then steady begun (outcome xs).text same never goes) in
        let ys = kept ++ xs in
        let is : xs ≡ ys = sym (ap (λ (l : List ℕ). l ++ xs) none) in
        subst (λ (l : List ℕ). IsRunning a b before now steady_then steady begun waiting at 1 xs l) is
        (record { stage = (opening s); stands = stands; writing = w; status = refl; reading = reading_begins s a b begun waiting xs same waits })

    -- the source or want of memory stops the run
    pub running_breaks : (left leaves : Option (List ℕ)) (number : ℕ) (stop : Stop) → IfBothTold left leaves (IsRunning a b before now steady_then steady begun waiting at number)
        → IfTold left (λ xs. StopsIn a b (begun ++ (outcome xs).text) waiting stop)
    running_breaks None leaves number stop r = tt
    running_breaks (Some xs) None number stop r = absurd r
    running_breaks (Some xs) (Some ys) number stop r = writing_breaks a b before now steady_then steady (begun ++ (outcome xs).text) waiting _ stop r.writing

    -- the source's fault stops the run
    pub running_reads : (left leaves : Option (List ℕ)) (number : ℕ) (kept : List ℕ) (later : Option (List ℕ)) → IfBothTold left leaves (IsRunning a b before now steady_then steady begun waiting at number)
        → HasNoFeed kept → Keeps leaves (prepend_known kept later) → IfBothTold left later (HasLinesText s a b begun waiting)
    running_reads None leaves number kept later r clean same = tt
    running_reads (Some xs) None number kept later r clean same = absurd r
    running_reads (Some xs) (Some ys) number kept later r clean same = reading_stops s a b begun waiting r.stage number xs ys kept later clean r.reading same

    module _ (now_at : Stage State → Type 0) (number : ℕ) (how : Option Status) (said : List ℕ) where
      -- there is room for what the next turn writes
      pub running_has_room : (left leaves later : Option (List ℕ)) → IfBothTold left leaves (IsRunning a b before now steady_then steady begun waiting at number)
          → TakesTurn at now_at number how said leaves later
          → IfTold left (λ xs. (room : ℕ) → steady_then (length (begun ++ (outcome xs).text) + room)
          → (more : ℕ) × steady (length waiting + length said + more))
      running_has_room None leaves later r turn = tt
      running_has_room (Some xs) None later r turn = absurd r
      running_has_room (Some xs) (Some ys) later r turn =
          let f = told_by at now_at number how said ys later r.stage turn r.stands in
          let front = first_turn_has_front r.stage number ys now_at how said f.0 f.2 in
          λ room fits. (length front.0 + room, writing_has_room a b before now steady_then steady (begun ++ (outcome xs).text) waiting _ said front.0 r.writing front.1 room fits)

      module _ (c : Option (List ℕ)) where
        -- a part of what the turn writes
        pub running_stops : (left leaves later : Option (List ℕ)) (waits : List ℕ) (stop : Stop) → IfBothTold left leaves (IsRunning a b before now steady_then steady begun waiting at number)
            → TakesTurn at now_at number how said leaves later
            → StopsIn b c (waiting ++ said) waits stop → IfTold left (λ xs. StopsIn a c (begun ++ (outcome xs).text) waits stop)
        running_stops None leaves later waits stop r turn p = tt
        running_stops (Some xs) None later waits stop r turn p = absurd r
        running_stops (Some xs) (Some ys) later waits stop r turn p =
            let f = told_by at now_at number how said ys later r.stage turn r.stands in
            let front = first_turn_has_front r.stage number ys now_at how said f.0 f.2 in
            writing_stops a b before now steady_then steady c (begun ++ (outcome xs).text) waiting _ said front.0 waits stop r.writing front.1 p

        module _ (later_now : ℕ) (steady_now : ℕ → Type 0) (waits : List ℕ) where
          -- the turn is written, and the next line comes
          pub running_goes_on : (left leaves later : Option (List ℕ)) → IfBothTold left leaves (IsRunning a b before now steady_then steady begun waiting at number)
              → TakesTurn at now_at number how said leaves later → how ≡ None
              → Passes b c (waiting ++ said) waits → now ≤ later_now
              → ((room : ℕ) → steady (length waiting + length said + room) → steady_now (length waits + room))
              → IfBothTold left later (IsRunning a c before later_now steady_then steady_now begun waits now_at (number + 1))
          running_goes_on None leaves later r turn none p faults goes = tt
          running_goes_on (Some xs) None later r turn none p faults goes = absurd r
          running_goes_on (Some xs) (Some ys) later r turn none p faults goes =
              let f = told_by at now_at number how said ys later r.stage turn r.stands in
              let piece = said in
              let on = first_turn_goes_on r.stage number ys now_at how said f.0 f.2 none in
              let o = outcome_goes_on r.stage number ys now_at how said f.0 piece on in
              subst (λ (o : Option (List ℕ)). IfBothTold (Some xs) o (IsRunning a c before later_now steady_then steady_now begun waits now_at (number + 1))) (sym f.1)
              (record {
                stage = on.later;
                stands = on.stands;
                writing = writing_goes_on a b before now steady_then steady c later_now steady_now (begun ++ (outcome xs).text) waiting _ piece _ waits
                    r.writing (ap (λ (x : Outcome). x.text) o) p faults goes;
                status = r.status ∙ ap (λ (x : Outcome). x.status) o;
                reading = reading_goes_on s a b c begun waiting waits r.stage number xs ys now_at piece f.0 r.reading on p;
              })

          -- the turn is written, and it is the last
          pub running_ends : (left leaves later : Option (List ℕ)) (status : Status) → IfBothTold left leaves (IsRunning a b before now steady_then steady begun waiting at number)
              → TakesTurn at now_at number how said leaves later → how ≡ Some status
              → Passes b c (waiting ++ said) waits → IfTold left (λ xs. Ends a c begun waits (outcome xs) status)
          running_ends None leaves later status r turn some p = tt
          running_ends (Some xs) None later status r turn some p = absurd r
          running_ends (Some xs) (Some ys) later status r turn some p =
              let f = told_by at now_at number how said ys later r.stage turn r.stands in
              let o = first_turn_ends r.stage number ys now_at how said f.0 status f.2 some in
              let piece = said in
              let w = writing_goes_on a b before now steady_then steady c now (λ n. Unit {0}) (begun ++ (outcome xs).text) waiting _ piece [] waits r.writing (o.1 ∙ sym (append-nil piece)) p (omega arith) (λ room fits. tt) in
              (sym (r.status ∙ o.0), writing_ends a c before now steady_then (λ n. Unit {0}) (begun ++ (outcome xs).text) waits [] w refl)

          pub running_ends_steadily : (left leaves later : Option (List ℕ)) (status : Status) → IfBothTold left leaves (IsRunning a b before now steady_then steady begun waiting at number)
              → TakesTurn at now_at number how said leaves later → how ≡ Some status
              → ((room : ℕ) → steady (length waiting + length said + room) → steady_now (length waits + room))
              → IfTold left (λ xs. (room : ℕ) → steady_then (length (begun ++ (outcome xs).text) + room) → steady_now (length waits + room))
          running_ends_steadily None leaves later status r turn some goes = tt
          running_ends_steadily (Some xs) None later status r turn some goes = absurd r
          running_ends_steadily (Some xs) (Some ys) later status r turn some goes =
              let f = told_by at now_at number how said ys later r.stage turn r.stands in
              let o = first_turn_ends r.stage number ys now_at how said f.0 status f.2 some in
              let piece = said in
              λ room fits.
              let same : 0 + room ≡ room = omega arith in
              goes room (subst (λ (n : ℕ). steady (length waiting + length piece + n)) same (writing_has_room a b before now steady_then steady (begun ++ (outcome xs).text) waiting _ piece [] r.writing (o.1 ∙ sym (append-nil piece)) room fits))
