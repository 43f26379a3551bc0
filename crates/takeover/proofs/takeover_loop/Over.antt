-- How a takeover goes on behind the journal that was read.
use Rattle.std.proofs.Common.{◌≡◌, ℕ, ◌+◌, ◌≤◌, List, [], ◌∷◌, ◌++◌, length, Option, None, Some, Result, Ok, Err, IfErr, refl, sym, ap, subst, ◌∙◌, arith, append-nil, length-append}
use Rattle.std.specs.Prelude.{IfOk, MatchResult, OnOk}
use Rattle.std.specs.Io.KnownBytes.{Appends}
use Rattle.std.proofs.KnownBytes.{Appends-trans}
use Rattle.line_io.specs.Passes.{Passes}
use Rattle.line_io.proofs.Passing.{Passes-more, Passes-none, Passes-then}
use Rattle.rams_model.specs.declared.Status.{Status}
use Rattle.rams_model.specs.declared.Status.TheVariants.{Done, NoMemory as LacksMemory, Words, ReadFault, WriteFault, BadTrace, WireFault, TooLong, BadCapture, BadSdp}
use Rattle.ram_io.specs.{Outgoing, Rose}
use Rattle.ram_io.specs.declared.Incoming.{Incoming}
use Rattle.trace_loop.specs.trace_book.trace_serving.{Outcome, after_text}
use Rattle.trace_loop.specs.journal_book.{event_lines, sent_for}
use Rattle.trace_loop.specs.declared.Stop.{Stop}
use Rattle.trace_loop.specs.declared.Stop.TheVariants.{Memory, Read, Write, Wire}
use Rattle.trace_loop.proofs.Reading.{passes_whole, rose_since}
use Rattle.trace_loop.specs.{IsStop as IsSourceOrSinkStop}
use Rattle.serve_loop.specs.{Given, HasRoom, IfBothTold, IsGiven, IsOutStop, IsStop, IsStopped, IsStoppedByWrite, IsStoppedOutside, IsWriteStop, OnlyMemoryStops, Room, StopsIn, datagrams_by}
use Rattle.serve_loop.proofs.Rooms.{only_weaker, quiet_room, wire_none}
use Rattle.takeover.specs.declared.standby.fault.FeedFault.{FeedFault}
use Rattle.takeover.specs.declared.standby.fault.FeedFault.TheVariants.{Line, TooLong as LineTooLong, NoMemory}
use Rattle.takeover.specs.standby.{stage_of}
use Rattle.takeover.specs.standby.standby_book.{followed_text}
use Rattle.takeover.specs.takeover_loop.{HasEnded, HasStopped, HoldsItsLines, IsServedEnd, IsTakeoverEnd, behind_by, behind_journal, done_events, outcome_of, reading_end, taken_datagrams, taken_text, turns_end}
use Rattle.takeover.proofs.takeover_loop.Closing.{refused_ended, stopped_alone}

-- what is given, where the source is told
pub given_at : (g : Given) (port turns : ℕ) (source : Option (List ℕ)) (arrivals : Option (List Incoming)) (moments : Option (List ℕ)) → IsGiven g port turns source arrivals moments → IsGiven g port turns (Some g.source) arrivals moments
given_at g port turns source arrivals moments is = record { live_is = is.live_is; turns_are = is.turns_are; source_is = refl; arrivals_are = is.arrivals_are; moments_are = is.moments_are; can_arrive = is.can_arrive }

pub nothing_alone : (g : Given) (a : Option (List ℕ)) (went : Option (List Outgoing)) → HasStopped g a a went went
nothing_alone g a went = stopped_alone g a a went [] [] (taken_text g).text refl (Passes-none a [])

-- the lines that are followed went, or a front of them
pub lines_alone : (g : Given) (held c : Option (List ℕ)) (went : Option (List Outgoing)) (rest : List ℕ) → Passes held c (followed_text g.source) rest → HasStopped g held c went went
lines_alone g held c went rest p = stopped_alone g held c went (followed_text g.source) rest (behind_journal g).text refl p

-- something stopped the reading
pub follow_stopped : (g : Given) (held mid later : Option (List ℕ)) (went : Option (List Outgoing)) (waits rest : List ℕ) (stop : Stop) → StopsIn held mid (followed_text g.source) waits stop → (stop ≡ Write → later ≡ mid) → Passes mid later waits rest → HasStopped g held later went went
follow_stopped g held mid later went waits rest Memory s same p =
    lines_alone g held later went (rest ++ s.0) (Passes-then held mid later (followed_text g.source) (waits ++ s.0) (rest ++ s.0) s.1 (Passes-more mid later waits rest s.0 p))
follow_stopped g held mid later went waits rest Read s same p =
    lines_alone g held later went (rest ++ s.0) (Passes-then held mid later (followed_text g.source) (waits ++ s.0) (rest ++ s.0) s.1 (Passes-more mid later waits rest s.0 p))
follow_stopped g held mid later went waits rest Wire s same p =
    lines_alone g held later went (rest ++ s.0) (Passes-then held mid later (followed_text g.source) (waits ++ s.0) (rest ++ s.0) s.1 (Passes-more mid later waits rest s.0 p))
follow_stopped g held mid later went waits rest Write s same p =
    subst (λ (o : Option (List ℕ)). HasStopped g held o went went) (sym (same refl)) (lines_alone g held mid went s.0 s.1)

nothing_front : (front rest : List ℕ) → [] ≡ front ++ rest → front ≡ []
nothing_front [] rest is = refl
nothing_front (b ∷ front) rest is = absurd cc

appends_still : (mid later : Option (List ℕ)) (waits rest : List ℕ) → waits ≡ [] → Passes mid later waits rest → Appends mid later []
appends_still mid later waits rest none p = subst (Appends mid later) (nothing_front p.front rest (sym none ∙ p.whole)) p.sink

-- the source failed, and nothing waited
pub cut_closed : (held mid later left leaves : Option (List ℕ)) (waits rest : List ℕ) → IfBothTold left leaves (HoldsItsLines held mid) × (waits ≡ []) → Passes mid later waits rest → IfBothTold left leaves (HoldsItsLines held later)
cut_closed held mid later left leaves waits rest cut p = by left leaves cut.0
  where
    by : (a b : Option (List ℕ)) → IfBothTold a b (HoldsItsLines held mid) → IfBothTold a b (HoldsItsLines held later)
    by None b h = tt
    by (Some all) None h = h
    by (Some all) (Some ys) h = record {
      taken = h.taken;
      whole = h.whole;
      text = subst (Appends held later) (append-nil _) (Appends-trans held mid later _ [] h.text (appends_still mid later waits rest cut.1 p));
    }

-- a count that rose, and didn't fall then
rose_still : (before mid now : ℕ) → Rose before mid → mid ≤ now → Rose before now
rose_still before mid now rose less = omega (arith, rose, less)

-- the reading was stopped
pub follow_cause : (read reads write mid writes wire : ℕ) (stop : Stop) (r : Result Status Stop) → read ≤ reads → write ≤ mid → mid ≤ writes → IsSourceOrSinkStop read reads write mid stop → r ≡ Err stop → IsStopped read reads write writes wire wire r
follow_cause read reads write mid writes wire stop r reads_later write_later closes cause is =
    subst (λ (x : Result Status Stop). IsStopped read reads write writes wire wire x) (sym is)
    (record { read_later = reads_later; write_later = omega (arith, write_later, closes); wire_later = omega arith; cause = by stop cause })
  where
    by : (s : Stop) → IsSourceOrSinkStop read reads write mid s → IsStop read reads write writes wire wire s
    by Memory h = tt
    by Read h = h
    by Write h = rose_still write mid writes h closes
    by Wire h = absurd h

-- the turns were
pub served_cause : (read reads write mid writes wire wires : ℕ) (r : Result Status Stop) → read ≤ reads → write ≤ mid → IsStoppedOutside mid writes wire wires r → IsStopped read reads write writes wire wires r
served_cause read reads write mid writes wire wires r reads_later write_later s =
    let later = s.write_later in
    record { read_later = reads_later; write_later = omega (arith, write_later, later); wire_later = s.wire_later; cause = by r s.cause }
  where
    by_stop : (s : Stop) → IsOutStop mid writes wire wires s → IsStop read reads write writes wire wires s
    by_stop Memory h = tt
    by_stop Read h = absurd h
    by_stop Write h = rose_since write mid writes write_later h
    by_stop Wire h = h

    by : (x : Result Status Stop) → IfErr x (IsOutStop mid writes wire wires) → IfErr x (IsStop read reads write writes wire wires)
    by (Ok status) h = tt
    by (Err stop) h = by_stop stop h

-- the last line was
pub refused_cause : (write writes wire : ℕ) (r : Result Status Stop) → IsStoppedByWrite write writes r → IsStoppedOutside write writes wire wire r
refused_cause write writes wire r s = record { write_later = s.later; wire_later = omega arith; cause = by r s.cause }
  where
    by_stop : (s : Stop) → IsWriteStop write writes s → IsOutStop write writes wire wire s
    by_stop Memory h = tt
    by_stop Read h = absurd h
    by_stop Write h = h
    by_stop Wire h = absurd h

    by : (x : Result Status Stop) → IfErr x (IsWriteStop write writes) → IfErr x (IsOutStop write writes wire wire)
    by (Ok status) h = tt
    by (Err stop) h = by_stop stop h

-- no turn reads the source
pub never_reads : (write writes wire wires : ℕ) (r : Result Status Stop) → IsStoppedOutside write writes wire wires r → r ≡ Err Read → ⊥
never_reads write writes wire wires r s is = subst (λ (x : Result Status Stop). IfErr x (IsOutStop write writes wire wires)) is s.cause

pub same_stop : (a b : Stop) → ◌≡◌ {A = Result Status Stop} (Err a) (Err b) → a ≡ b
same_stop a b e = cc

pub err_ends : (r : Result Status Stop) (stop : Stop) (P : Status → Type 0) → r ≡ Err stop → IfOk r P
err_ends r stop P is = subst (λ (x : Result Status Stop). IfOk x P) (sym is) tt

pub only_memory : (r : Result Status Stop) (stop : Stop) (P : Type 0) → r ≡ Err stop → stop ≡ Memory → OnlyMemoryStops r P
only_memory r stop P is memory = subst (λ (x : Result Status Stop). OnlyMemoryStops x P) (sym is) memory

-- a status with which the turns end
pub served_ends : (r : Result Status Stop) → IfOk r IsServedEnd → IfOk r IsTakeoverEnd
served_ends (Ok Done) h = tt
served_ends (Ok TooLong) h = tt
served_ends (Ok LacksMemory) h = absurd h
served_ends (Ok Words) h = absurd h
served_ends (Ok ReadFault) h = absurd h
served_ends (Ok WriteFault) h = absurd h
served_ends (Ok BadTrace) h = absurd h
served_ends (Ok WireFault) h = absurd h
served_ends (Ok BadCapture) h = absurd h
served_ends (Ok BadSdp) h = absurd h
served_ends (Err stop) h = tt

-- all lines that are followed went
pub lines_gone : (held c : Option (List ℕ)) (text waits : List ℕ) → Passes held c text waits → waits ≡ [] → Appends held c text
lines_gone held c text waits p none = passes_whole held c text (subst (Passes held c text) none p)

-- nothing is taken over
pub taken_refused : (g : Given) (fault : FeedFault) → reading_end g.source ≡ outcome_of fault → (taken_text g ≡ after_text (followed_text g.source) (outcome_of fault)) × (taken_datagrams g ≡ [])
taken_refused g fault e = by fault e
  where
    turns : Outcome
    turns = after_text (event_lines (done_events g)) (turns_end g)

    by : (f : FeedFault) → reading_end g.source ≡ outcome_of f → (taken_text g ≡ after_text (followed_text g.source) (outcome_of f)) × (taken_datagrams g ≡ [])
    by (Line number fault) e =
        (ap (λ (o : Outcome). after_text (followed_text g.source) (behind_by o.status o turns)) e, ap (λ (o : Outcome). datagrams_by o.status (sent_for (g.live + 1) (stage_of g.source).state (done_events g))) e)
    by LineTooLong e =
        (ap (λ (o : Outcome). after_text (followed_text g.source) (behind_by o.status o turns)) e, ap (λ (o : Outcome). datagrams_by o.status (sent_for (g.live + 1) (stage_of g.source).state (done_events g))) e)
    by NoMemory e =
        (ap (λ (o : Outcome). after_text (followed_text g.source) (behind_by o.status o turns)) e, ap (λ (o : Outcome). datagrams_by o.status (sent_for (g.live + 1) (stage_of g.source).state (done_events g))) e)

pub never_done : (fault : FeedFault) (status : Status) → status ≡ (outcome_of fault).status → status ≡ Done → ⊥
never_done (Line number fault) status is done = let no : BadTrace ≡ Done = sym is ∙ done in cc
never_done LineTooLong status is done = let no : TooLong ≡ Done = sym is ∙ done in cc
never_done NoMemory status is done = let no : TooLong ≡ Done = sym is ∙ done in cc

pub refused_ends : (fault : FeedFault) (status : Status) → status ≡ (outcome_of fault).status → IsTakeoverEnd status
refused_ends (Line number fault) status is = subst IsTakeoverEnd (sym is) tt
refused_ends LineTooLong status is = subst IsTakeoverEnd (sym is) tt
refused_ends NoMemory status is = subst IsTakeoverEnd (sym is) tt

pub refused_all : (g : Given) (fault : FeedFault) (held mid later : Option (List ℕ)) (went : Option (List Outgoing)) (left : Option (List Incoming)) (r : Result Status Stop) → reading_end g.source ≡ outcome_of fault → Appends held mid (followed_text g.source)
    → IfOk r (λ s. s ≡ (outcome_of fault).status) → OnOk r (Appends mid later (outcome_of fault).text) → IfOk r (HasEnded g held later went went left)
refused_all g fault held mid later went left (Ok status) e first is second =
    let t = taken_refused g fault e in
    refused_ended g (outcome_of fault) held mid later went left status t.0 t.1 first second (never_done fault status is) is
refused_all g fault held mid later went left (Err stop) e first is second = tt

-- a front of the last line went
pub refused_stopped : (g : Given) (fault : FeedFault) (held mid later : Option (List ℕ)) (went : Option (List Outgoing)) (rest : List ℕ) → reading_end g.source ≡ outcome_of fault → Appends held mid (followed_text g.source)
    → Passes mid later (outcome_of fault).text rest → HasStopped g held later went went
refused_stopped g fault held mid later went rest e text p =
    let o = outcome_of fault in
    let whole = followed_text g.source in
    let all : Passes held mid (whole ++ o.text) o.text = record { front = whole; sink = text; whole = refl } in
    stopped_alone g held later went (whole ++ o.text) rest [] (ap (λ (x : Outcome). x.text) (taken_refused g fault e).0 ∙ sym (append-nil (whole ++ o.text))) (Passes-then held mid later (whole ++ o.text) o.text rest all p)

-- the room for the lines that are followed, and for what stands behind them
pub lines_room : (g : Given) (sink : ℕ → Type 0) (more : ℕ) → sink (length (taken_text g).text + more) → sink (length (followed_text g.source) + (length (behind_journal g).text + more))
lines_room g sink more h =
    let all = length-append (followed_text g.source) (behind_journal g).text in
    let size : length (taken_text g).text + more ≡ length (followed_text g.source) + (length (behind_journal g).text + more) = omega (arith, all) in
    subst sink size h

pub turns_room : (g : Given) (sink : ℕ → Type 0) (wire : ℕ → ℕ → Type 0) (more : Room) (then : ℕ → Type 0) (text : List ℕ) → (reading_end g.source).status ≡ Done → sink (length (behind_journal g).text + more.text) → HasRoom then wire text (taken_datagrams g) more
    → HasRoom sink wire (event_lines (done_events g) ++ (turns_end g).text) (taken_datagrams g) more
turns_room g sink wire more then text reads fits h =
    let same : (behind_journal g).text ≡ event_lines (done_events g) ++ (turns_end g).text =
    ap (λ (s : Status). (behind_by s (reading_end g.source) (after_text (event_lines (done_events g)) (turns_end g))).text) reads in
    record { text_fits = subst (λ (t : List ℕ). sink (length t + more.text)) same fits; datagrams_fit = h.datagrams_fit }

pub refused_room : (g : Given) (fault : FeedFault) (sink : ℕ → Type 0) (more : ℕ) → reading_end g.source ≡ outcome_of fault → sink (length (behind_journal g).text + more) → sink (length (outcome_of fault).text + more)
refused_room g fault sink more e fits = subst (λ (t : List ℕ). sink (length t + more)) (by fault e) fits
  where
    turns : Outcome
    turns = after_text (event_lines (done_events g)) (turns_end g)

    by : (f : FeedFault) → reading_end g.source ≡ outcome_of f → (behind_journal g).text ≡ (outcome_of f).text
    by (Line number fault) e = ap (λ (o : Outcome). (behind_by o.status o turns).text) e
    by LineTooLong e = ap (λ (o : Outcome). (behind_by o.status o turns).text) e
    by NoMemory e = ap (λ (o : Outcome). (behind_by o.status o turns).text) e

-- nothing goes to the wire
pub quiet_still : (g : Given) (fault : FeedFault) (r : Result Status Stop) (sink then : ℕ → Type 0) (wire : ℕ → ℕ → Type 0) (text : List ℕ) (more : Room) → reading_end g.source ≡ outcome_of fault → HasRoom then wire text (taken_datagrams g) more
    → OnlyMemoryStops r (sink more.text) → OnlyMemoryStops r (HasRoom sink wire [] [] more)
quiet_still g fault r sink then wire text more e h stops =
    let none = (taken_refused g fault e).1 in
    let quiet = wire_none wire (taken_datagrams g) more.bytes more.datagrams none h.datagrams_fit in
    only_weaker r (sink more.text) _ (λ fits. quiet_room sink wire [] more (subst sink (let zero : more.text ≡ length {A = ℕ} [] + more.text = omega arith in zero) fits) quiet) stops

-- what an answer tells
pub ok_of : {A B : Type 0} (r : Result A B) (x : A) (P : A → Type 0) (Q : B → Type 0) → r ≡ Ok x → MatchResult r P Q → P x
ok_of r x P Q is h = subst (λ (s : Result _ _). MatchResult s P Q) is h

pub err_of : {A B : Type 0} (r : Result A B) (e : B) (P : A → Type 0) (Q : B → Type 0) → r ≡ Err e → MatchResult r P Q → Q e
err_of r e P Q is h = subst (λ (s : Result _ _). MatchResult s P Q) is h
