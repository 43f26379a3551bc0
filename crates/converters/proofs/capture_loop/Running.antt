-- The records of a file, one after another: what is written so far, and what is still to come.
use Rattle.std.proofs.Common.{◌≡◌, ℕ, zero, suc, ◌+◌, ◌-◌, ◌<◌, ◌≤◌, List, [], ◌++◌, length, take, drop, Option, None, Some, Ok, Err, refl, sym, ap, subst, ◌∙◌, arith, append_assoc, append-nil, length-append, length-take, take-append-drop, take-take, inl, inr, take_all}
use Rattle.std.specs.Prelude.{All}
use Rattle.std.specs.Io.KnownBytes.{IsAtEnd, Keeps, prepend_known}
use Rattle.std.proofs.lemmas.List.Elements.{All-nil, All-append}
use Rattle.std.proofs.lemmas.Slice.{between_is}
use Rattle.line_io.specs.Passes.{Passes}
use Rattle.line_io.proofs.Passing.{Passes-none, Passes-put}
use Rattle.converters.specs.declared.capture_loop.pcap_trace.head.CaptureFault.{CaptureFault}
use Rattle.converters.specs.declared.{capture_loop.pcap_trace.head.CaptureFault.TheVariants.Cut, capture_loop.pcap_trace.head.Endian.Endian}
use Rattle.converters.specs.declared.{capture_loop.pcap_trace.header.Record.Record, capture_loop.last.End.End}
use Rattle.converters.specs.capture_loop.pcap_trace.{Elapsed, record_at}
use Rattle.server_hub.specs.declared.HubEvent.{HubEvent}
use Rattle.server_hub.specs.Served.{Served}
use Rattle.trace_loop.specs.trace_book.trace_serving.{Outcome, after_text, too_long}
use Rattle.trace_loop.specs.declared.Stop.{Stop}
use Rattle.trace_loop.specs.{IfBothTold, IfTold, StopsIn}
use Rattle.trace_loop.proofs.Writing.{IsWriting, writing_breaks, writing_stops, writing_has_room}
use Rattle.trace_loop.specs.trace_book.{most_events}
use Rattle.trace_loop.specs.journal_book.{HasLine, event_lines}
use Rattle.trace_loop.proofs.journal_book.EventLines.{lines_append}
use Rattle.converters.specs.declared.capture_loop.last.End.TheVariants.{Whole, Refused, TooLong}
use Rattle.converters.specs.capture_loop.{AreWritten, Captured, ComesTo, HasLinesOf, Records, broken, captured_in, clock_told, ended_by, ending, event_room, events_in, last, limited, most_records, record_events, record_in, records_in, records_text, too_many, whole}
use Rattle.converters.proofs.capture_loop.Limits.{fits_or_not, limited_full, limited_none, limited_past}
use Rattle.converters.proofs.capture_loop.Cutting.{records_broken, records_none, records_past, records_too_many, records_unread, whole_record}

pub event_room_is : event_room ≡ most_events
unfolding event_room
event_room_is = refl

-- some bytes are in front of all others
take_front : (n : ℕ) (xs : List ℕ) → n ≤ length xs → length (take n xs) ≡ n
take_front n xs h = omega (arith, length-take n xs)

module _ (port : ℕ) (channels : List Served) (first : Elapsed) (e : Endian) where
  -- the outcome of all records, and of those that are still to come
  abbrev pub outcome : List ℕ → Outcome
  outcome xs = records_text port channels first event_room 0 (records_in most_records e xs)

  abbrev pub to_come : ℕ → Elapsed → ℕ → ℕ → List ℕ → Outcome
  to_come most clock room count ys = records_text port channels clock room count (records_in most e ys)

  abbrev pub all_events : List ℕ → List HubEvent
  all_events xs = events_in port channels first (records_in most_records e xs).all

  -- What is to come, where a record is whole.
  module _ (most : ℕ) (clock : Elapsed) (room count : ℕ) (ys zs : List ℕ) (c : Captured) (some : 0 < length ys) (is : record_in e ys ≡ Ok (c, zs)) where
    abbrev new : List HubEvent
    new = record_events port channels clock c

    one_counted : (n : ℕ) → ending (count + suc n) (records_in most e zs).end ≡ ending (count + 1 + n) (records_in most e zs).end
    one_counted n = let same : count + suc n ≡ count + 1 + n = omega arith in ap (λ k. ending k (records_in most e zs).end) same

    come_by : to_come (suc most) clock room count ys
        ≡ limited room (new ++ events_in port channels (clock_told c.ms clock) (records_in most e zs).all) (ending (count + 1 + length (records_in most e zs).all) (records_in most e zs).end)
    unfolding events_in
    come_by =
        ap (records_text port channels clock room count) (records_past most e ys zs c some is)
        ∙ ap (limited room (new ++ events_in port channels (clock_told c.ms clock) (records_in most e zs).all)) (one_counted (length (records_in most e zs).all))

    come_past : (left : ℕ) → left + length new ≡ room → to_come (suc most) clock room count ys ≡ after_text (event_lines new) (to_come most (clock_told c.ms clock) left (count + 1) zs)
    come_past left h = come_by ∙ limited_past room new _ _ left h

    come_full : room < length new → to_come (suc most) clock room count ys ≡ after_text (event_lines (take room new)) too_long
    come_full h = come_by ∙ limited_full room new _ _ h

    -- the lines of its events, as far as there is room, are a front of it
    come_begins : (more : List ℕ) × ((to_come (suc most) clock room count ys).text ≡ event_lines (take room new) ++ more)
    come_begins = elim (fits_or_not (length new) room) as (λ _. (more : List ℕ) × ((to_come (suc most) clock room count ys).text ≡ event_lines (take room new) ++ more)) [
      | inl fits ↦ by_fit (fits_so (length new) room fits)
      | inr over ↦ (too_long.text, ap (λ (o : Outcome). o.text) (come_full over))
    ]
      where
        fits_so : (n k : ℕ) → n ≤ k → (left : ℕ) × (left + n ≡ k)
        fits_so zero k h = (k, omega arith)
        fits_so (suc n) zero h = absurd (omega arith)
        fits_so (suc n) (suc k) h = let rest = fits_so n k (omega arith) in (rest.0, let is = rest.1 in omega arith)

        by_fit : (left : ℕ) × (left + length new ≡ room) → (more : List ℕ) × ((to_come (suc most) clock room count ys).text ≡ event_lines (take room new) ++ more)
        by_fit left =
            let rest = to_come most (clock_told c.ms clock) left.0 (count + 1) zs in
            let all = take_all room new (let is = left.1 in omega arith) in
            (rest.text, ap (λ (o : Outcome). o.text) (come_past left.0 left.1) ∙ ap (λ (es : List HubEvent). event_lines es ++ rest.text) (sym all))

    -- with its events come those of the records behind it
    events_past : events_in port channels clock (records_in (suc most) e ys).all ≡ new ++ events_in port channels (clock_told c.ms clock) (records_in most e zs).all
    unfolding events_in
    events_past = ap (λ (r : Records). events_in port channels clock r.all) (records_past most e ys zs c some is)

  -- what is to come, where no record is whole
  come_ended : (most : ℕ) (clock : Elapsed) (room count : ℕ) (ys : List ℕ) (r : Records) → records_in most e ys ≡ r → r.all ≡ [] → to_come most clock room count ys ≡ ending count r.end
  unfolding events_in
  come_ended most clock room count ys r is none =
      let zero : count + 0 ≡ count = omega arith in
      ap (records_text port channels clock room count) is
      ∙ ap (λ (cs : List Captured). limited room (events_in port channels clock cs) (ending (count + length cs) r.end)) none
      ∙ (limited_none room (ending (count + 0) r.end) ∙ ap (λ n. ending n r.end) zero)

  no_events : (clock : Elapsed) (cs : List Captured) → cs ≡ [] → events_in port channels clock cs ≡ []
  unfolding events_in
  no_events clock cs none = ap (events_in port channels clock) none

  module _ (a : Option (List ℕ)) (before : ℕ) (steady_then : ℕ → Type 0) (begun : List ℕ) where
    -- What holds before a record: the events so far are written, and how the rest ends is how all does.
    pub record IsRunning (b : Option (List ℕ)) (now : ℕ) (steady : ℕ → Type 0) (waiting : List ℕ) (clock : Elapsed) (room count : ℕ) (xs ys : List ℕ) : Type 0 where
      pub most : ℕ
      pub counts : count + most ≡ most_records
      pub taken : List ℕ
      pub joins : xs ≡ taken ++ ys
      pub past : List HubEvent
      pub spelled : All HasLine past
      pub few : length past + room ≡ event_room
      pub passes : Passes a b (begun ++ event_lines past) waiting
      pub comes : outcome xs ≡ after_text (event_lines past) (to_come most clock room count ys)
      -- however much of the rest is read too
      pub events : (zs left : List ℕ) → ys ≡ zs ++ left → all_events (taken ++ zs) ≡ past ++ events_in port channels clock (records_in most e zs).all
      pub faults : before ≤ now
      pub steadily : (more : ℕ) → steady_then (length (begun ++ (outcome xs).text) + more) → steady (length waiting + length (to_come most clock room count ys).text + more)

    -- nothing is written yet
    starts : (xs : List ℕ) → IsRunning a before steady_then begun first event_room 0 xs xs
    starts xs = record {
      most = most_records;
      counts = omega arith;
      taken = [];
      joins = refl;
      past = [];
      spelled = All-nil HasLine;
      few = omega arith;
      passes = subst (λ (l : List ℕ). Passes a a l begun) (sym (append-nil begun)) (begins_so a begun);
      comes = refl;
      events = λ zs left is. refl;
      faults = omega arith;
      steadily = λ more s. subst steady_then (ap (λ n. n + more) (length-append begun (outcome xs).text)) s;
    }
      where
        begins_so : (o : Option (List ℕ)) (l : List ℕ) → Passes o o l l
        begins_so o l = Passes-none o l

    pub running_begins : (o : Option (List ℕ)) (clock : Elapsed) (room : ℕ) → clock ≡ first → room ≡ most_events → IfBothTold o o (IsRunning a before steady_then begun clock room 0)
    running_begins None clock room same all = tt
    running_begins (Some xs) clock room same all =
        subst (λ (k : Elapsed). IsRunning a before steady_then begun k room 0 xs xs) (sym same)
        (subst (λ n. IsRunning a before steady_then begun first n 0 xs xs) (event_room_is ∙ sym all) (starts xs))

    module _ (b : Option (List ℕ)) (now : ℕ) (steady : ℕ → Type 0) (waiting : List ℕ) (clock : Elapsed) (room count : ℕ) where
      writing_of : (xs ys : List ℕ) (r : IsRunning b now steady waiting clock room count xs ys)
          → IsWriting a b before now steady_then steady (begun ++ (outcome xs).text) waiting (to_come r.most clock room count ys).text
      writing_of xs ys r = record {
        written = begun ++ event_lines r.past;
        passes = r.passes;
        joins = ap (λ (o : Outcome). begun ++ o.text) r.comes ∙ sym (append_assoc begun (event_lines r.past) (to_come r.most clock room count ys).text);
        faults = r.faults;
        steadily = r.steadily;
      }

      -- the source or want of memory stops the run
      pub running_breaks : (left leaves : Option (List ℕ)) (stop : Stop) → IfBothTold left leaves (IsRunning b now steady waiting clock room count)
          → IfTold left (λ xs. StopsIn a b (begun ++ (outcome xs).text) waiting stop)
      running_breaks None leaves stop r = tt
      running_breaks (Some xs) None stop r = absurd r
      running_breaks (Some xs) (Some ys) stop r = writing_breaks a b before now steady_then steady (begun ++ (outcome xs).text) waiting _ stop (writing_of xs ys r)

      -- the source's fault does, in front of a record that isn't whole
      pub running_reads : (left leaves later : Option (List ℕ)) (kept : List ℕ) → IfBothTold left leaves (IsRunning b now steady waiting clock room count)
          → Keeps leaves (prepend_known kept later) → record_in e kept ≡ Err Cut → IfBothTold left later (HasLinesOf all_events a b begun waiting)
      running_reads None leaves later kept r same cut = tt
      running_reads (Some xs) None later kept r same cut = absurd r
      running_reads (Some xs) (Some ys) None kept r same cut = absurd same
      running_reads (Some xs) (Some ys) (Some left) kept r same cut =
          let nothing = no_events clock (records_in r.most e kept).all (records_unread r.most e kept cut) in
          let events = r.events kept left (sym same) ∙ (ap (λ (es : List HubEvent). r.past ++ es) nothing ∙ append-nil r.past) in (
            r.taken ++ kept,
            r.joins ∙ (ap (λ (l : List ℕ). r.taken ++ l) (sym same) ∙ sym (append_assoc r.taken kept left)),
            subst (λ (es : List HubEvent). Passes a b (begun ++ event_lines es) waiting) (sym events) r.passes,
          )

      -- how the records end
      comes_to : (xs ys : List ℕ) (r : IsRunning b now steady waiting clock room count xs ys) (end : End) → to_come r.most clock room count ys ≡ last end → ComesTo a b begun waiting (outcome xs) end
      comes_to xs ys r end is = (event_lines r.past, r.comes ∙ ap (after_text (event_lines r.past)) is, r.passes)

      ends_steadily : (xs ys : List ℕ) (r : IsRunning b now steady waiting clock room count xs ys) (end : End) → to_come r.most clock room count ys ≡ last end
          → (more : ℕ) → steady_then (length (begun ++ (outcome xs).text) + more) → steady (length waiting + length (last end).text + more)
      ends_steadily xs ys r end is more s = subst (λ (o : Outcome). steady (length waiting + length o.text + more)) is (r.steadily more s)

      ended : (xs ys : List ℕ) (r : IsRunning b now steady waiting clock room count xs ys) → ys ≡ [] → to_come r.most clock room count ys ≡ last Whole
      ended xs ys r none = come_ended r.most clock room count ys (ended_by whole) (ap (records_in r.most e) none ∙ records_none r.most e) refl

      are_written : (xs ys : List ℕ) (r : IsRunning b now steady waiting clock room count xs ys) → ys ≡ [] → AreWritten (all_events xs) (outcome xs)
      are_written xs ys r none =
          let joins : xs ≡ r.taken ++ [] = r.joins ∙ ap (λ (l : List ℕ). r.taken ++ l) none in
          let nothing = no_events clock (records_in r.most e []).all (ap (λ (q : Records). q.all) (records_none r.most e)) in
          let events : all_events xs ≡ r.past = ap all_events joins ∙ (r.events [] [] none ∙ (ap (λ (es : List HubEvent). r.past ++ es) nothing ∙ append-nil r.past)) in
          record {
            spelled = subst (All HasLine) (sym events) r.spelled;
            few = subst (λ (es : List HubEvent). length es ≤ most_events) (sym events) (omega (arith, r.few, event_room_is));
            text = r.comes ∙ (ap (after_text (event_lines r.past)) (ended xs ys r none) ∙ ap (λ (es : List HubEvent). after_text (event_lines es) (last Whole)) (sym events));
          }

      broken_so : (xs ys : List ℕ) (r : IsRunning b now steady waiting clock room count xs ys) (fault : CaptureFault) → count < most_records → 0 < length ys → record_in e ys ≡ Err fault
          → to_come r.most clock room count ys ≡ last (Refused (count + 1) fault)
      broken_so xs ys r fault within some is = by r.most refl
        where
          by : (most : ℕ) → r.most ≡ most → to_come r.most clock room count ys ≡ last (Refused (count + 1) fault)
          by zero none = absurd (omega (arith, r.counts, none, within))
          by (suc most) one = come_ended r.most clock room count ys (ended_by (broken fault)) (ap (λ n. records_in n e ys) one ∙ records_broken most e ys fault some is) refl

      crowded_so : (xs ys : List ℕ) (r : IsRunning b now steady waiting clock room count xs ys) → most_records ≤ count → 0 < length ys → to_come r.most clock room count ys ≡ last TooLong
      crowded_so xs ys r without some =
          let none : r.most ≡ 0 = omega (arith, r.counts, without) in
          come_ended r.most clock room count ys (ended_by too_many) (ap (λ n. records_in n e ys) none ∙ records_too_many e ys some) refl

      -- The next bytes, by those that are kept of them.
      front_kept : (ys kept : List ℕ) (l : List ℕ) → kept ++ l ≡ ys → 0 < length kept → 0 < length ys
      front_kept ys kept l is some = omega (arith, ap length is, length-append kept l)

      pub running_ended : (left leaves later : Option (List ℕ)) (kept : List ℕ) → IfBothTold left leaves (IsRunning b now steady waiting clock room count) → Keeps leaves (prepend_known kept later) → kept ≡ [] → IsAtEnd later
          → IfTold left (λ xs. ComesTo a b begun waiting (outcome xs) Whole × AreWritten (all_events xs) (outcome xs)
          × ((more : ℕ) → steady_then (length (begun ++ (outcome xs).text) + more) → steady (length waiting + length (last Whole).text + more)))
      running_ended None leaves later kept r same none end = tt
      running_ended (Some xs) None later kept r same none end = absurd r
      running_ended (Some xs) (Some ys) None kept r same none end = absurd same
      running_ended (Some xs) (Some ys) (Some l) kept r same none end =
          let nothing : ys ≡ [] = sym same ∙ (ap (λ (k : List ℕ). k ++ l) none ∙ end) in
          (comes_to xs ys r Whole (ended xs ys r nothing), are_written xs ys r nothing, ends_steadily xs ys r Whole (ended xs ys r nothing))

      abbrev Ends : End → List ℕ → Type 0
      Ends end xs = ComesTo a b begun waiting (outcome xs) end × ((more : ℕ) → steady_then (length (begun ++ (outcome xs).text) + more) → steady (length waiting + length (last end).text + more))

      pub running_broken : (left leaves later : Option (List ℕ)) (kept : List ℕ) (fault : CaptureFault) → IfBothTold left leaves (IsRunning b now steady waiting clock room count) → Keeps leaves (prepend_known kept later)
          → count < most_records → 0 < length kept → IfTold (prepend_known kept later) (λ xs. record_in e xs ≡ Err fault) → IfTold left (Ends (Refused (count + 1) fault))
      running_broken None leaves later kept fault r same within some is = tt
      running_broken (Some xs) None later kept fault r same within some is = absurd r
      running_broken (Some xs) (Some ys) None kept fault r same within some is = absurd same
      running_broken (Some xs) (Some ys) (Some l) kept fault r same within some is =
          let so = broken_so xs ys r fault within (front_kept ys kept l same some) (subst (λ (q : List ℕ). record_in e q ≡ Err fault) same is) in
          (comes_to xs ys r (Refused (count + 1) fault) so, ends_steadily xs ys r (Refused (count + 1) fault) so)

      pub running_crowded : (left leaves later : Option (List ℕ)) (kept : List ℕ) → IfBothTold left leaves (IsRunning b now steady waiting clock room count) → Keeps leaves (prepend_known kept later)
          → most_records ≤ count → 0 < length kept → IfTold left (Ends TooLong)
      running_crowded None leaves later kept r same without some = tt
      running_crowded (Some xs) None later kept r same without some = absurd r
      running_crowded (Some xs) (Some ys) None kept r same without some = absurd same
      running_crowded (Some xs) (Some ys) (Some l) kept r same without some =
          let so = crowded_so xs ys r without (front_kept ys kept l same some) in
          (comes_to xs ys r TooLong so, ends_steadily xs ys r TooLong so)

      -- A record is whole.
      module _ (kept : List ℕ) (header : Record) (reads : record_at e (take 16 kept) ≡ Ok header) (enough : 16 + header.len ≤ length kept) (within : count < most_records) where
        abbrev size : ℕ
        size = 16 + header.len

        abbrev c : Captured
        c = captured_in kept header

        abbrev said : List HubEvent
        said = record_events port channels clock c

        -- whatever stands behind it
        front_record : (zs : List ℕ) → record_in e (take size kept ++ zs) ≡ Ok (c, zs)
        front_record zs =
            let short : 16 ≤ size = omega arith in
            let head : take 16 (take size kept) ≡ take 16 kept = take-take 16 size kept short in
            let is = whole_record e (take size kept) zs header (ap (record_at e) head ∙ reads) (take_front size kept enough) in
            is ∙ ap (λ (f : List ℕ). Ok (record { ms = header.ms; frame = f }, zs)) frame
          where
            frame : take header.len (drop 16 (take size kept)) ≡ take header.len (drop 16 kept)
            frame =
                let left : size - 16 ≡ header.len = omega arith in
                let between : take header.len (drop 16 kept) ≡ drop 16 (take size kept) = ap (λ n. take n (drop 16 kept)) (sym left) ∙ between_is kept 16 size in
                ap (take header.len) (sym between) ∙ take-take header.len header.len (drop 16 kept) (omega arith)

        cut_in : (ys l : List ℕ) → kept ++ l ≡ ys → ys ≡ take size kept ++ (drop size kept ++ l)
        cut_in ys l same = sym same ∙ (ap (λ (k : List ℕ). k ++ l) (sym (take-append-drop size kept)) ∙ append_assoc (take size kept) (drop size kept) l)

        record_there : (ys l : List ℕ) → kept ++ l ≡ ys → record_in e ys ≡ Ok (c, drop size kept ++ l)
        record_there ys l same = ap (record_in e) (cut_in ys l same) ∙ front_record (drop size kept ++ l)

        some_there : (ys l : List ℕ) → kept ++ l ≡ ys → 0 < length ys
        some_there ys l same = front_kept ys kept l same (omega arith)

        one_more : (xs ys : List ℕ) (r : IsRunning b now steady waiting clock room count xs ys) → (most : ℕ) × (r.most ≡ suc most)
        one_more xs ys r = by r.most refl
          where
            by : (most : ℕ) → r.most ≡ most → (k : ℕ) × (r.most ≡ suc k)
            by zero none = absurd (omega (arith, r.counts, none, within))
            by (suc most) is = (most, is)

        -- its lines, as far as there is room, are a front of what is to come
        begins : (xs ys l : List ℕ) (same : kept ++ l ≡ ys) (r : IsRunning b now steady waiting clock room count xs ys)
            → (more : List ℕ) × ((to_come r.most clock room count ys).text ≡ event_lines (take room said) ++ more)
        begins xs ys l same r =
            let one = one_more xs ys r in
            subst (λ n. (more : List ℕ) × ((to_come n clock room count ys).text ≡ event_lines (take room said) ++ more)) (sym one.1)
            (come_begins one.0 clock room count ys (drop size kept ++ l) c (some_there ys l same) (record_there ys l same))

        pub running_stops : (left leaves later : Option (List ℕ)) (d : Option (List ℕ)) (waits : List ℕ) (stop : Stop) → IfBothTold left leaves (IsRunning b now steady waiting clock room count) → Keeps leaves (prepend_known kept later)
            → StopsIn b d (waiting ++ event_lines (take room said)) waits stop → IfTold left (λ xs. StopsIn a d (begun ++ (outcome xs).text) waits stop)
        running_stops None leaves later d waits stop r same p = tt
        running_stops (Some xs) None later d waits stop r same p = absurd r
        running_stops (Some xs) (Some ys) None d waits stop r same p = absurd same
        running_stops (Some xs) (Some ys) (Some l) d waits stop r same p =
            let front = begins xs ys l same r in
            writing_stops a b before now steady_then steady d (begun ++ (outcome xs).text) waiting _ (event_lines (take room said)) front.0 waits stop (writing_of xs ys r) front.1 p

        pub running_has_room : (left leaves later : Option (List ℕ)) → IfBothTold left leaves (IsRunning b now steady waiting clock room count) → Keeps leaves (prepend_known kept later)
            → IfTold left (λ xs. (room_left : ℕ) → steady_then (length (begun ++ (outcome xs).text) + room_left) → (more : ℕ) × steady (length waiting + length (event_lines (take room said)) + more))
        running_has_room None leaves later r same = tt
        running_has_room (Some xs) None later r same = absurd r
        running_has_room (Some xs) (Some ys) None r same = absurd same
        running_has_room (Some xs) (Some ys) (Some l) r same =
            let front = begins xs ys l same r in
            λ room_left s. (length front.0 + room_left, writing_has_room a b before now steady_then steady (begun ++ (outcome xs).text) waiting _ (event_lines (take room said)) front.0 (writing_of xs ys r) front.1 room_left s)

        module _ (d : Option (List ℕ)) (later_now : ℕ) (steady_now : ℕ → Type 0) (waits : List ℕ) (p : Passes b d (waiting ++ event_lines (take room said)) waits)
            (goes : (more : ℕ) → steady (length waiting + length (event_lines (take room said)) + more) → steady_now (length waits + more)) where
          -- its events are one too many
          full_so : (xs ys l : List ℕ) (same : kept ++ l ≡ ys) (r : IsRunning b now steady waiting clock room count xs ys) → room < length said
              → to_come r.most clock room count ys ≡ after_text (event_lines (take room said)) too_long
          full_so xs ys l same r over =
              let one = one_more xs ys r in
              ap (λ n. to_come n clock room count ys) one.1 ∙ come_full one.0 clock room count ys (drop size kept ++ l) c (some_there ys l same) (record_there ys l same) over

          pub running_full : (left leaves later : Option (List ℕ)) → IfBothTold left leaves (IsRunning b now steady waiting clock room count) → Keeps leaves (prepend_known kept later) → room < length said
              → IfTold left (λ xs. ComesTo a d begun waits (outcome xs) TooLong
              × ((more : ℕ) → steady_then (length (begun ++ (outcome xs).text) + more) → steady_now (length waits + length (last TooLong).text + more)))
          running_full None leaves later r same over = tt
          running_full (Some xs) None later r same over = absurd r
          running_full (Some xs) (Some ys) None r same over = absurd same
          running_full (Some xs) (Some ys) (Some l) r same over =
              let full = full_so xs ys l same r over in
              let lines = event_lines (take room said) in (
                (
                  event_lines r.past ++ lines,
                  r.comes ∙ (ap (after_text (event_lines r.past)) full ∙ ap (λ (t : List ℕ). record too_long { text = t }) (sym (append_assoc (event_lines r.past) lines too_long.text))),
                  subst (λ (t : List ℕ). Passes a d t waits) (append_assoc begun (event_lines r.past) lines) (Passes-put a b d (begun ++ event_lines r.past) waiting lines waits r.passes p),
                ),
                λ more s.
                    let rest : length waits + length too_long.text + more ≡ length waits + (length too_long.text + more) = omega arith in
                    let split : length waiting + length (lines ++ too_long.text) + more ≡ length waiting + length lines + (length too_long.text + more) = omega (arith, length-append lines too_long.text) in
                    subst steady_now (sym rest) (goes (length too_long.text + more) (subst steady split (subst (λ (o : Outcome). steady (length waiting + length o.text + more)) full (r.steadily more s)))),
              )

          -- there is room for them, and the next record comes
          goes_past : (room_now : ℕ) (xs ys l : List ℕ) (same : kept ++ l ≡ ys) (r : IsRunning b now steady waiting clock room count xs ys) → room_now + length said ≡ room → All HasLine said → now ≤ later_now
              → IsRunning d later_now steady_now waits (clock_told header.ms clock) room_now (count + 1) xs (drop size kept ++ l)
          goes_past room_now xs ys l same r fits spelled later =
              let one = one_more xs ys r in
              let all : take room said ≡ said = take_all room said (omega arith) in
              let lines = event_lines said in
              let rest = drop size kept ++ l in
              let next = to_come one.0 (clock_told header.ms clock) room_now (count + 1) rest in
              let come : to_come r.most clock room count ys ≡ after_text lines next =
              ap (λ n. to_come n clock room count ys) one.1 ∙ come_past one.0 clock room count ys rest c (some_there ys l same) (record_there ys l same) room_now fits in
              let fault = r.faults in
              let few = r.few in
              let q = subst (λ (es : List HubEvent). Passes b d (waiting ++ event_lines es) waits) all p in
              let put : Passes a d (begun ++ (event_lines r.past ++ lines)) waits =
              subst (λ (t : List ℕ). Passes a d t waits) (append_assoc begun (event_lines r.past) lines) (Passes-put a b d (begun ++ event_lines r.past) waiting lines waits r.passes q) in
              record {
                most = one.0;
                counts = omega (arith, r.counts, one.1);
                taken = r.taken ++ take size kept;
                joins = r.joins ∙ (ap (λ (t : List ℕ). r.taken ++ t) (cut_in ys l same) ∙ sym (append_assoc r.taken (take size kept) rest));
                past = r.past ++ said;
                spelled = All-append HasLine r.past said r.spelled spelled;
                few = omega (arith, few, fits, length-append r.past said);
                passes = subst (λ (t : List ℕ). Passes a d (begun ++ t) waits) (sym (lines_append r.past said)) put;
                comes =
                    r.comes ∙ (ap (after_text (event_lines r.past)) come
                    ∙ (ap (λ (t : List ℕ). record next { text = t }) (sym (append_assoc (event_lines r.past) lines next.text)) ∙ ap (λ (t : List ℕ). after_text t next) (sym (lines_append r.past said))));
                events = λ zs left is.
                    let joined : ys ≡ (take size kept ++ zs) ++ left = cut_in ys l same ∙ (ap (λ (t : List ℕ). take size kept ++ t) is ∙ sym (append_assoc (take size kept) zs left)) in
                    ap all_events (append_assoc r.taken (take size kept) zs)
                    ∙ (r.events (take size kept ++ zs) left joined
                    ∙ (ap (λ (es : List HubEvent). r.past ++ es)
                    (ap (λ n. events_in port channels clock (records_in n e (take size kept ++ zs)).all) one.1
                    ∙ events_past one.0 clock room count (take size kept ++ zs) zs c (front_kept (take size kept ++ zs) (take size kept) zs refl (let long = take_front size kept enough in omega arith)) (front_record zs))
                    ∙ sym (append_assoc r.past said (events_in port channels (clock_told header.ms clock) (records_in one.0 e zs).all))));
                faults = omega arith;
                steadily = λ more s.
                    let split : length waiting + length (lines ++ next.text) + more ≡ length waiting + length lines + (length next.text + more) = omega (arith, length-append lines next.text) in
                    let join : length waits + (length next.text + more) ≡ length waits + length next.text + more = omega arith in
                    let was = subst steady split (subst (λ (o : Outcome). steady (length waiting + length o.text + more)) come (r.steadily more s)) in
                    subst steady_now join (goes (length next.text + more) (subst (λ (es : List HubEvent). steady (length waiting + length (event_lines es) + (length next.text + more))) (sym all) was));
              }

          pub running_goes_on : (left leaves later : Option (List ℕ)) (told : Elapsed) (room_now : ℕ) (rest : List ℕ) → IfBothTold left leaves (IsRunning b now steady waiting clock room count) → Keeps leaves (prepend_known kept later)
              → rest ≡ drop size kept → told ≡ clock_told header.ms clock → room_now + length said ≡ room → All HasLine said → now ≤ later_now
              → IfBothTold left (prepend_known rest later) (IsRunning d later_now steady_now waits told room_now (count + 1))
          running_goes_on None leaves later told room_now rest r same left_is told_is fits spelled after = tt
          running_goes_on (Some xs) None later told room_now rest r same left_is told_is fits spelled after = absurd r
          running_goes_on (Some xs) (Some ys) None told room_now rest r same left_is told_is fits spelled after = absurd same
          running_goes_on (Some xs) (Some ys) (Some l) told room_now rest r same left_is told_is fits spelled after =
              subst (λ (q : List ℕ). IsRunning d later_now steady_now waits told room_now (count + 1) xs (q ++ l)) (sym left_is)
              (subst (λ (k : Elapsed). IsRunning d later_now steady_now waits k room_now (count + 1) xs (drop size kept ++ l)) (sym told_is) (goes_past room_now xs ys l same r fits spelled after))
