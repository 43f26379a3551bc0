-- What a server that may have only so many more events has between two turns.
use Rattle.std.proofs.Common.{◌≡◌, ℕ, suc, ◌+◌, ◌-◌, ◌<◌, ◌≤◌, List, [], ◌++◌, length, take, drop, Option, Some, refl, sym, ap, subst, ◌∙◌, arith, length-append, append_assoc, append-nil}
use Rattle.ram_io.specs.declared.Incoming.{Incoming}
use Rattle.ram_io.specs.{Outgoing, later}
use Rattle.server_hub.specs.declared.HubEvent.{HubEvent}
use Rattle.server_hub.specs.Seen.{Seen}
use Rattle.server_hub.specs.Served.{Served}
use Rattle.trace_loop.specs.journal_book.{behind, due_after, event_lines, events_of, events_of_turns, next_moment, sent_for, tick_at, turns_of}
use Rattle.trace_loop.specs.declared.Stop.{Stop}
use Rattle.serve_loop.specs.{Begun, Broken, HasRoom, IsBetween, Room, Serving, next_events}
use Rattle.serve_loop.proofs.Rooms.{behind_append, room_for, room_join, room_none}
use Rattle.serve_loop.proofs.Steps.{broken_more}
use Rattle.takeover.proofs.takeover_loop.Within.{all_within, done_both, done_first, none_left, room_done, room_first, take_append}
use Rattle.serve_loop.proofs.TurnByTurn.{one_turn, no_turn, drop_one}

-- The events so far, and those of the turns that are left, are all events; so many of the latter may come. Where there was room for as many of all as might come, there is for as many of these.
pub record IsPacing (b : Begun) (sink_then : ℕ → Type 0) (wire_then : ℕ → ℕ → Type 0) (sink : ℕ → Type 0) (wire : ℕ → ℕ → Type 0) (waited : List ℕ) (all : List HubEvent) (limit tick due may left : ℕ) (end : List Incoming)
    (live : ℕ) (ids : List ℕ) (hub : Seen) (holds : Option (List ℕ)) (waits : List ℕ) (sent : Option (List Outgoing)) (arrivals : Option (List Incoming)) (moments : Option (List ℕ)) : Type 0 where
  pub events : List HubEvent
  pub brings : List Incoming
  pub shows : List ℕ
  pub between : IsBetween b events live ids hub holds waits sent
  pub wire_is : arrivals ≡ Some brings
  pub clock_is : moments ≡ Some shows
  pub whole : all ≡ events ++ events_of_turns b.live tick b.channels due (turns_of left brings shows)
  pub count : may + length events ≡ limit
  pub end_is : end ≡ drop left brings
  pub room : (more : Room) → HasRoom sink_then wire_then (waited ++ event_lines (take limit all)) (sent_for (b.live + 1) b.channels (take limit all)) more
      → HasRoom sink wire (waits ++ event_lines (take may (events_of_turns b.live tick b.channels due (turns_of left brings shows))))
      (sent_for (b.live + 1) (behind events b.channels) (take may (events_of_turns b.live tick b.channels due (turns_of left brings shows)))) more

-- before the first turn
pub pacing_begins : (b : Begun) (sink : ℕ → Type 0) (wire : ℕ → ℕ → Type 0) (waits : List ℕ) (limit tick due turns : ℕ) (live : ℕ) (ids : List ℕ) (hub : Seen) (holds : Option (List ℕ)) (sent : Option (List Outgoing))
    (told : Option (List Incoming)) (arrivals : List Incoming) (moments : List ℕ) (shows : Option (List ℕ)) → IsBetween b [] live ids hub holds waits sent → told ≡ Some arrivals → shows ≡ Some (later moments)
    → due ≡ next_moment moments + tick
    → IsPacing b sink wire sink wire waits (events_of b.live tick b.channels turns arrivals moments) limit tick due limit turns (drop turns arrivals) live ids hub holds waits sent told shows
unfolding behind
pacing_begins b sink wire waits limit tick due turns live ids hub holds sent told arrivals moments shows between wire_is clock_is due_is =
    let none : limit + length {A = HubEvent} [] ≡ limit = omega arith in
    subst (λ d. IsPacing b sink wire sink wire waits (events_of b.live tick b.channels turns arrivals moments) limit tick d limit turns (drop turns arrivals) live ids hub holds waits sent told shows) (sym due_is)
    (record { events = []; brings = arrivals; shows = later moments; between = between; wire_is = wire_is; clock_is = clock_is; whole = refl; count = none; end_is = refl; room = λ more h. h })

module _ (b : Begun) (sink_then : ℕ → Type 0) (wire_then : ℕ → ℕ → Type 0) (sink : ℕ → Type 0) (wire : ℕ → ℕ → Type 0) (waited : List ℕ) (all : List HubEvent) (limit tick due may left : ℕ) (end : List Incoming)
    (live : ℕ) (ids : List ℕ) (hub : Seen) (holds : Option (List ℕ)) (waits : List ℕ) (sent : Option (List Outgoing)) (arrivals : Option (List Incoming)) (moments : Option (List ℕ))
    (r : IsPacing b sink_then wire_then sink wire waited all limit tick due may left end live ids hub holds waits sent arrivals moments) where
  abbrev behind_now : List HubEvent
  behind_now = events_of_turns b.live tick b.channels due (turns_of left r.brings r.shows)

  -- as many of all as may come are those so far, and as many of the others
  done_now : take limit all ≡ r.events ++ take may behind_now
  done_now = ap (take limit) r.whole ∙ done_both r.events behind_now limit may r.count

  pub pacing_ends : left ≡ 0 → (length all ≤ limit) × Serving b (take limit all) holds waits sent × (arrivals ≡ Some end)
      × ((more : Room) → HasRoom sink_then wire_then (waited ++ event_lines (take limit all)) (sent_for (b.live + 1) b.channels (take limit all)) more → HasRoom sink wire waits [] more)
  pacing_ends none =
      let nothing : behind_now ≡ [] = ap (λ n. events_of_turns b.live tick b.channels due (turns_of n r.brings r.shows)) none ∙ no_turn b tick due r.brings r.shows in
      let taken : take may behind_now ≡ [] = ap (take may) nothing ∙ all_within may [] (omega arith) in
      let whole : r.events ≡ take limit all = sym (done_now ∙ ap (λ (l : List HubEvent). r.events ++ l) taken ∙ append-nil r.events) in
      let ends : r.brings ≡ end = sym (r.end_is ∙ ap (λ n. drop n r.brings) none) in
      let size = ap length (r.whole ∙ ap (λ (l : List HubEvent). r.events ++ l) nothing ∙ append-nil r.events) in
      let count = r.count in (
        omega (arith, size, count),
        subst (λ (es : List HubEvent). Serving b es holds waits sent) whole r.between.serving,
        r.wire_is ∙ ap Some ends,
        λ more h. room_none sink wire waits (b.live + 1) (behind r.events b.channels) _ more taken (r.room more h),
      )

  module _ (k : ℕ) (is : left ≡ suc k) where
    abbrev turn_events : List HubEvent
    turn_events = next_events b r.brings ++ tick_at due (next_moment r.shows)

    abbrev behind_turn : ℕ → List HubEvent
    behind_turn d = events_of_turns b.live tick b.channels d (turns_of k (drop 1 r.brings) (later r.shows))

    abbrev rest : List HubEvent
    rest = behind_turn (due_after tick due (next_moment r.shows))

    splits : behind_now ≡ turn_events ++ rest
    splits = ap (λ n. events_of_turns b.live tick b.channels due (turns_of n r.brings r.shows)) is ∙ one_turn b tick due k r.brings r.shows

    -- as many of all as may come: those so far, those of the turn, and those behind it
    done_turn : take limit all ≡ (r.events ++ take may turn_events) ++ take (may - length turn_events) rest
    done_turn =
        done_now ∙ ap (λ (l : List HubEvent). r.events ++ take may l) splits ∙ ap (λ (l : List HubEvent). r.events ++ l) (take_append may turn_events rest)
        ∙ sym (append_assoc r.events (take may turn_events) (take (may - length turn_events) rest))

    -- a turn that breaks off
    pub pacing_breaks : (now : Option (List ℕ)) (waiting : List ℕ) (out : Option (List Outgoing)) (stop : Stop) → Broken b (r.events ++ take may turn_events) now waiting out stop → Broken b (take limit all) now waiting out stop
    pacing_breaks now waiting out stop broken =
        subst (λ (es : List HubEvent). Broken b es now waiting out stop) (sym done_turn) (broken_more b _ (take (may - length turn_events) rest) now waiting out stop broken)

    -- an event of the turn is one too many
    pub pacing_too_many : (port : ℕ) (numbered : List ℕ) (became : Seen) (now : Option (List ℕ)) (waiting : List ℕ) (out : Option (List Outgoing)) → may < length turn_events
        → IsBetween b (r.events ++ take may turn_events) port numbered became now waiting out → (limit < length all) × Serving b (take limit all) now waiting out
    pacing_too_many port numbered became now waiting out less between =
        let none : may - length turn_events ≡ 0 = omega (arith, less) in
        let same : r.events ++ take may turn_events ≡ take limit all =
        sym (done_turn ∙ ap (λ (l : List HubEvent). (r.events ++ take may turn_events) ++ l) (none_left (may - length turn_events) rest none) ∙ append-nil (r.events ++ take may turn_events)) in
        let size = ap length r.whole ∙ length-append r.events behind_now in
        let parts = ap length splits ∙ length-append turn_events rest in
        let count = r.count in
        (omega (arith, size, parts, count, less), subst (λ (es : List HubEvent). Serving b es now waiting out) same between.serving)

    -- there is room for as much of the turn as may come
    pub pacing_room : (more : Room) → HasRoom sink_then wire_then (waited ++ event_lines (take limit all)) (sent_for (b.live + 1) b.channels (take limit all)) more
        → HasRoom sink wire (waits ++ event_lines (take may turn_events)) (sent_for (b.live + 1) (behind r.events b.channels) (take may turn_events))
        (room_for (b.live + 1) (behind (take may turn_events) (behind r.events b.channels)) (take (may - length turn_events) rest) more)
    pacing_room more h =
        room_first sink wire waits (b.live + 1) (behind r.events b.channels) turn_events rest may more
        (room_done sink wire waits (b.live + 1) (behind r.events b.channels) (take may behind_now) (take may (turn_events ++ rest)) more (ap (take may) splits) (r.room more h))

    -- for all that may come, where an event of the turn is one too many
    pub pacing_room_last : may < length turn_events → (more : Room) → HasRoom sink_then wire_then (waited ++ event_lines (take limit all)) (sent_for (b.live + 1) b.channels (take limit all)) more
        → HasRoom sink wire (waits ++ event_lines (take may turn_events)) (sent_for (b.live + 1) (behind r.events b.channels) (take may turn_events)) more
    pacing_room_last less more h =
        room_done sink wire waits (b.live + 1) (behind r.events b.channels) (take may behind_now) (take may turn_events) more (ap (take may) splits ∙ done_first turn_events rest may less) (r.room more h)

    -- a turn that goes on
    pub pacing_goes_on : (later_sink : ℕ → Type 0) (later_wire : ℕ → ℕ → Type 0) (next then : ℕ) (port : ℕ) (numbered : List ℕ) (became : Seen) (now : Option (List ℕ)) (waiting : List ℕ) (out : Option (List Outgoing))
        (brought : Option (List Incoming)) (shown : Option (List ℕ)) → next ≡ due_after tick due (next_moment r.shows) → then + length turn_events ≡ may
        → IsBetween b (r.events ++ take may turn_events) port numbered became now waiting out → brought ≡ Some (drop 1 r.brings) → shown ≡ Some (later r.shows)
        → ((more : Room) → HasRoom sink wire (waits ++ event_lines (take may turn_events)) (sent_for (b.live + 1) (behind r.events b.channels) (take may turn_events)) more → HasRoom later_sink later_wire waiting [] more)
        → IsPacing b sink_then wire_then later_sink later_wire waited all limit tick next then k end port numbered became now waiting out brought shown
    pacing_goes_on later_sink later_wire next then port numbered became now waiting out brought shown next_is then_is between brought_is shown_is goes =
        subst (λ d. IsPacing b sink_then wire_then later_sink later_wire waited all limit tick d then k end port numbered became now waiting out brought shown) (sym next_is)
        (record {
          events = r.events ++ take may turn_events;
          brings = drop 1 r.brings;
          shows = later r.shows;
          between = between;
          wire_is = brought_is;
          clock_is = shown_is;
          whole =
              r.whole ∙ ap (λ (l : List HubEvent). r.events ++ l) splits ∙ sym (append_assoc r.events turn_events rest) ∙ ap (λ (l : List HubEvent). (r.events ++ l) ++ rest) (sym all_done);
          count = let size = length-append r.events (take may turn_events) in let taken = ap length all_done in let count = r.count in omega (arith, size, taken, count, then_is);
          end_is = r.end_is ∙ ap (λ n. drop n r.brings) is ∙ drop_one k r.brings;
          room = λ more h.
              let joined = room_join later_sink later_wire waiting (b.live + 1) (behind (take may turn_events) (behind r.events b.channels)) (take (may - length turn_events) rest) more
              (goes (room_for (b.live + 1) (behind (take may turn_events) (behind r.events b.channels)) (take (may - length turn_events) rest) more) (pacing_room more h)) in
              let channels : behind (take may turn_events) (behind r.events b.channels) ≡ behind (r.events ++ take may turn_events) b.channels = sym (behind_append b.channels r.events (take may turn_events)) in
              let placed = subst (λ (cs : List Served). HasRoom later_sink later_wire (waiting ++ event_lines (take (may - length turn_events) rest)) (sent_for (b.live + 1) cs (take (may - length turn_events) rest)) more) channels joined in
              let left_is : may - length turn_events ≡ then = omega (arith, then_is) in
              subst (λ n. HasRoom later_sink later_wire (waiting ++ event_lines (take n rest)) (sent_for (b.live + 1) (behind (r.events ++ take may turn_events) b.channels) (take n rest)) more) left_is placed;
        })
      where
        all_done : take may turn_events ≡ turn_events
        all_done = all_within may turn_events (let less : length turn_events ≤ may = omega (arith, then_is) in less)
