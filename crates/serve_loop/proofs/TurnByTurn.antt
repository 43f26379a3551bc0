-- What a server has between two turns.
use Rattle.std.proofs.Common.{◌≡◌, ℕ, zero, suc, ◌+◌, List, [], ◌∷◌, ◌++◌, drop, Option, Some, refl, sym, ap, subst, ◌∙◌, append_assoc, append-nil, ◌-◌, ◌<◌, ◌≤◌, arith}
use Rattle.ram_io.specs.declared.Incoming.{Incoming}
use Rattle.ram_io.specs.{Outgoing, later}
use Rattle.server_hub.specs.declared.HubEvent.{HubEvent}
use Rattle.server_hub.specs.Seen.{Seen}
use Rattle.server_hub.specs.Served.{Served}
use Rattle.trace_loop.specs.journal_book.{behind, due_after, event_lines, events_of, events_of_turns, next_moment, sent_for, tick_at, turns_of}
use Rattle.trace_loop.specs.declared.Stop.{Stop}
use Rattle.serve_loop.specs.{Begun, Broken, HasRoom, IsBetween, Room, Serving, next_events}
use Rattle.serve_loop.proofs.Rooms.{behind_append, room_for, room_join, room_none, room_split}
use Rattle.serve_loop.proofs.Steps.{broken_more}

-- The events so far, and those of the turns that are left, are all events; and where there was room for all, there is for what is left.
pub record IsServing (b : Begun) (sink_then : ℕ → Type 0) (wire_then : ℕ → ℕ → Type 0) (sink : ℕ → Type 0) (wire : ℕ → ℕ → Type 0) (waited : List ℕ) (all : List HubEvent) (tick due left : ℕ) (end : List Incoming)
    (live : ℕ) (ids : List ℕ) (hub : Seen) (holds : Option (List ℕ)) (waits : List ℕ) (sent : Option (List Outgoing)) (arrivals : Option (List Incoming)) (moments : Option (List ℕ)) : Type 0 where
  pub events : List HubEvent
  pub brings : List Incoming
  pub shows : List ℕ
  pub between : IsBetween b events live ids hub holds waits sent
  pub wire_is : arrivals ≡ Some brings
  pub clock_is : moments ≡ Some shows
  pub whole : all ≡ events ++ events_of_turns b.live tick b.channels due (turns_of left brings shows)
  pub end_is : end ≡ drop left brings
  pub room : (more : Room) → HasRoom sink_then wire_then (waited ++ event_lines all) (sent_for (b.live + 1) b.channels all) more
      → HasRoom sink wire (waits ++ event_lines (events_of_turns b.live tick b.channels due (turns_of left brings shows)))
      (sent_for (b.live + 1) (behind events b.channels) (events_of_turns b.live tick b.channels due (turns_of left brings shows))) more

-- before the first turn
pub serving_begins : (b : Begun) (sink : ℕ → Type 0) (wire : ℕ → ℕ → Type 0) (waits : List ℕ) (tick due turns : ℕ) (live : ℕ) (ids : List ℕ) (hub : Seen) (holds : Option (List ℕ)) (sent : Option (List Outgoing))
    (told : Option (List Incoming)) (arrivals : List Incoming) (moments : List ℕ) (shows : Option (List ℕ)) → IsBetween b [] live ids hub holds waits sent → told ≡ Some arrivals → shows ≡ Some (later moments)
    → due ≡ next_moment moments + tick
    → IsServing b sink wire sink wire waits (events_of b.live tick b.channels turns arrivals moments) tick due turns (drop turns arrivals) live ids hub holds waits sent told shows
unfolding behind
serving_begins b sink wire waits tick due turns live ids hub holds sent told arrivals moments shows between wire_is clock_is due_is =
    subst (λ d. IsServing b sink wire sink wire waits (events_of b.live tick b.channels turns arrivals moments) tick d turns (drop turns arrivals) live ids hub holds waits sent told shows) (sym due_is)
    (record { events = []; brings = arrivals; shows = later moments; between = between; wire_is = wire_is; clock_is = clock_is; whole = refl; end_is = refl; room = λ more h. h })

-- the turns that are left are one, and those behind it
pub one_left : (turns counter : ℕ) → counter < turns → turns - counter ≡ suc (turns - (counter + 1))
one_left turns counter less = omega arith

pub none_left : (turns counter : ℕ) → turns ≤ counter → turns - counter ≡ 0
none_left turns counter less = omega arith

-- the events of the next turn, and of those behind it
pub one_turn : (b : Begun) (tick due k : ℕ) (brings : List Incoming) (shows : List ℕ) → events_of_turns b.live tick b.channels due (turns_of (suc k) brings shows)
    ≡ (next_events b brings ++ tick_at due (next_moment shows)) ++ events_of_turns b.live tick b.channels (due_after tick due (next_moment shows)) (turns_of k (drop 1 brings) (later shows))
unfolding events_of_turns turns_of
one_turn b tick due k brings shows = refl

pub no_turn : (b : Begun) (tick due : ℕ) (brings : List Incoming) (shows : List ℕ) → events_of_turns b.live tick b.channels due (turns_of zero brings shows) ≡ []
unfolding events_of_turns turns_of
no_turn b tick due brings shows = refl

pub drop_one : (k : ℕ) (brings : List Incoming) → drop (suc k) brings ≡ drop k (drop 1 brings)
drop_one k [] = sym (nothing k)
  where
    nothing : (n : ℕ) → drop {A = Incoming} n [] ≡ []
    nothing zero = refl
    nothing (suc n) = refl
drop_one k (a ∷ brings) = refl

module _ (b : Begun) (sink_then : ℕ → Type 0) (wire_then : ℕ → ℕ → Type 0) (sink : ℕ → Type 0) (wire : ℕ → ℕ → Type 0) (waited : List ℕ) (all : List HubEvent) (tick due left : ℕ) (end : List Incoming)
    (live : ℕ) (ids : List ℕ) (hub : Seen) (holds : Option (List ℕ)) (waits : List ℕ) (sent : Option (List Outgoing)) (arrivals : Option (List Incoming)) (moments : Option (List ℕ))
    (r : IsServing b sink_then wire_then sink wire waited all tick due left end live ids hub holds waits sent arrivals moments) where
  pub serving_ends : left ≡ 0 → Serving b all holds waits sent × (arrivals ≡ Some end) × ((more : Room) → HasRoom sink_then wire_then (waited ++ event_lines all) (sent_for (b.live + 1) b.channels all) more → HasRoom sink wire waits [] more)
  serving_ends none =
      let nothing = ap (λ n. events_of_turns b.live tick b.channels due (turns_of n r.brings r.shows)) none ∙ no_turn b tick due r.brings r.shows in
      let whole : r.events ≡ all = sym (r.whole ∙ ap (λ (l : List HubEvent). r.events ++ l) nothing ∙ append-nil r.events) in
      let ends : r.brings ≡ end = sym (r.end_is ∙ ap (λ n. drop n r.brings) none) in (
        subst (λ (es : List HubEvent). Serving b es holds waits sent) whole r.between.serving,
        r.wire_is ∙ ap Some ends,
        λ more h. room_none sink wire waits (b.live + 1) (behind r.events b.channels) _ more nothing (r.room more h),
      )

  module _ (k : ℕ) (is : left ≡ suc k) where
    abbrev turn_events : List HubEvent
    turn_events = next_events b r.brings ++ tick_at due (next_moment r.shows)

    abbrev behind_turn : ℕ → List HubEvent
    behind_turn d = events_of_turns b.live tick b.channels d (turns_of k (drop 1 r.brings) (later r.shows))

    splits : events_of_turns b.live tick b.channels due (turns_of left r.brings r.shows) ≡ turn_events ++ behind_turn (due_after tick due (next_moment r.shows))
    splits = ap (λ n. events_of_turns b.live tick b.channels due (turns_of n r.brings r.shows)) is ∙ one_turn b tick due k r.brings r.shows

    grouped : r.events ++ turn_events ≡ (r.events ++ next_events b r.brings) ++ tick_at due (next_moment r.shows)
    grouped = sym (append_assoc r.events (next_events b r.brings) (tick_at due (next_moment r.shows)))

    whole_past : all ≡ ((r.events ++ next_events b r.brings) ++ tick_at due (next_moment r.shows)) ++ behind_turn (due_after tick due (next_moment r.shows))
    whole_past =
        r.whole ∙ ap (λ (l : List HubEvent). r.events ++ l) splits ∙ sym (append_assoc r.events turn_events (behind_turn (due_after tick due (next_moment r.shows))))
        ∙ ap (λ (l : List HubEvent). l ++ behind_turn (due_after tick due (next_moment r.shows))) grouped

    -- a turn that breaks off
    pub turn_breaks : (now : Option (List ℕ)) (waiting : List ℕ) (out : Option (List Outgoing)) (stop : Stop) → Broken b ((r.events ++ next_events b r.brings) ++ tick_at due (next_moment r.shows)) now waiting out stop
        → Broken b all now waiting out stop
    turn_breaks now waiting out stop broken =
        subst (λ (es : List HubEvent). Broken b es now waiting out stop) (sym whole_past) (broken_more b _ (behind_turn (due_after tick due (next_moment r.shows))) now waiting out stop broken)

    -- there is room for the turn
    pub turn_room : (more : Room) → HasRoom sink_then wire_then (waited ++ event_lines all) (sent_for (b.live + 1) b.channels all) more
        → HasRoom sink wire (waits ++ event_lines turn_events) (sent_for (b.live + 1) (behind r.events b.channels) turn_events)
        (room_for (b.live + 1) (behind turn_events (behind r.events b.channels)) (behind_turn (due_after tick due (next_moment r.shows))) more)
    turn_room more h =
        room_split sink wire waits (b.live + 1) (behind r.events b.channels) turn_events (behind_turn (due_after tick due (next_moment r.shows))) more
        (subst (λ (es : List HubEvent). HasRoom sink wire (waits ++ event_lines es) (sent_for (b.live + 1) (behind r.events b.channels) es) more) splits (r.room more h))

    -- a turn that goes on
    pub turn_goes_on : (later_sink : ℕ → Type 0) (later_wire : ℕ → ℕ → Type 0) (next : ℕ) (port : ℕ) (numbered : List ℕ) (became : Seen) (now : Option (List ℕ)) (waiting : List ℕ) (out : Option (List Outgoing))
        (brought : Option (List Incoming)) (shown : Option (List ℕ)) → next ≡ due_after tick due (next_moment r.shows)
        → IsBetween b ((r.events ++ next_events b r.brings) ++ tick_at due (next_moment r.shows)) port numbered became now waiting out → brought ≡ Some (drop 1 r.brings) → shown ≡ Some (later r.shows)
        → ((more : Room) → HasRoom sink wire (waits ++ event_lines turn_events) (sent_for (b.live + 1) (behind r.events b.channels) turn_events) more → HasRoom later_sink later_wire waiting [] more)
        → IsServing b sink_then wire_then later_sink later_wire waited all tick next k end port numbered became now waiting out brought shown
    turn_goes_on later_sink later_wire next port numbered became now waiting out brought shown next_is between brought_is shown_is goes =
        subst (λ d. IsServing b sink_then wire_then later_sink later_wire waited all tick d k end port numbered became now waiting out brought shown) (sym next_is)
        (record {
          events = (r.events ++ next_events b r.brings) ++ tick_at due (next_moment r.shows);
          brings = drop 1 r.brings;
          shows = later r.shows;
          between = between;
          wire_is = brought_is;
          clock_is = shown_is;
          whole = whole_past;
          end_is = r.end_is ∙ ap (λ n. drop n r.brings) is ∙ drop_one k r.brings;
          room = λ more h.
              let behind_it = behind_turn (due_after tick due (next_moment r.shows)) in
              let joined = room_join later_sink later_wire waiting (b.live + 1) (behind turn_events (behind r.events b.channels)) behind_it more
              (goes (room_for (b.live + 1) (behind turn_events (behind r.events b.channels)) behind_it more) (turn_room more h)) in
              let channels : behind turn_events (behind r.events b.channels) ≡ behind ((r.events ++ next_events b r.brings) ++ tick_at due (next_moment r.shows)) b.channels =
              sym (behind_append b.channels r.events turn_events) ∙ ap (λ (es : List HubEvent). behind es b.channels) grouped in
              subst (λ (cs : List Served). HasRoom later_sink later_wire (waiting ++ event_lines behind_it) (sent_for (b.live + 1) cs behind_it) more) channels joined;
        })
