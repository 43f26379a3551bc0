-- The world that a trace is served by.
use Rattle.std.proofs.Common.{◌≡◌, ℕ, suc, ◌+◌, arith, List, [], ◌∷◌, ◌++◌, map, length, get_or, Option, Some, None, refl, ap, ap₂, sym, ◌∙◌, subst, append_assoc, append-nil}
use Rattle.std.specs.Prelude.{All, IfSome}
use Rattle.std.proofs.lemmas.List.Elements.{All-nil, All-cons}
use Rattle.rams_model.specs.Service.{Settings}
use Rattle.rams_model.specs.Texts.{Head, TraceLine, head_line, channel_line, live_line, feedback_line, tick_line, end_line, tune_line, give_line, mcast_line, ask_line, drop_line}
use Rattle.server_hub.specs.{served}
use Rattle.server_hub.specs.Served.{Served}
use Rattle.trace_text.specs.{LinesAreSpelledAsRead}
use Rattle.trace_loop.specs.trace_book.trace_serving.{brought, ended, last_stage, taken, AreLawful, Stand, opened_all, after_all, events_text, came, IsServedSo}
use Rattle.trace_loop.specs.trace_book.{settings_of, new_channels, IsOfBytes, KeepsPromises, ChannelsKeepTheirPromises}
use Rattle.trace_loop.proofs.trace_book.Bytes.{hex_bytes}
use Rattle.trace_loop.proofs.trace_book.Lawful.{lawful_all, of_settings}
use Rattle.meet_loop.specs.declared.world_laws.world.WorldEvent.{WorldEvent}
use Rattle.meet_loop.specs.world_laws.World.{World}
use Rattle.meet_loop.specs.world_laws.{new_world, happens, world_after, BringsBytes, IsNew, HasFields, EachReceiverPresentsAPrefix, EachReceiverPresentsWhatIsDelivered, NoMediaAreForeignOrBad, NoInfosAreForeignOrBad}
use Rattle.meet_loop.specs.world_text.{first_line, event_lines, world_lines}
use Rattle.meet_loop.specs.world_book.{meet, world_of, IsServedByAWorld, EndsSo, ReceiversPresent}
use Rattle.trace_loop.proofs.trace_book.trace_serving.Brought.{all_came}
use Rattle.trace_loop.proofs.trace_book.Served.{new_of, settings_are, new_are, channels_of}
use Rattle.meet_loop.proofs.world_book.Promising.{IsWorldOfBytes, IsOf, happens_stays}
use Rattle.meet_loop.proofs.world_book.Fields.{settings_have, each_informed}
use Rattle.meet_loop.proofs.world_book.Channels.{happens_keeps, are_new}

-- the channels are those of the lines
opened_are : (all : List Settings) (cs : List Served) → opened_all meet all (new_world cs) ≡ new_world (cs ++ new_of all)
opened_are [] cs = ap new_world (sym (append-nil cs))
opened_are (s ∷ all) cs = opened_are all (cs ++ served s [] ∷ []) ∙ ap new_world (append_assoc cs (served s [] ∷ []) (new_of all))

events_come : (events : List WorldEvent) (cs : List Served) → after_all meet events (new_world cs) ≡ world_after cs events
unfolding after_all world_after
events_come [] cs = refl
events_come (e ∷ events) cs = ap (λ (w : World). (happens e w).world) (events_come events cs)

events_are_said : (events : List WorldEvent) (cs : List Served) → events_text meet events (new_world cs) ≡ world_lines cs events
unfolding events_text world_lines
events_are_said [] cs = refl
events_are_said (e ∷ events) cs =
    ap₂ (λ (x y : List ℕ). x ++ y) (events_are_said events cs) (ap (event_lines (length events + 1) e) (events_come events cs))

settings_over : (events : List WorldEvent) (cs : List Served) → settings_of (world_after cs events).channels ≡ settings_of cs
unfolding world_after
settings_over [] cs = refl
settings_over (e ∷ events) cs = happens_keeps e (world_after cs events) ∙ settings_over events cs

-- what lines bring are bytes
line_brings : (line : TraceLine) → IfSome (brought meet line) BringsBytes
line_brings (live_line id hex) = hex_bytes hex
line_brings (feedback_line id client hex) = tt
line_brings tick_line = tt
line_brings (head_line version tick link) = tt
line_brings (channel_line version c) = tt
line_brings end_line = tt
line_brings (tune_line id client ssrc) = tt
line_brings (give_line n) = tt
line_brings (mcast_line id client n) = tt
line_brings (ask_line id client) = tt
line_brings (drop_line id client) = tt

-- so of all that a channel may get
bytes_come : (line : TraceLine) → IfSome (brought meet line) IsWorldOfBytes
bytes_come (live_line id hex) = hex_bytes hex
bytes_come (feedback_line id client hex) = hex_bytes hex
bytes_come tick_line = tt
bytes_come (head_line version tick link) = tt
bytes_come (channel_line version c) = tt
bytes_come end_line = tt
bytes_come (tune_line id client ssrc) = tt
bytes_come (give_line n) = tt
bytes_come (mcast_line id client n) = tt
bytes_come (ask_line id client) = tt
bytes_come (drop_line id client) = tt

new_have_none : (all : List Settings) → All (λ c. All IsOfBytes c.events) (new_of all)
new_have_none [] = All-nil (λ c. All IsOfBytes c.events)
new_have_none (s ∷ all) = All-cons (λ c. All IsOfBytes c.events) (served s []) (new_of all) (All-nil IsOfBytes) (new_have_none all)

bytes_stay : (all : List Settings) (events : List WorldEvent) → All IsWorldOfBytes events → IsOf (world_after (new_of all) events)
unfolding world_after
bytes_stay all [] a = record { channels = new_have_none all; datagrams = λ k d less. absurd (omega (arith, less)) }
bytes_stay all (e ∷ events) a = happens_stays e (world_after (new_of all) events) (a 0 e (omega arith)) (bytes_stay all events (λ k d less. a (suc k) d (omega (arith, less))))

-- channels that stand under a head line
new_under : (o : Option Head) (all : List Settings) → Stand o all → All (IsNew (new_of all)) (new_of all)
new_under None all stand = subst (λ (l : List Settings). All (IsNew (new_of l)) (new_of l)) (sym stand) (All-nil (IsNew []))
new_under (Some head) all stand = are_new [] all stand.fit.once stand.lawful

-- A trace.
module _ (trace : List ℕ) (so : IsServedSo meet trace) where
  after_lines : world_of trace ≡ world_after (new_of so.all) (came meet trace)
  after_lines = so.after ∙ ap (after_all meet (came meet trace)) (opened_are so.all []) ∙ events_come (came meet trace) (new_of so.all)

  all_are : settings_of (world_of trace).channels ≡ so.all
  all_are = ap (λ (w : World). settings_of w.channels) after_lines ∙ settings_over (came meet trace) (new_of so.all) ∙ settings_are so.all

  new_lines : new_channels (world_of trace).channels ≡ new_of so.all
  new_lines = new_are (world_of trace).channels ∙ ap new_of all_are

  pub served_by_a_world : IsServedByAWorld trace
  served_by_a_world = record {
    head = so.head;
    opened = channels_of (world_of trace).channels ∙ ap (λ (all : List Settings). map (λ s. s.channel) all) all_are ∙ so.opened;
    after = after_lines ∙ sym (ap (λ (cs : List Served). world_after cs (came meet trace)) new_lines);
    count = so.count;
    few = so.few;
  }

  pub ends_so : EndsSo trace
  ends_so =
      let text = ap (events_text meet (came meet trace)) (opened_are so.all []) ∙ events_are_said (came meet trace) (new_of so.all) ∙ sym (ap (λ (cs : List Served). world_lines cs (came meet trace)) new_lines) in
      record {
        left = so.left;
        last = so.last;
        splits = so.splits;
        why = so.why;
        text = so.text ∙ ap (λ (l : List ℕ). ended so.last.status (first_line ++ (l ++ so.last.text))) text;
      }

  pub receivers_present : EachReceiverPresentsAPrefix → EachReceiverPresentsWhatIsDelivered → NoMediaAreForeignOrBad → NoInfosAreForeignOrBad → LinesAreSpelledAsRead
      → ReceiversPresent (world_of trace)
  receivers_present prefix delivered media infos spelled =
      let new = new_under (last_stage meet trace).reached.head so.all so.stand in
      let bytes = all_came meet BringsBytes line_brings trace in
      subst ReceiversPresent (sym after_lines)
      (record {
        prefix = prefix (new_of so.all) (came meet trace) new bytes;
        delivered = delivered (new_of so.all) (came meet trace) new bytes;
        media = media (new_of so.all) (came meet trace) new bytes;
        infos =
            each_informed (world_after (new_of so.all) (came meet trace))
            (subst (All HasFields) (sym (settings_over (came meet trace) (new_of so.all) ∙ settings_are so.all)) (settings_have spelled (taken meet trace) so.all so.opened (lawful_all (last_stage meet trace).reached.head so.all so.stand)))
            (infos (new_of so.all) (came meet trace) new bytes);
      })

  pub channels_are_lawful : ChannelsKeepTheirPromises → All KeepsPromises (world_of trace).channels
  channels_are_lawful promises =
      let w = world_after (new_of so.all) (came meet trace) in
      let are = settings_over (came meet trace) (new_of so.all) ∙ settings_are so.all in
      let lawful = of_settings AreLawful w.channels (subst (All AreLawful) (sym are) (lawful_all (last_stage meet trace).reached.head so.all so.stand)) in
      let bytes = (bytes_stay so.all (came meet trace) (all_came meet IsWorldOfBytes bytes_come trace)).channels in
      subst (λ (x : World). All KeepsPromises x.channels) (sym after_lines) (λ k c less. promises (get_or w.channels k c) (lawful k c less) (bytes k c less))
