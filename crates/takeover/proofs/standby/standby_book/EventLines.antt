-- A line that brings an event is the line of that event.
use Rattle.std.proofs.Common.{◌≡◌, true, ◌&&◌, Some, sym, ap, ◌∙◌}
use Rattle.std.proofs.lemmas.Bool.{and_parts}
use Rattle.rams_model.specs.Texts.{bytes_in, is_hex, is_short, TraceLine, head_line, channel_line, live_line, feedback_line, tick_line, end_line, tune_line, give_line, mcast_line, ask_line, drop_line, line_has_form}
use Rattle.server_hub.specs.declared.HubEvent.{HubEvent}
use Rattle.server_hub.specs.declared.HubEvent.TheVariants.{Live, Feedback, Tick}
use Rattle.trace_loop.specs.trace_book.trace_serving.{brought}
use Rattle.trace_loop.specs.trace_book.{run}
use Rattle.trace_loop.specs.journal_book.{line_of_event}
use Rattle.trace_loop.proofs.journal_book.Hexes.{word_back}

pub event_is : (line : TraceLine) (e : HubEvent) → line_has_form line ≡ true → brought run line ≡ Some e → line_of_event e ≡ line
event_is (head_line version tick link) e form h = absurd cc
event_is (channel_line version c) e form h = absurd cc
event_is (live_line id hex) e form h =
    let is : Live id (bytes_in hex) ≡ e = cc in
    ap line_of_event (sym is) ∙ ap (live_line id) (word_back hex (and_parts (is_short id) (is_hex hex) form).1)
event_is (feedback_line id client hex) e form h =
    let is : Feedback id client (bytes_in hex) ≡ e = cc in
    ap line_of_event (sym is) ∙ ap (feedback_line id client) (word_back hex (and_parts (is_short id && is_short client) (is_hex hex) form).1)
event_is tick_line e form h =
    let is : Tick ≡ e = cc in ap line_of_event (sym is)
event_is end_line e form h = absurd cc
event_is (tune_line id client ssrc) e form h = absurd cc
event_is (give_line number) e form h = absurd cc
event_is (mcast_line id client n) e form h = absurd cc
event_is (ask_line id client) e form h = absurd cc
event_is (drop_line id client) e form h = absurd cc
