use Rattle.std.proofs.Common.{◌+◌, List, length, ap, sym, ◌∙◌}
use Rattle.rams_model.specs.declared.Event.{Event}
use Rattle.rams_model.specs.Service.{book}
use Rattle.server_hub.specs.{id_of}
use Rattle.trace_loop.specs.trace_book.{served_by, came, event_text}
use Rattle.trace_loop.specs.trace_book.printed_books.{places, numbered_lines, channels_at}
use Rattle.trace_loop.proofs.trace_book.printed_books.Printing.{event_is, own_is, reached, once_at}
use Rattle.std.specs.Prelude.{slice_index_or}
use Rattle.trace_loop.proofs.trace_book.printed_books.laws.books_are_printed.Goals as goal

pub returns : goal.returns
returns c trace =
    let cs = served_by trace in
    let served = c.traces_are_served_by_their_lines.ensures trace in
    let link = c.traces_stay_within_the_link.ensures trace in
    record {
      each = λ later earlier e is.
          ap (event_text (length earlier + 1) e) (reached c.channels_get_their_events.ensures earlier cs) ∙ event_is (length earlier + 1) e (channels_at cs earlier) (once_at trace earlier link);
      own = λ k d less.
          let it = slice_index_or cs k d in
          own_is it.settings (came trace) ∙ ap (λ (es : List Event). numbered_lines it.settings (places (id_of it) (came trace)) (book it.settings es)) (sym (served.got k d less));
    }
