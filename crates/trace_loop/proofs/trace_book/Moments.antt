-- The moments of a channel.
use Rattle.std.proofs.Common.{[], ◌∷◌, ◌++◌, sym, ◌∙◌, append_assoc}
use Rattle.rams_model.specs.Service.{Item, History}
use Rattle.service_laws.specs.book_laws.{IsMoment}
use Rattle.server_hub.specs.Served.{Served}
use Rattle.trace_loop.specs.trace_book.{WasSo}

pub moment : (c : Served) (history : History) → WasSo c history → IsMoment c.settings history
moment c history was = record { events = c.events; later = was.later; splits = was.splits }

-- what was so before an item was so too
pub earlier : (c : Served) (i : Item) (history : History) → WasSo c (i ∷ history) → WasSo c history
earlier c i history was = record { later = was.later ++ i ∷ []; splits = was.splits ∙ sym (append_assoc was.later (i ∷ []) history) }
