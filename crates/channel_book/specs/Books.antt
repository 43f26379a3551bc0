-- What contracts see of a book, and what is true of each.
use Rattle.std.specs.Prelude.{List, []}
use Rattle.rams_model.specs.Service.{Settings}
use Rattle.server_hub.specs.session_core.{StandsFor}
use Rattle.server_hub.specs.session_core.Seen.{Seen}
use Rattle.channel_book.specs.declared.entry.Entry.{Entry}
use Rattle.channel_book.specs.Histories.{IsLegal, events_behind}

pub record Kept : Type 0 where
  pub settings : Settings
  pub entries : List Entry

-- The entries are a legal history, and the core is the one to which their events lead.
pub record Replays (core : Seen) (entries : List Entry) : Type 0 where
  pub stands : StandsFor core (events_behind [] entries)
  pub legal : IsLegal core.settings entries
