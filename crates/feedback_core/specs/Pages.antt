-- What is noted of a datagram so far, and what its client is told.
use Rattle.std.specs.Prelude.{◌≡◌, ℕ, true, List, [], length, Option, Some, None, option_map, option_to_list}
use Rattle.rams_model.specs.declared.{Info.Info, Note.Note}
use Rattle.rams_model.specs.declared.Note.TheVariants.{Accept, Update, Again, Refuse}
use Rattle.rams_model.specs.Service.{Settings, refuse_info, History, info_order, newest_notes, newest_orders, Wanted}
use Rattle.client_table.specs.declared.Entry.{Entry}
use Rattle.feedback_core.specs.declared.{page.Page.Page, visitor.Visitor.Visitor}
use Rattle.feedback_core.specs.Visits.{IsVisit}

-- the first, or the other where there is none
abbrev pub or_info : Option Info → Option Info → Option Info
or_info (Some i) other = Some i
or_info None other = other

-- what a client was told last of its open burst
abbrev pub last_of : Option Entry → Option Info
last_of None = None
last_of (Some e) = option_map (λ b. b.last) e.burst

-- what a client is told of the answer to its request, after which its entry is this
abbrev pub info_for : Option Entry → Note → Option Info
info_for o (Accept client first rate join) = last_of o
info_for o (Update client rate join) = last_of o
info_for o (Again client) = last_of o
info_for o (Refuse client code) = Some (refuse_info code)
info_for o note = None

-- The page has the notes of the present datagram, and the client is told what their orders say.
pub record IsPage (s : Settings) (k : ℕ) (history : History) (page : Page) : Type 0 where
  pub notes : newest_notes history [] ≡ page.notes.items
  pub orders : newest_orders s history [] ≡ option_to_list (option_map (info_order k) page.info)

-- how much the client is told
abbrev pub told_by : Page → ℕ
told_by page = length (option_to_list page.info)

-- as long as a RAMS message is answered, the client is told nothing
abbrev pub IsFresh : Page → Type 0
IsFresh page = page.is_due ≡ true → page.info ≡ None

-- Messages are answered: the visitor, the pending repairs and the page are what the lawful history says.
pub record IsTurned (s : Settings) (before lawful : History) (queue : List Wanted) (v : Visitor) (page : Page) : Type 0 where
  pub visit : IsVisit s before lawful v queue
  pub written : IsPage s v.client lawful page
