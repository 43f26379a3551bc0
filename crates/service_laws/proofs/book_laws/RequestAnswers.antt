-- Each answer to a RAMS-R keeps the table, and each RAMS-R has one.
use Rattle.std.proofs.Common.{◌≡◌, ℕ, inl, inr, ◌⊎◌, ⊎_elim, List, [], ◌∷◌, ◌++◌, Option, Some, None, refl, ap, sym, ◌∙◌, subst}
use Rattle.std.specs.Prelude.{IsSomeAnd, IsOkAnd, Result, Ok, Err}
use Rattle.rams_model.specs.declared.{Event.Event, TlvFault.TlvFault, Note.Note}
use Rattle.rams_model.specs.declared.Note.TheVariants.{Update, Again, Refuse}
use Rattle.rams_model.specs.Service.{Settings, Message, asks, stops, Item, began, told, noted, History, Burst, next, open_burst, verdict, after_message, history_of}
use Rattle.rams_model.specs.Formats.{Request}
use Rattle.service_laws.specs.book_laws.{AreNotes, items_of, AnsweredBy, IsFirst}
use Rattle.service_laws.specs.book_laws.Refusals.{Line, again, update, accept, table, code_of, asked, Applies, joins_in, Begins, Gives, IsByTable, IsRefusedWith, IsRequestRefused, IsStopRefused, IsAccept, IsUpdate, IsAnsweredExactly}
use Rattle.rams_model.proofs.Legal.{IsVerdict, IsUnread}
use Rattle.service_laws.proofs.book_laws.FirstLines.{one_first}
use Rattle.service_laws.proofs.book_laws.Answering.{is_answered, IsWhole, are_whole}
use Rattle.service_laws.proofs.book_laws.RequestTable.{verdict_lines}

pub by_table : (s : Settings) (k : ℕ) (history : History) (note : Note) → IsVerdict s history k note → IsByTable s k history note
by_table s k history note v =
    let b = verdict_lines s k history v.request in
    record {
      sender = v.sender;
      request = v.request;
      answers = is_answered history k (asks v.sender v.request) v.is_answer;
      line = b.line;
      first = b.first;
      gives = subst (Gives s k history v.request b.line) v.is_verdict b.gives;
    }

-- what a line gives, by its kind
refused_by : (s : Settings) (k : ℕ) (history : History) (request : Result Request TlvFault) (line : Line) (note : Note) (code : ℕ) → Gives s k history request line note
    → note ≡ Refuse k code → code_of line ≡ Some code
refused_by s k history request again note code g e = absurd cc
refused_by s k history request update note code g e = at request (open_burst s k history) g
  where
    at : (request : Result Request TlvFault) (o : Option Burst)
        → IsOkAnd request (λ r. IsSomeAnd o (λ b. note ≡ Update k (asked s r.bps) (joins_in s history (next b) (asked s r.bps)))) → None ≡ Some code
    at (Err fault) o g = absurd g
    at (Ok r) None g = absurd g
    at (Ok r) (Some b) g = absurd cc
refused_by s k history request accept note code g e = at request g
  where
    at : (request : Result Request TlvFault) → IsOkAnd request (Begins s k history note) → None ≡ Some code
    at (Err fault) g = absurd g
    at (Ok r) g = let is = g.is_accept in absurd cc
refused_by s k history request line note code g e = cc

code_given : (s : Settings) (k : ℕ) (history : History) (request : Result Request TlvFault) (line : Line) (note : Note) (code : ℕ) → Gives s k history request line note
    → code_of line ≡ Some code → note ≡ Refuse k code
code_given s k history request again note code g e = absurd cc
code_given s k history request update note code g e = absurd cc
code_given s k history request accept note code g e = absurd cc
code_given s k history request line note code g e = cc

accept_given : (s : Settings) (k : ℕ) (history : History) (request : Result Request TlvFault) (note : Note) → Gives s k history request accept note → IsAccept k note
accept_given s k history (Err fault) note g = absurd g
accept_given s k history (Ok r) note g = (g.start.n, asked s r.bps, joins_in s history g.start.n (asked s r.bps), g.is_accept)

update_given : (s : Settings) (k : ℕ) (history : History) (request : Result Request TlvFault) (note : Note) → Gives s k history request update note → IsUpdate k note
update_given s k history (Err fault) note g = absurd g
update_given s k history (Ok r) note g = at (open_burst s k history) g
  where
    at : (o : Option Burst) → IsSomeAnd o (λ b. note ≡ Update k (asked s r.bps) (joins_in s history (next b) (asked s r.bps))) → IsUpdate k note
    at None g = absurd g
    at (Some b) g = (asked s r.bps, joins_in s history (next b) (asked s r.bps), g)

accepted_by : (s : Settings) (k : ℕ) (history : History) (request : Result Request TlvFault) (line : Line) (note : Note) → Gives s k history request line note
    → IsAccept k note → line ≡ accept
accepted_by s k history request accept note g a = refl
accepted_by s k history request again note g a = let is = a.3 in absurd cc
accepted_by s k history request update note g a = let is = a.3 in let u = (update_given s k history request note g).2 in absurd cc
accepted_by s k history request line note g a = let is = a.3 in absurd cc

updated_by : (s : Settings) (k : ℕ) (history : History) (request : Result Request TlvFault) (line : Line) (note : Note) → Gives s k history request line note
    → IsUpdate k note → line ≡ update
updated_by s k history request update note g a = refl
updated_by s k history request again note g a = let is = a.2 in absurd cc
updated_by s k history request accept note g a = let is = a.2 in let u = (accept_given s k history request note g).3 in absurd cc
updated_by s k history request line note g a = let is = a.2 in absurd cc

same_by : (s : Settings) (k : ℕ) (history : History) (request : Result Request TlvFault) (line : Line) (note : Note) → Gives s k history request line note
    → note ≡ Again k → line ≡ again
same_by s k history request again note g a = refl
same_by s k history request update note g a = let u = (update_given s k history request note g).2 in absurd cc
same_by s k history request accept note g a = let u = (accept_given s k history request note g).3 in absurd cc
same_by s k history request line note g a = absurd cc

pub refused_truly : (s : Settings) (k code : ℕ) (history : History) → IsVerdict s history k (Refuse k code) ⊎ IsUnread history k code
    → IsRequestRefused s k history code ⊎ IsStopRefused k history code
refused_truly s k code history allowed =
    ⊎_elim
    (λ (v : IsVerdict s history k (Refuse k code)).
    let b = by_table s k history (Refuse k code) v in
    inl (record {
      sender = b.sender;
      request = b.request;
      answers = b.answers;
      cause = record { line = b.line; is_code = refused_by s k history b.request b.line (Refuse k code) code b.gives refl; first = b.first };
    }))
    (λ (u : IsUnread history k code). inr (record { fault = u.fault; answers = is_answered history k (stops (Err u.fault)) u.is_answer; is_code = u.code_is }))
    allowed

-- notes that stand in front of one message are the same
same_items : (items others : History) (k : ℕ) (m : Message) (before : History) → AreNotes items → AreNotes others → items ++ told k m ∷ before ≡ others ++ told k m ∷ before
    → items ≡ others
same_items [] [] k m before n o e = refl
same_items [] (noted note packet ∷ others) k m before n o e = absurd cc
same_items (noted note packet ∷ items) [] k m before n o e = absurd cc
same_items (noted note packet ∷ items) (noted other sent ∷ others) k m before n o e =
    let first : noted note packet ≡ noted other sent = cc in
    let rest : items ++ told k m ∷ before ≡ others ++ told k m ∷ before = cc in
    ap (λ (i : Item). i ∷ items) first ∙ ap (λ (h : History). noted other sent ∷ h) (same_items items others k m before n o rest)
same_items (began heard ∷ items) others k m before n o e = absurd n
same_items (told client message ∷ items) others k m before n o e = absurd n
same_items items (began heard ∷ others) k m before n o e = absurd o
same_items items (told client message ∷ others) k m before n o e = absurd o

-- the whole answer to a message is these notes
pub answered_by : (s : Settings) (k : ℕ) (m : Message) (before later : History) (notes : List Note) → IsWhole s k m before later → AreNotes (items_of notes)
    → items_of notes ++ told k m ∷ before ≡ after_message s k m (told k m ∷ before) → AnsweredBy later notes
answered_by s k m before later notes w n e =
    record { after = w.after; splits = w.splits ∙ ap (λ (h : History). w.after ++ h) (same_items w.items (items_of notes) k m before w.notes n (w.answer ∙ sym e)); anew = w.anew }

pub answered_exactly : (s : Settings) (events : List Event) (k sender : ℕ) (request : Result Request TlvFault) (later before : History)
    → history_of s events ≡ later ++ told k (asks sender request) ∷ before → IsAnsweredExactly s k (told k (asks sender request) ∷ before) request later
answered_exactly s events k sender request later before e =
    let history = told k (asks sender request) ∷ before in
    let note = verdict s k history request in
    let b = verdict_lines s k history request in
    let one : (line : Line) → IsFirst (Applies s k history request) table line → b.line ≡ line = λ line f. one_first (Applies s k history request) table b.line line b.first f in
    let to : (line : Line) → b.line ≡ line → IsFirst (Applies s k history request) table line = λ line is. subst (IsFirst (Applies s k history request) table) is b.first in
    let give : (line : Line) → IsFirst (Applies s k history request) table line → Gives s k history request line note =
    λ line f. subst (λ (l : Line). Gives s k history request l note) (one line f) b.gives
    in
    record {
      note = note;
      alone = answered_by s k (asks sender request) before later (note ∷ []) (are_whole s events k (asks sender request) later before e) tt refl;
      accepted = (λ a. to accept (accepted_by s k history request b.line note b.gives a), λ f. accept_given s k history request note (give accept f));
      updated = (λ a. to update (updated_by s k history request b.line note b.gives a), λ f. update_given s k history request note (give update f));
      same = (λ a. to again (same_by s k history request b.line note b.gives a), λ f. give again f);
      refused = λ code. (
        λ a. record { line = b.line; is_code = refused_by s k history request b.line note code b.gives a; first = b.first },
        λ (c : IsRefusedWith s k history request code). code_given s k history request c.line note code (give c.line c.first) c.is_code,
      );
      given = give;
    }
