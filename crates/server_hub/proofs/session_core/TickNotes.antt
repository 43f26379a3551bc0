-- What the answer to a tick notes.
use Rattle.std.proofs.Common.{◌≡◌, true, List, [], ◌∷◌, ◌++◌, sym, subst}
use Rattle.std.specs.List.{AllByRecursion as Each}
use Rattle.rams_model.specs.declared.{Event.Event, Note.Note, Event.TheVariants.Tick}
use Rattle.rams_model.specs.Service.{Settings, tick, began, told, noted, History, after_hearing, heard_of, newest_notes, history_of, answer}
use Rattle.rams_model.proofs.Items.{AreOfKind, is_of_tick, tick_puts}

-- the notes are those behind the tick's beginning, and each is of this kind
of_items : (items : History) (before : History) (later : List Note) → AreOfKind is_of_tick items → Each (λ (n : Note). is_of_tick n ≡ true) later → Each (λ (n : Note). is_of_tick n ≡ true) (newest_notes (items ++ began tick ∷ before) later)
unfolding newest_notes
of_items [] before later kinds are = are
of_items (noted n packet ∷ items) before later kinds are = of_items items before (n ∷ later) kinds.1 (kinds.0, are)
of_items (began heard ∷ items) before later kinds are = absurd kinds
of_items (told client message ∷ items) before later kinds are = absurd kinds

pub tick_notes : (s : Settings) (events : List Event) → Each (λ (n : Note). is_of_tick n ≡ true) (answer s events Tick).notes
unfolding history_of after_hearing heard_of
tick_notes s events =
    let start = began tick ∷ history_of s events in
    let puts = tick_puts s start in
    subst (λ (h : History). Each (λ (n : Note). is_of_tick n ≡ true) (newest_notes h [])) (sym puts.splits) (of_items puts.items (history_of s events) [] puts.notes tt)
