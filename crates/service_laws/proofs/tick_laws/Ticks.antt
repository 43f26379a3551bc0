-- The parts of a tick: runs, repairs, and whom it forgets.
use Rattle.std.proofs.Common.{◌≡◌, Bool, true, List, ◌∷◌, refl, ap, ◌∙◌}
use Rattle.std.specs.Prelude.{Contains, filter}
use Rattle.std.proofs.lemmas.List.Elements.{All-contains, filter_passes}
use Rattle.rams_model.specs.declared.{Event.Event, Held.Held, Note.Note, Event.TheVariants.Tick}
use Rattle.rams_model.specs.Service.{Settings, tick, began, History, arrivals, hold, opened, bursts_served, repairs_sent, idle_forgotten, after_tick, after_hearing, heard_of, history_of}
use Rattle.rams_model.specs.Packets.{Arrival, stream_of}
use Rattle.rams_model.specs.Packets.Source as sources
use Rattle.rams_model.proofs.Induction.{arrivals_of_part}
use Rattle.rams_model.proofs.Items.{Puts, all_served_put}

-- the history as a tick began, and after each of its parts
abbrev pub start : Settings → List Event → History
start s events = began tick ∷ history_of s events

abbrev pub ran : Settings → List Event → History
ran s events = bursts_served s (start s events)

abbrev pub repaired_all : Settings → List Event → History
repaired_all s events = repairs_sent s (ran s events)

pub tick_is : (s : Settings) (events : List Event) → history_of s (Tick ∷ events) ≡ idle_forgotten s (repaired_all s events)
unfolding history_of after_hearing heard_of after_tick
tick_is s events = refl

-- what is held stays so through a tick
pub same_held : (s : Settings) (kind : Note → Bool) (before after : History) → Puts kind before after → hold s after ≡ hold s before
same_held s kind before after p = ap (hold_of s) (arrivals_of_part kind before after p)
  where
    hold_of : Settings → List Arrival → List Held
    hold_of s came = sources.hold s.channel.window s.channel.ring (stream_of s.channel.window came)

pub held_at_start : (s : Settings) (before : History) → hold s (began tick ∷ before) ≡ hold s before
unfolding arrivals
held_at_start s before = refl

pub held_ran : (s : Settings) (events : List Event) → hold s (ran s events) ≡ hold s (history_of s events)
held_ran s events =
    same_held s _ (start s events) (ran s events) (all_served_put s (hold s (start s events)) (opened (start s events)) (start s events)) ∙ held_at_start s (history_of s events)

-- an item of a filtered list passes the test
pub passed : {A : Type 0} (test : A → Bool) (xs : List A) (x : A) → Contains (filter test xs) x → test x ≡ true
passed test xs x c = All-contains (λ y. test y ≡ true) (filter test xs) x (filter_passes test xs) c
