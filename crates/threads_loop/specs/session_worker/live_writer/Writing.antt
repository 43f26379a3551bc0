-- What the calls of a list leave.
use Rattle.std.specs.Prelude.{◌≡◌, ℕ, List, ◌++◌, map, length}
use Rattle.rams_model.specs.declared.Event.{Event}
use Rattle.rams_model.specs.Service.{Settings}
use Rattle.channel_book.specs.declared.Entry.{Entry}
use Rattle.channel_book.specs.{calls_by, StartsWith}
use Rattle.channel_book.specs.channel_lock.{numbers}
use Rattle.threads_loop.specs.declared.session_worker.live_writer.writer.Placed.{Placed}
use Rattle.threads_loop.specs.session_worker.live_writer.Places.{places_by, datagrams_of}

-- All of these events were taken as calls of the list, in order. Each has its place in the history, and the datagrams of its answer there.
pub record HasWritten (list : ℕ) (s : Settings) (events : List Event) (old : List Entry) (placed : List Placed) (new : List Entry) : Type 0 where
  pub made : List Entry
  pub events_are : map (λ (e : Entry). e.event) made ≡ events
  pub own : calls_by list new ≡ calls_by list old ++ made
  pub starts : StartsWith new old
  pub places : places_by list new ≡ places_by list old ++ map (λ (p : Placed). p.place) placed
  pub drawn : map (λ (p : Placed). p.datagrams.items) placed ≡ map (λ (e : Entry). datagrams_of s e.answer) made

-- These datagrams of answers stand behind the others, side by side from this place on.
pub record HasDrawn (place : ℕ) (drawn : List (List (List ℕ))) (old new : List Placed) : Type 0 where
  pub placed : List Placed
  pub items : new ≡ old ++ placed
  pub places_are : map (λ (p : Placed). p.place) placed ≡ numbers place (length drawn)
  pub drawn_are : map (λ (p : Placed). p.datagrams.items) placed ≡ drawn

-- All of these events were taken as calls of the list, in order, and what became of them stands behind what became of others.
pub record HasWrittenPiece (list : ℕ) (s : Settings) (events : List Event) (old : List Entry) (before after : List Placed) (new : List Entry) : Type 0 where
  pub placed : List Placed
  pub items : after ≡ before ++ placed
  pub written : HasWritten list s events old placed new
