-- The datagrams of a history's answers, list by list.
use Rattle.std.specs.Prelude.{◌≡◌, ℕ, List, [], map, reverse, slice_index_or}
use Rattle.rams_model.specs.Service.{Settings}
use Rattle.channel_book.specs.declared.Entry.{Entry}
use Rattle.channel_book.specs.{calls_by}
use Rattle.threads_loop.specs.session_worker.live_writer.{datagrams_of}

-- the datagrams of each answer among these entries, in order
abbrev pub answered_with : Settings → List Entry → List (List (List ℕ))
answered_with s entries = map (λ (e : Entry). datagrams_of s e.answer) entries

-- What is to be handed out of each list for these entries: the datagrams of the list's calls among them, those of the last call first.
pub record AreQueues (s : Settings) (entries : List Entry) (queues : List (List (List (List ℕ)))) : Type 0 where
  pub each : (list : ℕ) → slice_index_or queues list [] ≡ reverse (answered_with s (calls_by list entries))
