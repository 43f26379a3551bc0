-- The lists of a closed lock.
use Rattle.std.proofs.Common.{◌≡◌, ℕ, ◌<◌, ◌≤◌, List, [], ◌∷◌, get_or, map, length, reverse, sym, ap, ◌∙◌, subst, arith, All, inl, inr, true≢false}
use Rattle.std.specs.Prelude.{◌⊎◌, Result, Ok, Err, IsOk, IfOk}
use Rattle.std.specs.Global.{Vec}
use Rattle.std.proofs.lemmas.Bool.{cases_lt}
use Rattle.std.proofs.lemmas.List.{length-map, get_or-map, get_or_past}
use Rattle.atomic_table.specs.Seated.{TableId}
use Rattle.ram_io.specs.declared.NoMemory.{NoMemory}
use Rattle.rams_model.specs.declared.Event.{Event}
use Rattle.rams_model.specs.Service.{Settings}
use Rattle.channel_book.specs.declared.Entry.{Entry}
use Rattle.channel_book.specs.{calls_by, IsInterleaving}
use Rattle.channel_book.specs.channel_lock.{Known, IsOfPass, NotAmong}
use Rattle.threads_loop.specs.declared.{session_worker.live_writer.writer.Placed.Placed, session_worker.worker.Worker.Worker}
use Rattle.threads_loop.specs.session_worker.live_writer.{HasWritten}
use Rattle.threads_loop.specs.session_worker.{AreQueues, answered_with, drawn_in, drawn_by, HaveWorked}

-- The entries of a list are the calls that its worker made.
record IsList (s : Settings) (list : ℕ) (events : List Event) (drawn : List (List (List ℕ))) (entries : List Entry) : Type 0 where
  events_are : map (λ (e : Entry). e.event) (calls_by list entries) ≡ events
  drawn_are : drawn ≡ answered_with s (calls_by list entries)

list_written : (s : Settings) (list : ℕ) (events : List Event) (pass : Known) (wrote : Result (Vec Placed) NoMemory) (entries : List Entry) → pass.list ≡ list
    → IfOk wrote (λ placed. HasWritten list s events [] placed.items pass.seen) → IsOk wrote → IsOfPass entries pass → IsList s list events (drawn_in wrote) entries
list_written s list events pass (Err e) entries at w ok of = absurd (true≢false (sym ok))
list_written s list events pass (Ok placed) entries at w ok of =
    let own : calls_by list entries ≡ w.made = subst (λ (n : ℕ). calls_by n entries ≡ calls_by n pass.seen) at of.own ∙ w.own in record {
      events_are = ap (map (λ (e : Entry). e.event)) own ∙ w.events_are;
      drawn_are = w.drawn ∙ ap (answered_with s) (sym own);
    }

some_worker : (staff : List Worker) (k : ℕ) → k < length staff → Worker
some_worker [] k lt = absurd (omega (arith, lt))
some_worker (w ∷ staff) k lt = w

-- the workers' passes are of the lock
pub same_lock : (lock : TableId) (s : Settings) (lists : List (List Event)) (staff : List Worker) → HaveWorked lock s lists staff → All (λ (p : Known). p.lock ≡ lock) (map (λ (w : Worker). w.pass) staff)
same_lock lock s lists staff worked = λ k p lt. at k p (omega (arith, lt, length-map staff (λ (w : Worker). w.pass)))
  where
    at : (k : ℕ) (p : Known) → k < length staff → (get_or (map (λ (w : Worker). w.pass) staff) k p).lock ≡ lock
    at k p lt =
        let w = some_worker staff k lt in
        ap (λ (x : Known). x.lock) (get_or-map (λ (x : Worker). x.pass) staff k w p lt) ∙ (worked.1 k w (omega (arith, lt, worked.0))).lock_is

module _ (lock : TableId) (s : Settings) (lists : List (List Event)) (staff : List Worker) (entries : List Entry)
    (worked : HaveWorked lock s lists staff)
    (wrote : All (λ (w : Worker). IsOk w.wrote) staff)
    (passes : All (IsOfPass entries) (map (λ (w : Worker). w.pass) staff))
    (others : (list : ℕ) → NotAmong (map (λ (w : Worker). w.pass) staff) list → calls_by list entries ≡ []) where
  pass_at : (k : ℕ) (w : Worker) (p : Known) → k < length staff → get_or (map (λ (x : Worker). x.pass) staff) k p ≡ (get_or staff k w).pass
  pass_at k w p lt = get_or-map (λ (x : Worker). x.pass) staff k w p lt

  list_is : (list : ℕ) (w : Worker) → list < length lists → IsList s list (get_or lists list []) (drawn_by (get_or staff list w)) entries
  list_is list w lt =
      let at = get_or staff list w in
      let h = worked.1 list w lt in
      let inside : list < length staff = omega (arith, lt, worked.0) in
      let of = subst (IsOfPass entries) (pass_at list w w.pass inside) (passes list w.pass (omega (arith, inside, length-map staff (λ (x : Worker). x.pass)))) in
      list_written s list (get_or lists list []) at.pass at.wrote entries h.list_is h.wrote (wrote list w inside) of

  -- no worker is of a number behind the last list
  beyond : (list : ℕ) → length lists ≤ list → calls_by list entries ≡ []
  beyond list le = others list (λ k p lt same. apart k p (omega (arith, lt, length-map staff (λ (x : Worker). x.pass))) same)
    where
      apart : (k : ℕ) (p : Known) → k < length staff → (get_or (map (λ (x : Worker). x.pass) staff) k p).list ≡ list → ⊥
      apart k p lt same =
          let w = some_worker staff k lt in
          let own : (get_or staff k w).pass.list ≡ k = (worked.1 k w (omega (arith, lt, worked.0))).list_is in
          omega (arith, le, lt, worked.0, same, ap (λ (x : Known). x.list) (pass_at k w p lt), own)

  -- the queues of the lists, each with its last calls first
  pub queues_are : (queues : List (List (List (List ℕ)))) → queues ≡ map (λ (w : Worker). reverse (drawn_by w)) staff → AreQueues s entries queues
  queues_are queues is = record { each = λ list. at list (cases_lt list (length staff)) }
    where
      at : (list : ℕ) → (list < length staff) ⊎ (length staff ≤ list) → get_or queues list [] ≡ reverse (answered_with s (calls_by list entries))
      at list (inl lt) =
          let w = some_worker staff list lt in
          let own = list_is list w (omega (arith, lt, worked.0)) in
          ap (λ l. get_or l list []) is ∙ get_or-map (λ (x : Worker). reverse (drawn_by x)) staff list w [] lt ∙ ap reverse own.drawn_are
      at list (inr le) =
          let no_calls = beyond list (omega (arith, le, worked.0)) in
          ap (λ l. get_or l list []) is ∙ get_or_past (map (λ (x : Worker). reverse (drawn_by x)) staff) list [] (omega (arith, le, length-map staff (λ (x : Worker). reverse (drawn_by x))))
          ∙ ap (λ l. reverse (answered_with s l)) (sym no_calls)

  pub interleaved : IsInterleaving lists entries
  interleaved = λ list. at list (cases_lt list (length lists))
    where
      at : (list : ℕ) → (list < length lists) ⊎ (length lists ≤ list) → map (λ (e : Entry). e.event) (calls_by list entries) ≡ get_or lists list []
      at list (inl lt) = (list_is list (some_worker staff list (omega (arith, lt, worked.0))) lt).events_are
      at list (inr le) = ap (map (λ (e : Entry). e.event)) (beyond list le) ∙ sym (get_or_past lists list [] le)
