-- What is written of the lists of a trace is what may come of it.
use Rattle.std.proofs.Common.{◌≡◌, ℕ, Bool, true, false, ◌^◌, ◌≤◌, List, [], ◌∷◌, All, map, length, reverse, Option, Some, Result, Ok, Err, IfErr, inr, sym, ap, subst, ◌∙◌, arith}
use Rattle.std.specs.Prelude.{◌⊎◌, ◌==◌, if◌then◌else◌, OnOk}
use Rattle.std.specs.Global.{Vec}
use Rattle.std.specs.Io.KnownBytes.{Appends}
use Rattle.line_io.specs.Passes.{Passes}
use Rattle.trace_loop.specs.declared.Stop.{Stop}
use Rattle.std.proofs.lemmas.List.{get_or-map, length-reverse}
use Rattle.rams_model.specs.declared.{Event.Event, Status.Status, Status.TheVariants.Done}
use Rattle.rams_model.specs.Service.{Settings}
use Rattle.channel_book.specs.declared.Entry.{Entry}
use Rattle.channel_book.specs.{IsLegal, IsInterleaving}
use Rattle.server_hub.specs.{served}
use Rattle.server_hub.specs.Served.{Served}
use Rattle.trace_loop.specs.trace_book.trace_serving.{Stage, last_stage, served_text}
use Rattle.trace_loop.specs.trace_book.{new_channels}
use Rattle.trace_loop.specs.journal_book.{Opens, RunsWriteJournals, journal_of}
use Rattle.threads_loop.specs.declared.dealing.Dealt.{Dealt}
use Rattle.threads_loop.specs.{threads, list_of, dealt, hub_event, holding, HaveLines, lists_in, HasDealt, IsReadOf, MayWrite, HasEnded, HasStopped, HasRoomFor, written_text}
use Rattle.threads_loop.proofs.Histories.{event_in, interleaves, written_so}

module _ (d : Dealt) (xs : List ℕ) (s : Settings) (entries : List Entry) (r : IsReadOf d.workers xs d) (known : d.config ≡ Some s) (head : List ℕ) (head_is : head ≡ d.head.items) (lists : IsInterleaving (lists_in d) entries) (legal : IsLegal s entries) (runs : RunsWriteJournals) where
  h : HasDealt d (last_stage threads xs)
  h = r.dealt

  channel : (last_stage threads xs).state ≡ served s h.came ∷ []
  channel = h.state ∙ ap (λ (o : Option Settings). holding o h.came) known

  may_write_own : MayWrite d.workers xs (served_text threads xs).status (written_text s d.head.items entries)
  may_write_own =
      let own = λ (list : ℕ). lists list ∙ h.lists list in
      let opens = subst (λ (cs : List Served). Opens d.head.items (new_channels cs)) channel r.opens in
      let w = written_so d.workers s d.head.items h.came entries own h.some (omega (arith, h.counted, h.few)) (subst (λ (o : Option Settings). HaveLines o h.came) known h.spelled) opens legal runs in
      subst (λ (st : Status). MayWrite d.workers xs st (written_text s d.head.items entries)) (sym (ap (λ o. o.status) r.end)) (
        journal_of d.head.items (map (hub_event s.channel.id) (map event_in entries)),
        record {
          settings = s;
          came = h.came;
          channel = channel;
          events = map event_in entries;
          interleaves = interleaves d.workers (reverse h.came) entries own;
          trace_is = ap (λ t. journal_of t (map (hub_event s.channel.id) (map event_in entries))) r.head_is;
        },
        w.done_so,
        w.text,
      )

  may_write : MayWrite d.workers xs (served_text threads xs).status (written_text s head entries)
  may_write = subst (λ (h : List ℕ). MayWrite d.workers xs (served_text threads xs).status (written_text s h entries)) (sym head_is) may_write_own

  done_is : (served_text threads xs).status ≡ Done
  done_is = ap (λ o. o.status) r.end

  pub worked_text : (held holds : Option (List ℕ)) (result : Result Status Stop) → OnOk result (Appends held holds (written_text s head entries)) → OnOk result (HasEnded d.workers xs held holds Done)
  worked_text held holds (Ok st) text =
      (sym done_is, written_text s head entries, subst (λ (x : Status). MayWrite d.workers xs x (written_text s head entries)) done_is may_write, text)
  worked_text held holds (Err stop) text = tt

  pub worked_front : (held holds : Option (List ℕ)) (result : Result Status Stop) → (rest : List ℕ) × Passes held holds (written_text s head entries) rest → IfErr result (λ _. (holds ≡ held) ⊎ HasStopped d.workers xs held holds)
  worked_front held holds (Ok st) front = tt
  worked_front held holds (Err stop) front = inr (written_text s head entries, front.0, may_write, front.1)

  pub worked_room : (room : ℕ → Type 0) → HasRoomFor d.workers xs room → room (length (written_text s head entries))
  worked_room room has = has (written_text s head entries) may_write

-- ---- what was worked, as it is called here

pub own_lists : (d : Dealt) (entries book : List Entry) → entries ≡ book → IsInterleaving (lists_in d) book → IsInterleaving (lists_in d) entries
own_lists d entries book is way = subst (IsInterleaving (lists_in d)) (sym is) way

pub own_answers : (s made : Settings) (entries book : List Entry) → made ≡ s → entries ≡ book → IsLegal made book → IsLegal s entries
own_answers s made entries book same is legal = subst (λ (x : Settings). IsLegal x entries) same (subst (IsLegal made) (sym is) legal)

-- ---- the lists are short

dealt_few : (workers list : ℕ) (events : List Event) → length (dealt workers list events) ≤ length events
dealt_few workers list [] = omega arith
dealt_few workers list (x ∷ events) = by (list_of workers x == list) (dealt_few workers list events)
  where
    by : (b : Bool) → length (dealt workers list events) ≤ length events → length (if b then x ∷ dealt workers list events else dealt workers list events) ≤ length (x ∷ events)
    by true rest = omega (arith, rest)
    by false rest = omega (arith, rest)

-- a list has no more events than came
pub lists_short : (d : Dealt) (stage : Stage (List Served)) → HasDealt d stage → All (λ l. length l.items ≤ 2 ^ 34) d.lists.items
lists_short d stage h = λ k l inside.
    let own = sym (get_or-map (λ v. v.items) d.lists.items k l [] inside) ∙ h.lists k in
    omega (arith, ap length own, dealt_few d.workers k (reverse h.came), length-reverse h.came, h.counted, h.few)
