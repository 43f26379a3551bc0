-- The text of a head and of the file behind it, when the writing ends.
use Rattle.std.proofs.Common.{◌≡◌, ℕ, ◌≤◌, List, [], ◌++◌, length, Option, None, Some, Result, Ok, Err, IfOk, IfErr, OnOk, refl, sym, ap, subst, ◌∙◌, arith, inl, inr}
use Rattle.std.specs.Prelude.{◌⊎◌}
use Rattle.std.specs.Io.KnownBytes.{Appends, prepend_known}
use Rattle.std.proofs.KnownBytes.{Appends-nil}
use Rattle.line_io.specs.Passes.{Passes}
use Rattle.rams_model.specs.declared.{LineFault.LineFault, Status.Status, Status.TheVariants.BadTrace, Status.TheVariants.Done}
use Rattle.server_hub.specs.declared.HubEvent.{HubEvent}
use Rattle.server_hub.specs.Seen.{Seen}
use Rattle.server_hub.specs.Served.{Served}
use Rattle.trace_loop.specs.trace_book.trace_serving.{Outcome, after_text, refused}
use Rattle.trace_loop.specs.declared.Stop.{Stop}
use Rattle.trace_loop.specs.declared.Stop.TheVariants.{Memory, Read, Write, Wire}
use Rattle.trace_loop.specs.{EndsAs, Ends, IfBothTold, IfTold, IsReadStop, IsStop, IsStopped, StopsIn}
use Rattle.trace_loop.proofs.Reading.{passes_whole}
use Rattle.trace_loop.specs.trace_book.{trace_text}
use Rattle.trace_loop.specs.journal_book.{HeadsOpenNewChannels, IsJournal, RunsWriteJournals, event_lines, journal_of}
use Rattle.trace_loop.specs.head_loop.{IsCutBefore, IsHeadOf, behind_head, head_end, head_stage, head_text}
use Rattle.converters.specs.capture_loop.{AreWritten, HasFilePart, HasLinesOf, HasReadCapture, IsCaptureEnd, IsTrace, Numbered, behind_end, capture_text, file_events, file_text, head_clock, new_clock}
use Rattle.converters.proofs.capture_loop.Closing.{ended_front, ended_whole}
use Rattle.converters.proofs.capture_loop.Stopping.{stop_so}

-- where nothing is kept, what is left is all
pub keeps_nothing : (kept : List ℕ) (o : Option (List ℕ)) → kept ≡ [] → prepend_known kept o ≡ o
keeps_nothing kept None none = refl
keeps_nothing kept (Some xs) none = ap (λ (k : List ℕ). Some (k ++ xs)) none

-- what is so for all of some channels
module _ (N : List Served → Type 0) where
  pub for_all : {T : Type 0} (r : Result T Stop) (P : List Served → T → Type 0) → ((channels : List Served) → N channels → IfOk r (P channels)) → IfOk r (λ t. (channels : List Served) → N channels → P channels t)
  for_all {T} (Ok t) P h = λ channels n. h channels n
  for_all {T} (Err stop) P h = tt

  pub for_one : {T : Type 0} (r : Result T Stop) (P : List Served → T → Type 0) (channels : List Served) → N channels → IfOk r (λ t. (cs : List Served) → N cs → P cs t) → IfOk r (P channels)
  for_one {T} (Ok t) P channels n h = h channels n
  for_one {T} (Err stop) P channels n h = tt

  pub stop_for_one : {T : Type 0} (r : Result T Stop) (P : List Served → Stop → Type 0) (channels : List Served) → N channels → IfErr r (λ s. (cs : List Served) → N cs → P cs s) → IfErr r (P channels)
  stop_for_one {T} (Ok t) P channels n h = tt
  stop_for_one {T} (Err stop) P channels n h = h channels n

in_any : {T : Type 0} (r : Result T Stop) → IfOk r (λ t. Unit {0})
in_any {T} (Ok t) = tt
in_any {T} (Err stop) = tt

told_in : {T : Type 0} (r : Result T Stop) (o : Option (List ℕ)) (P : T → List ℕ → Type 0) → ((xs : List ℕ) → o ≡ Some xs → IfOk r (λ t. P t xs)) → IfOk r (λ t. IfTold o (P t))
told_in {T} r None P h = in_any r
told_in {T} r (Some xs) P h = h xs refl

at_told : {T : Type 0} (r : Result T Stop) (xs : List ℕ) (P : T → List ℕ → Type 0) (o : Option (List ℕ)) → o ≡ Some xs → IfOk r (λ t. IfTold o (P t)) → IfOk r (λ t. P t xs)
at_told {T} r xs P o is h = subst (λ (q : Option (List ℕ)). IfOk r (λ t. IfTold q (P t))) is h

stop_at_told : {T : Type 0} (r : Result T Stop) (xs : List ℕ) (P : Stop → List ℕ → Type 0) (o : Option (List ℕ)) → o ≡ Some xs → IfErr r (λ t. IfTold o (P t)) → IfErr r (λ t. P t xs)
stop_at_told {T} r xs P o is h = subst (λ (q : Option (List ℕ)). IfErr r (λ t. IfTold q (P t))) is h

tell_all : (o : Option (List ℕ)) (P : List ℕ → Type 0) → ((xs : List ℕ) → o ≡ Some xs → P xs) → IfTold o P
tell_all None P h = tt
tell_all (Some xs) P h = h xs refl

module _ (a d e : Option (List ℕ)) (waited waits : List ℕ) (none : waited ≡ []) (o : List ℕ → Outcome) (left : Option (List ℕ)) (ended result : Result Status Stop) where
  nothing_first : (status : Status) (xs : List ℕ) → Ends a d waited waits (o xs) status → Ends a d [] waits (o xs) status
  nothing_first status xs h = subst (λ (w : List ℕ). Ends a d w waits (o xs) status) none h

  -- all of the text went
  pub closed_text : (before now : ℕ) → EndsAs before now ended result → IfOk ended (λ status. IfTold left (λ xs. Ends a d waited waits (o xs) status)) → OnOk result (Passes d e waits [])
      → IfOk result (λ status. IfTold left (λ xs. (status ≡ (o xs).status) × Appends a e (o xs).text))
  closed_text before now ends text all =
      told_in result left (λ status xs. (status ≡ (o xs).status) × Appends a e (o xs).text)
      (λ xs is. ended_whole a d e waits (o xs) ended result before now ends
      (subst (λ (w : List ℕ). IfOk ended (Ends a d w waits (o xs))) none (at_told ended xs (λ status ys. Ends a d waited waits (o ys) status) left is text)) all)

  -- a front of it did
  pub closed_front : IfOk ended (λ status. IfTold left (λ xs. Ends a d waited waits (o xs) status)) → IfErr ended (λ stop. IfTold left (λ xs. StopsIn a d (waited ++ (o xs).text) waits stop)) → (ended ≡ Err Write → e ≡ d)
      → (rest : List ℕ) → Passes d e waits rest → IfTold left (λ xs. (more : List ℕ) × Passes a e (o xs).text more)
  closed_front text front untouched rest p =
      tell_all left (λ xs. (more : List ℕ) × Passes a e (o xs).text more)
      (λ xs is. ended_front a d e waits (o xs) ended
      (subst (λ (w : List ℕ). IfOk ended (Ends a d w waits (o xs))) none (at_told ended xs (λ status ys. Ends a d waited waits (o ys) status) left is text))
      (subst (λ (w : List ℕ). IfErr ended (StopsIn a d (w ++ (o xs).text) waits)) none (stop_at_told ended xs (λ stop ys. StopsIn a d (waited ++ (o ys).text) waits stop) left is front)) untouched rest p)

-- how the close of a call ends it
pub closed_status : (before now : ℕ) (ended result : Result Status Stop) → EndsAs before now ended result → IfOk ended IsCaptureEnd → IfOk result IsCaptureEnd
closed_status before now ended (Err stop) ends h = tt
closed_status before now (Ok old) (Ok status) ends h = subst IsCaptureEnd (sym ends) h
closed_status before now (Err stop) (Ok status) ends h = cc

rose_on : (read reads write mid writes : ℕ) (stop : Stop) → mid ≤ writes → IsStop read reads write mid stop → IsStop read reads write writes stop
rose_on read reads write mid writes Memory less h = tt
rose_on read reads write mid writes Read less h = h
rose_on read reads write mid writes Write less h = omega (arith, less, h)
rose_on read reads write mid writes Wire less h = h

pub closed_cause : (read reads write mid writes : ℕ) (ended result : Result Status Stop) → IsStopped read reads write mid ended → EndsAs mid writes ended result → mid ≤ writes → IsStopped read reads write writes result
closed_cause read reads write mid writes ended result s ends less = record {
  read_later = s.read_later;
  write_later = let before = s.write_later in omega arith;
  cause = by ended result s.cause ends;
}
  where
    by : (was now : Result Status Stop) → IfErr was (IsStop read reads write mid) → EndsAs mid writes was now → IfErr now (IsStop read reads write writes)
    by was (Ok status) h e = tt
    by (Ok old) (Err stop) h e = stop_so read reads write mid writes stop s.write_later e
    by (Err was) (Err stop) h e = let same : stop ≡ was = cc in subst (IsStop read reads write writes) (sym same) (rose_on read reads write mid writes was less h)

-- want of memory
pub memory_stopped : {T : Type 0} (read write : ℕ) (r : Result T Stop) (stop : Stop) → r ≡ Err stop → stop ≡ Memory → IsStopped read read write write r
memory_stopped {T} read write r stop is same = record {
  read_later = omega arith;
  write_later = omega arith;
  cause = subst (λ (q : Result T Stop). IfErr q (IsStop read read write write)) (sym is) (subst (IsStop read read write write) (sym same) tt);
}

pub memory_never_reads : {T : Type 0} (r : Result T Stop) (stop : Stop) → r ≡ Err stop → stop ≡ Memory → r ≡ Err Read → ⊥
memory_never_reads {T} r stop is same e =
    let read : ◌≡◌ {A = Result T Stop} (Err stop) (Err Read) = sym is ∙ e in
    let so : stop ≡ Read = cc in
    let no : Memory ≡ Read = sym same ∙ so in
    cc

-- the source
pub read_stopped : {T U : Type 0} (read reads write : ℕ) (was : Result U Stop) (r : Result T Stop) (stop from : Stop) → r ≡ Err stop → stop ≡ from → IsReadStop read reads from → read ≤ reads → IsStopped read reads write write r
read_stopped {T} {U} read reads write was r stop from is same cause later = record {
  read_later = later;
  write_later = omega arith;
  cause = subst (λ (q : Result T Stop). IfErr q (IsStop read reads write write)) (sym is) (subst (IsStop read reads write write) (sym same) (by from cause));
}
  where
    by : (s : Stop) → IsReadStop read reads s → IsStop read reads write write s
    by Memory h = tt
    by Read h = h
    by Write h = absurd h
    by Wire h = h

-- The head is refused.
pub refused_is : (port number : ℕ) (xs : List ℕ) (fault : LineFault) → head_end xs ≡ refused number fault → capture_text port xs ≡ refused number fault
unfolding capture_text
refused_is port number xs fault e = ap (λ (o : Outcome). behind_end o.status o (after_text (head_text xs) (file_text port (head_stage xs).state (head_clock xs) (behind_head xs)))) e

pub bad_is_not_done : (r : Result Status Stop) → IfOk r (λ status. status ≡ BadTrace) → r ≡ Ok Done → ⊥
bad_is_not_done (Ok status) bad e = let so : status ≡ Done = cc in let no : BadTrace ≡ Done = sym bad ∙ so in cc
bad_is_not_done (Err stop) bad e = cc

pub bad_ends : (r : Result Status Stop) → IfOk r (λ status. status ≡ BadTrace) → IfOk r IsCaptureEnd
bad_ends (Ok status) bad = subst IsCaptureEnd (sym bad) tt
bad_ends (Err stop) bad = tt

-- The head is whole, and ys stands behind it.
module _ (port : ℕ) (xs ys : List ℕ) (hub : Seen) (ids text : List ℕ) (head : IsHeadOf xs hub ids text) (behind : ys ≡ behind_head xs) where
  abbrev channels : List Served
  channels = (head_stage xs).state

  numbered : HeadsOpenNewChannels → Numbered ids channels
  numbered new = record { ids_are = head.ids_are; lawful = (new text channels head.opens).numbered }

  file_is : file_text port channels (new_clock hub.tick) ys ≡ file_text port channels (head_clock xs) (behind_head xs)
  file_is = ap (λ n. file_text port channels (new_clock n) ys) head.tick ∙ ap (file_text port channels (head_clock xs)) behind

  text_is : after_text text (file_text port channels (new_clock hub.tick) ys) ≡ capture_text port xs
  unfolding capture_text
  text_is =
      ap (after_text text) file_is ∙ (ap (λ (t : List ℕ). after_text t (file_text port channels (head_clock xs) (behind_head xs))) head.text_is
      ∙ sym (ap (λ (o : Outcome). behind_end o.status o (after_text (head_text xs) (file_text port channels (head_clock xs) (behind_head xs)))) head.end))

  is_trace : RunsWriteJournals → AreWritten (file_events port channels (new_clock hub.tick) ys) (file_text port channels (new_clock hub.tick) ys) → IsTrace port xs
  unfolding journal_of
  is_trace runs w =
      let events = ap (λ n. file_events port channels (new_clock n) ys) head.tick ∙ ap (file_events port channels (head_clock xs)) behind in
      let there = subst (λ (es : List HubEvent). AreWritten es (file_text port channels (new_clock hub.tick) ys)) events w in
      let journal : IsJournal (head_text xs) channels (file_events port channels (head_clock xs) (behind_head xs)) =
      subst (λ (t : List ℕ). IsJournal t channels (file_events port channels (head_clock xs) (behind_head xs))) head.text_is (record { opens = head.opens; lines = there.spelled; few = there.few }) in
      let whole = ap (λ (o : Outcome). o.text) (sym text_is) ∙ (ap (λ (o : Outcome). text ++ o.text) there.text ∙ ap (λ (t : List ℕ). journal_of t (file_events port channels (head_clock xs) (behind_head xs))) head.text_is) in
      record { journal = journal; text = whole; runs = ap trace_text whole ∙ runs (head_text xs) channels (file_events port channels (head_clock xs) (behind_head xs)) journal }

  has_part : (held holds : Option (List ℕ)) (left : List ℕ) → HasLinesOf (file_events port channels (new_clock hub.tick)) held holds text [] ys left → HasFilePart port held holds xs left
  has_part held holds left h = record {
    end = head.end;
    part = h.0;
    behind = sym behind ∙ h.1;
    text =
        subst (λ (t : List ℕ). Appends held holds (t ++ event_lines (file_events port channels (head_clock xs) h.0))) head.text_is
        (subst (λ n. Appends held holds (text ++ event_lines (file_events port channels (new_clock n) h.0))) head.tick (passes_whole held holds (text ++ event_lines (file_events port channels (new_clock hub.tick) h.0)) h.2));
  }

-- The same, where bytes are told.
module _ (new : HeadsOpenNewChannels) (port : ℕ) (hub : Seen) (ids text : List ℕ) (left leaves : Option (List ℕ)) (read : IfTold left (λ xs. IsHeadOf xs hub ids text)) (rest : IfBothTold left leaves (λ xs ys. ys ≡ behind_head xs)) where
  -- what is so of each text behind a head is so of the whole text
  abbrev Behind : (List Served → List ℕ → Type 0) → Type 0
  Behind P = (channels : List Served) → Numbered ids channels → IfTold leaves (P channels)

  there : (P : List Served → List ℕ → Type 0) (Q : List ℕ → Type 0) → ((xs ys : List ℕ) → IsHeadOf xs hub ids text → ys ≡ behind_head xs → P (head_stage xs).state ys → Q xs) → Behind P → IfTold left Q
  there P Q gives h = by left leaves read rest h
    where
      by : (l m : Option (List ℕ)) → IfTold l (λ xs. IsHeadOf xs hub ids text) → IfBothTold l m (λ xs ys. ys ≡ behind_head xs) → ((channels : List Served) → Numbered ids channels → IfTold m (P channels)) → IfTold l Q
      by None m r b p = tt
      by (Some xs) None r b p = absurd b
      by (Some xs) (Some ys) r b p = gives xs ys r b (p (head_stage xs).state (numbered port xs ys hub ids text r b new))

  pub lawful_text : (a e : Option (List ℕ)) (status : Status) → Behind (λ channels ys. (status ≡ (file_text port channels (new_clock hub.tick) ys).status) × Appends a e (after_text text (file_text port channels (new_clock hub.tick) ys)).text)
      → IfTold left (λ xs. (status ≡ (capture_text port xs).status) × Appends a e (capture_text port xs).text)
  lawful_text a e status =
      there _ _ (λ xs ys head behind p. subst (λ (o : Outcome). (status ≡ o.status) × Appends a e o.text) (text_is port xs ys hub ids text head behind) p)

  pub lawful_front : (a e : Option (List ℕ)) → Behind (λ channels ys. (more : List ℕ) × Passes a e (after_text text (file_text port channels (new_clock hub.tick) ys)).text more)
      → IfTold left (λ xs. (more : List ℕ) × Passes a e (capture_text port xs).text more)
  lawful_front a e = there _ _ (λ xs ys head behind p. subst (λ (o : Outcome). (more : List ℕ) × Passes a e o.text more) (text_is port xs ys hub ids text head behind) p)

  pub lawful_steady : (steady : ℕ → Type 0) (P : Type 0) → Behind (λ channels ys. steady (length (after_text text (file_text port channels (new_clock hub.tick) ys)).text) → P)
      → IfTold left (λ xs. steady (length (capture_text port xs).text) → P)
  lawful_steady steady P = there _ _ (λ xs ys head behind p. subst (λ (o : Outcome). steady (length o.text) → P) (text_is port xs ys hub ids text head behind) p)

  pub lawful_trace : RunsWriteJournals → Behind (λ channels ys. AreWritten (file_events port channels (new_clock hub.tick) ys) (file_text port channels (new_clock hub.tick) ys)) → IfTold left (IsTrace port)
  lawful_trace runs = there _ _ (λ xs ys head behind p. is_trace port xs ys hub ids text head behind runs p)

  pub lawful_read : (a e : Option (List ℕ)) (later : Option (List ℕ)) (rose : Type 0)
      → ((channels : List Served) → Numbered ids channels → IfBothTold leaves later (HasLinesOf (file_events port channels (new_clock hub.tick)) a e text []) ⊎ rose)
      → IfBothTold left later (HasReadCapture port a e) ⊎ rose
  lawful_read a e later rose h = by left leaves later read rest h
    where
      by : (l m k : Option (List ℕ)) → IfTold l (λ xs. IsHeadOf xs hub ids text) → IfBothTold l m (λ xs ys. ys ≡ behind_head xs)
          → ((channels : List Served) → Numbered ids channels → IfBothTold m k (HasLinesOf (file_events port channels (new_clock hub.tick)) a e text []) ⊎ rose)
          → IfBothTold l k (HasReadCapture port a e) ⊎ rose
      by None m k r b p = inl tt
      by (Some xs) None k r b p = absurd b
      by (Some xs) (Some ys) None r b p = elim (p (head_stage xs).state (numbered port xs ys hub ids text r b new)) as (λ _. IfBothTold (Some xs) None (HasReadCapture port a e) ⊎ rose) [ inl q ↦ absurd q | inr q ↦ inr q ]
      by (Some xs) (Some ys) (Some zs) r b p =
          elim (p (head_stage xs).state (numbered port xs ys hub ids text r b new)) as (λ _. IfBothTold (Some xs) (Some zs) (HasReadCapture port a e) ⊎ rose) [
            | inl q ↦ inl (inr (has_part port xs ys hub ids text r b a e zs q))
            | inr q ↦ inr q
          ]

-- the source failed in front of the head's end
pub cut_read : (port : ℕ) (a : Option (List ℕ)) (left later : Option (List ℕ)) → IfBothTold left later IsCutBefore → IfBothTold left later (HasReadCapture port a a)
cut_read port a None later h = tt
cut_read port a (Some xs) None h = h
cut_read port a (Some xs) (Some ys) h = inl (h, Appends-nil a)
