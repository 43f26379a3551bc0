-- A line that opens a hub or a channel is one that a server takes into its head.
use Rattle.std.proofs.Common.{◌≡◌, ℕ, ◌+◌, Bool, true, false, List, [], ◌∷◌, ◌++◌, length, Option, Some, Ok, refl, sym, ap, subst, ◌∙◌}
use Rattle.std.specs.Prelude.{sum_by}
use Rattle.std.proofs.lemmas.Bool.{le-leb, lt-ltb}
use Rattle.rams_model.specs.declared.{Channel.Channel, Mode.Mode, Mode.TheVariants.Run, Mode.TheVariants.Serve}
use Rattle.rams_model.specs.Texts.{TraceLine, head_line, channel_line, line_in_range, line_of, Head, Reached, may_come, with_channel, with_line, judged}
use Rattle.trace_loop.proofs.trace_book.trace_serving.Judged.{IsJoined, channel_so}
use Rattle.trace_loop.proofs.journal_book.Modes.{accepts, judges}

-- The lines so far, before any event, read for this.
abbrev pub before_events : Mode → Reached → Reached
before_events mode r = record { mode = mode; head = r.head; channels = r.channels; begun = false; ended = false }

module _ (r : Reached) (mode : r.mode ≡ Run) (fresh : r.begun ≡ false) (unended : r.ended ≡ false) where
  pub fresh_is : before_events Run r ≡ r
  fresh_is =
      ap (λ (m : Mode). record { mode = m; head = r.head; channels = r.channels; begun = false; ended = false }) (sym mode)
      ∙ ap (λ (b : Bool). record { mode = r.mode; head = r.head; channels = r.channels; begun = b; ended = false }) (sym fresh)
      ∙ ap (λ (b : Bool). record { mode = r.mode; head = r.head; channels = r.channels; begun = r.begun; ended = b }) (sym unended)

  may_fresh : (line : TraceLine) → may_come r line ≡ true → may_come (before_events Run r) line ≡ true
  may_fresh line may = subst (λ (x : Reached). may_come x line ≡ true) (sym fresh_is) may

  -- the head line
  pub head_judged : (bytes : List ℕ) (version tick link : ℕ) → line_of bytes ≡ Some (head_line version tick link) → may_come r (head_line version tick link) ≡ true → line_in_range (head_line version tick link) ≡ true
      → judged (before_events Serve r) bytes ≡ Ok (head_line version tick link, before_events Serve (record r { head = Some (record { version = version; tick = tick; link = link }) }))
  head_judged bytes version tick link reads may in_range =
      let line = head_line version tick link in
      let later = before_events Serve (record r { head = Some (record { version = version; tick = tick; link = link }) }) in
      judges (before_events Serve r) bytes line later reads (accepts (before_events Serve r) line later (may_fresh line may) in_range refl refl)

  -- a channel's line
  pub channel_judged : (bytes : List ℕ) (version : ℕ) (c : Channel) (later : Reached) → line_of bytes ≡ Some (channel_line version c) → may_come r (channel_line version c) ≡ true → line_in_range (channel_line version c) ≡ true
      → with_line r (channel_line version c) ≡ Ok later
      → judged (before_events Serve r) bytes ≡ Ok (channel_line version c, before_events Serve later)
  channel_judged bytes version c later reads may in_range gives =
      let line = channel_line version c in
      judges (before_events Serve r) bytes line (before_events Serve later) reads (accepts (before_events Serve r) line (before_events Serve later) (may_fresh line may) in_range refl joined_so)
    where
      so : (head : Head) × (r.head ≡ Some head) × IsJoined r head c later
      so = channel_so r r.head c later gives

      joined_so : with_line (before_events Serve r) (channel_line version c) ≡ Ok (before_events Serve later)
      joined_so =
          let head = so.0 in
          let j = so.2 in
          let there = before_events Serve (record r { channels = r.channels ++ (record { id = c.id; share = c.share } ∷ []) }) in
          let is : with_channel (before_events Serve r) (Some head) c ≡ Ok there =
          rw (j.new, j.lawful, le-leb (sum_by (λ k. k.share) r.channels + c.share) head.link j.fits, lt-ltb (length r.channels) 64 j.few) refl in
          ap (λ (h : Option Head). with_channel (before_events Serve r) h c) so.1 ∙ is ∙ ap (λ (x : Reached). Ok (before_events Serve x)) j.gives
