-- What is written of a trace that was read to its end is its book and the ledger of its channels.
use Rattle.std.proofs.Common.{◌≡◌, ◌≢◌, ℕ, ◌*◌, ◌<◌, List, ◌++◌, map, length, reverse, filter, get_or, Option, Result, Ok, Err, IfErr, refl, sym, ap, subst, ◌∙◌, append_assoc, inr, arith}
use Rattle.std.specs.Prelude.{◌⊎◌, AllPairs, OnOk}
use Rattle.std.specs.List.{AllByRecursion as Each}
use Rattle.std.specs.Io.KnownBytes.{Appends}
use Rattle.std.proofs.lemmas.List.{length-map}
use Rattle.std.proofs.lemmas.List.Elements.{recursion_from_All}
use Rattle.line_io.specs.Passes.{Passes}
use Rattle.rams_model.specs.declared.{Status.Status, Status.TheVariants.Done}
use Rattle.rams_model.specs.Service.{Settings}
use Rattle.service_laws.specs.book_laws.{EachSendingIsOrderedOnce}
use Rattle.channel_book.specs.{Kept}
use Rattle.server_hub.specs.{Pairwise, id_of, ids_of, events_of, ticks_among}
use Rattle.server_hub.specs.Served.{Served}
use Rattle.server_hub.proofs.Pairing.{same_length}
use Rattle.trace_loop.specs.trace_book.trace_serving.{Stage, Outcome, done, served_text, last_stage, EndsWith, is_missing, is_refused, is_too_long, is_done}
use Rattle.trace_loop.specs.trace_book.{run, first_line, trace_text, served_by, came, events_text, settings_of, new_channels, EndsSo, IsServed}
use Rattle.trace_loop.specs.declared.Stop.{Stop}
use Rattle.pool.specs.declared.{link_pool.claim.Claim.Claim, pool_run.lane.Lane.Lane, pool_loop.dealing.Dealt.Dealt}
use Rattle.pool.specs.declared.pool_loop.routes.Route.{Route}
use Rattle.pool.specs.link_pool.{Fill, PaidWithin, claims_of}
use Rattle.pool.specs.ledger_text.{ledger_text}
use Rattle.pool.specs.pool_run.{AreBooks, ClaimsAreSizes, NoOthersClaim}
use Rattle.pool.specs.pool_loop.{pool, is_for_all, served_so, all_served, IsReadOf, IsLaneOf, numbers_of, walk_text, pooled_text, numbers_in, granted_in, ClaimsOf, IsPooled, MayWrite, HasEnded, HasStopped, HasRoomFor}
use Rattle.pool.proofs.pool_loop.Taking.{once_stage, as_many}
use Rattle.pool.proofs.pool_loop.Walked.{StandOnce, walk}
use Rattle.pool.proofs.pool_loop.Books.{IsBookFor, books_are, are_pending, text_in_turn, ticks_are, claims_own, numbers_are}
use Rattle.trace_loop.proofs.trace_book.Links.{settings_new}

-- what ends a trace as it should is `end`
last_done : (stage : Stage (List Served)) (number : ℕ) (left : List (List ℕ)) (o : Outcome) → EndsWith run stage number left o → o.status ≡ Done → o ≡ done stage.events
last_done stage number _ _ is_missing good = absurd cc
last_done stage number _ _ (is_refused bytes lines fault j) good = absurd cc
last_done stage number _ _ (is_too_long bytes lines line reached e j brings much) good = absurd cc
last_done stage number _ _ (is_done bytes lines reached j) good = refl

module _ (d : Dealt) (xs : List ℕ) (r : IsReadOf xs d) (lanes : List Lane) (bs : List Kept) (are_lanes : Pairwise IsLaneOf d.channels.items lanes) (are_books : AreBooks lanes bs) (ends : EndsSo xs) (served : IsServed xs) where
  books : Pairwise IsBookFor d.channels.items bs
  books = books_are d.channels.items lanes bs are_lanes are_books

  channels : served_by xs ≡ all_served d.channels.items
  channels = r.dealt.channels

  got : Each (λ (c : Served). c.events ≡ events_of (id_of c) (came xs)) (all_served d.channels.items)
  got = subst (Each (λ (c : Served). c.events ≡ events_of (id_of c) (came xs))) channels (recursion_from_All (λ (c : Served). c.events ≡ events_of (id_of c) (came xs)) (served_by xs) served.got)

  once : StandOnce (new_channels (all_served d.channels.items))
  once = subst (λ (all : List Settings). AllPairs (λ x y. x ≢ y) (ids_of all)) (sym (settings_new (all_served d.channels.items) ∙ ap settings_of (sym channels))) (once_stage d (came xs) (last_stage run xs) r.dealt)

  walked : walk_text 1 d.routes.items bs ≡ events_text (came xs) (new_channels (served_by xs))
  walked =
      ap (λ (l : List Route). walk_text 1 l bs) r.dealt.routes
      ∙ walk (reverse (came xs)) 0 (new_channels (all_served d.channels.items)) bs once (are_pending (came xs) d.channels.items bs books got)
      ∙ sym (text_in_turn (came xs) (new_channels (all_served d.channels.items))) ∙ ap (λ (cs : List Served). events_text (came xs) (new_channels cs)) (sym channels)

  last_is : ends.last ≡ done (length d.routes.items)
  last_is =
      last_done (last_stage run xs) _ ends.left ends.last ends.why (sym (ap (λ (o : Outcome). o.status) ends.text) ∙ r.ends)
      ∙ ap done (sym (as_many d (came xs) (last_stage run xs) r.dealt))

  book_is : (trace_text xs).text ≡ first_line ++ (walk_text 1 d.routes.items bs ++ (done (length d.routes.items)).text)
  book_is =
      ap (λ (o : Outcome). o.text) ends.text ∙ ap (λ (t : List ℕ). first_line ++ (t ++ ends.last.text)) (sym walked)
      ∙ ap (λ (o : Outcome). first_line ++ (walk_text 1 d.routes.items bs ++ o.text)) last_is

  whole_text : (granted : ℕ) (claims : List Claim) → pooled_text d.routes.items bs granted claims ≡ (trace_text xs).text ++ ledger_text (numbers_of bs) granted claims
  whole_text granted claims =
      let walk = walk_text 1 d.routes.items bs in
      let end = (done (length d.routes.items)).text in
      let ledger = ledger_text (numbers_of bs) granted claims in
      ap (λ (t : List ℕ). first_line ++ t) (sym (append_assoc walk end ledger)) ∙ sym (append_assoc first_line (walk ++ end) ledger) ∙ ap (λ (t : List ℕ). t ++ ledger) (sym book_is)

  module _ (rate ticks granted : ℕ) (claims : List Claim) (ticks_is : ticks ≡ length (filter is_for_all d.routes.items)) (granted_is : granted ≡ ticks * rate) (fill : Fill claims) (paid : PaidWithin granted claims)
      (sized : ClaimsAreSizes bs claims) (others : NoOthersClaim bs claims) (ordered : EachSendingIsOrderedOnce) where
    ticked : ticks ≡ ticks_among (came xs)
    ticked = ticks_is ∙ ap (λ (l : List Route). length (filter is_for_all l)) r.dealt.routes ∙ ticks_are (came xs)

    granted_so : granted ≡ granted_in rate xs
    granted_so = granted_is ∙ ap (λ (n : ℕ). n * rate) ticked

    named : numbers_of bs ≡ numbers_in xs
    named = numbers_are d.channels.items bs books ∙ ap (map id_of) (sym channels)

    many : length bs ≡ length (served_by xs)
    many = sym (same_length IsBookFor d.channels.items bs books) ∙ sym (length-map d.channels.items served_so) ∙ sym (ap length channels)

    abbrev written : List ℕ
    written = pooled_text d.routes.items bs granted claims

    is_pooled : IsPooled rate xs written
    is_pooled = record {
      ends = r.ends;
      claims = claims;
      fill = fill;
      own =
          subst (λ (cs : List Served). (i : ℕ) (x : Served) → i < length cs → ClaimsOf (get_or cs i x) (claims_of i claims)) (sym channels)
          (claims_own ordered d.channels.items bs claims books sized);
      alone = λ number behind. others number (omega (arith, behind, many));
      paid = subst (λ (n : ℕ). PaidWithin n claims) granted_so paid;
      text_is =
          whole_text granted claims ∙ ap (λ (ids : List ℕ). (trace_text xs).text ++ ledger_text ids granted claims) named
          ∙ ap (λ (n : ℕ). (trace_text xs).text ++ ledger_text (numbers_in xs) n claims) granted_so;
    }

    may_write : MayWrite rate xs (served_text pool xs).status written
    may_write = subst (λ (s : Status). MayWrite rate xs s written) (sym r.end) is_pooled

    pub pooled_end : (held holds : Option (List ℕ)) (result : Result Status Stop) → OnOk result (Appends held holds written) → OnOk result (HasEnded rate xs held holds Done)
    pooled_end held holds (Ok st) text = (sym r.end, written, is_pooled, text)
    pooled_end held holds (Err stop) text = tt

    pub pooled_front : (held holds : Option (List ℕ)) (result : Result Status Stop) → (rest : List ℕ) × Passes held holds written rest → IfErr result (λ _. (holds ≡ held) ⊎ HasStopped rate xs held holds)
    pooled_front held holds (Ok st) front = tt
    pooled_front held holds (Err stop) front = inr (written, front.0, may_write, front.1)

    pub pooled_room : (room : ℕ → Type 0) → HasRoomFor rate xs room → room (length written)
    pooled_room room has = has written may_write
