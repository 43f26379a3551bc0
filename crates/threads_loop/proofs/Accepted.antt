-- What is so of a line that threads take.
use Rattle.std.proofs.Common.{◌≡◌, ℕ, Bool, true, false, cond, not, ◌&&◌, ◌||◌, eqb, ltb, List, [], ◌∷◌, map, length, Some, Result, Ok, Err, refl, sym, ap, subst, ◌∙◌}
use Rattle.std.specs.List.{list_any}
use Rattle.std.proofs.lemmas.Bool.{cond_both, and_parts, not-false, eqb-true}
use Rattle.rams_model.specs.declared.{LineFault.LineFault, LineFault.TheVariants.Order, LineFault.TheVariants.Range, Mode.Mode}
use Rattle.rams_model.specs.declared.Mode.TheVariants.{Threads}
use Rattle.rams_model.specs.Service.{Settings}
use Rattle.rams_model.specs.Texts.{TraceLine, line_in_range, line_of, line_at, ranged, Reached, Claim, is_spelled, may_come, line_is_served, is_served, has_channel, has_one_channel, with_line, accepted, with_reached, judged_line, judged}
use Rattle.server_hub.specs.Served.{Served}
use Rattle.trace_text.proofs.Spelling.{read_is_spelled}
use Rattle.trace_loop.specs.trace_book.trace_serving.{claim_of}
use Rattle.trace_loop.proofs.trace_book.trace_serving.Judged.{IsAccepted, judged_so}
use Rattle.trace_loop.specs.trace_book.{settings_of}

served_so : (r : Reached) (line : TraceLine) (later : Reached) → accepted r line ≡ Ok later → line_is_served r line ≡ true
unfolding accepted
served_so r line later e =
    let P : Result Reached LineFault → Type 0 = λ o. o ≡ Ok later → line_is_served r line ≡ true in
    let both = line_in_range line && line_is_served r line in
    cond_both (not (may_come r line)) (Err Order) (cond (not both) (Err Range) (with_line r line)) P (λ t q. absurd cc)
    (λ f. cond_both (not both) (Err Range) (with_line r line) P (λ t q. absurd cc)
    (λ g q. (and_parts (line_in_range line) (line_is_served r line) (not-false both g)).1)) e

reached_ok : (line read : TraceLine) (later : Reached) (o : Result Reached LineFault) → with_reached line o ≡ Ok (read, later) → o ≡ Ok later
reached_ok line read later (Ok r) e =
    let pair : (line, r) ≡ (read, later) = cc in
    ap (λ (p : TraceLine × Reached). Ok p.1) pair
reached_ok line read later (Err fault) e = absurd cc

-- A line that was judged well: it is spelled, and it is of the channel that is read for.
pub record IsTaken (r : Reached) (bytes : List ℕ) (line : TraceLine) (later : Reached) : Type 0 where
  pub reads : line_of bytes ≡ Some line
  pub accepts : IsAccepted r line later
  pub served : line_is_served r line ≡ true
  pub spelled : is_spelled line ≡ true

pub taken_so : (r : Reached) (bytes : List ℕ) (line : TraceLine) (later : Reached) → judged r bytes ≡ Ok (line, later) → IsTaken r bytes line later
unfolding line_at judged
taken_so r bytes line later j =
    let is = judged_so r bytes line later j in
    let accepts : accepted r line ≡ Ok later = reached_ok line line later (accepted r line) (ap (judged_line r) (sym is.reads) ∙ j) in
    record {
      reads = is.reads;
      accepts = is.accepts;
      served = served_so r line later accepts;
      spelled = (read_is_spelled bytes line (ap ranged is.reads ∙ rw is.accepts.in_range refl)).0;
    }

-- ---- the one channel

either_true : (b : Bool) → (b || false) ≡ true → b ≡ true
either_true true e = refl
either_true false e = e

-- where there is no channel, no event is of one that is read for
pub none_served : (r : Reached) (id : ℕ) (channels : List Served) → r.mode ≡ Threads → channels ≡ [] → r.channels ≡ map claim_of (settings_of channels) → is_served r id ≡ true → ⊥
none_served r id channels mode empty_now claims served = nobody (ap (λ (cs : List Served). map claim_of (settings_of cs)) empty_now)
  where
    listed : list_any (λ k. eqb k.id id) r.channels ≡ true
    listed = subst (λ (m : Mode). (not (has_one_channel m) || list_any (λ k. eqb k.id id) r.channels) ≡ true) mode served

    nobody : map claim_of (settings_of channels) ≡ [] → ⊥
    nobody empty =
        let never : list_any (λ k. eqb k.id id) r.channels ≡ false = ap (list_any (λ k. eqb k.id id)) (claims ∙ empty) in
        absurd cc

-- an event that is read for is of the one channel
pub served_id : (r : Reached) (s : Settings) (id : ℕ) (channels : List Served) → r.mode ≡ Threads → settings_of channels ≡ s ∷ [] → r.channels ≡ map claim_of (settings_of channels) → is_served r id ≡ true → s.channel.id ≡ id
served_id r s id channels mode one claims served =
    let listed = subst (λ (m : Mode). (not (has_one_channel m) || list_any (λ k. eqb k.id id) r.channels) ≡ true) mode served in
    let its : (eqb s.channel.id id || false) ≡ true = subst (λ (ks : List Claim). list_any (λ k. eqb k.id id) ks ≡ true) (claims ∙ ap (map claim_of) one) listed in
    eqb-true s.channel.id id (either_true (eqb s.channel.id id) its)

-- where there is none, no channel has come
pub no_channel : (r : Reached) (channels : List Served) → channels ≡ [] → r.channels ≡ map claim_of (settings_of channels) → has_channel r ≡ false
no_channel r channels empty_now claims = ap (λ (l : List Claim). ltb 0 (length l)) (claims ∙ ap (λ (cs : List Served). map claim_of (settings_of cs)) empty_now)
