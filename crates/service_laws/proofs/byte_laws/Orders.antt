-- Each note tells its client so, and each order is that of a note.
use Rattle.std.proofs.Common.{◌≡◌, ℕ, ◌+◌, ◌-◌, ◌*◌, ◌/◌, not, ⊎_elim, List, [], ◌∷◌, ◌++◌, take, drop, Option, Some, None, option_map, refl, ap, sym, ◌∙◌, subst, arith, append_assoc}
use Rattle.std.specs.Prelude.{Result, Ok, Err, Contains, option_to_list}
use Rattle.std.proofs.lemmas.Bool.{cond_both}
use Rattle.std.proofs.lemmas.List.Elements.{Contains-append_cases}
use Rattle.rams_model.specs.declared.{Order.Order, TlvFault.TlvFault, Held.Held, Cause.Cause, Note.Note}
use Rattle.rams_model.specs.declared.Order.TheVariants as order
use Rattle.rams_model.specs.declared.Cause.TheVariants.{Stopped, Lost, Limit, Bye}
use Rattle.rams_model.specs.declared.Note.TheVariants as note
use Rattle.rams_model.specs.Formats.{Request, names, rams_info}
use Rattle.rams_model.specs.Service.{Settings, bare_info, next_msn, update_info, Item, began, told, noted, History, hold, Burst, open_burst, reserved, asked_rate, is_slow, is_too_much, is_full, begins, on_request, verdict, order_of, datagram, history_of, end_order, Book, IsLawful, events_of}
use Rattle.rams_model.proofs.Legal.{Allows, Ends}
use Rattle.rams_model.proofs.OpenBurst.{holds_of}
use Rattle.service_laws.specs.book_laws.{IsMoment, orders_in, orders_of}
use Rattle.service_laws.proofs.book_laws.Members.{of_one}
use Rattle.service_laws.proofs.book_laws.OneLawful.{tells}
use Rattle.service_laws.specs.byte_laws.{after, of_burst, bare, in_ms, last_told, ticks_of, Gets, TellsSo, WasOrdered}
use Rattle.service_laws.proofs.byte_laws.LastTold.{info_bytes, IsTold, was_told, update_bytes}

-- ---- an Update and an Again speak of an open burst

abbrev IsOfBurst : Note → Type 0
IsOfBurst (note.Update client rate join) = Unit {0}
IsOfBurst (note.Again client) = Unit {0}
IsOfBurst _ = ⊥

record IsOpen (s : Settings) (k : ℕ) (history : History) : Type 0 where
  burst : Burst
  is_open : open_burst s k history ≡ Some burst

begins_none : (s : Settings) (held : List Held) (k rate : ℕ) (history : History) (o : Result Held ℕ) → IsOfBurst (begins s held k rate history o) → ⊥
begins_none s held k rate history (Err code) = λ i. i
begins_none s held k rate history (Ok h) =
    cond_both (is_slow s rate) _ _ (λ n. IsOfBurst n → ⊥) (λ t i. i)
    (λ f. cond_both (is_too_much s (reserved s history + rate + s.channel.depth)) _ _ (λ n. IsOfBurst n → ⊥) (λ t i. i) (λ g i. i))

request_open : (s : Settings) (held : List Held) (k : ℕ) (r : Request) (history : History) (o : Option Burst) → open_burst s k history ≡ o → IsOfBurst (on_request s held k r history o)
    → IsOpen s k history
request_open s held k r history (Some b) e = λ i. record { burst = b; is_open = e }
request_open s held k r history None e =
    cond_both (is_full s k history) _ _ (λ n. IsOfBurst n → IsOpen s k history) (λ t i. absurd i) (λ f i. absurd (begins_none s held k (asked_rate s r) history _ i))

verdict_open : (s : Settings) (k : ℕ) (history : History) (request : Result Request TlvFault) → IsOfBurst (verdict s k history request) → IsOpen s k history
unfolding verdict
verdict_open s k history (Err fault) = λ i. absurd i
verdict_open s k history (Ok r) =
    cond_both r.preamble _ _ (λ n. IsOfBurst n → IsOpen s k history) (λ t i. absurd i)
    (λ f. cond_both (not (names r s.channel.ssrc)) _ _ (λ n. IsOfBurst n → IsOpen s k history) (λ t i. absurd i)
    (λ g. request_open s (hold s history) k r history (open_burst s k history) refl))

was_open : (s : Settings) (k : ℕ) (history : History) (request : Result Request TlvFault) (n : Note) → verdict s k history request ≡ n → IsOfBurst n → IsOpen s k history
was_open s k history request n e i = verdict_open s k history request (subst IsOfBurst (sym e) i)

-- ---- each kind of note

told_of : (s : Settings) (k : ℕ) (history : History) (b : Burst) → open_burst s k history ≡ Some b → IsTold s (last_told s k history) b
told_of s k history b e = holds_of (IsTold s (last_told s k history)) (open_burst s k history) b (was_told s k history) e

bare_told : (s : Settings) (k code : ℕ) (history : History) (b : Burst) → open_burst s k history ≡ Some b
    → info_bytes s (bare_info (next_msn b.last) code) ≡ bare s (after (last_told s k history)) code
unfolding rams_info
bare_told s k code history b e =
    subst (λ (l : List ℕ). info_bytes s (bare_info (next_msn b.last) code) ≡ bare s (after l) code) (told_of s k history b e).is_last refl

ends_so : (s : Settings) (k : ℕ) (why : Cause) (history : History) (b : Burst) → open_burst s k history ≡ Some b → TellsSo s history (note.End k why) (end_order k why (Some b))
unfolding datagram
ends_so s k Stopped history b e = (refl, bare_told s k 201 history b e)
ends_so s k Limit history b e = (refl, bare_told s k 201 history b e)
ends_so s k Lost history b e = (refl, bare_told s k 502 history b e)
ends_so s k Bye history b e = refl

-- an End tells the cause, by its burst
end_told : (s : Settings) (k : ℕ) (why : Cause) (packet : Option Held) (history : History) → Ends s history k why
    → TellsSo s history (note.End k why) (order_of s history (note.End k why) packet)
unfolding order_of
end_told s k why packet history a =
    subst (λ (o : Option Burst). TellsSo s history (note.End k why) (end_order k why o)) (sym a.opened.is_open) (ends_so s k why history a.opened.burst a.opened.is_open)

pub tells_so : (s : Settings) (n : Note) (packet : Option Held) (history : History) → Allows s history n packet → TellsSo s history n (order_of s history n packet)
unfolding order_of datagram rams_info
tells_so s (note.Accept k first rate join) packet history a = (refl, refl)
tells_so s (note.Update k rate join) packet history a =
    let o = was_open s k history a.request (note.Update k rate join) a.is_verdict tt in
    subst (λ (x : Option Burst). Gets s k
    (of_burst s (after (last_told s k history)) 100 (take 8 (drop 16 (last_told s k history))) (in_ms s join) ((s.channel.limit - ticks_of x) * s.tick) (rate * 8000 / s.tick))
    (option_map (λ b. order.Info k (update_info s b.last b.ticks rate join)) x)) (sym o.is_open)
    (refl, update_bytes s o.burst (last_told s k history) o.burst.ticks rate join (told_of s k history o.burst o.is_open))
tells_so s (note.Again k) packet history a =
    let o = was_open s k history a.request (note.Again k) a.is_verdict tt in
    subst (λ (x : Option Burst). Gets s k (last_told s k history) (option_map (λ b. order.Info k b.last) x)) (sym o.is_open)
    (refl, (told_of s k history o.burst o.is_open).is_last)
tells_so s (note.Refuse k code) packet history a = (refl, refl)
tells_so s (note.End k why) packet history a = end_told s k why packet history a
tells_so s (note.Burst k n number) None history a = tt
tells_so s (note.Burst k n number) (Some h) history a = tt
tells_so s (note.Repair k n number) None history a = tt
tells_so s (note.Repair k n number) (Some h) history a = tt
tells_so s n packet history a = tt

-- ---- each order

split : (later : History) (i : Item) (history : History) → later ++ i ∷ history ≡ (later ++ i ∷ []) ++ history
split later i history = sym (append_assoc later (i ∷ []) history)

of_option : (o : Option Order) (x : Order) → Contains (option_to_list o) x → o ≡ Some x
of_option None x c = absurd (omega arith)
of_option (Some y) x c = ap (λ (z : Order). Some z) (of_one y x c)

ordered : (s : Settings) (whole later history : History) (o : Order) → whole ≡ later ++ history → ((h : History) → (rest : History) → whole ≡ rest ++ h → IsMoment s h)
    → Contains (orders_of s history) o → WasOrdered s o
ordered s whole later [] o e moments c = absurd (omega arith)
ordered s whole later (began heard ∷ history) o e moments c = ordered s whole (later ++ began heard ∷ []) history o (e ∙ split later (began heard) history) moments c
ordered s whole later (told client message ∷ history) o e moments c = ordered s whole (later ++ told client message ∷ []) history o (e ∙ split later (told client message) history) moments c
ordered s whole later (noted n packet ∷ history) o e moments c =
    ⊎_elim (λ d. ordered s whole (later ++ noted n packet ∷ []) history o (e ∙ split later (noted n packet) history) moments d)
    (λ d. record { note = n; packet = packet; before = history; moment = moments (noted n packet ∷ history) later e; is_its = of_option (order_of s history n packet) o d })
    (Contains-append_cases (orders_of s history) (option_to_list (order_of s history n packet)) o c)

pub was_ordered : (s : Settings) (book : Book) (o : Order) → IsLawful s book → Contains (orders_in book) o → WasOrdered s o
was_ordered s book o l c =
    let events = events_of book in
    ordered s (history_of s events) [] (history_of s events) o refl (λ h rest e. record { events = events; later = rest; splits = e })
    (subst (λ (os : List Order). Contains os o) (tells s book l).orders c)
