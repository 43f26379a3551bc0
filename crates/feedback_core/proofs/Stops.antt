-- Which line a termination meets.
use Rattle.std.proofs.Common.{◌≡◌, ℕ, ◌+◌, ◌-◌, List, ◌∷◌, Option, Some, None, Result, Err, option_map, refl, ap, sym, ◌∙◌, eqb}
use Rattle.std.proofs.lemmas.Bool.{cond-true, cond-false, eq-eqb, ne_eqb}
use Rattle.rams_model.specs.declared.{Channel.Channel, TlvFault.TlvFault, Info.Info, Stop.Stop}
use Rattle.rams_model.specs.declared.Cause.TheVariants as causes
use Rattle.rams_model.specs.declared.Note.TheVariants as notes
use Rattle.rams_model.specs.Service.{Settings, noted, History, refuse_info, end_info, info_order, end_order, order_of, stop_of, after_stop, stop_burst, on_stop, stop_set, next, open_burst, Wanted}
use Rattle.rams_model.specs.Service.Bursts as model
use Rattle.reckoning.specs.link_budget.Amounts.{Amounts}
use Rattle.client_table.specs.declared.Burst.{Burst}
use Rattle.feedback_core.specs.declared.{visitor.Open.Open, visitor.Visitor.Visitor}
use Rattle.feedback_core.specs.{open_of, IsVisit, only, IsSaid}
use Rattle.feedback_core.proofs.Sayings.{said_one, said_idle, said_two}
use Rattle.feedback_core.proofs.Visiting.{IsOpen, is_opened, is_closed, idle_visit}
use Rattle.feedback_core.proofs.Turning.{stop_at, ended}

pub stop_unread : (s : Settings) (before history : History) (queue : List Wanted) (v : Visitor) (read : Result Stop TlvFault) (fault : TlvFault) (info : Info) → read ≡ Err fault
    → info ≡ refuse_info 404 → IsVisit s before history v queue
    → IsSaid s before history (after_stop s v.client read history) queue v (record { note = notes.Refuse v.client 404; end = None; info = Some info })
unfolding order_of
stop_unread s before history queue v read fault info e ie w =
    said_one s before history (after_stop s v.client read history) queue v (notes.Refuse v.client 404) (Some info) (ap (λ (r : Result Stop TlvFault). after_stop s v.client r history) e)
    (ap (λ (i : Info). Some (info_order v.client i)) ie) (idle_visit s (notes.Refuse v.client 404) before history v queue refl tt w)

pub stop_none : (s : Settings) (before history : History) (queue : List Wanted) (v : Visitor) (named : Option ℕ) → open_of v.entry ≡ None → IsVisit s before history v queue
    → IsSaid s before history (stop_burst v.client named (open_burst s v.client history) history) queue v (only (notes.StopIdle v.client))
unfolding order_of
stop_none s before history queue v named closed w =
    said_idle s before history (stop_burst v.client named (open_burst s v.client history) history) queue v (notes.StopIdle v.client) refl tt refl
    (ap (λ (o : Option model.Burst). stop_burst v.client named o history) (is_closed s before history v queue w closed)) w

-- the stop of the history's burst
stop_same : (s : Settings) (history : History) (v : Visitor) (o : Open) (is : IsOpen s history v o) → is.burst.stop ≡ o.burst.stop
stop_same s history v o is = ap (λ (b : Burst). b.stop) (sym is.burst_is)

stops_by : (s : Settings) (history : History) (v : Visitor) (o : Open) (named stop : Option ℕ) (is : IsOpen s history v o) → o.burst.stop ≡ stop
    → stop_burst v.client named (open_burst s v.client history) history ≡ on_stop v.client is.burst named stop history
stops_by s history v o named stop is e =
    ap (λ (b : Option model.Burst). stop_burst v.client named b history) is.is_open
    ∙ ap (λ (n : Option ℕ). on_stop v.client is.burst named n history) (stop_same s history v o is ∙ e)

pub stop_kept : (s : Settings) (before history : History) (queue : List Wanted) (v : Visitor) (o : Open) (named : Option ℕ) (n : ℕ) → open_of v.entry ≡ Some o → o.burst.stop ≡ Some n
    → IsVisit s before history v queue
    → IsSaid s before history (stop_burst v.client named (open_burst s v.client history) history) queue v (only (notes.StopKept v.client n))
unfolding order_of
stop_kept s before history queue v o named n opened e w =
    said_idle s before history (stop_burst v.client named (open_burst s v.client history) history) queue v (notes.StopKept v.client n) refl tt refl
    (stops_by s history v o named (Some n) (is_opened s before history v queue o w opened) e) w

-- the first stop
stop_number : (s : Settings) (history : History) (v : Visitor) (o : Open) (named : Option ℕ) (n : ℕ) (is : IsOpen s history v o) → n ≡ stop_of o.burst.first o.burst.next named
    → n ≡ stop_of is.burst.first (next is.burst) named
stop_number s history v o named n is e = e ∙ ap (λ (b : Burst). stop_of b.first b.next named) is.burst_is

pub stop_set_at : (s : Settings) (before history : History) (queue : List Wanted) (v : Visitor) (o : Open) (named : Option ℕ) (n : ℕ) → open_of v.entry ≡ Some o → o.burst.stop ≡ None
    → n ≡ stop_of o.burst.first o.burst.next named → (n ≡ o.burst.next → ⊥) → IsVisit s before history v queue
    → IsSaid s before history (stop_burst v.client named (open_burst s v.client history) history) queue
    (record v { entry = Some (record o.entry { burst = Some (record o.burst { stop = Some n }) }) }) (only (notes.StopAt v.client n))
unfolding order_of
stop_set_at s before history queue v o named n opened unset e ne w =
    let is = is_opened s before history v queue o w opened in
    let n' = stop_number s history v o named n is e in
    let ne' : n ≡ next is.burst → ⊥ = λ q. ne (q ∙ ap (λ (b : Burst). b.next) (sym is.burst_is)) in
    let w' : Visitor = record v { entry = Some (record o.entry { burst = Some (record o.burst { stop = Some n }) }) } in
    said_one s before history (stop_burst v.client named (open_burst s v.client history) history) queue w' (notes.StopAt v.client n) None
    (stops_by s history v o named None is unset ∙ ap (λ (m : ℕ). stop_set v.client (next is.burst) m history) (sym n')
    ∙ cond-false (eqb n (next is.burst)) _ _ (ne_eqb n (next is.burst) ne'))
    refl (stop_at s n before history v queue o is w)

-- the burst has ended
pub stop_ends : (s : Settings) (before history : History) (queue : List Wanted) (v : Visitor) (o : Open) (named : Option ℕ) (n : ℕ) (channel : Channel) (budget : Amounts) (info : Option Info)
    → open_of v.entry ≡ Some o → o.burst.stop ≡ None → n ≡ stop_of o.burst.first o.burst.next named → n ≡ o.burst.next → channel ≡ s.channel
    → budget ≡ record v.budget { reserved = v.budget.reserved - (o.burst.rate + channel.depth) } → info ≡ end_info o.burst.last causes.Stopped → IsVisit s before history v queue
    → IsSaid s before history (stop_burst v.client named (open_burst s v.client history) history) queue
    (record v { entry = Some (record o.entry { burst = None }); budget = budget })
    (record { note = notes.StopAt v.client n; end = Some causes.Stopped; info = info })
unfolding order_of
stop_ends s before history queue v o named n channel budget info opened unset e ends ce taken ie w =
    let is = is_opened s before history v queue o w opened in
    let n' = stop_number s history v o named n is e in
    let last : n ≡ next is.burst = ends ∙ ap (λ (b : Burst). b.next) is.burst_is in
    let middle = noted (notes.StopAt v.client n) None ∷ history in
    let v' : Visitor = record v { entry = Some (record o.entry { burst = Some (record o.burst { stop = Some n }) }) } in
    let o' : Open = record { entry = record o.entry { burst = Some (record o.burst { stop = Some n }) }; burst = record o.burst { stop = Some n } } in
    let stopped = stop_at s n before history v queue o is w in
    let is' = is_opened s before middle v' queue o' stopped refl in
    let taken' : budget ≡ record v.budget { reserved = v.budget.reserved - (o.burst.rate + s.channel.depth) } =
    taken ∙ ap (λ (c : Channel). record v.budget { reserved = v.budget.reserved - (o.burst.rate + c.depth) }) ce in
    let after : Visitor = record v { entry = Some (record o.entry { burst = None }); budget = budget } in
    said_two s before history (stop_burst v.client named (open_burst s v.client history) history) queue after (notes.StopAt v.client n) causes.Stopped info
    (stops_by s history v o named None is unset ∙ ap (λ (m : ℕ). stop_set v.client (next is.burst) m history) (sym n')
    ∙ cond-true (eqb n (next is.burst)) _ _ (eq-eqb n (next is.burst) last))
    refl
    (ap (option_map (info_order v.client)) (ie ∙ ap (λ (b : Burst). end_info b.last causes.Stopped) is'.burst_is)
    ∙ ap (end_order v.client causes.Stopped) (sym is'.is_open))
    (ended s causes.Stopped before middle v' queue o' budget is' taken' stopped)

-- nothing is there
pub closed_from : (o : Option Open) → ((x : Open) → o ≡ Some x → ⊥) → o ≡ None
closed_from None f = refl
closed_from (Some x) f = absurd (f x refl)

pub unset_from : (o : Option ℕ) → ((n : ℕ) → o ≡ Some n → ⊥) → o ≡ None
unset_from None f = refl
unset_from (Some n) f = absurd (f n refl)
