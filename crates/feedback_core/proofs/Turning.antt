-- What an Update, a StopAt, an End, a Bye and a Queued make of what is kept of their client.
use Rattle.std.proofs.Common.{◌≡◌, ℕ, ◌+◌, ◌-◌, ◌≤◌, Bool, false, not, ◌&&◌, List, [], ◌∷◌, ◌++◌, Option, Some, None, refl, ap, sym, ◌∙◌, eqb, ltb}
use Rattle.std.specs.Prelude.{◌==◌, length, option_map}
use Rattle.std.specs.List.{list_any}
use Rattle.std.proofs.lemmas.Bool.{cond-true, eq-eqb, not_from_true}
use Rattle.std.proofs.lemmas.Map.Views.{any-filter_same}
use Rattle.rams_model.specs.declared.Cause.{Cause}
use Rattle.rams_model.specs.declared.Cause.TheVariants as cause
use Rattle.rams_model.specs.declared.Note.TheVariants as note
use Rattle.rams_model.specs.Service.{Settings, noted, History, arrivals, known, is_among, sendings, ssrc, newest_sender, or_sender, update_info, bursts, kept, open_burst, Wanted, wanted, pending, quiet_ticks, reserved}
use Rattle.rams_model.proofs.OpenBurst.{open_updated, open_stopped, end_closes}
use Rattle.rams_model.proofs.Since.{known_step}
use Rattle.reckoning.specs.link_budget.Amounts.{Amounts}
use Rattle.client_table.specs.declared.{Burst.Burst, Entry.Entry}
use Rattle.repair_queue.specs.Queue as queues
use Rattle.channel_parts.specs.{IsBudget, burst_kept}
use Rattle.channel_parts.proofs.Knowing.{made_known}
use Rattle.feedback_core.specs.declared.{visitor.Open.Open, visitor.Visitor.Visitor}
use Rattle.feedback_core.specs.{entry_under, IsUnknown, IsKnown, IsClient, IsVisit}
use Rattle.feedback_core.proofs.Others.{others_noted, rest_noted, left_noted, quiet_noted}
use Rattle.channel_parts.proofs.Facts.{updates_reserve, ends_release, other_notes_reserve_nothing}
use Rattle.feedback_core.proofs.Visiting.{noted_visit, budget_changed, budget_same, idle_none, seq_of, idle_of, IsOpen}

reserved_of : (s : Settings) (history : History) (budget : Amounts) → IsBudget s history budget → budget.reserved ≡ reserved s history
reserved_of s history budget is = ap (λ (a : Amounts). a.reserved) is

-- an Update
pub updated : (s : Settings) (rate join : ℕ) (before history : History) (v : Visitor) (queue : List Wanted) (o : Open) (budget : Amounts) → IsOpen s history v o
    → budget ≡ record v.budget { reserved = v.budget.reserved - o.burst.rate + rate } → IsVisit s before history v queue
    → IsVisit s before (noted (note.Update v.client rate join) None ∷ history) (record v {
      entry = Some (record o.entry { burst = Some (record o.burst { rate = rate; last = update_info s o.burst.last o.burst.ticks rate join }) });
      budget = budget;
    }) queue
unfolding ssrc sendings quiet_ticks known pending
updated s rate join before history v queue o budget is taken w =
    let n = note.Update v.client rate join in
    let b = is.burst in
    let e : Entry = record o.entry { burst = Some (record o.burst { rate = rate; last = update_info s o.burst.last o.burst.ticks rate join }) } in
    let is_open = open_updated s v.client rate join history b is.is_open in
    let more : v.budget.reserved - o.burst.rate + rate ≡ reserved s (noted n None ∷ history) =
    ap (λ (a : ℕ). a - o.burst.rate + rate) (reserved_of s history v.budget w.budget_is)
    ∙ ap (λ (c : Burst). reserved s history - c.rate + rate) is.burst_is
    ∙ sym (updates_reserve s v.client rate join None history b is.is_open) in
    let is_budget : IsBudget s (noted n None ∷ history) budget =
    taken ∙ budget_changed s history (noted n None ∷ history) v.budget (v.budget.reserved - o.burst.rate + rate) more (left_noted s n v.client None history refl) w.budget_is in
    let client : IsKnown s v.client (noted n None ∷ history) e = record {
      is_known = is.known.is_known;
      entry_is = record {
        ssrc_is = is.known.entry_is.ssrc_is;
        seq_is = is.known.entry_is.seq_is;
        idle_is = λ free. is.known.awake ∙ sym (idle_none s v.client (noted n None ∷ history) w.quiet);
        burst_is = ap (λ (c : Burst). Some (record c { rate = rate; last = update_info s c.last c.ticks rate join })) is.burst_is ∙ ap (option_map (burst_kept s)) (sym is_open);
      };
      awake = is.known.awake;
    } in
    noted_visit s n before history v queue (Some e) budget queue refl w client is_budget w.queue_is

-- a StopAt
pub stop_at : (s : Settings) (n : ℕ) (before history : History) (v : Visitor) (queue : List Wanted) (o : Open) → IsOpen s history v o → IsVisit s before history v queue
    → IsVisit s before (noted (note.StopAt v.client n) None ∷ history) (record v { entry = Some (record o.entry { burst = Some (record o.burst { stop = Some n }) }) }) queue
unfolding ssrc sendings quiet_ticks known pending
stop_at s n before history v queue o is w =
    let m = note.StopAt v.client n in
    let b = is.burst in
    let e : Entry = record o.entry { burst = Some (record o.burst { stop = Some n }) } in
    let is_open = open_stopped s v.client n history b is.is_open in
    let client : IsKnown s v.client (noted m None ∷ history) e = record {
      is_known = is.known.is_known;
      entry_is = record {
        ssrc_is = is.known.entry_is.ssrc_is;
        seq_is = is.known.entry_is.seq_is;
        idle_is = λ free. is.known.awake ∙ sym (idle_none s v.client (noted m None ∷ history) w.quiet);
        burst_is = ap (λ (c : Burst). Some (record c { stop = Some n })) is.burst_is ∙ ap (option_map (burst_kept s)) (sym is_open);
      };
      awake = is.known.awake;
    } in
    noted_visit s m before history v queue (Some e) v.budget queue refl w client
    (budget_same s history (noted m None ∷ history) v.budget (other_notes_reserve_nothing s m None history refl) (left_noted s m v.client None history refl) w.budget_is) w.queue_is

released : (s : Settings) (why : Cause) (history : History) (v : Visitor) (o : Open) (budget : Amounts) → IsOpen s history v o → IsBudget s history v.budget
    → budget ≡ record v.budget { reserved = v.budget.reserved - (o.burst.rate + s.channel.depth) } → IsBudget s (noted (note.End v.client why) None ∷ history) budget
released s why history v o budget is was taken =
    let n = note.End v.client why in
    let less : v.budget.reserved - (o.burst.rate + s.channel.depth) ≡ reserved s (noted n None ∷ history) =
    ap (λ (a : ℕ). a - (o.burst.rate + s.channel.depth)) (reserved_of s history v.budget was)
    ∙ ap (λ (c : Burst). reserved s history - (c.rate + s.channel.depth)) is.burst_is
    ∙ sym (ends_release s v.client why None history is.burst is.is_open) in
    taken ∙ budget_changed s history (noted n None ∷ history) v.budget (v.budget.reserved - (o.burst.rate + s.channel.depth)) less (left_noted s n v.client None history refl) was

-- an End
pub ended : (s : Settings) (why : Cause) (before history : History) (v : Visitor) (queue : List Wanted) (o : Open) (budget : Amounts) → IsOpen s history v o
    → budget ≡ record v.budget { reserved = v.budget.reserved - (o.burst.rate + s.channel.depth) } → IsVisit s before history v queue
    → IsVisit s before (noted (note.End v.client why) None ∷ history) (record v { entry = Some (record o.entry { burst = None }); budget = budget }) queue
unfolding ssrc sendings known pending
ended s why before history v queue o budget is taken w =
    let n = note.End v.client why in
    let e : Entry = record o.entry { burst = None } in
    let is_open = end_closes s v.client why None history in
    let client : IsKnown s v.client (noted n None ∷ history) e = record {
      is_known = is.known.is_known;
      entry_is = record {
        ssrc_is = is.known.entry_is.ssrc_is;
        seq_is = is.known.entry_is.seq_is;
        idle_is = λ free. is.known.awake
            ∙ sym (idle_none s v.client (noted n None ∷ history) (quiet_noted s n v.client None history w.quiet));
        burst_is = ap (option_map (burst_kept s)) (sym is_open);
      };
      awake = is.known.awake;
    } in
    noted_visit s n before history v queue (Some e) budget queue refl w client (released s why history v o budget is w.budget_is taken) w.queue_is

-- A Bye of a client without an open burst.
gone : (k : ℕ) (history : History) → is_among k (known (noted (note.Bye k) None ∷ history)) ≡ false
gone k history = known_step k (noted (note.Bye k) None) history ∙ ap (λ (b : Bool). not b && is_among k (known history)) (eq-eqb k k refl)

none_waits : (k : ℕ) (history : History) → list_any (λ w. w.client == k) (pending (noted (note.Bye k) None ∷ history)) ≡ false
unfolding pending
none_waits k history = any-filter_same (λ (w : Wanted). w.client == k) (λ w. not (w.client == k)) false (λ w t. not_from_true (w.client == k) t) (pending history)

pub left_idle : (s : Settings) (before history : History) (v : Visitor) (queue later : List Wanted) → open_burst s v.client history ≡ None → later ≡ queues.without v.client queue
    → IsVisit s before history v queue → IsVisit s before (noted (note.Bye v.client) None ∷ history) (record v { entry = None }) later
unfolding ssrc sendings bursts pending
left_idle s before history v queue later none kept w =
    let n = note.Bye v.client in
    let client : IsUnknown s v.client (noted n None ∷ history) = record {
      unknown = gone v.client history;
      unnamed = cond-true (eqb v.client v.client) None (ssrc v.client history) (eq-eqb v.client v.client refl);
      unsent = cond-true (eqb v.client v.client) 0 (sendings v.client history) (eq-eqb v.client v.client refl);
      closed = none;
      unasked = none_waits v.client history;
    } in
    noted_visit s n before history v queue None v.budget later refl w client
    (budget_same s history (noted n None ∷ history) v.budget (other_notes_reserve_nothing s n None history refl) (left_noted s n v.client None history refl) w.budget_is)
    (kept ∙ ap (queues.without v.client) w.queue_is)

-- A Bye of a client with an open burst, which ends.
pub left_open : (s : Settings) (before history : History) (v : Visitor) (queue later : List Wanted) (o : Open) (budget : Amounts) → IsOpen s history v o
    → budget ≡ record v.budget { reserved = v.budget.reserved - (o.burst.rate + s.channel.depth) } → later ≡ queues.without v.client queue → IsVisit s before history v queue
    → IsVisit s before (noted (note.End v.client cause.Bye) None ∷ noted (note.Bye v.client) None ∷ history) (record v { entry = None; budget = budget }) later
unfolding arrivals ssrc sendings bursts pending known
left_open s before history v queue later o budget is taken kept w =
    let n = note.Bye v.client in
    let m = note.End v.client cause.Bye in
    let middle = noted n None ∷ history in
    let was : IsBudget s middle v.budget =
    budget_same s history middle v.budget (other_notes_reserve_nothing s n None history refl) (left_noted s n v.client None history refl) w.budget_is in
    let less : v.budget.reserved - (o.burst.rate + s.channel.depth) ≡ reserved s (noted m None ∷ middle) =
    ap (λ (a : ℕ). a - (o.burst.rate + s.channel.depth)) (reserved_of s middle v.budget was)
    ∙ ap (λ (c : Burst). reserved s middle - (c.rate + s.channel.depth)) is.burst_is
    ∙ sym (ends_release s v.client cause.Bye None middle is.burst is.is_open) in
    record {
      arrivals_are = w.arrivals_are;
      others = λ j ne. others_noted s j m v.client None before middle ne refl (others_noted s j n v.client None before history ne refl (w.others j ne));
      rest = rest_noted m v.client None middle refl ∙ rest_noted n v.client None history refl ∙ w.rest;
      client_is = record {
        unknown = gone v.client history;
        unnamed = cond-true (eqb v.client v.client) None (ssrc v.client history) (eq-eqb v.client v.client refl);
        unsent = cond-true (eqb v.client v.client) 0 (sendings v.client history) (eq-eqb v.client v.client refl);
        closed = end_closes s v.client cause.Bye None middle;
        unasked = none_waits v.client history;
      };
      quiet = quiet_noted s m v.client None middle (quiet_noted s n v.client None history w.quiet);
      place_is = w.place_is
          ∙ ap (λ (ks : List ℕ). ltb (length ks) s.channel.clients) (sym (rest_noted m v.client None middle refl ∙ rest_noted n v.client None history refl));
      budget_is = taken ∙ budget_changed s middle (noted m None ∷ middle) v.budget (v.budget.reserved - (o.burst.rate + s.channel.depth)) less
          (left_noted s m v.client None middle refl) was;
      queue_is = kept ∙ ap (queues.without v.client) w.queue_is;
    }

-- a Queued
named : (s : Settings) (k n sender : ℕ) (history : History) (o : Option Entry) → IsClient s k history o → newest_sender history ≡ Some sender
    → ssrc k (noted (note.Queued k n) None ∷ history) ≡ Some (entry_under o sender s.channel.seq0).ssrc
unfolding ssrc
named s k n sender history None c from =
    cond-true (eqb k k) (or_sender (ssrc k history) (newest_sender history)) (ssrc k history) (eq-eqb k k refl)
    ∙ ap (λ (x : Option ℕ). or_sender x (newest_sender history)) c.unnamed ∙ from
named s k n sender history (Some e) c from =
    cond-true (eqb k k) (or_sender (ssrc k history) (newest_sender history)) (ssrc k history) (eq-eqb k k refl)
    ∙ ap (λ (x : Option ℕ). or_sender x (newest_sender history)) c.entry_is.ssrc_is

bursts_queued : (s : Settings) (k n sender : ℕ) (history : History) (o : Option Entry) → IsClient s k history o
    → (entry_under o sender s.channel.seq0).burst ≡ option_map (burst_kept s) (open_burst s k (noted (note.Queued k n) None ∷ history))
unfolding bursts
bursts_queued s k n sender history None c = ap (option_map (burst_kept s)) (sym c.closed)
bursts_queued s k n sender history (Some e) c = c.entry_is.burst_is

pub queued : (s : Settings) (n sender : ℕ) (before history : History) (v : Visitor) (queue : List Wanted) → s.channel.seq0 ≤ 65535 → newest_sender history ≡ Some sender
    → IsVisit s before history v queue
    → IsVisit s before (noted (note.Queued v.client n) None ∷ history) (record v { entry = Some (entry_under v.entry sender s.channel.seq0) }) (queue ++ wanted v.client n ∷ [])
unfolding ssrc sendings quiet_ticks bursts pending
queued s n sender before history v queue le from w =
    let m = note.Queued v.client n in
    let client : IsKnown s v.client (noted m None ∷ history) (entry_under v.entry sender s.channel.seq0) = record {
      is_known = made_known v.client (noted m None) history (eq-eqb v.client v.client refl);
      entry_is = record {
        ssrc_is = named s v.client n sender history v.entry w.client_is from;
        seq_is = seq_of s v.client history v.entry sender le w.client_is;
        idle_is = λ free. idle_of s v.client history v.entry sender w.client_is ∙ sym (idle_none s v.client (noted m None ∷ history) w.quiet);
        burst_is = bursts_queued s v.client n sender history v.entry w.client_is;
      };
      awake = idle_of s v.client history v.entry sender w.client_is;
    } in
    noted_visit s m before history v queue (Some (entry_under v.entry sender s.channel.seq0)) v.budget (queue ++ wanted v.client n ∷ []) refl w client
    (budget_same s history (noted m None ∷ history) v.budget (other_notes_reserve_nothing s m None history refl) (left_noted s m v.client None history refl) w.budget_is)
    (ap (λ (ws : List Wanted). ws ++ wanted v.client n ∷ []) w.queue_is)
