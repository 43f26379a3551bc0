-- Which line a BYE meets.
use Rattle.std.proofs.Common.{◌≡◌, ℕ, ◌+◌, ◌-◌, true, false, cond, not, ◌&&◌, List, ◌∷◌, Option, Some, None, refl, ap, sym, ◌∙◌, subst}
use Rattle.std.specs.Prelude.{is_some}
use Rattle.std.proofs.lemmas.Bool.{cond-true, cond-false, and_left, and_right, and_from, not_from_true, not_from_false}
use Rattle.rams_model.specs.declared.Channel.{Channel}
use Rattle.rams_model.specs.declared.Cause.TheVariants as causes
use Rattle.rams_model.specs.declared.Note.TheVariants as notes
use Rattle.rams_model.specs.Service.{Settings, noted, History, known, is_among, ssrc, end_order, order_of, after_bye, is_bye_of, bursts, has_open, Wanted}
use Rattle.rams_model.specs.Formats.{Framed, bye_names}
use Rattle.reckoning.specs.link_budget.Amounts.{Amounts}
use Rattle.client_table.specs.declared.Entry.{Entry}
use Rattle.repair_queue.specs.Queue as queues
use Rattle.feedback_core.specs.declared.{visitor.Open.Open, visitor.Visitor.Visitor}
use Rattle.feedback_core.specs.{open_of, IsKnown, IsClient, IsVisit, only, IsSaid}
use Rattle.feedback_core.proofs.Sayings.{said_one, said_idle, said_two}
use Rattle.feedback_core.proofs.Visiting.{is_opened, is_closed}
use Rattle.feedback_core.proofs.Turning.{left_idle, left_open}

bye_idle : (s : Settings) (before history : History) (queue : List Wanted) (v : Visitor) (p : Framed) → (is_among v.client (known history) && is_bye_of p (ssrc v.client history)) ≡ false
    → IsVisit s before history v queue → IsSaid s before history (after_bye s v.client p history) queue v (only (notes.ByeIdle v.client))
unfolding order_of
bye_idle s before history queue v p f w =
    said_idle s before history (after_bye s v.client p history) queue v (notes.ByeIdle v.client) refl tt refl
    (cond-true (not (is_among v.client (known history) && is_bye_of p (ssrc v.client history))) _ _ (not_from_false (is_among v.client (known history) && is_bye_of p (ssrc v.client history)) f)) w

known_as : (s : Settings) (before history : History) (queue : List Wanted) (v : Visitor) (e : Entry) → v.entry ≡ Some e → IsVisit s before history v queue → IsKnown s v.client history e
known_as s before history queue v e is w = subst (IsClient s v.client history) is w.client_is

unknown_as : (s : Settings) (k : ℕ) (history : History) (o : Option Entry) → o ≡ None → IsClient s k history o → is_among k (known history) ≡ false
unknown_as s k history None e c = c.unknown
unknown_as s k history (Some x) e c = absurd cc

pub bye_unknown : (s : Settings) (before history : History) (queue : List Wanted) (v : Visitor) (p : Framed) → v.entry ≡ None → IsVisit s before history v queue
    → IsSaid s before history (after_bye s v.client p history) queue v (only (notes.ByeIdle v.client))
bye_unknown s before history queue v p e w =
    bye_idle s before history queue v p (and_left (is_among v.client (known history)) (is_bye_of p (ssrc v.client history)) (unknown_as s v.client history v.entry e w.client_is)) w

pub bye_other : (s : Settings) (before history : History) (queue : List Wanted) (v : Visitor) (p : Framed) (e : Entry) → v.entry ≡ Some e → bye_names p e.ssrc ≡ false
    → IsVisit s before history v queue → IsSaid s before history (after_bye s v.client p history) queue v (only (notes.ByeIdle v.client))
bye_other s before history queue v p e is f w =
    bye_idle s before history queue v p
    (and_right (is_among v.client (known history)) (is_bye_of p (ssrc v.client history)) (ap (is_bye_of p) (known_as s before history queue v e is w).entry_is.ssrc_is ∙ f)) w

bye_of : (s : Settings) (before history : History) (queue : List Wanted) (v : Visitor) (p : Framed) (e : Entry) → v.entry ≡ Some e → bye_names p e.ssrc ≡ true
    → IsVisit s before history v queue
    → after_bye s v.client p history
    ≡ cond (has_open s v.client history) (noted (notes.End v.client causes.Bye) None ∷ noted (notes.Bye v.client) None ∷ history) (noted (notes.Bye v.client) None ∷ history)
bye_of s before history queue v p e is t w =
    let known_is = known_as s before history queue v e is w in
    let leaves = and_from (is_among v.client (known history)) (is_bye_of p (ssrc v.client history)) known_is.is_known (ap (is_bye_of p) known_is.entry_is.ssrc_is ∙ t) in
    cond-false (not (is_among v.client (known history) && is_bye_of p (ssrc v.client history))) _ _ (not_from_true (is_among v.client (known history) && is_bye_of p (ssrc v.client history)) leaves)

pub bye_without : (s : Settings) (before history : History) (queue later : List Wanted) (v : Visitor) (p : Framed) (e : Entry) → v.entry ≡ Some e → bye_names p e.ssrc ≡ true
    → open_of v.entry ≡ None → later ≡ queues.without v.client queue → IsVisit s before history v queue
    → IsSaid s before history (after_bye s v.client p history) later (record v { entry = None }) (only (notes.Bye v.client))
unfolding order_of
bye_without s before history queue later v p e is t closed kept w =
    let none = is_closed s before history v queue w closed in
    said_one s before history (after_bye s v.client p history) later (record v { entry = None }) (notes.Bye v.client) None
    (bye_of s before history queue v p e is t w ∙ cond-false (has_open s v.client history) _ _ (ap is_some none)) refl
    (left_idle s before history v queue later none kept w)

pub bye_ends : (s : Settings) (before history : History) (queue later : List Wanted) (v : Visitor) (p : Framed) (e : Entry) (o : Open) (channel : Channel) (budget : Amounts) → v.entry ≡ Some e
    → bye_names p e.ssrc ≡ true → open_of v.entry ≡ Some o → later ≡ queues.without v.client queue → channel ≡ s.channel
    → budget ≡ record v.budget { reserved = v.budget.reserved - (o.burst.rate + channel.depth) } → IsVisit s before history v queue
    → IsSaid s before history (after_bye s v.client p history) later (record v { entry = None; budget = budget })
    (record { note = notes.Bye v.client; end = Some causes.Bye; info = None })
unfolding order_of bursts
bye_ends s before history queue later v p e o channel budget is t opened kept ce taken w =
    let there = is_opened s before history v queue o w opened in
    let taken' : budget ≡ record v.budget { reserved = v.budget.reserved - (o.burst.rate + s.channel.depth) } =
    taken ∙ ap (λ (c : Channel). record v.budget { reserved = v.budget.reserved - (o.burst.rate + c.depth) }) ce in
    said_two s before history (after_bye s v.client p history) later (record v { entry = None; budget = budget }) (notes.Bye v.client) causes.Bye None
    (bye_of s before history queue v p e is t w ∙ cond-true (has_open s v.client history) _ _ (ap is_some there.is_open)) refl
    (sym (ap (end_order v.client causes.Bye) there.is_open)) (left_open s before history v queue later o budget there taken' kept w)
