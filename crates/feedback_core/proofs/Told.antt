-- What a client is told of the answer to its request.
use Rattle.std.proofs.Common.{◌≡◌, ℕ, ◌+◌, ◌-◌, not, List, ◌∷◌, Option, Some, None, Result, Ok, Err, refl, ap, sym, ◌∙◌, subst, eqb}
use Rattle.std.specs.Prelude.{option_map, unwrap_or}
use Rattle.std.proofs.lemmas.Bool.{cond_both}
use Rattle.rams_model.specs.declared.{TlvFault.TlvFault, Held.Held, Info.Info, Note.Note}
use Rattle.rams_model.specs.declared.Note.TheVariants as notes
use Rattle.rams_model.specs.Service.{Settings, noted, History, hold, sequence, accept_info, refuse_info, info_order, update_order, again_order, order_of, Burst, begun, after_note, bursts, open_burst, reserved, Wanted, asked_rate, is_slow, is_too_much, is_full, begins, on_burst, on_request, verdict}
use Rattle.rams_model.specs.Formats.{Request, names}
use Rattle.rams_model.specs.Packets.{chosen}
use Rattle.rams_model.proofs.OpenBurst.{open_updated}
use Rattle.client_table.specs.declared.{Burst.Burst as Kept, Entry.Entry}
use Rattle.channel_parts.specs.{burst_kept}
use Rattle.feedback_core.specs.declared.visitor.Visitor.{Visitor}
use Rattle.feedback_core.specs.{IsClient, IsVisit, IsSaid, last_of, info_for}
use Rattle.feedback_core.proofs.Sayings.{said_one}
use Rattle.feedback_core.proofs.Visiting.{open_accepted}

-- what a request gets: a burst, or, where one is open, another rate or the same again, or a refusal
abbrev IsReply : Settings → ℕ → History → Note → Type 0
IsReply s k history (notes.Accept client first rate join) = client ≡ k
IsReply s k history (notes.Update client rate join) = (client ≡ k) × ((b : Burst) × (open_burst s k history ≡ Some b))
IsReply s k history (notes.Again client) = (client ≡ k) × ((b : Burst) × (open_burst s k history ≡ Some b))
IsReply s k history (notes.Refuse client code) = client ≡ k
IsReply s k history _ = ⊥

begins_reply : (s : Settings) (held : List Held) (k rate : ℕ) (history : History) (r : Result Held ℕ) → IsReply s k history (begins s held k rate history r)
begins_reply s held k rate history (Err code) = refl
begins_reply s held k rate history (Ok h) =
    cond_both (is_slow s rate) _ _ (IsReply s k history) (λ t. refl)
    (λ f. cond_both (is_too_much s (reserved s history + rate + s.channel.depth)) _ _ (IsReply s k history) (λ t. refl) (λ g. refl))

burst_reply : (s : Settings) (held : List Held) (k rate : ℕ) (history : History) (b : Burst) (bps : Option ℕ) → open_burst s k history ≡ Some b
    → IsReply s k history (on_burst s held k rate history b bps)
burst_reply s held k rate history b None e = (refl, (b, e))
burst_reply s held k rate history b (Some bps) e =
    cond_both (eqb rate b.rate) _ _ (IsReply s k history) (λ t. (refl, (b, e)))
    (λ f. cond_both (is_slow s rate) _ _ (IsReply s k history) (λ t. refl)
    (λ g. cond_both (is_too_much s (reserved s history - b.rate + rate)) _ _ (IsReply s k history) (λ t. refl) (λ h. (refl, (b, e)))))

request_reply : (s : Settings) (held : List Held) (k : ℕ) (r : Request) (history : History) (o : Option Burst) → open_burst s k history ≡ o
    → IsReply s k history (on_request s held k r history o)
request_reply s held k r history None e =
    cond_both (is_full s k history) _ _ (IsReply s k history) (λ t. refl)
    (λ f. begins_reply s held k (asked_rate s r) history (chosen s.channel held (unwrap_or r.min_ms 0) r.max_ms))
request_reply s held k r history (Some b) e = burst_reply s held k (asked_rate s r) history b r.bps e

reply_of : (s : Settings) (k : ℕ) (history : History) (r : Result Request TlvFault) → IsReply s k history (verdict s k history r)
unfolding verdict
reply_of s k history (Err fault) = refl
reply_of s k history (Ok r) =
    cond_both r.preamble _ _ (IsReply s k history) (λ t. refl)
    (λ f. cond_both (not (names r s.channel.ssrc)) _ _ (IsReply s k history) (λ t. refl)
    (λ g. request_reply s (hold s history) k r history (open_burst s k history) refl))

-- where a burst is open, its client was told of it last
last_told : (s : Settings) (k : ℕ) (history : History) (b : Burst) (o : Option Entry) → open_burst s k history ≡ Some b → IsClient s k history o → last_of o ≡ Some b.last
last_told s k history b None e c = let none : None ≡ Some b = sym c.closed ∙ e in absurd cc
last_told s k history b (Some x) e c =
    ap (option_map (λ (kept : Kept). kept.last)) c.entry_is.burst_is ∙ ap (λ (o : Option Burst). option_map (λ (kept : Kept). kept.last) (option_map (burst_kept s) o)) e

told_reply : (s : Settings) (k : ℕ) (history : History) (n : Note) (o : Option Entry) → IsReply s k history n → IsClient s k (noted n None ∷ history) o
    → option_map (info_order k) (info_for o n) ≡ order_of s history n None
unfolding order_of bursts
told_reply s k history (notes.Accept client first rate join) o r c =
    let c' = subst (λ (j : ℕ). IsClient s k (noted (notes.Accept j first rate join) None ∷ history) o) r c in
    let last = last_told s k (noted (notes.Accept k first rate join) None ∷ history) (begun s first rate join (sequence s k history)) o (open_accepted s k first rate join history) c' in
    ap (option_map (info_order k)) last ∙ ap (λ (j : ℕ). Some (info_order j (accept_info s (sequence s j history) rate join))) (sym r)
told_reply s k history (notes.Update client rate join) o r c =
    let c' = subst (λ (j : ℕ). IsClient s k (noted (notes.Update j rate join) None ∷ history) o) r.0 c in
    let b = r.1.0 in
    let last = last_told s k (noted (notes.Update k rate join) None ∷ history) (after_note s (notes.Update k rate join) 0 b) o (open_updated s k rate join history b r.1.1) c' in
    ap (option_map (info_order k)) last ∙ ap (update_order s k rate join) (sym r.1.1) ∙ ap (λ (j : ℕ). update_order s j rate join (open_burst s j history)) (sym r.0)
told_reply s k history (notes.Again client) o r c =
    let last = last_told s k (noted (notes.Again client) None ∷ history) r.1.0 o r.1.1 c in
    ap (option_map (info_order k)) last ∙ ap (again_order k) (sym r.1.1) ∙ ap (λ (j : ℕ). again_order j (open_burst s j history)) (sym r.0)
told_reply s k history (notes.Refuse client code) o r c = ap (λ (j : ℕ). Some (info_order j (refuse_info code))) (sym r)
told_reply s k history n o r c = absurd r

pub told_verdict : (s : Settings) (before history : History) (queue : List Wanted) (v : Visitor) (k : ℕ) (r : Result Request TlvFault) → v.client ≡ k
    → IsVisit s before (noted (verdict s k history r) None ∷ history) v queue
    → option_map (info_order v.client) (info_for v.entry (verdict s k history r)) ≡ order_of s history (verdict s k history r) None
told_verdict s before history queue v k r e w =
    let c = subst (λ (j : ℕ). IsClient s j (noted (verdict s k history r) None ∷ history) v.entry) e w.client_is in
    ap (λ (j : ℕ). option_map (info_order j) (info_for v.entry (verdict s k history r))) e ∙ told_reply s k history (verdict s k history r) v.entry (reply_of s k history r) c

pub said_reply : (s : Settings) (before history : History) (queue : List Wanted) (v : Visitor) (k : ℕ) (r : Result Request TlvFault) (given : Note) (info : Option Info)
    → given ≡ verdict s k history r → v.client ≡ k → info ≡ info_for v.entry given → IsVisit s before (noted given None ∷ history) v queue
    → IsSaid s before history (noted (verdict s k history r) None ∷ history) queue v (record { note = given; end = None; info = info })
said_reply s before history queue v k r given info e ke ie w =
    let w' = subst (λ (n : Note). IsVisit s before (noted n None ∷ history) v queue) e w in
    subst (λ (n : Note). IsSaid s before history (noted (verdict s k history r) None ∷ history) queue v (record { note = n; end = None; info = info })) (sym e)
    (said_one s before history (noted (verdict s k history r) None ∷ history) queue v (verdict s k history r) info refl
    (ap (option_map (info_order v.client)) (ie ∙ ap (info_for v.entry) e) ∙ told_verdict s before history queue v k r ke w') w')
