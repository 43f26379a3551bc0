-- One repair, by what its client may take and what the channel has left.
use Rattle.std.proofs.Common.{◌≡◌, ℕ, ◌+◌, ◌<◌, ◌≤◌, Bool, true, false, ◌&&◌, List, [], ◌∷◌, ◌++◌, length, get_or, drop, Some, ap, sym, ◌∙◌, subst, arith, leb}
use Rattle.std.proofs.lemmas.Bool.{cond-true, cond-false}
use Rattle.std.proofs.lemmas.List.{drop_more, drop_all}
use Rattle.channel_cache.specs.packet_ring.{packet_of}
use Rattle.rams_model.specs.declared.{Held.Held, Note.TheVariants.Repair}
use Rattle.rams_model.specs.Service.{Wanted, wanted}
use Rattle.tick_core.specs.declared.allowance.Allowance.{Allowance}
use Rattle.tick_draft.specs.{Drafted, with_packet}
use Rattle.tick_core.specs.{Repaired, fits, waiting, with_repair, with_taken, with_wanted, with_all_wanted}

abbrev pub repaired : Drafted → List Allowance → List Bool → Repaired
repaired d allowances done = record { draft = d; allowances = allowances; done = done }

pub repair_waits : (w : Wanted) (h : Held) (r r2 : Repaired) (left : ℕ) (a : Allowance) → left ≡ r.draft.left → false ≡ (leb h.wire a.may_take && leb h.wire left) → r2 ≡ waiting r
    → r2 ≡ with_repair w h (Some a) r
repair_waits w h r r2 left a same_left waits made =
    let none : fits h a r.draft ≡ false = ap (λ (n : ℕ). leb h.wire a.may_take && leb h.wire n) (sym same_left) ∙ sym waits in
    made ∙ sym (cond-false (fits h a r.draft) _ (waiting r) none)

pub repair_goes : (w : Wanted) (h : Held) (r : Repaired) (d d2 : Drafted) (l l2 : List Allowance) (done done2 : List Bool) (left client n : ℕ) (a : Allowance) → repaired d l done ≡ r
    → left ≡ d.left → true ≡ (leb h.wire a.may_take && leb h.wire left) → wanted client n ≡ w
    → d2 ≡ with_packet d (Repair client n a.seq) client a.seq h → l2 ≡ with_taken client h.wire l → done2 ≡ done ++ true ∷ []
    → repaired d2 l2 done2 ≡ with_repair w h (Some a) r
repair_goes w h r d d2 l l2 done done2 left client n a view same_left goes who sent taken pushed =
    let all : fits h a r.draft ≡ true = ap (λ (n : ℕ). leb h.wire a.may_take && leb h.wire n) (ap (λ (x : Repaired). x.draft.left) (sym view) ∙ sym same_left) ∙ sym goes in
    let made : repaired d2 l2 done2 ≡ repaired (with_packet d (Repair client n a.seq) client a.seq h) (with_taken client h.wire l) (done ++ true ∷ []) = cc in
    let here : repaired (with_packet r.draft (Repair w.client w.n a.seq) w.client a.seq h) (with_taken w.client h.wire r.allowances) (r.done ++ true ∷ []) ≡ with_repair w h (Some a) r = sym (cond-true (fits h a r.draft) _ (waiting r) all) in
    made
    ∙ (ap (λ (v : Wanted). repaired (with_packet d (Repair v.client v.n a.seq) v.client a.seq h) (with_taken v.client h.wire l) (done ++ true ∷ [])) who
    ∙ (ap (λ (x : Repaired). repaired (with_packet x.draft (Repair w.client w.n a.seq) w.client a.seq h) (with_taken w.client h.wire x.allowances) (x.done ++ true ∷ [])) view
    ∙ here))

-- one more repair
pub wanted_turn : (held : List Held) (ws shown : List Wanted) (i : ℕ) (w : Wanted) (r r2 end : Repaired) → shown ≡ ws → i < length shown → w ≡ get_or shown i w
    → r2 ≡ with_wanted w (packet_of w.n held) r → with_all_wanted held (drop i ws) r ≡ end → with_all_wanted held (drop (i + 1) ws) r2 ≡ end
unfolding with_all_wanted
wanted_turn held ws shown i w r r2 end same lt is made so_far =
    let split : drop i ws ≡ w ∷ drop (i + 1) ws = subst (λ (l : List Wanted). drop i l ≡ w ∷ drop (i + 1) l) same (drop_more shown i w lt ∙ ap (λ (x : Wanted). x ∷ drop (i + 1) shown) (sym is)) in
    ap (with_all_wanted held (drop (i + 1) ws)) made ∙ (ap (λ (l : List Wanted). with_all_wanted held l r) (sym split) ∙ so_far)

pub wanted_end : (held : List Held) (ws shown : List Wanted) (i : ℕ) (r end : Repaired) → shown ≡ ws → length shown ≤ i → with_all_wanted held (drop i ws) r ≡ end → r ≡ end
unfolding with_all_wanted
wanted_end held ws shown i r end same le so_far =
    let none : drop i ws ≡ [] = drop_all i ws (omega (arith, ap length same)) in
    ap (λ (l : List Wanted). with_all_wanted held l r) (sym none) ∙ so_far
