-- Sizes of orders, one after another.
use Rattle.std.proofs.Common.{◌≡◌, ℕ, suc, ◌+◌, ◌<◌, List, [], ◌∷◌, ◌++◌, length, get_or, take, sym, ap, ◌∙◌, subst, arith, append_assoc}
use Rattle.std.proofs.Math.Seq.{take-suc}
use Rattle.rams_model.specs.declared.{Order.Order, Event.Event}
use Rattle.rams_model.specs.Service.{Settings, Answered, wire_sizes}
use Rattle.rams_model.proofs.WireSizes.{sizes_append}
use Rattle.channel_book.specs.declared.Entry.{Entry}
use Rattle.channel_book.specs.{IsLegal, entry, events_behind}
use Rattle.channel_book.proofs.Histories.{legal_last}
use Rattle.server_hub.specs.session_core.{SendsShort}
use Rattle.server_hub.proofs.session_core.Short.{sends_short}

-- one order more is claimed for
pub sizes_next : (orders : List Order) (i : ℕ) (order : Order) (old before now : List ℕ) → i < length orders → order ≡ get_or orders i order → before ≡ old ++ wire_sizes (take i orders)
    → now ≡ before ++ wire_sizes (order ∷ []) → now ≡ old ++ wire_sizes (take (i + 1) orders)
sizes_next orders i order old before now less is done claimed =
    let next : suc i ≡ i + 1 = omega arith in
    let more : take (i + 1) orders ≡ take i orders ++ order ∷ [] =
    ap (λ (k : ℕ). take k orders) (sym next) ∙ (take-suc orders i order less ∙ ap (λ (x : Order). take i orders ++ x ∷ []) (sym is)) in
    let sized : wire_sizes (take (i + 1) orders) ≡ wire_sizes (take i orders) ++ wire_sizes (order ∷ []) = ap wire_sizes more ∙ sizes_append (take i orders) (order ∷ []) in
    claimed ∙ (ap (λ (l : List ℕ). l ++ wire_sizes (order ∷ [])) done ∙ (append_assoc old (wire_sizes (take i orders)) (wire_sizes (order ∷ [])) ∙ ap (λ (l : List ℕ). old ++ l) (sym sized)))

-- the last answer of a legal history sends short packets
pub short_answer : (s : Settings) (entries : List Entry) (list : ℕ) (event : Event) (a : Answered) (new : List Entry) → new ≡ entries ++ entry list event a ∷ [] → IsLegal s new → SendsShort a
short_answer s entries list event a new is legal =
    let lawful = legal_last s [] entries (entry list event a) (subst (IsLegal s) is legal) in
    subst SendsShort (sym lawful) (sends_short s (events_behind [] entries) event)
