-- The orders of a tick have the packets that its notes name.
use Rattle.std.proofs.Common.{◌≡◌, ℕ, List, [], ◌∷◌, ◌++◌, Option, Some, None, refl, ap, sym, ◌∙◌, subst}
use Rattle.std.specs.Prelude.{option_map, option_to_list}
use Rattle.rams_model.specs.declared.{Order.Order, Event.Event, Event.TheVariants.Tick, Held.Held, Info.Info, Cause.Cause, Note.Note}
use Rattle.rams_model.specs.declared.Note.TheVariants.{Burst as BurstNote, Repair, Gone, End, Forgot}
use Rattle.rams_model.specs.Formats.{wire_size}
use Rattle.rams_model.specs.Service.{Settings, tick, began, History, size_of, open_burst, info_order, end_order, order_of, newest_notes, newest_orders, Answered, history_of, wire_sizes}
use Rattle.rams_model.specs.Service.Bursts as model
use Rattle.channel_cache.specs.packet_ring.{packet_of}
use Rattle.channel_parts.specs.declared.Parts.{Parts}
use Rattle.channel_parts.specs.{StandsFor}
use Rattle.channel_parts.proofs.Given.{held_is}
use Rattle.tick_core.specs.declared.plan.TickPlan.{TickPlan}
use Rattle.tick_draft.specs.{with_committed, with_all_committed, MayCommitAll, sizes_named, first_size, sizes_behind, with_sized, with_all_sized, MayCommitSized}
use Rattle.tick_core.specs.{IsPlanFor}
use Rattle.tick_draft.specs.Committed.{Committed}
use Rattle.tick_core.proofs.Adding.{Fits, Adds, none, plus}
use Rattle.tick_core.proofs.Closing.{is_tick}
use Rattle.tick_core.proofs.Sized.{held_sized}

-- ---- the order of a note has the packet that the note names
info_sizes : (k : ℕ) (o : Option Info) (orders : List Order) → wire_sizes (option_to_list (option_map (info_order k) o) ++ orders) ≡ wire_sizes orders
info_sizes k None orders = refl
info_sizes k (Some info) orders = refl

end_sizes : (k : ℕ) (cause : Cause) (o : Option model.Burst) (orders : List Order) → wire_sizes (option_to_list (end_order k cause o) ++ orders) ≡ wire_sizes orders
end_sizes k cause None orders = refl
end_sizes k cause (Some b) orders = info_sizes k _ orders

module _ (s : Settings) (held : List Held) (sized : (n : ℕ) (h : Held) → packet_of n held ≡ Some h → h.wire ≡ wire_size h.packet) where
  first_same : (n : ℕ) (h : Held) (named later : List ℕ) → Some h ≡ packet_of n held → named ≡ later → size_of (packet_of n held) ∷ named ≡ wire_size h.packet ∷ later
  first_same n h named later is same =
      ap (λ (o : Option Held). size_of o ∷ named) (sym is) ∙ (ap (λ (m : ℕ). m ∷ named) (sized n h (sym is)) ∙ ap (λ (l : List ℕ). wire_size h.packet ∷ l) same)

  one_order : (note : Note) (packet : Option Held) (history : History) (notes : List Note) (orders : List Order) → Fits s held note packet history → sizes_named held notes ≡ wire_sizes orders
      → sizes_named held (note ∷ notes) ≡ wire_sizes (option_to_list (order_of s history note packet) ++ orders)
  unfolding order_of
  one_order (BurstNote k n seq) None history notes orders fits same = let some = fits.1 in absurd cc
  one_order (BurstNote k n seq) (Some h) history notes orders fits same = first_same n h (sizes_named held notes) (wire_sizes orders) fits.0 same
  one_order (Repair k n seq) None history notes orders fits same = let some = fits.1 in absurd cc
  one_order (Repair k n seq) (Some h) history notes orders fits same = first_same n h (sizes_named held notes) (wire_sizes orders) fits.0 same
  one_order (End k cause) packet history notes orders fits same = same ∙ sym (end_sizes k cause (open_burst s k history) orders)
  one_order (Gone k n) packet history notes orders fits same = same
  one_order (Forgot k) packet history notes orders fits same = same
  one_order note packet history notes orders fits same = absurd fits

  abbrev InStep : History → Type 0
  InStep history = (notes : List Note) (orders : List Order) → sizes_named held notes ≡ wire_sizes orders → sizes_named held (newest_notes history notes) ≡ wire_sizes (newest_orders s history orders)

  in_step : (a b : History) → Adds s held a b → InStep a → InStep b
  unfolding newest_notes newest_orders
  in_step a _ none begun = begun
  in_step a _ (plus note packet later fits on) begun = λ notes orders same.
      in_step a later on begun (note ∷ notes) (option_to_list (order_of s later note packet) ++ orders) (one_order note packet later notes orders fits same)

-- ---- so have those of a plan
sizes_are : (p : Parts) (events : List Event) (plan : TickPlan) → StandsFor p events → IsPlanFor p events plan → sizes_named p.cache.held plan.answer.notes ≡ wire_sizes plan.answer.orders
unfolding newest_notes newest_orders
sizes_are p events plan stands is =
    let s = p.config in
    let held = p.cache.held in
    let history = history_of s events in
    let sized : (n : ℕ) (h : Held) → packet_of n held ≡ Some h → h.wire ≡ wire_size h.packet =
    λ n h found. held_sized s history n h (ap (packet_of n) (sym (held_is p events stands)) ∙ found) in
    subst (λ (a : Answered). sizes_named held a.notes ≡ wire_sizes a.orders) (sym is.answer_is)
    (in_step s held sized (began tick ∷ history) (history_of s (Tick ∷ events)) (is_tick p events stands).adds (λ notes orders same. same) [] [] refl)

-- ---- notes whose packets have their sizes
with_its_size : (s : Settings) (held : List Held) (note : Note) (notes : List Note) (c : Committed) → with_sized s (first_size (sizes_named held (note ∷ notes))) note c ≡ with_committed s held note c
with_its_size s held (BurstNote k n seq) notes c = refl
with_its_size s held (Repair k n seq) notes c = refl
with_its_size s held (End k cause) notes c = refl
with_its_size s held (Gone k n) notes c = refl
with_its_size s held (Forgot k) notes c = refl
with_its_size s held note notes c = refl

behind_is : (held : List Held) (note : Note) (notes : List Note) → sizes_behind note (sizes_named held (note ∷ notes)) ≡ sizes_named held notes
behind_is held (BurstNote k n seq) notes = refl
behind_is held (Repair k n seq) notes = refl
behind_is held note notes = refl

all_sized : (s : Settings) (held : List Held) (notes : List Note) (c : Committed) → with_all_sized s (sizes_named held notes) notes c ≡ with_all_committed s held notes c
unfolding with_all_sized with_all_committed
all_sized s held [] c = refl
all_sized s held (note ∷ notes) c =
    ap (λ (l : List ℕ). with_all_sized s l notes (with_sized s (first_size (sizes_named held (note ∷ notes))) note c)) (behind_is held note notes)
    ∙ (ap (with_all_sized s (sizes_named held notes) notes) (with_its_size s held note notes c) ∙ all_sized s held notes (with_committed s held note c))

may_sized : (s : Settings) (held : List Held) (notes : List Note) (c : Committed) → MayCommitAll s held notes c → MayCommitSized s (sizes_named held notes) notes c
unfolding MayCommitSized MayCommitAll
may_sized s held [] c may = tt
may_sized s held (note ∷ notes) c may = (
  may.0,
  subst (λ (l : List ℕ). MayCommitSized s l notes (with_sized s (first_size (sizes_named held (note ∷ notes))) note c)) (sym (behind_is held note notes))
      (subst (MayCommitSized s (sizes_named held notes) notes) (sym (with_its_size s held note notes c)) (may_sized s held notes (with_committed s held note c) may.1)),
)

-- ---- as the calls make it
pub sized_as_named : (s : Settings) (held : List Held) (notes : List Note) (l : List ℕ) (c : Committed) → sizes_named held notes ≡ l → with_all_sized s l notes c ≡ with_all_committed s held notes c
sized_as_named s held notes l c same = ap (λ (x : List ℕ). with_all_sized s x notes c) (sym same) ∙ all_sized s held notes c

pub may_as_named : (s : Settings) (held : List Held) (notes : List Note) (l : List ℕ) (c : Committed) → sizes_named held notes ≡ l → MayCommitAll s held notes c → MayCommitSized s l notes c
may_as_named s held notes l c same may = subst (λ (x : List ℕ). MayCommitSized s x notes c) same (may_sized s held notes c may)

pub lists_are_sized : (p : Parts) (events : List Event) (plan : TickPlan) (notes : List Note) (orders : List Order) → StandsFor p events → IsPlanFor p events plan → notes ≡ plan.answer.notes → orders ≡ plan.answer.orders
    → sizes_named p.cache.held notes ≡ wire_sizes orders
lists_are_sized p events plan notes orders stands is notes_are orders_are = ap (sizes_named p.cache.held) notes_are ∙ (sizes_are p events plan stands is ∙ ap wire_sizes (sym orders_are))
