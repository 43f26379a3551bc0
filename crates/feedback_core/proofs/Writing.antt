-- The notes and orders of a datagram, as they grow.
use Rattle.std.proofs.Common.{◌≡◌, ℕ, ◌%◌, List, [], ◌∷◌, ◌++◌, Option, Some, None, refl, ap, sym, ◌∙◌, subst, length, leb}
use Rattle.std.specs.Prelude.{◌==◌, option_to_list, find}
use Rattle.std.proofs.lemmas.Bool.{cond_both}
use Rattle.rams_model.specs.declared.{Order.Order, Held.Held, Note.Note}
use Rattle.rams_model.specs.Service.{Settings, noted, History, arrivals, newest_sender, order_of, newest_notes, newest_orders, Room, room, is_early, repair_note, held_answer, number_answer, after_numbers, open_burst, Wanted, pending, pending_of, is_pending, is_full}
use Rattle.rams_model.proofs.Newest.{notes_behind}
use Rattle.feedback_core.specs.declared.visitor.Visitor.{Visitor}
use Rattle.feedback_core.specs.{IsVisit, IsHeard, IsAnswered, AreNoted}
use Rattle.feedback_core.proofs.Others.{IsOf}
use Rattle.feedback_core.proofs.Visiting.{IsIdle, idle_visit}

-- the answer to a number has no order
abbrev HasNoOrder : Settings → History → Note → Type 0
HasNoOrder s at n = order_of s at n None ≡ None

repair_order : (s : Settings) (k n : ℕ) (history at : History) (most : Room) → HasNoOrder s at (repair_note most s k history n)
unfolding order_of
repair_order s k n history at most =
    cond_both (is_early (open_burst s k history) n) _ _ (HasNoOrder s at) (λ t. refl)
    (λ a. cond_both (is_pending k n history) _ _ (HasNoOrder s at) (λ t. refl)
    (λ b. cond_both (is_full s k history) _ _ (HasNoOrder s at) (λ t. refl)
    (λ c. cond_both (leb most.of_client (length (pending_of k history))) _ _ (HasNoOrder s at) (λ t. refl)
    (λ d. cond_both (leb most.in_all (length (pending history))) _ _ (HasNoOrder s at) (λ t. refl) (λ e. refl)))))

held_order : (s : Settings) (k low : ℕ) (history at : History) (o : Option Held) → HasNoOrder s at (held_answer room s k history low o)
unfolding order_of
held_order s k low history at None = refl
held_order s k low history at (Some h) = repair_order s k h.n history at room

pub number_order : (s : Settings) (held : List Held) (k low : ℕ) (history at : History) → HasNoOrder s at (number_answer room s held k history low)
unfolding number_answer
number_order s held k low history at = held_order s k low history at (find (λ h. h.n % 65536 == low) held)

-- some numbers are answered, and some are left
pub record IsUnderWay (s : Settings) (held : List Held) (sender k : ℕ) (before history : History) (all left : List ℕ) (queue : List Wanted) (v : Visitor) (old new : List Note) : Type 0 where
  pub middle : History
  pub are_noted : AreNoted s before history middle queue v old new
  pub heard : IsHeard s held sender middle
  pub rest : after_numbers s held k left middle ≡ after_numbers s held k all history

pub next_number : (s : Settings) (held : List Held) (sender k : ℕ) (before history : History) (all left rest : List ℕ) (low : ℕ) (queue later : List Wanted) (v w : Visitor)
    (old new added : List Note) (given : Note) (client : ℕ) (u : IsUnderWay s held sender k before history all left queue v old new) → client ≡ k → left ≡ low ∷ rest → added ≡ new ++ given ∷ []
    → IsAnswered s before u.middle later w given (number_answer room s held client u.middle low) → IsUnderWay s held sender k before history all rest later w old added
unfolding after_numbers arrivals newest_notes newest_orders newest_sender
next_number s held sender k before history all left rest low queue later v w old new added given client u ke e ne a' =
    let a = subst (λ (j : ℕ). IsAnswered s before u.middle later w given (number_answer room s held j u.middle low)) ke a' in
    let lawful = number_answer room s held k u.middle low in
    record {
      middle = noted lawful None ∷ u.middle;
      are_noted = record {
        notes = λ was.
            notes_behind u.middle (lawful ∷ []) ∙ ap (λ (ns : List Note). ns ++ lawful ∷ []) (u.are_noted.notes was) ∙ ap (λ (n : Note). new ++ n ∷ []) (sym a.is_lawful) ∙ sym ne;
        orders = ap (λ (o : Option Order). newest_orders s u.middle (option_to_list o ++ [])) (number_order s held k low u.middle u.middle) ∙ u.are_noted.orders;
        visit = subst (λ (n : Note). IsVisit s before (noted n None ∷ u.middle) w later) a.is_lawful a.visit;
      };
      heard = record { held_is = u.heard.held_is; sender_is = u.heard.sender_is };
      rest = ap (λ (ns : List ℕ). after_numbers s held k ns u.middle) (sym e) ∙ u.rest;
    }

pub all_numbered : (s : Settings) (held : List Held) (sender k : ℕ) (before history : History) (all left : List ℕ) (queue : List Wanted) (v : Visitor) (old new : List Note)
    → IsUnderWay s held sender k before history all left queue v old new → left ≡ [] → AreNoted s before history (after_numbers s held k all history) queue v old new
unfolding after_numbers
all_numbered s held sender k before history all left queue v old new u e =
    let done : u.middle ≡ after_numbers s held k all history = ap (λ (ns : List ℕ). after_numbers s held k ns u.middle) (sym e) ∙ u.rest in
    subst (λ (h : History). AreNoted s before history h queue v old new) done u.are_noted

-- nothing was noted
pub none_noted : (s : Settings) (before history lawful : History) (queue : List Wanted) (v : Visitor) (written : List Note) → lawful ≡ history → IsVisit s before history v queue
    → AreNoted s before history lawful queue v written written
none_noted s before history lawful queue v written e w =
    subst (λ (h : History). AreNoted s before history h queue v written written) (sym e) (record { notes = λ was. was; orders = refl; visit = w })

-- a note that changes nothing, and has no order
pub idle_noted : (s : Settings) (before history lawful : History) (queue : List Wanted) (v : Visitor) (n : Note) (old new : List Note) → IsOf v.client n → IsIdle n
    → order_of s history n None ≡ None → lawful ≡ noted n None ∷ history → new ≡ old ++ n ∷ [] → IsVisit s before history v queue
    → AreNoted s before history lawful queue v old new
unfolding newest_notes newest_orders
idle_noted s before history lawful queue v n old new of i order e ne w =
    subst (λ (h : History). AreNoted s before history h queue v old new) (sym e)
    (record {
      notes = λ was. notes_behind history (n ∷ []) ∙ ap (λ (ns : List Note). ns ++ n ∷ []) was ∙ sym ne;
      orders = ap (λ (o : Option Order). newest_orders s history (option_to_list o ++ [])) order;
      visit = idle_visit s n before history v queue of i w;
    })
