-- The notes and orders of a message that gets one note, which may end the client's burst.
use Rattle.std.proofs.Common.{◌≡◌, List, ◌∷◌, ◌++◌, Option, Some, None, ap, sym, ◌∙◌, subst}
use Rattle.std.specs.Prelude.{option_map, option_to_list}
use Rattle.rams_model.specs.declared.{Order.Order, Info.Info, Cause.Cause, Note.Note}
use Rattle.rams_model.specs.declared.Note.TheVariants as notes
use Rattle.rams_model.specs.Service.{Settings, noted, History, info_order, order_of, newest_notes, newest_orders, Wanted}
use Rattle.feedback_core.specs.declared.{said.Said.Said, visitor.Visitor.Visitor}
use Rattle.feedback_core.specs.{IsVisit, only, IsSaid}
use Rattle.feedback_core.proofs.Others.{IsOf}
use Rattle.feedback_core.proofs.Visiting.{IsIdle, idle_visit}

-- one note, with its order
pub said_one : (s : Settings) (before history lawful : History) (queue : List Wanted) (v : Visitor) (n : Note) (info : Option Info) → lawful ≡ noted n None ∷ history
    → option_map (info_order v.client) info ≡ order_of s history n None → IsVisit s before (noted n None ∷ history) v queue
    → IsSaid s before history lawful queue v (record { note = n; end = None; info = info })
unfolding newest_notes newest_orders
said_one s before history lawful queue v n info is order w = record {
  notes = λ later. ap (λ (h : History). newest_notes h later) is;
  orders = λ later. ap (λ (h : History). newest_orders s h later) is ∙ ap (λ (o : Option Order). newest_orders s history (option_to_list o ++ later)) (sym order);
  visit = subst (λ (h : History). IsVisit s before h v queue) (sym is) w;
}

-- a note that changes nothing, and has no order
pub said_idle : (s : Settings) (before history lawful : History) (queue : List Wanted) (v : Visitor) (n : Note) → IsOf v.client n → IsIdle n → order_of s history n None ≡ None
    → lawful ≡ noted n None ∷ history → IsVisit s before history v queue → IsSaid s before history lawful queue v (only n)
said_idle s before history lawful queue v n of i order is w = said_one s before history lawful queue v n None is (sym order) (idle_visit s n before history v queue of i w)

-- a note without an order, and an End
pub said_two : (s : Settings) (before history lawful : History) (queue : List Wanted) (v : Visitor) (n : Note) (why : Cause) (info : Option Info)
    → lawful ≡ noted (notes.End v.client why) None ∷ noted n None ∷ history → order_of s history n None ≡ None
    → option_map (info_order v.client) info ≡ order_of s (noted n None ∷ history) (notes.End v.client why) None
    → IsVisit s before (noted (notes.End v.client why) None ∷ noted n None ∷ history) v queue
    → IsSaid s before history lawful queue v (record { note = n; end = Some why; info = info })
unfolding newest_notes newest_orders
said_two s before history lawful queue v n why info is none order w = record {
  notes = λ later. ap (λ (h : History). newest_notes h later) is;
  orders = λ later.
      ap (λ (h : History). newest_orders s h later) is
      ∙ ap (λ (o : Option Order). newest_orders s history (option_to_list (order_of s history n None) ++ (option_to_list o ++ later))) (sym order)
      ∙ ap (λ (o : Option Order). newest_orders s history (option_to_list o ++ (option_to_list (option_map (info_order v.client) info) ++ later))) none;
  visit = subst (λ (h : History). IsVisit s before h v queue) (sym is) w;
}

-- another spelling
pub said_so : (s : Settings) (before history lawful other : History) (queue : List Wanted) (v : Visitor) (said same : Said) → said ≡ same → lawful ≡ other
    → IsSaid s before history lawful queue v same → IsSaid s before history other queue v said
said_so s before history lawful other queue v said same e f a =
    subst (λ (h : History). IsSaid s before history h queue v said) f (subst (IsSaid s before history lawful queue v) (sym e) a)
