-- An event at the end of its list.
use Rattle.std.proofs.Common.{◌≡◌, ◌≢◌, ℕ, ◌<◌, true, false, List, [], ◌∷◌, ◌++◌, get_or, set, map, length, sym, ap, ◌∙◌, inl, inr, arith}
use Rattle.std.specs.Prelude.{◌⊎◌, ◌==◌, if◌then◌else◌}
use Rattle.std.specs.Global.{Vec}
use Rattle.std.proofs.lemmas.Bool.Decides.{eqb_tells}
use Rattle.std.proofs.lemmas.List.{append-nil, get_or-map, get_or-set_same, get_or-set_other, length-map, map-set}
use Rattle.rams_model.specs.declared.Event.{Event}

abbrev pub events_in : Vec Event → List Event
events_in v = v.items

pub list_put : (lists : List (Vec Event)) (i : ℕ) (old new : Vec Event) (e : Event) (list : ℕ) → i < length lists → new.items ≡ (get_or lists i old).items ++ e ∷ []
    → get_or (map events_in (set lists i new)) list [] ≡ get_or (map events_in lists) list [] ++ (if i == list then e ∷ [] else [])
list_put lists i old new e list inside is = by (eqb_tells i list)
  where
    by : (((i == list) ≡ true) × (i ≡ list)) ⊎ (((i == list) ≡ false) × (i ≢ list)) → get_or (map events_in (set lists i new)) list [] ≡ get_or (map events_in lists) list [] ++ (if i == list then e ∷ [] else [])
    by (inl same) =
        let own : get_or (map events_in (set lists i new)) i [] ≡ get_or (map events_in lists) i [] ++ e ∷ [] =
        ap (λ l. get_or l i []) (map-set events_in lists i new) ∙ get_or-set_same (map events_in lists) i new.items [] (omega (arith, inside, length-map lists events_in)) ∙ is
        ∙ ap (λ l. l ++ e ∷ []) (sym (get_or-map events_in lists i old [] inside)) in
        rw same.0 (ap (λ n. get_or (map events_in (set lists i new)) n []) (sym same.1) ∙ own ∙ ap (λ n. get_or (map events_in lists) n [] ++ e ∷ []) same.1)
    by (inr apart) =
        rw apart.0 (ap (λ l. get_or l list []) (map-set events_in lists i new) ∙ get_or-set_other (map events_in lists) i list new.items [] (λ x. apart.1 (sym x)) ∙ sym (append-nil (get_or (map events_in lists) list [])))
