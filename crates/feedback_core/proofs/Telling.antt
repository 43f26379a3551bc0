-- A page sends a RAMS-I or nothing.
use Rattle.std.proofs.Common.{◌≡◌, ℕ, [], Option, Some, None, sym, subst}
use Rattle.std.specs.Prelude.{List, option_map, option_to_list}
use Rattle.std.proofs.lemmas.List.Elements.{All-nil, All-cons}
use Rattle.rams_model.specs.declared.{Info.Info, Note.Note}
use Rattle.rams_model.specs.Service.{Answered, answered, info_order}
use Rattle.feedback_core.specs.{IsInfo, TellsAlone}

told_alone : (notes : List Note) (client : ℕ) (o : Option Info) → TellsAlone (answered notes (option_to_list (option_map (info_order client) o)))
told_alone notes client None = All-nil IsInfo
told_alone notes client (Some info) = All-cons IsInfo (info_order client info) [] tt (All-nil IsInfo)

-- what is told by a page
pub page_tells : (a : Answered) (notes : List Note) (client : ℕ) (o : Option Info) → a ≡ answered notes (option_to_list (option_map (info_order client) o)) → TellsAlone a
page_tells a notes client o is = subst TellsAlone (sym is) (told_alone notes client o)
