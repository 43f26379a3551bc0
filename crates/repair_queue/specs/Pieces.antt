-- Pending repairs in pieces.
use Rattle.std.specs.Prelude.{List, [], ◌∷◌, ◌++◌}
use Rattle.rams_model.specs.Service.{Wanted}

-- all repairs of some pieces, one piece after another
abbrev pub all_of : List (List Wanted) → List Wanted
all_of [] = []
all_of (p ∷ ps) = p ++ all_of ps
