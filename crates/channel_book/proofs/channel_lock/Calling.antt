-- Passes at rest, as they are made, met and given back.
use Rattle.std.proofs.Common.{◌≡◌, ℕ, ◌+◌, ◌^◌, List, [], ◌∷◌, ◌++◌, length, refl, sym, subst}
use Rattle.atomic_table.specs.Seated.{TableId}
use Rattle.rams_model.specs.Service.{Settings}
use Rattle.channel_book.specs.declared.entry.Entry.{Entry}
use Rattle.channel_book.specs.{IsLegal}
use Rattle.channel_book.specs.channel_lock.Steps.{Mine}
use Rattle.channel_book.specs.channel_lock.Passes.{known, fresh, waiting, IsAtRest}
use Rattle.channel_book.proofs.channel_lock.Numbers.{map_numbers}

pub at_rest : (s : Settings) (list seen : ℕ) (log : List Entry) (left : ℕ) (me : Mine) → me ≡ (waiting s list log left 0 0, []) → seen ≡ length log → IsLegal s log → IsAtRest s list seen me
at_rest s list seen log left me is count legal = subst (IsAtRest s list seen) (sym is) (record { seat_is = refl; counted = count; legal = legal })

-- ---- passes are made

pub fresh_snoc : (lock : TableId) (s : Settings) (n : ℕ) → fresh lock s (n + 1) ≡ fresh lock s n ++ known lock s n [] (2 ^ 34) ∷ []
fresh_snoc lock s n = map_numbers (λ list. known lock s list [] (2 ^ 34)) n
