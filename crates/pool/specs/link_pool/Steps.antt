-- What each step of a link tells its caller, and how views are cut and put together.
use Rattle.std.specs.Prelude.{◌≡◌, ℕ, ◌+◌, ◌-◌, ◌^◌, [], ◌∷◌, ◌++◌, take, drop, slice_index}
use Rattle.atomic_table.specs.Table.{Step, Me}
use Rattle.pool.specs.declared.link_pool.link.View.{View}
use Rattle.pool.specs.link_pool.Claims.{claim}
use Rattle.pool.specs.link_pool.Sharing.{view}

abbrev pub Mine : Type 0
Mine = Me (Unit {0}) View

abbrev pub with_grant : View → ℕ → View
with_grant v bytes = record v { granted = v.granted + bytes }

-- so many bytes more are granted
abbrev pub Granted : Step (Unit {0}) → Mine → ℕ → Mine → Type 0
Granted st m n w = w ≡ (with_grant m.0 st.first, m.1)

abbrev pub with_claim : View → ℕ → ℕ → View
with_claim v from bytes = record v { claims = v.claims ++ claim (slice_index v.owns 0) from bytes ∷ []; left = v.left - bytes }

-- the taker has one claim more, which begins at the number found
abbrev pub Taken : Step (Unit {0}) → Mine → ℕ → Mine → Type 0
Taken st m n w = w ≡ (with_claim m.0 n st.first, m.1)

-- the first taker is cut off, with 2^48 bytes that it may claim
abbrev pub undealt : View → View
undealt v = record v { owns = drop 1 v.owns; left = v.left - 2 ^ 48 }

abbrev pub dealt : View → View
dealt v = view 0 0 (take 1 v.owns) [] (2 ^ 48)

-- a taker is given back
abbrev pub with_taker : View → View → View
with_taker v taker = record v { owns = v.owns ++ taker.owns; claims = v.claims ++ taker.claims; left = v.left + taker.left }
