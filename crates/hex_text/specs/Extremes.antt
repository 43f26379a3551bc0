-- The extremes of bytes, by lanes.
use Rattle.std.specs.Prelude.{◌≡◌, Bool, ◌&&◌, length, nat_le}
use Rattle.std.specs.List.{list_all}
use Rattle.hex_text.specs.declared.test.Extremes.{Extremes}

abbrev pub AreLanes : Extremes → Type 0
AreLanes e = (length e.least ≡ 32) × ((length e.most ≡ 32) × (length e.farthest ≡ 32))

-- none is less than `0`, more than `f`, or so far from `a` that it stands between `9` and `a`
abbrev pub are_within : Extremes → Bool
are_within e = list_all (λ b. nat_le 48 b) e.least && (list_all (λ b. nat_le b 102) e.most && list_all (λ b. nat_le b 216) e.farthest)
