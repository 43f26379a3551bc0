-- TLVs as they are written.
use Rattle.std.proofs.Common.{◌≡◌, ℕ, ◌+◌, ◌-◌, ◌%◌, ◌<◌, List, ◌∷◌, ◌++◌, length, get_or, ap, arith, append-nil}
use Rattle.std.specs.List.{flat_map}
use Rattle.std.specs.Int.{w16, w32, to_be_bytes}
use Rattle.rams_model.specs.declared.rams.TheConstants.{TLV_MEDIA_SENDERS}
use Rattle.rams_model.specs.Formats.{words32, tlv}
use Rattle.rams_model.proofs.Joined.{words_again}

-- whole words need no filling
pub list_tlv : (list : List ℕ) → ((i : ℕ) → get_or list i 0 < 256) → length list % 4 ≡ 0
    → tlv TLV_MEDIA_SENDERS (flat_map (to_be_bytes w32) (words32 list)) ≡ TLV_MEDIA_SENDERS ∷ 0 ∷ (to_be_bytes w16 (length list) ++ list)
list_tlv list small h =
    let again = words_again list small h in
    let whole : 3 - (length list + 3) % 4 ≡ 0 = omega arith in
    rw (again, whole) (ap (λ (l : List ℕ). TLV_MEDIA_SENDERS ∷ 0 ∷ (to_be_bytes w16 (length list) ++ l)) (append-nil list))
