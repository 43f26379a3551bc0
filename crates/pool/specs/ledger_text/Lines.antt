-- The text of a ledger.
use Rattle.std.specs.Prelude.{ℕ, ◌++◌, if◌then◌else◌, List, flat_map, codes, slice_index}
use Rattle.rams_model.specs.Texts.{spaced}
use Rattle.pool.specs.declared.link_pool.claim.Claim.{Claim}
use Rattle.pool.specs.link_pool.{claimed, is_paid}

abbrev pub paid_word : ℕ → Claim → List ℕ
paid_word granted c = if is_paid granted c then codes " paid\n" else codes " late\n"

-- the line of a claim: the number of its channel, its first byte, its size, and whether it is paid
abbrev pub claim_line : ℕ → ℕ → Claim → List ℕ
claim_line granted id c = codes "claim" ++ spaced id ++ spaced c.from ++ spaced c.bytes ++ paid_word granted c

-- the lines of some claims, where the channels of the takers have these numbers
abbrev pub claim_lines : ℕ → List ℕ → List Claim → List ℕ
claim_lines granted ids claims = flat_map (λ (c : Claim). claim_line granted (slice_index ids c.taker) c) claims

-- the line of the link: the bytes that were claimed, and those that were granted
abbrev pub link_line : ℕ → ℕ → List ℕ
link_line claimed granted = codes "pool" ++ spaced claimed ++ spaced granted ++ codes "\n"

-- The text of a ledger: the lines of its claims by rising first byte, and the line of the link.
abbrev pub ledger_text : List ℕ → ℕ → List Claim → List ℕ
ledger_text ids granted claims = claim_lines granted ids claims ++ link_line (claimed claims) granted
