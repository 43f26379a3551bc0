-- Texts that are written one behind the other, and the pieces of what a pool writes.
use Rattle.std.proofs.Common.{◌≡◌, ℕ, ◌+◌, ◌≤◌, ◌<◌, List, [], ◌++◌, get_or, length, drop, sym, ap, ◌∙◌}
use Rattle.std.proofs.lemmas.List.{drop_more, drop_all}
use Rattle.channel_book.specs.{Kept}
use Rattle.pool.specs.declared.{link_pool.claim.Claim.Claim, pool_loop.routes.Route.Route}
use Rattle.pool.specs.pool_loop.{all_past, route_text, walk_text, numbers_of, closing_text}

-- ---- the events, one after another

pub walk_more : (routes : List Route) (books : List Kept) (i : ℕ) (d : Route) → i < length routes
    → walk_text (i + 1) (drop i routes) books ≡ route_text (i + 1) (get_or routes i d) books ++ walk_text (i + 1 + 1) (drop (i + 1) routes) (all_past (get_or routes i d) books)
unfolding walk_text
walk_more routes books i d below = ap (λ (l : List Route). walk_text (i + 1) l books) (drop_more routes i d below)

-- the same, where these are the books behind it
pub walk_next : (routes : List Route) (books later : List Kept) (i : ℕ) (d : Route) → i < length routes → later ≡ all_past (get_or routes i d) books
    → walk_text (i + 1) (drop i routes) books ≡ route_text (i + 1) (get_or routes i d) books ++ walk_text (i + 1 + 1) (drop (i + 1) routes) later
walk_next routes books later i d below are =
    walk_more routes books i d below ∙ ap (λ (bs : List Kept). route_text (i + 1) (get_or routes i d) books ++ walk_text (i + 1 + 1) (drop (i + 1) routes) bs) (sym are)

pub walk_past : (routes : List Route) (books : List Kept) (i : ℕ) → length routes ≤ i → walk_text (i + 1) (drop i routes) books ≡ []
unfolding walk_text
walk_past routes books i end = ap (λ (l : List Route). walk_text (i + 1) l books) (drop_all i routes end)

-- ---- the parts of a pool's text, of which the rest is still to be written

module _ (routes : List Route) (books : List Kept) (granted : ℕ) (claims : List Claim) where
  abbrev pub last_part : List ℕ
  last_part = closing_text (length routes) (numbers_of books) granted claims

  abbrev pub from_events : List ℕ
  from_events = walk_text 1 routes books ++ last_part
