-- What is so of as many events as may come.
use Rattle.std.proofs.Common.{◌≡◌, ℕ, zero, suc, ◌+◌, ◌-◌, ◌<◌, ◌≤◌, List, [], ◌∷◌, ◌++◌, length, take, Option, None, Some, sym, ap, subst, ◌∙◌, arith, length-append, append_assoc, append-nil, take_all}
use Rattle.std.specs.Prelude.{IfSome}
use Rattle.ram_io.specs.{Outgoing}
use Rattle.server_hub.specs.declared.HubEvent.{HubEvent}
use Rattle.server_hub.specs.Served.{Served}
use Rattle.trace_loop.specs.journal_book.{behind, event_lines, sent_for}
use Rattle.trace_loop.specs.declared.Stop.{Stop}
use Rattle.serve_loop.specs.{Begun, Broken, HasRoom, Room}
use Rattle.serve_loop.proofs.Rooms.{room_for, room_split}
use Rattle.serve_loop.proofs.Steps.{broken_more}
use Rattle.takeover.specs.takeover_loop.{DoesWithin}

-- the first of two lists, and as many of the second as may come then
pub take_append : {A : Type 0} (k : ℕ) (xs ys : List A) → take k (xs ++ ys) ≡ take k xs ++ take (k - length xs) ys
take_append zero xs ys = let same : 0 ≡ 0 - length xs = omega arith in ap (λ n. take n ys) same
take_append (suc k) [] ys = let same : suc k ≡ suc k - 0 = omega arith in ap (λ n. take n ys) same
take_append {A} (suc k) (x ∷ xs) ys =
    let same : k - length xs ≡ suc k - length (x ∷ xs) = omega arith in
    ap (λ (l : List A). x ∷ l) (take_append k xs ys ∙ ap (λ n. take k xs ++ take n ys) same)

-- none may come
pub none_left : {A : Type 0} (k : ℕ) (xs : List A) → k ≡ 0 → take k xs ≡ []
none_left k xs none = ap (λ n. take n xs) none

-- where they all may come
pub all_within : {A : Type 0} (k : ℕ) (xs : List A) → length xs ≤ k → take k xs ≡ xs
all_within k xs less = take_all k xs less

-- one may come
pub one_within : {A : Type 0} (k : ℕ) (x : A) → (k ≡ 0 → ⊥) → take k (x ∷ []) ≡ x ∷ []
one_within k x some = all_within k (x ∷ []) (let less : 1 ≤ k = omega (arith, some) in less)

-- what is done of the first and then of the second
pub does_both : (xs ys : List HubEvent) (left mid : ℕ) (o : Option ℕ) → mid + length xs ≡ left → DoesWithin ys mid o → DoesWithin (xs ++ ys) left o
does_both xs ys left mid None first second = omega (arith, first, second, length-append xs ys)
does_both xs ys left mid (Some after) first second = omega (arith, first, second, length-append xs ys)

pub done_both : {A : Type 0} (xs ys : List A) (left mid : ℕ) → mid + length xs ≡ left → take left (xs ++ ys) ≡ xs ++ take mid ys
done_both xs ys left mid first =
    let fits : length xs ≤ left = omega (arith, first) in
    let rest : left - length xs ≡ mid = omega (arith, first) in
    take_append left xs ys ∙ ap (λ l. l ++ take (left - length xs) ys) (all_within left xs fits) ∙ ap (λ n. xs ++ take n ys) rest

-- the first has one too many
pub done_first : {A : Type 0} (xs ys : List A) (left : ℕ) → left < length xs → take left (xs ++ ys) ≡ take left xs
done_first xs ys left less =
    let rest : left - length xs ≡ 0 = omega (arith, less) in
    take_append left xs ys ∙ ap (λ n. take left xs ++ take n ys) rest ∙ append-nil (take left xs)

-- a server that stopped among the first
pub breaks_first : (b : Begun) (events xs ys : List HubEvent) (left : ℕ) (holds : Option (List ℕ)) (waits : List ℕ) (sent : Option (List Outgoing)) (stop : Stop)
    → Broken b (events ++ take left xs) holds waits sent stop → Broken b (events ++ take left (xs ++ ys)) holds waits sent stop
breaks_first b events xs ys left holds waits sent stop broken =
    subst (λ (es : List HubEvent). Broken b es holds waits sent stop) (append_assoc events (take left xs) (take (left - length xs) ys) ∙ ap (λ (l : List HubEvent). events ++ l) (sym (take_append left xs ys)))
    (broken_more b (events ++ take left xs) (take (left - length xs) ys) holds waits sent stop broken)

-- room for as many as may come of both is room for the first, beside that for the others
module _ (sink : ℕ → Type 0) (wire : ℕ → ℕ → Type 0) (waits : List ℕ) (port : ℕ) (channels : List Served) where
  pub room_first : (xs ys : List HubEvent) (left : ℕ) (more : Room) → HasRoom sink wire (waits ++ event_lines (take left (xs ++ ys))) (sent_for port channels (take left (xs ++ ys))) more
      → HasRoom sink wire (waits ++ event_lines (take left xs)) (sent_for port channels (take left xs)) (room_for port (behind (take left xs) channels) (take (left - length xs) ys) more)
  room_first xs ys left more h =
      room_split sink wire waits port channels (take left xs) (take (left - length xs) ys) more
      (subst (λ (es : List HubEvent). HasRoom sink wire (waits ++ event_lines es) (sent_for port channels es) more) (take_append left xs ys) h)

  -- none of them needs room
  pub room_done : (events done : List HubEvent) (more : Room) → events ≡ done → HasRoom sink wire (waits ++ event_lines events) (sent_for port channels events) more → HasRoom sink wire (waits ++ event_lines done) (sent_for port channels done) more
  room_done events done more is h = subst (λ (es : List HubEvent). HasRoom sink wire (waits ++ event_lines es) (sent_for port channels es) more) is h

-- what was done of the first, and then of the second
pub regroup : (events xs ys : List HubEvent) (left mid : ℕ) → mid + length xs ≡ left → (events ++ take left xs) ++ take mid ys ≡ events ++ take left (xs ++ ys)
regroup events xs ys left mid first =
    let fits : length xs ≤ left = omega (arith, first) in
    append_assoc events (take left xs) (take mid ys) ∙ ap (λ (l : List HubEvent). events ++ (l ++ take mid ys)) (all_within left xs fits) ∙ ap (λ (l : List HubEvent). events ++ l) (sym (done_both xs ys left mid first))

-- what an answer tells that is there, and one that isn't
pub some_is : {A : Type 0} (o : Option A) (x : A) (P : A → Type 0) → o ≡ Some x → IfSome o P → P x
some_is o x P is h = subst (λ (p : Option _). IfSome p P) is h

pub some_done : (o : Option ℕ) (after : ℕ) (events : List HubEvent) (left : ℕ) → o ≡ Some after → DoesWithin events left o → after + length events ≡ left
some_done o after events left is h = subst (DoesWithin events left) is h

pub none_done : (o : Option ℕ) (events : List HubEvent) (left : ℕ) → o ≡ None → DoesWithin events left o → left < length events
none_done o events left is h = subst (DoesWithin events left) is h
