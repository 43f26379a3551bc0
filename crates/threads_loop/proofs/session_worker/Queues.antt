-- One entry's datagrams are the next ones of its list.
use Rattle.std.proofs.Common.{◌≡◌, ◌≢◌, ℕ, ◌+◌, ◌<◌, ◌≤◌, ◌==◌, true, false, List, [], ◌∷◌, ◌++◌, get_or, set, map, length, take, drop, reverse, refl, sym, ap, ◌∙◌, subst, arith, inl, inr}
use Rattle.std.specs.Prelude.{◌⊎◌}
use Rattle.std.proofs.lemmas.Bool.{eq-eqb, cases_lt}
use Rattle.std.proofs.lemmas.Bool.Decides.{eqb_tells}
use Rattle.std.proofs.lemmas.List.{length-append, map-append, reverse-append, drop_more, take_more, get_or_past, get_or-set_same, get_or-set_other}
use Rattle.rams_model.specs.Service.{Settings}
use Rattle.channel_book.specs.declared.Entry.{Entry}
use Rattle.channel_book.specs.{calls_by}
use Rattle.threads_loop.specs.session_worker.live_writer.{datagrams_of}
use Rattle.threads_loop.specs.session_worker.{AreQueues, answered_with}

-- lists that end in one member are the same in front of it
last_same : {A : Type 0} (xs ys : List A) (x y : A) → xs ++ x ∷ [] ≡ ys ++ y ∷ [] → (xs ≡ ys) × (x ≡ y)
last_same [] [] x y e = (refl, cc)
last_same [] (b ∷ ys) x y e = absurd (omega (arith, ap length e, length-append ys (y ∷ [])))
last_same (a ∷ xs) [] x y e = absurd (omega (arith, ap length e, length-append xs (x ∷ [])))
last_same (a ∷ xs) (b ∷ ys) x y e =
    let tails : xs ++ x ∷ [] ≡ ys ++ y ∷ [] = cc in
    let heads : a ≡ b = cc in
    let rest = last_same xs ys x y tails in
    ((λ i. heads i ∷ rest.0 i), rest.1)

module _ (entries : List Entry) (k : ℕ) (e : Entry) (inside : k < length entries) (is : e ≡ get_or entries k e) where
  pub next_entry : drop k entries ≡ e ∷ drop (k + 1) entries
  next_entry = drop_more entries k e inside ∙ ap (λ (x : Entry). x ∷ drop (k + 1) entries) (sym is)

pub entries_more : (s : Settings) (entries : List Entry) (k : ℕ) (e : Entry) → k < length entries → e ≡ get_or entries k e
    → answered_with s (take (k + 1) entries) ≡ answered_with s (take k entries) ++ datagrams_of s e.answer ∷ []
entries_more s entries k e inside is =
    ap (answered_with s) (take_more entries k e inside ∙ ap (λ (x : Entry). take k entries ++ x ∷ []) (sym is)) ∙ map-append (λ (x : Entry). datagrams_of s x.answer) (take k entries) (e ∷ [])

module _ (s : Settings) (e : Entry) (later : List Entry) (queues : List (List (List (List ℕ)))) (q : AreQueues s (e ∷ later) queues) where
  own_calls : calls_by e.list (e ∷ later) ≡ e ∷ calls_by e.list later
  own_calls = rw (eq-eqb e.list e.list refl) refl

  other_calls : (list : ℕ) → (e.list == list) ≡ false → calls_by list (e ∷ later) ≡ calls_by list later
  other_calls list apart = rw apart refl

  own_queue : get_or queues e.list [] ≡ reverse (answered_with s (calls_by e.list later)) ++ datagrams_of s e.answer ∷ []
  own_queue = q.each e.list ∙ ap (λ l. reverse (answered_with s l)) own_calls ∙ reverse-append (datagrams_of s e.answer ∷ []) (answered_with s (calls_by e.list later))

  pub queue_inside : e.list < length queues
  queue_inside = inside (cases_lt e.list (length queues))
    where
      inside : (e.list < length queues) ⊎ (length queues ≤ e.list) → e.list < length queues
      inside (inl lt) = lt
      inside (inr le) =
          absurd (omega (arith, ap length (sym own_queue ∙ get_or_past queues e.list [] le), length-append (reverse (answered_with s (calls_by e.list later))) (datagrams_of s e.answer ∷ [])))

  pub queue_filled : 0 < length (get_or queues e.list [])
  queue_filled = omega (arith, ap length own_queue, length-append (reverse (answered_with s (calls_by e.list later))) (datagrams_of s e.answer ∷ []))

  pub next_drawn : (queue : List (List (List ℕ))) (d : List (List ℕ)) → get_or queues e.list [] ≡ queue ++ d ∷ [] → d ≡ datagrams_of s e.answer
  next_drawn queue d is = (last_same queue (reverse (answered_with s (calls_by e.list later))) d (datagrams_of s e.answer) (sym is ∙ own_queue)).1

  pub queues_later : (queue : List (List (List ℕ))) (d : List (List ℕ)) → get_or queues e.list [] ≡ queue ++ d ∷ [] → AreQueues s later (set queues e.list queue)
  queues_later queue d is = record { each = λ list. go list (eqb_tells e.list list) }
    where
      own : queue ≡ reverse (answered_with s (calls_by e.list later))
      own = (last_same queue (reverse (answered_with s (calls_by e.list later))) d (datagrams_of s e.answer) (sym is ∙ own_queue)).0

      go : (list : ℕ) → (((e.list == list) ≡ true) × (e.list ≡ list)) ⊎ (((e.list == list) ≡ false) × (e.list ≢ list)) → get_or (set queues e.list queue) list [] ≡ reverse (answered_with s (calls_by list later))
      go list (inl same) =
          subst (λ (n : ℕ). get_or (set queues e.list queue) n [] ≡ reverse (answered_with s (calls_by n later))) same.1 (get_or-set_same queues e.list queue [] queue_inside ∙ own)
      go list (inr apart) = get_or-set_other queues e.list list queue [] (λ x. apart.1 (sym x)) ∙ q.each list ∙ ap (λ l. reverse (answered_with s l)) (other_calls list apart.0)

-- the other way round
pub map_reversed : {A B : Type 0} (f : A → B) (xs : List A) → map f (reverse xs) ≡ reverse (map f xs)
map_reversed f [] = refl
map_reversed f (x ∷ xs) =
    ap (map f) (reverse-append (x ∷ []) xs) ∙ map-append f (reverse xs) (x ∷ []) ∙ ap (λ l. l ++ f x ∷ []) (map_reversed f xs) ∙ sym (reverse-append (f x ∷ []) (map f xs))
