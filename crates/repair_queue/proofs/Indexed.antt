-- What one more pair and one less do to the index.
use Rattle.std.proofs.Common.{◌≡◌, ℕ, ◌+◌, ◌-◌, ◌<◌, ◌≤◌, Bool, true, false, cond, not, ◌||◌, ◌&&◌, nat_eq, List, [], ◌∷◌, ◌++◌, length, take, drop, get_or, refl, ap, sym, ◌∙◌, arith, append-nil}
use Rattle.std.proofs.lemmas.List.{drop_more, take_more}
use Rattle.std.proofs.lemmas.List.Elements.{filter-append}
use Rattle.std.specs.List.{list_any, filter}
use Rattle.std.proofs.lemmas.Bool.Decides.{nat_tests}
use Rattle.rams_model.specs.Service.{Wanted, wanted, is_wanted}
use Rattle.repair_queue.specs.{is_of, count_of, without, AreOnce}
use Rattle.repair_queue.proofs.Pending.{filter_push, same_repair, none_there}

module _ (p : Wanted → Bool) where
  -- one in the middle
  pub filter_middle : (front back : List Wanted) (w : Wanted) → length (filter p (front ++ w ∷ back)) ≡ length (filter p (front ++ back)) + cond (p w) 1 0
  filter_middle [] back w = grind arith
  filter_middle (v ∷ front) back w = grind (arith, filter_middle front back w)

  pub any_middle : (front back : List Wanted) (w : Wanted) → list_any p (front ++ w ∷ back) ≡ (p w || list_any p (front ++ back))
  any_middle [] back w = refl
  any_middle (v ∷ front) back w = grind (arith, any_middle front back w)

  -- where none counts none passes
  pub none_counts : (ws : List Wanted) → length (filter p ws) ≡ 0 → list_any p ws ≡ false
  none_counts [] h = refl
  none_counts (w ∷ ws) h = grind (arith, none_counts ws)

  pub filter_append : (front back : List Wanted) → length (filter p (front ++ back)) ≡ length (filter p front) + length (filter p back)
  filter_append [] back = omega arith
  filter_append (v ∷ front) back = grind (arith, filter_append front back)

one_more : (b : Bool) → b ≡ true → (n : ℕ) → n ≡ cond b 1 0 → 1 ≤ n
one_more b same n is = grind arith

-- a pair that is pending once is gone without its repair; the others stay
pub pair_less : (client n k m : ℕ) (front back : List Wanted) (b was : Bool) → is_wanted k m (wanted client n) ≡ b → AreOnce (front ++ wanted client n ∷ back)
    → was ≡ list_any (is_wanted k m) (front ++ wanted client n ∷ back) → (not b && was) ≡ list_any (is_wanted k m) (front ++ back)
pair_less client n k m front back true was same once is =
    sym (none_counts (is_wanted k m) (front ++ back) (omega (arith, once k m, filter_middle (is_wanted k m) front back (wanted client n), one_more (is_wanted k m (wanted client n)) same _ refl)))
pair_less client n k m front back false was same once is =
    is ∙ (any_middle (is_wanted k m) front back (wanted client n) ∙ ap (λ (b : Bool). b || list_any (is_wanted k m) (front ++ back)) same)

count_less_by : (b : Bool) (was all rest one len : ℕ) → one ≡ cond b 1 0 → all ≡ rest + one → was ≡ all + cond b len 0 → was ≡ rest + cond b (len + 1) 0
count_less_by true was all rest one len same more is = omega arith
count_less_by false was all rest one len same more is = omega arith

-- the run has one more of its client, or is at an end
pub count_less : (client n k run len : ℕ) (front back : List Wanted) (was : ℕ) → client ≡ run → was ≡ count_of k (front ++ wanted client n ∷ back) + cond (nat_eq run k) len 0 → was ≡ count_of k (front ++ back) + cond (nat_eq run k) (len + 1) 0
count_less client n k run len front back was same is =
    count_less_by (nat_eq run k) _ _ _ _ len (ap (λ (c : ℕ). cond (nat_eq c k) 1 0) same) (filter_middle (is_of k) front back (wanted client n)) is

pub count_ended : (client n k run len : ℕ) (front back : List Wanted) (was is : ℕ) → was ≡ count_of k (front ++ wanted client n ∷ back) + cond (nat_eq run k) len 0 → is ≡ was - cond (nat_eq run k) len 0 → is ≡ count_of k (front ++ back) + cond (nat_eq client k) 1 0
count_ended client n k run len front back was is owes ended = omega (arith, filter_middle (is_of k) front back (wanted client n))

pub rest_is : (ws : List Wanted) (i : ℕ) (w : Wanted) → i < length ws → get_or ws i w ≡ w → drop i ws ≡ w ∷ drop (i + 1) ws
rest_is ws i w lt at = drop_more ws i w lt ∙ ap (λ (x : Wanted). x ∷ drop (i + 1) ws) at

-- the first and one more of the client, without the client's
pub without_more : (client i : ℕ) (ws : List Wanted) (w : Wanted) → i < length ws → w ≡ get_or ws i w → w.client ≡ client → without client (take (i + 1) ws) ≡ without client (take i ws)
without_more client i ws w lt at of =
    let p : Wanted → Bool = λ v. not (is_of client v) in
    let isnt : p w ≡ false = grind (arith, nat_tests) in
    ap (filter p) (take_more ws i w lt ∙ ap (λ (x : Wanted). take i ws ++ x ∷ []) (sym at))
    ∙ (filter-append p (take i ws) (w ∷ []) ∙ (ap (λ (b : Bool). filter p (take i ws) ++ cond b (w ∷ []) []) isnt ∙ append-nil (filter p (take i ws))))

pair_put : (b was : Bool) → cond b true was ≡ (b || was)
pair_put true was = refl
pair_put false was = refl

-- one more pair
pub pair_more : (client n k m : ℕ) (ws : List Wanted) (b was is : Bool) → is_wanted k m (wanted client n) ≡ b → was ≡ list_any (is_wanted k m) ws → is ≡ cond b true was → is ≡ list_any (is_wanted k m) (ws ++ wanted client n ∷ [])
pair_more client n k m ws b was is same indexed put =
    let p = is_wanted k m in
    put ∙ (pair_put b was ∙ (ap (λ (a : Bool). b || a) (indexed ∙ ap (list_any p) (sym (append-nil ws))) ∙ (ap (λ (a : Bool). a || list_any p (ws ++ [])) (sym same) ∙ sym (any_middle p ws [] (wanted client n)))))

-- a pair that was put in and taken out again, which wasn't there
pub pair_back : (client n k m : ℕ) (ws : List Wanted) (b was is then : Bool) → is_wanted k m (wanted client n) ≡ b → list_any (is_wanted client n) ws ≡ false
    → was ≡ list_any (is_wanted k m) ws → is ≡ cond b true was → then ≡ (not b && is) → then ≡ list_any (is_wanted k m) ws
pair_back client n k m ws true was is then same new indexed put taken =
    let both = same_repair client n k m same in
    taken ∙ sym (none_there client n k m ws both.0 both.1 new)
pair_back client n k m ws false was is then same new indexed put taken = taken ∙ (put ∙ indexed)

-- one more of the client
pub count_more : (client n k : ℕ) (ws : List Wanted) → count_of k ws + cond (nat_eq client k) 1 0 ≡ count_of k (ws ++ wanted client n ∷ [])
count_more client n k ws = sym (filter_push (is_of k) ws (wanted client n))
