-- What one repair more or some repairs less do to the pending ones.
use Rattle.std.proofs.Common.{◌≡◌, ℕ, ◌+◌, ◌<◌, ◌≤◌, Bool, true, false, cond, not, List, [], ◌∷◌, ◌++◌, length, refl, ap, subst, arith, length-append}
use Rattle.std.specs.List.{list_any, filter, AllByRecursion as Each}
use Rattle.std.proofs.lemmas.Bool.{cond_both}
use Rattle.std.proofs.lemmas.Bool.Decides.{nat_tests}
use Rattle.rams_model.specs.Service.{Wanted, wanted, is_wanted}
use Rattle.repair_queue.specs.declared.{wanted.TheConstants.MOST_PENDING, wanted.Asked.TheVariants.Queued}
use Rattle.repair_queue.specs.{is_of, count_of, asked_of, unmarked, without, IsWithinLimits}

module _ (p : Wanted → Bool) where
  pub length-filter-le : (ws : List Wanted) → length (filter p ws) ≤ length ws
  length-filter-le [] = omega arith
  length-filter-le (w ∷ ws) = grind (arith, length-filter-le ws)

  -- one more behind the others counts where it passes
  pub filter_push : (ws : List Wanted) (w : Wanted) → length (filter p (ws ++ w ∷ [])) ≡ length (filter p ws) + cond (p w) 1 0
  filter_push [] w = grind arith
  filter_push (v ∷ ws) w = grind (arith, filter_push ws w)

  -- none counts where none passes
  pub filter_none : (ws : List Wanted) → list_any p ws ≡ false → length (filter p ws) ≡ 0
  filter_none [] h = refl
  filter_none (w ∷ ws) h = grind (arith, filter_none ws)

  pub filter-filter-le : (q : Wanted → Bool) (ws : List Wanted) → length (filter p (filter q ws)) ≤ length (filter p ws)
  filter-filter-le q [] = omega arith
  filter-filter-le q (w ∷ ws) = grind (arith, filter-filter-le q ws)

  pub filter-unmarked-le : (ws : List Wanted) (done : List Bool) → length (filter p (unmarked ws done)) ≤ length (filter p ws)
  filter-unmarked-le [] done = omega arith
  filter-unmarked-le (w ∷ ws) [] = omega arith
  filter-unmarked-le (w ∷ ws) (true ∷ done) = grind (arith, filter-unmarked-le ws done)
  filter-unmarked-le (w ∷ ws) (false ∷ done) = grind (arith, filter-unmarked-le ws done)

pub length-unmarked-le : (ws : List Wanted) (done : List Bool) → length (unmarked ws done) ≤ length ws
length-unmarked-le [] done = omega arith
length-unmarked-le (w ∷ ws) [] = omega arith
length-unmarked-le (w ∷ ws) (true ∷ done) = omega (arith, length-unmarked-le ws done)
length-unmarked-le (w ∷ ws) (false ∷ done) = omega (arith, length-unmarked-le ws done)

-- some less keep the limits
pub limits_less : (ws vs : List Wanted) → IsWithinLimits ws → ((p : Wanted → Bool) → length (filter p vs) ≤ length (filter p ws)) → length vs ≤ length ws → IsWithinLimits vs
limits_less ws vs limits less shorter = record {
  once = λ client n. omega (arith, limits.once client n, less (is_wanted client n));
  of_client = λ client. omega (arith, limits.of_client client, less (is_of client));
  in_all = omega (arith, limits.in_all, shorter);
}

pub limits_unmarked : (ws : List Wanted) (done : List Bool) → IsWithinLimits ws → IsWithinLimits (unmarked ws done)
limits_unmarked ws done limits = limits_less ws (unmarked ws done) limits (λ p. filter-unmarked-le p ws done) (length-unmarked-le ws done)

pub limits_without : (client : ℕ) (ws : List Wanted) → IsWithinLimits ws → IsWithinLimits (without client ws)
limits_without client ws limits =
    limits_less ws (without client ws) limits (λ p. filter-filter-le p (λ w. not (is_of client w)) ws) (length-filter-le (λ w. not (is_of client w)) ws)

-- a test for a pair that the repair passes is the test for the repair
pub same_repair : (client n k m : ℕ) → is_wanted k m (wanted client n) ≡ true → (client ≡ k) × (n ≡ m)
same_repair client n k m h = (grind (arith, nat_tests), grind (arith, nat_tests))

pub none_there : (client n k m : ℕ) (ws : List Wanted) → client ≡ k → n ≡ m → list_any (is_wanted client n) ws ≡ false → list_any (is_wanted k m) ws ≡ false
none_there client n k m ws same_client same_n new = subst (λ (j : ℕ). list_any (is_wanted j m) ws ≡ false) same_client (subst (λ (j : ℕ). list_any (is_wanted client j) ws ≡ false) same_n new)

once_step : (b : Bool) (client n k m : ℕ) (ws : List Wanted) → is_wanted k m (wanted client n) ≡ b → list_any (is_wanted client n) ws ≡ false → length (filter (is_wanted k m) ws) ≤ 1 → length (filter (is_wanted k m) ws) + cond b 1 0 ≤ 1
once_step true client n k m ws same new once =
    let both = same_repair client n k m same in
    omega (arith, filter_none (is_wanted k m) ws (none_there client n k m ws both.0 both.1 new))
once_step false client n k m ws same new once = omega arith

few_step : (b : Bool) (client n k : ℕ) (ws : List Wanted) → is_of k (wanted client n) ≡ b → count_of client ws < 256 → count_of k ws ≤ 256 → count_of k ws + cond b 1 0 ≤ 256
few_step true client n k ws same few limit =
    let same_client : client ≡ k = grind (arith, nat_tests) in
    omega (arith, subst (λ (j : ℕ). count_of j ws < 256) same_client few)
few_step false client n k ws same few limit = omega arith

-- one more that Already, ClientFull and QueueFull don't answer
pub limits_push : (client n : ℕ) (ws : List Wanted) → list_any (is_wanted client n) ws ≡ false → count_of client ws < 256 → length ws < MOST_PENDING → IsWithinLimits ws → IsWithinLimits (ws ++ wanted client n ∷ [])
limits_push client n ws new few short limits = record {
  once = λ k m. rw (filter_push (is_wanted k m) ws (wanted client n)) (once_step (is_wanted k m (wanted client n)) client n k m ws refl new (limits.once k m));
  of_client = λ k. rw (filter_push (is_of k) ws (wanted client n)) (few_step (is_of k (wanted client n)) client n k ws refl few (limits.of_client k));
  in_all = omega (arith, length-append ws (wanted client n ∷ []));
}

-- what is true where the answer to an ask is `Queued`
pub record IsQueued (ws : List Wanted) (client n : ℕ) : Type 0 where
  pub new : list_any (is_wanted client n) ws ≡ false
  pub few : count_of client ws < 256
  pub short : length ws < MOST_PENDING

pub queued : (ws : List Wanted) (client n : ℕ) → asked_of ws client n ≡ Queued → IsQueued ws client n
queued ws client n is = record {
  new = grind (arith, nat_tests);
  few = grind (arith, nat_tests);
  short = grind (arith, nat_tests);
}

-- where none is marked all stay
pub unmarked_none : (ws : List Wanted) (done : List Bool) → list_any (λ is_done. is_done) done ≡ false → unmarked ws done ≡ ws
unmarked_none [] done h = refl
unmarked_none (w ∷ ws) [] h = refl
unmarked_none (w ∷ ws) (true ∷ done) h = cc
unmarked_none (w ∷ ws) (false ∷ done) h = ap (λ (vs : List Wanted). w ∷ vs) (unmarked_none ws done h)

-- where the client waits for none all stay
pub without_none : (client : ℕ) (ws : List Wanted) → count_of client ws ≡ 0 → without client ws ≡ ws
without_none client [] h = refl
without_none client (w ∷ ws) h = grind (arith, without_none client ws)

-- what is true of each is true of some of them
module _ (P : Wanted → Type 0) where
  pub each_filtered : (p : Wanted → Bool) (ws : List Wanted) → Each P ws → Each P (filter p ws)
  each_filtered p [] all = tt
  each_filtered p (w ∷ ws) all = cond_both (p w) (w ∷ filter p ws) (filter p ws) (Each P) (λ t. (all.0, each_filtered p ws all.1)) (λ f. each_filtered p ws all.1)

  pub each_unmarked : (ws : List Wanted) (done : List Bool) → Each P ws → Each P (unmarked ws done)
  each_unmarked [] done all = tt
  each_unmarked (w ∷ ws) [] all = all
  each_unmarked (w ∷ ws) (true ∷ done) all = each_unmarked ws done all.1
  each_unmarked (w ∷ ws) (false ∷ done) all = (all.0, each_unmarked ws done all.1)
