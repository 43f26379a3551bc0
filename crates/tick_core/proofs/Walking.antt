-- Going through the known clients, by rising number.
use Rattle.std.proofs.Common.{All, ◌≡◌, ℕ, ◌<◌, Bool, true, false, cond, ⊎_elim, IsSome, List, [], ◌∷◌, Option, Some, None, is_some, filter, eqb, refl, ap, sym, ◌∙◌, subst}
use Rattle.std.specs.List.{AllByRecursion}
use Rattle.std.specs.Map.{keys_of}
use Rattle.std.specs.Ordering.{nat_cmp}
use Rattle.std.specs.declared.cmp.Ordering.TheVariants.{Less}
use Rattle.std.specs.List.Sorted.{IsStrictlySortedBy}
use Rattle.std.proofs.lemmas.Bool.{cond_both, cond-true, cond-false, cases_Bool, eqb-true, eq-eqb}
use Rattle.std.proofs.lemmas.List.Elements.{All-head, All-rest, All-same}
use Rattle.std.proofs.lemmas.Map.Keys.{sorted_head, sorted_tail}
use Rattle.client_table.specs.declared.{Entry.Entry, Burst.Burst}
use Rattle.client_table.specs.{entry_of, opened_of}
use Rattle.client_table.specs.Clients.{Clients}
use Rattle.client_table.proofs.Opened.{below}
use Rattle.rams_model.specs.declared.Held.{Held}
use Rattle.rams_model.specs.Service.{Settings, is_lost}
use Rattle.tick_core.specs.declared.allowance.Allowance.{Allowance}
use Rattle.tick_draft.specs.{Drafted}
use Rattle.tick_core.specs.{Rise, clients_of, allowance_of, allowances_of, with_served, with_all_served}

-- one more client was served
pub served_turn : (s : Settings) (held : List Held) (e : ℕ × Entry) (es rest : List (ℕ × Entry)) (d d2 end : Drafted) → es ≡ e ∷ rest → d2 ≡ with_served s held e.0 e.1 e.1.burst d
    → with_all_served s held es d ≡ end → with_all_served s held rest d2 ≡ end
unfolding with_all_served
served_turn s held e es rest d d2 end split made so_far = ap (with_all_served s held rest) made ∙ (ap (λ (l : List (ℕ × Entry)). with_all_served s held l d) (sym split) ∙ so_far)

-- all were served
pub served_end : (s : Settings) (held : List Held) (es : List (ℕ × Entry)) (d end : Drafted) → es ≡ [] → with_all_served s held es d ≡ end → d ≡ end
unfolding with_all_served
served_end s held es d end none so_far = ap (λ (l : List (ℕ × Entry)). with_all_served s held l d) (sym none) ∙ so_far

-- those without a burst aren't served
unserved : (s : Settings) (held : List Held) (k : ℕ) (e : Entry) (o : Option Burst) (d : Drafted) → is_some o ≡ false → with_served s held k e o d ≡ d
unserved s held k e None d closed = refl
unserved s held k e (Some b) d closed = cc

served_open : (s : Settings) (held : List Held) (es : List (ℕ × Entry)) (d : Drafted) → with_all_served s held (filter (λ e. is_some e.1.burst) es) d ≡ with_all_served s held es d
unfolding with_all_served
served_open s held [] d = refl
served_open s held (e ∷ es) d =
    cond_both (is_some e.1.burst) (e ∷ filter (λ e. is_some e.1.burst) es) (filter (λ e. is_some e.1.burst) es) (λ l. with_all_served s held l d ≡ with_all_served s held (e ∷ es) d)
    (λ t. served_open s held es (with_served s held e.0 e.1 e.1.burst d))
    (λ f. served_open s held es d ∙ sym (ap (with_all_served s held es) (unserved s held e.0 e.1 e.1.burst d f)))

-- nobody was served yet
pub served_start : (s : Settings) (held : List Held) (left : List (ℕ × Entry)) (t : Clients) (d : Drafted) → left ≡ opened_of t → with_all_served s held left d ≡ with_all_served s held t.known d
served_start s held left t d same = ap (λ (l : List (ℕ × Entry)). with_all_served s held l d) same ∙ served_open s held t.known d

-- the first of those that are left is found in the table
pub first_found : (t : Clients) (e : ℕ × Entry) (es rest : List (ℕ × Entry)) → es ≡ e ∷ rest → All (λ d. entry_of t d.0 ≡ Some d.1) es → entry_of t e.0 ≡ Some e.1
first_found t e es rest split found = All-head (λ d. entry_of t d.0 ≡ Some d.1) e rest (All-same (λ d. entry_of t d.0 ≡ Some d.1) (e ∷ rest) es (sym split) found)

-- so are the others
pub others_found : (t : Clients) (e : ℕ × Entry) (es rest : List (ℕ × Entry)) → es ≡ e ∷ rest → All (λ d. entry_of t d.0 ≡ Some d.1) es → All (λ d. entry_of t d.0 ≡ Some d.1) rest
others_found t e es rest split found = All-rest (λ d. entry_of t d.0 ≡ Some d.1) e rest es split found

pub all_found : (t : Clients) (left : List (ℕ × Entry)) → left ≡ opened_of t → All (λ d. entry_of t d.0 ≡ Some d.1) (opened_of t) → All (λ d. entry_of t d.0 ≡ Some d.1) left
all_found t left same found = All-same (λ d. entry_of t d.0 ≡ Some d.1) left (opened_of t) same found

-- an allowance is its client's
pub whose : (s : Settings) (held : List Held) (k : ℕ) (e : Entry) (o : Option Burst) → (allowance_of s held k e o).client ≡ k
whose s held k e None = refl
whose s held k e (Some b) = cond_both (is_lost b.next held) _ _ (λ (a : Allowance). a.client ≡ k) (λ t. refl) (λ f. refl)

pub whose_all : (s : Settings) (held : List Held) (es : List (ℕ × Entry)) → clients_of (allowances_of s held es) ≡ keys_of es
unfolding allowances_of
whose_all s held [] = refl
whose_all s held (e ∷ es) = ap (λ (k : ℕ). k ∷ clients_of (allowances_of s held es)) (whose s held e.0 e.1 e.1.burst) ∙ ap (λ (ks : List ℕ). e.0 ∷ ks) (whose_all s held es)

-- numbers that are sorted rise
each_above : (k : ℕ) (ks : List ℕ) → AllByRecursion (λ j. nat_cmp k j ≡ Less) ks → AllByRecursion (λ j. k < j) ks
each_above k [] sorted = tt
each_above k (j ∷ js) sorted = (below k j sorted.0, each_above k js sorted.1)

pub rise_sorted : (ks : List ℕ) → IsStrictlySortedBy nat_cmp ks → Rise ks
rise_sorted [] sorted = tt
rise_sorted (k ∷ ks) sorted = (each_above k ks (sorted_head nat_cmp k ks sorted), rise_sorted ks (sorted_tail nat_cmp k ks sorted))

-- ---- the allowances so far
-- each is that of a known client
abbrev pub AreTrue : Settings → List Held → Clients → (ℕ → Option Allowance) → Type 0
AreTrue s held t allowed = (k : ℕ) (a : Allowance) → allowed k ≡ Some a → (e : Entry) × (entry_of t k ≡ Some e) × (a ≡ allowance_of s held k e e.burst)

-- where those that are left have one too, all of these have one
abbrev pub LeadToAll : (ℕ → Option Allowance) → List (ℕ × Entry) → List (ℕ × Entry) → Type 0
LeadToAll allowed left es =
    (test : ℕ → Bool) → ((k : ℕ) → IsSome (allowed k) → test k ≡ true) → AllByRecursion (λ e. test e.0 ≡ true) left → AllByRecursion (λ e. test e.0 ≡ true) es

module _ (allowed now : ℕ → Option Allowance) (k : ℕ) (a : Allowance) (puts : (j : ℕ) → now j ≡ cond (eqb k j) (Some a) (allowed j)) where
  pub true_more : (s : Settings) (held : List Held) (t : Clients) (e : Entry) → entry_of t k ≡ Some e → a ≡ allowance_of s held k e e.burst → AreTrue s held t allowed → AreTrue s held t now
  true_more s held t e found is each = λ j b has.
      ⊎_elim
      (λ (u : eqb k j ≡ true).
      let same : k ≡ j = eqb-true k j u in
      let put : Some b ≡ Some a = sym has ∙ (puts j ∙ cond-true (eqb k j) (Some a) (allowed j) u) in
      let b_is : b ≡ a = cc in
      (e, ap (entry_of t) (sym same) ∙ found, b_is ∙ (is ∙ ap (λ (n : ℕ). allowance_of s held n e e.burst) same)))
      (λ f. each j b (sym (puts j ∙ cond-false (eqb k j) (Some a) (allowed j) f) ∙ has))
      (cases_Bool (eqb k j))

  put_some : (j : ℕ) (o : Option Allowance) (b : Bool) → eqb k j ≡ b → now j ≡ cond b (Some a) o → IsSome o → IsSome (now j)
  put_some j o true is put some = subst IsSome (sym put) refl
  put_some j o false is put some = subst IsSome (sym put) some

  pub all_more : (x : ℕ × Entry) (left rest es : List (ℕ × Entry)) → left ≡ x ∷ rest → x.0 ≡ k → LeadToAll allowed left es → LeadToAll now rest es
  all_more x left rest es split own leads = λ test has all.
      leads test (λ j some. has j (put_some j (allowed j) (eqb k j) refl (puts j) some))
      (subst (AllByRecursion (λ e. test e.0 ≡ true)) (sym split)
      (has x.0 (subst IsSome (sym (puts x.0 ∙ cond-true (eqb k x.0) (Some a) (allowed x.0) (eq-eqb k x.0 (sym own)))) refl), all))

pub all_begin : (allowed : ℕ → Option Allowance) (left es : List (ℕ × Entry)) → left ≡ es → LeadToAll allowed left es
all_begin allowed left es same = λ test has all. subst (AllByRecursion (λ e. test e.0 ≡ true)) same all

some_is : (o : Option Allowance) → is_some o ≡ true → IsSome o
some_is None t = cc
some_is (Some a) t = refl

is_some_of : (o : Option Allowance) → IsSome o → is_some o ≡ true
is_some_of None some = cc
is_some_of (Some a) some = refl

each_is_some : (allowed : ℕ → Option Allowance) (es : List (ℕ × Entry)) → AllByRecursion (λ e. is_some (allowed e.0) ≡ true) es → AllByRecursion (λ e. IsSome (allowed e.0)) es
each_is_some allowed [] all = tt
each_is_some allowed (e ∷ es) all = (some_is (allowed e.0) all.0, each_is_some allowed es all.1)

pub all_end : (allowed : ℕ → Option Allowance) (left es : List (ℕ × Entry)) → left ≡ [] → LeadToAll allowed left es → AllByRecursion (λ e. IsSome (allowed e.0)) es
all_end allowed left es none leads =
    each_is_some allowed es (leads (λ k. is_some (allowed k)) (λ k some. is_some_of (allowed k) some) (subst (AllByRecursion (λ e. is_some (allowed e.0) ≡ true)) (sym none) tt))

pub none_true : (s : Settings) (held : List Held) (t : Clients) (allowed : ℕ → Option Allowance) → ((k : ℕ) → allowed k ≡ None) → AreTrue s held t allowed
none_true s held t allowed none = λ k a has. let clash : Some a ≡ None = sym has ∙ none k in absurd cc
