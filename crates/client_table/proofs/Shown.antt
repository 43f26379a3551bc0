-- What a table shows, and what each call makes of it.
use Rattle.std.proofs.Common.{◌≡◌, ℕ, Bool, List, Option, Some, None, MatchOption, Result, Ok, Err, ◌<◌, ◌≤◌, ◌+◌, refl, true, false, if◌then◌else◌, length, ap, sym, ◌∙◌, subst, arith}
use Rattle.std.specs.Result.{IsErrAnd}
use Rattle.client_table.specs.declared.{entry.AdmitFault.AdmitFault, entry.Entry.Entry}
use Rattle.client_table.specs.declared.entry.AdmitFault.TheVariants.{Full, NoMemory}
use Rattle.client_table.specs.{clients_of, AreRising, entry_of, with_client, with_entry, without, changed, changed_by, joined, seen, AreJoined}
use Rattle.std.specs.Option.{option_and_then}
use Rattle.std.specs.Map.{keys_of, lookup, remove_entry}
use Rattle.std.specs.BTreeMap.{insert_entry, is_at}
use Rattle.std.specs.Ordering.{nat_cmp}
use Rattle.std.specs.List.Sorted.{IsStrictlySortedBy}
use Rattle.client_table.specs.Clients.{Clients}
use Rattle.client_table.proofs.Found.{keys-joined, length-joined, lookup-joined}
use Rattle.client_table.proofs.Changed.{SameElsewhere, free_key, joined_set, joined_insert, joined_remove, remove_none, set_none, none_and_some, found_some}

module _ (most : ℕ) (at : ℕ → Option Entry) (es : List (ℕ × ℕ)) (t : Clients) (shows : seen most at es ≡ t) (joins : AreJoined at es) where
  pub shown_entry : (client : ℕ) → option_and_then at (lookup (is_at (nat_cmp client)) es) ≡ entry_of t client
  shown_entry client = sym (lookup-joined at (is_at (nat_cmp client)) es joins) ∙ ap (λ (u : Clients). entry_of u client) shows

  pub shown_count : length es ≡ length t.known
  shown_count = sym (length-joined at es joins) ∙ ap (λ (u : Clients). length u.known) shows

  pub shown_most : most ≡ t.most
  shown_most = ap (λ (u : Clients). u.most) shows

  pub shown_clients : keys_of es ≡ clients_of t
  shown_clients = sym (keys-joined at es joins) ∙ ap clients_of shows

  pub shown_rising : IsStrictlySortedBy nat_cmp (keys_of es) → AreRising t
  shown_rising rising = subst (λ (ks : List ℕ). IsStrictlySortedBy nat_cmp ks) shown_clients rising

  -- a client that isn't known goes
  pub shown_absent : (client : ℕ) (left : List (ℕ × ℕ)) → None ≡ lookup (is_at (nat_cmp client)) es → left ≡ es → seen most at left ≡ without t client
  shown_absent client left none same =
      let unknown : lookup (is_at (nat_cmp client)) (joined at es) ≡ None =
      lookup-joined at (is_at (nat_cmp client)) es joins ∙ ap (option_and_then at) (sym none) in
      ap (seen most at) same
      ∙ (ap (λ (known : List (ℕ × Entry)). record { most = most; known = known }) (sym (remove_none (is_at (nat_cmp client)) (joined at es) unknown))
      ∙ ap (λ (u : Clients). without u client) shows)

  -- a client that isn't known has no key
  pub unknown_key : (client : ℕ) → entry_of t client ≡ None → lookup (is_at (nat_cmp client)) es ≡ None
  unknown_key client unknown = no_key (lookup (is_at (nat_cmp client)) es) refl
    where
      no_key : (o : Option ℕ) → lookup (is_at (nat_cmp client)) es ≡ o → lookup (is_at (nat_cmp client)) es ≡ None
      no_key None is = is
      no_key (Some key) is =
          absurd (none_and_some (at key) (sym (ap (option_and_then at) is) ∙ (shown_entry client ∙ unknown)) (found_some at (is_at (nat_cmp client)) key es joins is))

  -- another entry for a client that isn't known changes nothing
  pub shown_unset : (client : ℕ) (entry : Entry) → None ≡ lookup (is_at (nat_cmp client)) es → t ≡ with_entry t client entry
  shown_unset client entry none =
      let unknown : entry_of t client ≡ None = sym (shown_entry client) ∙ ap (option_and_then at) (sym none) in
      ap (λ (known : List (ℕ × Entry)). record { most = t.most; known = known }) (sym (set_none (is_at (nat_cmp client)) t.known entry unknown))

  module _ (now : ℕ → Option Entry) (key : ℕ) (elsewhere : SameElsewhere at now key) (client : ℕ) where
    -- a known client goes
    pub shown_removed : (left : List (ℕ × ℕ)) → Some key ≡ lookup (is_at (nat_cmp client)) es → left ≡ remove_entry (is_at (nat_cmp client)) es → seen most now left ≡ without t client
    shown_removed left found rest =
        ap (seen most now) rest
        ∙ (ap (λ (known : List (ℕ × Entry)). record { most = most; known = known }) (joined_remove at now key elsewhere (is_at (nat_cmp client)) es joins (sym found))
        ∙ ap (λ (u : Clients). without u client) shows)

    -- a client comes
    pub shown_admitted : (entry : Entry) (more : List (ℕ × ℕ)) → now key ≡ Some entry → at key ≡ None → entry_of t client ≡ None → more ≡ insert_entry nat_cmp es client key
        → seen most now more ≡ with_client t client entry
    shown_admitted entry more is_now vacant unknown all =
        let unknown_here : lookup (is_at (nat_cmp client)) (joined at es) ≡ None = subst (λ (u : Clients). entry_of u client ≡ None) (sym shows) unknown in
        ap (seen most now) all
        ∙ (ap (λ (known : List (ℕ × Entry)). record { most = most; known = known }) (joined_insert at now key elsewhere client entry is_now es joins (free_key at key vacant es joins) unknown_here)
        ∙ ap (λ (u : Clients). with_client u client entry) shows)

    -- another entry for a known client
    pub shown_written : (entry : Entry) → now key ≡ Some entry → Some key ≡ lookup (is_at (nat_cmp client)) es → seen most now es ≡ with_entry t client entry
    shown_written entry is_now found =
        ap (λ (known : List (ℕ × Entry)). record { most = most; known = known }) (joined_set at now key elsewhere (is_at (nat_cmp client)) entry is_now es joins (sym found))
        ∙ ap (λ (u : Clients). with_entry u client entry) shows

not_both : (fault : AdmitFault) → fault ≡ NoMemory → fault ≡ Full → ⊥
not_both Full is same = cc
not_both NoMemory is same = cc

-- where memory ran out the table wasn't full
pub not_full : {T : Type 0} (r : Result T AdmitFault) (known most : ℕ) → IsErrAnd r (λ fault. fault ≡ NoMemory) → known < most → (r ≡ Err Full → known ≡ most) × (known ≡ most → r ≡ Err Full)
not_full (Ok done) known most fault fewer = absurd fault
not_full (Err was) known most fault fewer = (λ same. absurd (not_both was fault (cc)), λ all. absurd (omega arith))

-- one more client, or none, where there is room for one
pub one_more : (was : Bool) (n m most : ℕ) → m ≡ n + (if was then 0 else 1) → n < most → m ≤ most
one_more true n m most count room = omega arith
one_more false n m most count room = omega arith

-- what was done by whether a client was known
pub no_change : (A : Type 0) (P : Entry → Type 0) (o : Option Entry) → o ≡ None → A → MatchOption o A P
no_change A P None is a = a
no_change A P (Some e) is a = cc

pub one_change : (A : Type 0) (P : Entry → Type 0) (o : Option Entry) (e : Entry) → o ≡ Some e → P e → MatchOption o A P
one_change A P o e is p = subst (λ (x : Option Entry). MatchOption x A P) (sym is) p

-- where each entry becomes this one
pub set_by : (Q : Entry → Entry → Type 0) (o : Option Entry) (t u : Clients) (client : ℕ) (entry : Entry) → ((e d : Entry) → Q e d → d ≡ entry) → entry_of t client ≡ o
    → MatchOption o (u ≡ t) (λ e. (d : Entry) × Q e d × (u ≡ with_entry t client d)) → u ≡ with_entry t client entry
set_by Q None t u client entry makes is change = change ∙ ap (λ (known : List (ℕ × Entry)). record { most = t.most; known = known }) (sym (set_none (is_at (nat_cmp client)) t.known entry is))
set_by Q (Some e) t u client entry makes is change = change.2 ∙ ap (with_entry t client) (makes e change.0 change.1)

-- one client's entry
changed_one : (f : Entry → Entry) (Q : Entry → Entry → Type 0) (t u : Clients) (k : ℕ) (o : Option Entry) → ((e d : Entry) → Q e d → d ≡ f e)
    → MatchOption o (u ≡ t) (λ e. (d : Entry) × Q e d × (u ≡ with_entry t k d)) → u ≡ changed_by f t k o
changed_one f Q t u k None makes change = change
changed_one f Q t u k (Some e) makes change = change.2 ∙ ap (with_entry t k) (makes e change.0 change.1)

pub changed_so : (f : Entry → Entry) (Q : Entry → Entry → Type 0) (t u : Clients) (k : ℕ) → ((e d : Entry) → Q e d → d ≡ f e)
    → MatchOption (entry_of t k) (u ≡ t) (λ e. (d : Entry) × Q e d × (u ≡ with_entry t k d)) → u ≡ changed f t k
changed_so f Q t u k makes change = changed_one f Q t u k (entry_of t k) makes change
