-- That all known clients stand in time, after one was moved or a tick went by.
use Rattle.std.proofs.Common.{◌≡◌, ◌≢◌, ℕ, ◌+◌, ◌%◌, ◌<◌, ◌≤◌, Bool, true, false, cond, List, [], ◌∷◌, Option, Some, None, IsSome, IsSomeAnd, Contains, slice_set, unwrap_or, inl, inr, refl, ap, sym, ◌∙◌, subst, arith, ltb}
use Rattle.std.specs.Map.{lookup, keys_of}
use Rattle.std.specs.Option.{option_map, option_and_then}
use Rattle.std.specs.BTreeMap.{BTreeMap, Updates, is_at}
use Rattle.std.specs.Ordering.{nat_cmp}
use Rattle.std.proofs.lemmas.Bool.{cond-false, cases_Bool, cases_eq, ltb-true, ltb-false}
use Rattle.std.proofs.lemmas.Map.Views.{Contains-keys_from_lookup}
use Rattle.client_table.specs.declared.{due.Due.Due, entry.Entry.Entry, stored.Stored.Stored}
use Rattle.client_table.specs.{shown, slot_at, entry_at, IsFree, AreJoined, IsSlotChanged, AreSlotsChanged, has_pair, times_of, times_at, MovesOnly, GoesOn, IsInTime, AreInTime, AreLater}
use Rattle.client_table.proofs.Bounded.{shown_aged}
use Rattle.client_table.proofs.Changed.{SameElsewhere, other_key, none_and_some, found_some, written_here, put_others}
use Rattle.client_table.proofs.ChangedAll.{same_client}

some_weaker : {X : Type 0} (P Q : X → Type 0) (o : Option X) → ((x : X) → P x → Q x) → IsSomeAnd o P → IsSomeAnd o Q
some_weaker P Q None weaker is = is
some_weaker P Q (Some x) weaker is = weaker x is

-- ---- no two clients have one key
module _ (at : ℕ → Option Entry) (a b key : ℕ) where
  one_step : (s t : Bool) (e : ℕ × ℕ) (es : List (ℕ × ℕ)) → is_at (nat_cmp a) e.0 ≡ s → is_at (nat_cmp b) e.0 ≡ t → IsFree e.1 es
      → cond s (Some e.1) (lookup (is_at (nat_cmp a)) es) ≡ Some key → cond t (Some e.1) (lookup (is_at (nat_cmp b)) es) ≡ Some key
      → (lookup (is_at (nat_cmp a)) es ≡ Some key → lookup (is_at (nat_cmp b)) es ≡ Some key → a ≡ b) → a ≡ b
  one_step true true e es is_a is_b free at_a at_b later = sym (same_client a e.0 is_a) ∙ same_client b e.0 is_b
  one_step true false e es is_a is_b free at_a at_b later = absurd (other_key (is_at (nat_cmp b)) key e.1 es free at_b (cc))
  one_step false true e es is_a is_b free at_a at_b later = absurd (other_key (is_at (nat_cmp a)) key e.1 es free at_a (cc))
  one_step false false e es is_a is_b free at_a at_b later = later at_a at_b

  pub one_key : (es : List (ℕ × ℕ)) → AreJoined at es → lookup (is_at (nat_cmp a)) es ≡ Some key → lookup (is_at (nat_cmp b)) es ≡ Some key → a ≡ b
  one_key [] joins at_a at_b = cc
  one_key (e ∷ es) joins at_a at_b = one_step (is_at (nat_cmp a) e.0) (is_at (nat_cmp b) e.0) e es refl refl joins.1.0 at_a at_b (one_key es joins.1.1)

-- ---- one was moved
pub moved : (client : ℕ) (a b c : Due) → MovesOnly client a b → MovesOnly client b c → MovesOnly client a c
moved client a b c first then = record {
  limit_same = then.limit_same ∙ first.limit_same;
  ticks_same = then.ticks_same ∙ first.ticks_same;
  was_whole = λ whole. first.was_whole (then.was_whole whole);
  others = λ tick other differ has. then.others tick other differ (first.others tick other differ has);
}

stays : (client other tick idle : ℕ) (old new : Due) → MovesOnly client old new → other ≢ client → IsInTime old other tick idle → IsInTime new other tick idle
stays client other tick idle old new moves differ is = record {
  there = moves.others tick other differ is.there;
  most = omega (arith, is.most, moves.limit_same, moves.ticks_same);
  soon = λ early. omega (arith, is.soon (omega (arith, early, moves.limit_same)), moves.limit_same, moves.ticks_same);
}

module _ (old new : Due) (client : ℕ) (times now : ℕ → Option (ℕ × ℕ)) (es fs : List (ℕ × ℕ)) (moves : MovesOnly client old new)
    (others : (other key : ℕ) → other ≢ client → lookup (is_at (nat_cmp other)) fs ≡ Some key → (lookup (is_at (nat_cmp other)) es ≡ Some key) × (now key ≡ times key))
    (here : new.whole ≡ true → (key : ℕ) → lookup (is_at (nat_cmp client)) fs ≡ Some key → IsSomeAnd (now key) (λ t. IsInTime new client t.0 t.1)) where
  pub in_time_moved : AreInTime old times es → AreInTime new now fs
  in_time_moved all whole other key found = elim (cases_eq other client) [
    | inl same ↦ subst (λ (k : ℕ). IsSomeAnd (now key) (λ t. IsInTime new k t.0 t.1)) (sym same) (here whole key (subst (λ (k : ℕ). lookup (is_at (nat_cmp k)) fs ≡ Some key) same found))
    | inr differ ↦
        let was = others other key differ found in
        subst (λ (o : Option (ℕ × ℕ)). IsSomeAnd o (λ t. IsInTime new other t.0 t.1)) (sym was.1)
        (some_weaker (λ t. IsInTime old other t.0 t.1) (λ t. IsInTime new other t.0 t.1) (times key) (λ t is. stays client other t.0 t.1 old new moves differ is) (all (moves.was_whole whole) other key was.0))
  ]

-- where all else is as it was
pub in_time_same : (due : Due) (times now : ℕ → Option (ℕ × ℕ)) (es : List (ℕ × ℕ)) → ((key : ℕ) → now key ≡ times key) → AreInTime due times es → AreInTime due now es
in_time_same due times now es same all whole client key found =
    subst (λ (o : Option (ℕ × ℕ)). IsSomeAnd o (λ t. IsInTime due client t.0 t.1)) (sym (same key)) (all whole client key found)

-- ---- a tick went by
grown : (n m limit due ticks : ℕ) → m ≡ (n + 1) % 4294967296 → n < 4294967296 → due ≤ ticks + limit → (n < limit → due + n ≤ ticks + limit) → m < limit → due + m ≤ ticks + 1 + limit
grown n m limit due ticks is small most soon early = elim (cases_Bool (ltb n limit)) [
  | inl t ↦ omega (arith, is, soon (ltb-true n limit t))
  | inr f ↦ omega (arith, is, small, most, early, ltb-false n limit f)
]

aged_time : (client tick : ℕ) (s : Stored) (old new : Due) → new.limit ≡ old.limit → new.pairs ≡ old.pairs → new.ticks ≡ old.ticks + 1 → IsInTime old client s.due (shown tick s).idle
    → IsInTime new client s.due (shown ((tick + 1) % 4294967296) s).idle
aged_time client tick s old new limit pairs ticks is = record {
  there = rw pairs is.there;
  most = omega (arith, is.most, limit, ticks);
  soon = λ early.
      let later = ap (λ (e : Entry). e.idle) (shown_aged tick s) in
      omega (arith, limit, ticks, grown (shown tick s).idle (shown ((tick + 1) % 4294967296) s).idle old.limit s.due old.ticks later (omega arith) is.most is.soon (omega (arith, early, limit)));
}

aged_slot : (client tick : ℕ) (o : Option Stored) (old new : Due) → new.limit ≡ old.limit → new.pairs ≡ old.pairs → new.ticks ≡ old.ticks + 1 → IsSomeAnd (times_of tick o) (λ t. IsInTime old client t.0 t.1)
    → IsSomeAnd (times_of ((tick + 1) % 4294967296) o) (λ t. IsInTime new client t.0 t.1)
aged_slot client tick None old new limit pairs ticks is = is
aged_slot client tick (Some s) old new limit pairs ticks is = aged_time client tick s old new limit pairs ticks is

pub in_time_aged : (tick : ℕ) (slots : List (Option Stored)) (es : List (ℕ × ℕ)) (old new : Due) → GoesOn old new → AreInTime old (times_at tick slots) es → AreInTime new (times_at ((tick + 1) % 4294967296) slots) es
in_time_aged tick slots es old new on all whole client key found =
    aged_slot client tick (slot_at slots key) old new on.limit_same on.pairs_same (on.ticks_next whole).1 (all (on.ticks_next whole).0 client key found)

-- ---- by slots
pub slot_written : (slots news : List (Option Stored)) (key : ℕ) (s : Stored) → news ≡ slice_set slots key (Some s) → IsSome (slot_at slots key) → slot_at news key ≡ Some s
slot_written slots news key s put some = ap (λ (l : List (Option Stored)). slot_at l key) put ∙ written_here slots key s some

pub times_written : (tick : ℕ) (slots news : List (Option Stored)) (key : ℕ) (was s : Stored) → slot_at slots key ≡ Some was → news ≡ slice_set slots key (Some s) → s.due ≡ was.due → (shown tick s).idle ≡ (shown tick was).idle
    → (k : ℕ) → times_at tick news k ≡ times_at tick slots k
times_written tick slots news key was s there put due idle k = elim (cases_eq k key) [
  | inl same ↦
      let here : slot_at news key ≡ Some s = slot_written slots news key s put (subst (λ (o : Option Stored). IsSome o) (sym there) refl) in
      let times : times_at tick news key ≡ times_at tick slots key =
      ap (times_of tick) here ∙ (ap (λ (n : ℕ). Some (n, (shown tick s).idle)) due ∙ (ap (λ (n : ℕ). Some (was.due, n)) idle ∙ sym (ap (times_of tick) there))) in
      subst (λ (n : ℕ). times_at tick news n ≡ times_at tick slots n) (sym same) times
  | inr differ ↦ ap (times_of tick) (put_others tick slots news key s put k differ)
]

-- what is known of a slot is known of what it has
pub time_of : (client tick : ℕ) (due : Due) (o : Option Stored) (s : Stored) → Some s ≡ o → IsSomeAnd (times_of tick o) (λ t. IsInTime due client t.0 t.1) → IsInTime due client s.due (shown tick s).idle
time_of client tick due o s is all = subst (λ (p : Option Stored). IsSomeAnd (times_of tick p) (λ t. IsInTime due client t.0 t.1)) (sym is) all

pub time_put : (client tick d idle : ℕ) (due : Due) (o : Option Stored) (s : Stored) → o ≡ Some s → s.due ≡ d → (shown tick s).idle ≡ idle → IsInTime due client d idle → IsSomeAnd (times_of tick o) (λ t. IsInTime due client t.0 t.1)
time_put client tick d idle due o s is due_is idle_is time =
    subst (λ (p : Option Stored). IsSomeAnd (times_of tick p) (λ t. IsInTime due client t.0 t.1)) (sym is)
    (subst (λ (n : ℕ). IsInTime due client n (shown tick s).idle) (sym due_is) (subst (λ (n : ℕ). IsInTime due client d n) (sym idle_is) time))

other_client : (client other : ℕ) → other ≢ client → is_at (nat_cmp client) other ≡ false
other_client client other differ = elim (cases_Bool (is_at (nat_cmp client) other)) [
  | inl t ↦ absurd (differ (same_client client other t))
  | inr f ↦ f
]

one_found : (a b : ℕ) (o : Option ℕ) → o ≡ Some a → o ≡ Some b → b ≡ a
one_found a b o is_a is_b = ap (λ (p : Option ℕ). unwrap_or p 0) (sym is_b ∙ is_a)

module _ (old new : Due) (client tick : ℕ) (slots later : List (Option Stored)) (moves : MovesOnly client old new) where
  -- where the slots of other clients are as they were
  pub in_time_anew : (es : List (ℕ × ℕ)) → AreJoined (entry_at tick slots) es → ((key : ℕ) → lookup (is_at (nat_cmp client)) es ≢ Some key → slot_at later key ≡ slot_at slots key)
      → (new.whole ≡ true → (key : ℕ) → lookup (is_at (nat_cmp client)) es ≡ Some key → IsSomeAnd (times_at tick later key) (λ t. IsInTime new client t.0 t.1)) → AreInTime old (times_at tick slots) es → AreInTime new (times_at tick later) es
  in_time_anew es joins others there all =
      in_time_moved old new client (times_at tick slots) (times_at tick later) es es moves
      (λ other key differ found. (found, ap (times_of tick) (others key (λ mine. differ (one_key (entry_at tick slots) other client key es joins found mine))))) there all

  module _ (key : ℕ) (elsewhere : SameElsewhere (slot_at slots) (slot_at later) key) where
    -- one is written anew
    pub in_time_put : (es : List (ℕ × ℕ)) → AreJoined (entry_at tick slots) es → lookup (is_at (nat_cmp client)) es ≡ Some key → (new.whole ≡ true → IsSomeAnd (times_at tick later key) (λ t. IsInTime new client t.0 t.1))
        → AreInTime old (times_at tick slots) es → AreInTime new (times_at tick later) es
    in_time_put es joins found there all =
        in_time_anew es joins (λ k none. elsewhere k (λ same. none (found ∙ ap (λ (n : ℕ). Some n) (sym same))))
        (λ whole k is. subst (λ (n : ℕ). IsSomeAnd (times_at tick later n) (λ t. IsInTime new client t.0 t.1)) (sym (one_found key k (lookup (is_at (nat_cmp client)) es) found is)) (there whole)) all

    -- one comes
    pub in_time_admitted : (index more : BTreeMap ℕ ℕ) → Updates nat_cmp index more client (Some key) → AreJoined (entry_at tick slots) index.entries → entry_at tick slots key ≡ None
        → (new.whole ≡ true → IsSomeAnd (times_at tick later key) (λ t. IsInTime new client t.0 t.1)) → AreInTime old (times_at tick slots) index.entries → AreInTime new (times_at tick later) more.entries
    in_time_admitted index more updates joins vacant there all =
        in_time_moved old new client (times_at tick slots) (times_at tick later) index.entries more.entries moves
        (λ other k differ found.
        let was = sym (updates.0 other ∙ cond-false (is_at (nat_cmp client) other) (Some key) _ (other_client client other differ)) ∙ found in
        (was, ap (times_of tick) (elsewhere k (λ same. none_and_some (entry_at tick slots k) (ap (entry_at tick slots) same ∙ vacant) (found_some (entry_at tick slots) (is_at (nat_cmp other)) k index.entries joins was)))))
        (λ whole k is. subst (λ (n : ℕ). IsSomeAnd (times_at tick later n) (λ t. IsInTime new client t.0 t.1)) (sym (one_found key k (lookup (is_at (nat_cmp client)) more.entries) updates.1 is)) (there whole)) all

    -- one goes
    pub in_time_removed : (index less : BTreeMap ℕ ℕ) → Updates nat_cmp index less client None → AreJoined (entry_at tick slots) index.entries → lookup (is_at (nat_cmp client)) index.entries ≡ Some key
        → AreInTime old (times_at tick slots) index.entries → AreInTime new (times_at tick later) less.entries
    in_time_removed index less updates joins found all =
        in_time_moved old new client (times_at tick slots) (times_at tick later) index.entries less.entries moves
        (λ other k differ is.
        let was = sym (updates.0 other ∙ cond-false (is_at (nat_cmp client) other) None _ (other_client client other differ)) ∙ is in
        (was, ap (times_of tick) (elsewhere k (λ same. differ (one_key (entry_at tick slots) other client k index.entries joins was (found ∙ ap (λ (n : ℕ). Some n) (sym same)))))))
        (λ whole k is. absurd (let none : None ≡ Some k = sym updates.1 ∙ is in cc)) all

-- ---- who will have been idle for the limit in the next tick stands there
module _ (due : Due) (client tick idle : ℕ) (e : Entry) (later : AreLater due) (whole : due.whole ≡ true) (limit : due.limit ≡ idle) (soon : e.idle + 1 ≡ idle) where
  slot_due : (o : Option Stored) → option_map (shown tick) o ≡ Some e → IsSomeAnd (times_of tick o) (λ t. IsInTime due client t.0 t.1) → has_pair due (due.ticks + 1) client ≡ true
  slot_due None is time = cc
  slot_due (Some s) is time =
      let idle_is : (shown tick s).idle ≡ e.idle = ap (λ (o : Option Entry). unwrap_or (option_map (λ d. d.idle) o) 0) is in
      let above = later whole (s.due, client) time.there in
      let at : s.due ≡ due.ticks + 1 = omega (arith, above, time.soon (omega (arith, idle_is, soon, limit)), idle_is, soon, limit) in
      subst (λ (n : ℕ). has_pair due n client ≡ true) at time.there

  pub stands_next : (slots : List (Option Stored)) (es : List (ℕ × ℕ)) → AreInTime due (times_at tick slots) es → option_and_then (entry_at tick slots) (lookup (is_at (nat_cmp client)) es) ≡ Some e
      → has_pair due (due.ticks + 1) client ≡ true
  stands_next slots es all is = by (lookup (is_at (nat_cmp client)) es) refl is
    where
      by : (o : Option ℕ) → lookup (is_at (nat_cmp client)) es ≡ o → option_and_then (entry_at tick slots) o ≡ Some e → has_pair due (due.ticks + 1) client ≡ true
      by None found is = cc
      by (Some key) found is = slot_due (slot_at slots key) is (all whole client key found)

-- a client with an entry is among those of the index
pub known_client : (at : ℕ → Option Entry) (client : ℕ) (e : Entry) (es left : List (ℕ × ℕ)) → left ≡ es → option_and_then at (lookup (is_at (nat_cmp client)) es) ≡ Some e → Contains (keys_of left) client
known_client at client e es left rest is =
    subst (λ (l : List (ℕ × ℕ)). Contains (keys_of l) client) (sym rest) (Contains-keys_from_lookup (λ a b t. sym (same_client a b t)) client es (by (lookup (is_at (nat_cmp client)) es) is))
  where
    by : (o : Option ℕ) → option_and_then at o ≡ Some e → IsSome o
    by None is = cc
    by (Some key) is = refl

-- ---- slots that show the same
pub joined_shown : (at now : ℕ → Option Entry) → ((key : ℕ) → now key ≡ at key) → (es : List (ℕ × ℕ)) → AreJoined at es → AreJoined now es
joined_shown at now same [] joins = tt
joined_shown at now same (e ∷ es) joins = (subst (λ (o : Option Entry). IsSome o) (sym (same e.1)) joins.0, (joins.1.0, joined_shown at now same es joins.1.1))

pub changed_shown : (change : ℕ → Entry → Entry → Type 0) (at mid now : ℕ → Option Entry) → ((key : ℕ) → now key ≡ mid key) → (es : List (ℕ × ℕ)) → AreSlotsChanged change at mid es → AreSlotsChanged change at now es
changed_shown change at mid now same [] changed = tt
changed_shown change at mid now same (e ∷ es) changed =
    (subst (λ (o : Option Entry). IsSlotChanged (change e.0) (at e.1) o) (sym (same e.1)) changed.0, changed_shown change at mid now same es changed.1)
