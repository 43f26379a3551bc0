-- Whom a tick forgets: of all known clients those that are due, since no other has been idle for long enough.
use Rattle.std.proofs.Common.{◌≡◌, ℕ, ◌+◌, ◌≤◌, Bool, true, false, cond, ◌&&◌, ◌||◌, List, [], ◌∷◌, Option, Some, None, IsSome, All, Contains, is_some, filter, eqb, ltb, refl, ap, sym, ◌∙◌, subst, arith}
use Rattle.std.specs.BTreeMap.{is_at}
use Rattle.std.specs.BTreeSet.{BTreeSet}
use Rattle.std.specs.List.{list_any}
use Rattle.std.specs.List.Sorted.{IsStrictlySortedBy}
use Rattle.std.specs.Map.{keys_of}
use Rattle.std.specs.Ordering.{nat_cmp}
use Rattle.std.proofs.lemmas.Bool.{eqb-true}
use Rattle.std.proofs.lemmas.Cmp.{nat_cmp_total, eq_by_cmp_equiv}
use Rattle.std.proofs.lemmas.List.Elements.{All-head, All-tail}
use Rattle.std.proofs.lemmas.List.Kept.{IsStrictlySortedBy-filter}
use Rattle.std.proofs.lemmas.Map.Lookups.{btree_set_from_contains, exact_unsigned}
use Rattle.std.proofs.lemmas.Map.Views.{any-filter_same, list_any-from_Contains, Contains-keys_from_lookup, tells_apart}
use Rattle.rams_model.specs.declared.Note.TheVariants.{Forgot}
use Rattle.rams_model.specs.Service.{Settings, Wanted}
use Rattle.client_table.specs.declared.Entry.{Entry}
use Rattle.client_table.specs.{clients_of, AreRising, entry_of}
use Rattle.client_table.specs.Clients.{Clients}
use Rattle.client_table.proofs.ChangedAll.{each_found}
use Rattle.repair_queue.specs.{count_of}
use Rattle.tick_draft.specs.{Drafted, with_note}
use Rattle.tick_core.specs.{idle_after, with_forgotten, with_forgotten_if, with_due_forgotten, with_all_forgotten}

abbrev goes_of : Settings → List Wanted → ℕ → Option Entry → Bool
goes_of s ws k None = false
goes_of s ws k (Some e) = eqb (idle_after ws k e) s.channel.idle

abbrev noted : List ℕ → Drafted → Drafted
noted [] d = d
noted (k ∷ ks) d = noted ks (with_note d (Forgot k))

module _ (s : Settings) (ws : List Wanted) (t : Clients) where
  abbrev goes : ℕ → Bool
  goes k = goes_of s ws k (entry_of t k)

  -- ---- the notes are of those that go
  note_step : (b : Bool) (k : ℕ) (f : List ℕ) (d end : Drafted) → end ≡ noted f (cond b (with_note d (Forgot k)) d) → end ≡ noted (cond b (k ∷ f) f) d
  note_step true k f d end is = is
  note_step false k f d end is = is

  due_step : (o : Option Entry) (k : ℕ) (ks : List ℕ) (d : Drafted) → ((d2 : Drafted) → with_due_forgotten s ws t ks d2 ≡ noted (filter goes ks) d2)
      → with_due_forgotten s ws t ks (with_forgotten_if s ws k o d) ≡ noted (cond (goes_of s ws k o) (k ∷ filter goes ks) (filter goes ks)) d
  due_step None k ks d rest = rest d
  due_step (Some e) k ks d rest = note_step (goes_of s ws k (Some e)) k (filter goes ks) d _ (rest (with_forgotten s ws k e d))

  due_noted : (ks : List ℕ) (d : Drafted) → with_due_forgotten s ws t ks d ≡ noted (filter goes ks) d
  unfolding with_due_forgotten
  due_noted [] d = refl
  due_noted (k ∷ ks) d = due_step (entry_of t k) k ks d (due_noted ks)

  all_noted : (es : List (ℕ × Entry)) (d : Drafted) → All (λ e. entry_of t e.0 ≡ Some e.1) es → with_all_forgotten s ws es d ≡ noted (filter goes (keys_of es)) d
  unfolding with_all_forgotten
  all_noted [] d found = refl
  all_noted (e ∷ es) d found =
      let here : entry_of t e.0 ≡ Some e.1 = All-head (λ c. entry_of t c.0 ≡ Some c.1) e es found in
      let rest = all_noted es (with_forgotten s ws e.0 e.1 d) (All-tail (λ c. entry_of t c.0 ≡ Some c.1) e es found) in
      note_step (goes_of s ws e.0 (Some e.1)) e.0 (filter goes (keys_of es)) d _ rest
      ∙ ap (λ (o : Option Entry). noted (cond (goes_of s ws e.0 o) (e.0 ∷ filter goes (keys_of es)) (filter goes (keys_of es))) d) (sym here)

  -- ---- those that go are due
  abbrev At : ℕ → ℕ → Bool
  At q = is_at (nat_cmp q)

  apart : (q k : ℕ) → At q k ≡ true → q ≡ k
  apart q k t = tells_apart exact_unsigned q k t

  long_enough : (busy : Bool) (n : ℕ) → 1 ≤ s.channel.idle → eqb (cond busy 0 n) s.channel.idle ≡ true → n ≡ s.channel.idle
  long_enough true n least is = absurd (omega (arith, least, eqb-true 0 s.channel.idle is))
  long_enough false n least is = eqb-true n s.channel.idle is

  module _ (least : 1 ≤ s.channel.idle) (ks : List ℕ) (all : (client : ℕ) (e : Entry) → entry_of t client ≡ Some e → e.idle + 1 ≡ s.channel.idle → Contains ks client) where
    is_due : (q : ℕ) (o : Option Entry) → entry_of t q ≡ o → goes_of s ws q o ≡ true → Contains ks q × Contains (clients_of t) q
    is_due q None is goes_on = cc
    is_due q (Some e) is goes_on = (
      all q e is (long_enough (is_some e.burst || ltb 0 (count_of q ws)) (e.idle + 1) least goes_on),
      Contains-keys_from_lookup apart q t.known (subst (λ (o : Option Entry). IsSome o) (sym is) refl),
    )

    same_step : (b : Bool) (q : ℕ) → (b ≡ true → Contains ks q × Contains (clients_of t) q) → (b && list_any (At q) ks) ≡ (b && list_any (At q) (clients_of t))
    same_step false q both = refl
    same_step true q both =
        let is = both refl in
        list_any-from_Contains (eq_by_cmp_equiv nat_cmp_total) q ks is.0 ∙ sym (list_any-from_Contains (eq_by_cmp_equiv nat_cmp_total) q (clients_of t) is.1)

    kept_of : (q : ℕ) (js : List ℕ) → list_any (At q) (filter goes js) ≡ (goes q && list_any (At q) js)
    kept_of q js = any-filter_same (At q) goes (goes q) (λ k is. ap goes (sym (apart q k is))) js

    those_are_all : IsStrictlySortedBy nat_cmp ks → AreRising t → filter goes ks ≡ filter goes (clients_of t)
    those_are_all rise known_rise =
        let due : BTreeSet ℕ = record { keys = filter goes ks } in
        let known : BTreeSet ℕ = record { keys = filter goes (clients_of t) } in
        btree_set_from_contains nat_cmp_total due known (IsStrictlySortedBy-filter nat_cmp goes ks rise) (IsStrictlySortedBy-filter nat_cmp goes (clients_of t) known_rise)
        (λ q. kept_of q ks ∙ (same_step (goes q) q (is_due q (entry_of t q) refl) ∙ sym (kept_of q (clients_of t)))) exact_unsigned

    -- so the notes are those of all known clients
    pub due_forgotten : (d : Drafted) → IsStrictlySortedBy nat_cmp ks → AreRising t → with_due_forgotten s ws t ks d ≡ with_all_forgotten s ws t.known d
    due_forgotten d rise known_rise = due_noted ks d ∙ (ap (λ (js : List ℕ). noted js d) (those_are_all rise known_rise) ∙ sym (all_noted t.known d (each_found t.known known_rise)))

  -- ---- going through them
  pub forgotten_start : (left ks : List ℕ) (d end : Drafted) → left ≡ ks → with_due_forgotten s ws t ks d ≡ end → with_due_forgotten s ws t left d ≡ end
  forgotten_start left ks d end same is = ap (λ (l : List ℕ). with_due_forgotten s ws t l d) same ∙ is

  pub forgotten_turn : (k : ℕ) (ks rest : List ℕ) (d d2 end : Drafted) → ks ≡ k ∷ rest → d2 ≡ with_forgotten_if s ws k (entry_of t k) d → with_due_forgotten s ws t ks d ≡ end → with_due_forgotten s ws t rest d2 ≡ end
  unfolding with_due_forgotten
  forgotten_turn k ks rest d d2 end split made so_far = ap (with_due_forgotten s ws t rest) made ∙ (ap (λ (l : List ℕ). with_due_forgotten s ws t l d) (sym split) ∙ so_far)

  pub forgotten_end : (ks : List ℕ) (d end : Drafted) → ks ≡ [] → with_due_forgotten s ws t ks d ≡ end → d ≡ end
  unfolding with_due_forgotten
  forgotten_end ks d end none so_far = ap (λ (l : List ℕ). with_due_forgotten s ws t l d) (sym none) ∙ so_far
