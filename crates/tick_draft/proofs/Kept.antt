-- What changes of entries and of open bursts make of a table.
use Rattle.std.proofs.Common.{◌≡◌, ℕ, Option, Some, None, IfSome, refl, ap, sym, ◌∙◌, subst}
use Rattle.std.specs.Option.{option_map}
use Rattle.client_table.specs.declared.{Burst.Burst, Entry.Entry}
use Rattle.client_table.specs.{entry_of, AreAll, IsChanged, AreChanged, aged, IsBurstChangedBy, IsBurstChanged}
use Rattle.client_table.specs.Clients.{Clients}
use Rattle.tick_draft.specs.{opened_for_tick, entry_begun, IsSmallBurst, IsSmallIfOpen, IsSmallIfKnown, AreSmall, AreAllChanged}

-- ---- all open bursts
module _ (f : Burst → Burst) (Q : Burst → Burst → Type 0) (makes : (b c : Burst) → Q b c → c ≡ f b) where
  burst_so : (o : Option Burst) (e d : Entry) → e.burst ≡ o → IsBurstChangedBy Q o e d → d ≡ record e { burst = option_map f e.burst }
  burst_so None e d is change = change ∙ (ap (λ (x : Option Burst). record e { burst = x }) is ∙ sym (ap (λ (x : Option Burst). record e { burst = option_map f x }) is))
  burst_so (Some b) e d is change =
      change.1 ∙ (ap (λ (x : Burst). record e { burst = Some x }) (makes b change.0 change.2) ∙ sym (ap (λ (x : Option Burst). record e { burst = option_map f x }) is))

  entry_so : (o n : Option Entry) → IsChanged (IsBurstChanged Q) o n → n ≡ option_map (λ (e : Entry). record e { burst = option_map f e.burst }) o
  entry_so None n change = change
  entry_so (Some e) n change = change.1 ∙ ap (λ (x : Entry). Some x) (burst_so e.burst e change.0 refl change.2)

  pub bursts_so : (t u : Clients) (k : ℕ) → AreChanged (λ _. IsBurstChanged Q) t u → entry_of u k ≡ option_map (λ (e : Entry). record e { burst = option_map f e.burst }) (entry_of t k)
  bursts_so t u k change = entry_so (entry_of t k) (entry_of u k) (change.entries k)

-- as a tick begins
aged_so : (o n : Option Entry) → IsChanged (λ e d. d ≡ aged e) o n → n ≡ option_map aged o
aged_so None n change = change
aged_so (Some e) n change = change.1 ∙ ap (λ (x : Entry). Some x) change.2

begun_entry : (o : Option Entry) → option_map (λ (e : Entry). record e { burst = option_map opened_for_tick e.burst }) (option_map aged o) ≡ option_map entry_begun o
begun_entry None = refl
begun_entry (Some e) = refl

pub all_begun : (Q : Burst → Burst → Type 0) (t m u : Clients) → ((b c : Burst) → Q b c → c ≡ opened_for_tick b) → AreChanged (λ _ e d. d ≡ aged e) t m → AreChanged (λ _. IsBurstChanged Q) m u
    → AreAllChanged (λ _. entry_begun) t u
all_begun Q t m u makes first second = record {
  most = second.most ∙ first.most;
  clients = second.clients ∙ first.clients;
  entries = λ k.
      bursts_so opened_for_tick Q makes m u k second
      ∙ (ap (option_map (λ (e : Entry). record e { burst = option_map opened_for_tick e.burst })) (aged_so (entry_of t k) (entry_of m k) (first.entries k)) ∙ begun_entry (entry_of t k));
}

module _ (P : Burst → Type 0) (small_so : (b : Burst) → IsSmallBurst b → P b) where
  small_burst : (o : Option Burst) → IsSmallIfOpen o → IfSome o P
  small_burst None small = tt
  small_burst (Some b) small = small_so b small

  small_entry : (o : Option Entry) (d : Entry) → option_map aged o ≡ Some d → IsSmallIfKnown o → IfSome d.burst P
  small_entry None d is small = cc
  small_entry (Some e) d is small = let same : aged e ≡ d = cc in subst (λ (x : Entry). IfSome x.burst P) same (small_burst e.burst small)

  pub all_small : (t m : Clients) → AreSmall t → AreChanged (λ _ e d. d ≡ aged e) t m → AreAll (λ _ e. IfSome e.burst P) m
  all_small t m small first = λ k d found. small_entry (entry_of t k) d (sym (aged_so (entry_of t k) (entry_of m k) (first.entries k)) ∙ found) (small k)
