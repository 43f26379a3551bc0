-- What the joined list says of the index: its clients, their number and their entries.
use Rattle.std.proofs.Common.{◌≡◌, ℕ, Bool, true, false, cond, List, [], ◌∷◌, length, Option, Some, None, IsSome, suc, refl, ap, sym}
use Rattle.std.specs.Option.{option_and_then}
use Rattle.std.specs.Map.{keys_of, lookup}
use Rattle.client_table.specs.declared.entry.Entry.{Entry}
use Rattle.client_table.specs.{before, joined, AreJoined}

module _ (at : ℕ → Option Entry) where
  keys_step : (slot : Option Entry) (e : ℕ × ℕ) (es : List (ℕ × ℕ)) → IsSome slot → keys_of (joined at es) ≡ keys_of es → keys_of (before e.0 slot (joined at es)) ≡ keys_of (e ∷ es)
  keys_step None e es some same = cc
  keys_step (Some entry) e es some same = ap (λ (ks : List ℕ). e.0 ∷ ks) same

  -- the same clients
  pub keys-joined : (es : List (ℕ × ℕ)) → AreJoined at es → keys_of (joined at es) ≡ keys_of es
  keys-joined [] is = refl
  keys-joined (e ∷ es) is = keys_step (at e.1) e es is.0 (keys-joined es is.1.1)

  length_step : (slot : Option Entry) (client : ℕ) (known : List (ℕ × Entry)) (n : ℕ) → IsSome slot → length known ≡ n → length (before client slot known) ≡ suc n
  length_step None client known n some same = cc
  length_step (Some entry) client known n some same = ap (λ (m : ℕ). suc m) same

  pub length-joined : (es : List (ℕ × ℕ)) → AreJoined at es → length (joined at es) ≡ length es
  length-joined [] is = refl
  length-joined (e ∷ es) is = length_step (at e.1) e.0 (joined at es) (length es) is.0 (length-joined es is.1.1)

  lookup_step : (test : ℕ → Bool) (slot : Option Entry) (e : ℕ × ℕ) (es : List (ℕ × ℕ)) → at e.1 ≡ slot → IsSome slot → lookup test (joined at es) ≡ option_and_then at (lookup test es) → lookup test (before e.0 slot (joined at es)) ≡ option_and_then at (lookup test (e ∷ es))
  lookup_step test None e es is some same = cc
  lookup_step test (Some entry) e es is some same =
      elim (test e.0) as (λ b. cond b (Some entry) (lookup test (joined at es)) ≡ option_and_then at (cond b (Some e.1) (lookup test es))) [ true ↦ sym is | false ↦ same ]

  -- the entry under a client's key
  pub lookup-joined : (test : ℕ → Bool) (es : List (ℕ × ℕ)) → AreJoined at es → lookup test (joined at es) ≡ option_and_then at (lookup test es)
  lookup-joined test [] is = refl
  lookup-joined test (e ∷ es) is = lookup_step test (at e.1) e es refl is.0 (lookup-joined test es is.1.1)
