-- A changed entry of a table.
use Rattle.std.proofs.Common.{◌≡◌, ◌≢◌, ℕ, Option, Some, None, refl, ap, sym, ◌∙◌}
use Rattle.std.specs.Option.{option_map}
use Rattle.client_table.specs.declared.Entry.{Entry}
use Rattle.client_table.specs.{clients_of, entry_of, changed, changed_by}
use Rattle.client_table.specs.Clients.{Clients}
use Rattle.channel_parts.proofs.Tables.{clients-with_entry, entry-with_entry, others-with_entry, entry_among}

-- what a change of an entry is to a table
pub record IsChange (f : Entry → Entry) (k : ℕ) (t u : Clients) : Type 0 where
  pub most : u.most ≡ t.most
  pub clients : clients_of u ≡ clients_of t
  pub own : entry_of u k ≡ option_map f (entry_of t k)
  pub away : (j : ℕ) → j ≢ k → entry_of u j ≡ entry_of t j

pub is_change : (f : Entry → Entry) (k : ℕ) (t : Clients) → IsChange f k t (changed f t k)
is_change f k t = change_by (entry_of t k) refl
  where
    change_by : (o : Option Entry) → entry_of t k ≡ o → IsChange f k t (changed_by f t k o)
    change_by None is = record { most = refl; clients = refl; own = is ∙ ap (option_map f) (sym is); away = λ j differ. refl }
    change_by (Some e) is = record {
      most = refl;
      clients = clients-with_entry t k (f e);
      own = entry-with_entry t k (f e) (entry_among t k e is) ∙ ap (option_map f) (sym is);
      away = λ j differ. others-with_entry t k (f e) j differ;
    }
