-- The passes of a new lock, list by list.
use Rattle.std.proofs.Common.{◌≡◌, ℕ, zero, suc, ◌+◌, ◌^◌, ◌<◌, List, [], get_or, length, map, sym, ap, ◌∙◌, arith}
use Rattle.std.proofs.lemmas.List.{get_or-map, length-map}
use Rattle.atomic_table.specs.Seated.{TableId}
use Rattle.rams_model.specs.Service.{Settings}
use Rattle.channel_book.specs.channel_lock.{Known, known, fresh, numbers}
use Rattle.threads_loop.specs.declared.session_worker.worker.Worker.{Worker}
use Rattle.threads_loop.specs.session_worker.{AreReady}
use Rattle.channel_book.proofs.channel_lock.Numbers.{length_numbers}

numbers_at : (first n i d : ℕ) → i < n → get_or (numbers first n) i d ≡ first + i
numbers_at first zero i d lt = absurd (omega (arith, lt))
numbers_at first (suc n) zero d lt = omega arith
numbers_at first (suc n) (suc i) d lt =
    let e : first + 1 + i ≡ first + suc i = omega arith in
    numbers_at (first + 1) n i d (omega (arith, lt)) ∙ e

module _ (lock : TableId) (s : Settings) where
  fresh_at : (n i : ℕ) (d : Known) → i < n → get_or (fresh lock s n) i d ≡ known lock s i [] (2 ^ 34)
  fresh_at n i d lt =
      let f : ℕ → Known = λ list. known lock s list [] (2 ^ 34) in
      get_or-map f (numbers 0 n) i 0 d (omega (arith, lt, length_numbers 0 n)) ∙ ap f (numbers_at 0 n i 0 lt ∙ none_more i)
    where
      none_more : (i : ℕ) → 0 + i ≡ i
      none_more i = omega arith

  pub fresh_count : (n : ℕ) → length (fresh lock s n) ≡ n
  fresh_count n = let f : ℕ → Known = λ list. known lock s list [] (2 ^ 34) in omega (arith, length-map (numbers 0 n) f, length_numbers 0 n)

  -- workers with the passes of a new lock of as many lists
  pub ready_staff : (n : ℕ) (staff : List Worker) → map (λ (w : Worker). w.pass) staff ≡ fresh lock s n → AreReady lock s staff
  ready_staff n staff is =
      let count : n ≡ length staff = omega (arith, ap length is, length-map staff (λ (w : Worker). w.pass), fresh_count n) in
      is ∙ ap (fresh lock s) count

  pub ready_at : (i : ℕ) (staff : List Worker) (w : Worker) → AreReady lock s staff → i < length staff → (get_or staff i w).pass ≡ known lock s i [] (2 ^ 34)
  ready_at i staff w ready lt =
      sym (get_or-map (λ (x : Worker). x.pass) staff i w w.pass lt) ∙ ap (λ l. get_or l i w.pass) ready ∙ fresh_at (length staff) i w.pass lt
