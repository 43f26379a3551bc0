-- What the pieces gave, in order, are the datagrams of the orders.
use Rattle.std.proofs.Common.{◌≡◌, ℕ, List, [], ◌∷◌, map, refl, ap, subst, ◌∙◌, Vec, Global}
use Rattle.std.specs.Prelude.{Result, Ok, Err, IfOk, MatchResult}
use Rattle.std.specs.List.{AllZip, Contains}
use Rattle.rayon.proofs.ToStd.{slice-AllZip}
use Rattle.ram_io.specs.declared.NoMemory.{NoMemory}
use Rattle.rams_model.specs.declared.{Order.Order, Octets.Octets}
use Rattle.rams_model.specs.Service.{datagram}
use Rattle.threads_loop.proofs.session_worker.live_writer.rendering.render_beside.Goals as goal

rendered : (f : Order → List ℕ) (orders : List Order) (texts : List (List ℕ)) → AllZip (λ (x : Order) (r : Result (List ℕ) NoMemory). IfOk r (λ d. d ≡ f x)) orders (map Ok texts) → texts ≡ map f orders
rendered f [] [] h = refl
rendered f [] (t ∷ texts) h = absurd h
rendered f (x ∷ orders) [] h = absurd h
rendered f (x ∷ orders) (t ∷ texts) h = ap (λ d. d ∷ texts) h.0 ∙ ap (λ l. f x ∷ l) (rendered f orders texts h.1)

finish : (f : Order → List ℕ) (orders : List Order) (results : List (Result Octets NoMemory)) (r : Result (Vec Octets Global) NoMemory) → AllZip (λ (x : Order) (r : Result Octets NoMemory). IfOk r (λ d. d ≡ f x)) orders results
    → MatchResult r (λ v. (texts : List Octets) × (results ≡ map Ok texts) × (v.items ≡ texts)) (λ e. Contains results (Err e)) → IfOk r (λ v. v.items ≡ map f orders)
finish f orders results (Ok v) each made = made.2 ∙ rendered f orders made.0 (subst (AllZip (λ (x : Order) (r : Result Octets NoMemory). IfOk r (λ d. d ≡ f x)) orders) made.1 each)
finish f orders results (Err e) each made = tt

pub returns : goal.returns
returns g c =
    let h = c.in_ok-collect.ensures in
    let chain = rw (c.map.ensures.base, c.map.ensures.f) at h.1 in
    let slice = ap (λ it. it.slice.now) c.with_min_len.ensures.base ∙ c.par_iter.ensures in
    finish (datagram c.args.config.now) c.args.orders.now h.0 c.in_ok-collect.field-0
    (slice-AllZip chain.0 c.args.orders.now (chain.1 ∙ slice) (λ (x : Order) (r : Result Octets NoMemory). IfOk r (λ d. d ≡ datagram c.args.config.now x)) h.0 chain.2) h.2
