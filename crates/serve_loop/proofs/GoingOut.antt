-- How datagrams go out, one after another.
use Rattle.std.proofs.Common.{Result, Ok, Err, ◌≡◌, ℕ, ◌+◌, ◌<◌, ◌≤◌, List, [], ◌∷◌, ◌++◌, length, get_or, drop, Option, None, Some, refl, sym, ap, ◌∙◌, subst, append_assoc, append-nil}
use Rattle.std.proofs.lemmas.List.{drop_more, drop_all}
use Rattle.rams_model.specs.declared.Order.{Order}
use Rattle.rams_model.specs.Service.{Settings}
use Rattle.std.specs.Prelude.{IfSome}
use Rattle.ram_io.specs.declared.Failed.{Failed}
use Rattle.ram_io.specs.{Outgoing, outgoing, SendsOne}
use Rattle.server_hub.specs.declared.At.{At}
use Rattle.serve_loop.specs.{GoOut, Sends, order_datagrams, at_datagrams, said_datagrams}

-- nothing goes out
pub GoOut-none : (a : Option (List Outgoing)) → GoOut a a []
GoOut-none None = tt
GoOut-none (Some sent) = ap Some (sym (append-nil sent))

-- some go out, and then more
pub GoOut-then : (a b c : Option (List Outgoing)) (first second : List Outgoing) → GoOut a b first → GoOut b c second → GoOut a c (first ++ second)
GoOut-then None b c first second p q = tt
GoOut-then (Some sent) b c first second p q =
    subst (λ (o : Option (List Outgoing)). GoOut o c second) p q ∙ ap Some (append_assoc sent first second)

-- nothing has gone out
pub Sends-none : (a : Option (List Outgoing)) (datagrams : List Outgoing) → Sends a a datagrams datagrams
Sends-none a datagrams = record { front = []; wire = GoOut-none a; whole = refl }

-- what had not gone out goes on
pub Sends-then : (a b c : Option (List Outgoing)) (datagrams mid rest : List Outgoing) → Sends a b datagrams mid → Sends b c mid rest → Sends a c datagrams rest
Sends-then a b c datagrams mid rest p q = record {
  front = p.front ++ q.front;
  wire = GoOut-then a b c p.front q.front p.wire q.wire;
  whole = p.whole ∙ ap (λ (l : List Outgoing). p.front ++ l) q.whole ∙ sym (append_assoc p.front q.front rest);
}

-- more stand behind
pub Sends-more : (a b : Option (List Outgoing)) (datagrams rest more : List Outgoing) → Sends a b datagrams rest → Sends a b (datagrams ++ more) (rest ++ more)
Sends-more a b datagrams rest more p = record {
  front = p.front;
  wire = p.wire;
  whole = ap (λ (l : List Outgoing). l ++ more) p.whole ∙ append_assoc p.front rest more;
}

-- the next of what is left goes out, or a front of it
pub Sends-next : (a b c : Option (List Outgoing)) (datagrams left next more rest : List Outgoing) → Sends a b datagrams left → left ≡ next ++ more → Sends b c next rest → Sends a c datagrams (rest ++ more)
Sends-next a b c datagrams left next more rest p e q =
    Sends-then a b c datagrams left (rest ++ more) p (subst (λ (l : List Outgoing). Sends b c l (rest ++ more)) (sym e) (Sends-more b c next rest more q))

-- the datagrams of the orders from one on
pub orders-more : (s : Settings) (port : ℕ) (orders : List Order) (i : ℕ) (order : Order) → i < length orders → order ≡ get_or orders i order
    → order_datagrams s port (drop i orders) ≡ order_datagrams s port (order ∷ []) ++ order_datagrams s port (drop (i + 1) orders)
orders-more s port orders i order below is =
    ap (order_datagrams s port) (drop_more orders i order below) ∙ ap (λ x. order_datagrams s port (x ∷ []) ++ order_datagrams s port (drop (i + 1) orders)) (sym is)

pub orders-past : (s : Settings) (port : ℕ) (orders : List Order) (i : ℕ) → length orders ≤ i → order_datagrams s port (drop i orders) ≡ []
orders-past s port orders i end = ap (order_datagrams s port) (drop_all i orders end)

-- the datagrams of the answers from one on
pub answers-more : (port : ℕ) (all : List Settings) (answers : List At) (i : ℕ) (at : At) → i < length answers → at ≡ get_or answers i at
    → said_datagrams port all (drop i answers) ≡ at_datagrams port all at ++ said_datagrams (port + 2) all (drop (i + 1) answers)
unfolding said_datagrams
answers-more port all answers i at below is =
    ap (said_datagrams port all) (drop_more answers i at below) ∙ ap (λ x. at_datagrams port all x ++ said_datagrams (port + 2) all (drop (i + 1) answers)) (sym is)

pub answers-past : (port : ℕ) (all : List Settings) (answers : List At) (i : ℕ) → length answers ≤ i → said_datagrams port all (drop i answers) ≡ []
unfolding said_datagrams
answers-past port all answers i end = ap (said_datagrams port all) (drop_all i answers end)

-- one datagram went out, or none
pub sent_one : (a b : Option (List Outgoing)) (datagram : Outgoing) → IfSome a (λ sent. b ≡ Some (sent ++ datagram ∷ [])) → Sends a b (datagram ∷ []) []
sent_one a b datagram h = record { front = datagram ∷ []; wire = h; whole = refl }

pub sent_none : (a b : Option (List Outgoing)) (datagram : Outgoing) → IfSome a (λ sent. b ≡ Some sent) → Sends a b (datagram ∷ []) (datagram ∷ [])
sent_none None b datagram h = record { front = []; wire = tt; whole = refl }
sent_none (Some sent) b datagram h = record { front = []; wire = h ∙ ap Some (sym (append-nil sent)); whole = refl }

-- the call of `send` that went well, or failed
pub sends_ok : (a b : Option (List Outgoing)) (r : Result (Unit {0}) Failed) (u : Unit {0}) (datagram : Outgoing) → r ≡ Ok u → SendsOne a b r datagram → Sends a b (datagram ∷ []) []
sends_ok a b r u datagram is h = sent_one a b datagram (by a (subst (λ (x : Result (Unit {0}) Failed). SendsOne a b x datagram) is h))
  where
    by : (o : Option (List Outgoing)) → SendsOne o b (Ok u) datagram → IfSome o (λ sent. b ≡ Some (sent ++ datagram ∷ []))
    by None h = tt
    by (Some sent) h = h

pub sends_err : (a b : Option (List Outgoing)) (r : Result (Unit {0}) Failed) (e : Failed) (datagram : Outgoing) → r ≡ Err e → SendsOne a b r datagram → Sends a b (datagram ∷ []) (datagram ∷ [])
sends_err a b r e datagram is h = sent_none a b datagram (by a (subst (λ (x : Result (Unit {0}) Failed). SendsOne a b x datagram) is h))
  where
    by : (o : Option (List Outgoing)) → SendsOne o b (Err e) datagram → IfSome o (λ sent. b ≡ Some sent)
    by None h = tt
    by (Some sent) h = h

-- where nothing more is left, all went out
pub Sends-end : (a b : Option (List Outgoing)) (datagrams left : List Outgoing) → Sends a b datagrams left → left ≡ [] → Sends a b datagrams []
Sends-end a b datagrams left p e = subst (Sends a b datagrams) e p

-- the datagram that was made
pub order_made : (port to client : ℕ) (made bytes : List ℕ) → to ≡ client → made ≡ bytes → outgoing to port made ≡ outgoing client port bytes
order_made port to client made bytes same is = ap (λ n. outgoing n port made) same ∙ ap (λ (l : List ℕ). outgoing client port l) is
