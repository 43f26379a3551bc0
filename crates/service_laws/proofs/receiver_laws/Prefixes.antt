-- Packets of a source that follow one another from f on are the first of it from f on.
use Rattle.std.proofs.Common.{◌≡◌, ℕ, zero, suc, ◌+◌, ◌<◌, List, [], ◌∷◌, ◌++◌, length, map, get_or, Option, Some, None, refl, ap, sym, ◌∙◌, arith, inl, inr, ⊎_elim}
use Rattle.std.specs.List.{range_with_len}
use Rattle.rams_model.specs.declared.Held.{Held}
use Rattle.rams_model.specs.Laws.{Rises, IsAmong}
use Rattle.rams_model.specs.Packets.{from_number, Follows}
use Rattle.rams_model.specs.Receiver.{Piece, Playing}
use Rattle.rams_model.proofs.Rising.{at_least, from_all, not_from}
use Rattle.service_laws.specs.receiver_laws.Presenting.{Presents}
use Rattle.service_laws.proofs.receiver_laws.Arriving.{AreShown}
use Rattle.service_laws.proofs.receiver_laws.Standing.{Stands}

among : (hs : List Held) (h : Held) (k : ℕ) → k < length hs → get_or hs k h ≡ h → IsAmong h hs
among [] h k lt e = absurd (omega arith)
among (g ∷ gs) h zero lt e = inl e
among (g ∷ gs) h (suc k) lt e = inr (among gs h k (omega arith) e)

-- the packets from f on begin with the one of number f
front : (f m : ℕ) (h : Held) (hs : List Held) → Rises m hs → IsAmong h hs → h.n ≡ f → from_number f hs ≡ h ∷ from_number (f + 1) hs
front f m h [] r a e = absurd a
front f m h (k ∷ ks) r a e =
    ⊎_elim
    (λ (same : k ≡ h). let at : k.n ≡ f = ap (λ (x : Held). x.n) same ∙ e in
    from_all f f (k ∷ ks) (omega arith) (omega (arith, at), r.1)
    ∙ ap (λ (x : Held). x ∷ ks) same
    ∙ ap (λ (rest : List Held). h ∷ rest) (sym (not_from (f + 1) k ks (omega (arith, at)) ∙ from_all (f + 1) (k.n + 1) ks (omega (arith, at)) r.1)))
    (λ later. let lt = at_least (k.n + 1) h ks r.1 later in
    not_from f k ks (omega (arith, lt, e)) ∙ front f (k.n + 1) h ks r.1 later e
    ∙ ap (λ (rest : List Held). h ∷ rest) (sym (not_from (f + 1) k ks (omega (arith, lt, e))))) a

-- The first packets of the source from f on, which were presented under the numbers from n on.
record AreFirst (source : List Held) (f n : ℕ) (pieces : List Piece) : Type 0 where
  packets : List Held
  more : List Held
  splits : from_number f source ≡ packets ++ more
  follow : Follows f packets
  same : map (λ q. q.packet) pieces ≡ map (λ h. h.packet) packets
  numbers : map (λ q. q.n) pieces ≡ range_with_len n (length pieces)

are_first : (source : List Held) (f n : ℕ) (pieces : List Piece) → Rises 0 source → AreShown source f n pieces → AreFirst source f n pieces
are_first source f n [] r all = record { packets = []; more = from_number f source; splits = refl; follow = tt; same = refl; numbers = refl }
are_first source f n (q ∷ qs) r all =
    let h = all.1.0 in
    let place = all.1.1 in
    let rest = are_first source (f + 1) (n + 1) qs r all.2 in record {
      packets = h ∷ rest.packets;
      more = rest.more;
      splits = front f 0 h source r (among source h place.0 place.1 place.2) all.1.2 ∙ ap (λ (ks : List Held). h ∷ ks) rest.splits;
      follow = (all.1.2, rest.follow);
      same = ap (λ (b : List ℕ). b ∷ map (λ k. k.packet) qs) (sym all.1.3) ∙ ap (λ (bs : List (List ℕ)). h.packet ∷ bs) rest.same;
      numbers = ap (λ (m : ℕ). m ∷ map (λ k. k.n) qs) all.0 ∙ ap (λ (ms : List ℕ). n ∷ ms) rest.numbers;
    }

pub prefix : (source : List Held) (o : Option ℕ) (play : Option Playing) (pieces : List Piece) → Rises 0 source → Stands source o play pieces → Presents source o play pieces
prefix source None None pieces r h = h
prefix source None (Some p) pieces r h = absurd h
prefix source (Some f) None pieces r h = absurd h
prefix source (Some f) (Some p) pieces r h =
    let first = are_first source f p.first pieces r h.shown in record {
      packets = first.packets;
      more = first.more;
      splits = first.splits;
      follow = first.follow;
      same = first.same;
      numbers = first.numbers;
      next = h.next;
      bits = h.bits;
    }
