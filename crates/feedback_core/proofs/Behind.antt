-- The wire sizes of what is held from a number on, number by number.
use Rattle.std.proofs.Common.{◌≡◌, ℕ, ◌+◌, ◌≤◌, ◌<◌, ⊎_elim, List, [], ◌∷◌, Some, refl, ap, sym, ◌∙◌, arith, leb, eqb}
use Rattle.std.specs.Prelude.{length, find, max}
use Rattle.std.proofs.lemmas.Bool.{cond-true, cond-false, cases_lt, cases_eq, le-leb, lt-leb, eq-eqb, ne_eqb}
use Rattle.std.proofs.lemmas.List.Sums.{sum_by-cons}
use Rattle.rams_model.specs.declared.Held.{Held}
use Rattle.rams_model.specs.Packets.{lo, hi, wires, from_number, behind, Follows}
use Rattle.channel_cache.specs.packet_ring.{packet_of}
use Rattle.feedback_core.specs.{IsHeldRun}

-- all of them from the first number on, or from one below it
behind_front : (m n : ℕ) (hs : List Held) → Follows m hs → n ≤ m → behind n hs ≡ wires hs
behind_front m n [] f le = refl
behind_front m n (h ∷ hs) f le =
    let le' : n ≤ h.n = omega (arith, f.0) in
    ap wires (cond-true (leb n h.n) (h ∷ from_number n hs) (from_number n hs) (le-leb n h.n le'))
    ∙ sum_by-cons (λ (x : Held). x.wire) h (from_number n hs) ∙ ap (λ (a : ℕ). h.wire + a) (behind_front (m + 1) n hs f.1 (omega arith))
    ∙ sym (sum_by-cons (λ (x : Held). x.wire) h hs)

-- a packet below the number isn't among them
behind_later : (n : ℕ) (h : Held) (hs : List Held) → h.n < n → behind n (h ∷ hs) ≡ behind n hs
behind_later n h hs lt = ap wires (cond-false (leb n h.n) (h ∷ from_number n hs) (from_number n hs) (lt-leb n h.n lt))

pub behind_end : (m n : ℕ) (hs : List Held) → Follows m hs → m + length hs ≤ n → behind n hs ≡ 0
behind_end m n [] f le = refl
behind_end m n (h ∷ hs) f le =
    let lt : h.n < n = omega (arith, f.0, le) in
    behind_later n h hs lt ∙ behind_end (m + 1) n hs f.1 (omega (arith, le))

-- a packet, and those behind it
pub record IsNext (n : ℕ) (hs : List Held) : Type 0 where
  pub packet : Held
  pub is_packet : packet_of n hs ≡ Some packet
  pub number : packet.n ≡ n
  pub sizes : behind n hs ≡ packet.wire + behind (n + 1) hs

pub behind_next : (m n : ℕ) (hs : List Held) → Follows m hs → m ≤ n → n < m + length hs → IsNext n hs
behind_next m n [] f le lt = absurd (omega arith)
behind_next m n (h ∷ hs) f le lt =
    ⊎_elim
    (λ (e : m ≡ n).
    let here : h.n ≡ n = f.0 ∙ e in
    record {
      packet = h;
      is_packet = cond-true (eqb h.n n) (Some h) (find (λ x. eqb x.n n) hs) (eq-eqb h.n n here);
      number = here;
      sizes = ap wires (cond-true (leb n h.n) (h ∷ from_number n hs) (from_number n hs) (le-leb n h.n (omega (arith, here))))
          ∙ sum_by-cons (λ (x : Held). x.wire) h (from_number n hs)
          ∙ ap (λ (a : ℕ). h.wire + a)
          (behind_front (m + 1) n hs f.1 (omega (arith, e)) ∙ sym (behind_front (m + 1) (n + 1) hs f.1 (omega (arith, e)))
          ∙ sym (behind_later (n + 1) h hs (omega (arith, here))));
    })
    (λ ne.
    let rest = behind_next (m + 1) n hs f.1 (omega (arith, le, ne)) (omega (arith, lt)) in
    let below : h.n < n = omega (arith, f.0, le, ne) in
    record {
      packet = rest.packet;
      is_packet = cond-false (eqb h.n n) (Some h) (find (λ x. eqb x.n n) hs) (ne_eqb h.n n (λ q. omega (arith, below, q))) ∙ rest.is_packet;
      number = rest.number;
      sizes = behind_later n h hs below ∙ rest.sizes ∙ ap (λ (a : ℕ). rest.packet.wire + a) (sym (behind_later (n + 1) h hs (omega (arith, below))));
    })
    (cases_eq m n)

pub behind_from : (n : ℕ) (held : List Held) → IsHeldRun held → behind n held ≡ behind (max n (lo held)) held
behind_from n held run =
    ⊎_elim
    (λ lt. behind_front (lo held) n held run.follows (omega arith)
    ∙ sym (behind_front (lo held) (max n (lo held)) held run.follows (omega arith)))
    (λ le. let same : n ≡ max n (lo held) = omega arith in ap (λ (a : ℕ). behind a held) same)
    (cases_lt n (lo held))

pub behind_none : (n : ℕ) (held : List Held) → IsHeldRun held → hi held ≤ n → behind n held ≡ 0
behind_none n held run le = behind_end (lo held) n held run.follows (omega (arith, run.ends))

pub next_of : (n : ℕ) (held : List Held) → IsHeldRun held → lo held ≤ n → n < hi held → IsNext n held
next_of n held run le lt = behind_next (lo held) n held run.follows le (omega (arith, run.ends))
