-- The numbers of the packets that came in time rise over all starts.
use Rattle.std.proofs.Common.{◌≡◌, ℕ, ◌+◌, ◌-◌, ◌%◌, ⊎_elim, Bool, true, false, cond, List, [], ◌∷◌, ◌++◌, Option, Some, refl, ap, sym, ◌∙◌, subst, arith, ltb}
use Rattle.std.specs.Prelude.{filter, Contains}
use Rattle.std.proofs.lemmas.Bool.{cases_Bool, eq-eqb}
use Rattle.rams_model.specs.declared.{Held.Held, LiveNote.LiveNote, LiveNote.TheVariants.Restart, LiveNote.TheVariants.Jump}
use Rattle.rams_model.specs.Packets.{hi, ahead, following, is_kept, restart, jump, after_greatest, numbered, Arrival, Stream, held_as, awaited, greatest, note_of, live_note, stream_after, stream_of, source}
use Rattle.rams_model.specs.Laws.{Rises}
use Rattle.rams_model.proofs.Growing.{source_rises}
use Rattle.service_laws.proofs.book_laws.CameBefore.{all_of}
use Rattle.service_laws.proofs.book_laws.Members.{above, first_or_later}

front_rises : (n : ℕ) (hs ks : List Held) → Rises n (hs ++ ks) → Rises n hs
front_rises n [] ks r = tt
front_rises n (h ∷ hs) ks r = (r.0, front_rises (h.n + 1) hs ks r.1)

-- as a new start begins, all that came in time is of the source
after_restart : (window : ℕ) (s : Stream) (a : Arrival) (n : LiveNote) (m : ℕ) → n ≡ Restart m → Rises 0 (source window (stream_after s a n)) → Rises 0 (all_of s)
unfolding source
after_restart window s a n m e r =
    let began : List Held = held_as m a ∷ [] in
    front_rises 0 (all_of s) (filter (λ h. ltb h.n (awaited window began)) began) (subst (λ (x : LiveNote). Rises 0 (source window (stream_after s a x))) e r)

-- a packet so far from the greatest jumps, or begins a start where it follows a jump
far_note : (window : ℕ) (present : List Held) (kept : Option ℕ) (q g v : ℕ) (b : Bool) → greatest present ≡ Some g → ahead q g ≡ v
    → after_greatest g kept q v ≡ cond (is_kept kept q) (restart (g + v)) jump → is_kept kept q ≡ b
    → note_of window present (numbered (greatest present) kept q) ≡ cond b (Restart (g + v)) Jump
unfolding numbered
far_note window present kept q g v b e at far k =
    ap (λ (o : Option ℕ). note_of window present (numbered o kept q)) e
    ∙ (ap (λ (u : ℕ). note_of window present (after_greatest g kept q u)) at
    ∙ (ap (note_of window present) far ∙ (ap (λ (c : Bool). note_of window present (cond c (restart (g + v)) jump)) k ∙ by_case b)))
  where
    by_case : (c : Bool) → note_of window present (cond c (restart (g + v)) jump) ≡ cond c (Restart (g + v)) Jump
    by_case true = refl
    by_case false = refl

-- an arrival with this sequence number
abbrev arrival_of : ℕ → Arrival
arrival_of q = record { sequence = q; timestamp = 0; access = true; packet = [] }

-- Two more packets, far from the greatest and one behind the other, begin a start; the source has all that came in time then.
rises_where : (window : ℕ) (arrivals : List Arrival) (h : Held) (hs : List Held) → (stream_of window arrivals).present ≡ h ∷ hs → Rises 0 (all_of (stream_of window arrivals))
unfolding stream_of live_note
rises_where window arrivals h hs e = ⊎_elim at_once later (cases_Bool (is_kept (stream_of window arrivals).kept ((hi (h ∷ hs) - 1 + 10000) % 65536)))
  where
    s : Stream
    s = stream_of window arrivals

    g : ℕ
    g = hi (h ∷ hs) - 1

    q : ℕ
    q = (g + 10000) % 65536

    begins : greatest s.present ≡ Some g
    begins = ap greatest e

    at_once : is_kept s.kept q ≡ true → Rises 0 (all_of s)
    at_once k =
        after_restart window s (arrival_of q) (live_note window s q) (g + 10000) (far_note window s.present s.kept q g 10000 true begins (omega arith) refl k)
        (source_rises window (arrival_of q ∷ arrivals))

    later : is_kept s.kept q ≡ false → Rises 0 (all_of s)
    later k =
        let jumped : Stream = record { ended = s.ended; present = s.present; kept = Some (following q) } in
        let note : live_note window s q ≡ Jump = far_note window s.present s.kept q g 10000 false begins (omega arith) refl k in
        let is : stream_of window (arrival_of q ∷ arrivals) ≡ jumped = ap (stream_after s (arrival_of q)) note in
        let next = arrival_of (following q) in
        let rises : Rises 0 (source window (stream_after jumped next (live_note window jumped (following q)))) =
        subst (λ (x : Stream). Rises 0 (source window (stream_after x next (live_note window x (following q))))) is (source_rises window (next ∷ arrival_of q ∷ arrivals)) in
        after_restart window jumped next (live_note window jumped (following q)) (g + 10001)
        (far_note window s.present (Some (following q)) (following q) g 10001 true begins (omega arith) refl (eq-eqb (following q) (following q) refl)) rises

none_present : (window : ℕ) (s : Stream) → s.present ≡ [] → Rises 0 (source window s) → Rises 0 (all_of s)
unfolding source
none_present window s e r =
    let test : Held → Bool = λ h. ltb h.n (awaited window s.present) in
    subst (λ (l : List Held). Rises 0 (s.ended ++ l)) (sym e) (subst (λ (l : List Held). Rises 0 (s.ended ++ filter test l)) e r)

pub all_rises : (window : ℕ) (arrivals : List Arrival) → Rises 0 (all_of (stream_of window arrivals))
all_rises window arrivals = by_present (stream_of window arrivals).present refl
  where
    by_present : (present : List Held) → (stream_of window arrivals).present ≡ present → Rises 0 (all_of (stream_of window arrivals))
    by_present [] e = none_present window (stream_of window arrivals) e (source_rises window arrivals)
    by_present (h ∷ hs) e = rises_where window arrivals h hs e

-- ---- which packets have a number

-- a number stands once where numbers rise
pub stands_once : (n : ℕ) (hs : List Held) (h k : Held) → Rises n hs → Contains hs h → Contains hs k → h.n ≡ k.n → h ≡ k
stands_once n [] h k r c d e = absurd (omega arith)
stands_once n (x ∷ xs) h k r c d e =
    ⊎_elim
    (λ (f : x ≡ h). ⊎_elim (λ (g : x ≡ k). sym f ∙ g)
    (λ l. let at : x.n ≡ h.n = ap (λ (y : Held). y.n) f in let le = above (x.n + 1) xs k r.1 l in absurd (omega (arith, at, le, e))) (first_or_later x xs k d))
    (λ l. ⊎_elim (λ (g : x ≡ k). let at : x.n ≡ k.n = ap (λ (y : Held). y.n) g in let le = above (x.n + 1) xs h r.1 l in absurd (omega (arith, at, le, e)))
    (λ m. stands_once (x.n + 1) xs h k r.1 l m e) (first_or_later x xs k d)) (first_or_later x xs h c)
