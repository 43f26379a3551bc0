-- Repairs in pieces, one piece after another, and parts of a list that some go of.
use Rattle.std.proofs.Common.{◌≡◌, ℕ, zero, suc, ◌+◌, ◌<◌, ◌≤◌, Bool, true, false, ◌||◌, not, cond, nat_eq, List, [], ◌∷◌, ◌++◌, length, take, drop, get_or, set, filter, refl, ap, sym, ◌∙◌, subst, arith, append_assoc, append-nil, length-append, eqb}
use Rattle.std.specs.List.{list_any}
use Rattle.std.proofs.lemmas.Bool.{eqb-true}
use Rattle.std.proofs.lemmas.List.{take-append-drop, get_or-drop, drop-set-lt, drop-drop, length-take-le}
use Rattle.std.proofs.lemmas.List.Elements.{filter-append}
use Rattle.std.proofs.Math.Seq.{take-suc-set, take-add}
use Rattle.rams_model.specs.Service.{Wanted, is_wanted}
use Rattle.repair_queue.specs.declared.{index.Index.Index, index.Run.Run}
use Rattle.repair_queue.specs.{all_of, is_of, unmarked, without, AreOnce, Indexes, Owes}
use Rattle.repair_queue.proofs.Indexed.{filter_append, rest_is}

-- one more piece
pub all_more : (ps : List (List Wanted)) (i : ℕ) (p : List Wanted) → i < length ps → p ≡ get_or ps i p → all_of (take (i + 1) ps) ≡ all_of (take i ps) ++ p
all_more ps i p lt is =
    let next : suc i ≡ i + 1 = omega arith in
    ap (λ (n : ℕ). all_of (take n ps)) (sym next) ∙ step ps i lt is
  where
    step : (ps : List (List Wanted)) (i : ℕ) → i < length ps → p ≡ get_or ps i p → all_of (take (suc i) ps) ≡ all_of (take i ps) ++ p
    step [] i lt is = absurd (omega arith)
    step (q ∷ ps) zero lt is = append-nil q ∙ sym is
    step (q ∷ ps) (suc i) lt is = ap (λ (l : List Wanted). q ++ l) (step ps i (omega arith) is) ∙ sym (append_assoc q (all_of (take i ps)) p)

-- a piece and those behind it
pub all_from : (ps : List (List Wanted)) (i : ℕ) (p : List Wanted) → i < length ps → p ≡ get_or ps i p → all_of (drop i ps) ≡ p ++ all_of (drop (i + 1) ps)
all_from ps i p lt is =
    let next : suc i ≡ i + 1 = omega arith in
    step ps i lt is ∙ ap (λ (n : ℕ). p ++ all_of (drop n ps)) next
  where
    step : (ps : List (List Wanted)) (i : ℕ) → i < length ps → p ≡ get_or ps i p → all_of (drop i ps) ≡ p ++ all_of (drop (suc i) ps)
    step [] i lt is = absurd (omega arith)
    step (q ∷ ps) zero lt is = ap (λ (l : List Wanted). l ++ all_of ps) (sym is)
    step (q ∷ ps) (suc i) lt is = step ps i (omega arith) is

pub all_split : (ps : List (List Wanted)) (i : ℕ) → all_of (take i ps) ++ all_of (drop i ps) ≡ all_of ps
all_split ps zero = refl
all_split [] (suc i) = refl
all_split (q ∷ ps) (suc i) = append_assoc q (all_of (take i ps)) (all_of (drop i ps)) ∙ ap (λ (l : List Wanted). q ++ l) (all_split ps i)

pub all_append : (ps qs : List (List Wanted)) → all_of (ps ++ qs) ≡ all_of ps ++ all_of qs
all_append [] qs = refl
all_append (q ∷ ps) qs = ap (λ (l : List Wanted). q ++ l) (all_append ps qs) ∙ sym (append_assoc q (all_of ps) (all_of qs))

-- pieces without repairs say nothing
pub all_filled : (ps : List (List Wanted)) → all_of (filter (λ p. not (eqb (length p) 0)) ps) ≡ all_of ps
all_filled [] = refl
all_filled ([] ∷ ps) = all_filled ps
all_filled ((w ∷ p) ∷ ps) = by (eqb (length (w ∷ p)) 0) refl (all_filled ps)
  where
    by : (b : Bool) → b ≡ eqb (length (w ∷ p)) 0 → all_of (filter (λ p. not (eqb (length p) 0)) ps) ≡ all_of ps → all_of (cond (not b) ((w ∷ p) ∷ filter (λ p. not (eqb (length p) 0)) ps) (filter (λ p. not (eqb (length p) 0)) ps)) ≡ (w ∷ p) ++ all_of ps
    by true is rest = absurd (omega (arith, eqb-true (length (w ∷ p)) 0 (sym is)))
    by false is rest = ap (λ (l : List Wanted). (w ∷ p) ++ l) rest

-- the first pieces and one more are no more than all
pub all_within : (ps : List (List Wanted)) (i : ℕ) (p : List Wanted) → i < length ps → p ≡ get_or ps i p → length (all_of (take i ps)) + length p ≤ length (all_of ps)
all_within ps i p lt is =
    omega (
      arith,
      length-append (all_of (take i ps)) p,
      ap length (all_more ps i p lt is),
      length-append (all_of (take (i + 1) ps)) (all_of (drop (i + 1) ps)),
      ap length (all_split ps (i + 1)),
    )

-- ---- what is true of some in front is so of them and others behind
module _ (f : Wanted → Bool) where
  pub any_append : (front back : List Wanted) → list_any f (front ++ back) ≡ (list_any f front || list_any f back)
  any_append [] back = refl
  any_append (v ∷ front) back = grind (arith, any_append front back)

pub unmarked_split : (p q : List Wanted) (f g : List Bool) → length f ≡ length p → unmarked (p ++ q) (f ++ g) ≡ unmarked p f ++ unmarked q g
unmarked_split [] q [] g same = refl
unmarked_split [] q (b ∷ f) g same = absurd (omega arith)
unmarked_split (w ∷ p) q [] g same = absurd (omega arith)
unmarked_split (w ∷ p) q (true ∷ f) g same = unmarked_split p q f g (omega arith)
unmarked_split (w ∷ p) q (false ∷ f) g same = ap (λ (l : List Wanted). w ∷ l) (unmarked_split p q f g (omega arith))

-- ---- some in the middle
pub middle : (front u x back : List Wanted) → front ++ (u ++ x) ++ back ≡ front ++ u ++ (x ++ back)
middle front u x back = ap (λ (l : List Wanted). l ++ back) (sym (append_assoc front u x)) ∙ append_assoc (front ++ u) x back

run_first : (front run rest back : List Wanted) → front ++ (run ++ rest ++ back) ≡ front ++ run ++ (rest ++ back)
run_first front run rest back = ap (λ (l : List Wanted). front ++ l) (append_assoc run rest back) ∙ sym (append_assoc front run (rest ++ back))

pub once_middle : (front u seg back : List Wanted) (i : ℕ) → ((f : Wanted → Bool) → length (filter f u) ≤ length (filter f (take i seg))) → AreOnce (front ++ seg ++ back) → AreOnce (front ++ (u ++ drop i seg) ++ back)
once_middle front u seg back i less once = λ k m.
    let f = is_wanted k m in
    let all : length (filter f seg) ≡ length (filter f (take i seg)) + length (filter f (drop i seg)) = ap (λ (l : List Wanted). length (filter f l)) (sym (take-append-drop i seg)) ∙ filter_append f (take i seg) (drop i seg) in
    omega (
      arith,
      less f,
      once k m,
      all,
      filter_append f (front ++ seg) back,
      filter_append f front seg,
      filter_append f (front ++ (u ++ drop i seg)) back,
      filter_append f front (u ++ drop i seg),
      filter_append f u (drop i seg),
    )

-- one more of them stays
pub stays : (P : List Wanted → Type 0) (front u next seg back : List Wanted) (i : ℕ) (w : Wanted) → i < length seg → get_or seg i w ≡ w → next ≡ u ++ w ∷ [] → P (front ++ (u ++ drop i seg) ++ back) → P (front ++ (next ++ drop (i + 1) seg) ++ back)
stays P front u next seg back i w lt at is so_far =
    let same : u ++ drop i seg ≡ next ++ drop (i + 1) seg =
    ap (λ (l : List Wanted). u ++ l) (rest_is seg i w lt at) ∙ (sym (append_assoc u (w ∷ []) (drop (i + 1) seg)) ∙ ap (λ (l : List Wanted). l ++ drop (i + 1) seg) (sym is)) in
    subst (λ (l : List Wanted). P (front ++ l ++ back)) same so_far

-- or goes
pub goes : (P Q : List Wanted → Type 0) (front u next seg back : List Wanted) (i : ℕ) (w : Wanted) → ((f b : List Wanted) → AreOnce (f ++ w ∷ b) → P (f ++ w ∷ b) → Q (f ++ b))
    → i < length seg → w ≡ get_or seg i w → next ≡ u → AreOnce (front ++ (u ++ drop i seg) ++ back) → P (front ++ (u ++ drop i seg) ++ back) → Q (front ++ (next ++ drop (i + 1) seg) ++ back)
goes P Q front u next seg back i w removes lt at is once so_far =
    let rest = drop (i + 1) seg in
    let split : front ++ (u ++ drop i seg) ++ back ≡ front ++ u ++ w ∷ (rest ++ back) =
    ap (λ (l : List Wanted). front ++ (u ++ l) ++ back) (rest_is seg i w lt (sym at)) ∙ middle front u (w ∷ rest) back in
    let made = removes (front ++ u) (rest ++ back) (subst AreOnce split once) (subst P split so_far) in
    subst Q (sym (ap (λ (l : List Wanted). front ++ (l ++ rest) ++ back) is ∙ middle front u rest back)) made

-- or some of a run go
pub run_goes : (P Q : List Wanted → Type 0) (front u ws run rest left next back : List Wanted) → ((f b : List Wanted) → AreOnce (f ++ run ++ b) → P (f ++ run ++ b) → Q (f ++ left ++ b))
    → ws ≡ run ++ rest → next ≡ u ++ left → AreOnce (front ++ (u ++ ws) ++ back) → P (front ++ (u ++ ws) ++ back) → Q (front ++ (next ++ rest) ++ back)
run_goes P Q front u ws run rest left next back removes split is once so_far =
    let before : front ++ (u ++ ws) ++ back ≡ front ++ u ++ run ++ (rest ++ back) =
    ap (λ (l : List Wanted). front ++ (u ++ l) ++ back) split ∙ (middle front u (run ++ rest) back ∙ run_first (front ++ u) run rest back) in
    let after : front ++ u ++ left ++ (rest ++ back) ≡ front ++ (next ++ rest) ++ back =
    sym (ap (λ (l : List Wanted). front ++ (l ++ rest) ++ back) is ∙ (ap (λ (l : List Wanted). front ++ l ++ back) (append_assoc u left rest) ∙ (middle front u (left ++ rest) back ∙ run_first (front ++ u) left rest back))) in
    subst Q after (removes (front ++ u) (rest ++ back) (subst AreOnce before once) (subst P before so_far))

-- the first n of those from i on
pub unmarked_run : (ws : List Wanted) (done : List Bool) (i n : ℕ) → i + n ≤ length ws → i + n ≤ length done → unmarked (take (i + n) ws) (take (i + n) done) ≡ unmarked (take i ws) (take i done) ++ unmarked (take n (drop i ws)) (take n (drop i done))
unmarked_run ws done i n short flags =
    ap (λ (l : List Wanted). unmarked l (take (i + n) done)) (take-add i n ws)
    ∙ (ap (λ (l : List Bool). unmarked (take i ws ++ take n (drop i ws)) l) (take-add i n done)
    ∙ unmarked_split (take i ws) (take n (drop i ws)) (take i done) (take n (drop i done)) (length-take-le i done (omega arith) ∙ sym (length-take-le i ws (omega arith))))

-- ---- pieces behind some that were looked at
pub all_none : (ps : List (List Wanted)) (i : ℕ) → length ps ≤ i → all_of (drop i ps) ≡ []
all_none [] zero le = refl
all_none [] (suc i) le = refl
all_none (q ∷ ps) zero le = absurd (omega arith)
all_none (q ∷ ps) (suc i) le = all_none ps i (omega arith)

pub at_end : (front all last : List Wanted) → all ≡ [] → front ++ all ++ last ≡ front ++ last ++ []
at_end front all last none = ap (λ (l : List Wanted). front ++ l ++ last) none ∙ (ap (λ (l : List Wanted). l ++ last) (append-nil front) ∙ sym (append-nil (front ++ last)))

-- fewer of a piece are no more than once
pub once_less : (front u p back : List Wanted) → ((f : Wanted → Bool) → length (filter f u) ≤ length (filter f p)) → AreOnce (front ++ p ++ back) → AreOnce (front ++ u ++ back)
once_less front u p back less once = λ k m.
    let f = is_wanted k m in
    omega (arith, less f, once k m, filter_append f (front ++ p) back, filter_append f front p, filter_append f (front ++ u) back, filter_append f front u)

zero_either : (b : Bool) (n : ℕ) → n ≡ 0 → cond b n 0 ≡ 0
zero_either true n none = none
zero_either false n none = refl

-- a run of none owes nothing
pub owes_none : (index : Index) (ws : List Wanted) (run : Run) → run.len ≡ 0 → Indexes index ws → Owes index ws run
owes_none index ws run none is = record {
  pairs = is.pairs;
  counts = λ whole k. omega (arith, is.counts whole k, zero_either (nat_eq run.client k) run.len none);
}

-- ---- a piece is put in place of another
pub same_in : (old now : List (List Wanted)) (i : ℕ) (p : List Wanted) → i < length old → drop i now ≡ drop i old → p ≡ get_or now i p → p ≡ get_or old i p
same_in old now i p lt others is =
    let here : i + 0 ≡ i = omega arith in
    is ∙ (ap (λ (n : ℕ). get_or now n p) (sym here) ∙ (sym (get_or-drop i now 0 p) ∙ (ap (λ (l : List (List Wanted)). get_or l 0 p) others ∙ (get_or-drop i old 0 p ∙ ap (λ (n : ℕ). get_or old n p) here))))

pub others_stay : (old now : List (List Wanted)) (i : ℕ) (x : List Wanted) → drop i now ≡ drop i old → drop (i + 1) (set now i x) ≡ drop (i + 1) old
others_stay old now i x others =
    let past : i < i + 1 = omega arith in
    drop-set-lt (i + 1) now i x past ∙ (sym (drop-drop 1 i now) ∙ (ap (drop 1) others ∙ drop-drop 1 i old))

pub placed : (now : List (List Wanted)) (i : ℕ) (x : List Wanted) → i < length now → all_of (take (i + 1) (set now i x)) ≡ all_of (take i now) ++ x
placed now i x lt =
    let next : suc i ≡ i + 1 = omega arith in
    ap (λ (n : ℕ). all_of (take n (set now i x))) (sym next) ∙ (ap all_of (take-suc-set now i x lt) ∙ (all_append (take i now) (x ∷ []) ∙ ap (λ (l : List Wanted). all_of (take i now) ++ l) (append-nil x)))

pub marked_placed : (old now : List (List Wanted)) (i : ℕ) (p x : List Wanted) (left flags later : List Bool) (end : List Wanted) → i < length old → length now ≡ length old → drop i now ≡ drop i old → p ≡ get_or now i p
    → x ≡ unmarked p flags → left ≡ flags ++ later → length flags ≡ length p → end ≡ all_of (take i now) ++ unmarked (all_of (drop i old)) left
    → end ≡ all_of (take (i + 1) (set now i x)) ++ unmarked (all_of (drop (i + 1) old)) later
marked_placed old now i p x left flags later end lt long others is made split same so_far =
    let rest = all_of (drop (i + 1) old) in
    so_far
    ∙ (ap (λ (l : List Wanted). all_of (take i now) ++ unmarked l left) (all_from old i p lt (same_in old now i p lt others is))
    ∙ (ap (λ (l : List Bool). all_of (take i now) ++ unmarked (p ++ rest) l) split
    ∙ (ap (λ (l : List Wanted). all_of (take i now) ++ l) (unmarked_split p rest flags later same ∙ ap (λ (l : List Wanted). l ++ unmarked rest later) (sym made))
    ∙ (sym (append_assoc (all_of (take i now)) x (unmarked rest later))
    ∙ ap (λ (l : List Wanted). l ++ unmarked rest later) (sym (placed now i x (omega (arith, long, lt))))))))

pub client_placed : (client : ℕ) (old now : List (List Wanted)) (i : ℕ) (p x : List Wanted) (end : List Wanted) → i < length old → length now ≡ length old → drop i now ≡ drop i old → p ≡ get_or now i p
    → x ≡ without client p → end ≡ all_of (take i now) ++ without client (all_of (drop i old))
    → end ≡ all_of (take (i + 1) (set now i x)) ++ without client (all_of (drop (i + 1) old))
client_placed client old now i p x end lt long others is made so_far =
    let rest = all_of (drop (i + 1) old) in
    let f : Wanted → Bool = λ w. not (is_of client w) in
    so_far
    ∙ (ap (λ (l : List Wanted). all_of (take i now) ++ without client l) (all_from old i p lt (same_in old now i p lt others is))
    ∙ (ap (λ (l : List Wanted). all_of (take i now) ++ l) (filter-append f p rest ∙ ap (λ (l : List Wanted). l ++ without client rest) (sym made))
    ∙ (sym (append_assoc (all_of (take i now)) x (without client rest))
    ∙ ap (λ (l : List Wanted). l ++ without client rest) (sym (placed now i x (omega (arith, long, lt)))))))
