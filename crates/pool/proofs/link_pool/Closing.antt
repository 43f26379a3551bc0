-- What is known of a link to which all takers were given back.
use Rattle.std.proofs.Common.{◌≡◌, ◌^◌, ◌≢◌, ℕ, ◌<◌, ◌≤◌, Bool, false, cond, List, [], ◌∷◌, ◌++◌, length, refl, sym, ap, ◌∙◌, subst, arith, append_assoc}
use Rattle.std.specs.Prelude.{All, ◌==◌}
use Rattle.std.specs.List.{AllByRecursion as Each}
use Rattle.std.specs.List.Sorted.{IsPermutation, IsNonDecreasingBy}
use Rattle.std.proofs.lemmas.Bool.Decides.{nat_tests}
use Rattle.std.proofs.lemmas.Bool.{eq-eqb}
use Rattle.std.proofs.lemmas.List.Elements.{All-from_recursion, recursion_from_All}
use mathlib.Core.Option.{some, some-injective}
use mathlib.Core.Logic.{dite}
use native.Mathlib.Decide.{ℕ_discrete}
use lib.ListN.{get_elem?}
use Rattle.atomic_table.specs.Table.{Final, Seen}
use Rattle.pool.specs.declared.{link_pool.claim.Claim.Claim, link_pool.link.View.View}
use Rattle.pool.specs.link_pool.Claims.{claims_of, claimed, Adjoin, Fill, PaidWithin}
use Rattle.pool.specs.link_pool.Sharing.{granting, takers_of, has_taker, Fair}
use Rattle.pool.specs.link_pool.Steps.{Mine}
use Rattle.pool.specs.link_pool.Parties.{Claimer, claims_given, numbers_given, NotAmong, Carry, Carries, HasGathered}
use Rattle.pool.proofs.link_pool.Filling.{fill_from, paid_within, none_before, none_behind}
use Rattle.pool.proofs.link_pool.Ordering.{many_same, many_permuted, rising_from, one_order}
use Rattle.pool.proofs.link_pool.Granting.{granted_alone}
use Rattle.channel_book.specs.channel_lock.{total, times}
use Rattle.channel_book.proofs.channel_lock.Lists.{two_le, only_one, no_times, stands_first}
use Rattle.std.proofs.lemmas.List.{length-map}

-- ---- the claims of one taker among those of several

keeps_own : (number : ℕ) (claims : List Claim) → Carry number claims → claims_of number claims ≡ claims
keeps_own number [] each = refl
keeps_own number (c ∷ claims) each =
    subst (λ (b : Bool). cond b (c ∷ claims_of number claims) (claims_of number claims) ≡ c ∷ claims) (sym (eq-eqb c.taker number each.0)) (ap (λ (l : List Claim). c ∷ l) (keeps_own number claims each.1))

other_test : (a b c : ℕ) → a ≡ b → b ≢ c → (a == c) ≡ false
other_test a b c is apart = grind (arith, nat_tests)

keeps_none : (number other : ℕ) (claims : List Claim) → Carry other claims → other ≢ number → claims_of number claims ≡ []
keeps_none number other [] each apart = refl
keeps_none number other (c ∷ claims) each apart =
    subst (λ (b : Bool). cond b (c ∷ claims_of number claims) (claims_of number claims) ≡ []) (sym (other_test c.taker other number each.0 apart)) (keeps_none number other claims each.1 apart)

here : (number n : ℕ) (later : List ℕ) → times number (n ∷ later) ≡ 0 → n ≢ number
here number n later none = λ e. absurd (grind (arith, nat_tests))

none_given : (number : ℕ) (takers : List Claimer) → Each Carries takers → times number (numbers_given takers) ≡ 0 → claims_of number (claims_given takers) ≡ []
none_given number [] each none = refl
none_given number (t ∷ takers) each none =
    none_before number t.claims (claims_given takers) (keeps_none number t.number t.claims each.0 (here number t.number (numbers_given takers) none))
    ∙ none_given number takers each.1 (omega (arith, none))

not_later : (n : ℕ) (later : List ℕ) → times n (n ∷ later) ≤ 1 → times n later ≡ 0
not_later n later once = grind (arith, nat_tests)

apart_from : (n number : ℕ) (later : List ℕ) → times number (n ∷ later) ≤ 1 → 0 < times number later → n ≢ number
apart_from n number later once held = λ e. absurd (grind (arith, nat_tests))

own_from : (before : List Claim) (takers : List Claimer) → Each Carries takers → ((number : ℕ) → times number (numbers_given takers) ≤ 1)
    → ((number : ℕ) → 0 < times number (numbers_given takers) → claims_of number before ≡ [])
    → Each (λ (t : Claimer). claims_of t.number (before ++ claims_given takers) ≡ t.claims) takers
own_from before [] each once none = tt
own_from before (t ∷ takers) each once none =
    let later = numbers_given takers in (
      none_before t.number before (t.claims ++ claims_given takers) (none t.number (stands_first t.number later))
          ∙ (none_behind t.number t.claims (claims_given takers) (none_given t.number takers each.1 (not_later t.number later (once t.number))) ∙ keeps_own t.number t.claims each.0),
      subst (λ (l : List Claim). Each (λ (u : Claimer). claims_of u.number l ≡ u.claims) takers) (append_assoc before t.claims (claims_given takers))
          (own_from (before ++ t.claims) takers each.1 (λ n. omega (arith, once n))
          (λ n some. none_before n before t.claims (none n (omega (arith, some))) ∙ keeps_none n t.number t.claims each.0 (apart_from t.number n later (once n) some))),
    )

among_none : (number : ℕ) (takers : List Claimer) → Each (λ (t : Claimer). t.number ≢ number) takers → times number (numbers_given takers) ≡ 0
among_none number [] apart = refl
among_none number (t ∷ takers) apart = let other = apart.0 in let later = among_none number takers apart.1 in grind (arith, nat_tests)

-- ---- the end

-- what is found where as many takers were given back as were made
record IsWhole (granted : ℕ) (owns : List ℕ) (claims : List Claim) (words : List ℕ) : Type 0 where
  pub drawn : List Claim
  pub word : get_elem? words 0 ≡ some granted
  pub adjoin : Adjoin 0 drawn
  pub most : claimed drawn ≤ 2 ^ 54
  pub each : (number : ℕ) → claims_of number claims ≡ claims_of number drawn
  pub once : (number : ℕ) → times number owns ≤ 1

whole : (takers id granted : ℕ) (owns : List ℕ) (claims : List Claim) (left : ℕ) (words : List ℕ) (slots : List (Unit {0})) → takers ≤ length owns
    → Final (Seen (Fair takers) id (granting granted owns claims left)) words slots → IsWhole granted owns claims words
whole takers id granted owns claims left words slots all final =
    let st = final.0 in
    let o = final.1.0 in
    let at = final.1.1 in
    let v : View = granting granted owns claims left in
    let f = o.fits id v at in
    let alone : (number : ℕ) → total (has_taker number) st.views ≡ times number owns =
    λ number. only_one (has_taker number) st.views id v at (λ j u apart there. no_times number u.owns (omega (arith, two_le takers_of st.views j id u v apart there at, o.all, all))) in
    record {
      drawn = o.drawn;
      word = ap (λ (ws : List ℕ). get_elem? ws 0) (sym final.2 ∙ o.words) ∙ ap (λ (n : ℕ). some n) (granted_alone takers st o id v at refl);
      adjoin = o.adjoin;
      most = omega (arith, o.room);
      each = λ number.
          dite (ℕ_discrete (times number owns) 0)
          (λ none. f.alone number none ∙ sym (o.others number (alone number ∙ none)))
          (λ held. sym (f.own number (omega (arith, held))));
      once = λ number. omega (arith, alone number, o.once number);
    }

-- what the ledger of a closed pool has
pub record HasClosed (takers : List Claimer) (granted word : ℕ) (ledger : List Claim) : Type 0 where
  pub word_is : word ≡ granted
  pub fills : Fill ledger
  pub most : claimed ledger ≤ 2 ^ 54
  pub own : All (λ (t : Claimer). claims_of t.number ledger ≡ t.claims) takers
  pub others : (number : ℕ) → NotAmong takers number → claims_of number ledger ≡ []
  pub paid : PaidWithin word ledger

pub closed : (made id : ℕ) (takers : List Claimer) (granted : ℕ) (words : List ℕ) (slots : List (Unit {0})) (me : Mine) (word : ℕ) (ledger : List Claim) → made ≤ length takers
    → HasGathered granted takers me → All Carries takers → Final (Seen (Fair made) id me.0) words slots → get_elem? words 0 ≡ some word
    → IsPermutation (claims_given takers) ledger → IsNonDecreasingBy (λ (c : Claim). c.from) ledger → HasClosed takers granted word ledger
closed made id takers granted words slots me word ledger all gathered own final found permuted rising =
    let w = whole made id granted (numbers_given takers) (claims_given takers) me.0.left words slots (omega (arith, length-map takers (λ (t : Claimer). t.number), all))
    (subst (λ (u : View). Final (Seen (Fair made) id u) words slots) (ap (λ (m : Mine). m.0) gathered.seat_is) final) in
    let is : ledger ≡ w.drawn = one_order 0 w.drawn ledger w.adjoin (rising_from ledger rising)
    (λ c. many_permuted (claims_given takers) ledger permuted c ∙ many_same (claims_given takers) w.drawn w.each c) in
    let adjoin : Adjoin 0 ledger = subst (Adjoin 0) (sym is) w.adjoin in
    let carry : Each Carries takers = recursion_from_All Carries takers own in
    let each : (number : ℕ) → claims_of number ledger ≡ claims_of number (claims_given takers) = λ number. ap (claims_of number) is ∙ sym (w.each number) in
    record {
      word_is = sym (some-injective granted word (sym w.word ∙ found));
      fills = fill_from ledger adjoin;
      most = omega (arith, ap claimed is, w.most);
      own = All-from_recursion (λ (t : Claimer). claims_of t.number ledger ≡ t.claims) takers (moved ledger (claims_given takers) takers each (own_from [] takers carry w.once (λ number some. refl)));
      others = λ number apart. each number ∙ none_given number takers carry (among_none number takers (recursion_from_All (λ (t : Claimer). t.number ≢ number) takers apart));
      paid = paid_within word ledger adjoin;
    }
  where
    moved : (xs ys : List Claim) (ts : List Claimer) → ((number : ℕ) → claims_of number xs ≡ claims_of number ys) → Each (λ (t : Claimer). claims_of t.number ys ≡ t.claims) ts
        → Each (λ (t : Claimer). claims_of t.number xs ≡ t.claims) ts
    moved xs ys [] e each = tt
    moved xs ys (t ∷ ts) e each = (e t.number ∙ each.0, moved xs ys ts e each.1)
