-- A receiver presents packet by packet.
use Rattle.std.proofs.Common.{◌≡◌, ℕ, zero, suc, ◌<◌, List, [], ◌∷◌, ◌++◌, map, length, Option, None, Some, option_map, option_and_then, refl, sym, ap, ◌∙◌, subst, arith, append-nil}
use Rattle.std.specs.Option.{option_to_list}
use Rattle.rams_model.specs.Receiver.{Piece, Playing, presented, past, after_presenting, Reception, shown_now, after_shown, without_piece}
use Rattle.rams_model.proofs.PieceCounts.{one_less}
use Rattle.receiver_core.specs.declared.Shown.{Shown}
use Rattle.receiver_core.specs.{reach, with_got, as_shown}
use Rattle.receiver_core.specs.States.{Seen}
use Rattle.service_laws.specs.receiver_laws.{presented_often}
use Rattle.meet_loop.specs.world_laws.{waiting}
use Rattle.meet_loop.specs.world_net.{shown_in, all_shown, all_presented}
use Rattle.meet_loop.proofs.world_net.Loops.{goes_on_one}

-- where nothing can be presented
same_play : (o : Option Playing) → option_and_then presented o ≡ None → option_map after_presenting o ≡ o
same_play None e = refl
same_play (Some p) e = ap (λ (q : Option Piece). Some (past q p)) e

pub same_after : (r : Reception) → shown_now r ≡ None → after_shown r ≡ r
unfolding after_shown
same_after r e = ap (λ (o : Option Playing). record r { play = o }) (same_play r.play e)

pub none_shown : (count : ℕ) (r : Reception) → shown_now r ≡ None → shown_in count r ≡ []
unfolding shown_in
none_shown zero r e = refl
none_shown (suc count) r e =
    ap (λ (o : Option Piece). option_to_list o ++ shown_in count (after_shown r)) e
    ∙ none_shown count (after_shown r) (ap shown_now (same_after r e) ∙ e)

pub none_presented : (count : ℕ) (r : Reception) → shown_now r ≡ None → presented_often count r ≡ r
unfolding presented_often
none_presented zero r e = refl
none_presented (suc count) r e = none_presented count (after_shown r) (ap shown_now (same_after r e) ∙ e) ∙ same_after r e

-- where one can, one packet less waits
less_waits : (o : Option Playing) (q : Piece) → option_and_then presented o ≡ Some q → waiting o ≡ suc (waiting (option_map after_presenting o))
less_waits None q e = absurd cc
less_waits (Some p) q e =
    let less = one_less p.next q p.waits e in
    let is : suc (length (past (presented p) p).waits) ≡ suc (length (without_piece p.next p.waits)) = ap (λ (x : Option Piece). suc (length (past x p).waits)) e in
    let all : suc (length (without_piece p.next p.waits)) ≡ length p.waits = omega (arith, less) in
    sym (is ∙ all)

pub waits_less : (r : Reception) (q : Piece) → shown_now r ≡ Some q → waiting r.play ≡ suc (waiting (after_shown r).play)
unfolding after_shown
waits_less r q e = less_waits r.play q e

pub one_shown : (r : Reception) (q : Piece) → shown_now r ≡ Some q → all_shown r ≡ q ∷ all_shown (after_shown r)
unfolding shown_in
one_shown r q e =
    ap (λ (n : ℕ). shown_in n r) (waits_less r q e)
    ∙ ap (λ (o : Option Piece). option_to_list o ++ all_shown (after_shown r)) e

pub one_presented : (r : Reception) (q : Piece) → shown_now r ≡ Some q → all_presented r ≡ all_presented (after_shown r)
unfolding presented_often
one_presented r q e = ap (λ (n : ℕ). presented_often n r) (waits_less r q e)

-- What is presented so far, and what is left.
pub record IsPresenting {A : Type 0} (f : Piece → A) (old now : List A) (first r : Seen) : Type 0 where
  pub shown : now ++ map f (all_shown r.got) ≡ old ++ map f (all_shown first.got)
  pub left : all_presented r.got ≡ all_presented first.got
  pub tuned : r.tuned ≡ first.tuned
  pub reaches : reach r ≡ reach first

pub presenting_ends : {A : Type 0} (f : Piece → A) (old now : List A) (first r : Seen) → IsPresenting f old now first r → shown_now r.got ≡ None
    → (now ≡ old ++ map f (all_shown first.got)) × (r ≡ with_got (all_presented first.got) first)
presenting_ends f old now first r p none =
    let got : r.got ≡ all_presented first.got = sym (none_presented (waiting r.got.play) r.got none) ∙ p.left in (
      sym (append-nil now) ∙ ap (λ (l : List Piece). now ++ map f l) (sym (none_shown (waiting r.got.play) r.got none)) ∙ p.shown,
      ap (λ t. record { tuned = t; got = r.got }) p.tuned ∙ ap (λ g. record { tuned = first.tuned; got = g }) got,
    )

pub presenting_more : {A : Type 0} (f : Piece → A) (old now new : List A) (first r next : Seen) (q : Piece) (x : A) → IsPresenting f old now first r → shown_now r.got ≡ Some q
    → next ≡ with_got (after_shown r.got) r → reach next ≡ reach r → new ≡ now ++ x ∷ [] → x ≡ f q → IsPresenting f old new first next
presenting_more f old now new first r next q x p some is reaches more same =
    subst (λ (v : Seen). reach v ≡ reach r → IsPresenting f old new first v) (sym is) (λ still. record {
      shown = goes_on_one new now (map f (all_shown r.got)) (map f (all_shown (after_shown r.got))) (old ++ map f (all_shown first.got)) x (f q) more same p.shown (ap (map f) (one_shown r.got q some));
      left = sym (one_presented r.got q some) ∙ p.left;
      tuned = p.tuned;
      reaches = still ∙ p.reaches;
    }) reaches

-- what was shown is the piece
pub was_shown : (r : Reception) (s : Shown) → Some s ≡ option_map as_shown (shown_now r) → (q : Piece) × (shown_now r ≡ Some q) × (s ≡ as_shown q)
was_shown r s e = by (shown_now r) refl e
  where
    by : (o : Option Piece) → shown_now r ≡ o → Some s ≡ option_map as_shown o → (q : Piece) × (shown_now r ≡ Some q) × (s ≡ as_shown q)
    by None is e = absurd cc
    by (Some q) is e = (q, is, cc e)

pub none_now : (r : Reception) → None ≡ option_map as_shown (shown_now r) → shown_now r ≡ None
none_now r e = by (shown_now r) refl e
  where
    by : (o : Option Piece) → shown_now r ≡ o → None ≡ option_map as_shown o → shown_now r ≡ None
    by None is e = is
    by (Some q) is e = absurd cc

pub presents_less : (r next : Seen) (q : Piece) → shown_now r.got ≡ Some q → next ≡ with_got (after_shown r.got) r → waiting next.got.play < waiting r.got.play
presents_less r next q some is =
    let now : waiting next.got.play ≡ waiting (after_shown r.got).play = ap (λ (v : Seen). waiting v.got.play) is in
    omega (arith, now, waits_less r.got q some)

pub still_with : (r next : Seen) → shown_now r.got ≡ None → next ≡ with_got (after_shown r.got) r → next ≡ r
still_with r next none is = is ∙ ap (λ (g : Reception). with_got g r) (same_after r.got none)
