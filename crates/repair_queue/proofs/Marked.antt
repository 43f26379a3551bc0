-- Dropping what is marked, in place.
use Rattle.std.proofs.Common.{◌≡◌, ℕ, zero, suc, ◌+◌, ◌-◌, ◌<◌, ◌≤◌, Bool, true, false, not, cond, List, [], ◌∷◌, ◌++◌, length, take, drop, get_or, refl, ap, sym, ◌∙◌, subst, arith, append_assoc, append-nil, length-append, length-drop, set, Vec}
use Rattle.std.specs.List.{list_any}
use Rattle.std.proofs.lemmas.List.{take_more, drop_more, drop_at, drop-drop, take-take, drop-take, take_at as take_front, take_rest, length-take-le, nil_from_length, with_items_is}
use Rattle.std.proofs.lemmas.List.Edits.{length-paste}
use Rattle.std.proofs.Math.Seq.{paste}
use Rattle.std.specs.Vec.{with_items}
use Rattle.rams_model.specs.Service.{Wanted, wanted}
use Rattle.repair_queue.specs.{unmarked}
use Rattle.repair_queue.proofs.Pending.{unmarked_none}

-- The unmarked ones from i on stand from `start` on, and in front of i all is as it was.
pub record MovedUp (ws now : List Wanted) (done : List Bool) (start i : ℕ) : Type 0 where
  pub front : take i now ≡ take i ws
  pub rest : drop start now ≡ unmarked (drop i ws) (drop i done)
  pub order : i ≤ start
  pub within : start ≤ length done
  pub long : length now ≡ length ws
  pub flags : length done ≤ length ws

unmarked_push : (ws : List Wanted) (done : List Bool) (w : Wanted) (is_done : Bool) → length done ≡ length ws → unmarked (ws ++ w ∷ []) (done ++ is_done ∷ []) ≡ unmarked ws done ++ cond is_done [] (w ∷ [])
unmarked_push [] [] w true h = refl
unmarked_push [] [] w false h = refl
unmarked_push [] (d ∷ done) w is_done h = absurd (omega arith)
unmarked_push (v ∷ ws) [] w is_done h = absurd (omega arith)
unmarked_push (v ∷ ws) (true ∷ done) w is_done h = unmarked_push ws done w is_done (omega arith)
unmarked_push (v ∷ ws) (false ∷ done) w is_done h = ap (λ (vs : List Wanted). v ∷ vs) (unmarked_push ws done w is_done (omega arith))

-- the first i + 1, where the repair and the flag at i are these
pub unmarked_more : (ws : List Wanted) (done : List Bool) (i : ℕ) (w : Wanted) (is_done : Bool) → i < length ws → i < length done → get_or ws i w ≡ w → get_or done i false ≡ is_done
    → unmarked (take (i + 1) ws) (take (i + 1) done) ≡ unmarked (take i ws) (take i done) ++ cond is_done [] (w ∷ [])
unmarked_more ws done i w is_done short short_flags at flag =
    let long : length (take i done) ≡ length (take i ws) = length-take-le i done (omega arith) ∙ sym (length-take-le i ws (omega arith)) in
    rw (take_more ws i w short, take_more done i false short_flags, at, flag) (unmarked_push (take i ws) (take i done) w is_done long)

-- those behind the last marked one stay where they are
pub moved_none : (ws : List Wanted) (done : List Bool) (start : ℕ) → length done ≤ length ws → start ≤ length done → list_any (λ is_done. is_done) (drop start done) ≡ false → MovedUp ws ws done start start
moved_none ws done start flags within unset = record {
  front = refl;
  rest = sym (unmarked_none (drop start ws) (drop start done) unset);
  order = omega arith;
  within = within;
  long = refl;
  flags = flags;
}

unmarked_from : (ws : List Wanted) (done : List Bool) (i : ℕ) (w : Wanted) → i < length ws → i < length done → unmarked (drop i ws) (drop i done) ≡ unmarked (get_or ws i w ∷ drop (i + 1) ws) (get_or done i false ∷ drop (i + 1) done)
unmarked_from ws done i w short short_flags = rw (drop_more ws i w short, drop_more done i false short_flags) refl

take_fewer : (ws now : List Wanted) (i : ℕ) → take (i + 1) now ≡ take (i + 1) ws → take i now ≡ take i ws
take_fewer ws now i same = sym (take-take i (i + 1) now (omega arith)) ∙ (ap (take i) same ∙ take-take i (i + 1) ws (omega arith))

pub moved_more_done : (ws now : List Wanted) (done : List Bool) (start i : ℕ) → MovedUp ws now done start (i + 1) → get_or done i false ≡ true → MovedUp ws now done start i
moved_more_done ws now done start i so_far flag = record {
  front = take_fewer ws now i so_far.front;
  rest = so_far.rest ∙ sym (unmarked_from ws done i (wanted 0 0) (omega arith) (omega arith) ∙ ap (λ (b : Bool). unmarked (get_or ws i (wanted 0 0) ∷ drop (i + 1) ws) (b ∷ drop (i + 1) done)) flag);
  order = omega (arith, so_far.order);
  within = so_far.within;
  long = so_far.long;
  flags = so_far.flags;
}

-- where the first flags are unset, as many stay
unmarked_front : (n : ℕ) (ws : List Wanted) (done : List Bool) → n ≤ length done → n ≤ length ws → list_any (λ is_done. is_done) (take n done) ≡ false → unmarked ws done ≡ take n ws ++ unmarked (drop n ws) (drop n done)
unmarked_front zero ws done flags short unset = refl
unmarked_front (suc n) [] done flags short unset = absurd (omega arith)
unmarked_front (suc n) (w ∷ ws) [] flags short unset = absurd (omega arith)
unmarked_front (suc n) (w ∷ ws) (true ∷ done) flags short unset = cc
unmarked_front (suc n) (w ∷ ws) (false ∷ done) flags short unset = ap (λ (vs : List Wanted). w ∷ vs) (unmarked_front n ws done (omega arith) (omega arith) unset)

-- where the first flags are set, as many go
unmarked_gone : (n : ℕ) (ws : List Wanted) (done : List Bool) → n ≤ length done → n ≤ length ws → list_any (λ is_done. not is_done) (take n done) ≡ false → unmarked ws done ≡ unmarked (drop n ws) (drop n done)
unmarked_gone zero ws done flags short set = refl
unmarked_gone (suc n) [] done flags short set = absurd (omega arith)
unmarked_gone (suc n) (w ∷ ws) [] flags short set = absurd (omega arith)
unmarked_gone (suc n) (w ∷ ws) (true ∷ done) flags short set = unmarked_gone n ws done (omega arith) (omega arith) set
unmarked_gone (suc n) (w ∷ ws) (false ∷ done) flags short set = cc

-- marked ones are left where they are
pub moved_gone : (ws now : List Wanted) (done : List Bool) (start from end : ℕ) → from ≤ end → MovedUp ws now done start end → list_any (λ is_done. not is_done) (drop from (take end done)) ≡ false → MovedUp ws now done start from
moved_gone ws now done start from end low so_far set =
    let n = end - from in
    let ends : from + n ≡ end = omega (arith, low) in
    let flags : take n (drop from done) ≡ drop from (take end done) = sym (drop-take from n done) ∙ ap (λ (m : ℕ). drop from (take m done)) ends in
    let rest : unmarked (drop from ws) (drop from done) ≡ unmarked (drop end ws) (drop end done) =
    unmarked_gone n (drop from ws) (drop from done) (omega (arith, length-drop from done, so_far.order, so_far.within)) (omega (arith, length-drop from ws, so_far.order, so_far.within, so_far.flags)) (ap (list_any (λ is_done. not is_done)) flags ∙ set)
    ∙ (ap (λ (l : List Wanted). unmarked l (drop n (drop from done))) (drop-drop n from ws ∙ ap (λ (m : ℕ). drop m ws) ends)
    ∙ ap (λ (l : List Bool). unmarked (drop end ws) l) (drop-drop n from done ∙ ap (λ (m : ℕ). drop m done) ends)) in
    record {
      front = sym (take-take from end now low) ∙ (ap (take from) so_far.front ∙ take-take from end ws low);
      rest = so_far.rest ∙ sym rest;
      order = omega (arith, low, so_far.order);
      within = so_far.within;
      long = so_far.long;
      flags = so_far.flags;
    }

-- a run of unmarked ones moves up
pub moved_run : (ws now : List Wanted) (done : List Bool) (start from end to : ℕ) → from ≤ end → to ≡ start - (end - from) → MovedUp ws now done start end
    → list_any (λ is_done. is_done) (drop from (take end done)) ≡ false → MovedUp ws (paste now to (drop from now) (end - from)) done to from
moved_run ws now done start from end to low is so_far unset =
    let n = end - from in
    let ends : from + n ≡ end = omega (arith, low) in
    let starts : to + n ≡ start = omega (arith, low, is, so_far.order) in
    let room : to ≤ length now = omega (arith, is, so_far.within, so_far.flags, so_far.long) in
    let few : n ≤ length (drop from now) = omega (arith, length-drop from now, so_far.order, so_far.within, so_far.flags, so_far.long) in
    let run : take n (drop from now) ≡ take n (drop from ws) =
    sym (drop-take from n now) ∙ (ap (λ (m : ℕ). drop from (take m now)) ends ∙ (ap (drop from) so_far.front ∙ (ap (λ (m : ℕ). drop from (take m ws)) (sym ends) ∙ drop-take from n ws))) in
    let flags : take n (drop from done) ≡ drop from (take end done) = sym (drop-take from n done) ∙ ap (λ (m : ℕ). drop from (take m done)) ends in
    let rest : unmarked (drop from ws) (drop from done) ≡ take n (drop from ws) ++ unmarked (drop end ws) (drop end done) =
    unmarked_front n (drop from ws) (drop from done) (omega (arith, length-drop from done, so_far.order, so_far.within)) (omega (arith, length-drop from ws, so_far.order, so_far.within, so_far.flags)) (ap (list_any (λ is_done. is_done)) flags ∙ unset)
    ∙ (ap (λ (l : List Wanted). take n (drop from ws) ++ unmarked l (drop n (drop from done))) (drop-drop n from ws ∙ ap (λ (m : ℕ). drop m ws) ends)
    ∙ ap (λ (l : List Bool). take n (drop from ws) ++ unmarked (drop end ws) l) (drop-drop n from done ∙ ap (λ (m : ℕ). drop m done) ends)) in
    record {
      front = front_kept ws now from end to n low (omega (arith, low, is, so_far.order)) room few so_far.front;
      rest = pasted now to (drop from now) n room few ∙ (ap (λ (l : List Wanted). l ++ drop (to + n) now) run ∙ (ap (λ (m : ℕ). take n (drop from ws) ++ drop m now) starts ∙ (ap (λ (l : List Wanted). take n (drop from ws) ++ l) so_far.rest ∙ sym rest)));
      order = omega (arith, low, is, so_far.order);
      within = omega (arith, is, so_far.within);
      long = length-paste now to (drop from now) n (omega (arith, starts, so_far.within, so_far.flags, so_far.long)) few ∙ so_far.long;
      flags = so_far.flags;
    }
  where
    pasted : (d : List Wanted) (at : ℕ) (s : List Wanted) (n : ℕ) → at ≤ length d → n ≤ length s → drop at (paste d at s n) ≡ take n s ++ drop (at + n) d
    pasted d at s n room few = ap (drop at) (append_assoc (take at d) (take n s) (drop (at + n) d)) ∙ drop_at (take at d) (take n s ++ drop (at + n) d) at (length-take-le at d room)

    front_at : (d : List Wanted) (at : ℕ) (s : List Wanted) (n : ℕ) → at ≤ length d → take at (paste d at s n) ≡ take at d
    front_at d at s n room = ap (take at) (append_assoc (take at d) (take n s) (drop (at + n) d)) ∙ take_front (take at d) (take n s ++ drop (at + n) d) at (length-take-le at d room)

    front_kept : (ws now : List Wanted) (from end to n : ℕ) → from ≤ end → from ≤ to → to ≤ length now → n ≤ length (drop from now) → take end now ≡ take end ws → take from (paste now to (drop from now) n) ≡ take from ws
    front_kept ws now from end to n low below room few same =
        sym (take-take from to (paste now to (drop from now) n) below) ∙ (ap (take from) (front_at now to (drop from now) n room) ∙ (take-take from to now below
        ∙ (sym (take-take from end now low) ∙ (ap (take from) same ∙ take-take from end ws low))))

-- and the marked one in front of them goes
pub moved_past : (ws now : List Wanted) (done : List Bool) (start from next : ℕ) → next ≡ from - 1 → MovedUp ws now done start from → (0 < from → get_or done (from - 1) false ≡ true) → MovedUp ws now done start next
moved_past ws now done start zero next is so_far flag = subst (MovedUp ws now done start) (sym is) so_far
moved_past ws now done start (suc i) next is so_far flag =
    let more : suc i ≡ i + 1 = omega arith in
    let place : i ≡ suc i - 1 = omega arith in
    subst (MovedUp ws now done start) (sym (is ∙ sym place)) (moved_more_done ws now done start i (subst (MovedUp ws now done start) more so_far) (ap (λ (n : ℕ). get_or done n false) place ∙ flag (omega arith)))

-- the places behind the first, after the ones behind those were written
pub drop_written : (xs written post : List Wanted) (from n : ℕ) → from ≤ length xs → length post ≡ 0 → drop (from + n) (take from xs ++ (written ++ post)) ≡ drop n written
drop_written xs written post from n within none =
    sym (drop-drop n from (take from xs ++ (written ++ post)))
    ∙ ap (drop n) (drop_at (take from xs) (written ++ post) from (length-take-le from xs within) ∙ (ap (λ (l : List Wanted). written ++ l) (nil_from_length post none) ∙ append-nil written))

-- the places of a vector from one on, after those that are marked went out of them
pub moved_places : {Z : Type 0} (v : Vec Wanted Z) (places written post : List Wanted) (done : List Bool) (from gone : ℕ) → places ≡ v.items → length places ≡ v.len → from ≤ v.len → length post ≡ 0
    → length written ≡ length (take (length places - from) (drop from places)) → drop gone written ≡ unmarked (take (length places - from) (drop from places)) done
    → drop (from + gone) (with_items v (take from places ++ (written ++ post))).items ≡ unmarked (drop from v.items) done
moved_places v places written post done from gone is len low none same made =
    let within : from ≤ length places = omega arith in
    let whole = take from places ++ (written ++ post) in
    let long : length whole ≡ v.len =
    omega (arith, length-append (take from places) (written ++ post), length-append written post, length-take-le from places within, ap length (take_rest places from), length-drop from places) in
    ap (drop (from + gone)) (with_items_is v whole long)
    ∙ (drop_written places written post from gone within none ∙ (made ∙ ap (λ (l : List Wanted). unmarked l done) (take_rest places from ∙ ap (drop from) is)))

-- those behind the flags stay
pub unmarked_rest : (ws : List Wanted) (done : List Bool) → length done ≤ length ws → unmarked (take (length done) ws) (take (length done) done) ++ drop (length done) ws ≡ unmarked ws done
unmarked_rest [] [] within = refl
unmarked_rest [] (d ∷ done) within = absurd (omega arith)
unmarked_rest (w ∷ ws) [] within = refl
unmarked_rest (w ∷ ws) (true ∷ done) within = unmarked_rest ws done (omega arith)
unmarked_rest (w ∷ ws) (false ∷ done) within = ap (λ (vs : List Wanted). w ∷ vs) (unmarked_rest ws done (omega arith))

any_split : (flags : List Bool) (n : ℕ) → list_any (λ is_done. is_done) (take n flags) ≡ false → list_any (λ is_done. is_done) (drop n flags) ≡ false → list_any (λ is_done. is_done) flags ≡ false
any_split [] n front back = refl
any_split (flag ∷ flags) zero front back = back
any_split (true ∷ flags) (suc n) front back = front
any_split (false ∷ flags) (suc n) front back = any_split flags n front back

-- no flag of a block is set, and none behind it
pub unset_block : (done : List Bool) (start n end : ℕ) → start + n ≡ end → list_any (λ is_done. is_done) (take n (drop start done)) ≡ false → list_any (λ is_done. is_done) (drop end done) ≡ false → list_any (λ is_done. is_done) (drop start done) ≡ false
unset_block done start n end ends block unset =
    any_split (drop start done) n block (ap (list_any (λ is_done. is_done)) (drop-drop n start done ∙ ap (λ (m : ℕ). drop m done) ends) ∙ unset)
