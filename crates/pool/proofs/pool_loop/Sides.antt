-- The books of the channels, one after another, as an event goes past them.
use Rattle.std.proofs.Common.{◌≡◌, ℕ, ◌+◌, ◌<◌, ◌≤◌, Bool, cond, eqb, List, [], ◌∷◌, ◌++◌, length, get_or, set, refl, sym, ◌∙◌, ap, subst, arith, append-nil, append_assoc, length-append}
use Rattle.std.specs.List.{flat_map, list_any}
use Rattle.std.specs.Prelude.{◌||◌}
use Rattle.book_text.specs.{no_channel_line}
use Rattle.pool.specs.declared.{pool_loop.routes.Route.TheVariants.To, pool_loop.routes.Route.Route, pool_loop.walking.Unwritten.Unwritten}
use Rattle.std.proofs.Math.Seq.{get_or-append_seam, set-append_seam, append_snoc}
use Rattle.std.proofs.lemmas.List.{get_or-map, map-set, map-append, length-map}
use Rattle.channel_book.specs.{Kept}
use Rattle.pool.specs.pool_loop.{left_of, all_left, number_of, heard_text, past, all_past, unheard_text}

module _ (number : ℕ) (route : Route) (first : List ℕ) (old : List Kept) where
  -- The event has gone past as many of them.
  pub record Halfway (now : List Kept) (text : List ℕ) (place : ℕ) : Type 0 where
    pub done : List Kept
    pub rest : List Kept
    pub old_is : old ≡ done ++ rest
    pub now_is : now ≡ all_past route done ++ rest
    pub count : length done ≡ place
    pub text_is : text ≡ first ++ flat_map (heard_text number route) done

  pub none_done : (now : List Kept) (text : List ℕ) → now ≡ old → text ≡ first → Halfway now text 0
  none_done now text same begins = record { done = []; rest = old; old_is = refl; now_is = same; count = refl; text_is = begins ∙ sym (append-nil first) }

  -- The next one, and what comes behind it.
  pub record Next (now : List Kept) (text : List ℕ) (place : ℕ) (b : Kept) : Type 0 where
    pub more : (new : Kept) (longer : List ℕ) → new ≡ past route b → longer ≡ text ++ heard_text number route b → Halfway (set now place new) longer (place + 1)

  texts_more : (done : List Kept) (b : Kept) → flat_map (heard_text number route) (done ++ b ∷ []) ≡ flat_map (heard_text number route) done ++ heard_text number route b
  texts_more [] b = append-nil (heard_text number route b)
  texts_more (x ∷ done) b = ap (λ (t : List ℕ). heard_text number route x ++ t) (texts_more done b) ∙ sym (append_assoc (heard_text number route x) (flat_map (heard_text number route) done) (heard_text number route b))

  next_of : (now : List Kept) (text : List ℕ) (place : ℕ) (done rest : List Kept) → old ≡ done ++ rest → now ≡ all_past route done ++ rest → length done ≡ place → text ≡ first ++ flat_map (heard_text number route) done
      → place < length now → (d : Kept) → Next now text place (get_or now place d)
  next_of now text place done [] o n count t less d =
      absurd (omega (arith, less, ap length n, length-append (all_past route done) [], length-map done (past route), count))
  next_of now text place done (b ∷ rest) o n count t less d =
      let at : length (all_past route done) ≡ place = length-map done (past route) ∙ count in
      let is : get_or now place d ≡ b = ap (λ (l : List Kept). get_or l place d) n ∙ ap (λ (k : ℕ). get_or (all_past route done ++ b ∷ rest) k d) (sym at) ∙ get_or-append_seam (all_past route done) b rest d in
      let next : Next now text place b = record {
        more = λ new longer gone grows. record {
          done = done ++ b ∷ [];
          rest = rest;
          old_is = o ∙ sym (append_snoc done b rest);
          now_is =
              ap (λ (l : List Kept). set l place new) n ∙ ap (λ (k : ℕ). set (all_past route done ++ b ∷ rest) k new) (sym at) ∙ set-append_seam (all_past route done) b rest new
              ∙ ap (λ (x : Kept). all_past route done ++ x ∷ rest) gone ∙ sym (append_snoc (all_past route done) (past route b) rest)
              ∙ ap (λ (l : List Kept). l ++ rest) (sym (map-append (past route) done (b ∷ [])));
          count = length-append done (b ∷ []) ∙ ap (λ (k : ℕ). k + 1) count;
          text_is =
              grows ∙ ap (λ (l : List ℕ). l ++ heard_text number route b) t ∙ append_assoc first (flat_map (heard_text number route) done) (heard_text number route b)
              ∙ ap (λ (l : List ℕ). first ++ l) (sym (texts_more done b));
        };
      } in
      subst (Next now text place) (sym is) next

  -- the same of what is left, as it is kept
  pub next_left : (left : List Unwritten) (text : List ℕ) (place : ℕ) (d : Unwritten) → Halfway (all_left left) text place → place < length left → Next (all_left left) text place (left_of (get_or left place d))
  next_left left text place d h less =
      let many : place < length (all_left left) = omega (arith, less, length-map left left_of) in
      subst (Next (all_left left) text place) (get_or-map left_of left place d (left_of d) less) (next_of (all_left left) text place h.done h.rest h.old_is h.now_is h.count h.text_is many (left_of d))

  pub goes_on : (left : List Unwritten) (new : Unwritten) (text longer : List ℕ) (place : ℕ) (d : Unwritten) → Halfway (all_left left) text place → place < length left → left_of new ≡ past route (left_of (get_or left place d))
      → longer ≡ text ++ heard_text number route (left_of (get_or left place d)) → Halfway (all_left (set left place new)) longer (place + 1)
  goes_on left new text longer place d h less gone grows =
      subst (λ (l : List Kept). Halfway l longer (place + 1)) (sym (map-set left_of left place new)) ((next_left left text place d h less).more (left_of new) longer gone grows)

  -- all are done
  ends : (now : List Kept) (text : List ℕ) (done rest : List Kept) → old ≡ done ++ rest → now ≡ all_past route done ++ rest → text ≡ first ++ flat_map (heard_text number route) done → length now ≤ length done
      → (text ≡ first ++ flat_map (heard_text number route) old) × (now ≡ all_past route old)
  ends now text done [] o n t all =
      let whole : done ≡ old = sym (o ∙ append-nil done) in
      (t ∙ ap (λ (l : List Kept). first ++ flat_map (heard_text number route) l) whole, n ∙ append-nil (all_past route done) ∙ ap (all_past route) whole)
  ends now text done (b ∷ rest) o n t all = absurd (omega (arith, ap length n, length-append (all_past route done) (b ∷ rest), length-map done (past route), all))

  pub all_done : (left : List Unwritten) (text : List ℕ) (place : ℕ) → Halfway (all_left left) text place → length left ≤ place → (text ≡ first ++ flat_map (heard_text number route) old) × (all_left left ≡ all_past route old)
  all_done left text place h all = ends (all_left left) text h.done h.rest h.old_is h.now_is h.text_is (omega (arith, length-map left left_of, all, h.count))

-- ---- an event that no channel hears

any_left : (id : ℕ) (left : List Unwritten) → list_any (λ b. eqb (number_of b) id) (all_left left) ≡ list_any (λ u. eqb (number_of (left_of u)) id) left
any_left id [] = refl
any_left id (u ∷ left) = ap (λ (b : Bool). eqb (number_of (left_of u)) id || b) (any_left id left)

pub unknown_is : (event id : ℕ) (left : List Unwritten) (any : Bool) → any ≡ list_any (λ u. eqb (number_of (left_of u)) id) left → unheard_text event (To id) (all_left left) ≡ cond any [] (no_channel_line event id)
unknown_is event id left any is = ap (λ (b : Bool). cond b [] (no_channel_line event id)) (any_left id left ∙ sym is)
