-- A list of which each element is changed alike, one after another.
use Rattle.std.proofs.Common.{◌≡◌, ℕ, ◌+◌, ◌<◌, ◌≤◌, List, [], ◌∷◌, ◌++◌, length, get_or, set, map, refl, sym, ◌∙◌, ap, arith, append-nil, length-append}
use Rattle.std.proofs.Math.Seq.{get_or-append_seam, set-append_seam, append_snoc}
use Rattle.std.proofs.lemmas.List.{map-append, length-map}

-- As many of them are changed.
pub record Half {A : Type 0} (f : A → A) (old now : List A) (place : ℕ) : Type 0 where
  pub done : List A
  pub rest : List A
  pub old_is : old ≡ done ++ rest
  pub now_is : now ≡ map f done ++ rest
  pub count : length done ≡ place

module _ {A : Type 0} (f : A → A) (old : List A) where
  pub half_none : (now : List A) → now ≡ old → Half f old now 0
  half_none now same = record { done = []; rest = old; old_is = refl; now_is = same; count = refl }

  more_of : (now : List A) (place : ℕ) (done rest : List A) → old ≡ done ++ rest → now ≡ map f done ++ rest → length done ≡ place → place < length now → (d new : A) → new ≡ f (get_or now place d) → Half f old (set now place new) (place + 1)
  more_of now place done [] o n count less d new is = absurd (omega (arith, less, ap length n, length-append (map f done) [], length-map done f, count))
  more_of now place done (x ∷ rest) o n count less d new is =
      let at : length (map f done) ≡ place = length-map done f ∙ count in
      let it : get_or now place d ≡ x = ap (λ (l : List A). get_or l place d) n ∙ ap (λ (k : ℕ). get_or (map f done ++ x ∷ rest) k d) (sym at) ∙ get_or-append_seam (map f done) x rest d in
      record {
        done = done ++ x ∷ [];
        rest = rest;
        old_is = o ∙ sym (append_snoc done x rest);
        now_is =
            ap (λ (l : List A). set l place new) n ∙ ap (λ (k : ℕ). set (map f done ++ x ∷ rest) k new) (sym at) ∙ set-append_seam (map f done) x rest new
            ∙ ap (λ (y : A). map f done ++ y ∷ rest) (is ∙ ap f it) ∙ sym (append_snoc (map f done) (f x) rest) ∙ ap (λ (l : List A). l ++ rest) (sym (map-append f done (x ∷ [])));
        count = length-append done (x ∷ []) ∙ ap (λ (k : ℕ). k + 1) count;
      }

  pub half_more : (now : List A) (place : ℕ) (d new : A) → Half f old now place → place < length now → new ≡ f (get_or now place d) → Half f old (set now place new) (place + 1)
  half_more now place d new h less is = more_of now place h.done h.rest h.old_is h.now_is h.count less d new is

  all_of : (now : List A) (place : ℕ) (done rest : List A) → old ≡ done ++ rest → now ≡ map f done ++ rest → length done ≡ place → length now ≤ place → now ≡ map f old
  all_of now place done [] o n count all = n ∙ append-nil (map f done) ∙ ap (map f) (sym (o ∙ append-nil done))
  all_of now place done (x ∷ rest) o n count all = absurd (omega (arith, ap length n, length-append (map f done) (x ∷ rest), length-map done f, count, all))

  pub half_all : (now : List A) (place : ℕ) → Half f old now place → length now ≤ place → now ≡ map f old
  half_all now place h all = all_of now place h.done h.rest h.old_is h.now_is h.count all
