-- Lists that grow by what is left of others.
use Rattle.std.proofs.Common.{◌≡◌, ℕ, ◌+◌, ◌<◌, ◌≤◌, min, List, [], ◌∷◌, ◌++◌, map, length, get_or, take, drop, sym, ap, ◌∙◌, append_assoc, append-nil}
use Rattle.std.proofs.lemmas.List.{drop_more, drop_all, drop_min, drop-drop, length-take}
use Rattle.rams_model.specs.declared.Note.{Note}
use Rattle.rams_model.specs.Texts.{order_count}
use Rattle.meet_loop.specs.world_laws.World.{Datagram}
use Rattle.meet_loop.specs.declared.world_laws.world.WorldNote.{WorldNote}
use Rattle.meet_loop.specs.world_net.{note_with_sent, notes_with_sent}

-- with the next of what is left
pub goes_on : {B : Type 0} (new done more next rest whole : List B) → new ≡ done ++ next → done ++ more ≡ whole → more ≡ next ++ rest → new ++ rest ≡ whole
goes_on {B} new done more next rest whole is inv e =
    ap (λ (l : List B). l ++ rest) is ∙ append_assoc done next rest ∙ ap (λ (l : List B). done ++ l) (sym e) ∙ inv

pub goes_on_one : {B : Type 0} (new done more rest whole : List B) (x y : B) → new ≡ done ++ x ∷ [] → x ≡ y → done ++ more ≡ whole → more ≡ y ∷ rest → new ++ rest ≡ whole
goes_on_one {B} new done more rest whole x y is same inv e = goes_on new done more (y ∷ []) rest whole (is ∙ ap (λ (z : B). done ++ z ∷ []) same) inv e

-- what is made of the same bytes stands behind what was there
pub with_bytes : {B : Type 0} {new : List B} (done : List B) (f : List ℕ → B) {xs ys : List ℕ} → new ≡ done ++ f xs ∷ [] → xs ≡ ys → new ≡ done ++ f ys ∷ []
with_bytes {B} done f is same = is ∙ ap (λ (bytes : List ℕ). done ++ f bytes ∷ []) same

-- with nothing left
pub ended : {B : Type 0} (done more whole : List B) → done ++ more ≡ whole → more ≡ [] → done ≡ whole
ended {B} done more whole inv e = sym (append-nil done) ∙ ap (λ (l : List B). done ++ l) (sym e) ∙ inv

pub map_past : {A B : Type 0} (f : A → B) (xs : List A) (i : ℕ) → length xs ≤ i → map f (drop i xs) ≡ []
map_past f xs i end = ap (map f) (drop_all i xs end)

pub notes_step : (id : ℕ) (notes : List Note) (i : ℕ) (d : Note) (left front back : List Datagram) (count : ℕ) (new done whole : List WorldNote) → i < length notes
    → count ≡ order_count (get_or notes i d) → front ≡ take count left → back ≡ drop count left → new ≡ done ++ note_with_sent id (get_or notes i d) front
    → done ++ notes_with_sent id (drop i notes) left ≡ whole → new ++ notes_with_sent id (drop (i + 1) notes) back ≡ whole
unfolding notes_with_sent
notes_step id notes i d left front back count new done whole below asks first others is inv =
    let n = get_or notes i d in
    let more : notes_with_sent id (drop i notes) left ≡ note_with_sent id n front ++ notes_with_sent id (drop (i + 1) notes) back =
    ap (λ (l : List Note). notes_with_sent id l left) (drop_more notes i d below)
    ∙ ap (λ (k : ℕ). note_with_sent id n (take k left) ++ notes_with_sent id (drop (i + 1) notes) (drop k left)) (sym asks)
    ∙ ap (λ (l : List Datagram). note_with_sent id n l ++ notes_with_sent id (drop (i + 1) notes) (drop count left)) (sym first)
    ∙ ap (λ (l : List Datagram). note_with_sent id n front ++ notes_with_sent id (drop (i + 1) notes) l) (sym others) in
    goes_on new done (notes_with_sent id (drop i notes) left) (note_with_sent id n front) (notes_with_sent id (drop (i + 1) notes) back) whole is inv more

-- so many of what is left, or all of it, are left behind
pub drop_told : {A : Type 0} (xs : List A) (told count : ℕ) (those : List A) → those ≡ take count (drop told xs) → drop (told + length those) xs ≡ drop count (drop told xs)
drop_told {A} xs told count those is =
    let left = drop told xs in
    let long : length those ≡ min count (length left) = ap length is ∙ length-take count left in
    sym (drop-drop (length those) told xs) ∙ ap (λ (n : ℕ). drop n left) long ∙ drop_min count left

pub notes_past : (id : ℕ) (notes : List Note) (sent : List Datagram) (i : ℕ) → length notes ≤ i → notes_with_sent id (drop i notes) sent ≡ []
unfolding notes_with_sent
notes_past id notes sent i end = ap (λ (l : List Note). notes_with_sent id l sent) (drop_all i notes end)
