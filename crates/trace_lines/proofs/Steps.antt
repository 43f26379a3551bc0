-- One step of a reader: what it reads is spelled so, and what is spelled so it reads.
use Rattle.std.proofs.Common.{◌≡◌, ◌⊎◌, ℕ, Bool, true, false, ◌||◌, ◌==◌, if◌then◌else◌, List, [], ◌∷◌, codes, bytes_eq, decimal, Option, Some, None, option_map, option_and_then, refl, sym, ap, subst, ◌∙◌, arith, inl, inr}
use Rattle.std.proofs.lemmas.Bool.{eqb-true}
use Rattle.std.proofs.lemmas.Fmt.{decimal_digit}
use Rattle.rams_model.specs.declared.{Access.Access, Access.TheVariants.Marker, Access.TheVariants.Ts}
use Rattle.rams_model.specs.Texts.{is_hex, field, one, whole, hex_in, access_in, access_word, version_in, is_version}
use Rattle.rams_model.specs.Texts.TraceLines.{Words}
use Rattle.trace_lines.proofs.Spelled.{some_if, if_some, is_word, same_word}

-- what is read from a word is spelled so
abbrev pub Spells : {A : Type 0} → (List ℕ → Option A) → (A → List ℕ) → (A → Bool) → Type 0
Spells {A} read word fine = (w : List ℕ) (a : A) → read w ≡ Some a → (w ≡ word a) × (fine a ≡ true)

pub hex_is : Spells hex_in (λ h. h) is_hex
hex_is w a h = let read = some_if (is_hex w) w a h in (read.1, subst (λ (x : List ℕ). is_hex x ≡ true) read.1 read.0)

pub hex_back : (h : List ℕ) → is_hex h ≡ true → hex_in h ≡ Some h
hex_back h e = if_some (is_hex h) h e

abbrev pub any : Access → Bool
any access = true

pub access_is : Spells access_in access_word any
access_is w a h = by (bytes_eq w (codes "marker")) (bytes_eq w (codes "ts")) refl refl h
  where
    by : (m t : Bool) → bytes_eq w (codes "marker") ≡ m → bytes_eq w (codes "ts") ≡ t → (if m then Some Marker else if t then Some Ts else None) ≡ Some a → (w ≡ access_word a) × (any a ≡ true)
    by true t em et h = let is : Marker ≡ a = cc in (subst (λ (x : Access). w ≡ access_word x) is (is_word w (codes "marker") em), refl)
    by false true em et h = let is : Ts ≡ a = cc in (subst (λ (x : Access). w ≡ access_word x) is (is_word w (codes "ts") et), refl)
    by false false em et h = absurd cc

pub access_back : (a : Access) → access_in (access_word a) ≡ Some a
access_back Marker = refl
access_back Ts = refl

-- the digit of each version
one_digit : codes "1" ≡ decimal 1
one_digit = sym (decimal_digit 1 (omega arith))

two_digit : codes "2" ≡ decimal 2
two_digit = sym (decimal_digit 2 (omega arith))

pub two_versions : (v : ℕ) → is_version v ≡ true → (v ≡ 1) ⊎ (v ≡ 2)
two_versions v h = by (v == 1) refl h
  where
    by : (t : Bool) → (v == 1) ≡ t → (t || v == 2) ≡ true → (v ≡ 1) ⊎ (v ≡ 2)
    by true e h = inl (eqb-true v 1 e)
    by false e h = inr (eqb-true v 2 h)

pub version_is : Spells version_in decimal is_version
version_is w a h = by (bytes_eq w (codes "1")) (bytes_eq w (codes "2")) refl refl h
  where
    by : (m t : Bool) → bytes_eq w (codes "1") ≡ m → bytes_eq w (codes "2") ≡ t → (if m then Some 1 else if t then Some 2 else None) ≡ Some a → (w ≡ decimal a) × (is_version a ≡ true)
    by true t em et h = let is : 1 ≡ a = cc in (subst (λ (x : ℕ). w ≡ decimal x) is (is_word w (codes "1") em ∙ one_digit), subst (λ (x : ℕ). is_version x ≡ true) is refl)
    by false true em et h = let is : 2 ≡ a = cc in (subst (λ (x : ℕ). w ≡ decimal x) is (is_word w (codes "2") et ∙ two_digit), subst (λ (x : ℕ). is_version x ≡ true) is refl)
    by false false em et h = absurd cc

pub version_back : (v : ℕ) → is_version v ≡ true → version_in (decimal v) ≡ Some v
version_back v h = elim (two_versions v h) [
  | inl e ↦ subst (λ (x : ℕ). version_in (decimal x) ≡ Some x) (sym e) (ap version_in (sym one_digit))
  | inr e ↦ subst (λ (x : ℕ). version_in (decimal x) ≡ Some x) (sym e) (ap version_in (sym two_digit))
]

-- one step of a reader: the value in front, and the rest
pub record Step {A B : Type 0} (spell : A → Words → Words) (fine : A → Bool) (ws : Words) (next : A × Words → Option B) (l : B) : Type 0 where
  pub value : A
  pub rest : Words
  pub words : ws ≡ spell value rest
  pub has_form : fine value ≡ true
  pub goes : next (value, rest) ≡ Some l

pub field_step : {A B : Type 0} {read : List ℕ → Option A} {word : A → List ℕ} {fine : A → Bool} → Spells read word fine → (name : List ℕ) (ws : Words) (next : A × Words → Option B) (l : B)
    → option_and_then next (field name read ws) ≡ Some l → Step (λ a rest. name ∷ word a ∷ rest) fine ws next l
field_step each name [] next l h = absurd cc
field_step each name (w ∷ []) next l h = absurd cc
field_step {A} {B} {read} {word} {fine} each name (w ∷ v ∷ rest) next l h = by (bytes_eq w name) (read v) refl refl h
  where
    by : (t : Bool) (o : Option A) → bytes_eq w name ≡ t → read v ≡ o → option_and_then next (if t then option_map (λ a. (a, rest)) o else None) ≡ Some l
        → Step (λ a rest. name ∷ word a ∷ rest) fine (w ∷ v ∷ rest) next l
    by true (Some a) e r h = record {
      value = a;
      rest = rest;
      words = ap (λ x. x ∷ v ∷ rest) (is_word w name e) ∙ ap (λ x. name ∷ x ∷ rest) ((each v a r).0);
      has_form = (each v a r).1;
      goes = h;
    }
    by true None e r h = absurd cc
    by false o e r h = absurd cc

pub one_step : {A B : Type 0} {read : List ℕ → Option A} {word : A → List ℕ} {fine : A → Bool} → Spells read word fine → (ws : Words) (next : A × Words → Option B) (l : B)
    → option_and_then next (one read ws) ≡ Some l → Step (λ a rest. word a ∷ rest) fine ws next l
one_step each [] next l h = absurd cc
one_step {A} {B} {read} {word} {fine} each (v ∷ rest) next l h = by (read v) refl h
  where
    by : (o : Option A) → read v ≡ o → option_and_then next (option_map (λ a. (a, rest)) o) ≡ Some l → Step (λ a rest. word a ∷ rest) fine (v ∷ rest) next l
    by (Some a) r h = record {
      value = a;
      rest = rest;
      words = ap (λ x. x ∷ rest) ((each v a r).0);
      has_form = (each v a r).1;
      goes = h;
    }
    by None r h = absurd cc

pub whole_step : {B : Type 0} (a l : B) (ws : Words) → whole a ws ≡ Some l → (ws ≡ []) × (a ≡ l)
whole_step a l [] h = (refl, cc)
whole_step a l (w ∷ ws) h = absurd cc

-- the same with what is done with the value and the rest
pub field_then : {A B : Type 0} {read : List ℕ → Option A} {word : A → List ℕ} {fine : A → Bool} → Spells read word fine → (P : Type 0) (name : List ℕ) (ws : Words) (next : A × Words → Option B) (l : B)
    → option_and_then next (field name read ws) ≡ Some l → ((a : A) (rest : Words) → ws ≡ name ∷ word a ∷ rest → fine a ≡ true → next (a, rest) ≡ Some l → P) → P
field_then each P name ws next l h f = let s = field_step each name ws next l h in f s.value s.rest s.words s.has_form s.goes

-- a field in front is read
pub field_back : {A : Type 0} (read : List ℕ → Option A) (word : List ℕ) {a : A} (name : List ℕ) (rest : Words) {B : Type 0} (next : A × Words → Option B) → read word ≡ Some a
    → option_and_then next (field name read (name ∷ word ∷ rest)) ≡ next (a, rest)
field_back read word name rest next e = rw (same_word name, e) refl

-- a word in front is read
pub one_back : {A : Type 0} (read : List ℕ → Option A) (word : List ℕ) {a : A} (rest : Words) {B : Type 0} (next : A × Words → Option B) → read word ≡ Some a
    → option_and_then next (one read (word ∷ rest)) ≡ next (a, rest)
one_back read word rest next e = rw e refl
