-- A client with a burst has had a moment, its Accept or a tick, and since that moment the source has only grown.
use Rattle.std.proofs.Common.{◌≡◌, ℕ, Bool, true, false, cond, List, [], ◌∷◌, ◌++◌, refl, ap, sym, ◌∙◌, subst, append_assoc, append-nil, eqb}
use Rattle.std.proofs.lemmas.Bool.{cond_both}
use Rattle.rams_model.specs.declared.Held.{Held}
use Rattle.rams_model.specs.declared.Note.TheVariants as note
use Rattle.rams_model.specs.Service.{Settings, live, tick, began, told, noted, History, arrivals, sequence, Burst, begun, after_note, newest_changed, is_of, size_of, bursts}
use Rattle.rams_model.specs.Laws.{source, moments}
use Rattle.rams_model.proofs.Growing.{source_grows}

-- the source of a later history is that of an earlier one, and more
abbrev pub Grows : Settings → History → History → Type 0
Grows s before later = (more : List Held) × (source s later ≡ source s before ++ more)

stays : (s : Settings) (history : History) → Grows s history history
stays s history = ([], sym (append-nil (source s history)))

grows_on : (s : Settings) (a b c : History) → Grows s a b → Grows s b c → Grows s a c
grows_on s a b c g h = (g.0 ++ h.0, h.1 ∙ (ap (λ (l : List Held). l ++ h.0) g.1 ∙ append_assoc (source s a) g.0 h.0))

same_head : (m n : History) (ms ns : List History) → m ∷ ms ≡ n ∷ ns → m ≡ n
same_head m n ms ns e = cc

pub grown : (s : Settings) (k : ℕ) (history m : History) (ms : List History) → moments k history ≡ m ∷ ms → Grows s m history
unfolding moments arrivals
grown s k [] m ms e = absurd cc
grown s k (began (live a) ∷ history) m ms e = grows_on s m history (began (live a) ∷ history) (grown s k history m ms e) (source_grows s.channel.window a (arrivals history))
grown s k (began tick ∷ history) m ms e = subst (λ (n : History). Grows s n history) (same_head history m (moments k history) ms e) (stays s history)
grown s k (began heard ∷ history) m ms e = grown s k history m ms e
grown s k (told client message ∷ history) m ms e = grown s k history m ms e
grown s k (noted (note.Accept client first rate join) packet ∷ history) m ms e =
    at (eqb client k) e (λ f. grown s k history m ms f)
  where
    at : (b : Bool) → cond b (history ∷ []) (moments k history) ≡ m ∷ ms → (moments k history ≡ m ∷ ms → Grows s m history) → Grows s m history
    at true f rest = subst (λ (n : History). Grows s n history) (same_head history m [] ms f) (stays s history)
    at false f rest = rest f
grown s k (noted note packet ∷ history) m ms e = grown s k history m ms e

-- no moment, no burst
changed_none : (change : Burst → Burst) (bs : List Burst) → bs ≡ [] → newest_changed change bs ≡ []
changed_none change bs e = ap (newest_changed change) e

no_moment : (s : Settings) (k : ℕ) (history : History) → moments k history ≡ [] → bursts s k history ≡ []
unfolding moments bursts
no_moment s k [] e = refl
no_moment s k (began tick ∷ history) e = absurd cc
no_moment s k (began heard ∷ history) e = no_moment s k history e
no_moment s k (told client message ∷ history) e = no_moment s k history e
no_moment s k (noted (note.Accept client first rate join) packet ∷ history) e = at (eqb client k) e (λ f. no_moment s k history f)
  where
    at : (b : Bool) → cond b (history ∷ []) (moments k history) ≡ [] → (moments k history ≡ [] → bursts s k history ≡ [])
        → cond b (begun s first rate join (sequence s k history) ∷ bursts s k history) (bursts s k history) ≡ []
    at true f rest = absurd cc
    at false f rest = rest f
no_moment s k (noted note packet ∷ history) e =
    let rest = no_moment s k history e in
    cond_both (is_of k note) (newest_changed (after_note s note (size_of packet)) (bursts s k history)) (bursts s k history) (λ l. l ≡ [])
    (λ t. changed_none (after_note s note (size_of packet)) (bursts s k history) rest) (λ f. rest)

pub some_moment : (s : Settings) (k : ℕ) (history : History) (b : Burst) (others : List Burst) → bursts s k history ≡ b ∷ others
    → (m : History) × (ms : List History) × (moments k history ≡ m ∷ ms)
some_moment s k history b others e = at (moments k history) refl
  where
    at : (l : List History) → moments k history ≡ l → (m : History) × (ms : List History) × (moments k history ≡ m ∷ ms)
    at [] f = let none : bursts s k history ≡ [] = no_moment s k history f in absurd cc
    at (m ∷ ms) f = (m, ms, f)
