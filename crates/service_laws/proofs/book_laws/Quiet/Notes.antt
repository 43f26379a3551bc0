-- The notes of a datagram's messages keep it so.
use Rattle.std.proofs.Common.{◌≡◌, ℕ, ◌≢◌, true, false, [], ◌∷◌, Option, Some, refl, ap, sym, ◌∙◌, subst, ⊎_elim, eqb}
use Rattle.std.proofs.lemmas.Bool.{cond-true, cases_Bool, eqb-true}
use Rattle.rams_model.specs.declared.{Held.Held, Cause.Cause, Note.Note}
use Rattle.rams_model.specs.declared.Cause.TheVariants as cause
use Rattle.rams_model.specs.declared.Note.TheVariants as note
use Rattle.rams_model.specs.Service.{Settings, Message, after_message, told, noted, History, arrivals, hold, sequence, Burst, next, begun, after_note, size_of, is_of, bursts, open_burst}
use Rattle.rams_model.specs.Packets.{wires, from_number}
use Rattle.rams_model.specs.Laws.{source, moments, told_join}
use Rattle.service_laws.specs.book_laws.{ticks_since_told}
use Rattle.service_laws.proofs.book_laws.Quiet.Packets.{held_itself, there_itself, ring_some}
use Rattle.rams_model.proofs.Legal.{Answers, Stops, Allows, IsLegal}
use Rattle.rams_model.proofs.Legality.{in_tick_from_runs}
use Rattle.rams_model.proofs.Granting.{Updated, update_grants}
use Rattle.rams_model.proofs.Induction.{in_answer, no_tick_answers}
use Rattle.service_laws.proofs.book_laws.Quiet.Answers.{Begins, begins, stops_later, not_lost}
use Rattle.service_laws.proofs.book_laws.Quiet.Near.{Near, begun_near, updated_near, stopped_near}
use Rattle.service_laws.proofs.book_laws.Quiet.States.{Quietly, Keeps, Good, keeps_unmoved, unmoved_note, unmoved_told, other_sound, own, open_parts, ended_none}
use Rattle.service_laws.proofs.book_laws.Quiet.Kept.{known_of, no_less, keeps_shut, same_head}
use Rattle.service_laws.proofs.book_laws.Quiet.Sizes.{ArriveSmall}

-- The notes of other clients, and those that say nothing of bursts.
pub good_other : (s : Settings) (k : ℕ) (note : Note) (packet : Option Held) (history : History) → is_of k note ≡ false → Good s k history → Good s k (noted note packet ∷ history)
good_other s k note packet history e good = record {
  keeps = keeps_unmoved s k history (noted note packet ∷ history) (unmoved_note s k note packet history e) good.keeps;
  sound = other_sound s k note packet history e good.sound;
}

good_told : (s : Settings) (k client : ℕ) (message : Message) (history : History) → Good s k history → Good s k (told client message ∷ history)
good_told s k client message history good = record {
  keeps = keeps_unmoved s k history (told client message ∷ history) (unmoved_told s k client message history) good.keeps;
  sound = good.sound;
}

-- a burst that is begun or changed, where that is near
near_of : (s : Settings) (own b : Burst) (m n : History) (join join_now since since_now : ℕ) → own ≡ b → n ≡ m → join_now ≡ join → since_now ≡ since
    → Near s own join since (from_number own.first (source s n)) → Near s b join_now since_now (from_number b.first (source s m))
near_of s own b m n join join_now since since_now burst moment told_so since_so near =
    subst (λ (x : Burst). Near s x join_now since_now (from_number x.first (source s m))) burst
    (subst (λ (x : History). Near s own join_now since_now (from_number own.first (source s x))) moment
    (subst (λ (x : ℕ). Near s own x since_now (from_number own.first (source s n))) (sym told_so)
    (subst (λ (x : ℕ). Near s own join x (from_number own.first (source s n))) (sym since_so) near)))

-- An Accept of the client begins a burst that is near.
own_accept : (s : Settings) (k client first rate join : ℕ) (packet : Option Held) (history : History) → eqb client k ≡ true → Begins s history first rate join → Good s k history
    → Good s k (noted (note.Accept client first rate join) packet ∷ history)
unfolding bursts moments told_join ticks_since_told arrivals
own_accept s k client first rate join packet history t i good = record { keeps = keeps; sound = good.sound }
  where
    near : (q : ℕ) → Near s (begun s first rate join q) join 0 (from_number first (source s history))
    near q =
        let itself = held_itself s history i.h i.among in
        let from : from_number first (source s history) ≡ from_number i.h.n (hold s history) = ap (λ (n : ℕ). from_number n (source s history)) i.is_first ∙ itself in
        let some = there_itself i.h (hold s history) i.among in
        subst (Near s (begun s first rate join q) join 0) (sym from)
        (begun_near s first rate join q (from_number i.h.n (hold s history)) (ring_some s history i.h i.among) some i.suffices i.fits i.is_join)

    keeps : Keeps s k (noted (note.Accept client first rate join) packet ∷ history)
    keeps b others m ms is_newest is_open marks quiet =
        let q = sequence s k history in
        let own = begun s first rate join q in
        let burst = same_head own b (bursts s k history) others (sym (cond-true (eqb client k) (own ∷ bursts s k history) (bursts s k history) t) ∙ is_newest) in
        let moment = same_head history m [] ms (sym (cond-true (eqb client k) (history ∷ []) (moments k history) t) ∙ marks) in
        near_of s own b m history join (told_join k (noted (note.Accept client first rate join) packet ∷ history)) 0 (ticks_since_told k (noted (note.Accept client first rate join) packet ∷ history)) burst moment
        (cond-true (eqb client k) join (told_join k history) t) (cond-true (eqb client k) 0 (ticks_since_told k history) t) (near q)

-- An Update of the client gives its burst another rate, at which it is near.
own_update : (s : Settings) (k client rate join : ℕ) (packet : Option Held) (history : History) → eqb client k ≡ true → Updated s history client rate join → ArriveSmall (arrivals history) → Good s k history
    → Good s k (noted (note.Update client rate join) packet ∷ history)
unfolding bursts moments told_join ticks_since_told arrivals
own_update s k client rate join packet history t i small good = record { keeps = keeps; sound = good.sound }
  where
    keeps : Keeps s k (noted (note.Update client rate join) packet ∷ history)
    keeps b others m ms is_newest is_open marks quiet =
        let old = i.burst in
        let p = open_parts s k history old (subst (λ (j : ℕ). open_burst s j history ≡ Some old) (eqb-true client k t) i.is_open) in
        let new = after_note s (note.Update client rate join) (size_of packet) old in
        let burst = same_head new b p.others others (sym (own s (note.Update client rate join) (size_of packet) old p.others (bursts s k history) (eqb client k) t p.is_newest) ∙ is_newest) in
        let quiet_old = subst (λ (x : Burst). Quietly s x.first m ms (source s history)) (sym burst) quiet in
        let near = good.keeps old p.others m ms p.is_newest p.is_open marks quiet_old in
        let q = known_of s k history old m ms small marks quiet_old near in
        near_of s new b m m join (told_join k (noted (note.Update client rate join) packet ∷ history)) 0 (ticks_since_told k (noted (note.Update client rate join) packet ∷ history)) burst refl
        (cond-true (eqb client k) join (told_join k history) t) (cond-true (eqb client k) 0 (ticks_since_told k history) t)
        (updated_near s old client rate join (told_join k history) (ticks_since_told k history) (wires (from_number (next old) (hold s history))) (from_number old.first (source s m)) near i.fast
        (no_less s k history old m ms marks q near.reaches) i.join_is)

-- A stop changes nothing of that.
own_stop : (s : Settings) (k client n : ℕ) (packet : Option Held) (history : History) → eqb client k ≡ true → Stops s history client n → Good s k history
    → Good s k (noted (note.StopAt client n) packet ∷ history)
unfolding bursts moments told_join ticks_since_told arrivals
own_stop s k client n packet history t i good = record { keeps = keeps; sound = good.sound }
  where
    keeps : Keeps s k (noted (note.StopAt client n) packet ∷ history)
    keeps b others m ms is_newest is_open marks quiet =
        let old = i.opened.burst in
        let p = open_parts s k history old (subst (λ (j : ℕ). open_burst s j history ≡ Some old) (eqb-true client k t) i.opened.is_open) in
        let new = after_note s (note.StopAt client n) (size_of packet) old in
        let burst = same_head new b p.others others (sym (own s (note.StopAt client n) (size_of packet) old p.others (bursts s k history) (eqb client k) t p.is_newest) ∙ is_newest) in
        let near = good.keeps old p.others m ms p.is_newest p.is_open marks (subst (λ (x : Burst). Quietly s x.first m ms (source s history)) (sym burst) quiet) in
        near_of s new b m m (told_join k history) (told_join k history) (ticks_since_told k history) (ticks_since_told k history) burst refl refl refl
        (stopped_near s old client n (told_join k history) (ticks_since_told k history) (from_number old.first (source s m)) near (stops_later s history client n i))

-- After an End none is open.
own_end : (s : Settings) (k client : ℕ) (why : Cause) (packet : Option Held) (history : History) → eqb client k ≡ true → (burst : Burst) → open_burst s client history ≡ Some burst → why ≢ cause.Lost → Good s k history
    → Good s k (noted (note.End client why) packet ∷ history)
own_end s k client why packet history t b e other good =
    let p = open_parts s k history b (subst (λ (j : ℕ). open_burst s j history ≡ Some b) (eqb-true client k t) e) in
    record {
      keeps = keeps_shut s k (noted (note.End client why) packet ∷ history) (ended_none s k client why packet history t);
      sound = (λ c. record { burst = b; others = p.others; is_newest = p.is_newest; is_open = p.is_open; quiet = λ lost quiet. other lost }, good.sound);
    }

-- Any note of a message.
abbrev pub Stays : Settings → ℕ → History → Type 0
Stays s k history = Good s k history × ArriveSmall (arrivals history)

good_note : (s : Settings) (k c : ℕ) (m : Message) (n : Note) (packet : Option Held) (history : History) → Allows s history n packet → Answers history c m → ArriveSmall (arrivals history)
    → Good s k history → Good s k (noted n packet ∷ history)
good_note s k c m (note.Accept client first rate join) packet history a here small good =
    ⊎_elim (λ t. own_accept s k client first rate join packet history t (begins s history client first rate join a) good)
    (λ f. good_other s k (note.Accept client first rate join) packet history f good) (cases_Bool (eqb client k))
good_note s k c m (note.Update client rate join) packet history a here small good =
    ⊎_elim (λ t. own_update s k client rate join packet history t (update_grants s history client rate join a) small good)
    (λ f. good_other s k (note.Update client rate join) packet history f good) (cases_Bool (eqb client k))
good_note s k c m (note.StopAt client n) packet history a here small good =
    ⊎_elim (λ t. own_stop s k client n packet history t a good) (λ f. good_other s k (note.StopAt client n) packet history f good) (cases_Bool (eqb client k))
good_note s k c m (note.End client why) packet history a here small good =
    ⊎_elim (λ t. own_end s k client why packet history t a.opened.burst a.opened.is_open (not_lost s history client c m a.opened.burst why here a.ends) good)
    (λ f. good_other s k (note.End client why) packet history f good) (cases_Bool (eqb client k))
good_note s k c m (note.Burst client n q) packet history a here small good = absurd (no_tick_answers history c m here (in_tick_from_runs history a.running))
good_note s k c m (note.Repair client n q) packet history a here small good = absurd (no_tick_answers history c m here a.ticking)
good_note s k c m n packet history a here small good = good_other s k n packet history refl good

pub good_message : (s : Settings) (k c : ℕ) (m : Message) (history : History) → IsLegal s (after_message s c m (told c m ∷ history)) → Stays s k history
    → Stays s k (after_message s c m (told c m ∷ history))
unfolding arrivals
good_message s k c m history l p =
    in_answer s (Stays s k) c m (λ n packet before a here q. (good_note s k c m n packet before a here q.1 q.0, q.1)) history l (good_told s k c m history p.0, p.1)
