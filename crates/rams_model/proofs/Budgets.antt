-- What budgets have left in a tick.
use Rattle.std.proofs.Common.{◌≡◌, ℕ, ◌+◌, ◌-◌, min, Bool, true, false, cond, List, [], ◌∷◌, ◌++◌, Option, Some, refl, ap, ◌∙◌, arith, eqb}
use Rattle.std.proofs.lemmas.Bool.{cond_both, both_ways, true≢false}
use Rattle.rams_model.specs.declared.note.Note.TheVariants as note
use Rattle.rams_model.specs.Service.{Settings, tick, began, told, noted, History, sequence, Burst, begun, in_tick, after_note, newest_changed, size_of, bursts, channel_left}
use Rattle.rams_model.specs.Laws.{NoneIs, is_event, is_accept_of, is_sending, is_sending_to, sizes_sent, newest_left}

pub channel_has_left : (s : Settings) (later before : History) → NoneIs is_event later
    → channel_left s (later ++ began tick ∷ before) ≡ (s.channel.share + min s.channel.swell (channel_left s before)) - sizes_sent is_sending later
unfolding channel_left
channel_has_left s [] before none = omega arith
channel_has_left s (began heard ∷ later) before none = absurd (true≢false none.0)
channel_has_left s (told client message ∷ later) before none = channel_has_left s later before none.1
channel_has_left s (noted (note.Burst client n q) packet ∷ later) before none = let rest = channel_has_left s later before none.1 in omega (arith, rest)
channel_has_left s (noted (note.Repair client n q) packet ∷ later) before none = let rest = channel_has_left s later before none.1 in omega (arith, rest)
channel_has_left s (noted note packet ∷ later) before none = channel_has_left s later before none.1

-- a note that takes its packet's size from the budget of the newest burst, where it is of the client
takes : (c : Bool) (change : Burst → Burst) (size : ℕ) → ((b : Burst) → (change b).left ≡ b.left - size) → (bs : List Burst) (budget sent : ℕ)
    → newest_left bs ≡ Some (budget - sent) → newest_left (cond c (newest_changed change bs) bs) ≡ Some (budget - cond c (sent + size) sent)
takes false change size less bs budget sent e = e
takes true change size less [] budget sent e = absurd cc
takes true change size less (b ∷ bs) budget sent e =
    let left : b.left ≡ budget - sent = cc in
    ap (λ (n : ℕ). Some n) (less b ∙ omega (arith, left))

-- a note that takes nothing
takes_none : (c : Bool) (change : Burst → Burst) → ((b : Burst) → (change b).left ≡ b.left) → (bs : List Burst) (o : Option ℕ)
    → newest_left bs ≡ o → newest_left (cond c (newest_changed change bs) bs) ≡ o
takes_none false change same bs o e = e
takes_none true change same [] o e = e
takes_none true change same (b ∷ bs) o e = ap (λ (n : ℕ). Some n) (same b) ∙ e

pub burst_has_left : (s : Settings) (k : ℕ) (b : Burst) (others : List Burst) (later before : History) → bursts s k before ≡ b ∷ others
    → NoneIs is_event later → NoneIs (is_accept_of k) later
    → newest_left (bursts s k (later ++ began tick ∷ before)) ≡ Some ((b.rate + min s.channel.depth b.left) - sizes_sent (is_sending_to k) later)
unfolding bursts
burst_has_left s k b others [] before e none quiet =
    ap (λ (bs : List Burst). newest_left (newest_changed (in_tick s) bs)) e ∙ ap (λ (n : ℕ). Some n) (omega arith)
burst_has_left s k b others (began heard ∷ later) before e none quiet = absurd (true≢false none.0)
burst_has_left s k b others (told client message ∷ later) before e none quiet = burst_has_left s k b others later before e none.1 quiet.1
burst_has_left s k b others (noted (note.Accept client first rate join) packet ∷ later) before e none quiet =
    let history = later ++ began tick ∷ before in
    let rest = burst_has_left s k b others later before e none.1 quiet.1 in
    cond_both (eqb client k) (begun s first rate join (sequence s k history) ∷ bursts s k history) (bursts s k history)
    (λ l. newest_left l ≡ Some ((b.rate + min s.channel.depth b.left) - sizes_sent (is_sending_to k) later)) (λ t. absurd (both_ways (eqb client k) quiet.0 t)) (λ g. rest)
burst_has_left s k b others (noted (note.Burst client n q) packet ∷ later) before e none quiet =
    takes (eqb client k) (after_note s (note.Burst client n q) (size_of packet)) (size_of packet) (λ x. refl) (bursts s k (later ++ began tick ∷ before))
    (b.rate + min s.channel.depth b.left) (sizes_sent (is_sending_to k) later) (burst_has_left s k b others later before e none.1 quiet.1)
burst_has_left s k b others (noted (note.Repair client n q) packet ∷ later) before e none quiet =
    takes (eqb client k) (after_note s (note.Repair client n q) (size_of packet)) (size_of packet) (λ x. refl) (bursts s k (later ++ began tick ∷ before))
    (b.rate + min s.channel.depth b.left) (sizes_sent (is_sending_to k) later) (burst_has_left s k b others later before e none.1 quiet.1)
burst_has_left s k b others (noted (note.Update client new join) packet ∷ later) before e none quiet =
    takes_none (eqb client k) (after_note s (note.Update client new join) (size_of packet)) (λ x. refl) (bursts s k (later ++ began tick ∷ before))
    (Some ((b.rate + min s.channel.depth b.left) - sizes_sent (is_sending_to k) later)) (burst_has_left s k b others later before e none.1 quiet.1)
burst_has_left s k b others (noted (note.StopAt client n) packet ∷ later) before e none quiet =
    takes_none (eqb client k) (after_note s (note.StopAt client n) (size_of packet)) (λ x. refl) (bursts s k (later ++ began tick ∷ before))
    (Some ((b.rate + min s.channel.depth b.left) - sizes_sent (is_sending_to k) later)) (burst_has_left s k b others later before e none.1 quiet.1)
burst_has_left s k b others (noted (note.End client cause) packet ∷ later) before e none quiet =
    takes_none (eqb client k) (after_note s (note.End client cause) (size_of packet)) (λ x. refl) (bursts s k (later ++ began tick ∷ before))
    (Some ((b.rate + min s.channel.depth b.left) - sizes_sent (is_sending_to k) later)) (burst_has_left s k b others later before e none.1 quiet.1)
burst_has_left s k b others (noted note packet ∷ later) before e none quiet = burst_has_left s k b others later before e none.1 quiet.1
