-- The notes and orders of the present tick, as it goes on.
use Rattle.std.proofs.Common.{◌≡◌, ℕ, List, [], ◌∷◌, ◌++◌, Option, Some, None, refl, ap, sym, ◌∙◌, subst, append-nil}
use Rattle.std.specs.Option.{option_to_list}
use Rattle.rams_model.specs.declared.{Order.Order, Held.Held, Info.Info, Cause.Cause, Note.Note}
use Rattle.rams_model.specs.declared.Note.TheVariants.{Burst, Repair, Gone, End, Forgot}
use Rattle.rams_model.specs.Service.{Settings, noted, History, size_of, open_burst, after_sending, channel_left, order_of, end_order, newest_notes, newest_orders}
use Rattle.rams_model.specs.Service.Bursts as model
use Rattle.rams_model.proofs.Newest.{notes_behind, orders_behind}
use Rattle.tick_draft.specs.{Drafted, with_note, with_packet, with_end, told_end}

-- What a history has noted of its newest event, with its orders, and what the channel's budget has left.
pub record Shows (s : Settings) (history : History) (d : Drafted) : Type 0 where
  pub notes : newest_notes history [] ≡ d.notes
  pub orders : newest_orders s history [] ≡ d.orders
  pub left : channel_left s history ≡ d.left

abbrev more_drafted : Settings → History → Note → Option Held → Drafted → Drafted
more_drafted s history note packet d = record {
  notes = d.notes ++ note ∷ [];
  orders = d.orders ++ option_to_list (order_of s history note packet);
  left = after_sending note (size_of packet) d.left;
}

shows_more : (s : Settings) (history : History) (note : Note) (packet : Option Held) (d : Drafted) → Shows s history d → Shows s (noted note packet ∷ history) (more_drafted s history note packet d)
unfolding newest_notes newest_orders channel_left
shows_more s history note packet d shows =
    let one = option_to_list (order_of s history note packet) in
    record {
      notes = notes_behind history (note ∷ []) ∙ ap (λ (l : List Note). l ++ note ∷ []) shows.notes;
      orders = orders_behind s history (one ++ []) ∙ (ap (λ (l : List Order). newest_orders s history [] ++ l) (append-nil one) ∙ ap (λ (l : List Order). l ++ one) shows.orders);
      left = ap (after_sending note (size_of packet)) shows.left;
    }

pub shows_burst : (s : Settings) (history : History) (k seq : ℕ) (h : Held) (d : Drafted) → Shows s history d → Shows s (noted (Burst k h.n seq) (Some h) ∷ history) (with_packet d (Burst k h.n seq) k seq h)
unfolding order_of
shows_burst s history k seq h d shows = shows_more s history (Burst k h.n seq) (Some h) d shows

pub shows_repair : (s : Settings) (history : History) (k n seq : ℕ) (h : Held) (d : Drafted) → h.n ≡ n → Shows s history d → Shows s (noted (Repair k n seq) (Some h) ∷ history) (with_packet d (Repair k n seq) k seq h)
unfolding order_of
shows_repair s history k n seq h d number shows =
    subst (λ (m : ℕ). Shows s (noted (Repair k m seq) (Some h) ∷ history) (with_packet d (Repair k m seq) k seq h)) number (shows_more s history (Repair k h.n seq) (Some h) d shows)

no_order : (s : Settings) (history : History) (note : Note) (d : Drafted) → order_of s history note None ≡ None → after_sending note 0 d.left ≡ d.left → Shows s history d → Shows s (noted note None ∷ history) (with_note d note)
no_order s history note d none same shows =
    let more = shows_more s history note None d shows in
    record {
      notes = more.notes;
      orders = more.orders ∙ (ap (λ (o : Option Order). d.orders ++ option_to_list o) none ∙ append-nil d.orders);
      left = more.left ∙ same;
    }

pub shows_gone : (s : Settings) (history : History) (k n : ℕ) (d : Drafted) → Shows s history d → Shows s (noted (Gone k n) None ∷ history) (with_note d (Gone k n))
unfolding order_of
shows_gone s history k n d shows = no_order s history (Gone k n) d refl refl shows

pub shows_forgot : (s : Settings) (history : History) (k : ℕ) (d : Drafted) → Shows s history d → Shows s (noted (Forgot k) None ∷ history) (with_note d (Forgot k))
unfolding order_of
shows_forgot s history k d shows = no_order s history (Forgot k) d refl refl shows

pub shows_end : (s : Settings) (history : History) (k : ℕ) (cause : Cause) (b : model.Burst) (last : Info) (d : Drafted) → open_burst s k history ≡ Some b → last ≡ b.last → Shows s history d
    → Shows s (noted (End k cause) None ∷ history) (with_end d k last (Some cause))
unfolding order_of
shows_end s history k cause b last d open_is last_is shows =
    let more = shows_more s history (End k cause) None d shows in
    let same : order_of s history (End k cause) None ≡ told_end k cause last = ap (end_order k cause) open_is ∙ ap (told_end k cause) (sym last_is) in
    record {
      notes = more.notes;
      orders = more.orders ∙ ap (λ (o : Option Order). d.orders ++ option_to_list o) same;
      left = more.left;
    }
