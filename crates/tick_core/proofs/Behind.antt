-- What a tick notes behind the runs is what it would note with nothing before.
use Rattle.std.proofs.Common.{◌≡◌, ℕ, Bool, true, false, cond, ◌==◌, List, [], ◌∷◌, ◌++◌, append-nil, append_assoc, Option, Some, None, find, refl, ap, sym, ◌∙◌}
use Rattle.rams_model.specs.declared.{Held.Held, Note.Note, Order.Order, Order.TheVariants.Rtx, Note.TheVariants.Repair, Note.TheVariants.Gone, Note.TheVariants.Forgot}
use Rattle.rams_model.specs.Service.{Settings, Wanted}
use Rattle.client_table.specs.declared.Entry.{Entry}
use Rattle.channel_parts.specs.declared.Parts.{Parts}
use Rattle.tick_draft.specs.{Drafted, new_draft, with_note, with_packet}
use Rattle.tick_core.specs.declared.allowance.Allowance.{Allowance}
use Rattle.tick_core.specs.{allowance_for, with_taken, fits, waiting, with_repair, with_wanted, with_all_wanted, Repaired, idle_after, with_forgotten, with_all_forgotten, allowances_of, repairs_behind, tick_behind}

-- the notes and orders of the second draft behind those of the first
abbrev pub behind : Drafted → Drafted → Drafted
behind d f = record { notes = d.notes ++ f.notes; orders = d.orders ++ f.orders; left = f.left }

abbrev the_draft : List Note → List Order → ℕ → Drafted
the_draft notes orders left = record { notes = notes; orders = orders; left = left }

moved : {A B : Type 0} (f : A → B) (b : Bool) (x y : A) (u v : B) → u ≡ f x → v ≡ f y → cond b u v ≡ f (cond b x y)
moved f true x y u v left right = left
moved f false x y u v left right = right

module _ (d : Drafted) where
  abbrev repaired_behind : Repaired → Repaired
  repaired_behind r = record r { draft = behind d r.draft }

  note_behind : (note : Note) (f : Drafted) → with_note (behind d f) note ≡ behind d (with_note f note)
  note_behind note f = ap (λ (l : List Note). record { notes = l; orders = d.orders ++ f.orders; left = f.left }) (append_assoc d.notes f.notes (note ∷ []))

  packet_behind : (note : Note) (client seq : ℕ) (h : Held) (f : Drafted) → with_packet (behind d f) note client seq h ≡ behind d (with_packet f note client seq h)
  packet_behind note client seq h f =
      let notes = append_assoc d.notes f.notes (note ∷ []) in
      let orders = append_assoc d.orders f.orders (Rtx client h.n seq h.packet ∷ []) in
      cc

  repair_behind : (w : Wanted) (h : Held) (o : Option Allowance) (r : Repaired) → with_repair w h o (repaired_behind r) ≡ repaired_behind (with_repair w h o r)
  repair_behind w h None r = refl
  repair_behind w h (Some a) r =
      moved repaired_behind (fits h a r.draft)
      (record { draft = with_packet r.draft (Repair w.client w.n a.seq) w.client a.seq h; allowances = with_taken w.client h.wire r.allowances; done = r.done ++ true ∷ [] }) (waiting r) _ _
      (ap (λ (f : Drafted). record { draft = f; allowances = with_taken w.client h.wire r.allowances; done = r.done ++ true ∷ [] }) (packet_behind (Repair w.client w.n a.seq) w.client a.seq h r.draft)) refl

  wanted_behind : (w : Wanted) (o : Option Held) (r : Repaired) → with_wanted w o (repaired_behind r) ≡ repaired_behind (with_wanted w o r)
  wanted_behind w None r = ap (λ (f : Drafted). record { draft = f; allowances = r.allowances; done = r.done ++ true ∷ [] }) (note_behind (Gone w.client w.n) r.draft)
  wanted_behind w (Some h) r = repair_behind w h (allowance_for w.client r.allowances) r

  all_behind : (held : List Held) (ws : List Wanted) (r : Repaired) → with_all_wanted held ws (repaired_behind r) ≡ repaired_behind (with_all_wanted held ws r)
  unfolding with_all_wanted
  all_behind held [] r = refl
  all_behind held (w ∷ ws) r =
      let o = find (λ h. h.n == w.n) held in
      ap (with_all_wanted held ws) (wanted_behind w o r) ∙ all_behind held ws (with_wanted w o r)

  all_forgotten_behind : (s : Settings) (ws : List Wanted) (es : List (ℕ × Entry)) (f : Drafted) → with_all_forgotten s ws es (behind d f) ≡ behind d (with_all_forgotten s ws es f)
  unfolding with_all_forgotten
  all_forgotten_behind s ws [] f = refl
  all_forgotten_behind s ws (e ∷ es) f =
      ap (with_all_forgotten s ws es)
      (moved (behind d) (idle_after ws e.0 e.1 == s.channel.idle) (with_note f (Forgot e.0)) f (with_note (behind d f) (Forgot e.0)) (behind d f) (note_behind (Forgot e.0) f) refl)
      ∙ all_forgotten_behind s ws es (with_forgotten s ws e.0 e.1 f)

own_of : (notes : List Note) (orders : List Order) (left : ℕ) → the_draft notes orders left ≡ behind (the_draft notes orders left) (new_draft left)
own_of notes orders left =
    ap (λ (l : List Note). the_draft l orders left) (sym (append-nil notes)) ∙ ap (λ (l : List Order). the_draft (notes ++ []) l left) (sym (append-nil orders))

-- what follows the notes of a draft, and what would follow none
pub record IsRest (p : Parts) (d : Drafted) : Type 0 where
  pub draft_is : tick_behind p d ≡ behind d (tick_behind p (new_draft d.left))
  pub done_is : (repairs_behind p d).done ≡ (repairs_behind p (new_draft d.left)).done

pub rest_of : (p : Parts) (d : Drafted) → IsRest p d
rest_of p d =
    let own = own_of d.notes d.orders d.left in
    let begun : Drafted → Repaired = λ f. record { draft = f; allowances = allowances_of p.config p.cache.held p.table.known; done = [] } in
    let repairs : repairs_behind p d ≡ repaired_behind d (repairs_behind p (new_draft d.left)) =
    ap (λ (f : Drafted). with_all_wanted p.cache.held p.queue (begun f)) own ∙ all_behind d p.cache.held p.queue (begun (new_draft d.left)) in
    record {
      draft_is =
          ap (λ (r : Repaired). with_all_forgotten p.config p.queue p.table.known r.draft) repairs
          ∙ all_forgotten_behind d p.config p.queue p.table.known (repairs_behind p (new_draft d.left)).draft;
      done_is = ap (λ (r : Repaired). r.done) repairs;
    }
