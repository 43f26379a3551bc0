-- What room is left as text and datagrams go out.
use Rattle.std.proofs.Common.{◌≡◌, ℕ, ◌+◌, List, [], ◌∷◌, ◌++◌, length, Result, Ok, Err, refl, sym, ap, subst, ◌∙◌, arith, length-append, append_assoc, append-nil}
use Rattle.std.proofs.lemmas.List.Sums.{sum_by-append}
use Rattle.std.specs.Prelude.{OnOk}
use Rattle.std.proofs.lemmas.List.Concat.{flat_map-append}
use Rattle.ram_io.specs.{Outgoing}
use Rattle.server_hub.specs.declared.HubEvent.{HubEvent}
use Rattle.server_hub.specs.{after_event}
use Rattle.server_hub.specs.Served.{Served}
use Rattle.trace_loop.specs.journal_book.{behind, datagrams_of, event_line, event_lines, sent_for}
use Rattle.trace_loop.specs.declared.Stop.{Stop}
use Rattle.serve_loop.specs.{bytes_of, OnlyMemoryStops, Room, HasRoom}

pub bytes_append : (xs ys : List Outgoing) → bytes_of (xs ++ ys) ≡ bytes_of xs + bytes_of ys
bytes_append xs ys = sum_by-append (λ (d : Outgoing). length d.bytes) xs ys

-- room for datagrams is room for the first of them, beside that for the others
pub wire_parts : (w : ℕ → ℕ → Type 0) (left first rest : List Outgoing) (bytes count : ℕ) → left ≡ first ++ rest → w (bytes_of left + bytes) (length left + count)
    → w (bytes_of first + (bytes_of rest + bytes)) (length first + (length rest + count))
wire_parts w left first rest bytes count is h =
    let all = ap bytes_of is ∙ bytes_append first rest in
    let many = ap length is ∙ length-append first rest in
    let size : bytes_of left + bytes ≡ bytes_of first + (bytes_of rest + bytes) = omega arith in
    let number : length left + count ≡ length first + (length rest + count) = omega arith in
    subst (λ n. w (bytes_of first + (bytes_of rest + bytes)) n) number (subst (λ n. w n (length left + count)) size h)

-- where nothing is left
pub wire_none : (w : ℕ → ℕ → Type 0) (left : List Outgoing) (bytes count : ℕ) → left ≡ [] → w (bytes_of left + bytes) (length left + count) → w bytes count
wire_none w left bytes count is h =
    let size : bytes_of left + bytes ≡ bytes = ap (λ (l : List Outgoing). bytes_of l + bytes) is ∙ omega arith in
    let number : length left + count ≡ count = ap (λ (l : List Outgoing). length l + count) is ∙ omega arith in
    subst (λ n. w bytes n) number (subst (λ n. w n (length left + count)) size h)

-- where no datagram goes out any more
pub quiet_room : (sink : ℕ → Type 0) (wire : ℕ → ℕ → Type 0) (text : List ℕ) (more : Room) → sink (length text + more.text) → wire more.bytes more.datagrams → HasRoom sink wire text [] more
quiet_room sink wire text more fits quiet = record {
  text_fits = fits;
  datagrams_fit =
      let size : more.bytes ≡ bytes_of [] + more.bytes = omega arith in
      let number : more.datagrams ≡ length {A = Outgoing} [] + more.datagrams = omega arith in
      subst (λ n. wire (bytes_of [] + more.bytes) n) number (subst (λ n. wire n more.datagrams) size quiet);
}

-- room for what waits and for a text behind it
pub text_parts : (sink : ℕ → Type 0) (waits text : List ℕ) (room : ℕ) → sink (length (waits ++ text) + room) → sink (length waits + length text + room)
text_parts sink waits text room h = subst (λ n. sink (n + room)) (length-append waits text) h

-- nothing goes to the wire
pub wire_quiet : (wire : ℕ → ℕ → Type 0) (datagrams : List Outgoing) (more : Room) → datagrams ≡ [] → wire (bytes_of datagrams + more.bytes) (length datagrams + more.datagrams) → wire more.bytes more.datagrams
wire_quiet wire datagrams more none h = wire_none wire datagrams more.bytes more.datagrams none h

-- what holds where only memory stops a call
pub only_weaker : {T : Type 0} (r : Result T Stop) (P Q : Type 0) → (P → Q) → OnlyMemoryStops r P → OnlyMemoryStops r Q
only_weaker (Ok t) P Q f p = f p
only_weaker (Err stop) P Q f p = p

pub only_both : {T : Type 0} (r : Result T Stop) (A P : Type 0) → OnOk r A → OnlyMemoryStops r P → OnlyMemoryStops r (A × P)
only_both (Ok t) A P a p = (a, p)
only_both (Err stop) A P a p = p

-- what is sent for events and for those behind them
pub sent_append : (port : ℕ) (channels : List Served) (xs ys : List HubEvent) → sent_for port channels (xs ++ ys) ≡ sent_for port channels xs ++ sent_for port (behind xs channels) ys
unfolding sent_for behind
sent_append port channels [] ys = refl
sent_append port channels (x ∷ xs) ys =
    ap (λ (l : List Outgoing). datagrams_of port x channels ++ l) (sent_append port (after_event x channels) xs ys)
    ∙ sym (append_assoc (datagrams_of port x channels) (sent_for port (after_event x channels) xs) (sent_for port (behind xs (after_event x channels)) ys))

pub behind_append : (channels : List Served) (xs ys : List HubEvent) → behind (xs ++ ys) channels ≡ behind ys (behind xs channels)
unfolding behind
behind_append channels [] ys = refl
behind_append channels (x ∷ xs) ys = behind_append (after_event x channels) xs ys

-- the room that these events need, and more
abbrev pub room_for : ℕ → List Served → List HubEvent → Room → Room
room_for port channels events more =
    record { text = length (event_lines events) + more.text; bytes = bytes_of (sent_for port channels events) + more.bytes; datagrams = length (sent_for port channels events) + more.datagrams }

module _ (sink : ℕ → Type 0) (wire : ℕ → ℕ → Type 0) (waits : List ℕ) (port : ℕ) (channels : List Served) where
  -- room for events is room for the first of them, beside that for the others
  pub room_split : (xs ys : List HubEvent) (more : Room) → HasRoom sink wire (waits ++ event_lines (xs ++ ys)) (sent_for port channels (xs ++ ys)) more
      → HasRoom sink wire (waits ++ event_lines xs) (sent_for port channels xs) (room_for port (behind xs channels) ys more)
  room_split xs ys more h =
      let lines = length-append waits (event_lines (xs ++ ys)) in
      let both = ap length (flat_map-append event_line xs ys) ∙ length-append (event_lines xs) (event_lines ys) in
      let first = length-append waits (event_lines xs) in
      let size : length (waits ++ event_lines (xs ++ ys)) + more.text ≡ length (waits ++ event_lines xs) + (length (event_lines ys) + more.text) = omega (arith, lines, both, first) in
      record {
        text_fits = subst sink size h.text_fits;
        datagrams_fit = wire_parts wire (sent_for port channels (xs ++ ys)) (sent_for port channels xs) (sent_for port (behind xs channels) ys) more.bytes more.datagrams (sent_append port channels xs ys) h.datagrams_fit;
      }

  pub room_join : (ys : List HubEvent) (more : Room) → HasRoom sink wire waits [] (room_for port channels ys more) → HasRoom sink wire (waits ++ event_lines ys) (sent_for port channels ys) more
  room_join ys more h =
      let lines = length-append waits (event_lines ys) in
      let size : length waits + (length (event_lines ys) + more.text) ≡ length (waits ++ event_lines ys) + more.text = omega (arith, lines) in
      record { text_fits = subst sink size h.text_fits; datagrams_fit = wire_none wire [] (bytes_of (sent_for port channels ys) + more.bytes) (length (sent_for port channels ys) + more.datagrams) refl h.datagrams_fit }

  -- one event, and none
  pub room_one : (events : List HubEvent) (e : HubEvent) (more : Room) → events ≡ e ∷ [] → HasRoom sink wire (waits ++ event_lines events) (sent_for port channels events) more
      → HasRoom sink wire (waits ++ event_line e) (datagrams_of port e channels) more
  unfolding sent_for
  room_one events e more is h =
      let one = subst (λ (es : List HubEvent). HasRoom sink wire (waits ++ event_lines es) (sent_for port channels es) more) is h in
      subst (λ (l : List Outgoing). HasRoom sink wire (waits ++ event_line e) l more) (append-nil (datagrams_of port e channels))
      (subst (λ (l : List ℕ). HasRoom sink wire (waits ++ l) (datagrams_of port e channels ++ []) more) (append-nil (event_line e)) one)

  pub room_none : (events : List HubEvent) (more : Room) → events ≡ [] → HasRoom sink wire (waits ++ event_lines events) (sent_for port channels events) more → HasRoom sink wire waits [] more
  unfolding sent_for
  room_none events more is h =
      let none = subst (λ (es : List HubEvent). HasRoom sink wire (waits ++ event_lines es) (sent_for port channels es) more) is h in
      subst (λ (l : List ℕ). HasRoom sink wire l [] more) (append-nil waits) none

  -- the same room of another sink and another wire
  pub room_at : (later : ℕ → ℕ → Type 0) (text : List ℕ) (datagrams : List Outgoing) (more : Room) → ((bytes count : ℕ) → wire bytes count → later bytes count) → HasRoom sink wire text datagrams more → HasRoom sink later text datagrams more
  room_at later text datagrams more goes h = record { text_fits = h.text_fits; datagrams_fit = goes (bytes_of datagrams + more.bytes) (length datagrams + more.datagrams) h.datagrams_fit }
