-- How many notes a tick makes at most.
use Rattle.std.proofs.Common.{◌≡◌, ℕ, Bool, ◌+◌, ◌*◌, ◌^◌, ◌<◌, ◌≤◌, List, [], ◌∷◌, ◌++◌, Option, Some, None, length, ap, sym, ◌∙◌, arith, append_assoc}
use Rattle.std.specs.Prelude.{option_to_list}
use Rattle.std.proofs.lemmas.Nat.{mul-le}
use Rattle.rams_model.specs.declared.{Order.Order, Event.Event, Note.Note, Event.TheVariants.Tick}
use Rattle.rams_model.specs.Service.{Settings, tick, heard_of, began, told, noted, History, hold, known, opened, has_open, pending, bursts_served, repairs_sent, idle_forgotten, after_tick, order_of, newest_notes, newest_orders, after_hearing, history_of, answer}
use Rattle.channel_config.specs.{IsLawful}
use Rattle.channel_parts.proofs.Facts.{known_clients_are_few, opened_are_the_known_with_bursts, repairs_are_within_limits}
use Rattle.channel_parts.proofs.Given.{moment}
use Rattle.service_laws.specs.book_laws.{IsMoment}
use Rattle.rams_model.proofs.Legal.{is_of_runs}
use Rattle.rams_model.proofs.Items.{AreOfKind, is_repair, is_forgotten, Puts, PutsFew, all_served_few, all_repaired_few, all_forgotten_few}
use Rattle.rams_model.proofs.ListFacts.{few_passed}
use Rattle.rams_model.proofs.Holding.{few_held}
use Rattle.server_hub.specs.session_core.{IsCountable}

-- the notes since the newest event began
abbrev noted_since : History → ℕ
noted_since [] = 0
noted_since (began heard ∷ history) = 0
noted_since (told client message ∷ history) = noted_since history
noted_since (noted n packet ∷ history) = noted_since history + 1

count_notes : (history : History) (later : List Note) → length (newest_notes history later) ≡ noted_since history + length later
unfolding newest_notes
count_notes [] later = omega arith
count_notes (began heard ∷ history) later = omega arith
count_notes (told client message ∷ history) later = count_notes history later
count_notes (noted n packet ∷ history) later = omega (arith, count_notes history (n ∷ later))

one_order : (o : Option Order) (later : List Order) → length (option_to_list o ++ later) ≤ length later + 1
one_order None later = omega arith
one_order (Some order) later = omega arith

-- each note has at most one order
count_orders : (s : Settings) (history : History) (later : List Order) → length (newest_orders s history later) ≤ noted_since history + length later
unfolding newest_orders
count_orders s [] later = omega arith
count_orders s (began heard ∷ history) later = omega arith
count_orders s (told client message ∷ history) later = count_orders s history later
count_orders s (noted n packet ∷ history) later =
    let o = order_of s history n packet in omega (arith, count_orders s history (option_to_list o ++ later), one_order o later)

-- ---- a part of a tick

part_counted : (kind : Note → Bool) (items history : History) → AreOfKind kind items → noted_since (items ++ history) ≡ length items + noted_since history
part_counted kind [] history a = omega arith
part_counted kind (noted n packet ∷ items) history a = omega (arith, part_counted kind items history a.1)
part_counted kind (began heard ∷ items) history a = absurd a
part_counted kind (told client message ∷ items) history a = absurd a

counted : (kind : Note → Bool) (most : ℕ) (before after : History) → PutsFew kind most before after → noted_since after ≤ noted_since before + most
counted kind most before after p = omega (arith, ap noted_since p.puts.splits, part_counted kind p.puts.items before p.puts.notes, p.few)

-- ---- the tick

opened_few : (s : Settings) (events : List Event) → IsLawful s → length (opened (history_of s events)) ≤ s.channel.clients
opened_few s events lawful =
    let history = history_of s events in
    omega (
      arith,
      ap length (opened_are_the_known_with_bursts s events lawful),
      few_passed (λ (k : ℕ). has_open s k history) (known history),
      known_clients_are_few s history (moment s events),
    )

-- an earlier part of a moment's history
earlier : (s : Settings) (kind : Note → Bool) (before after : History) → Puts kind before after → IsMoment s after → IsMoment s before
earlier s kind before after p m = record {
  events = m.events;
  later = m.later ++ p.items;
  splits = m.splits ∙ ap (λ (h : History). m.later ++ h) p.splits ∙ sym (append_assoc m.later p.items before);
}

runs_bound : (clients held : ℕ) → clients ≤ 1024 → held ≤ 32768 → clients * (held + 1) ≤ 33555456
runs_bound clients held c h = let most = mul-le (clients) (held + 1) 1024 32769 c (omega (arith, h)) in omega (arith, most)

tick_counted : (s : Settings) (events : List Event) → IsLawful s → noted_since (history_of s (Tick ∷ events)) < 2 ^ 32
unfolding history_of after_hearing after_tick heard_of opened
tick_counted s events lawful =
    let start = began tick ∷ history_of s events in
    let served = bursts_served s start in
    let sent = repairs_sent s served in
    let done = idle_forgotten s sent in
    let runs = all_served_few s (hold s start) (opened start) start in
    let repairs = all_repaired_few s (hold s served) (pending served) served in
    let forgotten = all_forgotten_few s (known sent) sent in
    let at_end : IsMoment s done = moment s (Tick ∷ events) in
    let at_sent = earlier s is_forgotten sent done forgotten.puts at_end in
    let at_served = earlier s is_repair served sent repairs.puts at_sent in
    let few_runs = runs_bound (length (opened start)) (length (hold s start)) (omega (arith, opened_few s events lawful, lawful.clients_most)) (omega (arith, few_held s start, lawful.ring_most)) in
    omega (
      arith,
      counted is_of_runs (length (opened start) * (length (hold s start) + 1)) start served runs,
      few_runs,
      counted is_repair (length (pending served)) served sent repairs,
      (repairs_are_within_limits s served at_served).in_all,
      counted is_forgotten (length (known sent)) sent done forgotten,
      known_clients_are_few s sent at_sent,
      lawful.clients_most,
    )

pub tick_countable : (s : Settings) (events : List Event) → IsLawful s → IsCountable (answer s events Tick)
tick_countable s events lawful =
    let history = history_of s (Tick ∷ events) in
    let few = tick_counted s events lawful in
    (omega (arith, few, count_notes history []), omega (arith, few, count_orders s history []))
