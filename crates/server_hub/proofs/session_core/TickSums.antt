-- The sums of a tick's answer are small.
use Rattle.std.proofs.Common.{◌≡◌, ℕ, ◌*◌, ◌^◌, ◌≤◌, cond, List, [], ◌∷◌, length, sym, subst, arith}
use Rattle.std.specs.Prelude.{All, sum_by}
use Rattle.std.specs.List.{count_by}
use Rattle.std.proofs.lemmas.List.Elements.{All-head, All-tail}
use Rattle.std.proofs.lemmas.List.Sums.{sum_by-cons, count_by-le-length}
use Rattle.std.proofs.lemmas.Nat.{mul-le}
use Rattle.rams_model.specs.declared.{Order.Order, Note.Note, Event.Event, Order.TheVariants.Rtx, Order.TheVariants.Info, Event.TheVariants.Tick}
use Rattle.rams_model.specs.declared.Note.TheVariants as note
use Rattle.rams_model.specs.Formats.{wire_size}
use Rattle.rams_model.specs.Service.{Settings, Answered, wire_sizes, answer}
use Rattle.tick_draft.specs.declared.{Step.Step, Sums.Sums}
use Rattle.tick_draft.specs.{sends, sends_of_burst, ends_burst, sums_in, sums_of, AreSmallSums}
use Rattle.tick_core.specs.declared.TickWork.{TickWork}
use Rattle.tick_core.specs.{IsWorkFor}
use Rattle.channel_parts.specs.declared.Parts.{Parts}
use Rattle.channel_parts.specs.Standing as parts
use Rattle.server_hub.specs.session_core.{IsShort, SendsShort, IsCountable, AreFew}
use Rattle.server_hub.proofs.session_core.Short.{sends_short}
use Rattle.server_hub.proofs.session_core.Counting.{tick_countable}

-- short packets have few bytes together
bytes_few : (orders : List Order) → All IsShort orders → sum_by (λ size. size) (wire_sizes orders) ≤ length orders * 1500
bytes_few [] short = omega arith
bytes_few (Rtx client n seq packet ∷ orders) short =
    omega (arith, sum_by-cons (λ (size : ℕ). size) (wire_size packet) (wire_sizes orders), bytes_few orders (All-tail IsShort (Rtx client n seq packet) orders short), All-head IsShort (Rtx client n seq packet) orders short)
bytes_few (Info client info ∷ orders) short = omega (arith, bytes_few orders (All-tail IsShort (Info client info) orders short))

-- each note of a burst's packet sends one
some_of_bursts : (notes : List Note) → count_by sends_of_burst notes ≤ count_by sends notes
some_of_bursts [] = omega arith
some_of_bursts (n ∷ notes) =
    let a = sum_by-cons (λ (m : Note). cond (sends_of_burst m) 1 0) n notes in
    let b = sum_by-cons (λ (m : Note). cond (sends m) 1 0) n notes in
    omega (arith, a, b, one n, some_of_bursts notes)
  where
    one : (m : Note) → cond (sends_of_burst m) 1 0 ≤ cond (sends m) 1 0
    one (note.Burst client n seq) = omega arith
    one (note.Repair client n seq) = omega arith
    one m = omega arith

pub answer_few : (s : Settings) (a : Answered) → IsCountable a → SendsShort a → AreFew (sums_in a)
answer_few s a few short =
    let most = mul-le (length a.orders) 1500 (2 ^ 32) 1500 (omega (arith, few.1)) (omega arith) in
    record {
      packets = omega (arith, count_by-le-length sends a.notes, few.0);
      of_bursts = some_of_bursts a.notes;
      ends = omega (arith, count_by-le-length ends_burst a.notes, few.0);
      bytes = omega (arith, bytes_few a.orders short, most);
    }

few_small : (x : Sums) → AreFew x → AreSmallSums x
few_small x few = record {
  packets = omega (arith, few.packets);
  of_bursts = omega (arith, few.of_bursts, few.packets);
  ends = omega (arith, few.ends);
  bytes = omega (arith, few.bytes);
}

pub work_few : (p : Parts) (events : List Event) (work : TickWork) → parts.StandsFor p events → IsWorkFor p events work → AreFew (sums_of work.steps.items)
work_few p events work st is = subst AreFew (sym is.steps_do.sums) (answer_few p.config (answer p.config events Tick) (tick_countable p.config events st.lawful) (sends_short p.config events Tick))

pub work_small : (p : Parts) (events : List Event) (work : TickWork) (steps : List Step) → parts.StandsFor p events → IsWorkFor p events work → steps ≡ work.steps.items → AreSmallSums (sums_of steps)
work_small p events work steps st is same = subst (λ (l : List Step). AreSmallSums (sums_of l)) (sym same) (few_small (sums_of work.steps.items) (work_few p events work st is))
