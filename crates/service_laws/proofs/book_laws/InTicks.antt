-- When packets are sent, and when runs are noted.
use Rattle.std.proofs.Common.{◌≡◌, ℕ, ◌*◌, ◌≤◌, ◌≢◌, true, [], ◌∷◌, ◌++◌, Option, Some, None, refl, ap, arith}
use Rattle.std.specs.Prelude.{IsSomeAnd}
use Rattle.std.proofs.lemmas.Bool.{true≢false}
use Rattle.rams_model.specs.declared.Held.{Held}
use Rattle.rams_model.specs.declared.Note.TheVariants as note
use Rattle.rams_model.specs.Service.{Settings, Heard, live, dropped, feedback, unframed, tick, began, told, noted, History, opened, Burst, open_burst, channel_left}
use Rattle.rams_model.specs.Laws.{NoneIs, is_event, is_sending, sizes_sent, ticks_begun}
use Rattle.service_laws.specs.book_laws.{is_tick_start, is_past_runs, gain, gains_in, left_of, IsOpenAtEachTick}
use Rattle.rams_model.proofs.Legal.{is_tick, in_tick, in_runs, IsLegal}
use Rattle.rams_model.proofs.Legality.{in_tick_from_runs}
use Rattle.service_laws.proofs.book_laws.Sums.{part_of_sum}
use Rattle.service_laws.proofs.book_laws.BurstAmounts.{open_among}
use Rattle.service_laws.proofs.book_laws.Shares.{lefts, covered}

is_tick_only : (heard : Heard) → is_tick heard ≡ true → heard ≡ tick
is_tick_only (live a) e = absurd cc
is_tick_only (dropped note) e = absurd cc
is_tick_only (feedback client messages) e = absurd cc
is_tick_only (unframed client fault) e = absurd cc
is_tick_only tick e = refl

in_tick_of : (heard : Heard) (now before : History) → NoneIs is_event now → in_tick (now ++ began heard ∷ before) ≡ true → heard ≡ tick
in_tick_of heard [] before none t = is_tick_only heard t
in_tick_of heard (began other ∷ now) before none t = absurd (true≢false none.0)
in_tick_of heard (told client message ∷ now) before none t = absurd cc
in_tick_of heard (noted note packet ∷ now) before none t = in_tick_of heard now before none.1 t

pub only_ticks : (s : Settings) (heard : Heard) (now before : History) → IsLegal s (now ++ began heard ∷ before) → heard ≢ tick → NoneIs is_event now
    → sizes_sent is_sending now ≡ 0
only_ticks s heard [] before l other none = refl
only_ticks s heard (began event ∷ now) before l other none = absurd (true≢false none.0)
only_ticks s heard (told client message ∷ now) before l other none = only_ticks s heard now before l other none.1
only_ticks s heard (noted (note.Burst client n q) packet ∷ now) before l other none =
    absurd (other (in_tick_of heard now before none.1 (in_tick_from_runs (now ++ began heard ∷ before) l.0.running)))
only_ticks s heard (noted (note.Repair client n q) packet ∷ now) before l other none = absurd (other (in_tick_of heard now before none.1 l.0.ticking))
only_ticks s heard (noted note packet ∷ now) before l other none = only_ticks s heard now before l.1 other none.1

-- runs alone are noted
only_runs : (now before : History) → NoneIs is_tick_start now → in_runs (now ++ began tick ∷ before) ≡ true → NoneIs is_past_runs now
only_runs [] before none r = tt
only_runs (began tick ∷ now) before none r = absurd (true≢false none.0)
only_runs (began heard ∷ now) before none r = absurd cc
only_runs (told client message ∷ now) before none r = absurd cc
only_runs (noted (note.Burst client n q) packet ∷ now) before none r = (refl, only_runs now before none.1 r)
only_runs (noted (note.End client cause) packet ∷ now) before none r = (refl, only_runs now before none.1 r)
only_runs (noted note packet ∷ now) before none r = absurd cc

pub runs_first : (s : Settings) (client n sequence : ℕ) (packet : Option Held) (now before : History)
    → IsLegal s (noted (note.Burst client n sequence) packet ∷ now ++ began tick ∷ before) → NoneIs is_tick_start now → NoneIs is_past_runs now
runs_first s client n sequence packet now before l none = only_runs now before none l.0.running

runs_now : (now before : History) → NoneIs is_past_runs now → in_runs (now ++ began tick ∷ before) ≡ true
runs_now [] before only = refl
runs_now (noted (note.Burst client n q) packet ∷ now) before only = runs_now now before only.1
runs_now (noted (note.End client cause) packet ∷ now) before only = runs_now now before only.1
runs_now (i ∷ now) before only = absurd (true≢false only.0)

pub runs_covered : (s : Settings) (now before : History) → IsLegal s (now ++ began tick ∷ before) → NoneIs is_past_runs now
    → lefts s (now ++ began tick ∷ before) ≤ channel_left s (now ++ began tick ∷ before)
runs_covered s now before l only = covered s (now ++ began tick ∷ before) l (runs_now now before only)

pub run_covered : (s : Settings) (k : ℕ) (b : Burst) (now before : History) → IsLegal s (now ++ began tick ∷ before) → NoneIs is_past_runs now
    → open_burst s k (now ++ began tick ∷ before) ≡ Some b → b.left ≤ channel_left s (now ++ began tick ∷ before)
run_covered s k b now before l only is =
    let history = now ++ began tick ∷ before in
    omega (arith, part_of_sum (λ j. left_of (open_burst s j history)) k (opened history) (open_among s k history b is), ap left_of is, runs_covered s now before l only)

-- a burst that is open as each tick begins
at_rate : (s : Settings) (rate : ℕ) (o : Option Burst) → IsSomeAnd o (λ b. b.rate ≡ rate) → gain s o ≡ rate
at_rate s rate None is = absurd is
at_rate s rate (Some b) is = is

pub gains_at_rate : (s : Settings) (k rate : ℕ) (stretch before : History) → IsOpenAtEachTick s k rate stretch before → gains_in s k stretch before ≡ ticks_begun stretch * rate
gains_at_rate s k rate [] before o = omega arith
gains_at_rate s k rate (began tick ∷ stretch) before o =
    omega (arith, at_rate s rate (open_burst s k (stretch ++ before)) o.0, gains_at_rate s k rate stretch before o.1)
gains_at_rate s k rate (began heard ∷ stretch) before o = gains_at_rate s k rate stretch before o
gains_at_rate s k rate (told client message ∷ stretch) before o = gains_at_rate s k rate stretch before o
gains_at_rate s k rate (noted note packet ∷ stretch) before o = gains_at_rate s k rate stretch before o
