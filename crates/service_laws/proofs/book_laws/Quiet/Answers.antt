-- What an Accept, a stop and an End that answer a message say of the burst.
use Rattle.std.proofs.Common.{◌≡◌, ℕ, ◌+◌, ◌*◌, ◌≤◌, ◌≢◌, ap, sym, ◌∙◌, arith, leb}
use Rattle.std.specs.Prelude.{unwrap_or}
use Rattle.std.proofs.lemmas.Bool.{and_parts, leb-true}
use Rattle.rams_model.specs.declared.{Held.Held, Cause.Cause}
use Rattle.rams_model.specs.declared.Cause.TheVariants as cause
use Rattle.rams_model.specs.declared.Note.TheVariants as note
use Rattle.rams_model.specs.Service.{Settings, Message, History, hold, Burst, next, join_from}
use Rattle.rams_model.specs.Packets.{wires, from_number, age, is_eligible}
use Rattle.rams_model.specs.Laws.{IsAmong}
use Rattle.rams_model.proofs.Legal.{Answers, IsVerdict, Stops, EndsFor}
use Rattle.rams_model.proofs.Legality.{in_tick_from_runs}
use Rattle.rams_model.proofs.Granting.{accept_grants, accepted_choice}
use Rattle.rams_model.proofs.Induction.{no_tick_answers}
use Rattle.rams_model.proofs.Stopping.{stop_from_next}

-- A burst begins at an access point that is held and eligible, at a rate that can catch up, and its client is told the join time from there.
pub record Begins (s : Settings) (history : History) (first rate join : ℕ) : Type 0 where
  pub h : Held
  pub is_first : first ≡ h.n
  pub among : IsAmong h (hold s history)
  pub fits : wires (from_number h.n (hold s history)) + s.channel.declared ≤ s.channel.ring * s.channel.minwire
  pub suffices : s.channel.declared + 1500 ≤ rate
  pub is_join : join ≡ join_from s (hold s history) h.n rate

pub begins : (s : Settings) (history : History) (k first rate join : ℕ) → IsVerdict s history k (note.Accept k first rate join) → Begins s history first rate join
begins s history k first rate join v =
    let granted = accept_grants s history k first rate join v in
    let r = granted.0 in
    let a = granted.2 in
    let h = a.start in
    let c = accepted_choice s history k first rate join r a in
    let tests = and_parts (is_eligible s.channel (hold s history) h) (leb (unwrap_or r.min_ms 0) (age (hold s history) h)) c.0.passes in
    let fits = and_parts h.access (leb (wires (from_number h.n (hold s history)) + s.channel.declared) (s.channel.ring * s.channel.minwire)) tests.0 in
    record {
      h = h;
      is_first = sym a.number;
      among = c.0.among;
      fits = leb-true (wires (from_number h.n (hold s history)) + s.channel.declared) (s.channel.ring * s.channel.minwire) fits.1;
      suffices = a.fast;
      is_join = a.join_is ∙ ap (λ (n : ℕ). join_from s (hold s history) n rate) (sym a.number);
    }

-- A stop is at the burst's next packet or after it.
pub stops_later : (s : Settings) (history : History) (k n : ℕ) → (a : Stops s history k n) → next a.opened.burst ≤ n
stops_later s history k n a =
    let b = a.opened.burst in let least = stop_from_next b.first (next b) a.stop.first_multicast in omega (arith, least, a.n_is)

-- While a message is answered no burst is lost.
pub not_lost : (s : Settings) (history : History) (k c : ℕ) (m : Message) (b : Burst) (why : Cause) → Answers history c m → EndsFor s history k b why → why ≢ cause.Lost
not_lost s history k c m b cause.Lost here e lost = no_tick_answers history c m here (in_tick_from_runs history e.1)
not_lost s history k c m b cause.Stopped here e lost = absurd cc
not_lost s history k c m b cause.Limit here e lost = absurd cc
not_lost s history k c m b cause.Bye here e lost = absurd cc
