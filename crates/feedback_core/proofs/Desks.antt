-- The same desk.
use Rattle.std.proofs.Common.{List, ◌∙◌, ap, subst, ℕ}
use Rattle.rams_model.specs.declared.{Held.Held, Note.Note}
use Rattle.rams_model.specs.Service.{Settings, Message, after_messages, room, number_answer}
use Rattle.channel_cache.specs.Seen as caches
use Rattle.feedback_core.specs.declared.desk.Desk.{Desk}
use Rattle.feedback_core.specs.{IsPage, IsTurned, IsAnswered, Holds, IsHeard, ServesAt, IsSameDesk}

pub same_still : (first old new : Desk) → IsSameDesk first old → IsSameDesk old new → IsSameDesk first new
same_still first old new so_far same = record {
  config = same.config ∙ so_far.config;
  cache = same.cache ∙ so_far.cache;
  one = record { client = same.one.client ∙ so_far.one.client; has_place = same.one.has_place ∙ so_far.one.has_place };
}

-- these messages are answered on the desk, which then is the other
abbrev pub IsStep : Settings → List Held → Desk → Desk → List Message → Type 0
IsStep s held d e ms = ServesAt s (Holds s held) d.visitor d.queue.now (λ before history. IsPage s d.visitor.client history d.page
    → IsTurned s before (after_messages s d.visitor.client ms history) e.queue.now e.visitor e.page)

pub step_before : (old d e : Desk) (ms : List Message) → IsSameDesk old d → IsStep d.config.now d.cache.now.held d e ms → IsStep old.config.now old.cache.now.held d e ms
step_before old d e ms same step =
    subst (λ (s : Settings). IsStep s old.cache.now.held d e ms) same.config
    (subst (λ (held : List Held). IsStep d.config.now held d e ms) (ap (λ (k : caches.Seen). k.held) same.cache) step)

-- this number is answered on the desk with this note
abbrev pub IsNumber : Settings → List Held → Desk → Desk → ℕ → ℕ → Note → Type 0
IsNumber s held d e sender low note = ServesAt s (IsHeard s held sender) d.visitor d.queue.now
    (λ before history. IsAnswered s before history e.queue.now e.visitor note (number_answer room s held d.visitor.client history low))

pub number_before : (old d e : Desk) (sender low : ℕ) (note : Note) → IsSameDesk old d → IsNumber d.config.now d.cache.now.held d e sender low note
    → IsNumber old.config.now old.cache.now.held d e sender low note
number_before old d e sender low note same number =
    subst (λ (s : Settings). IsNumber s old.cache.now.held d e sender low note) same.config
    (subst (λ (held : List Held). IsNumber d.config.now held d e sender low note) (ap (λ (k : caches.Seen). k.held) same.cache) number)
