-- What was told.
use Rattle.std.proofs.Common.{◌≡◌, true, refl, sym, ap, ◌∙◌, subst}
use Rattle.rams_model.specs.Receiver.{Told, Reception, told_by, after_told, told_answer, with_info}
use Rattle.receiver_core.specs.{Seen, with_got}
use Rattle.receiver_core.proofs.Calls.{after_info, after_unread, others_keep}
use Rattle.receiver_core.proofs.receiver.Receiver.info.Goals as goal

pub returns-in-Err-clause-after : goal.returns-in-Err-clause-after
returns-in-Err-clause-after c =
    let i = c.self.inside in
    let s : Seen = record { tuned = i.tuned; got = record { named = i.named; ended = i.ended; play = i.play } } in
    subst (λ (t : Seen). t ≡ with_got (after_told (told_by t.tuned c.args.bytes.now) t.got) t) c.self.view_is
    (after_unread s (told_by s.tuned c.args.bytes.now) c.in-Err.came c.in-Err.ensures)

pub returns-in-Taken-clause-after : goal.returns-in-Taken-clause-after
returns-in-Taken-clause-after c =
    let i = c.self.inside in
    let s : Seen = record { tuned = i.tuned; got = record { named = i.named; ended = i.ended; play = i.play } } in
    subst (λ (t : Seen). with_got (record s.got { named = c.in-Ok.info.first }) s ≡ with_got (after_told (told_by t.tuned c.args.bytes.now) t.got) t) c.self.view_is
    (after_info s (told_by s.tuned c.args.bytes.now) c.in-Ok.info _ c.in-Ok.ensures c.in-Taken.ensures)

pub returns-in-Ended-clause-after : goal.returns-in-Ended-clause-after
returns-in-Ended-clause-after c =
    let i = c.self.inside in
    let s : Seen = record { tuned = i.tuned; got = record { named = i.named; ended = i.ended; play = i.play } } in
    subst (λ (t : Seen). with_got (record s.got { ended = true }) s ≡ with_got (after_told (told_by t.tuned c.args.bytes.now) t.got) t) c.self.view_is
    (after_info s (told_by s.tuned c.args.bytes.now) c.in-Ok.info _ c.in-Ok.ensures c.in-Ended.ensures)

pub returns-in_default : goal.returns-in_default
returns-in_default c =
    let i = c.self.inside in
    let s : Seen = record { tuned = i.tuned; got = record { named = i.named; ended = i.ended; play = i.play } } in
    let told = told_by s.tuned c.args.bytes.now in
    let came = c.info_came-came.result in
    let same : with_info came c.in-Ok.info s.got ≡ s.got = others_keep came c.in-Ok.info s.got c.in_default.not-Taken c.in_default.not-Ended in
    record {
      came = subst (λ (t : Seen). came ≡ told_answer (told_by t.tuned c.args.bytes.now) t.got) c.self.view_is
          (c.info_came-came.ensures ∙ ap (λ (t : Told). told_answer t s.got) c.in-Ok.ensures);
      after = subst (λ (t : Seen). t ≡ with_got (after_told (told_by t.tuned c.args.bytes.now) t.got) t) c.self.view_is
          (ap (λ (r : Reception). with_got r s) (sym same) ∙ after_info s told c.in-Ok.info came c.in-Ok.ensures c.info_came-came.ensures);
      reach = refl;
    }
