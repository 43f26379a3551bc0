-- A pass that drew tickets, was served and had its turn.
use Rattle.std.proofs.Common.{◌≡◌, ℕ, ◌-◌, ◌<◌, List, [], length, Some, sym, ap, ◌∙◌, subst}
use Rattle.rams_model.specs.Service.{Answered, Settings}
use Rattle.rams_model.specs.declared.Event.{Event}
use Rattle.channel_book.specs.declared.entry.Entry.{Entry}
use Rattle.channel_book.specs.{IsLegal, StartsWith, calls_by, HasTaken, HasTakenFront, HasAnsweredAll, HasAnsweredFront}
use Rattle.channel_book.specs.channel_lock.Steps.{IsServed, Mine, rested}
use Rattle.channel_book.specs.channel_lock.Passes.{IsAtRest, waiting}
use Rattle.channel_book.proofs.channel_lock.Calling.{at_rest}
use Rattle.channel_book.proofs.channel_lock.Taking.{told_all, told_front}
use Rattle.channel_book.specs.channel_lock.{times}
use Rattle.channel_book.proofs.channel_lock.Lists.{stands_first}

module _ (s : Settings) (list seen ticket size : ℕ) (me drawn served done : Mine) (r : IsAtRest s list seen me) (d : drawn ≡ (record me.0 { left = me.0.left - size; ticket = ticket; size = size }, me.1))
    (v : IsServed s drawn served) (w : done ≡ (rested served.0 done.0.log, [])) where
  drawn_is : drawn ≡ (waiting s list me.0.log (me.0.left - size) ticket size, [])
  drawn_is = d ∙ ap (λ (m : Mine). (record m.0 { left = me.0.left - size; ticket = ticket; size = size }, m.1)) r.seat_is

  served_log : served.0.log ≡ v.log
  served_log = ap (λ (m : Mine). m.0.log) v.seat_is

  done_is : done ≡ (waiting s list done.0.log (me.0.left - size) 0 0, [])
  done_is = w ∙ ap (λ (m : Mine). (rested m.0 done.0.log, [])) v.seat_is ∙ ap (λ (m : Mine). (rested m.0 done.0.log, [])) drawn_is

  pub rests_again : (count : ℕ) → count ≡ length done.0.log → ((x : Settings) → served.0.config ≡ Some x → IsLegal x done.0.log) → IsAtRest s list count done
  rests_again count is legal =
      let settings : served.0.config ≡ Some s = ap (λ (m : Mine). m.0.config) v.seat_is ∙ ap (λ (m : Mine). m.0.config) drawn_is in
      at_rest s list count done.0.log (me.0.left - size) done done_is is (legal s settings)

  starts : StartsWith served.0.log me.0.log
  starts = subst (λ (l : List Entry). StartsWith l me.0.log) (sym served_log) (subst (StartsWith v.log) (ap (λ (m : Mine). m.0.log) drawn_is) v.starts)

  own : calls_by list served.0.log ≡ calls_by list me.0.log
  own =
      let has : 0 < times list drawn.0.owns = subst (λ (xs : List ℕ). 0 < times list xs) (sym (ap (λ (m : Mine). m.0.owns) drawn_is)) (stands_first list []) in
      ap (calls_by list) served_log ∙ (v.own list has ∙ ap (λ (m : Mine). calls_by list m.0.log) drawn_is)

  pub told_whole : (events : List Event) (place : ℕ) (answers : List Answered) → place ≡ length served.0.log → HasTaken list events served.0.log answers done.0.log → HasAnsweredAll list events me.0.log place answers done.0.log
  told_whole events place answers at t = told_all list events me.0.log served.0.log done.0.log starts own place answers at t

  pub told_part : (events : List Event) → HasTakenFront list events served.0.log done.0.log → HasAnsweredFront list events me.0.log done.0.log
  told_part events t = told_front list events me.0.log served.0.log done.0.log starts own t
