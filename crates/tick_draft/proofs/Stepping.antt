-- The steps of a tick do what its notes do.
use Rattle.std.proofs.Common.{◌≡◌, ℕ, ◌+◌, cond, false, List, [], ◌∷◌, ◌++◌, length, length-append, Option, Some, None, refl, ap, sym, ◌∙◌, subst, add_assoc, arith}
use Rattle.std.specs.Prelude.{option_map, option_to_list, sum_by}
use Rattle.std.proofs.lemmas.Option.{same_Some}
use Rattle.rams_model.specs.declared.{Note.Note, Order.Order, Info.Info, Cause.Cause, Order.TheVariants.Rtx}
use Rattle.rams_model.specs.declared.Note.TheVariants.{Burst as BurstNote, Repair, Gone as GoneNote, End as EndNote, Forgot as ForgotNote}
use Rattle.rams_model.specs.Formats.{wire_size}
use Rattle.rams_model.specs.Service.{Settings, answered, info_order, end_info, wire_sizes}
use Rattle.rams_model.proofs.WireSizes.{sizes_append}
use Rattle.tick_draft.specs.declared.{sendings.Sendings.Sendings, step.Step.Step, sums.Sums.Sums}
use Rattle.tick_draft.specs.declared.step.Step.TheVariants.{Sent, End}
use Rattle.tick_draft.specs.{told_end, one_sending, both_sendings, with_sendings, MaySend, sending_of, first_size, sizes_behind, with_sized, with_all_sized, MayCommitSized, with_step, with_all_steps, MayDoAll, other_step, sends, packets_sent, sums_in, both_sums, sums_of, AreStepsOf, AreInStep, AreBoth}
use Rattle.tick_draft.specs.Committed.{Committed}
use Rattle.tick_draft.proofs.Sending.{sent_both, may_both}
use Rattle.tick_draft.proofs.Summing.{none_last, sums_one, steps_joined, sums_grown, answers_joined}

-- ---- steps behind others
steps_append : (depth : ℕ) (first more : List Step) (c : Committed) → with_all_steps depth (first ++ more) c ≡ with_all_steps depth more (with_all_steps depth first c)
unfolding with_all_steps
steps_append depth [] more c = refl
steps_append depth (step ∷ first) more c = steps_append depth first more (with_step depth step c)

may_append : (depth : ℕ) (first more : List Step) (c : Committed) → MayDoAll depth first c → MayDoAll depth more (with_all_steps depth first c) → MayDoAll depth (first ++ more) c
unfolding with_all_steps MayDoAll
may_append depth [] more c may later = later
may_append depth (step ∷ first) more c may later = (may.0, may_append depth first more (with_step depth step c) may.1 later)

may_first : (depth : ℕ) (first more : List Step) (c : Committed) → MayDoAll depth (first ++ more) c → MayDoAll depth first c
unfolding MayDoAll
may_first depth [] more c may = tt
may_first depth (step ∷ first) more c may = (may.0, may_first depth first more (with_step depth step c) may.1)

pub behind : (old more : List Step) → AreBoth old more (old ++ more)
behind old more = record {
  does = λ depth c. steps_append depth old more c;
  may = λ depth c first later. may_append depth old more c first later;
  sums = steps_joined old more;
}

pub none_behind : (old : List Step) → AreBoth old [] old
unfolding with_all_steps sums_of
none_behind old = record { does = λ depth c. refl; may = λ depth c first later. first; sums = sym (none_last (sums_of old)) }

-- ---- packets to the client that was sent the last ones
pub grown : (steps : List Step) (x y : Sendings) → y.client ≡ x.client → AreBoth (steps ++ Sent x ∷ []) (Sent y ∷ []) (steps ++ Sent (both_sendings x y) ∷ [])
unfolding with_all_steps MayDoAll
grown steps x y same = record {
  does = λ depth c.
      let before = with_all_steps depth steps c in
      steps_append depth steps (Sent (both_sendings x y) ∷ []) c ∙ (sent_both x y before same ∙ ap (with_sendings y) (sym (steps_append depth steps (Sent x ∷ []) c)));
  may = λ depth c first later.
      let before = with_all_steps depth steps c in
      may_append depth steps (Sent (both_sendings x y) ∷ []) c (may_first depth steps (Sent x ∷ []) c first)
      (may_both x y before same (subst (MaySend y) (steps_append depth steps (Sent x ∷ []) c) later.0), tt);
  sums = sums_grown steps x y;
}

-- ---- notes behind others
sent_append : (a b : List Note) → packets_sent (a ++ b) ≡ packets_sent a + packets_sent b
sent_append [] b = omega arith
sent_append (note ∷ a) b = ap (λ (k : ℕ). cond (sends note) 1 0 + k) (sent_append a b) ∙ sym (add_assoc (cond (sends note) 1 0) (packets_sent a) (packets_sent b))

-- a note takes its size from its own sizes alone, where there are enough
record TakesOwn (s : Settings) (note : Note) (a b : List ℕ) (left : ℕ) : Type 0 where
  does : (c : Committed) → with_sized s (first_size (a ++ b)) note c ≡ with_sized s (first_size a) note c
  behind_is : sizes_behind note (a ++ b) ≡ sizes_behind note a ++ b
  left_is : left ≡ length (sizes_behind note a)

takes_own : (s : Settings) (note : Note) (a b : List ℕ) (left : ℕ) → cond (sends note) 1 0 + left ≡ length a → TakesOwn s note a b left
takes_own s (BurstNote client n seq) [] b left are = absurd (omega (arith, are))
takes_own s (BurstNote client n seq) (size ∷ a) b left are = record { does = λ c. refl; behind_is = refl; left_is = omega (arith, are) }
takes_own s (Repair client n seq) [] b left are = absurd (omega (arith, are))
takes_own s (Repair client n seq) (size ∷ a) b left are = record { does = λ c. refl; behind_is = refl; left_is = omega (arith, are) }
takes_own s note a b left are = record { does = λ c. refl; behind_is = refl; left_is = omega (arith, are) }

sized_append : (s : Settings) (a b : List ℕ) (notes later : List Note) (c : Committed) → packets_sent notes ≡ length a → with_all_sized s (a ++ b) (notes ++ later) c ≡ with_all_sized s b later (with_all_sized s a notes c)
unfolding with_all_sized
sized_append s [] b [] later c are = refl
sized_append s (size ∷ a) b [] later c are = absurd (omega (arith, are))
sized_append s a b (note ∷ notes) later c are =
    let own = takes_own s note a b (packets_sent notes) are in
    ap (λ (l : List ℕ). with_all_sized s l (notes ++ later) (with_sized s (first_size (a ++ b)) note c)) own.behind_is
    ∙ (ap (with_all_sized s (sizes_behind note a ++ b) (notes ++ later)) (own.does c) ∙ sized_append s (sizes_behind note a) b notes later (with_sized s (first_size a) note c) own.left_is)

may_split : (s : Settings) (a b : List ℕ) (notes later : List Note) (c : Committed) → packets_sent notes ≡ length a → MayCommitSized s (a ++ b) (notes ++ later) c
    → MayCommitSized s a notes c × MayCommitSized s b later (with_all_sized s a notes c)
unfolding with_all_sized MayCommitSized
may_split s [] b [] later c are may = (tt, may)
may_split s (size ∷ a) b [] later c are may = absurd (omega (arith, are))
may_split s a b (note ∷ notes) later c are may =
    let own = takes_own s note a b (packets_sent notes) are in
    let next = with_sized s (first_size a) note c in
    let rest : MayCommitSized s (sizes_behind note a ++ b) (notes ++ later) next =
    subst (MayCommitSized s (sizes_behind note a ++ b) (notes ++ later)) (own.does c)
    (subst (λ (l : List ℕ). MayCommitSized s l (notes ++ later) (with_sized s (first_size (a ++ b)) note c)) own.behind_is may.1) in
    let parts = may_split s (sizes_behind note a) b notes later next own.left_is rest in
    ((may.0, parts.0), parts.1)

-- ---- what is done for notes, and for those behind them
steps_both : (old more new : List Step) (notes later : List Note) (orders others : List Order) → AreBoth old more new → AreInStep old notes orders → AreStepsOf more (answered later others)
    → AreStepsOf new (answered (notes ++ later) (orders ++ others))
steps_both old more new notes later orders others both first second = record {
  does = λ s c.
      both.does s.channel.depth c
      ∙ (ap (with_all_steps s.channel.depth more) (first.steps_do.does s c)
      ∙ (second.does s (with_all_sized s (wire_sizes orders) notes c)
      ∙ (sym (sized_append s (wire_sizes orders) (wire_sizes others) notes later c first.sizes_are) ∙ ap (λ (l : List ℕ). with_all_sized s l (notes ++ later) c) (sym (sizes_append orders others)))));
  may = λ s c may.
      let parts = may_split s (wire_sizes orders) (wire_sizes others) notes later c first.sizes_are (subst (λ (l : List ℕ). MayCommitSized s l (notes ++ later) c) (sizes_append orders others) may) in
      both.may s.channel.depth c (first.steps_do.may s c parts.0)
      (subst (MayDoAll s.channel.depth more) (sym (first.steps_do.does s c)) (second.may s (with_all_sized s (wire_sizes orders) notes c) parts.1));
  sums =
      both.sums
      ∙ (ap (λ (x : Sums). both_sums x (sums_of more)) first.steps_do.sums
      ∙ (ap (both_sums (sums_in (answered notes orders))) second.sums ∙ sym (answers_joined notes later orders others)));
}

-- steps behind others
pub steps_behind : (first rest : List Step) (notes later : List Note) (orders others : List Order) → AreInStep first notes orders → AreStepsOf rest (answered later others)
    → AreStepsOf (first ++ rest) (answered (notes ++ later) (orders ++ others))
steps_behind first rest notes later orders others are = steps_both first rest (first ++ rest) notes later orders others (behind first rest) are

pub joined : (old more new : List Step) (notes later : List Note) (orders others : List Order) → AreBoth old more new → AreInStep old notes orders → AreInStep more later others → AreInStep new (notes ++ later) (orders ++ others)
joined old more new notes later orders others both first second = record {
  steps_do = steps_both old more new notes later orders others both first second.steps_do;
  sizes_are = sent_append notes later
      ∙ (ap (λ (k : ℕ). k + packets_sent later) first.sizes_are
      ∙ (ap (λ (k : ℕ). length (wire_sizes orders) + k) second.sizes_are ∙ (sym (length-append (wire_sizes orders) (wire_sizes others)) ∙ ap length (sym (sizes_append orders others)))));
}

-- ---- what is done for one note
pub none_yet : AreInStep [] [] []
unfolding with_all_steps MayDoAll with_all_sized MayCommitSized sums_of
none_yet = record { steps_do = record { does = λ s c. refl; may = λ s c may. tt; sums = refl }; sizes_are = refl }

pub one_sent : (note : Note) (client n seq : ℕ) (packet : List ℕ) (x : Sendings) → sending_of (wire_size packet) note ≡ Some x → AreInStep (Sent x ∷ []) (note ∷ []) (Rtx client n seq packet ∷ [])
unfolding with_all_steps MayDoAll with_all_sized MayCommitSized sums_of
one_sent (BurstNote k m at) client n seq packet x is =
    subst (λ (y : Sendings). AreInStep (Sent y ∷ []) (BurstNote k m at ∷ []) (Rtx client n seq packet ∷ [])) (same_Some (one_sending k 1 (wire_size packet)) x is)
    (record { steps_do = record { does = λ s c. refl; may = λ s c may. may; sums = sums_one 1 (wire_size packet) }; sizes_are = refl })
one_sent (Repair k m at) client n seq packet x is =
    subst (λ (y : Sendings). AreInStep (Sent y ∷ []) (Repair k m at ∷ []) (Rtx client n seq packet ∷ [])) (same_Some (one_sending k 0 (wire_size packet)) x is)
    (record { steps_do = record { does = λ s c. refl; may = λ s c may. may; sums = sums_one 0 (wire_size packet) }; sizes_are = refl })
one_sent note client n seq packet x is = absurd cc

-- the sums of one note that sends no packet, and of these sizes
abbrev unsent : List ℕ → Sums
unsent sizes = record { packets = 0; of_bursts = 0; ends = 0; bytes = sum_by (λ size. size) sizes }

abbrev ended_with : List ℕ → Sums
ended_with sizes = record { packets = 0; of_bursts = 0; ends = 1; bytes = sum_by (λ size. size) sizes }

pub one_other : (note : Note) (orders : List Order) → sends note ≡ false → wire_sizes orders ≡ [] → AreInStep (option_to_list (other_step note)) (note ∷ []) orders
unfolding with_all_steps MayDoAll with_all_sized MayCommitSized sums_of
one_other (BurstNote k n seq) orders none empty = absurd cc
one_other (Repair k n seq) orders none empty = absurd cc
one_other (EndNote k cause) orders none empty = record { steps_do = record { does = λ s c. refl; may = λ s c may. may; sums = ap ended_with (sym empty) }; sizes_are = sym (ap length empty) }
one_other (GoneNote k n) orders none empty = record { steps_do = record { does = λ s c. refl; may = λ s c may. may; sums = ap unsent (sym empty) }; sizes_are = sym (ap length empty) }
one_other (ForgotNote k) orders none empty = record { steps_do = record { does = λ s c. refl; may = λ s c may. may; sums = ap unsent (sym empty) }; sizes_are = sym (ap length empty) }
one_other note orders none empty = record { steps_do = record { does = λ s c. refl; may = λ s c may. tt; sums = ap unsent (sym empty) }; sizes_are = sym (ap length empty) }

told_unsized : (client : ℕ) (o : Option Info) → wire_sizes (option_to_list (option_map (info_order client) o)) ≡ []
told_unsized client None = refl
told_unsized client (Some info) = refl

-- ---- as the calls make it
pub as_made : (steps made_steps : List Step) (notes made_notes : List Note) (orders made_orders : List Order) → made_steps ≡ steps → made_notes ≡ notes → made_orders ≡ orders → AreInStep steps notes orders
    → AreInStep made_steps made_notes made_orders
as_made steps made_steps notes made_notes orders made_orders steps_are notes_are orders_are are =
    subst (λ (l : List Step). AreInStep l made_notes made_orders) (sym steps_are)
    (subst (λ (l : List Note). AreInStep steps l made_orders) (sym notes_are) (subst (AreInStep steps notes) (sym orders_are) are))

-- one note more, which sends no packet
pub noted : (steps made_steps : List Step) (notes made_notes : List Note) (orders made_orders others : List Order) (note : Note) → AreInStep steps notes orders → sends note ≡ false → wire_sizes others ≡ []
    → made_steps ≡ steps ++ option_to_list (other_step note) → made_notes ≡ notes ++ note ∷ [] → made_orders ≡ orders ++ others → AreInStep made_steps made_notes made_orders
noted steps made_steps notes made_notes orders made_orders others note are none empty steps_are notes_are orders_are =
    let more = option_to_list (other_step note) in
    as_made (steps ++ more) made_steps (notes ++ note ∷ []) made_notes (orders ++ others) made_orders steps_are notes_are orders_are
    (joined steps more (steps ++ more) notes (note ∷ []) orders others (behind steps more) are (one_other note others none empty))

-- the end of a burst
pub ended : (steps made_steps : List Step) (notes made_notes : List Note) (orders made_orders : List Order) (client : ℕ) (cause : Cause) (last : Info) → AreInStep steps notes orders
    → made_steps ≡ steps ++ End client ∷ [] → made_notes ≡ notes ++ EndNote client cause ∷ [] → made_orders ≡ orders ++ option_to_list (told_end client cause last) → AreInStep made_steps made_notes made_orders
ended steps made_steps notes made_notes orders made_orders client cause last are = noted steps made_steps notes made_notes orders made_orders (option_to_list (told_end client cause last)) (EndNote client cause) are refl (told_unsized client (end_info last cause))

-- one note more, which sends a packet
pub sent : (steps made_steps : List Step) (notes made_notes : List Note) (orders made_orders : List Order) (note : Note) (client n seq : ℕ) (packet : List ℕ) (x : Sendings) → AreInStep steps notes orders
    → sending_of (wire_size packet) note ≡ Some x → AreBoth steps (Sent x ∷ []) made_steps → made_notes ≡ notes ++ note ∷ [] → made_orders ≡ orders ++ Rtx client n seq packet ∷ [] → AreInStep made_steps made_notes made_orders
sent steps made_steps notes made_notes orders made_orders note client n seq packet x are is both notes_are orders_are =
    as_made made_steps made_steps (notes ++ note ∷ []) made_notes (orders ++ Rtx client n seq packet ∷ []) made_orders refl notes_are orders_are
    (joined steps (Sent x ∷ []) made_steps notes (note ∷ []) orders (Rtx client n seq packet ∷ []) both are (one_sent note client n seq packet x is))
