-- What is written for what was read.
use Rattle.std.proofs.Common.{◌≡◌, ℕ, List, [], ◌++◌, length, Option, None, Some, sym, ap, ◌∙◌, subst}
use Rattle.std.specs.Io.KnownBytes.{Appends, prepend_known}
use Rattle.line_io.specs.Passes.{Passes}
use Rattle.line_io.proofs.Passing.{Passes-none}
use Rattle.rams_model.specs.declared.{LineFault.LineFault, Status.Status}
use Rattle.converters.specs.description_loop.sdp_config.{sdp_at}
use Rattle.trace_loop.specs.{IfTold, IfBothTold}
use Rattle.trace_loop.specs.trace_book.trace_serving.{Outcome, refused}
use Rattle.trace_loop.proofs.Whole.{told_all}
use Rattle.converters.specs.declared.description_loop.said.Head.TheVariants.{Lawful, Unlawful}
use Rattle.converters.specs.declared.description_loop.reply.Reply.{Reply}
use Rattle.converters.specs.declared.description_loop.said.Heading as code
use Rattle.converters.specs.description_loop.{HeadSays, behind_head, head_of, said_by, HasRead, IsFrontOf, settings_by, described_by, by_head, settings_outcome, description_outcome, answered, HasWritten}
use Rattle.converters.proofs.description_loop.Rests.{front_says}

settings_so : (h : code.Heading) (reply : Reply) (text xs ys : List ℕ) → HasRead (Lawful h) xs ys → IsFrontOf text ys → answered reply ≡ settings_by (said_by h) (sdp_at text) → answered reply ≡ settings_outcome xs
unfolding settings_outcome
settings_so h reply text xs ys head front is =
    is ∙ ap (settings_by (said_by h)) (front_says text ys front ∙ ap sdp_at head.1)
    ∙ sym (ap (by_head (λ g. settings_by g (sdp_at (behind_head xs)))) head.0)

-- a reader that keeps nothing reads what the source has left
pub settings_told : (a b : Option (List ℕ)) (kept : List ℕ) (h : code.Heading) (reply : Reply) (text : List ℕ) → kept ≡ [] → IfBothTold (prepend_known kept a) b (HasRead (Lawful h)) → IfTold b (IsFrontOf text)
    → answered reply ≡ settings_by (said_by h) (sdp_at text) → IfTold a (λ xs. answered reply ≡ settings_outcome xs)
settings_told None b kept h reply text none head front is = tt
settings_told (Some xs) None kept h reply text none head front is = absurd head
settings_told (Some xs) (Some ys) kept h reply text none head front is =
    settings_so h reply text xs ys (subst (λ (k : List ℕ). HasRead (Lawful h) (k ++ xs) ys) none head) front is

description_so : (port : ℕ) (h : code.Heading) (reply : Reply) (xs ys : List ℕ) → HasRead (Lawful h) xs ys → answered reply ≡ described_by port (said_by h) → answered reply ≡ description_outcome port xs
unfolding description_outcome
description_so port h reply xs ys head is = is ∙ sym (ap (by_head (described_by port)) head.0)

pub description_told : (port : ℕ) (a b : Option (List ℕ)) (kept : List ℕ) (h : code.Heading) (reply : Reply) → kept ≡ [] → IfBothTold (prepend_known kept a) b (HasRead (Lawful h))
    → answered reply ≡ described_by port (said_by h) → IfTold a (λ xs. answered reply ≡ description_outcome port xs)
description_told port None b kept h reply none head is = tt
description_told port (Some xs) None kept h reply none head is = absurd head
description_told port (Some xs) (Some ys) kept h reply none head is =
    description_so port h reply xs ys (subst (λ (k : List ℕ). HasRead (Lawful h) (k ++ xs) ys) none head) is

-- ---- a head that is refused

module _ (number : ℕ) (fault : LineFault) (reply : Reply) (is : answered reply ≡ refused number fault) where
  refused_settings : (xs : List ℕ) → head_of xs ≡ HeadSays.refuses number fault → answered reply ≡ settings_outcome xs
  unfolding settings_outcome
  refused_settings xs head = is ∙ sym (ap (by_head (λ g. settings_by g (sdp_at (behind_head xs)))) head)

  refused_description : (port : ℕ) (xs : List ℕ) → head_of xs ≡ HeadSays.refuses number fault → answered reply ≡ description_outcome port xs
  unfolding description_outcome
  refused_description port xs head = is ∙ sym (ap (by_head (described_by port)) head)

  told_by : (a b : Option (List ℕ)) (kept : List ℕ) (P : List ℕ → Type 0) → ((xs : List ℕ) → head_of xs ≡ HeadSays.refuses number fault → P xs) → kept ≡ []
      → IfBothTold (prepend_known kept a) b (HasRead (Unlawful number fault)) → IfTold a P
  told_by None b kept P gives none head = tt
  told_by (Some xs) None kept P gives none head = absurd head
  told_by (Some xs) (Some ys) kept P gives none head = gives xs (subst (λ (k : List ℕ). HasRead (Unlawful number fault) (k ++ xs) ys) none head)

  pub refused_settings_told : (a b : Option (List ℕ)) (kept : List ℕ) → kept ≡ [] → IfBothTold (prepend_known kept a) b (HasRead (Unlawful number fault)) → IfTold a (λ xs. answered reply ≡ settings_outcome xs)
  refused_settings_told a b kept none head = told_by a b kept (λ xs. answered reply ≡ settings_outcome xs) refused_settings none head

  pub refused_description_told : (port : ℕ) (a b : Option (List ℕ)) (kept : List ℕ) → kept ≡ [] → IfBothTold (prepend_known kept a) b (HasRead (Unlawful number fault))
      → IfTold a (λ xs. answered reply ≡ description_outcome port xs)
  refused_description_told port a b kept none head = told_by a b kept (λ xs. answered reply ≡ description_outcome port xs) (refused_description port) none head

-- ---- a reply that is written

module _ (o : List ℕ → Outcome) (a b : Option (List ℕ)) (reply : Reply) where
  pub writes_whole : (left : Option (List ℕ)) (status : Status) → IfTold left (λ xs. answered reply ≡ o xs) → status ≡ reply.status → Appends a b reply.text.items → IfTold left (λ xs. HasWritten a b (o xs) status)
  writes_whole None status is same all = tt
  writes_whole (Some xs) status is same all = (same ∙ ap (λ (x : Outcome). x.status) is, subst (Appends a b) (ap (λ (x : Outcome). x.text) is) all)

  pub writes_front : (left : Option (List ℕ)) → IfTold left (λ xs. answered reply ≡ o xs) → ((rest : List ℕ) × Passes a b reply.text.items rest) → IfTold left (λ xs. (rest : List ℕ) × Passes a b (o xs).text rest)
  writes_front None is front = tt
  writes_front (Some xs) is front = (front.0, subst (λ (t : List ℕ). Passes a b t front.0) (ap (λ (x : Outcome). x.text) is) front.1)

  -- a sink that is steady for the outcome's text is so for the reply's
  pub writes_steadily : (left : Option (List ℕ)) (steady : ℕ → Type 0) (P : Type 0) → IfTold left (λ xs. answered reply ≡ o xs) → (steady (length reply.text.items) → P) → IfTold left (λ xs. steady (length (o xs).text) → P)
  writes_steadily None steady P is gives = tt
  writes_steadily (Some xs) steady P is gives = λ s. gives (subst steady (ap (λ (x : Outcome). length x.text) (sym is)) s)

-- nothing is written yet
pub unwritten : (o : List ℕ → Outcome) (a left : Option (List ℕ)) → IfTold left (λ xs. (rest : List ℕ) × Passes a a (o xs).text rest)
unwritten o a left = told_all left _ (λ xs. ((o xs).text, Passes-none a (o xs).text))
