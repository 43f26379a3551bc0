-- What is known of the book of a lock to which all passes were given back.
use Rattle.std.proofs.Common.{◌≡◌, ◌≢◌, ℕ, ◌≤◌, List, [], ◌∷◌, map, length, refl, sym, ◌∙◌, subst, arith}
use Rattle.std.specs.Prelude.{All}
use Rattle.std.specs.List.{AllByRecursion as Each}
use Rattle.std.proofs.lemmas.Bool.Decides.{nat_tests}
use Rattle.std.proofs.lemmas.List.Elements.{All-from_recursion, recursion_from_All}
use mathlib.Core.Option.{some, some-injective}
use lib.ListN.{get_elem?}
use Rattle.atomic_table.specs.Table.{Final, Seen}
use Rattle.rams_model.specs.Service.{Settings}
use Rattle.channel_book.specs.declared.{entry.Entry.Entry, channel_lock.turns.View.View}
use Rattle.channel_book.specs.{IsLegal, calls_by, Kept}
use Rattle.channel_book.specs.channel_lock.{Known, IsOfPass, NotAmong, times}
use Rattle.channel_book.specs.channel_lock.Turns.{gathering, kept, IsPast, Turns}
use Rattle.channel_book.specs.channel_lock.Passes.{pasts_of}
use Rattle.channel_book.proofs.channel_lock.Gathering.{closes}
use Rattle.std.proofs.lemmas.List.{length-map}

of_passes : (log : List Entry) (passes : List Known) → Each (IsPast log) (pasts_of passes) → Each (IsOfPass log) passes
of_passes log [] each = tt
of_passes log (p ∷ passes) each = (record { starts = each.0.starts; own = each.0.own }, of_passes log passes each.1)

among_none : (list : ℕ) (passes : List Known) → Each (λ (p : Known). p.list ≢ list) passes → times list (map (λ (q : ℕ × List Entry). q.0) (pasts_of passes)) ≡ 0
among_none list [] apart = refl
among_none list (p ∷ passes) apart = let other = apart.0 in let later = among_none list passes apart.1 in grind (arith, nat_tests)

pub record HasClosed (s : Settings) (passes : List Known) (book : Kept) : Type 0 where
  pub settings : book.settings ≡ s
  pub legal : IsLegal s book.entries
  pub each : All (IsOfPass book.entries) passes
  pub others : (list : ℕ) → NotAmong passes list → calls_by list book.entries ≡ []

pub closed : (s : Settings) (made id : ℕ) (passes : List Known) (left : ℕ) (words : List ℕ) (books : List Kept) (book : Kept) (v : View) → v ≡ gathering (pasts_of passes) left
    → made ≤ length passes → Final (Seen (Turns s made) id v) words books → get_elem? books 0 ≡ some book → HasClosed s passes book
closed s made id passes left words books book v is all final found =
    let whole = closes s made id (pasts_of passes) left words books (omega (arith, length-map {B = ℕ × List Entry} passes (λ (p : Known). (p.list, p.seen)), all))
    (subst (λ (u : View). Final (Seen (Turns s made) id u) words books) is final) in
    let log = whole.0 in
    let same : kept s log ≡ book = some-injective (kept s log) book (sym whole.1 ∙ found) in
    subst (HasClosed s passes) same (record {
      settings = refl;
      legal = whole.2.legal;
      each = All-from_recursion (IsOfPass log) passes (of_passes log passes whole.2.each);
      others = λ list apart. whole.2.others list (among_none list passes (recursion_from_All (λ (p : Known). p.list ≢ list) passes apart));
    })
