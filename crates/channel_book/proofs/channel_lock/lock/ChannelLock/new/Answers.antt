use Rattle.std.proofs.Common.{◌≡◌, List, [], ◌∷◌, ◌++◌, sym, ap, ◌∙◌, subst}
use Rattle.atomic_table.specs.Table.{opening}
use Rattle.channel_book.specs.{Kept}
use Rattle.channel_book.specs.channel_lock.Turns.{first_view, kept, Turns}
use Rattle.channel_book.proofs.channel_lock.Dealing.{begins}
use Rattle.channel_book.proofs.channel_lock.lock.ChannelLock.new.Goals as goal

pub new-requires-2 : goal.new-requires-2
new-requires-2 c =
    let s = c.config.result.now in
    let passes = c.from.result in
    let settings = c.new.ensures.settings ∙ sym c.config.ensures in
    let book : c.new.result ≡ kept s [] = λ j. kept (settings j) (c.new.ensures.empty j) in
    let books : c.push_reserved.new.self.items ≡ kept s [] ∷ [] =
    c.push_reserved.ensures.items ∙ (ap (λ (l : List Kept). l ++ c.new.result ∷ []) c.in_ok-books.ensures.items ∙ ap (λ (b : Kept). b ∷ []) book) in
    subst (λ (l : List Kept). Turns s passes (opening (0 ∷ 0 ∷ []) l (first_view s passes))) (sym books) (begins s passes)
