-- Texts that are written one behind the other, and the pieces of a history's.
use Rattle.std.proofs.Common.{◌≡◌, ℕ, ◌+◌, ◌≤◌, ◌<◌, List, [], ◌++◌, get_or, map, length, drop, codes, sym, ap, ◌∙◌, arith}
use Rattle.std.specs.Global.{Vec}
use Rattle.std.proofs.lemmas.List.{drop_more, drop_all, get_or-map, length-map}
use Rattle.rams_model.specs.declared.Octets.{Octets}
use Rattle.rams_model.specs.Service.{Settings}
use Rattle.channel_book.specs.declared.Entry.{Entry}
use Rattle.threads_loop.specs.session_worker.live_writer.{datagrams_of}
use Rattle.threads_loop.specs.session_worker.{answered_with}
use Rattle.trace_loop.specs.trace_book.trace_serving.{done}
use Rattle.threads_loop.specs.declared.{writing.Part.Part, writing.Part.TheVariants.Trace, writing.Part.TheVariants.Book}
use Rattle.threads_loop.specs.{piece_text, part_text}

-- ---- the entries of a history

module _ (s : Settings) (part : Part) where
  -- what is written for the entries from one on
  pub part_more : (entries : List Entry) (i : ℕ) (e : Entry) → i < length entries → e ≡ get_or entries i e
      → part_text s part (i + 1) (drop i entries) ≡ piece_text s part (i + 1) e ++ part_text s part (i + 1 + 1) (drop (i + 1) entries)
  unfolding part_text
  part_more entries i e below is =
      ap (part_text s part (i + 1)) (drop_more entries i e below) ∙ ap (λ (x : Entry). piece_text s part (i + 1) x ++ part_text s part (i + 1 + 1) (drop (i + 1) entries)) (sym is)

  pub part_past : (entries : List Entry) (i : ℕ) → length entries ≤ i → part_text s part (i + 1) (drop i entries) ≡ []
  unfolding part_text
  part_past entries i end = ap (part_text s part (i + 1)) (drop_all i entries end)

-- the datagrams of an entry's answer stand at its place
module _ (s : Settings) (entries : List Entry) (drawn : List (Vec Octets)) (is : map (λ (d : Vec Octets). d.items) drawn ≡ answered_with s entries) where
  pub as_many_drawn : length drawn ≡ length entries
  as_many_drawn = sym (length-map drawn (λ (d : Vec Octets). d.items)) ∙ ap length is ∙ length-map entries (λ (e : Entry). datagrams_of s e.answer)

  pub drawn_at : (i : ℕ) (d : Vec Octets) (e : Entry) → i < length entries → (get_or drawn i d).items ≡ datagrams_of s (get_or entries i e).answer
  drawn_at i d e below =
      sym (get_or-map (λ (x : Vec Octets). x.items) drawn i d [] (omega (arith, below, as_many_drawn))) ∙ ap (λ l. get_or l i []) is ∙ get_or-map (λ (x : Entry). datagrams_of s x.answer) entries i e [] below

-- ---- the parts of a history's text, of which the rest is still to be written

module _ (s : Settings) (entries : List Entry) where
  abbrev pub from_book : List ℕ
  from_book = part_text s Book 1 entries ++ (done (length entries)).text

  abbrev pub from_end : List ℕ
  from_end = codes "end\nrams-book 1\n" ++ from_book

  abbrev pub from_trace : List ℕ
  from_trace = part_text s Trace 1 entries ++ from_end
