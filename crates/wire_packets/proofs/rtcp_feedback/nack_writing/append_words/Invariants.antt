use Rattle.std.proofs.Common.{◌≡◌, ℕ, ◌<◌, ◌≤◌, ◌^◌, List, ◌++◌, drop, vec_capacity}
use Rattle.rams_model.specs.Formats.{words_from, nack_words}
use Rattle.wire_packets.proofs.rtcp_feedback.nack_writing.append_words.Given as goal

-- what is written, and the words of what is left, are all words
abbrev pub invariant-loop-number : goal.invariant-loop-number
invariant-loop-number l = record {
  whole : l.text.items ++ words_from l.pid l.blp l.last (drop l.number-index l.rest) ≡ l.fn.text.items ++ nack_words l.fn.numbers;
  kept : (some : List ℕ) × (l.text.items ≡ l.fn.text.items ++ some);
  capacity : vec_capacity l.fn.text ≤ vec_capacity l.text;
  bits : l.blp < 2 ^ l.last;
  few : l.last ≤ 16;
}
