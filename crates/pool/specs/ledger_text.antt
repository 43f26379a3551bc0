pub mod Lines
unfoldable pub use Rattle.pool.specs.ledger_text.Lines.{paid_word, claim_line, claim_lines, link_line, ledger_text}
