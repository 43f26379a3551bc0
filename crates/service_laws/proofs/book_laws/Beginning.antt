-- A burst begins where its request has it begin.
use Rattle.std.proofs.Common.{ℕ, subst}
use Rattle.std.specs.Prelude.{Result, Ok}
use Rattle.rams_model.specs.declared.TlvFault.{TlvFault}
use Rattle.rams_model.specs.declared.Note.TheVariants as note
use Rattle.rams_model.specs.Service.{Settings, asks, History}
use Rattle.rams_model.specs.Formats.{Request}
use Rattle.service_laws.specs.book_laws.{BeginsAsAsked}
use Rattle.rams_model.proofs.Legal.{Answers, IsVerdict}
use Rattle.rams_model.proofs.Granting.{accept_grants, accepted_choice}
use Rattle.service_laws.proofs.book_laws.Answering.{is_answered}

pub begins_as_asked : (s : Settings) (k first rate join : ℕ) (history : History) → IsVerdict s history k (note.Accept k first rate join) → BeginsAsAsked s history k first
begins_as_asked s k first rate join history v =
    let granted = accept_grants s history k first rate join v in
    let r = granted.0 in
    let a = granted.2 in
    record {
      sender = v.sender;
      request = r;
      asked = is_answered history k (asks v.sender (Ok r)) (subst (λ (request : Result Request TlvFault). Answers history k (asks v.sender request)) granted.1 v.is_answer);
      start = a.start;
      number = a.number;
      choice = accepted_choice s history k first rate join r a;
    }
