use Rattle.std.proofs.Common.{◌≡◌, ◌<◌, ◌^◌, true, take}
use Rattle.std.specs.List.{list_all}
use Rattle.std.specs.Str.Parse.{digits_value}
use Rattle.rams_model.specs.Texts.{is_digit}
use Rattle.trace_lines.proofs.numbers.leading_digits.Given as goal

abbrev pub invariant-digits : goal.invariant-digits
invariant-digits l = record {
  digits : list_all is_digit (take l.count l.bytes) ≡ true;
  value : l.value ≡ digits_value 10 (take l.count l.bytes);
  below : l.value < 10 ^ l.count;
}
