-- A number's digits are those that std prints.
use Rattle.std.proofs.Common.{◌≡◌, ℕ, ◌^◌, ◌≤◌, ◌<◌, length, rules}
use Rattle.std.specs.Fmt as fmt
use Rattle.std.proofs.lemmas.Fmt.{decimal_from_appends, length-decimal-le, AppendsLastDigit}
use Rattle.text.specs.Text.{decimal_of, decimal}

digit_by_digit : AppendsLastDigit decimal_of
unfolding decimal_of
digit_by_digit = search rules

pub printed : (n : ℕ) → n < 2 ^ 64 → decimal n ≡ fmt.decimal n
unfolding decimal
printed n h = decimal_from_appends decimal_of digit_by_digit 20 n h (search (rules, length-decimal-le 20))

pub at_most_twenty : (n : ℕ) → n < 2 ^ 64 → length (decimal n) ≤ 20
at_most_twenty n h = rw (printed n h) (search (rules, length-decimal-le 20))

pub at_most_two : (n : ℕ) → n < 100 → length (decimal n) ≤ 2
at_most_two n h = rw (printed n (search rules)) (search (rules, length-decimal-le 2))
