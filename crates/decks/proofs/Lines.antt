-- The last line where no check stands.
use Rattle.std.proofs.Common.{◌≡◌, ◌++◌, codes, ap, arith}
use Rattle.std.proofs.lemmas.Fmt.{decimal_digit}
use Rattle.decks.specs.Outputs.{comma, last_text, none_worst}

pub zeros : last_text 0 0 ≡ none_worst
zeros = ap (λ d. codes "WORST," ++ comma d (d ++ codes "\n")) (decimal_digit 0 (omega arith))
