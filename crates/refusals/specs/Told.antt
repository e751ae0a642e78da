-- What the code answers of a standing: nothing where it is good, and else the refusal that has the number.
use Rattle.std.specs.declared.result.Result.{Result}
use Rattle.std.specs.declared.result.Result.TheVariants.{Ok, Err}
use Rattle.refusals.specs.declared.refusal.Refusal.{Refusal}
use Rattle.refusals.specs.Number.{number}
use Rattle.refusals.specs.Order.{Standing, Good, Refused}

abbrev pub standing_told : Result (Unit {0}) Refusal → Standing
standing_told (Ok _) = Good
standing_told (Err refusal) = Refused (number refusal)
