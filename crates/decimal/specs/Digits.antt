-- The decimal reader, part of the way through a text.
use Rattle.std.specs.Prelude.{ℕ, cond, List, Err}
use Rattle.model.specs.Base.{all}
use Rattle.model.specs.NodeSheet.{Number, is_digit, digits_from, capped}
use Rattle.model.specs.declared.NumberError.{NumberError}

-- what the digits of a text spell after those of value v (rules 3.7 and 3.8)
unfoldable pub digits_after : ℕ → List ℕ → Number
digits_after v text = cond (all is_digit text) (capped (digits_from v text)) (Err NumberError.NotANumber)
