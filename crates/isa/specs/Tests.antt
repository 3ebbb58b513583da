-- Tests joined: closed definitions, so that the prover can tell their parts.
use Rattle.std.specs.Prelude.{Bool, true, false}

infixr 35 ◌and◌
infixr 30 ◌or◌
unfoldable pub ◌and◌ : Bool → Bool → Bool
true and b = b
false and b = false

unfoldable pub ◌or◌ : Bool → Bool → Bool
true or b = true
false or b = b
