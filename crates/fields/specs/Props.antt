-- What a token says of its field has at most one proof, so that a token may carry it.
use Rattle.std.proofs.Common.{ℕ, List, [], ◌∷◌}
use Rattle.std.specs.Str.Parse.{AllDigits}
use Rattle.std.proofs.Props.{props}
use Rattle.fields.specs.declared.token.TokenKind.{TokenKind}
use Rattle.fields.specs.declared.token.TokenKind.TheVariants.{Letter, Number, Bad}
use Rattle.fields.specs.Tokens.{Says}

digits_prop : (f : List ℕ) → IsProp (AllDigits 10 f)
digits_prop [] = hlevel props
digits_prop (b ∷ f) = hlevel (props, digits_prop f)

pub says_prop : (f : List ℕ) (kind : TokenKind) → IsProp (Says f kind)
says_prop f (Letter b) = hlevel (props, digits_prop f)
says_prop f (Number n) = hlevel (props, digits_prop f)
says_prop f Bad = hlevel (props, digits_prop f)
