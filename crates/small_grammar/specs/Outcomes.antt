-- What an expression takes at a list of trees, by the rules of parsing expressions alone: nothing
-- is bounded or computed. (Bryan Ford, "Parsing Expression Grammars", 2004, section 3.)
use Rattle.std.specs.Prelude.{Option, Some, None}
use Rattle.tt_data.specs.Forest.{Forest}
use Rattle.small_grammar.specs.Expressions.{Name, Expression, never, token, ◌⨾◌, ◌∣◌, many, maybe, rule}
use Rattle.small_grammar.specs.SmallGrammar.{says}
use Rattle.small_grammar.specs.Tokens.{Token, token_at}

-- an expression takes these trees off the list and leaves others, or does not fit: None
pub data Comes : Expression → Forest → Option Forest → Type 0 where
  never_fits : (f : Forest) → Comes never f None
  as_token : (t : Token) (f : Forest) → Comes (token t) f (token_at t f)
  -- the first part does not fit; or it does, and the second decides after it
  stopped : (a b : Expression) (f : Forest) → Comes a f None → Comes (a ⨾ b) f None
  went_on : (a b : Expression) (f g : Forest) (o : Option Forest) → Comes a f (Some g) → Comes b g o → Comes (a ⨾ b) f o
  -- the first alternative fits; or it does not, and the second decides
  by_first : (a b : Expression) (f g : Forest) → Comes a f (Some g) → Comes (a ∣ b) f (Some g)
  by_second : (a b : Expression) (f : Forest) (o : Option Forest) → Comes a f None → Comes b f o → Comes (a ∣ b) f o
  -- it does not fit once more; or it does, and the others follow
  no_round : (a : Expression) (f : Forest) → Comes a f None → Comes (many a) f (Some f)
  one_round : (a : Expression) (f g : Forest) (o : Option Forest) → Comes a f (Some g) → Comes (many a) g o → Comes (many a) f o
  left_out : (a : Expression) (f : Forest) → Comes a f None → Comes (maybe a) f (Some f)
  put_in : (a : Expression) (f g : Forest) → Comes a f (Some g) → Comes (maybe a) f (Some g)
  -- a name means its rule
  by_rule : (k : Name) (f : Forest) (o : Option Forest) → Comes (says k) f o → Comes (rule k) f o
