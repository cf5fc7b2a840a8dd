-- The answers of parsing, and one parser after another.
use Rattle.std.specs.Prelude.{codes, Option, Some, None, Result, Ok, Err}
use Prim.Native.String.{String}
use Rattle.mbe_rules.specs.declared.errors.ParseError.{ParseError}
use Rattle.mbe_rules.specs.declared.errors.ParseError.TheVariants.{UnexpectedToken, Expected}

-- something that is parsed, or the first fault
abbrev pub Parsed : Type 0 → Type 0
Parsed A = Result A ParseError

-- one parser after another; the first fault ends it
infixl 10 ◌>>=◌
abbrev pub ◌>>=◌ : {A B : Type 0} → Parsed A → (A → Parsed B) → Parsed B
Ok a >>= f = f a
Err e >>= f = Err e

-- the fault that a token is not allowed where it is, with this text
abbrev pub unexpected : {A : Type 0} → String → Parsed A
unexpected text = Err (UnexpectedToken (codes text))

-- the fault that something is missing, with this text
abbrev pub expected : {A : Type 0} → String → Parsed A
expected text = Err (Expected (codes text))

-- what is parsed, if something is; else this fault
abbrev pub or_fault : {A : Type 0} → Option A → Parsed A → Parsed A
or_fault None fault = fault
or_fault (Some a) fault = Ok a
