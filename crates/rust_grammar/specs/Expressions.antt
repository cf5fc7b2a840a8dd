-- Parsing expressions over lists of trees, with decided alternatives. (Bryan Ford, "Parsing
-- Expression Grammars", 2004.) Choice is ordered: the second alternative counts only if the first
-- does not fit. Repetitions and options take all that fits and never give back.
use Rattle.std.specs.Prelude.{ℕ, suc, zero, Bool, true, false, nat_le, Option, Some, None}
use Rattle.tt_data.specs.Editions.{year_of}
use Rattle.tt_data.specs.Forest.{Forest, size}
use Rattle.tt_data.specs.declared.edition.Edition.{Edition}
use Rattle.rust_grammar.specs.Names.{Name}
use Rattle.rust_grammar.specs.Tokens.{Token, token_at}
use Rattle.rust_grammar.specs.declared.outcome.Outcome.{Outcome}
use Rattle.rust_grammar.specs.declared.outcome.Outcome.TheVariants.{Fits, Misses, Faults}

-- what may be asked for at the front of a list
pub data Expression : Type 0 where
  token : Token → Expression
  -- nothing, from this edition on; before, it does not fit
  since : Edition → Expression
  -- one after the other
  ◌⨾◌ : Expression → Expression → Expression
  -- the first, or if it does not fit the second
  ◌∣◌ : Expression → Expression → Expression
  -- as often as it fits
  many : Expression → Expression
  -- once, if it fits
  maybe : Expression → Expression
  -- decided: if it does not fit, the whole fragment is a fault
  surely : Expression → Expression
  -- nothing, if this does not fit
  unless : Expression → Expression
  -- the rule of this name
  rule : Name → Expression

infixr 30 ◌⨾◌
infixr 20 ◌∣◌
-- what comes of it at a list: it fits and leaves these trees, or misses, or the fragment is a fault
abbrev pub Taking : Type 0
Taking = Forest → Outcome

-- a token fits or misses
abbrev pub found : Option Forest → Outcome
found None = Misses
found (Some rest) = Fits rest

-- nothing is taken if a test holds
abbrev pub nothing_if : Bool → Taking
nothing_if true f = Fits f
nothing_if false f = Misses

-- the second after the first
abbrev pub and_then : Taking → Outcome → Outcome
and_then q (Fits rest) = q rest
and_then q Misses = Misses
and_then q Faults = Faults

-- what came of the first, or if it missed, the second
abbrev pub otherwise : Outcome → Taking → Taking
otherwise (Fits rest) q f = Fits rest
otherwise Misses q f = q f
otherwise Faults q f = Faults

-- what came of it, or if it missed, nothing is taken
abbrev pub or_nothing : Outcome → Forest → Outcome
or_nothing (Fits rest) f = Fits rest
or_nothing Misses f = Fits f
or_nothing Faults f = Faults

-- to miss is a fault
abbrev pub decided : Outcome → Outcome
decided (Fits rest) = Fits rest
decided Misses = Faults
decided Faults = Faults

-- nothing is taken, if it missed
abbrev pub without : Outcome → Forest → Outcome
without (Fits rest) f = Misses
without Misses f = Fits f
without Faults f = Faults

-- what came of one round, and the others after it
abbrev pub next_round : Taking → Outcome → Forest → Outcome
next_round others (Fits rest) f = others rest
next_round others Misses f = Fits f
next_round others Faults f = Faults

-- as often as it fits, at most n times
abbrev pub rounds : ℕ → Taking → Taking
rounds zero p f = Fits f
rounds (suc n) p f = next_round (rounds n p) (p f) f

-- what comes of an expression, given what comes of the rules: each round of a repetition but the last
-- takes a token, so there is at most one more than tokens
abbrev pub taken : Edition → (Name → Taking) → Expression → Taking
taken edition rules (token t) f = found (token_at edition t f)
taken edition rules (since first) f = nothing_if (nat_le (year_of first) (year_of edition)) f
taken edition rules (a ⨾ b) f = and_then (taken edition rules b) (taken edition rules a f)
taken edition rules (a ∣ b) f = otherwise (taken edition rules a f) (taken edition rules b) f
taken edition rules (many a) f = rounds (suc (size f)) (taken edition rules a) f
taken edition rules (maybe a) f = or_nothing (taken edition rules a f) f
taken edition rules (surely a) f = decided (taken edition rules a f)
taken edition rules (unless a) f = without (taken edition rules a f) f
taken edition rules (rule k) f = rules k f
