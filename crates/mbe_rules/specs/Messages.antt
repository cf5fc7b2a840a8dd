-- The texts that errors are displayed as.
use Rattle.std.specs.Prelude.{ℕ, List, ◌++◌, codes}
use Rattle.mbe_rules.specs.declared.errors.CountError.{CountError}
use Rattle.mbe_rules.specs.declared.errors.CountError.TheVariants.{OutOfBounds, Misplaced}
use Rattle.mbe_rules.specs.declared.errors.ExpandErrorKind.{ExpandErrorKind}
use Rattle.mbe_rules.specs.declared.errors.ExpandErrorKind.TheVariants as kind
use Rattle.mbe_rules.specs.declared.errors.ParseError.{ParseError}
use Rattle.mbe_rules.specs.declared.errors.ParseError.TheVariants.{UnexpectedToken, Expected, InvalidRepeat, RepetitionEmptyTokenTree}

-- why rules cannot be parsed; an error with a text is displayed as that text
abbrev pub parse_message : ParseError → List ℕ
parse_message (UnexpectedToken text) = text
parse_message (Expected text) = text
parse_message InvalidRepeat = codes "invalid repeat"
parse_message RepetitionEmptyTokenTree = codes "empty token tree in repetition"

-- why a call cannot be expanded
abbrev pub expand_message : ExpandErrorKind → List ℕ
expand_message (kind.BindingError text) = text
expand_message (kind.UnresolvedBinding name) = codes "could not find binding " ++ name
expand_message kind.LeftoverTokens = codes "leftover tokens"
expand_message kind.LimitExceeded = codes "Expand exceed limit"
expand_message kind.NoMatchingRule = codes "no rule matches input tokens"
expand_message kind.UnexpectedToken = codes "unexpected token in input"

-- why iterations cannot be counted
abbrev pub count_message : CountError → List ℕ
count_message OutOfBounds = codes "${count} out of bounds"
count_message Misplaced = codes "${count} misplaced"
