-- The kinds of delimiters.
use Rattle.std.specs.Prelude.{Bool, true, false}
use Rattle.tt_data.specs.declared.delimiter.DelimiterKind.{DelimiterKind}
use Rattle.tt_data.specs.declared.delimiter.DelimiterKind.TheVariants.{Parenthesis, Brace, Bracket, Invisible}

-- two delimiters are of one kind
abbrev pub same_kind : DelimiterKind → DelimiterKind → Bool
same_kind Parenthesis Parenthesis = true
same_kind Brace Brace = true
same_kind Bracket Bracket = true
same_kind Invisible Invisible = true
same_kind _ _ = false
