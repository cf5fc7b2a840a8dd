-- Worked examples, by computation: texts of errors, and styles as bits.
use Rattle.std.proofs.Common.{◌≡◌, refl, Some, codes, bit_or}
use Rattle.bitflags.proofs.OnLiterals.{bitflags_on_literals}
use Rattle.bitflags.specs.Sets.{known_bits, find_name}
use Rattle.mbe_rules.specs.declared.errors.CountError.TheVariants.{OutOfBounds}
use Rattle.mbe_rules.specs.declared.errors.ExpandErrorKind.TheVariants as kind
use Rattle.mbe_rules.specs.declared.errors.ParseError.TheVariants.{Expected, InvalidRepeat}
use Rattle.mbe_rules.specs.declared.macro_call_style.MacroCallStyle.TheVariants.{FnLike, Derive}
use Rattle.mbe_rules.specs.Messages.{parse_message, expand_message, count_message}
use Rattle.mbe_rules.specs.Styles.{style_bit, style_names}

-- an error of a definition is told by its own text, or by the one that goes with it
told_itself : parse_message (Expected (codes "expected `;`")) ≡ codes "expected `;`"
told_itself = refl

told_by_its_kind : parse_message InvalidRepeat ≡ codes "invalid repeat"
told_by_its_kind = refl

-- a variable that is not bound is told with its name
unbound : expand_message (kind.UnresolvedBinding (codes "x")) ≡ codes "could not find binding x"
unbound = refl

told_of_a_binding : expand_message (kind.BindingError (codes "expected ident: `x`")) ≡ codes "expected ident: `x`"
told_of_a_binding = refl

no_rule : expand_message kind.NoMatchingRule ≡ codes "no rule matches input tokens"
no_rule = refl

out_of_bounds : count_message OutOfBounds ≡ codes "${count} out of bounds"
out_of_bounds = refl

-- each style has a bit of its own
two_styles : bit_or (style_bit FnLike) (style_bit Derive) ≡ 5
two_styles = refl

all_styles : known_bits style_names ≡ 7
unfolding bitflags_on_literals
all_styles = refl

named : find_name style_names (codes "ATTR") ≡ Some 2
unfolding bitflags_on_literals
named = refl
