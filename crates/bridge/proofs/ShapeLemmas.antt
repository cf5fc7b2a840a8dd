-- A spelling depends only on span-erased tokens: the token itself, and for a quote the next
-- visible one.
use Rattle.std.proofs.Common.{◌≡◌, true, false, ◌&&◌, List, [], ◌∷◌, refl, ap, if◌then◌else◌}
use Rattle.std.specs.Prelude.{IsSome}
use Rattle.tt_data.specs.Walk.{Step, at_leaf, opens, closes}
use Rattle.tt_data.specs.declared.delimiter.DelimiterKind.{DelimiterKind}
use Rattle.tt_data.specs.declared.delimiter.DelimiterKind.TheVariants.{Parenthesis, Brace, Bracket, Invisible}
use Rattle.tt_data.specs.declared.leaf.Leaf.TheVariants as as_leaf
use Rattle.tt_data.specs.declared.span.Span.{Span}
use Rattle.bridge.specs.Printing.{is_quote}
use Rattle.bridge.specs.Spelling.{begins_with_name, leaf_spelling, quote_spelling, spelling}
use Rattle.tt.specs.Glued.{is_joint}
use Rattle.bridge.specs.Text.{is_char, is_visible}

next_name : (t : Step) (more : List Step) → begins_with_name (t ∷ more) ≡ begins_with_name (t ∷ [])
next_name (at_leaf (as_leaf.Ident i)) more = refl
next_name (at_leaf (as_leaf.Punct p)) more = refl
next_name (at_leaf (as_leaf.Literal l)) more = refl
next_name (opens kind span) more = refl
next_name (closes kind span) more = refl

pub next_alone : (s t : Step) (more : List Step) → spelling s (t ∷ more) ≡ spelling s (t ∷ [])
next_alone (at_leaf (as_leaf.Ident i)) t more = refl
next_alone (at_leaf (as_leaf.Literal l)) t more = refl
next_alone (opens kind span) t more = refl
next_alone (closes kind span) t more = refl
next_alone (at_leaf (as_leaf.Punct p)) t more =
    ap (λ u. if is_char "'" p then quote_spelling (is_joint p.spacing && u) else leaf_spelling (as_leaf.Punct p)) (next_name t more)

pub own_alone : (s : Step) (more : List Step) → is_quote s ≡ false → spelling s more ≡ spelling s []
own_alone (at_leaf (as_leaf.Ident i)) more e = refl
own_alone (at_leaf (as_leaf.Literal l)) more e = refl
own_alone (opens kind span) more e = refl
own_alone (closes kind span) more e = refl
own_alone (at_leaf (as_leaf.Punct p)) more e = rw e refl

pub opening_spelled : (kind : DelimiterKind) (span : Span) (more : List Step) → is_visible kind ≡ true → IsSome (spelling (opens kind span) more)
opening_spelled Parenthesis span more e = refl
opening_spelled Brace span more e = refl
opening_spelled Bracket span more e = refl
opening_spelled Invisible span more e = cc

pub closing_spelled : (kind : DelimiterKind) (span : Span) (more : List Step) → is_visible kind ≡ true → IsSome (spelling (closes kind span) more)
closing_spelled Parenthesis span more e = refl
closing_spelled Brace span more e = refl
closing_spelled Bracket span more e = refl
closing_spelled Invisible span more e = cc
