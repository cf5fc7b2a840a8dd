-- The errors for missing fragments.
use Rattle.std.specs.Prelude.{ℕ, List, Option, Some, None, codes, if◌then◌else◌}
use Rattle.tt.specs.Elements.{first_place}
use Rattle.tt_data.specs.Forest.{Forest}
use Rattle.tt_data.specs.declared.span.Span.{Span}
use Rattle.mbe_rules.specs.declared.errors.ExpandErrorKind.{ExpandErrorKind}
use Rattle.mbe_rules.specs.declared.errors.ExpandErrorKind.TheVariants.{BindingError}
use Rattle.mbe_matcher.specs.Grammar.{is_no_fragment}
use Rattle.fragment_grammar.specs.declared.fragment.Prefix.{Prefix}
use Rattle.fragment_grammar.specs.declared.fragment.PrefixEntryPoint.{PrefixEntryPoint}
use Rattle.fragment_grammar.specs.declared.fragment.PrefixEntryPoint.TheVariants as entry

-- the text of the error where a fragment of a kind is missing
abbrev pub missing_text : PrefixEntryPoint → List ℕ
missing_text entry.Vis = codes "expected Vis"
missing_text entry.Block = codes "expected Block"
missing_text entry.Stmt = codes "expected Stmt"
missing_text entry.Pat = codes "expected Pat"
missing_text entry.PatTop = codes "expected PatTop"
missing_text entry.Ty = codes "expected Ty"
missing_text entry.Expr = codes "expected Expr"
missing_text entry.Path = codes "expected Path"
missing_text entry.Item = codes "expected Item"
missing_text entry.MetaItem = codes "expected MetaItem"

-- a span, or else the end
abbrev pub place_or_end : Span → Option Span → Span
place_or_end end None = end
place_or_end end (Some place) = place

-- the error that a fragment of a kind is missing at the front of a list with this end
abbrev pub missing : PrefixEntryPoint → Forest → Span → Span × ExpandErrorKind
missing k f end = (place_or_end end (first_place f), BindingError (missing_text k))

-- the error if what a grammar consumes is no fragment
abbrev pub missing_at : PrefixEntryPoint → Forest → Span → Prefix → Option (Span × ExpandErrorKind)
missing_at k f end p = if is_no_fragment f p then Some (missing k f end) else None
