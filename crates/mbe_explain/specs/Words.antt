-- The words for what is wanted. (Of this project.)
use Rattle.std.specs.Prelude.{ℕ, List, [], ◌++◌, codes, flat_map, Option, Some, None}
use Rattle.tt_data.specs.Displayed.{ident_text, literal_text, punct_text}
use Rattle.tt_data.specs.declared.delimiter.DelimiterKind.{DelimiterKind}
use Rattle.tt_data.specs.declared.delimiter.DelimiterKind.TheVariants.{Brace, Bracket}
use Rattle.tt_data.specs.declared.delimiter.DelimiterKind.TheVariants.{Invisible, Parenthesis}
use Rattle.tt_data.specs.declared.leaf.Punct.{Punct}
use Rattle.mbe_rules.specs.declared.parser.MetaVarKind.{MetaVarKind}
use Rattle.mbe_rules.specs.declared.parser.MetaVarKind.TheVariants as kind
use Rattle.mbe_rules.specs.declared.parser.Op as op
use Rattle.mbe_rules.specs.declared.parser.Separator.{Separator}
use Rattle.mbe_rules.specs.declared.parser.Separator.TheVariants as separator
use Rattle.mbe_explain.specs.declared.wanted.Wanted.{Wanted}
use Rattle.mbe_explain.specs.declared.wanted.Wanted.TheVariants.{Close, End, Op}
use Rattle.mbe_explain.specs.declared.wanted.Wanted.TheVariants.{Separator as Between}

-- the fragment specifier of a kind
abbrev pub specifier : MetaVarKind → List ℕ
specifier kind.Path = codes "path"
specifier kind.Ty = codes "ty"
specifier kind.Pat = codes "pat"
specifier kind.PatParam = codes "pat_param"
specifier kind.Stmt = codes "stmt"
specifier kind.Block = codes "block"
specifier kind.Meta = codes "meta"
specifier kind.Item = codes "item"
specifier kind.Vis = codes "vis"
specifier kind.Expr = codes "expr"
specifier kind.Expr2021 = codes "expr_2021"
specifier kind.Ident = codes "ident"
specifier kind.Tt = codes "tt"
specifier kind.Lifetime = codes "lifetime"
specifier kind.Literal = codes "literal"

-- a colon and a fragment specifier, if there is one
abbrev pub colon_specifier : Option MetaVarKind → List ℕ
colon_specifier None = []
colon_specifier (Some k) = codes ":" ++ specifier k

-- the opening bracket of a group
abbrev pub opening_text : DelimiterKind → List ℕ
opening_text Parenthesis = codes "("
opening_text Brace = codes "{"
opening_text Bracket = codes "["
opening_text Invisible = []

-- puncts, one after another
abbrev pub puncts_text : List Punct → List ℕ
puncts_text ps = flat_map punct_text ps

-- an op as it is written, a group by its opening bracket
abbrev pub op_text : op.Op → List ℕ
op_text (op.Var name kind id) = codes "$" ++ name ++ colon_specifier kind
op_text (op.Literal l) = literal_text l
op_text (op.Ident i) = ident_text i
op_text (op.Punct ps) = puncts_text ps.items
op_text (op.Lifetime p i) = codes "'" ++ i.sym
op_text (op.Subtree' shape row d) = opening_text d.kind
op_text _ = codes "$"

-- a separator as it is written
abbrev pub separator_text : Separator → List ℕ
separator_text (separator.Literal l) = literal_text l
separator_text (separator.Ident i) = ident_text i
separator_text (separator.Lifetime p i) = codes "'" ++ i.sym
separator_text (separator.Puncts ps) = puncts_text ps.items

-- what is wanted, in words
abbrev pub words_of : Wanted → List ℕ
words_of (Op o) = codes "`" ++ op_text o.now ++ codes "`"
words_of (Between s) = codes "`" ++ separator_text s.now ++ codes "`"
words_of Close = codes "the group's end"
words_of End = codes "the end"
