-- What a metavariable of each kind consumes. (The Rust Reference, "Macros By Example".)
use Rattle.std.specs.Prelude.{ℕ, suc, Bool, true, false, ◌&&◌, ◌||◌, Option, Some, None, if◌then◌else◌}
use Rattle.tt_data.specs.Forest.{Forest, empty, leaf}
use Rattle.tt_data.specs.declared.leaf.Ident.{Ident}
use Rattle.tt_data.specs.declared.leaf.IdentIsRaw.TheVariants as is_raw
use Rattle.tt_data.specs.declared.leaf.Leaf.TheVariants as as_leaf
use Rattle.tt.specs.Glued.{glued_count}
use Rattle.mbe_rules.specs.Text.{is_truth, is_word, is_char}
use Rattle.mbe_rules.specs.declared.parser.MetaVarKind.{MetaVarKind}
use Rattle.mbe_rules.specs.declared.parser.MetaVarKind.TheVariants as kind
use Rattle.mbe_matcher.specs.Grammar.{Grammar, asked}
use Rattle.fragment_grammar.specs.declared.fragment.PrefixEntryPoint.TheVariants as entry

-- an identifier but `_`
abbrev pub ident_trees : Forest → Option ℕ
ident_trees (leaf (as_leaf.Ident i) rest) = if is_word "_" i then None else Some 1
ident_trees _ = None

-- a quote with its name
abbrev pub lifetime_trees : Forest → Option ℕ
lifetime_trees (leaf (as_leaf.Punct p) (leaf (as_leaf.Ident i) rest)) = if is_char "'" p then Some 2 else None
lifetime_trees _ = None

-- a literal, `true` or `false`
abbrev pub unsigned_trees : Forest → Option ℕ
unsigned_trees (leaf (as_leaf.Literal l) rest) = Some 1
unsigned_trees (leaf (as_leaf.Ident i) rest) = if is_truth i.sym then Some 1 else None
unsigned_trees _ = None

-- one tree more
abbrev pub after_minus : Option ℕ → Option ℕ
after_minus (Some n) = Some (suc n)
after_minus None = None

-- a literal, `true` or `false`, perhaps with a `-` before it
abbrev pub literal_trees : Forest → Option ℕ
literal_trees (leaf (as_leaf.Punct p) rest) = if is_char "-" p then after_minus (unsigned_trees rest) else None
literal_trees f = unsigned_trees f

-- a quote with its name, a glued punct but a lone quote, another leaf, or a group
abbrev pub tree_trees : Forest → Option ℕ
tree_trees empty = None
tree_trees (leaf (as_leaf.Punct p) rest) =
    if is_char "'" p then lifetime_trees (leaf (as_leaf.Punct p) rest) else Some (glued_count (leaf (as_leaf.Punct p) rest))
tree_trees _ = Some 1

-- no expression begins so
abbrev pub is_refused : Forest → Bool
is_refused (leaf (as_leaf.Ident i) rest) = is_word "let" i
is_refused _ = false

-- an identifier that is not raw
abbrev pub is_plain : Ident → Bool
is_plain i = elim i.is_raw [ is_raw.No ↦ true | is_raw.Yes ↦ false ]

-- no expression of the editions before 2024 begins so
abbrev pub is_refused_2021 : Forest → Bool
is_refused_2021 (leaf (as_leaf.Ident i) rest) = is_word "let" i || (is_plain i && (is_word "_" i || is_word "const" i))
is_refused_2021 _ = false

-- none if it is refused
abbrev pub unless_refused : Bool → Option ℕ → Option ℕ
unless_refused true n = None
unless_refused false n = n

-- how many trees a metavariable consumes at the front of a list, if any; only `vis` may take none
abbrev pub taken : Grammar → MetaVarKind → Forest → Option ℕ
taken grammar kind.Ident f = ident_trees f
taken grammar kind.Tt f = tree_trees f
taken grammar kind.Lifetime f = lifetime_trees f
taken grammar kind.Literal f = literal_trees f
taken grammar kind.Expr f = unless_refused (is_refused f) (asked grammar entry.Expr f)
taken grammar kind.Expr2021 f = unless_refused (is_refused_2021 f) (asked grammar entry.Expr f)
taken grammar kind.Path f = asked grammar entry.Path f
taken grammar kind.Ty f = asked grammar entry.Ty f
taken grammar kind.Pat f = asked grammar entry.PatTop f
taken grammar kind.PatParam f = asked grammar entry.Pat f
taken grammar kind.Stmt f = asked grammar entry.Stmt f
taken grammar kind.Block f = asked grammar entry.Block f
taken grammar kind.Meta f = asked grammar entry.MetaItem f
taken grammar kind.Item f = asked grammar entry.Item f
taken grammar kind.Vis f = asked grammar entry.Vis f
