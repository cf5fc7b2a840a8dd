-- Matchers and transcribers: the ops of a list of trees, or the first fault. (The Rust Reference,
-- "Macros By Example": MacroMatch, transcribing, metavariables, and edition differences of
-- fragments.)
use Rattle.std.specs.Prelude.{ℕ, zero, suc, ◌+◌, ◌-◌, Bool, true, false, ◌&&◌, not, List, [], ◌∷◌, codes, if◌then◌else◌, Option, Some, None, option_map, Ok, nat_le}
use Rattle.tt_data.specs.Editions.{year_of}
use Rattle.tt_data.specs.Forest.{Forest, empty, leaf, group}
use Rattle.tt_data.specs.declared.delimiter.Delimiter.{Delimiter}
use Rattle.tt_data.specs.declared.delimiter.DelimiterKind.TheVariants.{Parenthesis, Brace}
use Rattle.tt_data.specs.declared.edition.Edition.{Edition}
use Rattle.tt_data.specs.declared.leaf.Ident.{Ident}
use Rattle.tt_data.specs.declared.leaf.IdentIsRaw.TheVariants as is_raw
use Rattle.tt_data.specs.declared.leaf.Leaf.{Leaf}
use Rattle.tt_data.specs.declared.leaf.Leaf.TheVariants as as_leaf
use Rattle.tt_data.specs.declared.leaf.Punct.{Punct}
use Rattle.tt_data.specs.declared.span.Span.{Span}
use Rattle.tt_data.specs.declared.span.SyntaxContext.{SyntaxContext}
use Rattle.mbe_rules.specs.declared.parser.MetaVarKind.{MetaVarKind}
use Rattle.mbe_rules.specs.declared.parser.MetaVarKind.TheVariants as kind
use Rattle.mbe_rules.specs.declared.parser.RepeatKind.{RepeatKind}
use Rattle.mbe_rules.specs.Text.{same_kind, is_nil, is_truth, is_word, is_char}
use Rattle.tt.specs.Glued.{glued_count}
use Rattle.mbe_rules.specs.Trees.{first_puncts}
use Rattle.mbe_rules.specs.Items.{Dollar, variable, Item, word, puncts, lifetime, dollar, Items, done, item, group_of, repetition}
use Rattle.mbe_rules.specs.Parsed.{Parsed, ◌>>=◌, unexpected, expected, or_fault}
use Rattle.mbe_rules.specs.Repetitions.{Between, trees_between, repeated, separator_in}
use Rattle.mbe_rules.specs.Expressions.{expression_in}

-- matchers and transcribers are parsed alike, but for a few forms that only one of them has
pub data Mode : Type 0 where
  in_pattern : Mode
  in_template : Mode

-- ---- what a punct begins

-- the forms of what a punct begins
pub data Head : Type 0 where
  -- so many puncts, glued to one operator
  glued : ℕ → Head
  -- in a matcher, a quote with its name
  named_quote : Head
  -- a `$` at the end of its list
  last_dollar : Head
  -- `$crate`
  dollar_crate : Head
  -- `$$`, of which only the second stays
  two_dollars : Head
  -- a `$` and so many trees after it
  begun : Dollar → ℕ → Head

-- how many trees after the punct belong to it
abbrev pub trees_of : Head → ℕ
trees_of (glued n) = n - 1
trees_of named_quote = 1
trees_of last_dollar = 0
trees_of dollar_crate = 1
trees_of two_dollars = 1
trees_of (begun d n) = n

-- `$crate`, as an identifier with the span of its `$`
abbrev pub crate_at : Span → Leaf
crate_at span = as_leaf.Ident (record { sym = codes "$crate"; span = span; is_raw = is_raw.No })

-- the op that a punct begins, with the trees after it
abbrev pub item_of : Head → Punct → Forest → Item
item_of (glued n) p rest = puncts (first_puncts n (leaf (as_leaf.Punct p) rest))
item_of named_quote p (leaf (as_leaf.Ident i) rest) = lifetime p i
item_of dollar_crate p rest = word (crate_at p.span)
item_of two_dollars p rest = puncts (first_puncts 1 rest)
item_of (begun x n) p rest = dollar x p.span
item_of _ p rest = puncts (p ∷ [])

-- what a punct begins that is no `$`: in a matcher a quote must have its name, as one op
abbrev pub punct_head : Mode → Punct → Forest → Parsed Head
punct_head in_pattern p (leaf (as_leaf.Ident i) rest) = if is_char "'" p then Ok named_quote else Ok (glued 1)
punct_head in_pattern p rest =
    if is_char "'" p then unexpected "quote without a name" else Ok (glued (glued_count (leaf (as_leaf.Punct p) rest)))
punct_head in_template p rest = Ok (glued (glued_count (leaf (as_leaf.Punct p) rest)))

-- ---- lists of ops

-- a `$` and a parenthesis begin a repetition
abbrev pub is_repetition : Punct → Delimiter → Bool
is_repetition p d = is_char "$" p && same_kind d.kind Parenthesis

-- an op before the ops after it
abbrev pub with_item : Item → Parsed Items → Parsed Items
with_item i rest = rest >>= λ j. Ok (item i j)

-- a group's ops, and those after it
abbrev pub with_group : Delimiter → Parsed Items → Parsed Items → Parsed Items
with_group d inner rest = inner >>= λ i. rest >>= λ j. Ok (group_of d i j)

-- the op that a punct begins, and the ops after it
abbrev pub with_head : Punct → Forest → (ℕ → Parsed Items) → Head → Parsed Items
with_head p rest after h = with_item (item_of h p rest) (after (trees_of h))

-- a repetition with this separator and operator, and the ops after it; its own fault comes first
abbrev pub with_repetition : Forest → Parsed Items → (ℕ → Parsed Items) → Between × RepeatKind → Parsed Items
with_repetition rest inner after b =
    inner >>= λ i. after (trees_between b.0 + 1) >>= λ j. Ok (repetition i (separator_in b.0 rest) b.1 j)

module _ (edition : SyntaxContext → Edition) where
  -- the kind of a fragment specifier, by the edition of the context in which it is written
  abbrev pub kind_of : Ident → Option MetaVarKind
  kind_of k =
      if is_word "path" k then Some kind.Path
      else if is_word "ty" k then Some kind.Ty
      else if is_word "pat" k then (if nat_le 2021 (year_of (edition k.span.ctx)) then Some kind.Pat else Some kind.PatParam)
      else if is_word "pat_param" k then Some kind.PatParam
      else if is_word "stmt" k then Some kind.Stmt
      else if is_word "block" k then Some kind.Block
      else if is_word "meta" k then Some kind.Meta
      else if is_word "item" k then Some kind.Item
      else if is_word "vis" k then Some kind.Vis
      else if is_word "expr" k then (if nat_le 2024 (year_of (edition k.span.ctx)) then Some kind.Expr else Some kind.Expr2021)
      else if is_word "expr_2021" k then Some kind.Expr2021
      else if is_word "ident" k then Some kind.Ident
      else if is_word "tt" k then Some kind.Tt
      else if is_word "lifetime" k then Some kind.Lifetime
      else if is_word "literal" k then Some kind.Literal
      else None

  -- a metavariable with this name: in a matcher a colon and a fragment specifier must follow
  abbrev pub variable_after : Mode → List ℕ → Forest → Parsed Head
  variable_after in_template n f = Ok (begun (variable n None) 1)
  variable_after in_pattern n (leaf (as_leaf.Punct c) (leaf (as_leaf.Ident k) rest)) =
      if is_char ":" c && not (is_word "_" k) then Ok (begun (variable n (kind_of k)) 3)
      else unexpected "missing fragment specifier"
  variable_after in_pattern n _ = unexpected "missing fragment specifier"

  -- what a `$` begins that is no repetition, by the trees after it
  abbrev pub dollar_head : Mode → Forest → Parsed Head
  dollar_head m empty = Ok last_dollar
  dollar_head m (leaf (as_leaf.Ident i) rest) =
      if is_word "crate" i then Ok dollar_crate else variable_after m i.sym rest
  dollar_head m (leaf (as_leaf.Literal l) rest) =
      if is_truth l.text && is_nil l.suffix then variable_after m l.text rest
      else expected "expected ident"
  dollar_head in_template (leaf (as_leaf.Punct p) rest) =
      if is_char "$" p then Ok two_dollars else expected "expected ident"
  dollar_head in_pattern (leaf (as_leaf.Punct p) rest) =
      if is_char "$" p then unexpected "`$$` is not allowed on the pattern side" else expected "expected ident"
  dollar_head in_template (group d inner rest) =
      if same_kind d.kind Brace
      then or_fault (option_map (λ x. begun x 1) (expression_in inner)) (unexpected "invalid metavariable expression")
      else expected "expected `$()` repetition or `${}` expression"
  dollar_head in_pattern (group d inner rest) =
      if same_kind d.kind Brace then unexpected "`${}` metavariable expressions are not allowed in matchers"
      else expected "expected `$()` repetition or `${}` expression"

  -- what a punct begins, except for a repetition
  abbrev pub head_at : Mode → Punct → Forest → Parsed Head
  head_at m p rest = if is_char "$" p then dollar_head m rest else punct_head m p rest

  -- the ops of the trees that are left after `skip` more
  abbrev pub items_after : Mode → ℕ → Forest → Parsed Items
  items_after m skip empty = Ok done
  items_after m (suc skip) (leaf l rest) = items_after m skip rest
  items_after m (suc skip) (group d inner rest) = items_after m skip rest
  items_after m zero (group d inner rest) = with_group d (items_after m 0 inner) (items_after m 0 rest)
  items_after m zero (leaf (as_leaf.Punct p) (group d inner rest)) =
      elim (is_repetition p d) [
        | true ↦ repeated rest >>= with_repetition rest (items_after m 0 inner) (λ n. items_after m n rest)
        | false ↦ head_at m p (group d inner rest)
            >>= with_head p (group d inner rest) (λ n. items_after m n (group d inner rest))
      ]
  items_after m zero (leaf (as_leaf.Punct p) rest) =
      head_at m p rest >>= with_head p rest (λ n. items_after m n rest)
  items_after m zero (leaf l rest) = with_item (word l) (items_after m 0 rest)

  -- the ops of a list of trees
  abbrev pub items_of : Mode → Forest → Parsed Items
  items_of m f = items_after m 0 f
