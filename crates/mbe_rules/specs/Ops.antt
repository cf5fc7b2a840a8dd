-- What the rules of the code mean.
use Rattle.std.specs.Prelude.{List, [], ◌∷◌, map, option_map}
use Rattle.tt_data.specs.declared.leaf.Leaf.TheVariants as as_leaf
use Rattle.mbe_rules.specs.Items as spec
use Rattle.mbe_rules.specs.Items.{Part, itself, value_of, variable, count_of, index_of, len_of, ignore_of, concat_of, word, puncts, lifetime, dollar, literal_between, ident_between, lifetime_between, puncts_between, Items, done, item, group_of, repetition}
use Rattle.mbe_rules.specs.declared.parser.ConcatElement.{ConcatElement}
use Rattle.mbe_rules.specs.declared.parser.ConcatElement.TheVariants as element
use Rattle.mbe_rules.specs.declared.parser.Op.{Op, Var, Count, Index, Len, Ignore, Concat, Literal, Ident, Punct, Lifetime, Repeat', Subtree', Row_of-Op, end_of-Op, more_of-Op}
use Rattle.mbe_rules.specs.declared.rules.Rule.{Rule}
use Rattle.mbe_rules.specs.declared.rules.Rules.{Rules}
use Rattle.mbe_rules.specs.declared.parser.Separator.{Separator}
use Rattle.mbe_rules.specs.declared.parser.Separator.TheVariants as separator

-- a part of `${concat(..)}`
abbrev pub part_of : ConcatElement → Part
part_of (element.Text text) = itself text
part_of (element.Var name) = value_of name

-- a separator
abbrev pub separator_of : Separator → spec.Separator
separator_of (separator.Literal l) = literal_between l
separator_of (separator.Ident i) = ident_between i
separator_of (separator.Lifetime p i) = lifetime_between p i
separator_of (separator.Puncts ps) = puncts_between ps.items

-- an op before others, and the ops of a row
abbrev mutual
  pub put_op : Op → Items → Items
  put_op (Var name kind id) rest = item (dollar (variable name kind) id) rest
  put_op (Count name depth id) rest = item (dollar (count_of name depth) id) rest
  put_op (Index depth id) rest = item (dollar (index_of depth) id) rest
  put_op (Len depth id) rest = item (dollar (len_of depth) id) rest
  put_op (Ignore name id) rest = item (dollar (ignore_of name) id) rest
  put_op (Concat elements id) rest = item (dollar (concat_of (map part_of elements.items)) id) rest
  put_op (Repeat' shape row sep kind) rest = repetition (row_items row) (option_map separator_of sep) kind rest
  put_op (Subtree' shape row delimiter) rest = group_of delimiter (row_items row) rest
  put_op (Literal l) rest = item (word (as_leaf.Literal l)) rest
  put_op (Ident i) rest = item (word (as_leaf.Ident i)) rest
  put_op (Punct ps) rest = item (puncts ps.items) rest
  put_op (Lifetime p i) rest = item (lifetime p i) rest

  pub row_items : {m : _} → Row_of-Op m → Items
  row_items end_of-Op = done
  row_items (more_of-Op o row) = put_op o (row_items row)

-- the ops of a list
abbrev pub items_of : List Op → Items
items_of [] = done
items_of (o ∷ os) = put_op o (items_of os)

-- a rule
abbrev pub rule_of : Rule → spec.Rule
rule_of r = record { style = r.style; pattern = items_of r.pattern.items; template = items_of r.template.items }

-- the rules of a definition
abbrev pub rules_of : Rules → spec.Rules
rules_of r = record { list = map rule_of r.list.items; err = r.err }
