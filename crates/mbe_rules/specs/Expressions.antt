-- Metavariable expressions: what is in `${..}`.
-- (Rust's unstable book, `macro_metavar_expr` and `macro_metavar_expr_concat`.)
use Rattle.std.specs.Prelude.{ℕ, ◌^◌, ◌&&◌, not, List, [], ◌∷◌, if◌then◌else◌, Option, Some, None, option_map, option_and_then, nat_lt}
use Rattle.std.specs.Str.{all_ascii_digits}
use Rattle.std.specs.Str.Parse.{digits_value, without_leading_plus}
use Rattle.tt_data.specs.Forest.{Forest, leaf, group}
use Rattle.tt_data.specs.declared.delimiter.DelimiterKind.TheVariants.{Parenthesis}
use Rattle.tt_data.specs.declared.leaf.Leaf.TheVariants as as_leaf
use Rattle.mbe_rules.specs.Text.{same_kind, is, is_character, is_nil}
use Rattle.mbe_rules.specs.Trees.{Sign, name, literal, punct, signs}
use Rattle.mbe_rules.specs.Items.{Part, itself, value_of, Dollar, count_of, index_of, len_of, ignore_of, concat_of}

-- the number that one or more decimal digits spell, if it fits a `usize`, which has 64 bits
abbrev pub number_of_digits : List ℕ → Option ℕ
number_of_digits [] = None
number_of_digits ds = if all_ascii_digits ds && nat_lt (digits_value 10 ds) (2 ^ 64) then Some (digits_value 10 ds) else None

-- the number that digits spell, perhaps with a `+` before them
abbrev pub number_in : List ℕ → Option ℕ
number_in text = number_of_digits (without_leading_plus text)

-- a depth: a literal without suffix that spells a number, of whatever form it is; nothing means 0
abbrev pub depth_in : List Sign → Option ℕ
depth_in [] = Some 0
depth_in (literal text suffix ∷ []) = if is_nil suffix then number_in text else None
depth_in _ = None

-- `$name`, and the signs after it
abbrev pub variable_in : List Sign → Option (List ℕ × List Sign)
variable_in (punct d ∷ name n ∷ more) = if is_character "$" d && not (is "_" n) then Some (n, more) else None
variable_in _ = None

-- a depth after a comma; nothing means 0
abbrev pub depth_after : List Sign → Option ℕ
depth_after [] = Some 0
depth_after (punct c ∷ more) = if is_character "," c then depth_in more else None
depth_after _ = None

-- `$name`, and after a comma a depth
abbrev pub count_in : List Sign → Option Dollar
count_in ss = option_and_then (λ (v : List ℕ × List Sign). option_map (count_of v.0) (depth_after v.1)) (variable_in ss)

-- `$name` alone
abbrev pub ignore_in : List Sign → Option Dollar
ignore_in ss = option_and_then (λ (v : List ℕ × List Sign). if is_nil v.1 then Some (ignore_of v.0) else None) (variable_in ss)

-- a part before the parts after it
abbrev pub with_part : Part → Option (List Part) → Option (List Part)
with_part p ps = option_map (λ qs. p ∷ qs) ps

-- parts with commas between them, perhaps with one after the last: a literal, a name, or `$name`
abbrev mutual
  pub parts_in : List Sign → Option (List Part)
  parts_in [] = Some []
  parts_in (literal text suffix ∷ more) = part_then (itself text) more
  parts_in (name n ∷ more) = part_then (itself n) more
  parts_in (punct d ∷ name n ∷ more) = if is_character "$" d then part_then (value_of n) more else None
  parts_in _ = None

  -- a part, and after a comma the others
  pub part_then : Part → List Sign → Option (List Part)
  part_then p [] = Some (p ∷ [])
  part_then p (punct c ∷ more) = if is_character "," c then with_part p (parts_in more) else None
  part_then p _ = None

-- two parts or more
abbrev pub concat_in : Option (List Part) → Option Dollar
concat_in (Some (p ∷ q ∷ more)) = Some (concat_of (p ∷ q ∷ more))
concat_in _ = None

-- the function of this name, with these arguments
abbrev pub function_of : List ℕ → List Sign → Option Dollar
function_of called arguments =
    if is "count" called then count_in arguments
    else if is "ignore" called then ignore_in arguments
    else if is "index" called then option_map index_of (depth_in arguments)
    else if is "len" called then option_map len_of (depth_in arguments)
    else if is "concat" called then concat_in (parts_in arguments) else None

-- a function's name and its arguments in a parenthesis; trees after that don't count
abbrev pub expression_in : Forest → Option Dollar
expression_in (leaf (as_leaf.Ident called) (group d arguments rest)) =
    if same_kind d.kind Parenthesis then function_of called.sym (signs arguments) else None
expression_in _ = None
