-- What an expression takes are trees at the front of the list, with at least so many tokens.
use Rattle.std.proofs.Common.{◌≡◌, ℕ, suc, zero, ◌+◌, ◌≤◌, min, Bool, true, false, refl, subst, arith, Option, Some, None}
use Rattle.std.specs.Prelude.{nat_le}
use Rattle.std.proofs.lemmas.Bool.{leb-true}
use Rattle.tt_data.specs.Forest.{Forest, empty, leaf, group, size}
use Rattle.tt_data.specs.declared.edition.Edition.{Edition}
use Rattle.tt_data.specs.declared.leaf.Leaf.TheVariants as as_leaf
use Rattle.tt_data.specs.declared.leaf.LitKind.{LitKind}
use Rattle.small_grammar.specs.Passing.{Passed, passed-none, passed-both, passed-fewer, passed-size}
use Rattle.small_grammar.specs.Passing as small
use Rattle.small_grammar.specs.Text.{◌>>◌}
use Rattle.small_grammar.specs.Tokens.{literal_where}
use Rattle.rust_grammar.specs.Answer.{rules_to}
use Rattle.rust_grammar.specs.Expressions.{Expression, token, since, ◌⨾◌, ◌∣◌, many, maybe, surely, unless, rule, Taking, found, nothing_if, and_then, otherwise, or_nothing, decided, without, next_round, rounds, taken}
use Rattle.rust_grammar.specs.Names.{Name, entry_visibility, entry_block, entry_statement, entry_pattern, entry_patterns, entry_type, entry_expression, entry_path, entry_item, entry_attribute, group, lifetime, attribute, visibility, statement_item, item, module_item, extern_crate, as_clause, use_declaration, use_tree, function, abi, type_alias, structure, enumeration, union, constant, static_item, trait_item, implementation, extern_block, macro_rules, macro_definition, reuse, item_macro, macro_end, generic_params, generic_param, where_clause, where_predicate, let_statement, expression_statement, statement_macro, expression, expression_in_condition, operations, operations_in_condition, assignment, assignment_in_condition, binary_operator, assignment_operator, operand, operand_in_condition, sign, sign_in_condition, half_range, half_range_in_condition, jump, jump_in_condition, closure, closure_in_condition, closure_param, atom, atom_in_condition, async_block, with_block, if_expression, loop, postfix, dotted, patterns, pattern, range_pattern_end, pattern_bound, literal_value, type, type_no_bounds, type_sign, type_base, function_type, for_lifetimes, bounds, bound, simple_path, path, path_rest, self_type, qualified_path, type_path, type_path_rest, type_segment, generic_args, generic_arg}
use Rattle.rust_grammar.specs.Rules.{says}
use Rattle.rust_grammar.specs.Tokens.{Token, fixed, a_name, a_literal, one_of, a_const_bracket, token_at}
use Rattle.rust_grammar.specs.declared.outcome.Outcome.{Outcome}
use Rattle.rust_grammar.specs.declared.outcome.Outcome.TheVariants.{Fits, Misses, Faults}

-- it always takes at least n tokens at the front
abbrev pub TakesAtLeast : ℕ → Taking → Type 0
TakesAtLeast n p = (f g : Forest) → p f ≡ Fits g → Passed n f g

-- the least number of tokens that a rule takes: these five may take none
abbrev pub least_of : Name → ℕ
least_of entry_visibility = 0
least_of operations = 0
least_of operations_in_condition = 0
least_of path_rest = 0
least_of type_path_rest = 0
least_of _ = 1

-- the least number of tokens that an expression takes
abbrev pub least : Expression → ℕ
least (token t) = 1
least (since first) = 0
least (a ⨾ b) = least a + least b
least (a ∣ b) = min (least a) (least b)
least (many a) = 0
least (maybe a) = 0
least (surely a) = least a
least (unless a) = 0
least (rule k) = least_of k

-- ---- tokens

if_passes : (b : Bool) (f rest g : Forest) → Passed 1 f rest → (b >> Some rest) ≡ Some g → Passed 1 f g
if_passes true f rest g passed e = (let same : rest ≡ g = cc in subst (Passed 1 f) same passed)
if_passes false f rest g passed e = absurd cc

literal-takes : (passes : LitKind → Bool) → small.TakesAtLeast 1 (literal_where passes)
literal-takes passes empty g e = absurd cc
literal-takes passes (leaf (as_leaf.Literal l) rest) g e = if_passes (passes l.kind) (leaf (as_leaf.Literal l) rest) rest g (small.behind_leaf _ _ _ refl) e
literal-takes passes (leaf (as_leaf.Punct p) rest) g e = absurd cc
literal-takes passes (leaf (as_leaf.Ident i) rest) g e = absurd cc
literal-takes passes (group d inner rest) g e = absurd cc

pub token-takes : (ed : Edition) (t : Token) → small.TakesAtLeast 1 (token_at ed t)
unfolding token_at
token-takes ed (fixed t) = small.token-takes t
token-takes ed a_name = small.ident-takes _
token-takes ed a_literal = literal-takes _
token-takes ed (one_of texts) = small.operator-takes _
token-takes ed a_const_bracket = small.group-takes _

found-takes : (n : ℕ) (f g : Forest) (o : Option Forest) → ((h : Forest) → o ≡ Some h → Passed n f h) → found o ≡ Fits g → Passed n f g
found-takes n f g None passes e = absurd cc
found-takes n f g (Some h) passes e = passes g cc

-- ---- expressions

nothing-takes : (b : Bool) → TakesAtLeast 0 (nothing_if b)
nothing-takes true f g e = (let same : f ≡ g = cc in subst (Passed 0 f) same (passed-none f))
nothing-takes false f g e = absurd cc

fewer-taken : (m n : ℕ) (p : Taking) → n ≤ m → TakesAtLeast m p → TakesAtLeast n p
fewer-taken m n p less takes f g e = passed-fewer m n f g less (takes f g e)

and_then-takes : (m n : ℕ) (q : Taking) → TakesAtLeast n q → (f g : Forest) (o : Outcome) → ((h : Forest) → o ≡ Fits h → Passed m f h) → and_then q o ≡ Fits g → Passed (m + n) f g
and_then-takes m n q q_takes f g (Fits h) p_takes e = passed-both m n f h g (p_takes h refl) (q_takes h g e)
and_then-takes m n q q_takes f g Misses p_takes e = absurd cc
and_then-takes m n q q_takes f g Faults p_takes e = absurd cc

otherwise-takes : (n : ℕ) (q : Taking) → TakesAtLeast n q → (f g : Forest) (o : Outcome) → ((h : Forest) → o ≡ Fits h → Passed n f h) → otherwise o q f ≡ Fits g → Passed n f g
otherwise-takes n q q_takes f g (Fits h) p_takes e = p_takes g e
otherwise-takes n q q_takes f g Misses p_takes e = q_takes f g e
otherwise-takes n q q_takes f g Faults p_takes e = absurd cc

or_nothing-takes : (n : ℕ) (f g : Forest) (o : Outcome) → ((h : Forest) → o ≡ Fits h → Passed n f h) → or_nothing o f ≡ Fits g → Passed 0 f g
or_nothing-takes n f g (Fits h) p_takes e = passed-fewer n 0 f g (omega arith) (p_takes g e)
or_nothing-takes n f g Misses p_takes e = (let same : f ≡ g = cc in subst (Passed 0 f) same (passed-none f))
or_nothing-takes n f g Faults p_takes e = absurd cc

decided-takes : (n : ℕ) (f g : Forest) (o : Outcome) → ((h : Forest) → o ≡ Fits h → Passed n f h) → decided o ≡ Fits g → Passed n f g
decided-takes n f g (Fits h) p_takes e = p_takes g e
decided-takes n f g Misses p_takes e = absurd cc
decided-takes n f g Faults p_takes e = absurd cc

without-takes : (f g : Forest) (o : Outcome) → without o f ≡ Fits g → Passed 0 f g
without-takes f g (Fits h) e = absurd cc
without-takes f g Misses e = (let same : f ≡ g = cc in subst (Passed 0 f) same (passed-none f))
without-takes f g Faults e = absurd cc

round-takes : (n : ℕ) (q : Taking) → TakesAtLeast 0 q → (f g : Forest) (o : Outcome) → ((h : Forest) → o ≡ Fits h → Passed n f h) → next_round q o f ≡ Fits g → Passed 0 f g
round-takes n q others f g (Fits h) takes e = passed-both 0 0 f h g (passed-fewer n 0 f h (omega arith) (takes h refl)) (others h g e)
round-takes n q others f g Misses takes e = (let same : f ≡ g = cc in subst (Passed 0 f) same (passed-none f))
round-takes n q others f g Faults takes e = absurd cc

pub rounds-take : (n : ℕ) (p : Taking) → TakesAtLeast n p → (m : ℕ) → TakesAtLeast 0 (rounds m p)
rounds-take n p p_takes zero f g e = (let same : f ≡ g = cc in subst (Passed 0 f) same (passed-none f))
rounds-take n p p_takes (suc m) f g e = round-takes n (rounds m p) (rounds-take n p p_takes m) f g (p f) (p_takes f) e

module _ (ed : Edition) (rules : Name → Taking) (rules_take : (k : Name) → TakesAtLeast (least_of k) (rules k)) where
  pub expression-takes : (e : Expression) → TakesAtLeast (least e) (taken ed rules e)
  expression-takes (token t) f g h = found-takes 1 f g (token_at ed t f) (token-takes ed t f) h
  expression-takes (since first) f g h = nothing-takes _ f g h
  expression-takes (a ⨾ b) f g h = and_then-takes (least a) (least b) (taken ed rules b) (expression-takes b) f g (taken ed rules a f) (expression-takes a f) h
  expression-takes (a ∣ b) f g h =
      otherwise-takes (min (least a) (least b)) (taken ed rules b)
      (fewer-taken (least b) (min (least a) (least b)) (taken ed rules b) (omega arith) (expression-takes b)) f g (taken ed rules a f)
      (fewer-taken (least a) (min (least a) (least b)) (taken ed rules a) (omega arith) (expression-takes a) f) h
  expression-takes (many a) f g h = rounds-take (least a) (taken ed rules a) (expression-takes a) (suc (size f)) f g h
  expression-takes (maybe a) f g h = or_nothing-takes (least a) f g (taken ed rules a f) (expression-takes a f) h
  expression-takes (surely a) f g h = decided-takes (least a) f g (taken ed rules a f) (expression-takes a f) h
  expression-takes (unless a) f g h = without-takes f g (taken ed rules a f) h
  expression-takes (rule k) f g h = rules_take k f g h

-- ---- the rules

pub says-enough : (k : Name) → nat_le (least_of k) (least (says k)) ≡ true
says-enough entry_visibility = refl
says-enough entry_block = refl
says-enough entry_statement = refl
says-enough entry_pattern = refl
says-enough entry_patterns = refl
says-enough entry_type = refl
says-enough entry_expression = refl
says-enough entry_path = refl
says-enough entry_item = refl
says-enough entry_attribute = refl
says-enough group = refl
says-enough lifetime = refl
says-enough attribute = refl
says-enough visibility = refl
says-enough statement_item = refl
says-enough item = refl
says-enough module_item = refl
says-enough extern_crate = refl
says-enough as_clause = refl
says-enough use_declaration = refl
says-enough use_tree = refl
says-enough function = refl
says-enough abi = refl
says-enough type_alias = refl
says-enough structure = refl
says-enough enumeration = refl
says-enough union = refl
says-enough constant = refl
says-enough static_item = refl
says-enough trait_item = refl
says-enough implementation = refl
says-enough extern_block = refl
says-enough macro_rules = refl
says-enough macro_definition = refl
says-enough reuse = refl
says-enough item_macro = refl
says-enough macro_end = refl
says-enough generic_params = refl
says-enough generic_param = refl
says-enough where_clause = refl
says-enough where_predicate = refl
says-enough let_statement = refl
says-enough expression_statement = refl
says-enough statement_macro = refl
says-enough expression = refl
says-enough expression_in_condition = refl
says-enough operations = refl
says-enough operations_in_condition = refl
says-enough assignment = refl
says-enough assignment_in_condition = refl
says-enough binary_operator = refl
says-enough assignment_operator = refl
says-enough operand = refl
says-enough operand_in_condition = refl
says-enough sign = refl
says-enough sign_in_condition = refl
says-enough half_range = refl
says-enough half_range_in_condition = refl
says-enough jump = refl
says-enough jump_in_condition = refl
says-enough closure = refl
says-enough closure_in_condition = refl
says-enough closure_param = refl
says-enough atom = refl
says-enough atom_in_condition = refl
says-enough async_block = refl
says-enough with_block = refl
says-enough if_expression = refl
says-enough loop = refl
says-enough postfix = refl
says-enough dotted = refl
says-enough patterns = refl
says-enough pattern = refl
says-enough range_pattern_end = refl
says-enough pattern_bound = refl
says-enough literal_value = refl
says-enough type = refl
says-enough type_no_bounds = refl
says-enough type_sign = refl
says-enough type_base = refl
says-enough function_type = refl
says-enough for_lifetimes = refl
says-enough bounds = refl
says-enough bound = refl
says-enough simple_path = refl
says-enough path = refl
says-enough path_rest = refl
says-enough self_type = refl
says-enough qualified_path = refl
says-enough type_path = refl
says-enough type_path_rest = refl
says-enough type_segment = refl
says-enough generic_args = refl
says-enough generic_arg = refl

pub rules_to-take : (ed : Edition) (depth : ℕ) (k : Name) → TakesAtLeast (least_of k) (rules_to ed depth k)
rules_to-take ed zero k = λ f g e. absurd cc
rules_to-take ed (suc depth) k =
    fewer-taken (least (says k)) (least_of k) (rules_to ed (suc depth) k) (leb-true (least_of k) (least (says k)) (says-enough k))
    (expression-takes ed (rules_to ed depth) (rules_to-take ed depth) (says k))
