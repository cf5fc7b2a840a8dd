-- Worked examples, by computation: for each rule a text of which a part is taken, and one that it refuses.
-- The reader of the small grammar's examples reads the texts.
use Rattle.std.proofs.Common.{◌≡◌, ℕ, ◌-◌, true, false, List, [], ◌∷◌, refl, Option, Some, None}
use Rattle.std.specs.Prelude.{map}
use Prim.Native.String.{String}
use Rattle.tt_data.specs.Forest.{Forest, joined}
use Rattle.tt_data.specs.declared.edition.Edition.{Edition}
use Rattle.tt_data.specs.declared.edition.Edition.TheVariants.{Edition2015, Edition2018, Edition2021, Edition2024}
use Rattle.tt_data.specs.declared.leaf.LitKind.TheVariants as lit_kind
use Rattle.fragment_grammar.specs.Steps.{steps}
use Rattle.small_grammar.proofs.Rows.{trees}
use Rattle.small_grammar.specs.Tokens as small
use Rattle.rust_grammar.specs.Answer.{rules_to, most_levels}
use Rattle.rust_grammar.specs.Names.{Name, entry_visibility, entry_block, entry_statement, entry_pattern, entry_patterns, entry_type, entry_expression, entry_path, entry_item, entry_attribute, group, lifetime, attribute, visibility, statement_item, item, module_item, extern_crate, as_clause, use_declaration, use_tree, function, abi, type_alias, structure, enumeration, union, constant, static_item, trait_item, implementation, extern_block, macro_rules, macro_definition, reuse, item_macro, macro_end, generic_params, generic_param, where_clause, where_predicate, let_statement, expression_statement, statement_macro, expression, expression_in_condition, operations, operations_in_condition, assignment, assignment_in_condition, binary_operator, assignment_operator, operand, operand_in_condition, sign, sign_in_condition, half_range, half_range_in_condition, jump, jump_in_condition, closure, closure_in_condition, closure_param, atom, atom_in_condition, async_block, with_block, if_expression, loop, postfix, dotted, patterns, pattern, range_pattern_end, pattern_bound, literal_value, type, type_no_bounds, type_sign, type_base, function_type, for_lifetimes, bounds, bound, simple_path, path, path_rest, self_type, qualified_path, type_path, type_path_rest, type_segment, generic_args, generic_arg}
use Rattle.rust_grammar.specs.Tokens.{token_at, is_literal}
use Rattle.rust_grammar.specs.declared.outcome.Outcome.{Outcome}
use Rattle.rust_grammar.specs.declared.outcome.Outcome.TheVariants.{Fits, Misses, Faults}

-- the steps that are taken of the trees, if the rule fits
abbrev taken_of : Forest → Outcome → Option ℕ
taken_of f (Fits rest) = Some (steps f - steps rest)
taken_of f Misses = None
taken_of f Faults = None

abbrev of_rule : Edition → Name → Forest → Option ℕ
of_rule edition k f = taken_of f (rules_to edition most_levels k f)

-- a rule, what it takes of a text, and what is left of it
abbrev Taken : Type 0
Taken = Name × String × String

abbrev steps_taken : List Taken → List (Option ℕ)
steps_taken rows = map (λ r. of_rule Edition2021 r.0 (joined (trees r.1) (trees r.2))) rows

abbrev steps_wanted : List Taken → List (Option ℕ)
steps_wanted rows = map (λ r. Some (steps (trees r.1))) rows

-- a rule, and a text that does not begin with it
abbrev refused : List (Name × String) → List (Option ℕ)
refused rows = map (λ r. of_rule Edition2021 r.0 (trees r.1)) rows

abbrev no_steps : List (Name × String) → List (Option ℕ)
no_steps rows = map (λ r. None) rows

-- ---- entries

abbrev of_entries : List Taken
of_entries =
    (entry_visibility, "pub(crate)", "fn")
    ∷ (entry_block, "{ a }", ". b")
    ∷ (entry_statement, "let x = 1", ";")
    ∷ (entry_pattern, "Some(x)", "| y")
    ∷ (entry_patterns, "Some(x) | y", "= z")
    ∷ (entry_type, "Vec<Vec<u8>>", ">")
    ∷ (entry_expression, "if a { b } else { c } + 1", ", d")
    ∷ (entry_path, "a::b<u8>::c", "! x")
    ∷ (entry_item, "#[x] pub fn f() { }", "fn")
    ∷ (entry_attribute, "cfg(x)", ", y")
    ∷ (group, "[ a ]", "( b )")
    ∷ (lifetime, "'a", "+ b")
    ∷ (attribute, "#[a]", "#[b]")
    ∷ (entry_visibility, "", "crate")
    ∷ []

entries-taken : steps_taken of_entries ≡ steps_wanted of_entries
unfolding token_at small.token_at most_levels
entries-taken = refl

abbrev no_entries : List (Name × String)
no_entries =
    (entry_block, "( a )")
    ∷ (entry_statement, "else")
    ∷ (entry_pattern, "=")
    ∷ (entry_patterns, ";")
    ∷ (entry_type, "3")
    ∷ (entry_expression, "let x")
    ∷ (entry_path, "3")
    ∷ (entry_item, "x = 1")
    ∷ (entry_attribute, "3")
    ∷ (group, "a")
    ∷ (lifetime, "a")
    ∷ (attribute, "# ! [ a ]")
    ∷ []

entries-refused : refused no_entries ≡ no_steps no_entries
unfolding token_at small.token_at most_levels
entries-refused = refl

-- ---- items

abbrev of_items : List Taken
of_items =
    (visibility, "pub(in a)", "fn")
    ∷ (statement_item, "pub fn f();", "x")
    ∷ (item, "struct S;", "x")
    ∷ (module_item, "unsafe mod m;", "x")
    ∷ (extern_crate, "extern crate a as b;", "x")
    ∷ (as_clause, "as _", ";")
    ∷ (use_declaration, "use a::{ b };", "x")
    ∷ (use_tree, "::a::b as c", ";")
    ∷ (function, "const async unsafe extern \"C\" fn f<T>(x) -> u8 where T: A { }", "x")
    ∷ (abi, "extern \"C\"", "fn")
    ∷ (type_alias, "type A<T>: B = C;", "x")
    ∷ (structure, "struct S<T>(u8) where T: A;", "x")
    ∷ (enumeration, "enum E { }", "x")
    ∷ (union, "union U { }", "x")
    ∷ (constant, "const A: u8 = 1;", "x")
    ∷ (static_item, "static mut A: u8 = 1;", "x")
    ∷ (trait_item, "unsafe auto trait T: A { }", "x")
    ∷ (implementation, "impl<T> !A for B { }", "x")
    ∷ (extern_block, "unsafe extern \"C\" { }", "x")
    ∷ (macro_rules, "macro_rules! m { }", "x")
    ∷ (macro_definition, "macro m(a) { }", "x")
    ∷ (reuse, "reuse a::b as c;", "x")
    ∷ (item_macro, "a::m! { }", "x")
    ∷ (macro_end, "( a );", "x")
    ∷ (generic_params, "<'a, T: A = B, const N: u8 = 1>", "(x)")
    ∷ (generic_param, "T: A + B = C", ", d")
    ∷ (where_clause, "where T: A, 'a: 'b,", "{ }")
    ∷ (where_predicate, "for<'a> T: A", ", x")
    ∷ []

items-taken : steps_taken of_items ≡ steps_wanted of_items
unfolding token_at small.token_at most_levels
items-taken = refl

abbrev no_items : List (Name × String)
no_items =
    (visibility, "crate")
    ∷ (statement_item, "pub x")
    ∷ (item, "let x")
    ∷ (module_item, "mod { }")
    ∷ (extern_crate, "extern a ;")
    ∷ (as_clause, "as 3")
    ∷ (use_declaration, "use 3 ;")
    ∷ (use_tree, ";")
    ∷ (function, "fn f ( )")
    ∷ (abi, "\"C\"")
    ∷ (type_alias, "type A = B")
    ∷ (structure, "struct S ( u8 )")
    ∷ (enumeration, "enum E ;")
    ∷ (union, "union = 3")
    ∷ (constant, "const A : u8 = 1")
    ∷ (static_item, "static A = 1 ;")
    ∷ (trait_item, "trait T ;")
    ∷ (implementation, "impl A for ;")
    ∷ (extern_block, "extern fn")
    ∷ (macro_rules, "macro_rules ! { }")
    ∷ (macro_definition, "macro m ( a )")
    ∷ (reuse, "reuse :: { }")
    ∷ (item_macro, "a ! ( )")
    ∷ (macro_end, "( a )")
    ∷ (generic_params, "< T")
    ∷ (generic_param, "3")
    ∷ (where_clause, "T : A")
    ∷ (where_predicate, "T")
    ∷ []

items-refused : refused no_items ≡ no_steps no_items
unfolding token_at small.token_at most_levels
items-refused = refl

-- ---- statements

abbrev of_statements : List Taken
of_statements =
    (let_statement, "let x: u8 = 1 else { }", ";")
    ∷ (expression_statement, "match a { }", "- 1")
    ∷ (statement_macro, "m! { }", ". x")
    ∷ (expression, "a + b as u8 .. c", ", d")
    ∷ (expression_in_condition, "a == S", "{ b }")
    ∷ (operations, "+ a as u8 * b", ", c")
    ∷ (operations_in_condition, "&& let x = y", "{ }")
    ∷ (assignment, "+= b", ", c")
    ∷ (assignment_in_condition, "= S", "{ }")
    ∷ (binary_operator, "<=", "b")
    ∷ (assignment_operator, "<<=", "b")
    ∷ (operand, "-!&mut a.b(c)?", "+ d")
    ∷ (operand_in_condition, "let x = S", "{ a }")
    ∷ (sign, "&raw const", "a")
    ∷ (sign_in_condition, "let A(b) =", "c")
    ∷ []

statements-taken : steps_taken of_statements ≡ steps_wanted of_statements
unfolding token_at small.token_at most_levels
statements-taken = refl

abbrev no_statements : List (Name × String)
no_statements =
    (let_statement, "let x : = 1")
    ∷ (expression_statement, "=")
    ∷ (statement_macro, "m ! ( )")
    ∷ (expression, "+ ;")
    ∷ (expression_in_condition, "= a")
    ∷ (operations, "+ ;")
    ∷ (operations_in_condition, "- ;")
    ∷ (assignment, "+ b")
    ∷ (assignment_in_condition, "+ b")
    ∷ (binary_operator, "=")
    ∷ (assignment_operator, "==")
    ∷ (operand, "+ a")
    ∷ (operand_in_condition, "= a")
    ∷ (sign, "+")
    ∷ (sign_in_condition, "=")
    ∷ []

statements-refused : refused no_statements ≡ no_steps no_statements
unfolding token_at small.token_at most_levels
statements-refused = refl

-- ---- operands

abbrev of_operands : List Taken
of_operands =
    (half_range, "..=a", ", b")
    ∷ (half_range_in_condition, "..", ", a")
    ∷ (jump, "break 'a b", ", c")
    ∷ (jump_in_condition, "return S", "{ a }")
    ∷ (closure, "async move | a, b: u8 | -> u8 { }", "+ 1")
    ∷ (closure_in_condition, "|| S", "{ a }")
    ∷ (closure_param, "mut a: u8", ", b")
    ∷ (atom, "S { a }", ". b")
    ∷ (atom_in_condition, "S", "{ a }")
    ∷ (async_block, "async move { }", ". a")
    ∷ (with_block, "unsafe { a }", ". b")
    ∷ (if_expression, "if a { } else if b { } else { }", ". c")
    ∷ (loop, "for (a, b) in c { }", ". d")
    ∷ (postfix, "[ a ]", "( b )")
    ∷ (dotted, ".a::<u8>", "( b )")
    ∷ []

operands-taken : steps_taken of_operands ≡ steps_wanted of_operands
unfolding token_at small.token_at most_levels
operands-taken = refl

abbrev no_operands : List (Name × String)
no_operands =
    (half_range, "..= ;")
    ∷ (half_range_in_condition, "a ..")
    ∷ (jump, "a")
    ∷ (jump_in_condition, "a")
    ∷ (closure, "a |")
    ∷ (closure_in_condition, "| a =")
    ∷ (closure_param, "=")
    ∷ (atom, "=")
    ∷ (atom_in_condition, "let x = y")
    ∷ (async_block, "move { }")
    ∷ (with_block, "unsafe a")
    ∷ (if_expression, "if { }")
    ∷ (loop, "for a b")
    ∷ (postfix, "a")
    ∷ (dotted, ". +")
    ∷ []

operands-refused : refused no_operands ≡ no_steps no_operands
unfolding token_at small.token_at most_levels
operands-refused = refl

-- ---- patterns

abbrev of_patterns : List Taken
of_patterns =
    (patterns, "| a | b", "= c")
    ∷ (pattern, "a @ 1..=2", "| 3")
    ∷ (range_pattern_end, "..=3", "| a")
    ∷ (pattern_bound, "a::b", ", c")
    ∷ (literal_value, "-3", ", b")
    ∷ []

patterns-taken : steps_taken of_patterns ≡ steps_wanted of_patterns
unfolding token_at small.token_at most_levels
patterns-taken = refl

abbrev no_patterns : List (Name × String)
no_patterns =
    (patterns, "=")
    ∷ (pattern, "= a")
    ∷ (range_pattern_end, "..= ;")
    ∷ (pattern_bound, "=")
    ∷ (literal_value, "a")
    ∷ []

patterns-refused : refused no_patterns ≡ no_steps no_patterns
unfolding token_at small.token_at most_levels
patterns-refused = refl

-- ---- types

abbrev of_types : List Taken
of_types =
    (type, "&'a mut dyn A", "+ B")
    ∷ (type_no_bounds, "&impl A", "+ B")
    ∷ (type_sign, "&'a mut", "T")
    ∷ (type_base, "fn(a) -> b", ", c")
    ∷ (type_base, "for<'a> unsafe extern \"C\" fn(a) -> b", ", c")
    ∷ (type_base, "for<'a> A<'a>", ", c")
    ∷ (function_type, "unsafe extern \"C\" fn(a) -> b", ", c")
    ∷ (for_lifetimes, "for<'a>", "fn")
    ∷ (bounds, "A + 'b +", ", c")
    ∷ (bound, "?for<'a> A<B>", "+ C")
    ∷ []

types-taken : steps_taken of_types ≡ steps_wanted of_types
unfolding token_at small.token_at most_levels
types-taken = refl

abbrev no_types : List (Name × String)
no_types =
    (type, "3")
    ∷ (type_no_bounds, "3")
    ∷ (type_sign, "T")
    ∷ (type_base, "'a")
    ∷ (function_type, "fn a")
    ∷ (type_base, "for<a = A<b> A")
    ∷ (for_lifetimes, "for a")
    ∷ (bounds, "3")
    ∷ (bound, "3")
    ∷ []

types-refused : refused no_types ≡ no_steps no_types
unfolding token_at small.token_at most_levels
types-refused = refl

-- ---- paths

abbrev of_paths : List Taken
of_paths =
    (simple_path, "::a::b", "< c")
    ∷ (path, "a::<u8>::b", "< c")
    ∷ (path_rest, "::a::<u8>", ". b")
    ∷ (self_type, "<A as B>", "::C")
    ∷ (qualified_path, "<A as B>::C::<D>", "! e")
    ∷ (type_path, "::a<b>::c(d) -> e", ", f")
    ∷ (type_path_rest, "::a<b>", ", c")
    ∷ (type_segment, "A<B>", "> c")
    ∷ (generic_args, "<'a, B = C, 1>", "> d")
    ∷ (generic_arg, "A: B", "> c")
    ∷ (path_rest, "", ". a")
    ∷ (type_path_rest, "", ". a")
    ∷ []

paths-taken : steps_taken of_paths ≡ steps_wanted of_paths
unfolding token_at small.token_at most_levels
paths-taken = refl

abbrev no_paths : List (Name × String)
no_paths =
    (simple_path, "3")
    ∷ (path, "3")
    ∷ (self_type, "A")
    ∷ (qualified_path, "< A >")
    ∷ (type_path, "3")
    ∷ (type_segment, "3")
    ∷ (generic_args, "< A")
    ∷ (generic_arg, "=")
    ∷ []

paths-refused : refused no_paths ≡ no_steps no_paths
unfolding token_at small.token_at most_levels
paths-refused = refl

-- ---- editions

abbrev asked_in : List (Edition × Name × String × Option ℕ) → List (Option ℕ)
asked_in rows = map (λ r. of_rule r.0 r.1 (trees r.2)) rows

abbrev expected_in : List (Edition × Name × String × Option ℕ) → List (Option ℕ)
expected_in rows = map (λ r. r.3) rows

abbrev editions : List (Edition × Name × String × Option ℕ)
editions =
    (Edition2015, expression, "async + 1", Some 3)
    ∷ (Edition2018, expression, "async + 1", None)
    ∷ (Edition2015, expression, "dyn", Some 1)
    ∷ (Edition2018, expression, "dyn", None)
    ∷ (Edition2021, expression, "gen + 1", Some 3)
    ∷ (Edition2024, expression, "gen + 1", None)
    ∷ (Edition2018, expression, "r#async + 1", Some 3)
    ∷ (Edition2015, with_block, "try { }", None)
    ∷ (Edition2018, with_block, "try { }", Some 3)
    ∷ (Edition2021, async_block, "gen { }", None)
    ∷ (Edition2024, async_block, "gen { }", Some 3)
    ∷ (Edition2015, type, "dyn", Some 1)
    ∷ (Edition2015, dotted, ". await", Some 2)
    ∷ (Edition2015, closure, "async || a", None)
    ∷ (Edition2018, closure, "async || a", Some 4)
    ∷ []

-- what begins no fragment, and what ends it early
abbrev beginnings : List (Edition × Name × String × Option ℕ)
beginnings =
    (Edition2021, entry_path, "<T as X>::Y", None)
    ∷ (Edition2021, entry_path, "<T>::f(1)", None)
    ∷ (Edition2021, entry_patterns, "..=9", None)
    ∷ (Edition2021, entry_pattern, "..=9", None)
    ∷ (Edition2021, entry_pattern, "a @ ..=9", Some 6)
    ∷ (Edition2021, entry_visibility, "", None)
    ∷ (Edition2021, entry_visibility, "= a", None)
    ∷ (Edition2021, entry_visibility, ", a", Some 0)
    ∷ (Edition2021, entry_type, "<T>::m! ()", Some 6)
    ∷ (Edition2021, entry_patterns, "<T>::m! ()", Some 6)
    ∷ (Edition2021, entry_type, "!= x", None)
    ∷ (Edition2021, entry_type, "! = x", Some 1)
    ∷ (Edition2021, entry_statement, "safe fn f();", Some 1)
    ∷ (Edition2021, entry_item, "safe fn f();", Some 6)
    ∷ (Edition2015, entry_statement, "async unsafe fn f() { }", Some 1)
    ∷ (Edition2018, entry_statement, "async unsafe fn f() { }", Some 8)
    ∷ (Edition2021, entry_statement, "gen fn f() { }", Some 1)
    ∷ (Edition2024, entry_statement, "gen fn f() { }", Some 7)
    ∷ (Edition2021, entry_expression, "become x", None)
    ∷ (Edition2021, entry_expression, "a + become x", Some 4)
    ∷ (Edition2021, entry_expression, "continue ()", Some 3)
    ∷ (Edition2021, entry_expression, "continue.x", Some 3)
    ∷ (Edition2021, entry_expression, ".. _", Some 2)
    ∷ []

beginnings-rows : asked_in beginnings ≡ expected_in beginnings
unfolding token_at small.token_at most_levels
beginnings-rows = refl

-- `c"x"` is two tokens before edition 2021
c_strings : map (λ e. is_literal e lit_kind.CStr) (Edition2015 ∷ Edition2018 ∷ Edition2021 ∷ Edition2024 ∷ []) ≡ false ∷ false ∷ true ∷ true ∷ []
c_strings = refl

editions-rows : asked_in editions ≡ expected_in editions
unfolding token_at small.token_at most_levels
editions-rows = refl
