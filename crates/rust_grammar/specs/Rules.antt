-- The rules of Rust's fragments, over one list of trees: groups are whole, and what is in them is not
-- looked at. Precedence of operators is folded away. (The Rust Reference, chapters "Items",
-- "Statements", "Expressions", "Patterns", "Type system", "Names".)
use Rattle.std.specs.Prelude.{codes}
use Prim.Native.String.{String}
use Rattle.tt_data.specs.declared.delimiter.DelimiterKind.TheVariants.{Parenthesis, Brace, Bracket}
use Rattle.tt_data.specs.declared.edition.Edition.TheVariants.{Edition2018, Edition2024}
use Rattle.small_grammar.specs.Tokens as small
use Rattle.rust_grammar.specs.Expressions.{Expression, token, since, ◌⨾◌, ◌∣◌, many, maybe, surely, unless, rule}
use Rattle.rust_grammar.specs.Names.{Name, entry_visibility, entry_block, entry_statement, entry_pattern, entry_patterns, entry_type, entry_expression, entry_path, entry_item, entry_attribute, group, lifetime, attribute, visibility, statement_item, item, module_item, extern_crate, as_clause, use_declaration, use_tree, function, abi, type_alias, structure, enumeration, union, constant, static_item, trait_item, implementation, extern_block, macro_rules, macro_definition, reuse, item_macro, macro_end, generic_params, generic_param, where_clause, where_predicate, let_statement, expression_statement, statement_macro, expression, expression_in_condition, operations, operations_in_condition, assignment, assignment_in_condition, binary_operator, assignment_operator, operand, operand_in_condition, sign, sign_in_condition, half_range, half_range_in_condition, jump, jump_in_condition, closure, closure_in_condition, closure_param, atom, atom_in_condition, async_block, with_block, if_expression, loop, postfix, dotted, patterns, pattern, range_pattern_end, pattern_bound, literal_value, type, type_no_bounds, type_sign, type_base, function_type, for_lifetimes, bounds, bound, simple_path, path, path_rest, self_type, qualified_path, type_path, type_path_rest, type_segment, generic_args, generic_arg}
use Rattle.rust_grammar.specs.Tokens.{fixed, a_name, a_literal, one_of, a_const_bracket}

-- an identifier of this text that is not raw
abbrev pub word : String → Expression
word text = token (fixed (small.a_word (codes text)))

-- an identifier but `_`, raw or not reserved in the edition, or one of `self Self super crate`
abbrev pub name : Expression
name = token a_name

-- any identifier
abbrev pub identifier : Expression
identifier = token (fixed small.an_identifier)

-- a literal; before edition 2021 a C string is a name and a string
abbrev pub literal : Expression
literal = token a_literal

-- an integer or a float
abbrev pub number : Expression
number = token (fixed small.a_number)

-- groups by their brackets, each taken as one tree
abbrev pub paren : Expression
paren = token (fixed (small.a_group Parenthesis))

abbrev pub brace : Expression
brace = token (fixed (small.a_group Brace))

abbrev pub bracket : Expression
bracket = token (fixed (small.a_group Bracket))

-- parentheses around `crate`, `self` or `super`, or around what begins with `in`
abbrev pub restriction : Expression
restriction = token (fixed small.a_restriction)

-- brackets around `const`
abbrev pub const_bracket : Expression
const_bracket = token a_const_bracket

-- puncts one by one, all but the last not `Alone`
abbrev pub single : String → Expression
single text = token (fixed (small.puncts (codes text)))

-- one of these operators, glued
abbrev pub glued : String → Expression
glued texts = token (one_of (small.words (codes texts)))

-- nothing, if this would fit
abbrev pub ahead : Expression → Expression
ahead e = unless (unless e)

-- what an operand that may be left out begins with
abbrev pub begins : Expression
begins = unless (word "_" ∣ word "become" ∣ word "use")

-- the same, where a block ends the condition
abbrev pub begins_in_condition : Expression
begins_in_condition = unless (brace ∣ word "_" ∣ word "become" ∣ word "use")

-- the expression of a rule's name
abbrev pub says : Name → Expression
-- ---- entry points
says entry_visibility =
    rule visibility
    ∣ ahead (identifier ∣ rule lifetime ∣ paren ∣ bracket ∣ glued ", ! * & && ? < << ::")
says entry_block = brace
says entry_statement =
    many (rule attribute)
    ⨾ (rule let_statement ∣ rule statement_item ∣ rule expression_statement)
    ∣ glued ";"
says entry_pattern = unless (glued "..= !") ⨾ rule pattern
says entry_patterns = unless (glued "..= !") ⨾ rule patterns
says entry_type = rule type
says entry_expression = unless (word "become" ∣ word "use") ⨾ rule expression
says entry_path = rule type_path
says entry_item =
    many (rule attribute)
    ⨾ (maybe (rule visibility) ⨾ (maybe (word "default" ∣ word "final") ⨾ rule item ∣ word "const" ⨾ brace)
    ∣ rule item_macro)
says entry_attribute =
    word "unsafe" ⨾ paren
    ∣ rule simple_path ⨾ maybe (rule group ∣ glued "=" ⨾ surely (rule expression))
-- ---- lexical help
says group = paren ∣ brace ∣ bracket
says lifetime = single "'" ⨾ identifier
says attribute = glued "#" ⨾ bracket
-- ---- items
says visibility = word "pub" ⨾ maybe restriction
says statement_item =
    unless name ⨾ maybe (rule visibility ⨾ maybe (word "default" ∣ word "final")) ⨾ rule item
    ∣ rule union
    ∣ rule trait_item
    ∣ rule macro_rules
    ∣ rule reuse
says item =
    rule function
    ∣ rule structure
    ∣ rule enumeration
    ∣ rule union
    ∣ rule constant
    ∣ rule static_item
    ∣ rule type_alias
    ∣ rule use_declaration
    ∣ rule module_item
    ∣ rule extern_crate
    ∣ rule extern_block
    ∣ rule trait_item
    ∣ rule implementation
    ∣ rule macro_rules
    ∣ rule macro_definition
    ∣ rule reuse
says module_item = maybe (word "unsafe") ⨾ word "mod" ⨾ surely (name ⨾ (glued ";" ∣ brace))
says extern_crate = word "extern" ⨾ word "crate" ⨾ name ⨾ maybe (rule as_clause) ⨾ glued ";"
says as_clause = word "as" ⨾ (name ∣ word "_")
says use_declaration = word "use" ⨾ surely (rule use_tree ⨾ glued ";")
says use_tree =
    maybe (glued "::")
    ⨾ (glued "*" ∣ brace
    ∣ name ⨾ many (glued "::" ⨾ name)
    ⨾ maybe (glued "::" ⨾ (glued "*" ∣ brace) ∣ rule as_clause))
says function =
    maybe (word "const") ⨾ maybe (word "async") ⨾ maybe (word "gen")
    ⨾ maybe (word "unsafe" ∣ word "safe") ⨾ maybe (rule abi) ⨾ word "fn"
    ⨾ surely (name ⨾ maybe (rule generic_params) ⨾ paren
    ⨾ maybe (single "->" ⨾ surely (rule type)) ⨾ maybe (rule where_clause)
    ⨾ (brace ∣ glued ";"))
says abi = word "extern" ⨾ maybe literal
says type_alias =
    word "type"
    ⨾ surely (name ⨾ maybe (rule generic_params) ⨾ maybe (glued ":" ⨾ maybe (rule bounds))
    ⨾ maybe (rule where_clause) ⨾ maybe (glued "=" ⨾ rule type) ⨾ maybe (rule where_clause)
    ⨾ glued ";")
says structure =
    word "struct"
    ⨾ surely (name ⨾ maybe (rule generic_params)
    ⨾ (paren ⨾ maybe (rule where_clause) ⨾ glued ";"
    ∣ maybe (rule where_clause) ⨾ (brace ∣ glued ";")))
says enumeration =
    word "enum" ⨾ surely (name ⨾ maybe (rule generic_params) ⨾ maybe (rule where_clause) ⨾ brace)
says union = word "union" ⨾ name ⨾ maybe (rule generic_params) ⨾ maybe (rule where_clause) ⨾ brace
says constant =
    maybe (word "type") ⨾ word "const" ⨾ (name ∣ word "_") ⨾ maybe (rule generic_params) ⨾ glued ":"
    ⨾ surely (rule type ⨾ maybe (rule where_clause)
    ⨾ maybe (glued "=" ⨾ surely (rule expression)) ⨾ maybe (rule where_clause) ⨾ glued ";")
says static_item =
    maybe (word "unsafe" ∣ word "safe") ⨾ word "static" ⨾ maybe (word "mut") ⨾ name ⨾ glued ":"
    ⨾ surely (rule type ⨾ maybe (glued "=" ⨾ surely (rule expression)) ⨾ glued ";")
says trait_item =
    maybe (word "const") ⨾ maybe (word "unsafe") ⨾ maybe (word "auto") ⨾ word "trait"
    ⨾ surely (name ⨾ maybe (rule generic_params) ⨾ maybe (glued ":" ⨾ maybe (rule bounds))
    ⨾ (glued "=" ⨾ maybe (rule bounds) ⨾ maybe (rule where_clause) ⨾ glued ";"
    ∣ maybe (rule where_clause) ⨾ brace))
says implementation =
    maybe (word "const") ⨾ maybe (word "unsafe") ⨾ word "impl"
    ⨾ surely (maybe (rule generic_params) ⨾ maybe (word "const")
    ⨾ (single "!" ⨾ rule type ⨾ word "for" ⨾ rule type
    ∣ rule type ⨾ maybe (word "for" ⨾ rule type)) ⨾ maybe (rule where_clause) ⨾ brace)
says extern_block = maybe (word "unsafe") ⨾ word "extern" ⨾ maybe literal ⨾ brace
says macro_rules = word "macro_rules" ⨾ glued "!" ⨾ name ⨾ rule macro_end
says macro_definition = word "macro" ⨾ name ⨾ maybe paren ⨾ brace
says reuse =
    word "reuse" ⨾ (rule path ∣ rule qualified_path)
    ⨾ (glued "::" ⨾ (glued "*" ∣ brace) ∣ maybe (rule as_clause)) ⨾ (brace ∣ glued ";")
says item_macro = rule simple_path ⨾ glued "!" ⨾ maybe name ⨾ rule macro_end
says macro_end = brace ∣ (paren ∣ bracket) ⨾ glued ";"
says generic_params =
    single "<"
    ⨾ maybe (rule generic_param ⨾ many (single "," ⨾ rule generic_param) ⨾ maybe (single ","))
    ⨾ single ">"
says generic_param =
    many (rule attribute)
    ⨾ (rule lifetime ⨾ maybe (glued ":" ⨾ maybe (rule bounds))
    ∣ word "const" ⨾ name ⨾ glued ":" ⨾ rule type ⨾ maybe (glued "=" ⨾ rule generic_arg)
    ∣ name ⨾ maybe (glued ":" ⨾ maybe (rule bounds)) ⨾ maybe (glued "=" ⨾ rule type))
says where_clause =
    word "where"
    ⨾ maybe (rule where_predicate ⨾ many (glued "," ⨾ rule where_predicate)
    ⨾ maybe (glued ","))
says where_predicate =
    many (rule attribute)
    ⨾ (rule lifetime ⨾ glued ":" ⨾ maybe (rule bounds)
    ∣ rule type ⨾ glued ":" ⨾ maybe (rule bounds))
-- ---- statements
says let_statement =
    maybe (word "super") ⨾ word "let"
    ⨾ surely (rule patterns ⨾ maybe (glued ":" ⨾ surely (rule type))
    ⨾ maybe (glued "=" ⨾ surely (rule expression ⨾ maybe (word "else" ⨾ surely brace))))
says expression_statement =
    (rule with_block ∣ rule statement_macro)
    ⨾ maybe (rule dotted ⨾ many (rule postfix) ⨾ rule operations
    ⨾ (rule half_range ∣ many (rule assignment)))
    ∣ rule expression
says statement_macro = rule simple_path ⨾ glued "!" ⨾ brace
-- ---- expressions: precedence of operators is folded away
says expression =
    rule half_range
    ∣ rule operand ⨾ rule operations ⨾ (rule half_range ∣ many (rule assignment))
says expression_in_condition =
    rule half_range_in_condition
    ∣ rule operand_in_condition ⨾ rule operations_in_condition
    ⨾ (rule half_range_in_condition ∣ many (rule assignment_in_condition))
says operations =
    many (rule binary_operator ⨾ surely (rule operand) ∣ word "as" ⨾ surely (rule type_no_bounds))
says operations_in_condition =
    many (rule binary_operator ⨾ surely (rule operand_in_condition)
    ∣ word "as" ⨾ surely (rule type_no_bounds))
says assignment =
    rule assignment_operator
    ⨾ surely (rule operand ⨾ rule operations ⨾ maybe (rule half_range))
says assignment_in_condition =
    rule assignment_operator
    ⨾ surely (rule operand_in_condition ⨾ rule operations_in_condition
    ⨾ maybe (rule half_range_in_condition))
says binary_operator = glued "+ - * / % ^ & | && || << >> == != < > <= >= <-"
says assignment_operator = glued "= += -= *= /= %= ^= &= |= <<= >>="
says operand =
    many (rule sign)
    ⨾ (rule half_range ∣ (rule jump ∣ rule closure ∣ rule atom) ⨾ many (rule postfix))
says operand_in_condition =
    many (rule sign_in_condition)
    ⨾ (rule half_range_in_condition
    ∣ (rule jump_in_condition ∣ rule closure_in_condition ∣ rule atom_in_condition)
    ⨾ many (rule postfix))
says sign =
    glued "- ! *"
    ∣ glued "& &&"
    ⨾ maybe ((word "raw" ∣ word "pin") ⨾ (word "const" ∣ word "mut") ∣ word "mut")
    ∣ rule attribute
says sign_in_condition =
    glued "- ! *"
    ∣ glued "& &&"
    ⨾ maybe ((word "raw" ∣ word "pin") ⨾ (word "const" ∣ word "mut") ∣ word "mut")
    ∣ rule attribute
    ∣ word "let" ⨾ rule patterns ⨾ glued "="
says half_range =
    glued "..=" ⨾ surely (rule half_range ∣ rule operand ⨾ rule operations)
    ∣ glued ".." ⨾ maybe (rule half_range ∣ begins ⨾ rule operand ⨾ rule operations)
says half_range_in_condition =
    glued "..="
    ⨾ surely (rule half_range_in_condition
    ∣ rule operand_in_condition ⨾ rule operations_in_condition)
    ∣ glued ".."
    ⨾ maybe (rule half_range_in_condition
    ∣ begins_in_condition ⨾ rule operand_in_condition ⨾ rule operations_in_condition)
says jump =
    (word "return" ∣ word "yield" ∣ word "become" ∣ word "do" ⨾ word "yeet")
    ⨾ maybe (begins ⨾ rule expression)
    ∣ word "break" ⨾ maybe (rule lifetime) ⨾ maybe (begins ⨾ rule expression)
    ∣ word "continue" ⨾ maybe (rule lifetime)
says jump_in_condition =
    (word "return" ∣ word "yield" ∣ word "become" ∣ word "do" ⨾ word "yeet")
    ⨾ maybe (begins ⨾ rule expression_in_condition)
    ∣ word "break" ⨾ maybe (rule lifetime)
    ⨾ maybe (begins_in_condition ⨾ rule expression_in_condition)
    ∣ word "continue" ⨾ maybe (rule lifetime)
says closure =
    maybe (rule for_lifetimes) ⨾ maybe (word "const") ⨾ maybe (word "static")
    ⨾ maybe (since Edition2018 ⨾ word "async") ⨾ maybe (since Edition2024 ⨾ word "gen")
    ⨾ maybe (word "move" ∣ word "use")
    ⨾ (glued "||"
    ∣ single "|"
    ⨾ maybe (rule closure_param ⨾ many (glued "," ⨾ rule closure_param) ⨾ maybe (glued ","))
    ⨾ single "|") ⨾ (single "->" ⨾ rule type ⨾ brace ∣ rule expression)
says closure_in_condition =
    maybe (rule for_lifetimes) ⨾ maybe (word "const") ⨾ maybe (word "static")
    ⨾ maybe (since Edition2018 ⨾ word "async") ⨾ maybe (since Edition2024 ⨾ word "gen")
    ⨾ maybe (word "move" ∣ word "use")
    ⨾ (glued "||"
    ∣ single "|"
    ⨾ maybe (rule closure_param ⨾ many (glued "," ⨾ rule closure_param) ⨾ maybe (glued ","))
    ⨾ single "|") ⨾ (single "->" ⨾ rule type ⨾ brace ∣ rule expression_in_condition)
says closure_param = many (rule attribute) ⨾ rule pattern ⨾ maybe (glued ":" ⨾ rule type)
says atom =
    literal
    ∣ word "true"
    ∣ word "false"
    ∣ word "_"
    ∣ rule with_block
    ∣ paren
    ∣ bracket
    ∣ rule async_block
    ∣ (rule path ∣ rule qualified_path) ⨾ maybe (glued "!" ⨾ surely (rule group) ∣ brace)
says atom_in_condition =
    literal
    ∣ word "true"
    ∣ word "false"
    ∣ word "_"
    ∣ rule with_block
    ∣ paren
    ∣ bracket
    ∣ rule async_block
    ∣ (rule path ∣ rule qualified_path) ⨾ maybe (glued "!" ⨾ surely (rule group))
says async_block =
    since Edition2018 ⨾ word "async" ⨾ maybe (word "gen") ⨾ maybe (word "move" ∣ word "use") ⨾ brace
    ∣ since Edition2024 ⨾ word "gen" ⨾ maybe (word "move" ∣ word "use") ⨾ brace
says with_block =
    brace
    ∣ (word "unsafe" ∣ word "const") ⨾ brace
    ∣ since Edition2018 ⨾ word "try" ⨾ brace
    ∣ rule if_expression
    ∣ word "match" ⨾ surely (rule expression_in_condition ⨾ brace)
    ∣ maybe (rule lifetime ⨾ glued ":") ⨾ (rule loop ∣ brace)
says if_expression =
    word "if"
    ⨾ surely (rule expression_in_condition ⨾ brace
    ⨾ many (word "else" ⨾ word "if" ⨾ surely (rule expression_in_condition ⨾ brace))
    ⨾ maybe (word "else" ⨾ surely brace))
says loop =
    word "loop" ⨾ surely brace
    ∣ word "while" ⨾ surely (rule expression_in_condition ⨾ brace)
    ∣ word "for" ⨾ maybe (word "await") ⨾ rule patterns ⨾ word "in"
    ⨾ surely (rule expression_in_condition ⨾ brace)
says postfix = paren ∣ bracket ∣ rule dotted
says dotted =
    glued "?"
    ∣ glued "."
    ⨾ surely (name ⨾ maybe (glued "::" ⨾ surely (rule generic_args))
    ∣ since Edition2018 ⨾ word "await" ∣ word "use" ∣ word "yield" ∣ word "match" ⨾ brace ∣ number)
-- ---- patterns
says patterns =
    maybe (glued "|") ⨾ rule pattern ⨾ many (glued "|" ⨾ surely (rule pattern))
says pattern =
    word "_"
    ∣ glued "!"
    ∣ rule literal_value ⨾ maybe (rule range_pattern_end)
    ∣ glued "..= ..." ⨾ rule pattern_bound
    ∣ glued ".." ⨾ maybe (rule pattern_bound)
    ∣ (glued "& &&" ⨾ maybe (word "pin" ⨾ (word "const" ∣ word "mut") ∣ word "mut") ∣ word "box")
    ⨾ rule pattern
    ∣ paren
    ∣ bracket
    ∣ word "const" ⨾ brace
    ∣ (word "ref" ⨾ maybe (word "mut") ∣ word "mut" ⨾ maybe (word "ref" ⨾ maybe (word "mut")))
    ⨾ name ⨾ maybe (glued "@" ⨾ surely (rule pattern))
    ∣ rule path
    ⨾ maybe (glued "@" ⨾ surely (rule pattern) ∣ paren ∣ brace
    ∣ glued "!" ⨾ surely (rule group) ∣ rule range_pattern_end)
    ∣ rule qualified_path ⨾ maybe (paren ∣ brace ∣ rule range_pattern_end)
says range_pattern_end =
    glued "..= ..." ⨾ surely (rule pattern_bound)
    ∣ glued ".." ⨾ maybe (rule pattern_bound)
says pattern_bound = rule literal_value ∣ rule path ∣ rule qualified_path
says literal_value = maybe (glued "-") ⨾ (literal ∣ word "true" ∣ word "false")
-- ---- types, whose puncts are single
says type =
    rule type_sign ⨾ rule type_no_bounds
    ∣ (word "impl" ∣ since Edition2018 ⨾ word "dyn") ⨾ maybe (rule bounds)
    ∣ word "dyn" ⨾ rule bounds
    ∣ rule type_base ⨾ maybe (single "+" ⨾ maybe (rule bounds))
    ∣ rule lifetime ⨾ single "+" ⨾ maybe (rule bounds)
says type_no_bounds =
    many (rule type_sign)
    ⨾ ((word "impl" ∣ since Edition2018 ⨾ word "dyn") ⨾ maybe (rule bound)
    ∣ word "dyn" ⨾ rule bound ∣ rule type_base
    ∣ rule lifetime ⨾ single "+" ⨾ maybe (rule bounds))
says type_sign =
    single "&" ⨾ maybe (rule lifetime)
    ⨾ maybe (word "pin" ⨾ (word "const" ∣ word "mut") ∣ word "mut")
    ∣ single "*" ⨾ (word "const" ∣ word "mut")
says type_base =
    word "_"
    ∣ glued "!"
    ∣ paren
    ∣ bracket
    ∣ rule function_type
    ∣ rule for_lifetimes ⨾ (rule function_type ∣ rule type_path)
    ∣ word "unsafe" ⨾ rule generic_params ⨾ rule type
    ∣ rule type_path ⨾ maybe (glued "!" ⨾ rule group)
    ∣ rule self_type ⨾ single "::" ⨾ rule type_segment ⨾ rule type_path_rest
    ∣ single "?" ⨾ rule type_path
says function_type =
    maybe (word "unsafe" ∣ word "safe") ⨾ maybe (rule abi) ⨾ word "fn" ⨾ paren
    ⨾ maybe (single "->" ⨾ surely (rule type_no_bounds))
says for_lifetimes = word "for" ⨾ rule generic_params
says bounds = rule bound ⨾ many (single "+" ⨾ rule bound) ⨾ maybe (single "+")
says bound =
    rule lifetime
    ∣ word "use" ⨾ rule generic_args
    ∣ paren
    ∣ many (single "?" ∣ single "~" ⨾ word "const" ∣ single "!" ∣ word "const" ∣ word "async"
    ∣ const_bracket) ⨾ maybe (rule for_lifetimes) ⨾ rule type_path
-- ---- paths
says simple_path = maybe (glued "::") ⨾ name ⨾ many (glued "::" ⨾ name)
says path = maybe (glued "::") ⨾ name ⨾ rule path_rest
says path_rest =
    many (glued "::"
    ⨾ (name ∣ rule generic_args ∣ paren ⨾ maybe (single "->" ⨾ surely (rule type_no_bounds))))
says self_type = single "<" ⨾ rule type ⨾ maybe (word "as" ⨾ rule type_path) ⨾ single ">"
says qualified_path = rule self_type ⨾ glued "::" ⨾ name ⨾ rule path_rest
says type_path = maybe (single "::") ⨾ rule type_segment ⨾ rule type_path_rest
says type_path_rest =
    many (single "::"
    ⨾ (rule type_segment ∣ rule generic_args
    ∣ paren ⨾ maybe (single "->" ⨾ surely (rule type_no_bounds))))
says type_segment =
    name ⨾ maybe (rule generic_args ∣ paren ⨾ maybe (single "->" ⨾ surely (rule type_no_bounds)))
says generic_args =
    single "<"
    ⨾ maybe (rule generic_arg ⨾ many (single "," ⨾ rule generic_arg) ⨾ maybe (single ","))
    ⨾ single ">"
says generic_arg =
    maybe (single "-") ⨾ (literal ∣ word "true" ∣ word "false")
    ∣ brace
    ∣ rule type ⨾ maybe (glued "=" ⨾ surely (rule generic_arg) ∣ glued ":" ⨾ maybe (rule bounds))
    ∣ rule lifetime
