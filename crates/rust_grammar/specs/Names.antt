-- The names of the rules, in the order of their table.
use Rattle.std.specs.Prelude.{List, [], ◌∷◌}

-- a rule that is named `in_condition` takes no struct literals, and `let`
pub data Name : Type 0 where
  entry_visibility : Name
  entry_block : Name
  entry_statement : Name
  entry_pattern : Name
  entry_patterns : Name
  entry_type : Name
  entry_expression : Name
  entry_path : Name
  entry_item : Name
  entry_attribute : Name
  group : Name
  lifetime : Name
  attribute : Name
  visibility : Name
  statement_item : Name
  item : Name
  module_item : Name
  extern_crate : Name
  as_clause : Name
  use_declaration : Name
  use_tree : Name
  function : Name
  abi : Name
  type_alias : Name
  structure : Name
  enumeration : Name
  union : Name
  constant : Name
  static_item : Name
  trait_item : Name
  implementation : Name
  extern_block : Name
  macro_rules : Name
  macro_definition : Name
  reuse : Name
  item_macro : Name
  macro_end : Name
  generic_params : Name
  generic_param : Name
  where_clause : Name
  where_predicate : Name
  let_statement : Name
  expression_statement : Name
  statement_macro : Name
  expression : Name
  expression_in_condition : Name
  operations : Name
  operations_in_condition : Name
  assignment : Name
  assignment_in_condition : Name
  binary_operator : Name
  assignment_operator : Name
  operand : Name
  operand_in_condition : Name
  sign : Name
  sign_in_condition : Name
  half_range : Name
  half_range_in_condition : Name
  jump : Name
  jump_in_condition : Name
  closure : Name
  closure_in_condition : Name
  closure_param : Name
  atom : Name
  atom_in_condition : Name
  async_block : Name
  with_block : Name
  if_expression : Name
  loop : Name
  postfix : Name
  dotted : Name
  patterns : Name
  pattern : Name
  range_pattern_end : Name
  pattern_bound : Name
  literal_value : Name
  type : Name
  type_no_bounds : Name
  type_sign : Name
  type_base : Name
  function_type : Name
  for_lifetimes : Name
  bounds : Name
  bound : Name
  simple_path : Name
  path : Name
  path_rest : Name
  self_type : Name
  qualified_path : Name
  type_path : Name
  type_path_rest : Name
  type_segment : Name
  generic_args : Name
  generic_arg : Name

-- all of them
abbrev pub names : List Name
names =
    entry_visibility ∷
    entry_block ∷
    entry_statement ∷
    entry_pattern ∷
    entry_patterns ∷
    entry_type ∷
    entry_expression ∷
    entry_path ∷
    entry_item ∷
    entry_attribute ∷
    group ∷
    lifetime ∷
    attribute ∷
    visibility ∷
    statement_item ∷
    item ∷
    module_item ∷
    extern_crate ∷
    as_clause ∷
    use_declaration ∷
    use_tree ∷
    function ∷
    abi ∷
    type_alias ∷
    structure ∷
    enumeration ∷
    union ∷
    constant ∷
    static_item ∷
    trait_item ∷
    implementation ∷
    extern_block ∷
    macro_rules ∷
    macro_definition ∷
    reuse ∷
    item_macro ∷
    macro_end ∷
    generic_params ∷
    generic_param ∷
    where_clause ∷
    where_predicate ∷
    let_statement ∷
    expression_statement ∷
    statement_macro ∷
    expression ∷
    expression_in_condition ∷
    operations ∷
    operations_in_condition ∷
    assignment ∷
    assignment_in_condition ∷
    binary_operator ∷
    assignment_operator ∷
    operand ∷
    operand_in_condition ∷
    sign ∷
    sign_in_condition ∷
    half_range ∷
    half_range_in_condition ∷
    jump ∷
    jump_in_condition ∷
    closure ∷
    closure_in_condition ∷
    closure_param ∷
    atom ∷
    atom_in_condition ∷
    async_block ∷
    with_block ∷
    if_expression ∷
    loop ∷
    postfix ∷
    dotted ∷
    patterns ∷
    pattern ∷
    range_pattern_end ∷
    pattern_bound ∷
    literal_value ∷
    type ∷
    type_no_bounds ∷
    type_sign ∷
    type_base ∷
    function_type ∷
    for_lifetimes ∷
    bounds ∷
    bound ∷
    simple_path ∷
    path ∷
    path_rest ∷
    self_type ∷
    qualified_path ∷
    type_path ∷
    type_path_rest ∷
    type_segment ∷
    generic_args ∷
    generic_arg ∷ []
