-- At each list an expression has only one outcome, and that is what comes of it.
use Rattle.std.proofs.Common.{◌≡◌, ℕ, suc, zero, ◌+◌, ◌≤◌, ◌<◌, Bool, true, ◌&&◌, refl, sym, ap, ◌∙◌, subst, arith}
use Rattle.std.proofs.lemmas.Bool.{and_parts, ltb-true}
use Rattle.std.specs.Prelude.{nat_lt}
use Rattle.tt_data.specs.Forest.{Forest, size}
use Rattle.tt_data.specs.declared.edition.Edition.{Edition}
use Rattle.fragment_grammar.specs.declared.fragment.PrefixEntryPoint.{PrefixEntryPoint}
use Rattle.small_grammar.specs.Passing.{passed-size}
use Rattle.rust_grammar.specs.Answer.{rules_to, most_levels, entry_rule, comes_of}
use Rattle.rust_grammar.specs.Expressions.{Expression, token, since, ◌⨾◌, ◌∣◌, many, maybe, surely, unless, rule, Taking, and_then, otherwise, or_nothing, decided, without, next_round, rounds, taken}
use Rattle.rust_grammar.specs.Names.{Name, entry_visibility, entry_block, entry_statement, entry_pattern, entry_patterns, entry_type, entry_expression, entry_path, entry_item, entry_attribute, group, lifetime, attribute, visibility, statement_item, item, module_item, extern_crate, as_clause, use_declaration, use_tree, function, abi, type_alias, structure, enumeration, union, constant, static_item, trait_item, implementation, extern_block, macro_rules, macro_definition, reuse, item_macro, macro_end, generic_params, generic_param, where_clause, where_predicate, let_statement, expression_statement, statement_macro, expression, expression_in_condition, operations, operations_in_condition, assignment, assignment_in_condition, binary_operator, assignment_operator, operand, operand_in_condition, sign, sign_in_condition, half_range, half_range_in_condition, jump, jump_in_condition, closure, closure_in_condition, closure_param, atom, atom_in_condition, async_block, with_block, if_expression, loop, postfix, dotted, patterns, pattern, range_pattern_end, pattern_bound, literal_value, type, type_no_bounds, type_sign, type_base, function_type, for_lifetimes, bounds, bound, simple_path, path, path_rest, self_type, qualified_path, type_path, type_path_rest, type_segment, generic_args, generic_arg}
use Rattle.rust_grammar.specs.Outcomes.{Comes, as_token, by_edition, stopped, went_on, by_first, by_second, no_round, one_round, left_out, put_in, not_found, was_found, is_absent, is_there, fault_unless, fault_first, fault_either, fault_round, fault_maybe, fault_surely, by_rule, too_deep}
use Rattle.rust_grammar.specs.Passing.{least, expression-takes, rules_to-take}
use Rattle.rust_grammar.specs.Rules.{says}
use Rattle.rust_grammar.specs.declared.outcome.Outcome.{Outcome}
use Rattle.rust_grammar.specs.declared.outcome.Outcome.TheVariants.{Fits, Misses, Faults}

-- ---- the grammar's repetitions take a token in each round

abbrev pub is_finite : Expression → Bool
is_finite (token t) = true
is_finite (since first) = true
is_finite (a ⨾ b) = is_finite a && is_finite b
is_finite (a ∣ b) = is_finite a && is_finite b
is_finite (many a) = nat_lt 0 (least a) && is_finite a
is_finite (maybe a) = is_finite a
is_finite (surely a) = is_finite a
is_finite (unless a) = is_finite a
is_finite (rule k) = true

says-finite : (k : Name) → is_finite (says k) ≡ true
says-finite entry_visibility = refl
says-finite entry_block = refl
says-finite entry_statement = refl
says-finite entry_pattern = refl
says-finite entry_patterns = refl
says-finite entry_type = refl
says-finite entry_expression = refl
says-finite entry_path = refl
says-finite entry_item = refl
says-finite entry_attribute = refl
says-finite group = refl
says-finite lifetime = refl
says-finite attribute = refl
says-finite visibility = refl
says-finite statement_item = refl
says-finite item = refl
says-finite module_item = refl
says-finite extern_crate = refl
says-finite as_clause = refl
says-finite use_declaration = refl
says-finite use_tree = refl
says-finite function = refl
says-finite abi = refl
says-finite type_alias = refl
says-finite structure = refl
says-finite enumeration = refl
says-finite union = refl
says-finite constant = refl
says-finite static_item = refl
says-finite trait_item = refl
says-finite implementation = refl
says-finite extern_block = refl
says-finite macro_rules = refl
says-finite macro_definition = refl
says-finite reuse = refl
says-finite item_macro = refl
says-finite macro_end = refl
says-finite generic_params = refl
says-finite generic_param = refl
says-finite where_clause = refl
says-finite where_predicate = refl
says-finite let_statement = refl
says-finite expression_statement = refl
says-finite statement_macro = refl
says-finite expression = refl
says-finite expression_in_condition = refl
says-finite operations = refl
says-finite operations_in_condition = refl
says-finite assignment = refl
says-finite assignment_in_condition = refl
says-finite binary_operator = refl
says-finite assignment_operator = refl
says-finite operand = refl
says-finite operand_in_condition = refl
says-finite sign = refl
says-finite sign_in_condition = refl
says-finite half_range = refl
says-finite half_range_in_condition = refl
says-finite jump = refl
says-finite jump_in_condition = refl
says-finite closure = refl
says-finite closure_in_condition = refl
says-finite closure_param = refl
says-finite atom = refl
says-finite atom_in_condition = refl
says-finite async_block = refl
says-finite with_block = refl
says-finite if_expression = refl
says-finite loop = refl
says-finite postfix = refl
says-finite dotted = refl
says-finite patterns = refl
says-finite pattern = refl
says-finite range_pattern_end = refl
says-finite pattern_bound = refl
says-finite literal_value = refl
says-finite type = refl
says-finite type_no_bounds = refl
says-finite type_sign = refl
says-finite type_base = refl
says-finite function_type = refl
says-finite for_lifetimes = refl
says-finite bounds = refl
says-finite bound = refl
says-finite simple_path = refl
says-finite path = refl
says-finite path_rest = refl
says-finite self_type = refl
says-finite qualified_path = refl
says-finite type_path = refl
says-finite type_path_rest = refl
says-finite type_segment = refl
says-finite generic_args = refl
says-finite generic_arg = refl

-- what comes of an expression, with so many levels of rules left
abbrev outcome : Edition → ℕ → Expression → Taking
outcome ed n e f = taken ed (rules_to ed n) e f

shorter : (ed : Edition) (n : ℕ) (a : Expression) (f g : Forest) → outcome ed n a f ≡ Fits g → least a + size g ≤ size f
shorter ed n a f g e = passed-size (least a) f g (expression-takes ed (rules_to ed n) (rules_to-take ed n) a f g e)

-- ---- rounds

abbrev pub Shrinks : Taking → Type 0
Shrinks p = (f g : Forest) → p f ≡ Fits g → 1 + size g ≤ size f

pub shrinks : (ed : Edition) (n : ℕ) (a : Expression) → nat_lt 0 (least a) ≡ true → Shrinks (outcome ed n a)
shrinks ed n a some f g e = (let s = shorter ed n a f g e in let one = ltb-true 0 (least a) some in omega (arith, s, one))

round_same : (p q : Taking) (o : Outcome) (f : Forest) → ((g : Forest) → o ≡ Fits g → p g ≡ q g) → next_round p o f ≡ next_round q o f
round_same p q (Fits g) f each = each g refl
round_same p q Misses f each = refl
round_same p q Faults f each = refl

-- more rounds than tokens change nothing
enough : (p : Taking) → Shrinks p → (m k : ℕ) (f : Forest) → size f < m → size f < k → rounds m p f ≡ rounds k p f
enough p less zero k f fits others = absurd (omega (arith, fits))
enough p less (suc m) zero f fits others = absurd (omega (arith, others))
enough p less (suc m) (suc k) f fits others =
    round_same (rounds m p) (rounds k p) (p f) f
    (λ g e. enough p less m k g (let s = less f g e in omega (arith, s, fits)) (let s = less f g e in omega (arith, s, others)))

pub many_on : (p : Taking) → Shrinks p → (f g : Forest) → p f ≡ Fits g → rounds (suc (size f)) p f ≡ rounds (suc (size g)) p g
many_on p less f g e =
    let s = less f g e in
    ap (λ o. next_round (rounds (size f) p) o f) e ∙ enough p less (size f) (suc (size g)) g (omega (arith, s)) (omega arith)

many_stops : (p : Taking) (f : Forest) (o : Outcome) → p f ≡ o → rounds (suc (size f)) p f ≡ next_round (rounds (size f) p) o f
many_stops p f o e = ap (λ x. next_round (rounds (size f) p) x f) e

-- ---- an expression comes out in one way alone

pub comes-once : (ed : Edition) (n : ℕ) (e : Expression) (f : Forest) (o : Outcome) → is_finite e ≡ true → Comes ed n e f o → outcome ed n e f ≡ o
comes-once ed n (token t) f o fin (as_token _ _ _ _) = refl
comes-once ed n (since first) f o fin (by_edition _ _ _ _) = refl
comes-once ed n (a ⨾ b) f o fin (stopped _ _ _ _ _ none) = ap (and_then (outcome ed n b)) (comes-once ed n a f Misses (and_parts (is_finite a) (is_finite b) fin).0 none)
comes-once ed n (a ⨾ b) f o fin (went_on _ _ _ _ _ g _ some more) =
    ap (and_then (outcome ed n b)) (comes-once ed n a f (Fits g) (and_parts (is_finite a) (is_finite b) fin).0 some)
    ∙ comes-once ed n b g o (and_parts (is_finite a) (is_finite b) fin).1 more
comes-once ed n (a ⨾ b) f o fin (fault_first _ _ _ _ _ fault) = ap (and_then (outcome ed n b)) (comes-once ed n a f Faults (and_parts (is_finite a) (is_finite b) fin).0 fault)
comes-once ed n (a ∣ b) f o fin (by_first _ _ _ _ _ g some) = ap (λ p. otherwise p (outcome ed n b) f) (comes-once ed n a f (Fits g) (and_parts (is_finite a) (is_finite b) fin).0 some)
comes-once ed n (a ∣ b) f o fin (by_second _ _ _ _ _ _ none more) =
    ap (λ p. otherwise p (outcome ed n b) f) (comes-once ed n a f Misses (and_parts (is_finite a) (is_finite b) fin).0 none)
    ∙ comes-once ed n b f o (and_parts (is_finite a) (is_finite b) fin).1 more
comes-once ed n (a ∣ b) f o fin (fault_either _ _ _ _ _ fault) = ap (λ p. otherwise p (outcome ed n b) f) (comes-once ed n a f Faults (and_parts (is_finite a) (is_finite b) fin).0 fault)
comes-once ed n (many a) f o fin (no_round _ _ _ _ none) = many_stops (outcome ed n a) f Misses (comes-once ed n a f Misses (and_parts (nat_lt 0 (least a)) (is_finite a) fin).1 none)
comes-once ed n (many a) f o fin (one_round _ _ _ _ g _ some more) =
    many_on (outcome ed n a) (shrinks ed n a (and_parts (nat_lt 0 (least a)) (is_finite a) fin).0) f g
    (comes-once ed n a f (Fits g) (and_parts (nat_lt 0 (least a)) (is_finite a) fin).1 some)
    ∙ comes-once ed n (many a) g o fin more
comes-once ed n (many a) f o fin (fault_round _ _ _ _ fault) = many_stops (outcome ed n a) f Faults (comes-once ed n a f Faults (and_parts (nat_lt 0 (least a)) (is_finite a) fin).1 fault)
comes-once ed n (maybe a) f o fin (left_out _ _ _ _ none) = ap (λ p. or_nothing p f) (comes-once ed n a f Misses fin none)
comes-once ed n (maybe a) f o fin (put_in _ _ _ _ g some) = ap (λ p. or_nothing p f) (comes-once ed n a f (Fits g) fin some)
comes-once ed n (maybe a) f o fin (fault_maybe _ _ _ _ fault) = ap (λ p. or_nothing p f) (comes-once ed n a f Faults fin fault)
comes-once ed n (surely a) f o fin (not_found _ _ _ _ none) = ap decided (comes-once ed n a f Misses fin none)
comes-once ed n (surely a) f o fin (was_found _ _ _ _ g some) = ap decided (comes-once ed n a f (Fits g) fin some)
comes-once ed n (surely a) f o fin (fault_surely _ _ _ _ fault) = ap decided (comes-once ed n a f Faults fin fault)
comes-once ed n (unless a) f o fin (is_absent _ _ _ _ none) = ap (λ p. without p f) (comes-once ed n a f Misses fin none)
comes-once ed n (unless a) f o fin (is_there _ _ _ _ g some) = ap (λ p. without p f) (comes-once ed n a f (Fits g) fin some)
comes-once ed n (unless a) f o fin (fault_unless _ _ _ _ fault) = ap (λ p. without p f) (comes-once ed n a f Faults fin fault)
comes-once ed zero (rule k) f o fin (too_deep _ _ _) = refl
comes-once ed (suc n) (rule k) f o fin (by_rule _ _ _ _ _ more) = comes-once ed n (says k) f o (says-finite k) more

-- ---- and it does come out

module _ (ed : Edition) (n : ℕ) where
  then_comes : (a b : Expression) (f : Forest) (o : Outcome) → Comes ed n a f o → ((g : Forest) → Comes ed n b g (outcome ed n b g)) → Comes ed n (a ⨾ b) f (and_then (outcome ed n b) o)
  then_comes a b f (Fits g) some more = went_on ed n a b f g (outcome ed n b g) some (more g)
  then_comes a b f Misses none more = stopped ed n a b f none
  then_comes a b f Faults fault more = fault_first ed n a b f fault

  either_comes : (a b : Expression) (f : Forest) (o : Outcome) → Comes ed n a f o → Comes ed n b f (outcome ed n b f) → Comes ed n (a ∣ b) f (otherwise o (outcome ed n b) f)
  either_comes a b f (Fits g) some more = by_first ed n a b f g some
  either_comes a b f Misses none more = by_second ed n a b f (outcome ed n b f) none more
  either_comes a b f Faults fault more = fault_either ed n a b f fault

  maybe_comes : (a : Expression) (f : Forest) (o : Outcome) → Comes ed n a f o → Comes ed n (maybe a) f (or_nothing o f)
  maybe_comes a f (Fits g) some = put_in ed n a f g some
  maybe_comes a f Misses none = left_out ed n a f none
  maybe_comes a f Faults fault = fault_maybe ed n a f fault

  surely_comes : (a : Expression) (f : Forest) (o : Outcome) → Comes ed n a f o → Comes ed n (surely a) f (decided o)
  surely_comes a f (Fits g) some = was_found ed n a f g some
  surely_comes a f Misses none = not_found ed n a f none
  surely_comes a f Faults fault = fault_surely ed n a f fault

  unless_comes : (a : Expression) (f : Forest) (o : Outcome) → Comes ed n a f o → Comes ed n (unless a) f (without o f)
  unless_comes a f (Fits g) some = is_there ed n a f g some
  unless_comes a f Misses none = is_absent ed n a f none
  unless_comes a f Faults fault = fault_unless ed n a f fault

  round_comes : (a : Expression) → Shrinks (outcome ed n a) → (f : Forest) (o : Outcome) → outcome ed n a f ≡ o → Comes ed n a f o →
      ((g : Forest) → outcome ed n a f ≡ Fits g → Comes ed n (many a) g (outcome ed n (many a) g)) → Comes ed n (many a) f (outcome ed n (many a) f)
  round_comes a less f (Fits g) e some more =
      subst (Comes ed n (many a) f) (sym (many_on (outcome ed n a) less f g e)) (one_round ed n a f g (outcome ed n (many a) g) some (more g e))
  round_comes a less f Misses e none more = subst (Comes ed n (many a) f) (sym (many_stops (outcome ed n a) f Misses e)) (no_round ed n a f none)
  round_comes a less f Faults e fault more = subst (Comes ed n (many a) f) (sym (many_stops (outcome ed n a) f Faults e)) (fault_round ed n a f fault)

  -- rounds, at most m of them
  many_comes : (a : Expression) → Shrinks (outcome ed n a) → ((g : Forest) → Comes ed n a g (outcome ed n a g)) → (m : ℕ) (f : Forest) → size f < m →
      Comes ed n (many a) f (outcome ed n (many a) f)
  many_comes a less each zero f fits = absurd (omega (arith, fits))
  many_comes a less each (suc m) f fits =
      round_comes a less f (outcome ed n a f) refl (each f) (λ g e. many_comes a less each m g (let s = less f g e in omega (arith, s, fits)))

  module _ (below : (k : Name) (f : Forest) → Comes ed n (rule k) f (rules_to ed n k f)) where
    comes-from : (e : Expression) → is_finite e ≡ true → (f : Forest) → Comes ed n e f (outcome ed n e f)
    comes-from (token t) fin f = as_token ed n t f
    comes-from (since first) fin f = by_edition ed n first f
    comes-from (a ⨾ b) fin f =
        then_comes a b f (outcome ed n a f) (comes-from a (and_parts (is_finite a) (is_finite b) fin).0 f) (comes-from b (and_parts (is_finite a) (is_finite b) fin).1)
    comes-from (a ∣ b) fin f =
        either_comes a b f (outcome ed n a f) (comes-from a (and_parts (is_finite a) (is_finite b) fin).0 f) (comes-from b (and_parts (is_finite a) (is_finite b) fin).1 f)
    comes-from (many a) fin f =
        many_comes a (shrinks ed n a (and_parts (nat_lt 0 (least a)) (is_finite a) fin).0) (comes-from a (and_parts (nat_lt 0 (least a)) (is_finite a) fin).1)
        (suc (size f)) f (omega arith)
    comes-from (maybe a) fin f = maybe_comes a f (outcome ed n a f) (comes-from a fin f)
    comes-from (surely a) fin f = surely_comes a f (outcome ed n a f) (comes-from a fin f)
    comes-from (unless a) fin f = unless_comes a f (outcome ed n a f) (comes-from a fin f)
    comes-from (rule k) fin f = below k f

pub rules-come : (ed : Edition) (n : ℕ) (k : Name) (f : Forest) → Comes ed n (rule k) f (rules_to ed n k f)
rules-come ed zero k f = too_deep ed k f
rules-come ed (suc n) k f = by_rule ed n k f (rules_to ed (suc n) k f) (comes-from ed n (rules-come ed n) (says k) (says-finite k) f)

-- so for each entry point and list there is one outcome, and it is what the grammar answers
pub entry-comes : (ed : Edition) (entry : PrefixEntryPoint) (f : Forest) → Comes ed most_levels (rule (entry_rule entry)) f (comes_of ed entry f)
unfolding comes_of
entry-comes ed entry f = rules-come ed most_levels (entry_rule entry) f

pub entry-once : (ed : Edition) (entry : PrefixEntryPoint) (f : Forest) (o : Outcome) → Comes ed most_levels (rule (entry_rule entry)) f o → comes_of ed entry f ≡ o
unfolding comes_of
entry-once ed entry f o out = comes-once ed most_levels (rule (entry_rule entry)) f o refl out
