-- Worked examples of Rust's textual scope, by computation: small texts, read word by word.
use Rattle.std.proofs.Common.{◌≡◌, ℕ, Bool, true, false, List, [], ◌∷◌, map, Some, None, refl, if◌then◌else◌}
use Rattle.std.specs.Prelude.{codes, flat_map, Ok}
use Prim.Native.String.{String}
use Rattle.tt_data.specs.Forest.{Forest, empty, leaf, group, joined, size}
use Rattle.bridge.specs.Text.{is_punct}
use Rattle.expander_model.specs.declared.fault.FaultKind.{FaultKind}
use Rattle.expander_model.specs.declared.fault.FaultKind.TheVariants.{CannotExpand, BrokenDefinition, RecursionLimit}
use Rattle.expander_model.specs.Definitions.{Definition}
use Rattle.expander_model.specs.Expansion.{World}
use Rattle.expander_model.specs.Meaning.{Layers, Member, plain, defining, member_faults, members_after, output_of}
use Rattle.expander_model.specs.Pieces.{pieces}
use Rattle.expander_model.specs.declared.scope_rules.ScopeRules.{ScopeRules}
use Rattle.expander_model.specs.declared.scope_rules.ScopeRules.TheVariants.{TopLevel, Rust}
use Rattle.expander_model.specs.declared.dialect.Dialect.{Dialect}
use Rattle.textual_scope.proofs.Lines.{words, trees, step_word}

-- ---- what definitions mean here

-- `?` alone is an invalid body
abbrev is_broken : Forest → Bool
is_broken (leaf l empty) = is_punct "?" l
is_broken _ = false

-- a body that begins with `%` fits no call
abbrev fits_none : Forest → Bool
fits_none (leaf l rest) = is_punct "%" l
fits_none _ = false

-- another gives itself, with the argument in the place of each `$`
abbrev filled : Forest → Forest → Forest
filled argument empty = empty
filled argument (leaf l rest) = joined (if is_punct "$" l then argument else leaf l empty) (filled argument rest)
filled argument (group d inner rest) = group d (filled argument inner) (filled argument rest)

-- these rules of scopes, and no other option
abbrev pub by : ScopeRules → Dialect
by rules = record { scope = rules; items = false; cfg = None; limits = None; excuses = false }

-- Rust's rules, where the `;` behind an item's call goes with it
abbrev pub with_items : Dialect
with_items = record { scope = Rust; items = true; cfg = None; limits = None; excuses = false }

-- Rust's rules, where a call in an argument may fit no rule
abbrev pub excusing : Dialect
excusing = record { scope = Rust; items = false; cfg = None; limits = None; excuses = true }

abbrev pub toy : Dialect → World Definition
toy dialect = record {
  broken = λ d. is_broken d.body;
  fit = λ d argument. if fits_none d.body then None else Some (filled argument d.body);
  put_out = λ d argument. if fits_none d.body then 0 else size (filled argument d.body);
  bursts = λ d argument. false;
  dialect = dialect;
}

abbrev layers : Dialect → Layers
layers dialect = record { read = λ text. Ok empty; world = toy dialect; spelling = λ step more. None }

abbrev members_of : Dialect → ℕ → String → List Member
members_of dialect depth line = members_after (layers dialect) depth [] (pieces (trees line))

-- the words that are printed
abbrev prints_by : Dialect → String → List (List ℕ)
prints_by dialect line = map (λ s. step_word s.step) (flat_map output_of (members_of dialect 4 line))

abbrev pub prints : ScopeRules → String → List (List ℕ)
prints rules line = prints_by (by rules) line

-- the same, where the `;` behind an item's call goes with it
abbrev items : String → List (List ℕ)
items line = prints_by with_items line

-- the faults, each at the index of a word
abbrev faults_by : Dialect → String → List (FaultKind × ℕ)
faults_by dialect line =
    map (λ f. (f.kind, f.range.start)) (flat_map (member_faults (layers dialect)) (members_of dialect 4 line))

abbrev pub faults : ScopeRules → String → List (FaultKind × ℕ)
faults rules line = faults_by (by rules) line

-- the same, where a call in an argument may fit no rule
abbrev excused : String → List (FaultKind × ℕ)
excused line = faults_by excusing line

-- the names that a piece looks up outside of its lists
abbrev looked_up_in : Member → List (List ℕ)
looked_up_in (plain piece outcome) = map (λ find. find.0) outcome.finds
looked_up_in (defining d) = []

abbrev pub looks_up : String → List (List ℕ)
looks_up line = flat_map looked_up_in (members_of (by Rust) 4 line)

-- ---- what a list defines

nearest_wins : prints Rust "fn f ( ) { macro_rules ! m { 1 } m ! ( ) ; { macro_rules ! m { 2 } m ! ( ) ; } m ! ( ) ; } m ! { }"
    ≡ words "fn f ( ) { 1 ; { 2 ; } 1 ; } m ! { }"
nearest_wins = refl

top_level_rules_know_no_list : prints TopLevel "fn f ( ) { macro_rules ! m { 1 } m ! ( ) } m ! { }"
    ≡ words "fn f ( ) { macro_rules ! m { 1 } m ! ( ) } m ! { }"
top_level_rules_know_no_list = refl

seen_from_its_end_on : prints Rust "macro_rules ! m { 0 } fn f ( ) { m ! { } macro_rules ! m { 1 } m ! { } } m ! { }"
    ≡ words "fn f ( ) { 0 1 } 0"
seen_from_its_end_on = refl

attributes_go_with_it : prints Rust "mod a { # [ x ] macro_rules ! m [ 1 ] ; m ! ( ) }" ≡ words "mod a { 1 }"
attributes_go_with_it = refl

macros_too : prints Rust "fn f ( ) { macro m ( x ) { 1 } m ! ( 1 ) ; pub ( crate ) macro n { 2 } n ! ( ) }" ≡ words "fn f ( ) { 1 ; 2 }"
macros_too = refl

-- in a group, but not inside of another piece
only_whole_pieces : prints Rust "fn f ( ) { a macro_rules ! m { 1 } m ! { } }" ≡ words "fn f ( ) { a macro_rules ! m { 1 } m ! { } }"
only_whole_pieces = refl

every_visible_group_ends_it : prints Rust "fn f ( ) { ( macro_rules ! m { 1 } m ! { } ) [ macro_rules ! n { 2 } ] m ! { } n ! { } }"
    ≡ words "fn f ( ) { ( 1 ) [ ] m ! { } n ! { } }"
every_visible_group_ends_it = refl

invisible_groups_let_it_out : prints Rust "fn f ( ) { <| macro_rules ! m { 1 } |> m ! { } }" ≡ words "fn f ( ) { <| |> 1 }"
invisible_groups_let_it_out = refl

nearest_of_what_is_let_out : prints Rust "fn f ( ) { <| macro_rules ! m { 1 } macro_rules ! m { 2 } |> m ! { } }" ≡ words "fn f ( ) { <| |> 2 }"
nearest_of_what_is_let_out = refl

-- ---- what a result defines

made_in_a_list : prints Rust "macro_rules ! mk { macro_rules ! $ { 7 } } fn f ( ) { mk ! { a } { mk ! { b } b ! { } } a ! { } b ! { } }"
    ≡ words "fn f ( ) { { 7 } 7 b ! { } }"
made_in_a_list = refl

made_by_what_was_made : prints Rust "macro_rules ! mk { macro_rules ! $ { macro_rules ! b { 1 } } } fn f ( ) { mk ! { a } a ! { } b ! { } }"
    ≡ words "fn f ( ) { 1 }"
made_by_what_was_made = refl

-- at the top it is printed, and no later piece finds it
made_at_the_top : prints Rust "macro_rules ! mk { macro_rules ! $ { 1 } } mk ! ( a ) . a ! ( ) ; fn f ( ) { a ! { } }"
    ≡ words "macro_rules ! a { 1 } . 1 ; fn f ( ) { a ! { } }"
made_at_the_top = refl

-- a block that is passed in sees what the template defines around it
seen_by_an_argument : prints Rust "macro_rules ! e { { macro_rules ! i { 1 } $ } } e ! ( { i ! { } } ) ;" ≡ words "{ { 1 } } ;"
seen_by_an_argument = refl

-- a definition that is passed in takes the attribute before it along
seen_behind_an_attribute : prints Rust "macro_rules ! a { # [ x ] $ m ! { } } fn f ( ) { a ! { macro_rules ! m { 1 } } m ! { } }"
    ≡ words "fn f ( ) { 1 1 }"
seen_behind_an_attribute = refl

-- no definition is put together of a result and what follows it
not_across_a_result : prints Rust "macro_rules ! d { macro_rules } fn f ( ) { d ! { } ! e { 1 } e ! { } }"
    ≡ words "fn f ( ) { macro_rules ! e { 1 } e ! { } }"
not_across_a_result = refl

-- ---- which definition a call finds

-- a call in a template finds what is around the call of the template; `$crate ::` asks no list
where_it_is_called : prints Rust "macro_rules ! k { j ! { } $crate : : j ! { } } macro_rules ! j { 1 } fn f ( ) { macro_rules ! j { 2 } k ! { } }"
    ≡ words "fn f ( ) { 2 1 }"
where_it_is_called = refl

no_list_behind_a_root : prints Rust "fn f ( ) { macro_rules ! j { 2 } $crate:std : : j ! { } a : : j ! { } }"
    ≡ words "fn f ( ) { $crate:std : : j ! { } a : : j ! { } }"
no_list_behind_a_root = refl

what_a_root_looks_up : looks_up "fn f ( ) { macro_rules ! j { 2 } $crate:std : : j ! { } }" ≡ codes "$crate:std::j" ∷ []
what_a_root_looks_up = refl

-- a name that a list answers is looked up nowhere else
own_names_are_no_look_ups : looks_up "macro_rules ! m { 3 } fn f ( ) { macro_rules ! m { g ! { } } m ! { } } fn h ( ) { m ! { } }"
    ≡ codes "g" ∷ codes "m" ∷ []
own_names_are_no_look_ups = refl

-- ---- arguments of calls that stay

-- what is defined there ends with it, and is printed as it is
an_argument_is_a_list : prints Rust "fn f ( ) { u ! { macro_rules ! m { v ! { } } { m ! { } } } m ! { } } macro_rules ! v { 1 }"
    ≡ words "fn f ( ) { u ! { macro_rules ! m { v ! { } } { v ! { } } } m ! { } }"
an_argument_is_a_list = refl

behind_colons_too : prints Rust "fn f ( ) { a : : u ! { macro_rules ! m { 1 } m ! { } } m ! { } }"
    ≡ words "fn f ( ) { a : : u ! { macro_rules ! m { 1 } 1 } m ! { } }"
behind_colons_too = refl

-- that of a failed call is not searched
a_failed_call_defines_nothing : prints Rust "macro_rules ! z { % } fn f ( ) { z ! { macro_rules ! m { 1 } } m ! { } }"
    ≡ words "fn f ( ) { z ! { macro_rules ! m { 1 } } m ! { } }"
a_failed_call_defines_nothing = refl

why_it_failed : faults Rust "macro_rules ! z { % } fn f ( ) { z ! { macro_rules ! m { 1 } } m ! { } }" ≡ (CannotExpand, 11) ∷ []
why_it_failed = refl

-- ---- faults

-- a call in the argument of one that stays may be told, or excused
an_argument : faults Rust "macro_rules ! z { % } u ! ( z ! ( ) ) ;" ≡ (CannotExpand, 9) ∷ []
an_argument = refl

an_excused_argument : excused "macro_rules ! z { % } u ! ( z ! ( ) { z ! ( ) } ) ;" ≡ []
an_excused_argument = refl

-- it stays as it is, whether it is told or not
an_excused_call_stays : prints_by excusing "macro_rules ! z { % } macro_rules ! m { 1 } u ! ( z ! ( m ! ( ) ) m ! ( ) ) ;" ≡ words "u ! ( z ! ( m ! ( ) ) 1 ) ;"
an_excused_call_stays = refl

-- in what a call there gives too, and nowhere else
an_excused_result : excused "macro_rules ! z { % } macro_rules ! r { z ! ( ) } u ! ( r ! ( ) ) ; r ! ( ) ;" ≡ (CannotExpand, 24) ∷ []
an_excused_result = refl

groups_are_told : excused "macro_rules ! z { % } fn f ( ) { z ! ( ) }" ≡ (CannotExpand, 11) ∷ []
groups_are_told = refl

-- no other fault is excused
a_broken_one_in_an_argument : excused "macro_rules ! b { ? } u ! ( b ! ( ) ) ;" ≡ (BrokenDefinition, 2) ∷ (BrokenDefinition, 9) ∷ []
a_broken_one_in_an_argument = refl

a_broken_one : prints Rust "fn f ( ) { macro_rules ! b { ? } b ! { } }" ≡ words "fn f ( ) { b ! { } }"
a_broken_one = refl

-- told where it is defined, and where it is called
told_twice : faults Rust "fn f ( ) { macro_rules ! b { ? } b ! { } }" ≡ (BrokenDefinition, 7) ∷ (BrokenDefinition, 11) ∷ []
told_twice = refl

-- a made one at the call that made it
made_broken : faults Rust "macro_rules ! mk { macro_rules ! $ { ? } } fn f ( ) { mk ! { b } }" ≡ (BrokenDefinition, 16) ∷ []
made_broken = refl

-- without a level nothing is made any more
no_level_left : prints Rust "macro_rules ! l { macro_rules ! n { l ! { } } n ! { } } fn f ( ) { l ! { } }" ≡ words "fn f ( ) { l ! { } }"
no_level_left = refl

told_once : faults Rust "macro_rules ! l { macro_rules ! n { l ! { } } n ! { } } fn f ( ) { l ! { } }" ≡ (RecursionLimit, 23) ∷ []
told_once = refl

-- ---- the `;` behind an item's call

-- it goes with a call that stands alone in parentheses or brackets
behind_parentheses : items "macro_rules ! m { i } m ! ( ) ; m ! [ ] ; j" ≡ words "i i j"
behind_parentheses = refl

without_the_option_it_stays : prints Rust "macro_rules ! m { i } m ! ( ) ; mod a { m ! ( ) ; }" ≡ words "i ; mod a { i ; }"
without_the_option_it_stays = refl

one_alone_goes : items "macro_rules ! m { i } m ! ( ) ; ;" ≡ words "i ;"
one_alone_goes = refl

-- braces end the call's piece, and the `;` is one of its own
not_behind_braces : items "macro_rules ! m { i } m ! { } ; mod a { m ! { } ; }" ≡ words "i ; mod a { i ; }"
not_behind_braces = refl

behind_attributes : items "macro_rules ! m { i } # ! [ a ] # [ b ] # [ c ] m ! ( ) ;" ≡ words "# ! [ a ] # [ b ] # [ c ] i"
behind_attributes = refl

behind_a_root : items "macro_rules ! m { i } $crate : : m ! ( ) ;" ≡ words "i"
behind_a_root = refl

-- behind another word the call does not stand alone, neither where more follows
not_behind_words : items "macro_rules ! m { i } pub m ! ( ) ; x m ! ( ) ; m ! ( ) + 1 ; m ! ( ) m ! ( ) ;" ≡ words "pub i ; x i ; i + 1 ; i i ;"
not_behind_words = refl

-- a call that stays keeps it: of no definition, of one that does not fit, of an invalid one
unknown_calls_keep_it : items "u ! ( ) ; a : : u ! ( ) ;" ≡ words "u ! ( ) ; a : : u ! ( ) ;"
unknown_calls_keep_it = refl

failed_calls_keep_it : items "macro_rules ! z { % } z ! ( ) ; macro_rules ! b { ? } b ! ( ) ;" ≡ words "z ! ( ) ; b ! ( ) ;"
failed_calls_keep_it = refl

-- and one for which no level is left
the_last_call_keeps_it : items "macro_rules ! l { l ! ( ) ; } l ! ( ) ;" ≡ words "l ! ( ) ;"
the_last_call_keeps_it = refl

-- ---- lists of items

in_modules : items "macro_rules ! m { i } mod a { m ! ( ) ; }" ≡ words "mod a { i }"
in_modules = refl

in_traits : items "macro_rules ! m { i } # [ a ] pub ( crate ) unsafe trait T { m ! ( ) ; } pub auto trait T { m ! ( ) ; }"
    ≡ words "# [ a ] pub ( crate ) unsafe trait T { i } pub auto trait T { i }"
in_traits = refl

in_implementations : items "macro_rules ! m { i } default unsafe impl < A > B for [ A ] { m ! ( ) ; }" ≡ words "default unsafe impl < A > B for [ A ] { i }"
in_implementations = refl

in_extern_blocks : items "macro_rules ! m { i } extern 'C { m ! ( ) ; } unsafe extern { m ! ( ) ; }" ≡ words "extern 'C { i } unsafe extern { i }"
in_extern_blocks = refl

-- a word alone decides nothing: these are functions
not_in_functions : items "macro_rules ! m { i } fn f ( ) - > impl T { m ! ( ) ; } extern 'C fn g ( ) { m ! ( ) ; } pub fn h ( ) { m ! ( ) ; }"
    ≡ words "fn f ( ) - > impl T { i ; } extern 'C fn g ( ) { i ; } pub fn h ( ) { i ; }"
not_in_functions = refl

items_and_functions : items "macro_rules ! m { i } mod a { fn f ( ) { m ! ( ) ; mod b { m ! ( ) ; } } m ! ( ) ; ( m ! ( ) ; ) }"
    ≡ words "mod a { fn f ( ) { i ; mod b { i } } i ( i ; ) }"
items_and_functions = refl

-- braces before those of an implementation are taken for them, and the others for no list of items
braces_in_between : items "macro_rules ! m { i } impl A < { m ! ( ) ; } > for B { m ! ( ) ; }" ≡ words "impl A < { i } > for B { i ; }"
braces_in_between = refl

-- a call among the words before them changes nothing
calls_in_between : items "macro_rules ! m { i } macro_rules ! t { T } impl t ! ( ) for t ! [ ] { m ! ( ) ; }" ≡ words "impl T for T { i }"
calls_in_between = refl

definitions_of_items : items "mod a { macro_rules ! m { i } m ! ( ) ; }" ≡ words "mod a { i }"
definitions_of_items = refl

-- what a call makes stands where the call stood
in_results : items "macro_rules ! m { i } macro_rules ! r { m ! ( ) ; mod a { m ! ( ) ; } fn f ( ) { m ! ( ) ; } } r ! ( ) ; fn g ( ) { r ! ( ) ; }"
    ≡ words "i mod a { i } fn f ( ) { i ; } fn g ( ) { i ; mod a { i } fn f ( ) { i ; } ; }"
in_results = refl

-- the argument of a call that stays is no list of items
not_in_arguments : items "macro_rules ! m { i } u ! ( m ! ( ) ; mod a { m ! ( ) ; } )" ≡ words "u ! ( i ; mod a { i ; } )"
not_in_arguments = refl

-- an invisible group is where it stands; what is in one names no item
invisible_groups_are_lists_too : items "macro_rules ! m { i } <| m ! ( ) ; |> mod <| a |> { m ! ( ) ; } <| mod |> b { m ! ( ) ; }"
    ≡ words "<| i |> mod <| a |> { i ; } <| mod |> b { i ; }"
invisible_groups_are_lists_too = refl

by_top_level_rules_too : prints_by (record { scope = TopLevel; items = true; cfg = None; limits = None; excuses = false }) "macro_rules ! m { i } mod a { m ! ( ) ; }" ≡ words "mod a { i }"
by_top_level_rules_too = refl
