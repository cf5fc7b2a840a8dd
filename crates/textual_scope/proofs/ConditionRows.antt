-- Worked examples of conditional compilation, by computation: pieces, read word by word.
use Rattle.std.proofs.Common.{◌≡◌, ℕ, Bool, true, false, List, Option, Some, None, refl}
use Rattle.std.specs.Prelude.{codes, ◌&&◌, ◌||◌}
use Prim.Native.String.{String}
use Rattle.tt_data.specs.Literals.{LiteralParts}
use Rattle.small_grammar.specs.Text.{same_text}
use Rattle.expander_model.specs.cfg_options.Conditions.{Options, predicate_value, is_kept}
use Rattle.expander_model.specs.WholeItems.{is_whole_item, is_configured_out}
use Rattle.textual_scope.proofs.Lines.{trees}

-- `unix`, and `os` with the value "linux"
abbrev options : Options
options name None = same_text name (codes "unix")
options name (Some value) = same_text name (codes "os") && same_text value (codes "linux")

abbrev text : LiteralParts → Option (List ℕ)
text l = Some l.text

abbrev value : String → Option Bool
value line = predicate_value options text (trees line)

abbrev kept : String → Bool
kept line = is_kept options text (trees line)

abbrev whole : String → Bool
whole line = is_whole_item (trees line)

-- ---- predicates

a_name : value "unix" ≡ Some true
a_name = refl

a_name_that_is_not_set : value "windows" ≡ Some false
a_name_that_is_not_set = refl

a_value : value "os = 'linux" ≡ Some true
a_value = refl

another_value : value "os = 'none" ≡ Some false
another_value = refl

a_number_is_no_value : value "os = 1" ≡ None
a_number_is_no_value = refl

constants : value "any ( false , true )" ≡ Some true
constants = refl

all_of_none : value "all ( )" ≡ Some true
all_of_none = refl

any_of_none : value "any ( )" ≡ Some false
any_of_none = refl

nested : value "all ( not ( windows ) , any ( a , os = 'linux , ) )" ≡ Some true
nested = refl

not_of_two : value "not ( a , b )" ≡ None
not_of_two = refl

not_of_none : value "not ( )" ≡ None
not_of_none = refl

no_empty_predicate : value "all ( a , , b )" ≡ None
no_empty_predicate = refl

-- without parentheses these words are names
not_is_a_name : value "not" ≡ Some false
not_is_a_name = refl

-- a reserved word is no option, and without an edition a word of later ones is one
reserved_words : value "fn" ≡ None
reserved_words = refl

words_of_later_editions : value "async" ≡ Some false
words_of_later_editions = refl

a_constant_has_no_value : value "true = 'linux" ≡ None
a_constant_has_no_value = refl

no_paths : value "a : : b" ≡ None
no_paths = refl

no_other_lists : value "zz ( 1 )" ≡ None
no_other_lists = refl

-- ---- attributes

a_true_one_keeps : kept "# [ cfg ( unix ) ] fn f ( ) { }" ≡ true
a_true_one_keeps = refl

a_false_one_does_not : kept "# [ x ] # [ cfg ( windows ) ] fn f ( ) { }" ≡ false
a_false_one_does_not = refl

all_have_to_keep : kept "# [ cfg ( unix ) ] # [ cfg ( windows ) ] fn f ( ) { }" ≡ false
all_have_to_keep = refl

what_is_no_predicate_keeps : kept "# [ cfg ( ) ] # [ cfg ( a , b ) ] # [ cfg = 'a ] # [ cfg ( f = 1 ) ] fn f ( ) { }" ≡ true
what_is_no_predicate_keeps = refl

a_comma_at_the_end : kept "# [ cfg ( windows , ) ] fn f ( ) { }" ≡ false
a_comma_at_the_end = refl

attributes_of_attributes : kept "# [ cfg_attr ( unix , x , cfg ( windows ) ) ] fn f ( ) { }" ≡ false
attributes_of_attributes = refl

none_if_false : kept "# [ cfg_attr ( windows , cfg ( windows ) ) ] fn f ( ) { }" ≡ true
none_if_false = refl

attributes_inside_say_nothing : kept "# ! [ cfg ( windows ) ] fn f ( ) { }" ≡ true
attributes_inside_say_nothing = refl

-- ---- whole items

functions : whole "# [ x ] pub ( crate ) const unsafe extern 'C fn f < T > ( ) - > A < T > where T : B , { }" ≡ true
functions = refl

structs : (whole "struct A ( u8 ) ;" && (whole "pub enum A { B }" && whole "union A { a : u8 }")) ≡ true
structs = refl

blocks_of_other_languages : (whole "unsafe extern 'C { fn f ( ) ; }" && whole "extern { }") ≡ true
blocks_of_other_languages = refl

short_items : (whole "use a : : b ;" && (whole "static A : u8 = 1 ;" && whole "extern crate a ;")) ≡ true
short_items = refl

calls : (whole "m ! { }" && whole "m ! ( ) ;") ≡ true
calls = refl

calls_by_paths : (whole "a : : b ! { }" && whole ": : a : : b ! ( ) ;") ≡ true
calls_by_paths = refl

-- what is in angle brackets is no body, also behind an arrow
no_body_in_angles : whole "fn f < F : Fn ( ) - > A , const N : usize = { 1 }" ≡ false
no_body_in_angles = refl

-- cut in two by a brace group
cut_in_two : (whole "use a : : { b }" || (whole "const A : u8 = { 1 }" || whole "impl A < { 1 }")) ≡ false
cut_in_two = refl

no_items : (whole "a + b ;" || (whole "if a { }" || (whole "{ }" || whole "let a = 1 ;"))) ≡ false
no_items = refl

-- ---- what is left out

abbrev out : Bool → String → Bool
out items line = is_configured_out options text items (trees line)

definitions_everywhere : out false "# [ cfg ( windows ) ] macro_rules ! m { }" ≡ true
definitions_everywhere = refl

items_among_items : out true "# [ cfg ( windows ) ] fn f ( ) { }" ≡ true
items_among_items = refl

not_elsewhere : out false "# [ cfg ( windows ) ] fn f ( ) { }" ≡ false
not_elsewhere = refl

no_parts_of_items : out true "# [ cfg ( windows ) ] use a : : { b }" ≡ false
no_parts_of_items = refl
