-- Worked examples of the definitions, by computation.
use Rattle.std.proofs.Common.{◌≡◌, ℕ, List, [], ◌∷◌, ◌++◌, refl}
use Rattle.std.specs.Prelude.{codes, Result, Ok, Err}
use Rattle.std.specs.Char.{encode_utf8}
use Rattle.std.specs.Str.{chars, is_utf8}
use Rattle.ucd_derived.specs.Binary.{is_xid_start, is_xid_continue}
use Rattle.ucd_derived.specs.XidContinueRanges.{xid_continue_ranges}
use Rattle.ucd_derived.specs.XidStartRanges.{xid_start_ranges}
use Rattle.ucd_table.specs.Rows.{in_ranges}
use Rattle.expander_model.specs.declared.fault.Fault.{Fault}
use Rattle.expander_model.specs.declared.fault.FaultKind.{FaultKind}
use Rattle.expander_model.specs.declared.fault.FaultKind.TheVariants.{CannotExpand, BrokenDefinition, RecursionLimit, NestedDefinition}
use Rattle.bridge.specs.declared.reading.outcome.ReadFault.{ReadFault}
use Rattle.bridge.specs.declared.reading.outcome.ReadFaultKind.TheVariants.{BadToken, CloserDoesNotFit, GroupLeftOpen}
use Rattle.expander_model.specs.Meaning.{meaning, ReadMeaning}
use Rattle.expander_run.specs.Runs.{run_layers}

-- what a row shows of a text's meaning
pub data Shown : Type 0 where
  gives : List ℕ → List Fault → Shown
  unread : ReadFault → Shown

abbrev pub shown : Result ReadMeaning ReadFault → Shown
shown (Ok m) = gives m.text m.faults
shown (Err fault) = unread fault

abbrev pub lines : List (List ℕ) → List ℕ
lines [] = []
lines (l ∷ ls) = l ++ (10 ∷ lines ls)

abbrev of : List (List ℕ) → Shown
of ls = shown (meaning run_layers 128 (lines ls))

abbrev pub fault : FaultKind → ℕ → ℕ → Fault
fault kind start end = record { kind = kind; range = record { start = start; «end» = end } }

empty_text : of ([]) ≡ gives (lines ([])) ([])
unfolding chars is_utf8 is_xid_start is_xid_continue in_ranges xid_start_ranges xid_continue_ranges encode_utf8
empty_text = refl

named_twice : of (codes "macro_rules! p { ($a:ident $b:tt) => { $b $a } }" ∷ codes "p!{ x y }" ∷ []) ≡ gives (lines (codes "y x" ∷ [])) ([])
unfolding chars is_utf8 is_xid_start is_xid_continue in_ranges xid_start_ranges xid_continue_ranges encode_utf8
named_twice = refl

result_is_searched : of (codes "macro_rules! a { () => { b!{} } }" ∷ codes "macro_rules! b { () => { x } }" ∷ codes "a!{}" ∷ []) ≡ gives (lines (codes "x" ∷ [])) ([])
unfolding chars is_utf8 is_xid_start is_xid_continue in_ranges xid_start_ranges xid_continue_ranges encode_utf8
result_is_searched = refl

call_before_its_definition : of (codes "m!{}" ∷ codes "macro_rules! m { () => { x } }" ∷ []) ≡ gives (lines (codes "m ! { }" ∷ [])) ([])
unfolding chars is_utf8 is_xid_start is_xid_continue in_ranges xid_start_ranges xid_continue_ranges encode_utf8
call_before_its_definition = refl

definition_across_pieces : of (codes "macro_rules! d { () => { macro_rules } }" ∷ codes "d!{}" ∷ codes "! e { () => { x } }" ∷ []) ≡ gives (lines (codes "macro_rules ! e { ( ) => { x } }" ∷ [])) (fault NestedDefinition 41 42 ∷ [])
unfolding chars is_utf8 is_xid_start is_xid_continue in_ranges xid_start_ranges xid_continue_ranges encode_utf8
definition_across_pieces = refl

recursion_ends : of (codes "macro_rules! l { () => { l!{} } }" ∷ codes "l!{}" ∷ []) ≡ gives (lines (codes "l ! { }" ∷ [])) (fault RecursionLimit 34 35 ∷ [])
unfolding chars is_utf8 is_xid_start is_xid_continue in_ranges xid_start_ranges xid_continue_ranges encode_utf8
recursion_ends = refl

broken_definition : of (codes "macro_rules! m { () }" ∷ codes "m!{}" ∷ []) ≡ gives (lines (codes "m ! { }" ∷ [])) (fault BrokenDefinition 13 14 ∷ fault BrokenDefinition 22 23 ∷ [])
unfolding chars is_utf8 is_xid_start is_xid_continue in_ranges xid_start_ranges xid_continue_ranges encode_utf8
broken_definition = refl

argument_is_not_searched_first : of (codes "macro_rules! o { (m!{}) => { x }; (y) => { z } }" ∷ codes "macro_rules! m { () => { y } }" ∷ codes "o!(m!{});" ∷ []) ≡ gives (lines (codes "x ;" ∷ [])) ([])
unfolding chars is_utf8 is_xid_start is_xid_continue in_ranges xid_start_ranges xid_continue_ranges encode_utf8
argument_is_not_searched_first = refl

failed_call_is_not_searched : of (codes "macro_rules! f { (x) => { y } }" ∷ codes "f!(f!(x));" ∷ []) ≡ gives (lines (codes "f ! ( f ! ( x ) ) ;" ∷ [])) (fault CannotExpand 32 33 ∷ [])
unfolding chars is_utf8 is_xid_start is_xid_continue in_ranges xid_start_ranges xid_continue_ranges encode_utf8
failed_call_is_not_searched = refl

groups_are_searched_and_paths_are_no_calls : of (codes "macro_rules! f { () => { y } }" ∷ codes "vec![f!()];" ∷ codes "a::f!();" ∷ []) ≡ gives (lines (codes "vec ! [ y ] ;" ∷ codes "a :: f ! ( ) ;" ∷ [])) ([])
unfolding chars is_utf8 is_xid_start is_xid_continue in_ranges xid_start_ranges xid_continue_ranges encode_utf8
groups_are_searched_and_paths_are_no_calls = refl

group_and_operator : of (codes "macro_rules! s { ($a:tt) => { ($a) x } }" ∷ codes "s!{ + } y;" ∷ []) ≡ gives (lines (codes "( + ) x y ;" ∷ [])) ([])
unfolding chars is_utf8 is_xid_start is_xid_continue in_ranges xid_start_ranges xid_continue_ranges encode_utf8
group_and_operator = refl

no_rule_fits : of (codes "macro_rules! s { (a) => { b } }" ∷ codes "s!{c}" ∷ []) ≡ gives (lines (codes "s ! { c }" ∷ [])) (fault CannotExpand 32 33 ∷ [])
unfolding chars is_utf8 is_xid_start is_xid_continue in_ranges xid_start_ranges xid_continue_ranges encode_utf8
no_rule_fits = refl

slashes_stay_apart : of (codes "macro_rules! m { ($x:tt) => { /$x } }" ∷ codes "m!{/}" ∷ []) ≡ gives (lines (codes "/ /" ∷ [])) ([])
unfolding chars is_utf8 is_xid_start is_xid_continue in_ranges xid_start_ranges xid_continue_ranges encode_utf8
slashes_stay_apart = refl

puncts_are_glued : of (codes "macro_rules! m { ($a:tt) => { x +$a y } }" ∷ codes "m!{=}" ∷ []) ≡ gives (lines (codes "x += y" ∷ [])) ([])
unfolding chars is_utf8 is_xid_start is_xid_continue in_ranges xid_start_ranges xid_continue_ranges encode_utf8
puncts_are_glued = refl

operator_apart : of (codes "x+/* = */=y // z" ∷ []) ≡ gives (lines (codes "x + = y" ∷ [])) ([])
unfolding chars is_utf8 is_xid_start is_xid_continue in_ranges xid_start_ranges xid_continue_ranges encode_utf8
operator_apart = refl

unbound_name : of (codes "macro_rules! m { () => { $y } }" ∷ codes "m!{}" ∷ []) ≡ gives (lines (codes "$ y" ∷ [])) ([])
unfolding chars is_utf8 is_xid_start is_xid_continue in_ranges xid_start_ranges xid_continue_ranges encode_utf8
unbound_name = refl

inner_attribute_is_a_piece : of (codes "#![a]" ∷ codes "macro_rules! e { () => { x } }" ∷ codes "e!{}" ∷ []) ≡ gives (lines (codes "#! [ a ] x" ∷ [])) ([])
unfolding chars is_utf8 is_xid_start is_xid_continue in_ranges xid_start_ranges xid_continue_ranges encode_utf8
inner_attribute_is_a_piece = refl

two_puncts_are_one_tree : of (codes "macro_rules! m { ($a:tt $b:tt) => { $b $a } }" ∷ codes "m!{ ..= x }" ∷ []) ≡ gives (lines (codes "x ..=" ∷ [])) ([])
unfolding chars is_utf8 is_xid_start is_xid_continue in_ranges xid_start_ranges xid_continue_ranges encode_utf8
two_puncts_are_one_tree = refl

left_open : shown (meaning run_layers 128 (codes "fn f( {")) ≡ unread (record { kind = GroupLeftOpen; range = record { start = 6; «end» = 7 } })
unfolding chars is_utf8 is_xid_start is_xid_continue in_ranges xid_start_ranges xid_continue_ranges encode_utf8
left_open = refl

closer : shown (meaning run_layers 128 (codes "(]")) ≡ unread (record { kind = CloserDoesNotFit; range = record { start = 1; «end» = 2 } })
unfolding chars is_utf8 is_xid_start is_xid_continue in_ranges xid_start_ranges xid_continue_ranges encode_utf8
closer = refl

bad : shown (meaning run_layers 128 (codes "x \"ab")) ≡ unread (record { kind = BadToken; range = record { start = 2; «end» = 5 } })
unfolding chars is_utf8 is_xid_start is_xid_continue in_ranges xid_start_ranges xid_continue_ranges encode_utf8
bad = refl

first_of_two_faults : shown (meaning run_layers 128 (codes ") \"")) ≡ unread (record { kind = CloserDoesNotFit; range = record { start = 0; «end» = 1 } })
unfolding chars is_utf8 is_xid_start is_xid_continue in_ranges xid_start_ranges xid_continue_ranges encode_utf8
first_of_two_faults = refl

at_depth_zero : shown (meaning run_layers 0 (lines (codes "macro_rules! s { (a) => { b } }" ∷ codes "s!{c}" ∷ []))) ≡ gives (lines (codes "s ! { c }" ∷ [])) (fault RecursionLimit 32 33 ∷ [])
unfolding chars is_utf8 is_xid_start is_xid_continue in_ranges xid_start_ranges xid_continue_ranges encode_utf8
at_depth_zero = refl
