-- Words for options, and texts with conditions that cannot be read: worked examples.
use Rattle.std.proofs.Common.{◌≡◌, ℕ, Bool, true, false, List, [], ◌∷◌, Option, Some, None, codes, map, option_map, refl}
use Rattle.std.specs.Char.{encode_utf8}
use Rattle.std.specs.Str.{chars, is_utf8}
use Rattle.ucd_derived.specs.Binary.{is_xid_start, is_xid_continue}
use Rattle.ucd_derived.specs.XidContinueRanges.{xid_continue_ranges}
use Rattle.ucd_derived.specs.XidStartRanges.{xid_start_ranges}
use Rattle.ucd_table.specs.Rows.{in_ranges}
use Rattle.expander.specs.NamedOptions.{no_options, with_named}
use Rattle.filgordd.specs.Warnings.{warned_text}

-- whether this option is set once these words are read
abbrev is_set : List ℕ → Option (List ℕ) → List (List ℕ) → Option Bool
is_set name value words = option_map (λ o. o name value) (with_named no_options words)

two_words : is_set (codes "b") (Some (codes "c")) (codes "a" ∷ codes "b=\"c\"" ∷ []) ≡ Some true
unfolding chars is_utf8 is_xid_start is_xid_continue in_ranges xid_start_ranges xid_continue_ranges encode_utf8
two_words = refl

another_value : is_set (codes "b") None (codes "a" ∷ codes "b=\"c\"" ∷ []) ≡ Some false
unfolding chars is_utf8 is_xid_start is_xid_continue in_ranges xid_start_ranges xid_continue_ranges encode_utf8
another_value = refl

a_wrong_word : is_set (codes "a") None (codes "a" ∷ codes "a b" ∷ []) ≡ None
unfolding chars is_utf8 is_xid_start is_xid_continue in_ranges xid_start_ranges xid_continue_ranges encode_utf8
a_wrong_word = refl

-- where the attributes begin that a warning is given for, where no option is set
abbrev starts : List ℕ → List ℕ
starts text = map (λ s. s.range.start) (warned_text (Some no_options) text)

at_the_top : starts (codes "#[cfg(not(a, b))] fn f() {} #[cfg(c)] #[cfg(a::b)] fn g() {}") ≡ 2 ∷ 40 ∷ []
unfolding chars is_utf8 is_xid_start is_xid_continue in_ranges xid_start_ranges xid_continue_ranges encode_utf8
at_the_top = refl

in_lists : starts (codes "mod a { impl B { #[cfg_attr(c = 1, d)] fn f() { if !x { #[cfg] g(); } } } }") ≡ 19 ∷ 58 ∷ []
unfolding chars is_utf8 is_xid_start is_xid_continue in_ranges xid_start_ranges xid_continue_ranges encode_utf8
in_lists = refl

not_in_definitions : starts (codes "macro_rules! m { ($c:tt) => { #[cfg $c] fn f() {} } }") ≡ []
unfolding chars is_utf8 is_xid_start is_xid_continue in_ranges xid_start_ranges xid_continue_ranges encode_utf8
not_in_definitions = refl

not_in_arguments : starts (codes "u!{ #[cfg()] fn f() {} }") ≡ []
unfolding chars is_utf8 is_xid_start is_xid_continue in_ranges xid_start_ranges xid_continue_ranges encode_utf8
not_in_arguments = refl

-- where the names of definitions stand that a warning is given for, without options
abbrev repeats : List ℕ → List ℕ
repeats text = map (λ s. s.range.start) (warned_text None text)

of_one_name : repeats (codes "#[cfg(a)] macro_rules! m {} #[cfg(not(a))] macro_rules! m {}") ≡ 56 ∷ []
unfolding chars is_utf8 is_xid_start is_xid_continue in_ranges xid_start_ranges xid_continue_ranges encode_utf8
of_one_name = refl

one_without_a_condition : repeats (codes "#[cfg(a)] macro_rules! m {} macro_rules! m {}") ≡ []
unfolding chars is_utf8 is_xid_start is_xid_continue in_ranges xid_start_ranges xid_continue_ranges encode_utf8
one_without_a_condition = refl

of_two_names : repeats (codes "#[cfg(a)] macro_rules! m {} #[cfg(b)] macro_rules! n {}") ≡ []
unfolding chars is_utf8 is_xid_start is_xid_continue in_ranges xid_start_ranges xid_continue_ranges encode_utf8
of_two_names = refl

in_two_lists : repeats (codes "#[cfg(a)] macro_rules! m {} mod b { #[cfg(a)] macro_rules! m {} #[cfg(b)] macro_rules! m {} }") ≡ 87 ∷ []
unfolding chars is_utf8 is_xid_start is_xid_continue in_ranges xid_start_ranges xid_continue_ranges encode_utf8
in_two_lists = refl
