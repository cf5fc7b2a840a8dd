-- Worked examples of macros, by computation: the meaning of texts, by the small grammar and in
-- edition 2024.
use Rattle.std.proofs.Common.{◌≡◌, ℕ, List, [], ◌∷◌, refl}
use Rattle.std.specs.Prelude.{codes}
use Rattle.std.specs.Char.{encode_utf8}
use Rattle.std.specs.Fmt.{digits}
use Rattle.std.specs.Str.{chars, is_utf8}
use Rattle.tt_data.specs.declared.edition.Edition.TheVariants.{Edition2021}
use Rattle.ucd_derived.specs.Binary.{is_xid_start, is_xid_continue}
use Rattle.ucd_derived.specs.XidContinueRanges.{xid_continue_ranges}
use Rattle.ucd_derived.specs.XidStartRanges.{xid_start_ranges}
use Rattle.ucd_table.specs.Rows.{in_ranges}
use Rattle.small_grammar.specs.Answer.{answer}
use Rattle.small_grammar.specs.SmallGrammar.{lifetime, arrow, arg, generics, seg, tpath, bound, type_rule, path, post, atom, operand, binop, expr, num, pat_rule, pat_top, meta_item, vis}
use Rattle.small_grammar.specs.Tokens.{token_at}
use Rattle.expander_model.specs.declared.fault.FaultKind.TheVariants.{CannotExpand}
use Rattle.expander_model.specs.Dialects.{top_level}
use Rattle.expander_session.specs.Layered.{layers}
use Rattle.expander_model.specs.Meaning.{meaning}
use Rattle.expander_run.specs.Runs.{run_layers}
use Rattle.expander.proofs.Rows.{Shown, gives, shown, lines, fault}

abbrev of : List (List ℕ) → Shown
of ls = shown (meaning run_layers 128 (lines ls))

twice_a_literal : of (codes "macro_rules! t { ($x:literal) => { $x + $x } }" ∷ codes "let y = t!(3);" ∷ [])
    ≡ gives (lines (codes "let y = 3 + 3 ;" ∷ [])) []
unfolding chars is_utf8 is_xid_start is_xid_continue in_ranges xid_start_ranges xid_continue_ranges encode_utf8
twice_a_literal = refl

twice_an_expression : of (codes "macro_rules! t { ($x:expr) => { $x + $x } }" ∷ codes "let y = t!(1 + 2);" ∷ [])
    ≡ gives (lines (codes "let y = ( 1 + 2 ) + ( 1 + 2 ) ;" ∷ [])) []
unfolding chars is_utf8 is_xid_start is_xid_continue in_ranges xid_start_ranges xid_continue_ranges encode_utf8 lifetime arrow arg generics seg tpath bound type_rule path post atom operand binop expr num pat_rule pat_top meta_item vis token_at
twice_an_expression = refl

repeated : of (codes "macro_rules! r { ($($x:ident),* $(,)?) => { $($x;)* } }" ∷ codes "r!{a, b,}" ∷ [])
    ≡ gives (lines (codes "a ;" ∷ codes "b ;" ∷ [])) []
unfolding chars is_utf8 is_xid_start is_xid_continue in_ranges xid_start_ranges xid_continue_ranges encode_utf8
repeated = refl

a_visibility : of (codes "macro_rules! v { ($v:vis fn $n:ident) => { $v fn $n; } }" ∷ codes "v!{ fn a }" ∷ codes "v!{ pub fn b }" ∷ [])
    ≡ gives (lines (codes "fn a ;" ∷ codes "pub fn b ;" ∷ [])) []
unfolding chars is_utf8 is_xid_start is_xid_continue in_ranges xid_start_ranges xid_continue_ranges encode_utf8 lifetime arrow arg generics seg tpath bound type_rule path post atom operand binop expr num pat_rule pat_top meta_item vis token_at
a_visibility = refl

-- two readings of nothing
two_readings : of (codes "macro_rules! v { ($($v:vis),*) => { x } }" ∷ codes "v!{}" ∷ [])
    ≡ gives (lines (codes "v ! { }" ∷ [])) (fault CannotExpand 42 43 ∷ [])
unfolding chars is_utf8 is_xid_start is_xid_continue in_ranges xid_start_ranges xid_continue_ranges encode_utf8 lifetime arrow arg generics seg tpath bound type_rule path post atom operand binop expr num pat_rule pat_top meta_item vis token_at
two_readings = refl

counted_and_joined : of (codes "macro_rules! c { ($($x:ident),*) => { ${count($x)} $( ${concat(get_, $x)} ${index()} )* } }" ∷ codes "c!{a, b}" ∷ [])
    ≡ gives (lines (codes "2 get_a 0 get_b 1" ∷ [])) []
unfolding chars is_utf8 is_xid_start is_xid_continue in_ranges xid_start_ranges xid_continue_ranges encode_utf8 digits
counted_and_joined = refl

an_expression_of_2024 : of (codes "macro_rules! e { ($e:expr) => { $e; } }" ∷ codes "e!{ _ }" ∷ [])
    ≡ gives (lines (codes "_ ;" ∷ [])) []
unfolding chars is_utf8 is_xid_start is_xid_continue in_ranges xid_start_ranges xid_continue_ranges encode_utf8 lifetime arrow arg generics seg tpath bound type_rule path post atom operand binop expr num pat_rule pat_top meta_item vis token_at
an_expression_of_2024 = refl

-- and in an edition before
abbrev before : List (List ℕ) → Shown
before ls = shown (meaning (layers answer Edition2021 top_level) 128 (lines ls))

no_expression_before : before (codes "macro_rules! e { ($e:expr) => { $e; } }" ∷ codes "e!{ _ }" ∷ [])
    ≡ gives (lines (codes "e ! { _ }" ∷ [])) (fault CannotExpand 40 41 ∷ [])
unfolding chars is_utf8 is_xid_start is_xid_continue in_ranges xid_start_ranges xid_continue_ranges encode_utf8 lifetime arrow arg generics seg tpath bound type_rule path post atom operand binop expr num pat_rule pat_top meta_item vis token_at
no_expression_before = refl
