-- Worked examples of the first line of a script, by computation.
use Rattle.std.specs.Prelude.{◌≡◌, ℕ, Option, Some, None, codes, encode_utf8_all, refl}
use Rattle.std.specs.Str.{chars}
use Rattle.ucd_derived.specs.Binary.{is_xid_start, is_xid_continue}
use Rattle.ucd_derived.specs.XidContinueRanges.{xid_continue_ranges}
use Rattle.ucd_derived.specs.XidStartRanges.{xid_start_ranges}
use Rattle.ucd_table.specs.Rows.{in_ranges}
use lib.Utf8.{encode}
use Prim.Native.String.{String}
use Rattle.rustc_lexer.specs.Shebang.{shebang}

-- the answer for the text that is written
abbrev of : String → Option ℕ
of w = shebang (encode_utf8_all (codes w))

script : of "#!a\nb" ≡ Some 3
unfolding encode chars is_xid_start is_xid_continue in_ranges xid_start_ranges xid_continue_ranges
script = refl

attribute : of "#![a]" ≡ None
unfolding encode chars is_xid_start is_xid_continue in_ranges xid_start_ranges xid_continue_ranges
attribute = refl

-- white space and plain comments stand between `#!` and `[`
spaced_attribute : of "#! [a]" ≡ None
unfolding encode chars is_xid_start is_xid_continue in_ranges xid_start_ranges xid_continue_ranges
spaced_attribute = refl

commented_attribute : of "#!/* c */[a" ≡ None
unfolding encode chars is_xid_start is_xid_continue in_ranges xid_start_ranges xid_continue_ranges
commented_attribute = refl

next_line_attribute : of "#!// c\n\n [a]" ≡ None
unfolding encode chars is_xid_start is_xid_continue in_ranges xid_start_ranges xid_continue_ranges
next_line_attribute = refl

-- a doc comment is no plain comment
doc_comment : of "#!/// x\n[a]" ≡ Some 7
unfolding encode chars is_xid_start is_xid_continue in_ranges xid_start_ranges xid_continue_ranges
doc_comment = refl

doc_block : of "#!/*! x */[a]" ≡ Some 13
unfolding encode chars is_xid_start is_xid_continue in_ranges xid_start_ranges xid_continue_ranges
doc_block = refl

no_mark : of "a" ≡ None
unfolding encode chars is_xid_start is_xid_continue in_ranges xid_start_ranges xid_continue_ranges
no_mark = refl

half_a_mark : of "#" ≡ None
unfolding encode chars is_xid_start is_xid_continue in_ranges xid_start_ranges xid_continue_ranges
half_a_mark = refl

mark_further_on : of " #!a" ≡ None
unfolding encode chars is_xid_start is_xid_continue in_ranges xid_start_ranges xid_continue_ranges
mark_further_on = refl

mark_alone : of "#!" ≡ Some 2
unfolding encode chars is_xid_start is_xid_continue in_ranges xid_start_ranges xid_continue_ranges
mark_alone = refl

empty_line : of "#!\n" ≡ Some 2
unfolding encode chars is_xid_start is_xid_continue in_ranges xid_start_ranges xid_continue_ranges
empty_line = refl

-- a carriage return belongs to the line's end only right before a line feed
carriage_return : of "#!a\r\nb" ≡ Some 3
unfolding encode chars is_xid_start is_xid_continue in_ranges xid_start_ranges xid_continue_ranges
carriage_return = refl

last_carriage_return : of "#!a\r" ≡ Some 4
unfolding encode chars is_xid_start is_xid_continue in_ranges xid_start_ranges xid_continue_ranges
last_carriage_return = refl

two_carriage_returns : of "#!a\r\r\nb" ≡ Some 4
unfolding encode chars is_xid_start is_xid_continue in_ranges xid_start_ranges xid_continue_ranges
two_carriage_returns = refl

-- a letter of two bytes
two_bytes : of "#!/é\nb" ≡ Some 5
unfolding encode chars is_xid_start is_xid_continue in_ranges xid_start_ranges xid_continue_ranges
two_bytes = refl
