-- Worked examples, by computation: how many tokens an edit keeps.
use Rattle.std.specs.Prelude.{◌≡◌, ℕ, [], ◌∷◌, codes, refl}
use Rattle.std.specs.Str.{chars}
use Rattle.ucd_derived.specs.Binary.{is_xid_start, is_xid_continue}
use Rattle.ucd_derived.specs.XidContinueRanges.{xid_continue_ranges}
use Rattle.ucd_derived.specs.XidStartRanges.{xid_start_ranges}
use Rattle.ucd_table.specs.Rows.{in_ranges}
use Rattle.rustc_lexer.specs.Edit.{kept}
use Rattle.rustc_lexer.specs.declared.relex.Kept.{Kept}

-- so many tokens in front, lexed again, and behind
abbrev counts : ℕ → ℕ → ℕ → Kept
counts front lexed back = record { front = front; lexed = lexed; back = back }

-- behind an `r` quotes begin a raw string
quotes_behind_a_letter : kept (codes "r ;") 1 1 (codes "\"a\"") ≡ counts 0 1 2
unfolding chars is_xid_start is_xid_continue in_ranges xid_start_ranges xid_continue_ranges
quotes_behind_a_letter = refl

-- the token before the edit and the one before that are too near
nothing_put_in : kept (codes "a;b") 2 2 [] ≡ counts 0 2 1
unfolding chars is_xid_start is_xid_continue in_ranges xid_start_ranges xid_continue_ranges
nothing_put_in = refl

-- a token that ends two characters before the edit stays
last_word : kept (codes "a; b c") 5 6 (codes "dd") ≡ counts 3 3 0
unfolding chars is_xid_start is_xid_continue in_ranges xid_start_ranges xid_continue_ranges
last_word = refl

-- the place where lexing begins is a moved boundary already
nothing_at_the_front : kept (codes "a;b") 0 0 [] ≡ counts 0 0 3
unfolding chars is_xid_start is_xid_continue in_ranges xid_start_ranges xid_continue_ranges
nothing_at_the_front = refl

words_at_the_front : kept (codes "b;") 0 0 (codes "a ") ≡ counts 0 2 2
unfolding chars is_xid_start is_xid_continue in_ranges xid_start_ranges xid_continue_ranges
words_at_the_front = refl

-- the first old boundary at or past the edit is no new one
longer_at_the_front : kept (codes "b;") 0 0 (codes "a") ≡ counts 0 1 1
unfolding chars is_xid_start is_xid_continue in_ranges xid_start_ranges xid_continue_ranges
longer_at_the_front = refl

words_at_the_end : kept (codes "a; b") 4 4 (codes " c") ≡ counts 2 4 0
unfolding chars is_xid_start is_xid_continue in_ranges xid_start_ranges xid_continue_ranges
words_at_the_end = refl

nothing_at_the_end : kept (codes "a; b") 4 4 [] ≡ counts 2 2 0
unfolding chars is_xid_start is_xid_continue in_ranges xid_start_ranges xid_continue_ranges
nothing_at_the_end = refl

all_taken_out : kept (codes "a b") 0 3 [] ≡ counts 0 0 0
unfolding chars is_xid_start is_xid_continue in_ranges xid_start_ranges xid_continue_ranges
all_taken_out = refl

first_text : kept [] 0 0 (codes "a") ≡ counts 0 1 0
unfolding chars is_xid_start is_xid_continue in_ranges xid_start_ranges xid_continue_ranges
first_text = refl

inside_a_comment : kept (codes "a /* b */ c") 5 6 (codes "dd") ≡ counts 2 1 2
unfolding chars is_xid_start is_xid_continue in_ranges xid_start_ranges xid_continue_ranges
inside_a_comment = refl

-- a comment without its end takes what follows
end_of_a_comment : kept (codes "a; /* b */ c") 8 10 [] ≡ counts 3 1 0
unfolding chars is_xid_start is_xid_continue in_ranges xid_start_ranges xid_continue_ranges
end_of_a_comment = refl

escape_in_a_string : kept (codes "a; \"b\" c") 4 5 (codes "\\") ≡ counts 2 2 0
unfolding chars is_xid_start is_xid_continue in_ranges xid_start_ranges xid_continue_ranges
escape_in_a_string = refl

quote_behind_a_string : kept (codes "a \"b\" c") 4 4 (codes "\"") ≡ counts 2 2 0
unfolding chars is_xid_start is_xid_continue in_ranges xid_start_ranges xid_continue_ranges
quote_behind_a_string = refl

inside_a_raw_string : kept (codes "a; r#\"b\"# c") 6 7 (codes "b\"b") ≡ counts 3 1 2
unfolding chars is_xid_start is_xid_continue in_ranges xid_start_ranges xid_continue_ranges
inside_a_raw_string = refl

line_end_taken_out : kept (codes "a; // b\nc d") 7 8 (codes " ") ≡ counts 3 1 0
unfolding chars is_xid_start is_xid_continue in_ranges xid_start_ranges xid_continue_ranges
line_end_taken_out = refl

line_end_put_in : kept (codes "a; // b c\nd") 8 8 (codes "\n") ≡ counts 3 3 2
unfolding chars is_xid_start is_xid_continue in_ranges xid_start_ranges xid_continue_ranges
line_end_put_in = refl

words_joined : kept (codes "a bc de f") 4 5 [] ≡ counts 2 1 2
unfolding chars is_xid_start is_xid_continue in_ranges xid_start_ranges xid_continue_ranges
words_joined = refl

-- characters count between a token and the edit, not bytes
letter_of_two_bytes : kept (0x61 ∷ 0x20 ∷ 0xc3 ∷ 0xa9 ∷ 0x20 ∷ 0x78 ∷ []) 4 4 [] ≡ counts 1 2 2
unfolding chars is_xid_start is_xid_continue in_ranges xid_start_ranges xid_continue_ranges
letter_of_two_bytes = refl

token_of_two_bytes : kept (0xc3 ∷ 0xa9 ∷ 0x3b ∷ 0x78 ∷ []) 4 4 [] ≡ counts 1 2 0
unfolding chars is_xid_start is_xid_continue in_ranges xid_start_ranges xid_continue_ranges
token_of_two_bytes = refl

-- a run of hashes that ends at the edit is lexed again from its first hash on
hashes_become_a_string : kept (codes ";### x") 4 4 (codes "\"a\"###") ≡ counts 1 1 2
unfolding chars is_xid_start is_xid_continue in_ranges xid_start_ranges xid_continue_ranges
hashes_become_a_string = refl

-- the hashes before the edit count, whether or not more follow
run_cut_in_its_middle : kept (codes ";####") 3 3 (codes "\"a\"") ≡ counts 1 1 0
unfolding chars is_xid_start is_xid_continue in_ranges xid_start_ranges xid_continue_ranges
run_cut_in_its_middle = refl

-- and so is a run that ends one character before the edit
run_one_before : kept (codes ";##x y") 4 4 (codes "z") ≡ counts 1 3 2
unfolding chars is_xid_start is_xid_continue in_ranges xid_start_ranges xid_continue_ranges
run_one_before = refl

-- a run that ends two characters before it is kept
run_two_before : kept (codes "##ab c") 4 4 (codes "d") ≡ counts 2 1 2
unfolding chars is_xid_start is_xid_continue in_ranges xid_start_ranges xid_continue_ranges
run_two_before = refl

-- without its first quote a guarded string is hashes, and its second begins a string
string_becomes_hashes : kept (codes ";##\"a\"## x") 3 4 [] ≡ counts 1 4 0
unfolding chars is_xid_start is_xid_continue in_ranges xid_start_ranges xid_continue_ranges
string_becomes_hashes = refl

-- one hash is too near already
one_hash : kept (codes "; # x") 3 3 (codes "\"\"#") ≡ counts 1 2 2
unfolding chars is_xid_start is_xid_continue in_ranges xid_start_ranges xid_continue_ranges
one_hash = refl
