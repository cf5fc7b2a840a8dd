-- Worked examples, by computation: the group `( a 1u8 ; a )` as bytes and a table.
use Rattle.std.proofs.Common.{◌≡◌, ℕ, ◌+◌, List, [], ◌∷◌, ◌++◌, length, take, refl, arith, codes, Some, None}
use Rattle.tt_data.specs.declared.span.Span.{Span}
use Rattle.tt_data.specs.declared.span.SyntaxContext.TheVariants.{Written, Made}
use Rattle.tt_data.specs.declared.delimiter.Delimiter.{Delimiter}
use Rattle.tt_data.specs.declared.delimiter.DelimiterKind.TheVariants.{Parenthesis}
use Rattle.tt_data.specs.declared.leaf.LitKind.TheVariants.{Integer, StrGuarded}
use Rattle.tt_data.specs.declared.leaf.Leaf.TheVariants as as_leaf
use Rattle.tt_data.specs.declared.leaf.Spacing.TheVariants.{Alone, Joint}
use Rattle.tt_data.specs.declared.tree.TokenTree.{TokenTree}
use Rattle.tt_data.specs.declared.tree.TokenTree.TheVariants as token
use Rattle.tt_data.specs.Forest.{head_of}
use Rattle.tt_data.specs.Literals.{literal_of}
use Rattle.tt_data.specs.Names.{ident_of}
use Rattle.token_bytes.specs.Records.{BeginsWithToken, first_token, token_bytes, word}
use Rattle.token_bytes.specs.Packing.{number_of, records, table_after, tokens_in}
use Rattle.token_bytes.specs.Relabelled.{renamed_span, renamed_token}
use Rattle.token_bytes.specs.Runs.{AreDecoded, past}
use Rattle.token_bytes.specs.Numbers.{known_number}
use Rattle.token_bytes.specs.Marks.{mark_of, place_of, record_size, texts_in, without_head}

abbrev at : ℕ → Span
at n = record { range = record { start = n; «end» = n + 1 }; anchor = 0; ctx = Written }

abbrev name : List ℕ → ℕ → TokenTree
name text n = token.Leaf (as_leaf.Ident (ident_of text (at n)))

abbrev one : TokenTree
one = token.Leaf (as_leaf.Literal (literal_of (codes "1") (codes "u8") Integer (at 2)))

abbrev semicolon : TokenTree
semicolon = token.Leaf (as_leaf.Punct (record { char = 59; spacing = Alone; span = at 5 }))

abbrev brackets : Delimiter
brackets = record { open_span = at 0; close_span = at 7; kind = Parenthesis }

abbrev group : TokenTree
group = head_of brackets 4

abbrev flat : List TokenTree
flat = group ∷ name (codes "a") 1 ∷ one ∷ semicolon ∷ name (codes "a") 6 ∷ []

-- a group takes 31 bytes, a punct and an identifier 18, a literal 23
group_size : length (token_bytes 0 group) ≡ 31
group_size = refl

punct_size : length (token_bytes 0 semicolon) ≡ 18
punct_size = refl

name_size : length (token_bytes 0 (name (codes "a") 6)) ≡ 18
name_size = refl

literal_size : length (token_bytes 0 one) ≡ 23
literal_size = refl

size_of_all : length (records [] flat) ≡ 31 + 18 + 23 + 18 + 18
size_of_all = refl

-- the record of the second `a`: the tag of a name that is not raw, its span, and number 0
name_bytes :
    token_bytes 0 (name (codes "a") 6)
    ≡ 7 ∷ 6 ∷ 0 ∷ 0 ∷ 0 ∷ 7 ∷ 0 ∷ 0 ∷ 0 ∷ 0 ∷ 0 ∷ 0 ∷ 0 ∷ 0 ∷ 0 ∷ 0 ∷ 0 ∷ 0 ∷ []
name_bytes = refl

-- 258 is 2 and 1 times 256
least_first : word 258 ≡ 2 ∷ 1 ∷ 0 ∷ 0 ∷ []
least_first = refl

-- each text once, a literal's with its suffix
table : table_after [] flat ≡ codes "a" ∷ codes "1u8" ∷ []
table = refl

-- the second `a` has the number of the first, and `1u8` the next
abbrev numbered : List ℕ
numbered = token_bytes 0 group ++ (token_bytes 0 (name (codes "a") 1) ++ (token_bytes 1 one ++ (token_bytes 0 semicolon ++ token_bytes 0 (name (codes "a") 6))))

numbers : records [] flat ≡ numbered
numbers = refl

new_number : number_of (codes "b") (codes "a" ∷ codes "1u8" ∷ []) ≡ 2
new_number = refl

read_back : tokens_in 5 (table_after [] flat) (records [] flat) ≡ flat
read_back = refl

-- a table in another order, or with a text twice, is not the tree's
other_order : table_after [] flat ≡ codes "1u8" ∷ codes "a" ∷ [] → ⊥
other_order e = cc

text_twice : table_after [] flat ≡ codes "a" ∷ codes "1u8" ∷ codes "a" ∷ [] → ⊥
text_twice e = cc

-- the index numbers `a` 0 and `1u8` 1, and has no `b`
known : known_number (codes "1u8") (codes "a" ∷ codes "1u8" ∷ []) ≡ Some 1
known = refl

unknown : known_number (codes "b") (codes "a" ∷ codes "1u8" ∷ []) ≡ None
unknown = refl

-- the group's head and the first `a` take 49 bytes and one text
first_two : mark_of (group ∷ name (codes "a") 1 ∷ []) ≡ record { count = 2; bytes = 49; texts = 1 }
first_two = refl

-- the place there, in a run, counts no text
place_of_two : place_of (group ∷ name (codes "a") 1 ∷ []) ≡ record { count = 2; bytes = 49 }
place_of_two = refl

-- without the group's head it is 31 bytes nearer
without_group : without_head 0 (mark_of (group ∷ name (codes "a") 1 ∷ [])) ≡ mark_of (name (codes "a") 1 ∷ [])
without_group = refl

-- a token determines the size of its record
sizes : record_size group + (record_size one + record_size semicolon) ≡ 31 + (23 + 18)
sizes = refl

-- the record of `1u8` needs two texts
texts_decoded : texts_in (token_bytes 1 one) ≡ 2
texts_decoded = refl

-- a guarded string keeps its hashes
abbrev guarded : TokenTree
guarded = token.Leaf (as_leaf.Literal (literal_of (codes "x") [] (StrGuarded 2) (at 0)))

guarded_back : first_token (codes "x" ∷ []) (token_bytes 0 guarded) ≡ guarded
guarded_back = refl

-- a span of a token that was synthesized differs from that of one that was written
abbrev made : TokenTree
made = token.Leaf (as_leaf.Punct (record { char = 59; spacing = Joint; span = record (at 5) { ctx = Made } }))

made_back : first_token [] (token_bytes 0 made) ≡ made
made_back = refl

-- a record that is cut decodes to nothing, and no byte is no record
cut : BeginsWithToken [] (4 ∷ 1 ∷ 0 ∷ []) → ⊥
cut b = omega (arith, b.whole)

nothing : BeginsWithToken [] [] → ⊥
nothing b = omega (arith, b.whole)

-- a run of five records goes up to the end, and its first two are those of the group's head and the first `a`
run_of_all : past 5 (records [] flat) ≡ []
run_of_all = refl

run_of_two : tokens_in 2 (table_after [] flat) (records [] flat) ≡ group ∷ name (codes "a") 1 ∷ []
run_of_two = refl

-- a record that is cut is no run
no_run : AreDecoded 1 [] (4 ∷ 1 ∷ 0 ∷ []) → ⊥
no_run decoded = omega (arith, decoded.0.whole)

-- the anchor of a punct's span is replaced in its record
abbrev moved : ℕ → ℕ
moved a = a + 7

renamed : renamed_span moved 1 (token_bytes 0 semicolon) ≡ token_bytes 0 (renamed_token moved semicolon)
renamed = refl

-- a list that had more, and was cut back, has the bytes of the list alone
cut_again : take (length (records [] flat)) (records [] (flat ++ name (codes "b") 8 ∷ [])) ≡ records [] flat
cut_again = refl

texts_again : take (length (table_after [] flat)) (table_after [] (flat ++ name (codes "b") 8 ∷ [])) ≡ table_after [] flat
texts_again = refl
