-- Records and a table give a list of tokens back.
use Rattle.std.proofs.Common.{rules, if◌then◌else◌, ◌≡◌, ◌∙◌, ap, sym, ℕ, ◌*◌, ◌≤◌, List, [], ◌∷◌, ◌++◌, length, drop, refl, arith, append_assoc, append-nil, length-append, slice_index_or, nat_eq, Option, Some, None, Bool, true, false}
use Rattle.std.proofs.Math.Seq.{drop-append_seam}
use Rattle.std.specs.Cmp.Lexicographic.{pointwise}
use Rattle.tt_data.specs.declared.tree.TokenTree.{TokenTree}
use Rattle.token_bytes.specs.Records.{first_size, first_token, text_of}
use Rattle.token_bytes.specs.Packing.{number_in, number_of, record_of, records, table_after, tokens_in, with_text, with_token}
use Rattle.token_bytes.proofs.RecordLemmas.{HasText, first_size-bytes, first_token-bytes, length-bytes}

texts : (a b : List ℕ) → pointwise nat_eq a b ≡ true → a ≡ b
texts a b e = search rules

at-number-by : (same : Bool) (text s : List ℕ) (more others : List (List ℕ)) → pointwise nat_eq text s ≡ same
    → slice_index_or (with_text text more ++ others) (number_of text more) [] ≡ text
    → slice_index_or (with_text text (s ∷ more) ++ others) (number_of text (s ∷ more)) [] ≡ text
at-number-by true text s more others e behind = rw e (sym (texts text s e))
at-number-by false text s more others e behind = rw e behind

-- a text is in the table at its number
pub at-number : (text : List ℕ) (table others : List (List ℕ)) → slice_index_or (with_text text table ++ others) (number_of text table) [] ≡ text
at-number text [] others = refl
at-number text (s ∷ more) others = at-number-by (pointwise nat_eq text s) text s more others refl (at-number text more others)

-- so a token's text is in the table after it
pub has_text : (found : Option (List ℕ)) (table others : List (List ℕ)) → HasText (number_in found table) (with_token found table ++ others) found
has_text None table others = tt
has_text (Some text) table others = at-number text table others

-- what a text adds to a table
abbrev new_text : List ℕ → List (List ℕ) → List (List ℕ)
new_text text [] = text ∷ []
new_text text (s ∷ more) = if pointwise nat_eq text s then [] else new_text text more

with_text-append-by : (same : Bool) (text s : List ℕ) (more : List (List ℕ)) → pointwise nat_eq text s ≡ same
    → with_text text more ≡ more ++ new_text text more
    → with_text text (s ∷ more) ≡ (s ∷ more) ++ new_text text (s ∷ more)
with_text-append-by true text s more e behind = rw e (ap (λ l. s ∷ l) (sym (append-nil more)))
with_text-append-by false text s more e behind = rw e (ap (λ l. s ∷ l) behind)

with_text-append : (text : List ℕ) (table : List (List ℕ)) → with_text text table ≡ table ++ new_text text table
with_text-append text [] = refl
with_text-append text (s ∷ more) = with_text-append-by (pointwise nat_eq text s) text s more refl (with_text-append text more)

abbrev new_texts : Option (List ℕ) → List (List ℕ) → List (List ℕ)
new_texts None table = []
new_texts (Some text) table = new_text text table

pub with_token-append : (found : Option (List ℕ)) (table : List (List ℕ)) → with_token found table ≡ table ++ new_texts found table
with_token-append None table = sym (append-nil table)
with_token-append (Some text) table = with_text-append text table

-- what tokens add to a table
abbrev pub added : List (List ℕ) → List TokenTree → List (List ℕ)
added table [] = []
added table (t ∷ more) = new_texts (text_of t) table ++ added (with_token (text_of t) table) more

pub table_after-added : (table : List (List ℕ)) (ts : List TokenTree) → table_after table ts ≡ table ++ added table ts
table_after-added table [] = sym (append-nil table)
table_after-added table (t ∷ more) =
    let next : List (List ℕ) = with_token (text_of t) table in
    table_after-added next more
    ∙ ap (λ l. l ++ added next more) (with_token-append (text_of t) table)
    ∙ append_assoc table (new_texts (text_of t) table) (added next more)

-- the records of one list after another, the table going on
pub records-append : (table : List (List ℕ)) (a b : List TokenTree) → records table (a ++ b) ≡ records table a ++ records (table_after table a) b
records-append table [] b = refl
records-append table (t ∷ more) b =
    let next : List (List ℕ) = with_token (text_of t) table in
    ap (λ bytes. record_of table t ++ bytes) (records-append next more b)
    ∙ sym (append_assoc (record_of table t) (records next more) (records (table_after next more) b))

pub table_after-append : (table : List (List ℕ)) (a b : List TokenTree) → table_after table (a ++ b) ≡ table_after (table_after table a) b
table_after-append table [] b = refl
table_after-append table (t ∷ more) b = table_after-append (with_token (text_of t) table) more b

pub length-records : (table : List (List ℕ)) (ts : List TokenTree) → length (records table ts) ≤ 31 * length ts
length-records table [] = omega arith
length-records table (t ∷ more) =
    let next : List (List ℕ) = with_token (text_of t) table in
    omega (arith, length-append (record_of table t) (records next more), length-bytes (number_in (text_of t) table) t, length-records next more)

-- the token of a record, whatever follows the record and the table
pub first_token-record : (table others : List (List ℕ)) (t : TokenTree) (more : List ℕ)
    → first_token (with_token (text_of t) table ++ others) (record_of table t ++ more) ≡ t
first_token-record table others t more =
    first_token-bytes (with_token (text_of t) table ++ others) (number_in (text_of t) table) t more (has_text (text_of t) table others)

pub past-record : (table : List (List ℕ)) (t : TokenTree) (more : List ℕ) → drop (first_size (record_of table t ++ more)) (record_of table t ++ more) ≡ more
past-record table t more = rw (first_size-bytes (number_in (text_of t) table) t more) (drop-append_seam (record_of table t) more)

-- the records of a list give it back, whatever follows them and their table
pub tokens_in-records : (table others : List (List ℕ)) (ts : List TokenTree) (more : List ℕ)
    → tokens_in (length ts) (table_after table ts ++ others) (records table ts ++ more) ≡ ts
tokens_in-records table others [] more = refl
tokens_in-records table others (t ∷ rest) more =
    let next : List (List ℕ) = with_token (text_of t) table in
    let whole : table_after next rest ++ others ≡ next ++ (added next rest ++ others) =
    ap (λ l. l ++ others) (table_after-added next rest) ∙ append_assoc next (added next rest) others in
    let bytes : (record_of table t ++ records next rest) ++ more ≡ record_of table t ++ (records next rest ++ more) = append_assoc (record_of table t) (records next rest) more in
    let first : first_token (table_after next rest ++ others) ((record_of table t ++ records next rest) ++ more) ≡ t =
    rw (whole, bytes) (first_token-record table (added next rest ++ others) t (records next rest ++ more)) in
    let others_back : tokens_in (length rest) (table_after next rest ++ others) (drop (first_size ((record_of table t ++ records next rest) ++ more)) ((record_of table t ++ records next rest) ++ more)) ≡ rest =
    rw (bytes, past-record table t (records next rest ++ more)) (tokens_in-records next others rest more) in
    ap (λ x. x ∷ tokens_in (length rest) (table_after next rest ++ others) (drop (first_size ((record_of table t ++ records next rest) ++ more)) ((record_of table t ++ records next rest) ++ more))) first
    ∙ ap (λ l. t ∷ l) others_back

pub tokens_back : (ts : List TokenTree) → tokens_in (length ts) (table_after [] ts) (records [] ts) ≡ ts
tokens_back ts =
    ap (λ l. tokens_in (length ts) l (records [] ts)) (sym (append-nil (table_after [] ts)))
    ∙ ap (tokens_in (length ts) (table_after [] ts ++ [])) (sym (append-nil (records [] ts))) ∙ tokens_in-records [] [] ts []
