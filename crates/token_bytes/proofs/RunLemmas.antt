-- Runs of records: their parts, and those of a packed list.
use Rattle.std.proofs.Common.{◌≡◌, ◌∙◌, ap, subst, sym, ℕ, zero, suc, ◌+◌, ◌-◌, ◌≤◌, List, [], ◌∷◌, ◌++◌, length, take, drop, refl, arith, append_assoc, append-nil}
use Rattle.std.specs.Prelude.{All}
use Rattle.std.proofs.lemmas.List.Elements.{All-head, All-tail}
use Rattle.tt_data.specs.declared.tree.TokenTree.{TokenTree}
use Rattle.token_bytes.specs.Records.{first_size, first_token, text_of}
use Rattle.token_bytes.specs.Packing.{record_of, records, table_after, tokens_in, with_token}
use Rattle.token_bytes.specs.Packed.{ArePacked, IsToken}
use Rattle.token_bytes.specs.Runs.{AreDecoded, past}
use Rattle.token_bytes.proofs.PackingLemmas.{added, past-record, table_after-added}
use Rattle.token_bytes.proofs.MarkLemmas.{length-tokens_in}
use Rattle.token_bytes.proofs.ReadingLemmas.{begins-record}

-- the first tokens of a run
pub decoded_first : (k m n : ℕ) (table : List (List ℕ)) (bytes : List ℕ) → n ≡ k + m → AreDecoded n table bytes → AreDecoded k table bytes
decoded_first zero m n table bytes e decoded = tt
decoded_first (suc k) m zero table bytes e decoded = absurd (omega (arith, e))
decoded_first (suc k) m (suc n) table bytes e decoded = (decoded.0, decoded_first k m n table (drop (first_size bytes) bytes) (omega (arith, e)) decoded.1)

pub tokens_first : (k m n : ℕ) (table : List (List ℕ)) (bytes : List ℕ) → n ≡ k + m → tokens_in k table bytes ≡ take k (tokens_in n table bytes)
tokens_first zero m n table bytes e = refl
tokens_first (suc k) m zero table bytes e = absurd (omega (arith, e))
tokens_first (suc k) m (suc n) table bytes e =
    ap (λ l. first_token table bytes ∷ l) (tokens_first k m n table (drop (first_size bytes) bytes) (omega (arith, e)))

-- and those after them
pub decoded_past : (k m n : ℕ) (table : List (List ℕ)) (bytes : List ℕ) → n ≡ k + m → AreDecoded n table bytes → AreDecoded m table (past k bytes)
decoded_past zero m n table bytes e decoded = subst (λ i. AreDecoded i table bytes) (let same : n ≡ m = omega (arith, e) in same) decoded
decoded_past (suc k) m zero table bytes e decoded = absurd (omega (arith, e))
decoded_past (suc k) m (suc n) table bytes e decoded = decoded_past k m n table (drop (first_size bytes) bytes) (omega (arith, e)) decoded.1

pub tokens_past : (k m n : ℕ) (table : List (List ℕ)) (bytes : List ℕ) → n ≡ k + m → tokens_in m table (past k bytes) ≡ drop k (tokens_in n table bytes)
tokens_past zero m n table bytes e = ap (λ i. tokens_in i table bytes) (let same : m ≡ n = omega (arith, e) in same)
tokens_past (suc k) m zero table bytes e = absurd (omega (arith, e))
tokens_past (suc k) m (suc n) table bytes e = tokens_past k m n table (drop (first_size bytes) bytes) (omega (arith, e))

-- the records of a list tell its tokens, whatever follows them and their table
decoded_records : (table others : List (List ℕ)) (ts : List TokenTree) (more : List ℕ) → All IsToken ts
    → AreDecoded (length ts) (table_after table ts ++ others) (records table ts ++ more)
decoded_records table others [] more are = tt
decoded_records table others (t ∷ rest) more are =
    let next : List (List ℕ) = with_token (text_of t) table in
    let whole : table_after next rest ++ others ≡ next ++ (added next rest ++ others) =
    ap (λ l. l ++ others) (table_after-added next rest) ∙ append_assoc next (added next rest) others in
    let bytes : (record_of table t ++ records next rest) ++ more ≡ record_of table t ++ (records next rest ++ more) =
    append_assoc (record_of table t) (records next rest) more in (
      rw (whole, bytes) (begins-record table (added next rest ++ others) t (records next rest ++ more) (All-head IsToken t rest are)),
      rw (bytes, past-record table t (records next rest ++ more)) (decoded_records next others rest more (All-tail IsToken t rest are)),
    )

pub decoded_packed : (ts : List TokenTree) (bytes : List ℕ) (table : List (List ℕ)) → ArePacked ts bytes table → AreDecoded (length ts) table bytes
decoded_packed ts bytes table packed =
    rw (packed.bytes_are, packed.table_is)
    (subst (λ l. AreDecoded (length ts) l (records [] ts)) (append-nil (table_after [] ts))
    (subst (λ b. AreDecoded (length ts) (table_after [] ts ++ []) b) (append-nil (records [] ts)) (decoded_records [] [] ts [] packed.tokens)))

-- a run cut after some tokens
pub record Cut (n k : ℕ) (table : List (List ℕ)) (bytes : List ℕ) (ts : List TokenTree) : Type 0 where
  pub fits : k ≤ n
  pub front_decoded : AreDecoded k table bytes
  pub front_is : tokens_in k table bytes ≡ take k ts
  pub back_decoded : AreDecoded (n - k) table (past k bytes)
  pub back_is : tokens_in (n - k) table (past k bytes) ≡ drop k ts

pub cut : (n k : ℕ) (table : List (List ℕ)) (bytes : List ℕ) (ts : List TokenTree) → AreDecoded n table bytes → tokens_in n table bytes ≡ ts
    → k ≤ length ts → Cut n k table bytes ts
cut n k table bytes ts decoded shown within =
    let counted : length ts ≡ n = ap length (sym shown) ∙ length-tokens_in n table bytes in
    let parts : n ≡ k + (n - k) = omega (arith, counted, within) in
    record {
      fits = omega (arith, counted, within);
      front_decoded = decoded_first k (n - k) n table bytes parts decoded;
      front_is = tokens_first k (n - k) n table bytes parts ∙ ap (take k) shown;
      back_decoded = decoded_past k (n - k) n table bytes parts decoded;
      back_is = tokens_past k (n - k) n table bytes parts ∙ ap (drop k) shown;
    }
