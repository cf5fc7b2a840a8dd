-- What is read of a run.
use Rattle.std.proofs.Common.{◌≡◌, ℕ, zero, suc, ◌<◌, List, [], ◌∷◌, length, refl, arith, slice_index_or}
use Rattle.tt_data.specs.declared.tree.TokenTree.{TokenTree}
use Rattle.token_bytes.specs.TokenLists.{as_head, head_at}

-- the token at a place, as it is read there
pub record ReadAt (tokens : List TokenTree) (i : ℕ) (t : TokenTree) : Type 0 where
  pub read : t ≡ slice_index_or tokens i t
  pub head : head_at tokens i ≡ as_head t

pub read_at : (tokens : List TokenTree) (i : ℕ) → i < length tokens → (t : TokenTree) × ReadAt tokens i t
read_at [] i lt = absurd (omega (arith, lt))
read_at (x ∷ xs) zero lt = (x, record { read = refl; head = refl })
read_at (x ∷ xs) (suc i) lt =
    let r : (t : TokenTree) × ReadAt xs i t = read_at xs i (omega (arith, lt)) in
    (r.0, record { read = r.1.read; head = r.1.head })
