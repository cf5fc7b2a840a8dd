-- What is true of the bytes at which each 64th record begins.
use Rattle.std.specs.Prelude.{◌≡◌, ℕ, ◌+◌, ◌≤◌, ⊤, List, [], ◌∷◌, length, take}
use Rattle.tt_data.specs.declared.tree.TokenTree.{TokenTree}
use Rattle.token_bytes.specs.Marks.{records_size}

-- they are those after n tokens, after 64 more, and so on
abbrev pub AreStarts : ℕ → List ℕ → List TokenTree → Type 0
AreStarts n [] ts = ⊤
AreStarts n (byte ∷ more) ts =
    (n ≤ length ts) × (byte ≡ records_size (take n ts)) × AreStarts (n + 64) more ts
