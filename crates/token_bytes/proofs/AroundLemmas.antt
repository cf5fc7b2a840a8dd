-- Where a list begins, as it is looked for.
use Rattle.std.proofs.Common.{◌≡◌, ℕ, ◌≤◌, List, Option, Some, None}
use Rattle.std.specs.Prelude.{MatchOption}
use Rattle.tt_data.specs.declared.tree.TokenTree.{TokenTree}
use Rattle.token_bytes.specs.Lists.{IsTreeOf}
use Rattle.token_bytes.specs.Marks.{IsPlaceIn}
use Rattle.token_bytes.specs.declared.mark.Place.{Place}

-- the list begins at what was found, if it begins after `from` and no later than `at`
abbrev pub IsFound : List TokenTree → ℕ → ℕ → ℕ → Option Place → Type 0
IsFound ts head from at found = MatchOption found
    ((start : ℕ) → IsTreeOf ts head start → start ≤ at → start ≤ from)
    (λ p. IsPlaceIn p ts × ((start : ℕ) → IsTreeOf ts head start → start ≤ at → p.count ≡ start))

pub found_on : (ts : List TokenTree) (head from at next : ℕ) (found : Option Place)
    → ((start : ℕ) → IsTreeOf ts head start → start ≤ next → start ≤ at) → IsFound ts head from at found → IsFound ts head from next found
found_on ts head from at next None back old = λ start tree le. old start tree (back start tree le)
found_on ts head from at next (Some p) back old = (old.0, λ start tree le. old.1 start tree (back start tree le))
